-- A stream goes on in one way.
use Rattle.std.proofs.Common.{arith, ◌≡◌, ℕ, List, ◌++◌, length, take, drop, sym, ap, ◌∙◌, refl, subst, length-append, inl, inr}
use Rattle.std.proofs.lemmas.List.{take_at, drop_at}
use Rattle.httparse.specs.Grammar.{RequestHead}
use Rattle.httparse.proofs.GrammarLemmas.{request_unique}
use Rattle.cat_http.specs.Message.{Message}
use Rattle.cat_http.specs.Fields.{body_length}
use Rattle.cat_http.specs.declared.fields.BodyLength.{BodyLength}
use Rattle.cat_http.specs.declared.fields.BodyLength.TheVariants.{Bytes, Chunked, Malformed, Excess}
use Rattle.cat_http.proofs.ChunkLemmas.{one_body, body_not_large}
use Rattle.cat_http.specs.Next.{fields_of, IsHead, IsRequest, IsEnd, IsMalformed, IsTooLarge, IsBody, IsBadBody, IsLargeBody}
use Rattle.cat_http.specs.Reading.{request, end, bad_head, too_large, HasOneReading}
use Rattle.cat_http.proofs.HeadLemmas.{blank_no_head}

head_one : (bytes : List ℕ) (h k : RequestHead) (r q : List ℕ) → IsHead bytes h r → IsHead bytes k q → (h ≡ k) × (r ≡ q)
head_one bytes h k r q x y = request_unique bytes h k r q x.reads y.reads

-- what one says of the kind of a body, the other says of it too
pub kind_one : (P : BodyLength → List ℕ → Type 0) (bytes : List ℕ) (h k : RequestHead) (r q : List ℕ) → IsHead bytes h r → IsHead bytes k q → P (body_length (fields_of k)) q → P (body_length (fields_of h)) r
kind_one P bytes h k r q x y is =
    let same = head_one bytes h k r q x y in
    subst (λ t. P (body_length (fields_of h)) t) (sym same.1) (subst (λ g. P (body_length (fields_of g)) q) (sym same.0) is)

body_one : (kind : BodyLength) (bytes b c r q : List ℕ) → IsBody kind bytes b r → IsBody kind bytes c q → (b ≡ c) × (r ≡ q)
body_one (Bytes n) bytes b c r q x y =
    let whole_same : b ++ r ≡ c ++ q = sym x.1 ∙ y.1 in
    (sym (take_at b r n x.0) ∙ ap (take n) whole_same ∙ take_at c q n y.0, sym (drop_at b r n x.0) ∙ ap (drop n) whole_same ∙ drop_at c q n y.0)
body_one Chunked bytes b c r q x y = one_body bytes b c r q x.reads y.reads
body_one Malformed bytes b c r q x y = absurd x
body_one Excess bytes b c r q x y = absurd x

body_bad : (kind : BodyLength) (bytes b r : List ℕ) → IsBody kind bytes b r → IsBadBody kind bytes → ⊥
body_bad (Bytes n) bytes b r x y = omega (arith, x.0, ap length x.1, length-append b r, y)
body_bad Chunked bytes b r x y = y.none b r x
body_bad Malformed bytes b r x y = x
body_bad Excess bytes b r x y = x

body_large : (kind : BodyLength) (bytes b r : List ℕ) → IsBody kind bytes b r → IsLargeBody kind bytes → ⊥
body_large (Bytes n) bytes b r x y = y
body_large Chunked bytes b r x y = body_not_large bytes b r x y
body_large Malformed bytes b r x y = y
body_large Excess bytes b r x y = x

bad_large : (kind : BodyLength) (bytes : List ℕ) → IsBadBody kind bytes → IsLargeBody kind bytes → ⊥
bad_large (Bytes n) bytes x y = y
bad_large Chunked bytes x y = x.not_large y
bad_large Malformed bytes x y = y
bad_large Excess bytes x y = x

end_no_head : (bytes : List ℕ) (h : RequestHead) (r : List ℕ) → IsEnd bytes → IsHead bytes h r → ⊥
end_no_head bytes h r e x = blank_no_head bytes e.blank h r x.reads

-- one request, and one rest
request_one : (bytes : List ℕ) (m n : Message) (r q : List ℕ) → IsRequest bytes m r → IsRequest bytes n q → (m ≡ n) × (r ≡ q)
request_one bytes m n r q x y =
    let same = head_one bytes x.head y.head x.after y.after x.reads y.reads in
    let parts = body_one (body_length (fields_of x.head)) x.after m.body n.body r q x.body
    (kind_one (λ k t. IsBody k t n.body q) bytes x.head y.head x.after y.after x.reads y.reads y.body) in
    let method : m.method ≡ n.method = x.method ∙ ap (λ h. h.method) same.0 ∙ sym y.method in
    let target : m.target ≡ n.target = x.target ∙ ap (λ h. h.target) same.0 ∙ sym y.target in
    let minor : m.minor ≡ n.minor = x.minor ∙ ap (λ h. h.minor) same.0 ∙ sym y.minor in
    let fields : m.fields ≡ n.fields = x.fields ∙ ap fields_of same.0 ∙ sym y.fields in
    (same_message m n method target minor fields parts.0, parts.1)
  where
    same_message : (m n : Message) → m.method ≡ n.method → m.target ≡ n.target → m.minor ≡ n.minor → m.fields ≡ n.fields → m.body ≡ n.body → m ≡ n
    same_message m n a b c d e = λ i. record { method = a i; target = b i; minor = c i; fields = d i; body = e i }

pub request_malformed : (bytes : List ℕ) (m : Message) (r : List ℕ) → IsRequest bytes m r → IsMalformed bytes → ⊥
request_malformed bytes m r x (inl y) = y.0 x.head x.after x.reads
request_malformed bytes m r x (inr (h, after, is, bad)) =
    body_bad (body_length (fields_of x.head)) x.after m.body r x.body (kind_one IsBadBody bytes x.head h x.after after x.reads is bad)

request_large : (bytes : List ℕ) (m : Message) (r : List ℕ) → IsRequest bytes m r → IsTooLarge bytes → ⊥
request_large bytes m r x (h, after, is, large) =
    body_large (body_length (fields_of x.head)) x.after m.body r x.body (kind_one IsLargeBody bytes x.head h x.after after x.reads is large)

end_malformed : (bytes : List ℕ) → IsEnd bytes → IsMalformed bytes → ⊥
end_malformed bytes e (inl y) = y.1 e
end_malformed bytes e (inr (h, after, is, bad)) = end_no_head bytes h after e is

end_large : (bytes : List ℕ) → IsEnd bytes → IsTooLarge bytes → ⊥
end_large bytes e (h, after, is, large) = end_no_head bytes h after e is

pub malformed_large : (bytes : List ℕ) → IsMalformed bytes → IsTooLarge bytes → ⊥
malformed_large bytes (inl y) (k, rest, is, large) = y.0 k rest is
malformed_large bytes (inr (h, after, x, bad)) (k, rest, is, large) =
    bad_large (body_length (fields_of h)) after bad (kind_one IsLargeBody bytes h k after rest x is large)

pub one_reading : HasOneReading
one_reading bytes (request m r) (request n q) x y = let same = request_one bytes m n r q x y in ap (λ k. request k r) same.0 ∙ ap (request n) same.1
one_reading bytes (request m r) end x y = absurd (end_no_head bytes x.head x.after y x.reads)
one_reading bytes (request m r) bad_head x y = absurd (request_malformed bytes m r x y)
one_reading bytes (request m r) too_large x y = absurd (request_large bytes m r x y)
one_reading bytes end (request m r) x y = absurd (end_no_head bytes y.head y.after x y.reads)
one_reading bytes end end x y = refl
one_reading bytes end bad_head x y = absurd (end_malformed bytes x y)
one_reading bytes end too_large x y = absurd (end_large bytes x y)
one_reading bytes bad_head (request m r) x y = absurd (request_malformed bytes m r y x)
one_reading bytes bad_head end x y = absurd (end_malformed bytes y x)
one_reading bytes bad_head bad_head x y = refl
one_reading bytes bad_head too_large x y = absurd (malformed_large bytes x y)
one_reading bytes too_large (request m r) x y = absurd (request_large bytes m r y x)
one_reading bytes too_large end x y = absurd (end_large bytes y x)
one_reading bytes too_large bad_head x y = absurd (malformed_large bytes y x)
one_reading bytes too_large too_large x y = refl
