-- From what the parser says of the bytes that were seen to the whole stream.
use Rattle.std.proofs.Common.{arith, ◌≡◌, ℕ, ◌+◌, ◌-◌, ◌<◌, ◌≤◌, List, [], ◌∷◌, ◌++◌, length, take, drop, sym, ap, ◌∙◌, refl, append_assoc, length-append, get_or, zero, suc, subst}
use Rattle.std.specs.Prelude.{Option, Some, None, IsAscii, IsTrue}
use Rattle.std.proofs.lemmas.List.{take-append-drop, length-take-le, take-append-le, append-nil, take-take}
use Rattle.std.proofs.lemmas.Str.{IsUtf8-from_ascii}
use Rattle.httparse.specs.Grammar.{LineEnd, lf, print_blank, RequestHead, print_request, ReadsRequest, IsRequestHead, HasNoRequest, is_token_byte, is_uri_byte}
use Rattle.httparse.specs.Spans.{RequestOverflows}
use Rattle.httparse.proofs.GrammarLemmas.{print_request-append, request_unique, ReadsRequest-append}
use Rattle.std.specs.Io.KnownBytes.{IsAtEnd}
use Rattle.cat_http.proofs.StreamLemmas.{take_past}
use Rattle.cat_http.specs.Blank.{IsBlank}
use Rattle.cat_http.specs.Next.{HasNoHead}
use Rattle.cat_http.specs.Head.{IsRefused}

-- where each head that may follow has too many fields, none is within the limits
pub refused_no_head : (seen more : List ℕ) → RequestOverflows 64 seen → HasNoHead (seen ++ more)
refused_no_head seen more none h rest is =
    let many : 64 < length h.fields = none more h rest is.reads in
    let few : length h.fields ≤ 64 = is.few in
    omega arith

-- a short request behind some empty lines
abbrev sample : List LineEnd → RequestHead
sample ends = record { blank = ends; method = 65 ∷ []; target = 97 ∷ []; minor = 1; line_end = lf; fields = []; last = lf }

pub one : (P : ℕ → Type 0) (x : ℕ) → P x → (k d : ℕ) → k < 1 → P (get_or (x ∷ []) k d)
one P x p zero d h = p
one P x p (suc k) d h = absurd (omega arith)

is_token_65 : IsTrue (is_token_byte 65)
unfolding is_token_byte
is_token_65 = refl

ascii_97 : IsAscii (97 ∷ [])
ascii_97 zero = omega arith
ascii_97 (suc i) = omega arith

sample_is_head : (ends : List LineEnd) → IsRequestHead (sample ends)
sample_is_head ends = record {
  method = (omega arith, one (λ b. IsTrue (is_token_byte b)) 65 is_token_65);
  target = (omega arith, one (λ b. IsTrue (is_uri_byte b)) 97 refl);
  target_text = IsUtf8-from_ascii (97 ∷ []) ascii_97;
  minor = omega arith;
  fields = λ k d h. absurd (omega arith);
}

-- what follows some empty lines makes them a request
sample_reads : (seen more : List ℕ) (ends : List LineEnd) → seen ++ more ≡ print_blank ends
    → (tail : List ℕ) × (seen ++ (more ++ tail) ≡ print_request (sample ends) ++ [])
sample_reads seen more ends e =
    let tail : List ℕ = 65 ∷ 32 ∷ 97 ∷ 32 ∷ 72 ∷ 84 ∷ 84 ∷ 80 ∷ 47 ∷ 49 ∷ 46 ∷ 49 ∷ 10 ∷ 10 ∷ [] in
    (tail, sym (append_assoc seen more tail) ∙ ap (λ xs. xs ++ tail) e ∙ sym (print_request-append (sample ends) []))

-- where each head that may follow has too many fields, there is something beside empty lines
pub refused_not_blank : (seen more : List ℕ) → RequestOverflows 64 seen → IsBlank (seen ++ more) → ⊥
refused_not_blank seen more none (ends, e) =
    let reads = sample_reads seen more ends e in
    let many : 64 < 0 = none (more ++ reads.0) (sample ends) [] (sample_is_head ends, reads.1) in
    omega arith

-- a front that is in the stream is in the bytes that were seen
pub front_seen : (seen more front rest : List ℕ) (n : ℕ) → n ≤ length seen → length front ≤ n → seen ++ more ≡ front ++ rest
    → take n seen ≡ front ++ take (n - length front) rest
front_seen seen more front rest n fits short is =
    let total : length seen + length more ≡ length front + length rest =
    sym (length-append seen more) ∙ ap length is ∙ length-append front rest in
    let sum : n ≡ length front + (n - length front) = omega arith in
    sym (take-append-le n seen more fits) ∙ ap (take n) is ∙ ap (λ k. take k (front ++ rest)) sum
    ∙ take_past front rest (length front) (n - length front) refl (omega arith)

-- a head of the whole stream stands in the bytes that were seen
pub partial_no_head : (seen more : List ℕ) (n : ℕ) → n ≤ length seen → 16384 ≤ n → HasNoRequest (take n seen) → HasNoHead (seen ++ more)
partial_no_head seen more n fits large none h rest is =
    let short : length (print_request h) ≤ 16384 = is.short in
    none h (take (n - length (print_request h)) rest)
    (is.reads.0, front_seen seen more (print_request h) rest n fits (omega arith) is.reads.1)

-- the same where nothing follows
pub partial_all_no_head : (seen : List ℕ) → HasNoRequest seen → HasNoHead seen
partial_all_no_head seen none h rest is = none h rest is.reads

pub refused : (bytes : List ℕ) (left : Option (List ℕ)) (room end n : ℕ) → room ≡ 64 → n ≤ end → RequestOverflows room (take n bytes) → IsRefused (take end bytes) left
refused bytes None room end n is within none = tt
refused bytes (Some left) room end n is within none =
    let seen = take n bytes in
    let past = drop n (take end bytes) ++ left in
    let none' : RequestOverflows 64 seen = λ more h rest reads. subst (λ r. r < length h.fields) is (none more h rest reads) in
    let whole : take end bytes ++ left ≡ seen ++ past =
    ap (λ xs. xs ++ left) (sym (take-append-drop n (take end bytes)) ∙ ap (λ xs. xs ++ drop n (take end bytes)) (take-take n end bytes within))
    ∙ append_assoc seen (drop n (take end bytes)) left in (
      subst HasNoHead (sym whole) (refused_no_head seen past none'),
      λ end. refused_not_blank seen past none' (subst IsBlank whole end.blank),
    )

-- more bytes than a head may have, and none is there
pub refused_long : (bytes : List ℕ) (left : Option (List ℕ)) (end n : ℕ) → n ≡ 16384 → n < end → end ≤ length bytes → HasNoRequest (take n bytes) → IsRefused (take end bytes) left
refused_long bytes None end n is long fits none = tt
refused_long bytes (Some left) end n is long fits none =
    let len : length (take end bytes) ≡ end = length-take-le end bytes fits in
    let seen : take n (take end bytes) ≡ take n bytes = take-take n end bytes (omega arith) in (
      partial_no_head (take end bytes) left n (omega arith) (omega arith) (subst HasNoRequest (sym seen) none),
      λ stop. let short : length (take end bytes ++ left) ≤ 16384 = stop.short in omega (arith, length-append (take end bytes) left),
    )

-- the end of the stream, with something there
pub refused_at_end : (bytes seen : List ℕ) (left : Option (List ℕ)) (end n : ℕ) → seen ≡ take n bytes → end ≡ n → IsAtEnd left → HasNoRequest (take n bytes) → (IsBlank (take end bytes) → ⊥) → IsRefused (take end bytes) left
refused_at_end bytes seen None end n is same at none some = tt
refused_at_end bytes seen (Some left) end n is same at none some =
    let whole : take end bytes ++ left ≡ take end bytes = ap (λ xs. take end bytes ++ xs) at ∙ append-nil (take end bytes) in
    let none' : HasNoRequest (take end bytes) = subst (λ k. HasNoRequest (take k bytes)) (sym same) none in
    (subst HasNoHead (sym whole) (partial_all_no_head (take end bytes) none'), λ stop. some (subst IsBlank whole stop.blank))

-- empty lines begin with no head
pub blank_no_head : (bytes : List ℕ) → IsBlank bytes → HasNoRequest bytes
blank_no_head bytes (ends, e) h rest reads =
    let tail : List ℕ = 65 ∷ 32 ∷ 97 ∷ 32 ∷ 72 ∷ 84 ∷ 84 ∷ 80 ∷ 47 ∷ 49 ∷ 46 ∷ 49 ∷ 10 ∷ 10 ∷ [] in
    let longer : ReadsRequest (bytes ++ tail) h (rest ++ tail) = ReadsRequest-append bytes h rest tail reads in
    let whole : bytes ++ tail ≡ print_request (sample ends) ++ [] = ap (λ xs. xs ++ tail) e ∙ sym (print_request-append (sample ends) []) in
    let same = request_unique (bytes ++ tail) h (sample ends) (rest ++ tail) [] longer (sample_is_head ends, whole) in
    omega (arith, ap length same.1, length-append rest tail)
