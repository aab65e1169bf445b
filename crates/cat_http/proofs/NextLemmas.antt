-- From the spans of a head to the request of the stream.
use Rattle.std.proofs.Common.{arith, ◌≡◌, ℕ, ◌+◌, ◌-◌, ◌<◌, ◌≤◌, List, [], ◌∷◌, ◌++◌, length, take, drop, map, sym, ap, ◌∙◌, refl, append_assoc, length-append, length-take, length-drop, suc, subst, inr}
use Rattle.std.specs.Prelude.{Option, Some, None, All, slice_range}
use Rattle.std.proofs.lemmas.List.{take-append-drop, length-take-le, drop-append-le, take-take, length-map, append-nil}
use Rattle.std.proofs.lemmas.List.Folds.{drop_split}
use Rattle.std.proofs.lemmas.Slice.{between_is}
use Rattle.std.specs.Io.KnownBytes.{IsAtEnd}
use Rattle.httparse.specs.Grammar.{print_request}
use Rattle.httparse.specs.Spans.{IsHeaderWithin, span_bytes, header_bytes, name_and_value, IsRequestAt, IsRequestWithin}
use Rattle.httparse.specs.declared.spans.HeaderSpan.{HeaderSpan}
use Rattle.httparse.specs.declared.spans.RequestSpans.{RequestSpans}
use Rattle.httparse.proofs.GrammarLemmas.{ReadsRequest-append}
use Rattle.cat_http.proofs.StreamLemmas.{range_same}
use Rattle.cat_http.proofs.OneWay.{kind_one, request_malformed, malformed_large}
use Rattle.cat_http.specs.Message.{message_at}
use Rattle.cat_http.specs.Fields.{body_length}
use Rattle.cat_http.specs.Next.{fields_of, IsHead, IsRequest, HoldsRequest, IsTooLarge, IsCut, IsMalformed, HasNoHead, IsBody, IsBadBody, IsLargeBody}
use Rattle.cat_http.specs.Chunked.{ReadsChunked, IsChunkedBody, IsLargeChunked, IsBadChunked}
use Rattle.cat_http.specs.ChunkedRead.{AnswerOf, HoldsChunks}
use Rattle.cat_http.specs.Streams.{KeepsStream}
use Rattle.cat_http.specs.declared.fields.BodyLength.{BodyLength}
use Rattle.cat_http.specs.declared.chunked.ChunkedRead.TheVariants as read
use Rattle.cat_http.specs.Head.{FoundHead, HoldsHead}
use Rattle.cat_http.specs.Outcome.{OutcomeOf, OutcomeIs}
use Rattle.cat_http.specs.declared.fields.BodyLength.TheVariants as size
use Rattle.cat_http.specs.declared.next.Outcome.{Outcome}
use Rattle.cat_http.specs.declared.next.Outcome.TheVariants as outcome

fields_same : (xs ys : List ℕ) (m : ℕ) (hs : List HeaderSpan) → take m xs ≡ take m ys → All (IsHeaderWithin m) hs
    → map (header_bytes xs) hs ≡ map (header_bytes ys) hs
fields_same xs ys m [] same all = refl
fields_same xs ys m (h ∷ hs) same all =
    let here = all 0 h (omega arith) in
    let name : span_bytes xs h.name ≡ span_bytes ys h.name = range_same xs ys m h.name.start h.name.end same here.0.1 in
    let value : span_bytes xs h.value ≡ span_bytes ys h.value = range_same xs ys m h.value.start h.value.end same here.1.1 in
    let rest : map (header_bytes xs) hs ≡ map (header_bytes ys) hs = fields_same xs ys m hs same (λ k d p. all (suc k) d (omega arith)) in
    cc

-- a head that was found is found in more bytes
pub found_grows : (a b : List ℕ) (hs : List HeaderSpan) (r : RequestSpans) → take (length a) b ≡ a → FoundHead a hs r → FoundHead b hs r
found_grows a b hs r same f =
    let within : f.n ≤ length a = f.within in
    let len : length (take (length a) b) ≡ length a = ap length same in
    let front : take f.n b ≡ take f.n a = sym (take-take f.n (length a) b within) ∙ ap (take f.n) same in
    record {
      n = f.n;
      within = omega (arith, length-take (length a) b);
      short = f.short;
      head = f.head;
      is = subst (λ xs. IsRequestAt xs hs r f.head) (sym front) f.is;
    }

module _ (seen : List ℕ) (hs : List HeaderSpan) (r : RequestSpans) (f : FoundHead seen hs r) (slots : length hs ≤ 64) where
  front_len : length (take f.n seen) ≡ f.n
  front_len = length-take-le f.n seen f.within

  head_len : r.len ≤ f.n
  head_len =
      let all : length (take f.n seen) ≡ length (print_request f.head) + length (drop r.len (take f.n seen)) =
      ap length f.is.reads.1 ∙ length-append (print_request f.head) (drop r.len (take f.n seen)) in
      omega (arith, front_len, f.is.len)

  pub head_short : r.len ≤ 16384
  head_short = omega (arith, head_len, f.short)

  -- the fields of the head are those that the spans show
  pub head_fields : IsRequestWithin seen hs r → map (header_bytes seen) (take r.headers hs) ≡ fields_of f.head
  head_fields fits =
      fields_same seen (take f.n seen) r.len (take r.headers hs) (sym (take-take r.len f.n seen head_len)) fits.section.headers_fit ∙ f.is.fields

  -- the stream begins with the head
  pub head_is : (more : List ℕ) → IsHead (seen ++ more) f.head (drop r.len seen ++ more)
  head_is more =
      let front = take f.n seen in
      let back = drop f.n seen ++ more in
      let whole : front ++ back ≡ seen ++ more = sym (append_assoc front (drop f.n seen) more) ∙ ap (λ xs. xs ++ more) (take-append-drop f.n seen) in
      let after : drop r.len front ++ back ≡ drop r.len seen ++ more =
      sym (append_assoc (drop r.len front) (drop f.n seen) more)
      ∙ ap (λ xs. xs ++ more) (sym (drop-append-le r.len front (drop f.n seen) (omega (arith, front_len, head_len))) ∙ ap (drop r.len) (take-append-drop f.n seen)) in
      let reads = ReadsRequest-append front f.head (drop r.len front) back f.is.reads in
      record {
        reads = (reads.0, sym whole ∙ reads.1 ∙ ap (λ xs. print_request f.head ++ xs) after);
        short = omega (arith, head_short, f.is.len);
        few = omega (arith, ap length f.is.fields, length-map f.head.fields name_and_value, length-map (take r.headers hs) (header_bytes (take f.n seen)), length-take r.headers hs);
      }

  -- the kind of the body
  kind_is : IsRequestWithin seen hs r → (kind : BodyLength) → kind ≡ body_length (map (header_bytes seen) (take r.headers hs)) → kind ≡ body_length (fields_of f.head)
  kind_is fits kind says = says ∙ ap body_length (head_fields fits)

  pub bad_body : IsRequestWithin seen hs r → (kind : BodyLength) → kind ≡ body_length (map (header_bytes seen) (take r.headers hs)) → (more : List ℕ) → IsBadBody kind (drop r.len seen ++ more) → IsMalformed (seen ++ more)
  bad_body fits kind says more bad =
      inr (f.head, drop r.len seen ++ more, head_is more, subst (λ k. IsBadBody k (drop r.len seen ++ more)) (kind_is fits kind says) bad)

  pub large_body : IsRequestWithin seen hs r → (kind : BodyLength) → kind ≡ body_length (map (header_bytes seen) (take r.headers hs)) → (more : List ℕ) → IsLargeBody kind (drop r.len seen ++ more) → IsTooLarge (seen ++ more)
  large_body fits kind says more large =
      (f.head, drop r.len seen ++ more, head_is more, subst (λ k. IsLargeBody k (drop r.len seen ++ more)) (kind_is fits kind says) large)

  -- where a request was there, its body was behind the head
  body_held : IsRequestWithin seen hs r → (kind : BodyLength) → kind ≡ body_length (map (header_bytes seen) (take r.headers hs)) → HoldsRequest seen
      → (body : List ℕ) × (rest : List ℕ) × IsBody kind (drop r.len seen) body rest
  body_held fits kind says (m, rest, is) =
      let after = drop r.len seen in
      let here : IsHead seen f.head after =
      subst (IsHead seen f.head) (append-nil after) (subst (λ s. IsHead s f.head (after ++ [])) (append-nil seen) (head_is [])) in (
        m.body,
        rest,
        subst (λ k. IsBody k after m.body rest) (sym (kind_is fits kind says))
            (kind_one (λ k t. IsBody k t m.body rest) seen f.head is.head after is.after here is.reads is.body),
      )

-- a request begins with its head
pub head_held : (bytes : List ℕ) → HoldsRequest bytes → HoldsHead bytes
head_held bytes (m, rest, is) = (is.head, is.after, is.reads)

-- a read failed before there was a head
pub answer_cut_head : (old new : Option (List ℕ)) (given b : List ℕ) (hs : List HeaderSpan) (e : ℕ) → KeepsStream old new given (take e b) → HasNoHead (take e b)
    → OutcomeOf outcome.Fault old new given b hs e
answer_cut_head None new given b hs e stream none = tt
answer_cut_head (Some xs) None given b hs e stream none = stream
answer_cut_head (Some xs) (Some ys) given b hs e stream none = record {
  came = take e b;
  split = stream;
  not_whole = λ held. none held.2.head held.2.after held.2.reads;
  not_large = λ large. none large.0 large.1 large.2;
}

-- nothing was read
pub answer_no_room : (left : Option (List ℕ)) (b : List ℕ) (hs : List HeaderSpan) (e : ℕ) → OutcomeOf outcome.NoRoom left left (take e b) b hs e
answer_no_room None b hs e = tt
answer_no_room (Some m) b hs e = refl

-- where there was no room, what was read is kept
pub kept_stream : (old new : Option (List ℕ)) (given b : List ℕ) (hs : List HeaderSpan) (e : ℕ) → OutcomeOf outcome.NoRoom old new given b hs e
    → KeepsStream old new given (take e b)
kept_stream None new given b hs e is = tt
kept_stream (Some xs) None given b hs e is = is
kept_stream (Some xs) (Some ys) given b hs e is = is

-- what a body behind the head comes to is what the stream comes to
pub outcome_behind : (o : Outcome) (old mid new : Option (List ℕ)) (given seen b : List ℕ) (hs : List HeaderSpan) (e : ℕ) → KeepsStream old mid given seen
    → OutcomeOf o mid new seen b hs e → OutcomeOf o old new given b hs e
outcome_behind o None mid new given seen b hs e before is = tt
outcome_behind o (Some xs) None new given seen b hs e before is = absurd before
outcome_behind o (Some xs) (Some m) None given seen b hs e before is = is
outcome_behind o (Some xs) (Some m) (Some ys) given seen b hs e before is = subst (λ s. OutcomeIs o b hs e s ys) (sym before) is

-- the head was read up to e
module _ (b : List ℕ) (e : ℕ) (hs : List HeaderSpan) (r : RequestSpans) (f : FoundHead (take e b) hs r) (slots : length hs ≤ 64) (fits : IsRequestWithin (take e b) hs r)
    (kind : BodyLength) (says : kind ≡ body_length (map (header_bytes (take e b)) (take r.headers hs))) where
  -- all of a body with a length was there
  pub counted_held : (count : ℕ) → kind ≡ size.Bytes count → e ≤ length b → HoldsRequest (take e b) → r.len + count ≤ e
  counted_held count is had held =
      let x = body_held (take e b) hs r f slots fits kind says held in
      let body : IsBody (size.Bytes count) (drop r.len (take e b)) x.0 x.1 = subst (λ k. IsBody k (drop r.len (take e b)) x.0 x.1) is x.2 in
      omega (arith, head_len (take e b) hs r f slots, f.within, length-take-le e b had, length-drop r.len (take e b), ap length body.1, length-append x.0 x.1, body.0)

  -- all of a body in chunks was there
  pub chunked_held : kind ≡ size.Chunked → HoldsRequest (take e b) → HoldsChunks (slice_range b r.len e)
  chunked_held is held =
      let x = body_held (take e b) hs r f slots fits kind says held in
      let body : IsChunkedBody (drop r.len (take e b)) x.0 x.1 = subst (λ k. IsBody k (drop r.len (take e b)) x.0 x.1) is x.2 in
      (x.0, x.1, subst (λ s. ReadsChunked s x.0 x.1) (sym (between_is b r.len e)) body.reads)

  -- the head alone tells
  pub answer_malformed : (left : Option (List ℕ)) → kind ≡ size.Malformed → OutcomeOf outcome.Malformed left left (take e b) b hs e
  answer_malformed None is = tt
  answer_malformed (Some m) is = bad_body (take e b) hs r f slots fits kind says m (subst (λ k. IsBadBody k (drop r.len (take e b) ++ m)) (sym is) tt)

  pub answer_large : (left : Option (List ℕ)) → kind ≡ size.Excess → OutcomeOf outcome.TooLarge left left (take e b) b hs e
  answer_large None is = tt
  answer_large (Some m) is = large_body (take e b) hs r f slots fits kind says m (subst (λ k. IsLargeBody k (drop r.len (take e b) ++ m)) (sym is) tt)

  -- what came behind it is no whole body
  cut_behind : (m came ys : List ℕ) → drop r.len (take e b) ++ m ≡ came ++ ys → IsBadBody kind came → IsCut (take e b ++ m) ys
  cut_behind m came ys stream bad =
      let front = print_request f.head in
      let here = head_is (take e b) hs r f slots m in
      let is : IsHead (front ++ came) f.head came = record { reads = (here.reads.0, refl); short = here.short; few = here.few } in
      let malformed : IsMalformed (front ++ came) =
      inr (f.head, came, is, subst (λ k. IsBadBody k came) (kind_is (take e b) hs r f slots fits kind says) bad) in
      record {
        came = front ++ came;
        split = here.reads.1 ∙ ap (λ s. front ++ s) stream ∙ sym (append_assoc front came ys);
        not_whole = λ held. request_malformed (front ++ came) held.0 held.1 held.2 malformed;
        not_large = λ large. malformed_large (front ++ came) malformed large;
      }

  -- more was read behind it, and the head was left
  module _ (b' : List ℕ) (e' : ℕ) (had : e ≤ length b) (front : take r.len b' ≡ take r.len b) where
    seen_len : length (take e b) ≡ e
    seen_len = length-take-le e b had

    head_in : r.len ≤ f.n
    head_in = head_len (take e b) hs r f slots

    len_in : r.len ≤ e
    len_in = omega (arith, head_in, f.within, seen_len)

    front_same : take r.len b' ≡ take r.len (take f.n (take e b))
    front_same = front ∙ sym (take-take r.len e b len_in) ∙ sym (take-take r.len f.n (take e b) head_in)

    -- a request whose body is known
    request_of : (m body rest : List ℕ) (stop : ℕ) → slice_range b' r.len stop ≡ body → IsBody kind (drop r.len (take e b) ++ m) body rest
        → IsRequest (take e b ++ m) (message_at b' hs r stop) rest
    request_of m body rest stop same is = record {
      head = f.head;
      after = drop r.len (take e b) ++ m;
      reads = head_is (take e b) hs r f slots m;
      method = range_same b' (take f.n (take e b)) r.len r.method.start r.method.end front_same fits.method.1 ∙ f.is.method;
      target = range_same b' (take f.n (take e b)) r.len r.path.start r.path.end front_same fits.path.1 ∙ f.is.path;
      minor = f.is.version;
      fields =
          fields_same b' (take e b) r.len (take r.headers hs) (front ∙ sym (take-take r.len e b len_in)) fits.section.headers_fit
          ∙ head_fields (take e b) hs r f slots fits;
      body =
          subst (λ k. IsBody k (drop r.len (take e b) ++ m) (slice_range b' r.len stop) rest) (kind_is (take e b) hs r f slots fits kind says)
          (subst (λ s. IsBody kind (drop r.len (take e b) ++ m) s rest) (sym same) is);
    }

    module _ (grows : e ≤ e') (has : e' ≤ length b') (count : ℕ) (is : kind ≡ size.Bytes count) where
      after_is : (m ys : List ℕ) → take e b ++ m ≡ take e' b' ++ ys → drop r.len (take e b) ++ m ≡ drop r.len (take e' b') ++ ys
      after_is m ys stream =
          sym (drop-append-le r.len (take e b) m (omega (arith, seen_len, len_in))) ∙ ap (drop r.len) stream
          ∙ drop-append-le r.len (take e' b') ys (omega (arith, length-take-le e' b' has, len_in))

      pub answer_request : (mid new : Option (List ℕ)) → KeepsStream mid new (take e b) (take e' b') → r.len + count ≤ e'
          → OutcomeOf (outcome.Request r (r.len + count) (r.len + count)) mid new (take e b) b' hs e'
      answer_request None new stream all_read = tt
      answer_request (Some m) None stream all_read = stream
      answer_request (Some m) (Some ys) stream all_read =
          let stop = r.len + count in
          let body = slice_range b' r.len stop in
          let rest = slice_range b' stop e' ++ ys in
          let len : length body ≡ count = omega (arith, length-take-le (stop - r.len) (drop r.len b') (omega (arith, length-drop r.len b'))) in
          let body_same : slice_range (take e' b') r.len stop ≡ body = range_same (take e' b') b' e' r.len stop (take-take e' e' b' (omega arith)) all_read in
          let split : drop r.len (take e b) ++ m ≡ body ++ rest =
          after_is m ys stream
          ∙ ap (λ s. s ++ ys) (drop_split (take e' b') r.len stop (omega arith) ∙ ap (λ s. s ++ drop stop (take e' b')) body_same ∙ ap (λ s. body ++ s) (sym (between_is b' stop e')))
          ∙ append_assoc body (slice_range b' stop e') ys in
          request_of m body rest stop refl (subst (λ k. IsBody k (drop r.len (take e b) ++ m) body rest) (sym is) (len, split))

      pub answer_short : (mid new : Option (List ℕ)) → KeepsStream mid new (take e b) (take e' b') → IsAtEnd new → e' < r.len + count
          → OutcomeOf outcome.Malformed mid new (take e b) b' hs e'
      answer_short None new stream at short = tt
      answer_short (Some m) None stream at short = stream
      answer_short (Some m) (Some ys) stream at short =
          let few : length (drop r.len (take e b) ++ m) < count =
          omega (arith, ap length (after_is m ys stream), length-append (drop r.len (take e' b')) ys, length-drop r.len (take e' b'), length-take-le e' b' has, ap length at, len_in) in
          bad_body (take e b) hs r f slots fits kind says m (subst (λ k. IsBadBody k (drop r.len (take e b) ++ m)) (sym is) few)

      pub answer_cut : (mid new : Option (List ℕ)) → KeepsStream mid new (take e b) (take e' b') → e' < r.len + count
          → OutcomeOf outcome.Fault mid new (take e b) b' hs e'
      answer_cut None new stream short = tt
      answer_cut (Some m) None stream short = stream
      answer_cut (Some m) (Some ys) stream short =
          let came = drop r.len (take e' b') in
          let few : length came < count = omega (arith, length-drop r.len (take e' b'), length-take-le e' b' has, len_in) in
          cut_behind m came ys (after_is m ys stream) (subst (λ k. IsBadBody k came) (sym is) few)

    module _ (is : kind ≡ size.Chunked) where
      -- the chunks begin behind the head
      chunks_at : (m : List ℕ) → slice_range b r.len e ++ m ≡ drop r.len (take e b) ++ m
      chunks_at m = ap (λ s. s ++ m) (between_is b r.len e)

      pub answer_whole : (mid new : Option (List ℕ)) (kept at : ℕ) → AnswerOf (read.Whole kept at) mid new (slice_range b r.len e) b' r.len e'
          → OutcomeOf (outcome.Request r (r.len + kept) at) mid new (take e b) b' hs e'
      answer_whole None new kept at answer = tt
      answer_whole (Some m) None kept at answer = answer
      answer_whole (Some m) (Some ys) kept at answer =
          let body = slice_range b' r.len (r.len + kept) in
          let rest = slice_range b' at e' ++ ys in
          let decodes : IsChunkedBody (drop r.len (take e b) ++ m) body rest = subst (λ s. IsChunkedBody s body rest) (chunks_at m) answer in
          request_of m body rest (r.len + kept) refl (subst (λ k. IsBody k (drop r.len (take e b) ++ m) body rest) (sym is) decodes)

      pub answer_bad_chunks : (mid new : Option (List ℕ)) → AnswerOf read.Malformed mid new (slice_range b r.len e) b' r.len e'
          → OutcomeOf outcome.Malformed mid new (take e b) b' hs e'
      answer_bad_chunks None new answer = tt
      answer_bad_chunks (Some m) None answer = answer
      answer_bad_chunks (Some m) (Some ys) answer =
          bad_body (take e b) hs r f slots fits kind says m (subst (λ k. IsBadBody k (drop r.len (take e b) ++ m)) (sym is) (subst IsBadChunked (chunks_at m) answer))

      pub answer_large_chunks : (mid new : Option (List ℕ)) → AnswerOf read.TooLarge mid new (slice_range b r.len e) b' r.len e'
          → OutcomeOf outcome.TooLarge mid new (take e b) b' hs e'
      answer_large_chunks None new answer = tt
      answer_large_chunks (Some m) None answer = answer
      answer_large_chunks (Some m) (Some ys) answer =
          large_body (take e b) hs r f slots fits kind says m (subst (λ k. IsLargeBody k (drop r.len (take e b) ++ m)) (sym is) (subst IsLargeChunked (chunks_at m) answer))

      pub answer_cut_chunks : (mid new : Option (List ℕ)) → AnswerOf read.Fault mid new (slice_range b r.len e) b' r.len e'
          → OutcomeOf outcome.Fault mid new (take e b) b' hs e'
      answer_cut_chunks None new answer = tt
      answer_cut_chunks (Some m) None answer = answer
      answer_cut_chunks (Some m) (Some ys) answer =
          cut_behind m answer.came ys (sym (chunks_at m) ∙ answer.split) (subst (λ k. IsBadBody k answer.came) (sym is) answer.bad)

-- a request within the first bytes is the same there
pub message_front : (bytes : List ℕ) (hs : List HeaderSpan) (r : RequestSpans) (stop : ℕ) → stop ≤ length bytes → IsRequestWithin (take stop bytes) hs r
    → message_at (take stop bytes) hs r (length (take stop bytes)) ≡ message_at bytes hs r stop
message_front bytes hs r stop has fits =
    let len : length (take stop bytes) ≡ stop = length-take-le stop bytes has in
    let within : r.len ≤ stop = omega (arith, fits.section.len_fits) in
    let front : take stop (take stop bytes) ≡ take stop bytes = take-take stop stop bytes (omega arith) in
    let method : span_bytes (take stop bytes) r.method ≡ span_bytes bytes r.method =
    range_same (take stop bytes) bytes stop r.method.start r.method.end front (omega (arith, fits.method.1)) in
    let target : span_bytes (take stop bytes) r.path ≡ span_bytes bytes r.path =
    range_same (take stop bytes) bytes stop r.path.start r.path.end front (omega (arith, fits.path.1)) in
    let fields : map (header_bytes (take stop bytes)) (take r.headers hs) ≡ map (header_bytes bytes) (take r.headers hs) =
    fields_same (take stop bytes) bytes r.len (take r.headers hs) (take-take r.len stop bytes within) fits.section.headers_fit in
    let body : slice_range (take stop bytes) r.len (length (take stop bytes)) ≡ slice_range bytes r.len stop =
    ap (slice_range (take stop bytes) r.len) len ∙ range_same (take stop bytes) bytes stop r.len stop front (omega arith) in
    cc

-- a head is within what was read
pub len_within : (b : List ℕ) (e : ℕ) (hs : List HeaderSpan) (r : RequestSpans) → IsRequestWithin (take e b) hs r → r.len ≤ e
len_within b e hs r fits = omega (arith, fits.section.len_fits, length-take e b)

-- a shorter front stays too
pub front_short : (b b' : List ℕ) (n e : ℕ) → n ≤ e → take e b' ≡ take e b → take n b' ≡ take n b
front_short b b' n e within same = sym (take-take n e b' within) ∙ ap (take n) same ∙ take-take n e b within
