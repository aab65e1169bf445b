-- From the bytes of a buffer to the stream, for a body in chunks.
use Rattle.std.proofs.Common.{arith, ◌≡◌, ◌≢◌, ℕ, ◌+◌, ◌-◌, ◌<◌, ◌≤◌, min, List, [], ◌∷◌, ◌++◌, length, take, drop, get_or, sym, ap, ◌∙◌, refl, subst, append_assoc, length-append, length-drop, inl, inr}
use Rattle.std.specs.Prelude.{◌⊎◌, Option, Some, None, slice_range}
use Rattle.std.specs.List.{copy_within}
use Rattle.std.proofs.lemmas.List.{length-take-le, drop-append-le, take-take, take_at, drop_at, drop_more, drop-drop, get_or-take, get_or-drop, get_or_append_left, append-nil}
use Rattle.std.proofs.lemmas.List.Folds.{drop_split}
use Rattle.std.proofs.lemmas.Slice.{between_is}
use Rattle.std.specs.Io.KnownBytes.{IsAtEnd}
use Rattle.httparse.specs.Grammar.{ChunkLine, IsChunkLine, chunk_size, print_chunk_line, HasNoChunkLine, NeverHasChunkLine, MayBecomeChunkLine}
use Rattle.httparse.specs.Spans.{IsChunkLineAt}
use Rattle.cat_http.specs.Streams.{KeepsStream}
use Rattle.cat_http.specs.Chunked.{chunks_then}
use Rattle.cat_http.specs.ChunkedRead.{StandsBehind, StandsBehindOf, AnswerIs, AnswerOf}
use Rattle.cat_http.specs.declared.chunked.ChunkedRead.{ChunkedRead}
use Rattle.cat_http.specs.declared.chunked.ChunkedRead.TheVariants as answer
use Rattle.cat_http.proofs.StreamLemmas.{range_same}
use Rattle.cat_http.proofs.ChunkSteps.{stream_len, stands_in, cut_off, line_refused, line_cut, line_unfinished, sum_large, ends_whole, one_more, data_unfinished, data_cut, no_cr, no_lf}

-- a front that stays while more is read
pub front_kept : (a b c : List ℕ) (s e : ℕ) → s ≤ e → take e c ≡ take e b → take s b ≡ take s a → take s c ≡ take s a
front_kept a b c s e within same before =
    sym (take-take s e c within) ∙ ap (take s) same ∙ take-take s e b within ∙ before

-- what was read stands behind what was unread
unread_grows : (b b' m ys : List ℕ) (at e e' : ℕ) → at ≤ e → e ≤ e' → e ≤ length b → e' ≤ length b' → take e b ++ m ≡ take e' b' ++ ys
    → slice_range b at e ++ m ≡ slice_range b' at e' ++ ys
unread_grows b b' m ys at e e' order grows had has stream =
    let old : drop at (take e b ++ m) ≡ drop at (take e b) ++ m = drop-append-le at (take e b) m (omega (arith, length-take-le e b had)) in
    let new : drop at (take e' b' ++ ys) ≡ drop at (take e' b') ++ ys = drop-append-le at (take e' b') ys (omega (arith, length-take-le e' b' has)) in
    ap (λ s. s ++ m) (between_is b at e) ∙ sym old ∙ ap (drop at) stream ∙ new ∙ ap (λ s. s ++ ys) (sym (between_is b' at e'))

-- more was read
pub stands_grow : (old mid new : Option (List ℕ)) (given b b' : List ℕ) (start stop raw at e e' : ℕ)
    → at ≤ e → e ≤ e' → e ≤ length b → e' ≤ length b' → stop ≤ at → take e b' ≡ take e b → KeepsStream mid new (take e b) (take e' b')
    → StandsBehindOf old mid given (slice_range b start stop) (slice_range b at e) raw
    → StandsBehindOf old new given (slice_range b' start stop) (slice_range b' at e') raw
stands_grow None mid new given b b' start stop raw at e e' order grows had has behind front stream is = tt
stands_grow (Some xs) None new given b b' start stop raw at e e' order grows had has behind front stream is = absurd is
stands_grow (Some xs) (Some m) None given b b' start stop raw at e e' order grows had has behind front stream is = stream
stands_grow (Some xs) (Some m) (Some ys) given b b' start stop raw at e e' order grows had has behind front stream is =
    subst (λ u. StandsBehind (given ++ xs) (slice_range b' start stop) u raw) (unread_grows b b' m ys at e e' order grows had has stream)
    (subst (λ s. StandsBehind (given ++ xs) s (slice_range b at e ++ m) raw) (range_same b b' e start stop (sym front) (omega arith)) is)

-- more was read twice
pub stands_again : (old one two new : Option (List ℕ)) (given b b' b'' : List ℕ) (start kept at e e' e'' : ℕ) → start + kept ≤ at → at ≤ e → e ≤ length b
    → e ≤ e' → e' ≤ length b' → take e b' ≡ take e b → KeepsStream one two (take e b) (take e' b')
    → e' ≤ e'' → e'' ≤ length b'' → take e' b'' ≡ take e' b' → KeepsStream two new (take e' b') (take e'' b'')
    → StandsBehindOf old one given (slice_range b start (start + kept)) (slice_range b at e) (at - start)
    → StandsBehindOf old new given (slice_range b'' start (start + kept)) (slice_range b'' at e'') (at - start)
stands_again old one two new given b b' b'' start kept at e e' e'' order before within grows within' front stream grows' within'' front' stream' is =
    stands_grow old two new given b' b'' start (start + kept) (at - start) at e' e'' (omega arith) grows' within' within'' order front' stream'
    (stands_grow old one two given b b' start (start + kept) (at - start) at e e' before grows within within' order front stream is)

-- an answer of the stream, where the source tells its bytes
answer_from : (says : ChunkedRead) (old new : Option (List ℕ)) (given b body unread : List ℕ) (raw start e : ℕ) → StandsBehindOf old new given body unread raw
    → ((stream ys : List ℕ) → new ≡ Some ys → StandsBehind stream body (unread ++ ys) raw → AnswerIs says b start e stream ys)
    → AnswerOf says old new given b start e
answer_from says None new given b body unread raw start e stands is = tt
answer_from says (Some xs) None given b body unread raw start e stands is = stands
answer_from says (Some xs) (Some ys) given b body unread raw start e stands is = is (given ++ xs) ys refl stands

stands_from : (old new : Option (List ℕ)) (given body unread body' unread' : List ℕ) (raw raw' : ℕ) → StandsBehindOf old new given body unread raw
    → ((stream ys : List ℕ) → StandsBehind stream body (unread ++ ys) raw → StandsBehind stream body' (unread' ++ ys) raw')
    → StandsBehindOf old new given body' unread' raw'
stands_from None new given body unread body' unread' raw raw' stands is = tt
stands_from (Some xs) None given body unread body' unread' raw raw' stands is = stands
stands_from (Some xs) (Some ys) given body unread body' unread' raw raw' stands is = is (given ++ xs) ys stands

at_end : (new : Option (List ℕ)) (ys : List ℕ) → new ≡ Some ys → IsAtEnd new → ys ≡ []
at_end new ys told end = subst IsAtEnd told end

pub slice_split : (b : List ℕ) (i j k : ℕ) → i ≤ j → j ≤ k → slice_range b i k ≡ slice_range b i j ++ slice_range b j k
slice_split b i j k first second =
    between_is b i k ∙ drop_split (take k b) i j first
    ∙ ap (λ s. s ++ drop j (take k b)) (range_same (take k b) b k i j (take-take k k b (omega arith)) second)
    ∙ ap (λ s. slice_range b i j ++ s) (sym (between_is b j k))

pub slice_len : (b : List ℕ) (i j : ℕ) → i ≤ j → j ≤ length b → length (slice_range b i j) ≡ j - i
slice_len b i j order within = length-take-le (j - i) (drop i b) (omega (arith, length-drop i b))

-- the first byte of a part
slice_more : (b : List ℕ) (i k j : ℕ) → i < k → k ≤ length b → j ≡ i + 1 → slice_range b i k ≡ get_or b i 0 ∷ slice_range b j k
slice_more b i k j some has next =
    let inside : i < length (take k b) = omega (arith, length-take-le k b has) in
    between_is b i k ∙ drop_more (take k b) i 0 inside
    ∙ ap (λ x. x ∷ drop (i + 1) (take k b)) (get_or-take k b i 0 some)
    ∙ ap (λ s. get_or b i 0 ∷ s) (sym (between_is b (i + 1) k) ∙ ap (λ m. slice_range b m k) (sym next))

-- what stands behind data that was moved to the front stays
pub back_kept : (b : List ℕ) (i j to k : ℕ) → i ≤ j → j ≤ length b → to ≤ i → j ≤ k → drop k (copy_within b i j to) ≡ drop k b
back_kept b i j to k order within first past =
    let part = take (j - i) (drop i b) in
    let front = take to b in
    let seam = to + (j - i) in
    let back = drop seam b in
    let rest = k - seam in
    let sum : k ≡ seam + rest = omega arith in
    let len : length (front ++ part) ≡ seam =
    omega (arith, length-append front part, length-take-le to b (omega arith), length-take-le (j - i) (drop i b) (omega (arith, length-drop i b))) in
    ap (λ m. drop m (copy_within b i j to)) sum ∙ sym (drop-drop rest seam (copy_within b i j to)) ∙ ap (drop rest) (drop_at (front ++ part) back seam len)
    ∙ drop-drop rest seam b ∙ ap (λ m. drop m b) (sym sum)

-- where a line was found its bytes stay
pub line_here : (b b' : List ℕ) (at len n m e : ℕ) (l : ChunkLine) → IsChunkLineAt (slice_range b at m) len n l → at + len ≤ m → m ≤ e → take e b' ≡ take e b
    → slice_range b' at (at + len) ≡ print_chunk_line l
line_here b b' at len n m e l is inside seen same =
    let part : at + len - at ≡ len = omega arith in
    range_same b' b e at (at + len) same (omega arith)
    ∙ ap (λ k. take k (drop at b)) part ∙ sym (take-take len (m - at) (drop at b) (omega arith))
    ∙ ap (take len) is.reads.1 ∙ take_at (print_chunk_line l) (drop len (slice_range b at m)) len (sym is.len_is)

module _ (old new : Option (List ℕ)) (given b : List ℕ) (start kept at e limit : ℕ) (is_limit : limit ≡ start + 2097152) (order : start + kept ≤ at) (before : at ≤ e) (within : e ≤ length b)
    (small : kept ≤ 1048576) (reach : at ≤ limit) (stands : StandsBehindOf old new given (slice_range b start (start + kept)) (slice_range b at e) (at - start)) where
  abbrev body : List ℕ
  body = slice_range b start (start + kept)

  body_len : length body ≡ kept
  body_len = omega (arith, slice_len b start (start + kept) (omega arith) (omega arith))

  few : length body ≤ 1048576
  few = omega (arith, body_len)

  mid_len : (ys : List ℕ) → length (slice_range b at e ++ ys) ≡ e - at + length ys
  mid_len ys = omega (arith, length-append (slice_range b at e) ys, slice_len b at e before within)

  cut_at : (ys : List ℕ) (m : ℕ) → at ≤ m → m ≤ e → slice_range b at e ++ ys ≡ slice_range b at m ++ (slice_range b m e ++ ys)
  cut_at ys m first second = ap (λ s. s ++ ys) (slice_split b at m e first second) ∙ append_assoc (slice_range b at m) (slice_range b m e) ys

  pub line_refused_answer : NeverHasChunkLine (slice_range b at (min e limit)) → AnswerOf answer.Malformed old new given b start e
  line_refused_answer never = answer_from answer.Malformed old new given b body (slice_range b at e) (at - start) start e stands (λ stream ys told s.
      let m = min e limit in
      line_refused stream body (slice_range b at e ++ ys) (at - start) s few (slice_range b at m) (slice_range b m e ++ ys)
      (omega (arith, slice_len b at m (omega arith) (omega arith))) (cut_at ys m (omega arith) (omega arith)) never)

  pub line_cut_answer : IsAtEnd new → e ≤ limit → HasNoChunkLine (slice_range b at e) → AnswerOf answer.Malformed old new given b start e
  line_cut_answer end short none = answer_from answer.Malformed old new given b body (slice_range b at e) (at - start) start e stands (λ stream ys told s.
      let nothing : ys ≡ [] = at_end new ys told end in
      let all : slice_range b at e ++ ys ≡ slice_range b at e = ap (λ t. slice_range b at e ++ t) nothing ∙ append-nil (slice_range b at e) in
      line_cut stream body (slice_range b at e ++ ys) (at - start) s few
      (omega (arith, stream_len stream body (slice_range b at e ++ ys) (at - start) s few, mid_len ys, ap length nothing)) (subst HasNoChunkLine (sym all) none))

  -- a read failed before there was a line
  pub line_lacks_answer : e ≤ limit → HasNoChunkLine (slice_range b at e) → AnswerOf answer.Fault old new given b start e
  line_lacks_answer short none = answer_from answer.Fault old new given b body (slice_range b at e) (at - start) start e stands (λ stream ys told s.
      let mid = slice_range b at e in
      let here = stands_in stream body (mid ++ ys) (at - start) s few mid in
      cut_off stream body (mid ++ ys) (at - start) s few mid ys refl
      (line_cut (chunks_then s.chunks mid) body mid (at - start) here few
      (omega (arith, stream_len (chunks_then s.chunks mid) body mid (at - start) here few, slice_len b at e before within)) none))

  pub line_unfinished_answer : limit < e → MayBecomeChunkLine (slice_range b at limit) → AnswerOf answer.TooLarge old new given b start e
  line_unfinished_answer long may = answer_from answer.TooLarge old new given b body (slice_range b at e) (at - start) start e stands (λ stream ys told s.
      line_unfinished stream body (slice_range b at e ++ ys) (at - start) s few (slice_range b at limit) (slice_range b limit e ++ ys)
      (omega (arith, slice_len b at limit reach (omega arith))) (omega (arith, stream_len stream body (slice_range b at e ++ ys) (at - start) s few, mid_len ys))
      (cut_at ys limit reach (omega arith)) may)

  module _ (l : ChunkLine) (line : IsChunkLine l) (len n begins : ℕ) (is_data : begins ≡ at + len) (is_len : len ≡ length (print_chunk_line l)) (is_size : n ≡ chunk_size l)
      (here : slice_range b at begins ≡ print_chunk_line l) (inside : begins ≤ e) (data_reach : begins ≤ limit) where
    abbrev after : List ℕ → List ℕ
    after ys = slice_range b begins e ++ ys

    mid_is : (ys : List ℕ) → slice_range b at e ++ ys ≡ print_chunk_line l ++ after ys
    mid_is ys = cut_at ys begins (omega arith) inside ∙ ap (λ t. t ++ after ys) here

    after_len : (ys : List ℕ) → length (after ys) ≡ e - begins + length ys
    after_len ys = omega (arith, length-append (slice_range b begins e) ys, slice_len b begins e inside within)

    get_at : (ys : List ℕ) (i : ℕ) → begins + i < e → get_or (after ys) i 0 ≡ get_or b (begins + i) 0
    get_at ys i there =
        get_or_append_left (slice_range b begins e) ys 0 i (omega (arith, slice_len b begins e inside within))
        ∙ ap (λ t. get_or t i 0) (between_is b begins e) ∙ get_or-drop begins (take e b) i 0 ∙ get_or-take e b (begins + i) 0 there

    total : (stream ys : List ℕ) → StandsBehind stream body (slice_range b at e ++ ys) (at - start) → length stream ≡ e - start + length ys
    total stream ys s = omega (arith, stream_len stream body (slice_range b at e ++ ys) (at - start) s few, mid_len ys)

    pub sum_answer : 1048576 < kept + n → AnswerOf answer.TooLarge old new given b start e
    sum_answer large = answer_from answer.TooLarge old new given b body (slice_range b at e) (at - start) start e stands (λ stream ys told s.
        sum_large stream body (slice_range b at e ++ ys) (at - start) s few l line (after ys) (mid_is ys) (omega (arith, body_len)))

    pub data_unfinished_answer : limit < e → limit < begins + n + 2 → (begins + n < limit → get_or b (begins + n) 0 ≡ 13) → AnswerOf answer.TooLarge old new given b start e
    data_unfinished_answer long past cr = answer_from answer.TooLarge old new given b body (slice_range b at e) (at - start) start e stands (λ stream ys told s.
        data_unfinished stream body (slice_range b at e ++ ys) (at - start) s few l line (after ys) (mid_is ys) (omega (arith, total stream ys s))
        (omega arith) (limit - begins) (omega arith) (omega arith)
        (λ passed. ap (λ k. get_or (after ys) k 0) (sym is_size) ∙ get_at ys n (omega arith) ∙ cr (omega arith)))

    module _ (allowed : kept + n ≤ 1048576) where
      pub data_cut_answer : IsAtEnd new → e < begins + n + 2 → e ≤ limit → AnswerOf answer.Malformed old new given b start e
      data_cut_answer end lacks short = answer_from answer.Malformed old new given b body (slice_range b at e) (at - start) start e stands (λ stream ys told s.
          let nothing : ys ≡ [] = at_end new ys told end in
          data_cut stream body (slice_range b at e ++ ys) (at - start) s few l line (after ys) (mid_is ys) (omega (arith, body_len))
          (omega (arith, total stream ys s, ap length nothing)) (omega (arith, after_len ys, ap length nothing)))

      -- a read failed before there was all of it
      pub data_lacks_answer : e < begins + n + 2 → e ≤ limit → AnswerOf answer.Fault old new given b start e
      data_lacks_answer lacks short = answer_from answer.Fault old new given b body (slice_range b at e) (at - start) start e stands (λ stream ys told s.
          let mid = slice_range b at e in
          let back = slice_range b begins e in
          let came = stands_in stream body (mid ++ ys) (at - start) s few mid in
          let is : mid ≡ print_chunk_line l ++ back = slice_split b at begins e (omega arith) inside ∙ ap (λ t. t ++ back) here in
          cut_off stream body (mid ++ ys) (at - start) s few mid ys refl
          (data_cut (chunks_then s.chunks mid) body mid (at - start) came few l line back is (omega (arith, body_len))
          (omega (arith, stream_len (chunks_then s.chunks mid) body mid (at - start) came few, slice_len b at e before within))
          (omega (arith, slice_len b begins e inside within))))

      pub end_refused_answer : (stop : ℕ) → stop ≡ begins + n → ((stop < e) × (stop < limit) × (get_or b stop 0 ≢ 13)) ⊎ ((stop + 1 < e) × (stop + 1 < limit) × (get_or b (stop + 1) 0 ≢ 10))
          → AnswerOf answer.Malformed old new given b start e
      end_refused_answer stop is_stop (inl other) = answer_from answer.Malformed old new given b body (slice_range b at e) (at - start) start e stands (λ stream ys told s.
          no_cr stream body (slice_range b at e ++ ys) (at - start) s few l line (after ys) (mid_is ys) (omega (arith, body_len)) (omega (arith, other.1))
          (λ same. other.2 (ap (λ k. get_or b k 0) is_stop ∙ sym (get_at ys n (omega (arith, other.0))) ∙ ap (λ k. get_or (after ys) k 0) is_size ∙ same)))
      end_refused_answer stop is_stop (inr other) = answer_from answer.Malformed old new given b body (slice_range b at e) (at - start) start e stands (λ stream ys told s.
          let place : stop + 1 ≡ begins + (n + 1) = omega arith in
          no_lf stream body (slice_range b at e ++ ys) (at - start) s few l line (after ys) (mid_is ys) (omega (arith, body_len)) (omega (arith, other.1))
          (λ same. other.2 (ap (λ k. get_or b k 0) place ∙ sym (get_at ys (n + 1) (omega (arith, other.0))) ∙ ap (λ k. get_or (after ys) (k + 1) 0) is_size ∙ same)))

    module _ (stop next : ℕ) (is_stop : stop ≡ begins + n) (is_next : next ≡ stop + 2) (has : next ≤ e) (fits : next ≤ limit) (cr : get_or b stop 0 ≡ 13) (lf : get_or b (stop + 1) 0 ≡ 10) where
      ends_here : (ys : List ℕ) → after ys ≡ slice_range b begins stop ++ 13 ∷ 10 ∷ (slice_range b next e ++ ys)
      ends_here ys =
          ap (λ t. t ++ ys) (slice_split b begins stop e (omega arith) (omega arith)
          ∙ ap (λ t. slice_range b begins stop ++ t)
          (slice_more b stop e (stop + 1) (omega arith) within refl ∙ ap (λ t. get_or b stop 0 ∷ t) (slice_more b (stop + 1) e next (omega arith) within (omega arith))
          ∙ ap (λ x. x ∷ get_or b (stop + 1) 0 ∷ slice_range b next e) cr ∙ ap (λ x. 13 ∷ x ∷ slice_range b next e) lf))
          ∙ append_assoc (slice_range b begins stop) (13 ∷ 10 ∷ slice_range b next e) ys

      data_len : length (slice_range b begins stop) ≡ n
      data_len = omega (arith, slice_len b begins stop (omega arith) (omega arith))

      pub whole_answer : n ≡ 0 → AnswerOf (answer.Whole kept next) old new given b start e
      whole_answer none = answer_from (answer.Whole kept next) old new given b body (slice_range b at e) (at - start) start e stands (λ stream ys told s.
          let empty : slice_range b begins stop ≡ [] = Rattle.std.proofs.lemmas.List.nil_from_length (slice_range b begins stop) (omega (arith, data_len)) in
          ends_whole stream body (slice_range b at e ++ ys) (at - start) s few l line (after ys) (mid_is ys) (slice_range b next e ++ ys) (omega arith)
          (ends_here ys ∙ ap (λ t. t ++ 13 ∷ 10 ∷ (slice_range b next e ++ ys)) empty) (omega arith))

      next_stands : 0 < n → StandsBehindOf old new given (body ++ slice_range b begins stop) (slice_range b next e) (next - start)
      next_stands some = stands_from old new given body (slice_range b at e) (body ++ slice_range b begins stop) (slice_range b next e) (at - start) (next - start) stands (λ stream ys s.
          let raw : at - start + (length (print_chunk_line l) + chunk_size l + 2) ≡ next - start = omega arith in
          subst (StandsBehind stream (body ++ slice_range b begins stop) (slice_range b next e ++ ys)) raw
          (one_more stream body (slice_range b at e ++ ys) (at - start) s few l line (after ys) (mid_is ys) (slice_range b begins stop) (slice_range b next e ++ ys)
          (omega arith) (omega (arith, data_len)) (ends_here ys)))

      -- the data was moved behind the body
      module _ (b' : List ℕ) (moves : b' ≡ copy_within b begins stop (start + kept)) where
        data_in : slice_range b' (start + kept) (start + kept + n) ≡ slice_range b begins stop
        data_in =
            let part = take (stop - begins) (drop begins b) in
            let front = take (start + kept) b in
            let back = drop (start + kept + (stop - begins)) b in
            let at_body : length front ≡ start + kept = length-take-le (start + kept) b (omega arith) in
            let size : start + kept + n - (start + kept) ≡ length part = omega (arith, data_len) in
            ap (λ t. take (start + kept + n - (start + kept)) (drop (start + kept) t)) (moves ∙ append_assoc front part back)
            ∙ ap (take (start + kept + n - (start + kept))) (drop_at front (part ++ back) (start + kept) at_body)
            ∙ take_at part back (start + kept + n - (start + kept)) (sym size)

        front_in : take (start + kept) b' ≡ take (start + kept) b
        front_in =
            let part = take (stop - begins) (drop begins b) in
            let front = take (start + kept) b in
            let back = drop (start + kept + (stop - begins)) b in
            ap (take (start + kept)) (moves ∙ append_assoc front part back) ∙ take_at front (part ++ back) (start + kept) (length-take-le (start + kept) b (omega arith))

        back_in : drop next b' ≡ drop next b
        back_in = ap (drop next) moves ∙ back_kept b begins stop (start + kept) next (omega arith) (omega arith) (omega arith) (omega arith)

        pub front_moved : (a : List ℕ) → take start b ≡ take start a → take start b' ≡ take start a
        front_moved a same = front_kept a b b' start (start + kept) (omega arith) front_in same

        pub stands_moved : (kept' : ℕ) → kept' ≡ kept + n → 0 < n → StandsBehindOf old new given (slice_range b' start (start + kept')) (slice_range b' next e) (next - start)
        stands_moved kept' is_kept some =
            let stop' : start + kept' ≡ start + kept + n = omega arith in
            let carried : body ++ slice_range b begins stop ≡ slice_range b' start (start + kept') =
            sym (ap (slice_range b' start) stop' ∙ slice_split b' start (start + kept) (start + kept + n) (omega arith) (omega arith)
            ∙ ap (λ t. t ++ slice_range b' (start + kept) (start + kept + n)) (range_same b' b (start + kept) start (start + kept) front_in (omega arith))
            ∙ ap (λ t. body ++ t) data_in) in
            let rest : slice_range b next e ≡ slice_range b' next e = ap (take (e - next)) (sym back_in) in
            subst (λ u. StandsBehindOf old new given (slice_range b' start (start + kept')) u (next - start)) rest
            (subst (λ t. StandsBehindOf old new given t (slice_range b next e) (next - start)) carried (next_stands some))
