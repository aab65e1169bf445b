-- What the next line of a body in chunks and its data make of the stream.
use Rattle.std.proofs.Common.{arith, ◌≡◌, ◌≢◌, ℕ, ◌+◌, ◌-◌, ◌<◌, ◌≤◌, List, [], ◌∷◌, ◌++◌, length, take, drop, get_or, replicate, sym, ap, ◌∙◌, refl, subst, append_assoc, length-append, inl, inr, IsTrue}
use Rattle.std.specs.Prelude.{None}
use Rattle.std.specs.Char.{is_ascii_hexdigit}
use Rattle.std.proofs.lemmas.Bool.{cases_lt}
use Rattle.std.proofs.lemmas.List.{take_at, take-take, take-append-drop, take-append-le, take_more, length-take-le, length-replicate, append-nil, get_or-take, get_or-append-add, get_or_at}
use Rattle.httparse.specs.Grammar.{ChunkLine, IsChunkLine, chunk_size, print_chunk_line, HasNoChunkLine, NeverHasChunkLine, MayBecomeChunkLine}
use Rattle.httparse.proofs.ChunkLemmas.{chunk_line_unique}
use Rattle.cat_http.specs.Chunked.{Chunk, IsChunk, AreChunks, chunks_then, content_of, ReadsChunked, IsChunkedBody, IsUnfinished, IsLargeChunked, IsBadChunked}
use Rattle.cat_http.specs.ChunkedRead.{StandsBehind, IsCutChunked}
use Rattle.cat_http.proofs.StreamLemmas.{take_past}
use Rattle.cat_http.proofs.HeadLemmas.{one}
use Rattle.cat_http.proofs.ChunkLemmas.{chunks_split, Follows, Item, bad_at_end, bad_before}

-- a front that is known stays in bytes that are alike up to there
front_stays : (seen back mid mid' : List ℕ) (n : ℕ) → length seen ≤ n → mid ≡ seen ++ back → take n mid' ≡ take n mid → (more : List ℕ) × (mid' ≡ seen ++ more)
front_stays seen back mid mid' n fits is same =
    let m = length seen in
    let begin : take m mid' ≡ seen =
    sym (take-take m n mid' fits) ∙ ap (take m) same ∙ take-take m n mid fits ∙ ap (take m) is ∙ take_at seen back m refl in
    (drop m mid', sym (take-append-drop m mid') ∙ ap (λ s. s ++ drop m mid') begin)

-- what follows a line that the sum allows
allowed : (kept size said : ℕ) (after bytes : List ℕ) → said ≡ size → after ≡ bytes → kept + size ≤ 1048576 → Follows kept said after
    → (c : List ℕ) × (rest : List ℕ) × (length c ≡ size) × (bytes ≡ c ++ 13 ∷ 10 ∷ rest)
allowed kept size said after bytes same is small (inl ends) = ([], ends.1, omega (arith, ends.0), sym is ∙ ends.2)
allowed kept size said after bytes same is small (inr (inl large)) = absurd (omega arith)
allowed kept size said after bytes same is small (inr (inr chunk)) = (chunk.1, chunk.2, chunk.3 ∙ same, sym is ∙ chunk.4)

chunks_snoc : (cs : List Chunk) (c : Chunk) (rest : List ℕ) → chunks_then (cs ++ c ∷ []) rest ≡ chunks_then cs (print_chunk_line c.line ++ (c.content ++ 13 ∷ 10 ∷ rest))
chunks_snoc [] c rest = refl
chunks_snoc (d ∷ cs) c rest = ap (λ s. print_chunk_line d.line ++ (d.content ++ 13 ∷ 10 ∷ s)) (chunks_snoc cs c rest)

are_snoc : (cs : List Chunk) (c : Chunk) → AreChunks cs → IsChunk c → AreChunks (cs ++ c ∷ [])
are_snoc [] c x is = (is, tt)
are_snoc (d ∷ cs) c x is = (x.0, are_snoc cs c x.1 is)

content_snoc : (cs : List Chunk) (c : Chunk) → content_of (cs ++ c ∷ []) ≡ content_of cs ++ c.content
content_snoc [] c = append-nil c.content
content_snoc (d ∷ cs) c = ap (λ s. d.content ++ s) (content_snoc cs c) ∙ sym (append_assoc d.content (content_of cs) c.content)

-- the line of size 0
abbrev zero_line : ChunkLine
zero_line = record { digits = 48 ∷ []; pad = []; extension = None }

zero_is : IsChunkLine zero_line
zero_is = record {
  digits = (omega arith, omega arith, one (λ b. IsTrue (is_ascii_hexdigit b)) 48 refl);
  pad = λ k d h. absurd (omega arith);
  extension = tt;
}

module _ (stream body mid : List ℕ) (raw : ℕ) (s : StandsBehind stream body mid raw) (few : length body ≤ 1048576) where
  abbrev front : List ℕ
  front = chunks_then s.chunks []

  all_is : stream ≡ front ++ mid
  all_is = s.printed ∙ chunks_split s.chunks mid

  pub stream_len : length stream ≡ raw + length mid
  stream_len = omega (arith, ap length all_is, length-append front mid, s.count)

  -- the same for what came of the stream
  pub stands_in : (seen : List ℕ) → StandsBehind (chunks_then s.chunks seen) body seen raw
  stands_in seen = record { chunks = s.chunks; are = s.are; printed = refl; carried = s.carried; count = s.count }

  -- behind which nothing was read
  pub cut_off : (seen back : List ℕ) → mid ≡ seen ++ back → IsBadChunked (chunks_then s.chunks seen) → IsCutChunked stream back
  cut_off seen back is bad = record {
    came = chunks_then s.chunks seen;
    split = all_is ∙ ap (λ t. front ++ t) is ∙ sym (append_assoc front seen back) ∙ ap (λ t. t ++ back) (sym (chunks_split s.chunks seen));
    bad = bad;
  }

  -- no size line can begin so
  pub line_refused : (seen back : List ℕ) → raw + length seen ≤ 2097152 → mid ≡ seen ++ back → NeverHasChunkLine seen → IsBadChunked stream
  line_refused seen back fits is never =
      bad_before stream body mid raw s few (omega arith)
      (λ mid' same item. let more = front_stays seen back mid mid' (2097152 - raw) (omega arith) is same in never more.0 item.line item.after (item.is, sym more.1 ∙ item.reads))

  -- the stream ends inside a size line
  pub line_cut : length stream ≤ 2097152 → HasNoChunkLine mid → IsBadChunked stream
  line_cut short none = bad_at_end stream body mid raw s few short (λ item. none item.line item.after (item.is, item.reads))

  -- the bytes up to the limit begin a longer body
  unfinished : (whole b front_part tail : List ℕ) → ReadsChunked whole b [] → whole ≡ front ++ (front_part ++ tail) → raw ≤ 2097152 → 2097152 < length stream
      → take (2097152 - raw) front_part ≡ take (2097152 - raw) mid → 2097152 - raw < length front_part → IsUnfinished stream
  unfinished whole b part tail reads is fits long same longer =
      let n = 2097152 - raw in
      let sum : 2097152 ≡ raw + n = omega arith in
      let theirs : take 2097152 whole ≡ front ++ take n part =
      ap (take 2097152) is ∙ ap (λ k. take k (front ++ (part ++ tail))) sum
      ∙ take_past front (part ++ tail) raw n (sym s.count) (omega (arith, length-append part tail))
      ∙ ap (λ t. front ++ t) (take-append-le n part tail (omega arith)) in
      let ours : take 2097152 stream ≡ front ++ take n mid =
      ap (take 2097152) all_is ∙ ap (λ k. take k (front ++ mid)) sum ∙ take_past front mid raw n (sym s.count) (omega (arith, stream_len)) in
      record {
        long = long;
        whole = whole;
        body = b;
        reads = reads;
        longer = omega (arith, ap length is, length-append front (part ++ tail), length-append part tail, s.count);
        same = ours ∙ ap (λ t. front ++ t) (sym same) ∙ sym theirs;
      }

  -- a line and data that begin as the bytes up to the limit make one
  line_and_data : (l : ChunkLine) (c : List ℕ) → IsChunkLine l → length c ≡ chunk_size l → raw ≤ 2097152 → 2097152 < length stream
      → take (2097152 - raw) (print_chunk_line l ++ (c ++ 13 ∷ 10 ∷ [])) ≡ take (2097152 - raw) mid → 2097152 - raw < length (print_chunk_line l ++ (c ++ 13 ∷ 10 ∷ []))
      → IsUnfinished stream
  line_and_data l c line len fits long same longer = elim (cases_lt 0 (chunk_size l)) [
    | inl some ↦
        let chunk : Chunk = record { line = l; content = c } in
        let tail : List ℕ = print_chunk_line zero_line ++ 13 ∷ 10 ∷ [] in
        let part : List ℕ = print_chunk_line l ++ (c ++ 13 ∷ 10 ∷ []) in
        let is : chunks_then (s.chunks ++ chunk ∷ []) tail ≡ front ++ (part ++ tail) =
        chunks_snoc s.chunks chunk tail ∙ chunks_split s.chunks (print_chunk_line l ++ (c ++ 13 ∷ 10 ∷ tail))
        ∙ ap (λ t. front ++ t) (sym (append_assoc (print_chunk_line l) (c ++ 13 ∷ 10 ∷ []) tail ∙ ap (λ t. print_chunk_line l ++ t) (append_assoc c (13 ∷ 10 ∷ []) tail))) in
        unfinished (chunks_then (s.chunks ++ chunk ∷ []) tail) (content_of (s.chunks ++ chunk ∷ [])) part tail
        (record {
          chunks = s.chunks ++ chunk ∷ [];
          are = are_snoc s.chunks chunk s.are (record { line = line; some = some; size = len });
          last = zero_line;
          line = zero_is;
          zero = refl;
          printed = refl;
          carried = refl;
        }) is fits long same longer
    | inr none ↦
        let part : List ℕ = print_chunk_line l ++ (c ++ 13 ∷ 10 ∷ []) in
        let empty : c ++ 13 ∷ 10 ∷ [] ≡ 13 ∷ 10 ∷ [] = ap (λ t. t ++ 13 ∷ 10 ∷ []) (Rattle.std.proofs.lemmas.List.nil_from_length c (omega arith)) in
        let is : chunks_then s.chunks (print_chunk_line l ++ 13 ∷ 10 ∷ []) ≡ front ++ (part ++ []) =
        chunks_split s.chunks (print_chunk_line l ++ 13 ∷ 10 ∷ [])
        ∙ ap (λ t. front ++ t) (ap (λ t. print_chunk_line l ++ t) (sym empty) ∙ sym (append-nil part)) in
        unfinished (chunks_then s.chunks (print_chunk_line l ++ 13 ∷ 10 ∷ [])) (content_of s.chunks) part []
        (record {
          chunks = s.chunks;
          are = s.are;
          last = l;
          line = line;
          zero = omega arith;
          printed = refl;
          carried = refl;
        }) is fits long same longer
  ]

  -- the limit is inside a size line
  pub line_unfinished : (seen back : List ℕ) → raw + length seen ≡ 2097152 → 2097152 < length stream → mid ≡ seen ++ back → MayBecomeChunkLine seen → IsLargeChunked stream
  line_unfinished seen back at long is (more, l, (line, reads)) =
      let n = 2097152 - raw in
      let c : List ℕ = replicate (chunk_size l) 0 in
      let len : length seen ≡ n = omega arith in
      let printed : print_chunk_line l ≡ seen ++ more = sym (append-nil (print_chunk_line l)) ∙ sym reads in
      let part : print_chunk_line l ++ (c ++ 13 ∷ 10 ∷ []) ≡ seen ++ (more ++ (c ++ 13 ∷ 10 ∷ [])) =
      ap (λ t. t ++ (c ++ 13 ∷ 10 ∷ [])) printed ∙ append_assoc seen more (c ++ 13 ∷ 10 ∷ []) in
      inr (line_and_data l c line (length-replicate (chunk_size l) 0) (omega arith) long
      (ap (take n) part ∙ take_at seen (more ++ (c ++ 13 ∷ 10 ∷ [])) n len ∙ sym (ap (take n) is ∙ take_at seen back n len))
      (omega (arith, ap length part, length-append seen (more ++ (c ++ 13 ∷ 10 ∷ [])), length-append more (c ++ 13 ∷ 10 ∷ []), length-append c (13 ∷ 10 ∷ []))))

  module _ (l : ChunkLine) (line : IsChunkLine l) (after : List ℕ) (is : mid ≡ print_chunk_line l ++ after) where
    mid_len : length mid ≡ length (print_chunk_line l) + length after
    mid_len = omega (arith, ap length is, length-append (print_chunk_line l) after)

    -- the line takes the sum past the limit
    pub sum_large : 1048576 < length body + chunk_size l → IsLargeChunked stream
    sum_large large = inl record {
      chunks = s.chunks;
      are = s.are;
      next = l;
      line = line;
      after = after;
      printed = s.printed ∙ ap (chunks_then s.chunks) is;
      large = omega (arith, ap length s.carried);
    }

    -- the last line, and the empty line
    pub ends_whole : (rest : List ℕ) → chunk_size l ≡ 0 → after ≡ 13 ∷ 10 ∷ rest → raw + length (print_chunk_line l) + 2 ≤ 2097152 → IsChunkedBody stream body rest
    ends_whole rest zero here short = record {
      reads = record {
        chunks = s.chunks;
        are = s.are;
        last = l;
        line = line;
        zero = zero;
        printed = s.printed ∙ ap (chunks_then s.chunks) (is ∙ ap (λ t. print_chunk_line l ++ t) here);
        carried = s.carried;
      };
      small = few;
      short = omega (arith, stream_len, mid_len, ap length here);
    }

    -- one chunk more
    pub one_more : (c rest : List ℕ) → 0 < chunk_size l → length c ≡ chunk_size l → after ≡ c ++ 13 ∷ 10 ∷ rest
        → StandsBehind stream (body ++ c) rest (raw + (length (print_chunk_line l) + chunk_size l + 2))
    one_more c rest some len here =
        let chunk : Chunk = record { line = l; content = c } in
        let longer : length (chunks_then (s.chunks ++ chunk ∷ []) []) ≡ raw + (length (print_chunk_line l) + chunk_size l + 2) =
        omega (
          arith,
          ap length (chunks_snoc s.chunks chunk []),
          ap length (chunks_split s.chunks (print_chunk_line l ++ (c ++ 13 ∷ 10 ∷ []))),
          length-append front (print_chunk_line l ++ (c ++ 13 ∷ 10 ∷ [])),
          length-append (print_chunk_line l) (c ++ 13 ∷ 10 ∷ []),
          length-append c (13 ∷ 10 ∷ []),
          s.count,
        ) in
        record {
          chunks = s.chunks ++ chunk ∷ [];
          are = are_snoc s.chunks chunk s.are (record { line = line; some = some; size = len });
          printed = s.printed ∙ ap (chunks_then s.chunks) (is ∙ ap (λ t. print_chunk_line l ++ t) here) ∙ sym (chunks_snoc s.chunks chunk rest);
          carried = ap (λ t. t ++ c) s.carried ∙ sym (content_snoc s.chunks chunk);
          count = sym longer;
        }

    -- the limit is inside the data or the CR LF behind it
    pub data_unfinished : 2097152 < length stream → raw + length (print_chunk_line l) ≤ 2097152 → (n : ℕ) → raw + length (print_chunk_line l) + n ≡ 2097152 → n ≤ chunk_size l + 1
        → (chunk_size l < n → get_or after (chunk_size l) 0 ≡ 13) → IsLargeChunked stream
    data_unfinished long fits n at inside cr =
        inr (line_and_data l filled.0 line filled.1 (omega arith) long
        (ap (λ k. take k (print_chunk_line l ++ (filled.0 ++ 13 ∷ 10 ∷ []))) sum
        ∙ take_past (print_chunk_line l) (filled.0 ++ 13 ∷ 10 ∷ []) (length (print_chunk_line l)) n refl (omega (arith, filled_len, filled.1))
        ∙ ap (λ t. print_chunk_line l ++ t) filled.2
        ∙ sym (ap (take (2097152 - raw)) is ∙ ap (λ k. take k (print_chunk_line l ++ after)) sum
        ∙ take_past (print_chunk_line l) after (length (print_chunk_line l)) n refl (omega (arith, more))))
        (omega (arith, length-append (print_chunk_line l) (filled.0 ++ 13 ∷ 10 ∷ []), filled_len, filled.1)))
      where
        sum : 2097152 - raw ≡ length (print_chunk_line l) + n
        sum = omega arith

        more : n < length after
        more = omega (arith, stream_len, mid_len)

        filled : (c : List ℕ) × (length c ≡ chunk_size l) × (take n (c ++ 13 ∷ 10 ∷ []) ≡ take n after)
        filled = elim (cases_lt (chunk_size l) n) [
          | inl past ↦
              let size = chunk_size l in
              let c : List ℕ = take size after in
              let len : length c ≡ size = length-take-le size after (omega (arith, more)) in
              let next : n ≡ size + 1 = omega arith in (
                c,
                len,
                ap (λ k. take k (c ++ 13 ∷ 10 ∷ [])) next ∙ take_past c (13 ∷ 10 ∷ []) size 1 len (omega arith)
                    ∙ ap (λ b. c ++ b ∷ []) (sym (cr past)) ∙ sym (take_more after size 0 (omega (arith, more))) ∙ ap (λ k. take k after) (sym next),
              )
          | inr before ↦
              let seen : List ℕ = take n after in
              let fill : List ℕ = replicate (chunk_size l - n) 0 in
              let len : length seen ≡ n = length-take-le n after (omega (arith, more)) in (
                seen ++ fill,
                omega (arith, length-append seen fill, length-replicate {A = ℕ} (chunk_size l - n) 0, len),
                ap (take n) (append_assoc seen fill (13 ∷ 10 ∷ [])) ∙ take_at seen (fill ++ 13 ∷ 10 ∷ []) n len,
              )
        ]

        filled_len : length (filled.0 ++ 13 ∷ 10 ∷ []) ≡ length filled.0 + 2
        filled_len = length-append filled.0 (13 ∷ 10 ∷ [])

    module _ (small : length body + chunk_size l ≤ 1048576) where
      after_item : (bytes : List ℕ) → Item (length body) (print_chunk_line l ++ bytes) → (c : List ℕ) × (rest : List ℕ) × (length c ≡ chunk_size l) × (bytes ≡ c ++ 13 ∷ 10 ∷ rest)
      after_item bytes item =
          let same = chunk_line_unique (print_chunk_line l ++ bytes) item.line l item.after bytes (item.is, item.reads) (line, refl) in
          allowed (length body) (chunk_size l) (chunk_size item.line) item.after bytes (ap chunk_size same.0) same.1 small item.follows

      -- the stream ends inside the data or the CR LF behind it
      pub data_cut : length stream ≤ 2097152 → length after < chunk_size l + 2 → IsBadChunked stream
      data_cut short lacks =
          bad_at_end stream body mid raw s few short (λ item.
          let x = after_item after (subst (Item (length body)) is item) in
          omega (arith, ap length x.3, length-append x.0 (13 ∷ 10 ∷ x.1), x.2))

      -- a byte that isn't that of CR LF stands there
      pub data_refused : (i : ℕ) → raw + length (print_chunk_line l) + i < 2097152
          → ((c rest : List ℕ) → length c ≡ chunk_size l → get_or (c ++ 13 ∷ 10 ∷ rest) i 0 ≡ get_or after i 0 → ⊥) → IsBadChunked stream
      data_refused i inside differs =
          bad_before stream body mid raw s few (omega arith) (λ mid' same item.
          let n = 2097152 - raw in
          let k = length (print_chunk_line l) in
          let other = front_stays (print_chunk_line l) after mid mid' n (omega arith) is same in
          let there : get_or other.0 i 0 ≡ get_or after i 0 =
          sym (get_or-append-add (print_chunk_line l) other.0 i 0) ∙ ap (λ t. get_or t (k + i) 0) (sym other.1)
          ∙ sym (get_or-take n mid' (k + i) 0 (omega arith)) ∙ ap (λ t. get_or t (k + i) 0) same ∙ get_or-take n mid (k + i) 0 (omega arith)
          ∙ ap (λ t. get_or t (k + i) 0) is ∙ get_or-append-add (print_chunk_line l) after i 0 in
          let x = after_item other.0 (subst (Item (length body)) other.1 item) in
          differs x.0 x.1 x.2 (ap (λ t. get_or t i 0) (sym x.3) ∙ there))

      pub no_cr : raw + length (print_chunk_line l) + chunk_size l < 2097152 → get_or after (chunk_size l) 0 ≢ 13 → IsBadChunked stream
      no_cr inside other =
          data_refused (chunk_size l) inside (λ c rest len same. other (sym same ∙ get_or_at c 13 (10 ∷ rest) 0 (chunk_size l) len))

      pub no_lf : raw + length (print_chunk_line l) + (chunk_size l + 1) < 2097152 → get_or after (chunk_size l + 1) 0 ≢ 10 → IsBadChunked stream
      no_lf inside other =
          data_refused (chunk_size l + 1) inside (λ c rest len same. other (sym same ∙ ap (λ k. get_or (c ++ 13 ∷ 10 ∷ rest) (k + 1) 0) (sym len) ∙ get_or-append-add c (13 ∷ 10 ∷ rest) 1 0))
