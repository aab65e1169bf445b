-- The grammar of bodies in chunks is read in one way.
use Rattle.std.proofs.Common.{arith, ◌≡◌, ℕ, ◌+◌, ◌-◌, ◌<◌, ◌≤◌, List, [], ◌∷◌, ◌++◌, length, take, drop, sym, ap, ◌∙◌, refl, append_assoc, length-append, inl, inr}
use Rattle.std.specs.Prelude.{◌⊎◌}
use Rattle.std.proofs.lemmas.List.{take_at, drop_at, take-take, take-append-drop, drop-take}
use Rattle.httparse.specs.Grammar.{ChunkLine, IsChunkLine, chunk_size, print_chunk_line}
use Rattle.httparse.proofs.ChunkLemmas.{chunk_line_unique}
use Rattle.cat_http.specs.Chunked.{Chunk, IsChunk, AreChunks, chunks_then, content_of, ReadsChunked, IsChunkedBody, HasLargeSum, IsLargeChunked, IsBadChunked}
use Rattle.cat_http.specs.ChunkedRead.{StandsBehind}

pub line_one : (l k : ChunkLine) (a b : List ℕ) → IsChunkLine l → IsChunkLine k → print_chunk_line l ++ a ≡ print_chunk_line k ++ b → (l ≡ k) × (a ≡ b)
line_one l k a b x y e = chunk_line_unique (print_chunk_line l ++ a) l k a b (x, refl) (y, e)

chunk_one : (c d : Chunk) (a b : List ℕ) → IsChunk c → IsChunk d
    → print_chunk_line c.line ++ (c.content ++ 13 ∷ 10 ∷ a) ≡ print_chunk_line d.line ++ (d.content ++ 13 ∷ 10 ∷ b)
    → (c.content ≡ d.content) × (a ≡ b)
chunk_one c d a b x y e =
    let lines = line_one c.line d.line (c.content ++ 13 ∷ 10 ∷ a) (d.content ++ 13 ∷ 10 ∷ b) x.line y.line e in
    let n = length c.content in
    let len : length d.content ≡ n = y.size ∙ ap chunk_size (sym lines.0) ∙ sym x.size in (
      sym (take_at c.content (13 ∷ 10 ∷ a) n refl) ∙ ap (take n) lines.1 ∙ take_at d.content (13 ∷ 10 ∷ b) n len,
      ap (drop 2) (sym (drop_at c.content (13 ∷ 10 ∷ a) n refl) ∙ ap (drop n) lines.1 ∙ drop_at d.content (13 ∷ 10 ∷ b) n len),
    )

-- a line of size 0 is no chunk's
last_is_no_chunk : (l : ChunkLine) (c : Chunk) (a b : List ℕ) → IsChunkLine l → chunk_size l ≡ 0 → IsChunk c → print_chunk_line l ++ a ≡ print_chunk_line c.line ++ b → ⊥
last_is_no_chunk l c a b x zero y e = omega (arith, zero, y.some, ap chunk_size (line_one l c.line a b x y.line e).0)

chunks_one : (cs ds : List Chunk) (l k : ChunkLine) (r q : List ℕ) → AreChunks cs → AreChunks ds → IsChunkLine l → chunk_size l ≡ 0 → IsChunkLine k → chunk_size k ≡ 0
    → chunks_then cs (print_chunk_line l ++ 13 ∷ 10 ∷ r) ≡ chunks_then ds (print_chunk_line k ++ 13 ∷ 10 ∷ q)
    → (content_of cs ≡ content_of ds) × (r ≡ q)
chunks_one [] [] l k r q cs ds x lz y kz e = (refl, ap (drop 2) (line_one l k (13 ∷ 10 ∷ r) (13 ∷ 10 ∷ q) x y e).1)
chunks_one [] (d ∷ more) l k r q cs ds x lz y kz e = absurd (last_is_no_chunk l d _ _ x lz ds.0 e)
chunks_one (c ∷ more) [] l k r q cs ds x lz y kz e = absurd (last_is_no_chunk k c _ _ y kz cs.0 (sym e))
chunks_one (c ∷ cs) (d ∷ ds) l k r q x y lx lz ky kz e =
    let here = chunk_one c d _ _ x.0 y.0 e in
    let rest = chunks_one cs ds l k r q x.1 y.1 lx lz ky kz here.1 in
    (ap (λ s. s ++ content_of cs) here.0 ∙ ap (λ s. d.content ++ s) rest.0, rest.1)

-- one body, and one rest
pub one_body : (bytes b c r q : List ℕ) → ReadsChunked bytes b r → ReadsChunked bytes c q → (b ≡ c) × (r ≡ q)
one_body bytes b c r q x y =
    let same = chunks_one x.chunks y.chunks x.last y.last r q x.are y.are x.line x.zero y.line y.zero (sym x.printed ∙ y.printed) in
    (x.carried ∙ same.0 ∙ sym y.carried, same.1)

-- no line before the last says more than the body has
sum_bounded : (cs ds : List Chunk) (l k : ChunkLine) (a b : List ℕ) → AreChunks cs → AreChunks ds → IsChunkLine l → chunk_size l ≡ 0 → IsChunkLine k
    → chunks_then cs (print_chunk_line l ++ a) ≡ chunks_then ds (print_chunk_line k ++ b)
    → length (content_of ds) + chunk_size k ≤ length (content_of cs)
sum_bounded [] [] l k a b cs ds x lz y e = omega (arith, lz, ap chunk_size (line_one l k a b x y e).0)
sum_bounded [] (d ∷ more) l k a b cs ds x lz y e = absurd (last_is_no_chunk l d _ _ x lz ds.0 e)
sum_bounded (c ∷ more) [] l k a b cs ds x lz y e =
    omega (arith, cs.0.size, ap chunk_size (line_one c.line k _ b cs.0.line y e).0, length-append c.content (content_of more))
sum_bounded (c ∷ cs) (d ∷ ds) l k a b x y lx lz ky e =
    let here = chunk_one c d _ _ x.0 y.0 e in
    omega (arith, sum_bounded cs ds l k a b x.1 y.1 lx lz ky here.1, ap length here.0, length-append c.content (content_of cs), length-append d.content (content_of ds))

pub chunks_split : (cs : List Chunk) (rest : List ℕ) → chunks_then cs rest ≡ chunks_then cs [] ++ rest
chunks_split [] rest = refl
chunks_split (c ∷ cs) rest =
    ap (λ s. print_chunk_line c.line ++ (c.content ++ 13 ∷ 10 ∷ s)) (chunks_split cs rest)
    ∙ sym (append_assoc (print_chunk_line c.line) (c.content ++ 13 ∷ 10 ∷ chunks_then cs []) rest
    ∙ ap (λ s. print_chunk_line c.line ++ s) (append_assoc c.content (13 ∷ 10 ∷ chunks_then cs []) rest))

-- bytes that are alike a known front and then some are that front and then others
alike : (front mid whole : List ℕ) (all : ℕ) → length front ≤ all → take all (front ++ mid) ≡ take all whole
    → (mid' : List ℕ) × (whole ≡ front ++ mid') × (take (all - length front) mid' ≡ take (all - length front) mid)
alike front mid whole all fits same =
    let raw = length front in
    let n = all - raw in
    let sum : all ≡ raw + n = omega arith in
    let begin : take raw whole ≡ front =
    sym (take-take raw all whole fits) ∙ ap (take raw) (sym same) ∙ take-take raw all (front ++ mid) fits ∙ take_at front mid raw refl in (
      drop raw whole,
      sym (take-append-drop raw whole) ∙ ap (λ s. s ++ drop raw whole) begin,
      sym (drop-take raw n whole) ∙ ap (λ k. drop raw (take k whole)) (sym sum) ∙ ap (drop raw) (sym same) ∙ ap (λ k. drop raw (take k (front ++ mid))) sum
          ∙ drop-take raw n (front ++ mid) ∙ ap (take n) (drop_at front mid raw refl),
    )

-- a body within the limits isn't too large
pub body_not_large : (bytes b r : List ℕ) → IsChunkedBody bytes b r → IsLargeChunked bytes → ⊥
body_not_large bytes b r x (inl y) =
    omega (
      arith,
      x.small,
      ap length x.reads.carried,
      y.large,
      sum_bounded x.reads.chunks y.chunks x.reads.last y.next (13 ∷ 10 ∷ r) y.after x.reads.are y.are x.reads.line x.reads.zero y.line (sym x.reads.printed ∙ y.printed),
    )
body_not_large bytes b r x (inr y) =
    let last = print_chunk_line x.reads.last in
    let front = chunks_then x.reads.chunks [] ++ (last ++ 13 ∷ 10 ∷ []) in
    let joined : (s : List ℕ) → chunks_then x.reads.chunks (last ++ 13 ∷ 10 ∷ s) ≡ front ++ s =
    λ s. chunks_split x.reads.chunks (last ++ 13 ∷ 10 ∷ s)
    ∙ sym (append_assoc (chunks_then x.reads.chunks []) (last ++ 13 ∷ 10 ∷ []) s ∙ ap (λ t. chunks_then x.reads.chunks [] ++ t) (append_assoc last (13 ∷ 10 ∷ []) s)) in
    let all : bytes ≡ front ++ r = x.reads.printed ∙ joined r in
    let fits : length front ≤ 2097152 = omega (arith, x.short, ap length all, length-append front r) in
    let other = alike front r y.whole 2097152 fits (ap (take 2097152) (sym all) ∙ y.same) in
    let whole : ReadsChunked y.whole b other.0 = record {
      chunks = x.reads.chunks;
      are = x.reads.are;
      last = x.reads.last;
      line = x.reads.line;
      zero = x.reads.zero;
      printed = other.1 ∙ sym (joined other.0);
      carried = x.reads.carried;
    } in
    let none : other.0 ≡ [] = (one_body y.whole b y.body other.0 [] whole y.reads).1 in
    omega (arith, y.longer, ap length other.1, length-append front other.0, ap length none)

-- what may follow a size line, behind so many bytes of the body
abbrev pub Follows : ℕ → ℕ → List ℕ → Type 0
Follows kept size after =
    ((size ≡ 0) × (rest : List ℕ) × (after ≡ 13 ∷ 10 ∷ rest))
    ⊎ ((1048576 < kept + size) ⊎ ((0 < size) × (c : List ℕ) × (rest : List ℕ) × (length c ≡ size) × (after ≡ c ++ 13 ∷ 10 ∷ rest)))

-- a size line and what may follow it
pub record Item (kept : ℕ) (bytes : List ℕ) : Type 0 where
  pub line : ChunkLine
  pub is : IsChunkLine line
  pub after : List ℕ
  pub reads : bytes ≡ print_chunk_line line ++ after
  pub follows : Follows kept (chunk_size line) after

-- how a body ends, or a sum passes the limit
abbrev Ends : ℕ → ℕ → List ℕ → Type 0
Ends kept size after = ((size ≡ 0) × (rest : List ℕ) × (after ≡ 13 ∷ 10 ∷ rest)) ⊎ (1048576 < kept + size)

-- behind the chunks that were read an item stands
next_item : (cs ds : List Chunk) (k : ChunkLine) (mid after : List ℕ) (before kept : ℕ) → AreChunks cs → AreChunks ds → IsChunkLine k
    → kept ≡ before + length (content_of cs) → kept ≤ 1048576
    → chunks_then cs mid ≡ chunks_then ds (print_chunk_line k ++ after) → Ends (before + length (content_of ds)) (chunk_size k) after → Item kept mid
next_item [] [] k mid after before kept x y is sum few e (inl ends) = record { line = k; is = is; after = after; reads = e; follows = inl ends }
next_item [] [] k mid after before kept x y is sum few e (inr large) = record { line = k; is = is; after = after; reads = e; follows = inr (inl (omega arith)) }
next_item [] (d ∷ ds) k mid after before kept x y is sum few e ends = record {
  line = d.line;
  is = y.0.line;
  after = d.content ++ 13 ∷ 10 ∷ chunks_then ds (print_chunk_line k ++ after);
  reads = e;
  follows = inr (inr (y.0.some, d.content, chunks_then ds (print_chunk_line k ++ after), y.0.size, refl));
}
next_item (c ∷ cs) [] k mid after before kept x y is sum few e (inl ends) = absurd (last_is_no_chunk k c _ _ is ends.0 x.0 (sym e))
next_item (c ∷ cs) [] k mid after before kept x y is sum few e (inr large) =
    absurd (omega (arith, x.0.size, ap chunk_size (line_one c.line k _ after x.0.line is e).0, length-append c.content (content_of cs)))
next_item (c ∷ cs) (d ∷ ds) k mid after before kept x y is sum few e ends =
    let here = chunk_one c d _ _ x.0 y.0 e in
    next_item cs ds k mid after (before + length c.content) kept x.1 y.1 is (omega (arith, length-append c.content (content_of cs))) few here.1 (moved ends (ap length here.0))
  where
    moved : Ends (before + length (d.content ++ content_of ds)) (chunk_size k) after → length c.content ≡ length d.content → Ends (before + length c.content + length (content_of ds)) (chunk_size k) after
    moved (inl ends) len = inl ends
    moved (inr large) len = inr (omega (arith, length-append d.content (content_of ds)))

module _ (stream body mid : List ℕ) (raw : ℕ) (s : StandsBehind stream body mid raw) (few : length body ≤ 1048576) where
  item_of_body : (mid' b r : List ℕ) → ReadsChunked (chunks_then s.chunks mid') b r → Item (length body) mid'
  item_of_body mid' b r x =
      next_item s.chunks x.chunks x.last mid' (13 ∷ 10 ∷ r) 0 (length body) s.are x.are x.line (omega (arith, ap length s.carried)) few x.printed (inl (x.zero, r, refl))

  item_of_sum : HasLargeSum stream → Item (length body) mid
  item_of_sum x =
      next_item s.chunks x.chunks x.next mid x.after 0 (length body) s.are x.are x.line (omega (arith, ap length s.carried)) few (sym s.printed ∙ x.printed) (inr (omega (arith, x.large)))

  body_at : (b r : List ℕ) → ReadsChunked stream b r → ReadsChunked (chunks_then s.chunks mid) b r
  body_at b r x = record { chunks = x.chunks; are = x.are; last = x.last; line = x.line; zero = x.zero; printed = sym s.printed ∙ x.printed; carried = x.carried }

  -- the whole stream is known, and no item is next
  pub bad_at_end : length stream ≤ 2097152 → (Item (length body) mid → ⊥) → IsBadChunked stream
  bad_at_end short without = record {
    none = λ b r x. without (item_of_body mid b r (body_at b r x.reads));
    not_large = large;
  }
    where
      large : IsLargeChunked stream → ⊥
      large (inl x) = without (item_of_sum x)
      large (inr x) = omega (arith, x.long)

  -- whatever follows the raw bytes up to the limit, no item is next
  pub bad_before : raw ≤ 2097152 → ((mid' : List ℕ) → take (2097152 - raw) mid' ≡ take (2097152 - raw) mid → Item (length body) mid' → ⊥) → IsBadChunked stream
  bad_before fits without = record {
    none = λ b r x. without mid refl (item_of_body mid b r (body_at b r x.reads));
    not_large = large;
  }
    where
      front : List ℕ
      front = chunks_then s.chunks []

      large : IsLargeChunked stream → ⊥
      large (inl x) = without mid refl (item_of_sum x)
      large (inr x) =
          let all : stream ≡ front ++ mid = s.printed ∙ chunks_split s.chunks mid in
          let other = alike front mid x.whole 2097152 (omega (arith, s.count)) (ap (take 2097152) (sym all) ∙ x.same) in
          let n : 2097152 - length front ≡ 2097152 - raw = omega (arith, s.count) in
          let whole : ReadsChunked (chunks_then s.chunks other.0) x.body [] = record {
            chunks = x.reads.chunks;
            are = x.reads.are;
            last = x.reads.last;
            line = x.reads.line;
            zero = x.reads.zero;
            printed = chunks_split s.chunks other.0 ∙ sym other.1 ∙ x.reads.printed;
            carried = x.reads.carried;
          } in
          without other.0 (ap (λ k. take k other.0) (sym n) ∙ other.2 ∙ ap (λ k. take k mid) n) (item_of_body other.0 x.body [] whole)
