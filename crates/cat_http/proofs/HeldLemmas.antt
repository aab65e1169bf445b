-- What a buffer that holds all of a body in chunks says of its lines and their data.
use Rattle.std.proofs.Common.{arith, ◌≡◌, ℕ, ◌+◌, ◌-◌, ◌<◌, ◌≤◌, List, [], ◌∷◌, ◌++◌, length, take, drop, sym, ap, ◌∙◌, refl, subst, length-append}
use Rattle.std.specs.Prelude.{slice_range}
use Rattle.std.proofs.lemmas.List.{drop_at, drop-drop}
use Rattle.std.proofs.lemmas.Slice.{between_is}
use Rattle.httparse.specs.Grammar.{ChunkLine, IsChunkLine, chunk_size, print_chunk_line}
use Rattle.httparse.specs.Spans.{IsChunkLineAt}
use Rattle.cat_http.specs.Chunked.{Chunk, AreChunks, chunks_then, content_of}
use Rattle.cat_http.specs.ChunkedRead.{HoldsChunks, HoldsLine}
use Rattle.cat_http.proofs.ChunkLemmas.{line_one}
use Rattle.cat_http.proofs.ChunkBuffer.{slice_split, slice_len, line_here}

first_line : (cs : List Chunk) (last : ChunkLine) (rest : List ℕ) → AreChunks cs → IsChunkLine last → HoldsLine (chunks_then cs (print_chunk_line last ++ 13 ∷ 10 ∷ rest))
first_line [] last rest are line = (last, 13 ∷ 10 ∷ rest, (line, refl))
first_line (c ∷ cs) last rest are line = (c.line, c.content ++ 13 ∷ 10 ∷ chunks_then cs (print_chunk_line last ++ 13 ∷ 10 ∷ rest), (are.0.line, refl))

-- a body in chunks begins with a size line
pub line_held : (bytes : List ℕ) → HoldsChunks bytes → HoldsLine bytes
line_held bytes (body, rest, is) =
    let first = first_line is.chunks is.last rest is.are is.line in
    (first.0, first.1, (first.2.0, is.printed ∙ first.2.1))

-- the same where nothing was read
pub held_again : (b b' : List ℕ) (at e e' : ℕ) → b' ≡ b → e' ≡ e → HoldsChunks (slice_range b at e) → HoldsChunks (slice_range b' at e')
held_again b b' at e e' bytes end held =
    subst (λ k. HoldsChunks (slice_range b' at k)) (sym end) (subst (λ s. HoldsChunks (slice_range s at e)) (sym bytes) held)

-- behind a line are its data and CR LF, and behind those of a chunk the others
behind_line : (cs : List Chunk) (last l : ChunkLine) (rest after : List ℕ) → AreChunks cs → IsChunkLine last → chunk_size last ≡ 0 → IsChunkLine l
    → chunks_then cs (print_chunk_line last ++ 13 ∷ 10 ∷ rest) ≡ print_chunk_line l ++ after
    → (chunk_size l + 2 ≤ length after)
    × (0 < chunk_size l → (ds : List Chunk) × AreChunks ds × (drop (chunk_size l + 2) after ≡ chunks_then ds (print_chunk_line last ++ 13 ∷ 10 ∷ rest)))
behind_line [] last l rest after are line zero is e =
    let same = line_one last l (13 ∷ 10 ∷ rest) after line is e in
    (omega (arith, ap length same.1, ap chunk_size same.0), λ some. absurd (omega (arith, ap chunk_size same.0)))
behind_line (c ∷ cs) last l rest after are line zero is e =
    let more = chunks_then cs (print_chunk_line last ++ 13 ∷ 10 ∷ rest) in
    let same = line_one c.line l (c.content ++ 13 ∷ 10 ∷ more) after are.0.line is e in
    let n = length c.content in
    let size : n ≡ chunk_size l = are.0.size ∙ ap chunk_size same.0 in (
      omega (arith, ap length same.1, length-append c.content (13 ∷ 10 ∷ more)),
      λ some. (
        cs,
        are.1,
        ap (λ k. drop (k + 2) after) (sym size) ∙ ap (drop (n + 2)) (sym same.1) ∙ sym (drop-drop 2 n (c.content ++ 13 ∷ 10 ∷ more))
            ∙ ap (drop 2) (drop_at c.content (13 ∷ 10 ∷ more) n refl),
      ),
    )

-- the line at a place was found in bytes that hold all that is left of a body
module _ (b : List ℕ) (at len n m e : ℕ) (l : ChunkLine) (held : HoldsChunks (slice_range b at e)) (within : e ≤ length b) (seen : m ≤ e) (inside : at + len ≤ m)
    (is : IsChunkLineAt (slice_range b at m) len n l) where
  abbrev after : List ℕ
  after = slice_range b (at + len) e

  mid_is : slice_range b at e ≡ print_chunk_line l ++ after
  mid_is =
      slice_split b at (at + len) e (omega arith) (omega arith)
      ∙ ap (λ t. t ++ after) (line_here b b at len n m e l is inside seen refl)

  behind : (chunk_size l + 2 ≤ length after)
      × (0 < chunk_size l → (ds : List Chunk) × AreChunks ds × (drop (chunk_size l + 2) after ≡ chunks_then ds (print_chunk_line held.2.last ++ 13 ∷ 10 ∷ held.1)))
  behind = behind_line held.2.chunks held.2.last l held.1 after held.2.are held.2.line held.2.zero is.reads.0 (sym held.2.printed ∙ mid_is)

  -- so do its data and CR LF stand there
  pub data_held : at + len + n + 2 ≤ e
  data_held = omega (arith, behind.0, slice_len b (at + len) e (omega arith) within, is.size_is)

  -- and all that is left behind them
  pub others_held : (b' : List ℕ) → drop (at + len + n + 2) b' ≡ drop (at + len + n + 2) b → 0 < n → HoldsChunks (slice_range b' (at + len + n + 2) e)
  others_held b' back some =
      let next = at + len + n + 2 in
      let others = behind.1 (omega (arith, is.size_is)) in
      let sum : next ≡ at + len + (chunk_size l + 2) = omega (arith, is.size_is) in
      let rest_is : slice_range b next e ≡ drop (chunk_size l + 2) after =
      between_is b next e ∙ ap (λ k. drop k (take e b)) sum ∙ sym (drop-drop (chunk_size l + 2) (at + len) (take e b))
      ∙ ap (drop (chunk_size l + 2)) (sym (between_is b (at + len) e)) in (
        content_of others.0,
        held.1,
        record {
          chunks = others.0;
          are = others.1;
          last = held.2.last;
          line = held.2.line;
          zero = held.2.zero;
          printed = ap (take (e - next)) back ∙ rest_is ∙ others.2;
          carried = refl;
        },
      )
