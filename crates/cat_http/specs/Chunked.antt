-- Bodies in chunks (RFC 9112, section 7.1), without trailers.
use Rattle.std.specs.Prelude.{◌≡◌, ◌⊎◌, ℕ, ◌+◌, ◌<◌, ◌≤◌, List, [], ◌∷◌, ◌++◌, length, take, ⊤}
use Rattle.httparse.specs.Grammar.{ChunkLine, IsChunkLine, chunk_size, print_chunk_line}

-- a line that says a size, and so many bytes
pub record Chunk : Type 0 where
  pub line : ChunkLine
  pub content : List ℕ

-- the size isn't 0, which is the last line's
pub record IsChunk (c : Chunk) : Type 0 where
  pub line : IsChunkLine c.line
  pub some : 0 < chunk_size c.line
  pub size : length c.content ≡ chunk_size c.line

abbrev pub AreChunks : List Chunk → Type 0
AreChunks [] = ⊤
AreChunks (c ∷ cs) = IsChunk c × AreChunks cs

-- the bytes of the chunks, each of which ends in CR LF, and then rest
abbrev pub chunks_then : List Chunk → List ℕ → List ℕ
chunks_then [] rest = rest
chunks_then (c ∷ cs) rest = print_chunk_line c.line ++ (c.content ++ 13 ∷ 10 ∷ chunks_then cs rest)

-- what the chunks carry
abbrev pub content_of : List Chunk → List ℕ
content_of [] = []
content_of (c ∷ cs) = c.content ++ content_of cs

-- bytes are chunks that carry the body, the line of size 0, an empty line, and then rest
pub record ReadsChunked (bytes body rest : List ℕ) : Type 0 where
  pub chunks : List Chunk
  pub are : AreChunks chunks
  pub last : ChunkLine
  pub line : IsChunkLine last
  pub zero : chunk_size last ≡ 0
  pub printed : bytes ≡ chunks_then chunks (print_chunk_line last ++ 13 ∷ 10 ∷ rest)
  pub carried : body ≡ content_of chunks

-- the same within the limits of a body and of its raw bytes
pub record IsChunkedBody (bytes body rest : List ℕ) : Type 0 where
  pub reads : ReadsChunked bytes body rest
  pub small : length body ≤ 1048576
  pub short : length bytes ≤ 2097152 + length rest

-- behind some chunks a line says a size that takes their sum past the limit
pub record HasLargeSum (bytes : List ℕ) : Type 0 where
  pub chunks : List Chunk
  pub are : AreChunks chunks
  pub next : ChunkLine
  pub line : IsChunkLine next
  pub after : List ℕ
  pub printed : bytes ≡ chunks_then chunks (print_chunk_line next ++ after)
  pub large : 1048576 < length (content_of chunks) + chunk_size next

-- there are more raw bytes than a body may have, and up to there they begin a longer body
pub record IsUnfinished (bytes : List ℕ) : Type 0 where
  pub long : 2097152 < length bytes
  pub whole : List ℕ
  pub body : List ℕ
  pub reads : ReadsChunked whole body []
  pub longer : 2097152 < length whole
  pub same : take 2097152 bytes ≡ take 2097152 whole

-- a body in chunks is too large
abbrev pub IsLargeChunked : List ℕ → Type 0
IsLargeChunked bytes = HasLargeSum bytes ⊎ IsUnfinished bytes

-- no body in chunks is there, and none that is too large
pub record IsBadChunked (bytes : List ℕ) : Type 0 where
  pub none : (body rest : List ℕ) → ¬ (IsChunkedBody bytes body rest)
  pub not_large : ¬ (IsLargeChunked bytes)
