-- What reading a body in chunks answers.
use Rattle.std.specs.Prelude.{◌≡◌, ◌≢◌, ◌⊎◌, ℕ, ◌+◌, ◌<◌, ◌≤◌, List, [], ◌++◌, length, min, get_or, Option, Some, None, slice_range, ⊤}
use Rattle.std.specs.Io.KnownBytes.{IsAtEnd}
use Rattle.httparse.specs.Grammar.{ChunkLine, ReadsChunkLine, HasNoChunkLine, NeverHasChunkLine, MayBecomeChunkLine}
use Rattle.httparse.specs.Spans.{IsChunkLineAt}
use Rattle.cat_http.specs.Chunked.{Chunk, AreChunks, chunks_then, content_of, ReadsChunked, IsChunkedBody, IsLargeChunked, IsBadChunked}
use Rattle.cat_http.specs.declared.chunked.ChunkedRead.{ChunkedRead}
use Rattle.cat_http.specs.declared.chunked.ChunkedRead.TheVariants.{Whole, Malformed, TooLarge, Fault}
use Rattle.cat_http.specs.declared.size_line.SizeRead.{SizeRead}
use Rattle.cat_http.specs.declared.size_line.SizeRead.TheVariants as size
use Rattle.cat_http.specs.declared.chunk_end.EndRead.{EndRead}
use Rattle.cat_http.specs.declared.chunk_end.EndRead.TheVariants as ending

-- the stream is chunks that carry the body, of so many raw bytes, and then unread
pub record StandsBehind (stream body unread : List ℕ) (raw : ℕ) : Type 0 where
  pub chunks : List Chunk
  pub are : AreChunks chunks
  pub printed : stream ≡ chunks_then chunks unread
  pub carried : body ≡ content_of chunks
  pub count : raw ≡ length (chunks_then chunks [])

-- the same where the source tells its bytes
abbrev pub StandsBehindOf : Option (List ℕ) → Option (List ℕ) → List ℕ → List ℕ → List ℕ → ℕ → Type 0
StandsBehindOf None new given body unread raw = ⊤
StandsBehindOf (Some xs) None given body unread raw = ⊥
StandsBehindOf (Some xs) (Some ys) given body unread raw = StandsBehind (given ++ xs) body (unread ++ ys) raw

-- the stream was read up to left, and what came of it is no body in chunks, nor one that is too large
pub record IsCutChunked (stream left : List ℕ) : Type 0 where
  pub came : List ℕ
  pub split : stream ≡ came ++ left
  pub bad : IsBadChunked came

-- what the bytes of the stream come to
abbrev pub AnswerIs : ChunkedRead → List ℕ → ℕ → ℕ → List ℕ → List ℕ → Type 0
AnswerIs (Whole kept at) bytes start end stream left = IsChunkedBody stream (slice_range bytes start (start + kept)) (slice_range bytes at end ++ left)
AnswerIs Malformed bytes start end stream left = IsBadChunked stream
AnswerIs TooLarge bytes start end stream left = IsLargeChunked stream
AnswerIs Fault bytes start end stream left = IsCutChunked stream left

abbrev pub AnswerOf : ChunkedRead → Option (List ℕ) → Option (List ℕ) → List ℕ → List ℕ → ℕ → ℕ → Type 0
AnswerOf answer None new given bytes start end = ⊤
AnswerOf answer (Some xs) None given bytes start end = ⊥
AnswerOf answer (Some xs) (Some ys) given bytes start end = AnswerIs answer bytes start end (given ++ xs) ys

-- P of how long the body is and where the next bytes stand, where it is whole
abbrev pub IfWhole : ChunkedRead → (ℕ → ℕ → Type 0) → Type 0
IfWhole (Whole kept at) P = P kept at
IfWhole Malformed P = ⊤
IfWhole TooLarge P = ⊤
IfWhole Fault P = ⊤

-- these bytes begin with a body in chunks
abbrev pub HoldsChunks : List ℕ → Type 0
HoldsChunks bytes = (body : List ℕ) × (rest : List ℕ) × ReadsChunked bytes body rest

-- these bytes begin with a size line
abbrev pub HoldsLine : List ℕ → Type 0
HoldsLine bytes = (l : ChunkLine) × (rest : List ℕ) × ReadsChunkLine bytes l rest

-- what reading a size line at a place found, in the bytes up to end, of which those before the limit count
abbrev pub SizeIs : SizeRead → List ℕ → ℕ → ℕ → ℕ → Option (List ℕ) → Type 0
SizeIs (size.Found len n) bytes at end limit left = (at + len ≤ min end limit) × (l : ChunkLine) × IsChunkLineAt (slice_range bytes at (min end limit)) len n l
SizeIs size.Cut bytes at end limit left = IsAtEnd left × (end ≤ limit) × HasNoChunkLine (slice_range bytes at end)
SizeIs size.Malformed bytes at end limit left = NeverHasChunkLine (slice_range bytes at (min end limit))
SizeIs size.TooLarge bytes at end limit left = (limit < end) × MayBecomeChunkLine (slice_range bytes at limit)
SizeIs size.Fault bytes at end limit left = (end ≤ limit) × HasNoChunkLine (slice_range bytes at end)

-- what reading CR LF at a place found
abbrev pub EndIs : EndRead → List ℕ → ℕ → ℕ → ℕ → Option (List ℕ) → Type 0
EndIs ending.Whole bytes at end limit left = (at + 2 ≤ end) × (at + 2 ≤ limit) × (get_or bytes at 0 ≡ 13) × (get_or bytes (at + 1) 0 ≡ 10)
EndIs ending.Cut bytes at end limit left = IsAtEnd left × (end < at + 2) × (end ≤ limit)
EndIs ending.Malformed bytes at end limit left =
    ((at < end) × (at < limit) × (get_or bytes at 0 ≢ 13)) ⊎ ((at + 1 < end) × (at + 1 < limit) × (get_or bytes (at + 1) 0 ≢ 10))
EndIs ending.TooLarge bytes at end limit left = (limit < end) × (limit < at + 2) × (at < limit → get_or bytes at 0 ≡ 13)
EndIs ending.Fault bytes at end limit left = (end < at + 2) × (end ≤ limit)
