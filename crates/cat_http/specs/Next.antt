-- The next request of a stream of bytes.
use Rattle.std.specs.Prelude.{◌≡◌, ℕ, ◌<◌, ◌≤◌, ◌⊎◌, List, ◌++◌, map, length, ⊤}
use Rattle.httparse.specs.Grammar.{RequestHead, print_request, ReadsRequest}
use Rattle.httparse.specs.Spans.{name_and_value}
use Rattle.cat_http.specs.Message.{Pair, Message}
use Rattle.cat_http.specs.Blank.{IsBlank}
use Rattle.cat_http.specs.Fields.{body_length}
use Rattle.cat_http.specs.declared.fields.BodyLength.{BodyLength}
use Rattle.cat_http.specs.declared.fields.BodyLength.TheVariants.{Bytes, Chunked, Malformed, Excess}
use Rattle.cat_http.specs.Chunked.{IsChunkedBody, IsLargeChunked, IsBadChunked}

-- the names and the values of a head
abbrev pub fields_of : RequestHead → List Pair
fields_of h = map name_and_value h.fields

-- bytes begin with that head, which is within the limits, and rest follows it
pub record IsHead (bytes : List ℕ) (h : RequestHead) (rest : List ℕ) : Type 0 where
  pub reads : ReadsRequest bytes h rest
  pub short : length (print_request h) ≤ 16384
  pub few : length h.fields ≤ 64

-- bytes begin with no head within the limits
abbrev pub HasNoHead : List ℕ → Type 0
HasNoHead bytes = (h : RequestHead) (rest : List ℕ) → ¬ (IsHead bytes h rest)

-- only empty lines, no more than a head may have
pub record IsEnd (bytes : List ℕ) : Type 0 where
  pub blank : IsBlank bytes
  pub short : length bytes ≤ 16384

-- the body of that kind stands at the front of the bytes
abbrev pub IsBody : BodyLength → List ℕ → List ℕ → List ℕ → Type 0
IsBody (Bytes n) bytes body rest = (length body ≡ n) × (bytes ≡ body ++ rest)
IsBody Chunked bytes body rest = IsChunkedBody bytes body rest
IsBody Malformed bytes body rest = ⊥
IsBody Excess bytes body rest = ⊥

-- a body of that kind at the front of the bytes is too large
abbrev pub IsLargeBody : BodyLength → List ℕ → Type 0
IsLargeBody (Bytes n) bytes = ⊥
IsLargeBody Chunked bytes = IsLargeChunked bytes
IsLargeBody Malformed bytes = ⊥
IsLargeBody Excess bytes = ⊤

-- no body of that kind is at the front of the bytes, or not all of it
abbrev pub IsBadBody : BodyLength → List ℕ → Type 0
IsBadBody (Bytes n) bytes = length bytes < n
IsBadBody Chunked bytes = IsBadChunked bytes
IsBadBody Malformed bytes = ⊤
IsBadBody Excess bytes = ⊥

-- bytes begin with the request, and rest follows it
pub record IsRequest (bytes : List ℕ) (m : Message) (rest : List ℕ) : Type 0 where
  pub head : RequestHead
  pub after : List ℕ
  pub reads : IsHead bytes head after
  pub method : m.method ≡ head.method
  pub target : m.target ≡ head.target
  pub minor : m.minor ≡ head.minor
  pub fields : m.fields ≡ fields_of head
  pub body : IsBody (body_length (fields_of head)) after m.body rest

-- these bytes begin with a request
abbrev pub HoldsRequest : List ℕ → Type 0
HoldsRequest bytes = (m : Message) × (rest : List ℕ) × IsRequest bytes m rest

-- the body that the head states is too large
abbrev pub IsTooLarge : List ℕ → Type 0
IsTooLarge bytes = (h : RequestHead) × (after : List ℕ) × IsHead bytes h after × IsLargeBody (body_length (fields_of h)) after

-- the stream was read up to left, and what came of it is no whole request, nor the head of one that is too large
pub record IsCut (stream left : List ℕ) : Type 0 where
  pub came : List ℕ
  pub split : stream ≡ came ++ left
  pub not_whole : ¬ (HoldsRequest came)
  pub not_large : ¬ (IsTooLarge came)

-- a head whose body is malformed or cut, or has no length
abbrev pub HasBadBody : List ℕ → Type 0
HasBadBody bytes = (h : RequestHead) × (after : List ℕ) × IsHead bytes h after × IsBadBody (body_length (fields_of h)) after

-- something is there that is no request
abbrev pub IsMalformed : List ℕ → Type 0
IsMalformed bytes = (HasNoHead bytes × ¬ (IsEnd bytes)) ⊎ HasBadBody bytes
