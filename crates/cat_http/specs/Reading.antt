-- The one reading of a stream, and what reading a request from it answers.
use Rattle.std.specs.Prelude.{◌≡◌, ℕ, List, ◌++◌, Option, Some, None, ⊤}
use Rattle.cat_http.specs.Message.{Message, Buffered}
use Rattle.cat_http.specs.Next.{IsRequest, IsEnd, IsMalformed, IsTooLarge, IsCut}
use Rattle.cat_http.specs.declared.buffer.Incoming.{Incoming}
use Rattle.cat_http.specs.declared.buffer.Incoming.TheVariants.{Request, End, BadHead, TooLarge, ReadFault}

-- what comes next on a stream
pub data Next : Type 0 where
  -- a request, and what follows it
  request : Message → List ℕ → Next
  end bad_head too_large : Next

-- the stream goes on so
abbrev pub IsNext : List ℕ → Next → Type 0
IsNext bytes (request m rest) = IsRequest bytes m rest
IsNext bytes end = IsEnd bytes
IsNext bytes bad_head = IsMalformed bytes
IsNext bytes too_large = IsTooLarge bytes

-- a stream goes on in one way
abbrev pub HasOneReading : Type 0
HasOneReading = (bytes : List ℕ) (a b : Next) → IsNext bytes a → IsNext bytes b → a ≡ b

-- the answer is that of the stream; after a request the rest of it is in the buffer and the source, and a read that failed leaves one that was cut
abbrev pub IncomingIs : Incoming → List ℕ → Buffered → List ℕ → Type 0
IncomingIs Request stream now left = IsRequest stream now.message (now.unread ++ left)
IncomingIs End stream now left = IsEnd stream
IncomingIs BadHead stream now left = IsMalformed stream
IncomingIs TooLarge stream now left = IsTooLarge stream
IncomingIs ReadFault stream now left = IsCut stream left

-- the same where the source tells its bytes
abbrev pub IncomingOf : Incoming → Option (List ℕ) → Buffered → Option (List ℕ) → Buffered → Type 0
IncomingOf incoming None old left now = ⊤
IncomingOf incoming (Some before) old None now = ⊥
IncomingOf incoming (Some before) old (Some left) now = IncomingIs incoming (old.unread ++ before) now left
