-- From what the buffer's bytes say to what callers see.
use Rattle.std.proofs.Common.{◌≡◌, ℕ, List, ◌++◌, sym, subst}
use Rattle.std.specs.Prelude.{Option, Some, None, slice_range}
use Rattle.httparse.specs.declared.spans.HeaderSpan.{HeaderSpan}
use Rattle.httparse.specs.declared.spans.RequestSpans.{RequestSpans}
use Rattle.cat_http.specs.Message.{Buffered, message_at}
use Rattle.cat_http.specs.Next.{IsRequest, IsEnd, IsMalformed, IsTooLarge, IsCut}
use Rattle.cat_http.specs.Outcome.{OutcomeOf}
use Rattle.cat_http.specs.Reading.{IncomingOf}
use Rattle.cat_http.specs.declared.next.Outcome.TheVariants as outcome
use Rattle.cat_http.specs.declared.buffer.Incoming.TheVariants as incoming

pub incoming_request : (old new : Option (List ℕ)) (before : Buffered) (seen bytes bytes' : List ℕ) (hs hs' : List HeaderSpan) (head : RequestSpans) (stop next end : ℕ)
    → seen ≡ before.unread → OutcomeOf (outcome.Request head stop next) old new seen bytes hs end → bytes' ≡ bytes → hs' ≡ hs
    → IncomingOf incoming.Request old before new (record { message = message_at bytes' hs' head stop; unread = slice_range bytes' next end })
incoming_request None new before seen bytes bytes' hs hs' head stop next end same is eb eh = tt
incoming_request (Some xs) None before seen bytes bytes' hs hs' head stop next end same is eb eh = is
incoming_request (Some xs) (Some ys) before seen bytes bytes' hs hs' head stop next end same is eb eh =
    let one : IsRequest (before.unread ++ xs) (message_at bytes hs head stop) (slice_range bytes next end ++ ys) =
    subst (λ s. IsRequest (s ++ xs) (message_at bytes hs head stop) (slice_range bytes next end ++ ys)) same is in
    let two : IsRequest (before.unread ++ xs) (message_at bytes' hs head stop) (slice_range bytes' next end ++ ys) =
    subst (λ b. IsRequest (before.unread ++ xs) (message_at b hs head stop) (slice_range b next end ++ ys)) (sym eb) one in
    subst (λ h. IsRequest (before.unread ++ xs) (message_at bytes' h head stop) (slice_range bytes' next end ++ ys)) (sym eh) two

pub incoming_end : (old new : Option (List ℕ)) (before now : Buffered) (seen bytes : List ℕ) (hs : List HeaderSpan) (end : ℕ)
    → seen ≡ before.unread → OutcomeOf outcome.End old new seen bytes hs end → IncomingOf incoming.End old before new now
incoming_end None new before now seen bytes hs end same is = tt
incoming_end (Some xs) None before now seen bytes hs end same is = is
incoming_end (Some xs) (Some ys) before now seen bytes hs end same is = subst (λ s. IsEnd (s ++ xs)) same is

pub incoming_malformed : (old new : Option (List ℕ)) (before now : Buffered) (seen bytes : List ℕ) (hs : List HeaderSpan) (end : ℕ)
    → seen ≡ before.unread → OutcomeOf outcome.Malformed old new seen bytes hs end → IncomingOf incoming.BadHead old before new now
incoming_malformed None new before now seen bytes hs end same is = tt
incoming_malformed (Some xs) None before now seen bytes hs end same is = is
incoming_malformed (Some xs) (Some ys) before now seen bytes hs end same is = subst (λ s. IsMalformed (s ++ xs)) same is

pub incoming_large : (old new : Option (List ℕ)) (before now : Buffered) (seen bytes : List ℕ) (hs : List HeaderSpan) (end : ℕ)
    → seen ≡ before.unread → OutcomeOf outcome.TooLarge old new seen bytes hs end → IncomingOf incoming.TooLarge old before new now
incoming_large None new before now seen bytes hs end same is = tt
incoming_large (Some xs) None before now seen bytes hs end same is = is
incoming_large (Some xs) (Some ys) before now seen bytes hs end same is = subst (λ s. IsTooLarge (s ++ xs)) same is

pub incoming_fault : (old new : Option (List ℕ)) (before now : Buffered) (seen bytes : List ℕ) (hs : List HeaderSpan) (end : ℕ)
    → seen ≡ before.unread → OutcomeOf outcome.Fault old new seen bytes hs end → IncomingOf incoming.ReadFault old before new now
incoming_fault None new before now seen bytes hs end same is = tt
incoming_fault (Some xs) None before now seen bytes hs end same is = is
incoming_fault (Some xs) (Some ys) before now seen bytes hs end same is = subst (λ s. IsCut (s ++ xs) ys) same is
