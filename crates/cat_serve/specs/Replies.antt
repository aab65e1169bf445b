-- What a session writes in reply.
use Rattle.std.specs.Prelude.{◌≡◌, ◌⊎◌, ℕ, List, Option, Some, None, Bool, true, false, Result, Ok, Err, codes, bytes_eq}
use Rattle.serde_json.specs.Written.{compact_text}
use Rattle.cat_model.specs.declared.reply.Told.{Told}
use Rattle.cat_model.specs.declared.refusal.Refused.{Refused}
use Rattle.cat_model.specs.declared.refusal.Refusal.{Refusal}
use Rattle.cat_model.specs.declared.refusal.Refusal.TheVariants as refusals
use Rattle.cat_checks.specs.Changes.{tells_change}
use Rattle.cat_http.specs.Message.{Message}
use Rattle.cat_http.specs.Reply.{rendered, no_memory_text}
use Rattle.cat_replies.specs.Replies.{reply_data}
use Rattle.cat_replies.specs.Refusals.{refusal_data}
use Rattle.cat_replies.specs.Wording.{status_of}
use Rattle.cat_model.specs.declared.refusal.Allowed.{Allowed}
use Rattle.cat_model.specs.declared.refusal.Allowed.TheVariants as allowed

-- the methods of a route
abbrev pub methods_text : Allowed → List ℕ
methods_text allowed.Get = codes "GET"
methods_text allowed.Post = codes "POST"
methods_text allowed.GetPost = codes "GET, POST"
methods_text allowed.GetPutDelete = codes "GET, PUT, DELETE"

-- the methods that a refusal tells
abbrev pub allow_of : Refusal → Option (List ℕ)
allow_of (refusals.WrongMethod methods) = Some (methods_text methods)
allow_of why = None

-- the text of a refusal; that of want of memory is fixed
abbrev pub refusal_text : Refusal → List ℕ
refusal_text refusals.NoMemory = no_memory_text
refusal_text why = compact_text (refusal_data why)

-- the bytes of the reply that tells this, by whether the session ends after it, and whether it is to HEAD
unfoldable pub said_bytes : Bool → Bool → Result Told Refused → List ℕ
said_bytes close head_only (Ok told) = rendered 200 None (Some told.place) close head_only (compact_text (reply_data told.reply))
said_bytes close head_only (Err refused) =
    rendered (status_of refused.why) (allow_of refused.why) refused.place close head_only (refusal_text refused.why)

-- the bytes of the reply to what is no request, or to a body that is too large
abbrev pub refused_bytes : Refusal → List ℕ
refused_bytes why = said_bytes true false (Err (record { place = None; why = why }))

-- these are the bytes of that reply, or where no memory is left for its text, of the one that tells so
abbrev pub IsRefusalOf : Refusal → List ℕ → Type 0
IsRefusalOf why bytes = (bytes ≡ refused_bytes why) ⊎ (bytes ≡ refused_bytes refusals.NoMemory)

-- a reply to HEAD has no body
abbrev pub is_head : Message → Bool
is_head m = bytes_eq m.method (codes "HEAD")

-- ---- where no memory is left for the text of a reply

abbrev pub is_fault : Refusal → Bool
is_fault refusals.Fault = true
is_fault why = false

-- want of memory isn't told in place of this: a change that was made, or one whose entry may have been kept
abbrev pub must_be_told : Result Told Refused → Bool
must_be_told (Ok told) = tells_change told.reply
must_be_told (Err refused) = is_fault refused.why
