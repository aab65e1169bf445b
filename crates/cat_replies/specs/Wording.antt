-- The texts of the API for references, conflicts, merges and refusals.
use Rattle.std.proofs.Common.{◌≡◌, ℕ, List, [], ◌++◌, length, codes, is_none, unwrap_or, false, refl}
use Rattle.std.specs.Fmt.{decimal}
use Rattle.http.specs.StatusCode.{reason_phrase}
use Rattle.cat_model.specs.declared.conflict.ConflictKind.{ConflictKind}
use Rattle.cat_model.specs.declared.conflict.ConflictKind.TheVariants.{KeyExists, KeyDoesNotExist, PayloadDiffers, ContentIdDiffers, ValueDiffers, NamespaceAbsent, NotANamespace, NamespaceNotEmpty, UnexpectedHash}
use Rattle.cat_model.specs.declared.limits.Quantity.{Quantity}
use Rattle.cat_model.specs.declared.limits.Quantity.TheVariants as quantities
use Rattle.cat_model.specs.declared.merging.Behaviour.{Behaviour}
use Rattle.cat_model.specs.declared.merging.Behaviour.TheVariants as behaviours
use Rattle.cat_model.specs.declared.reference.Kind.{Kind}
use Rattle.cat_model.specs.declared.reference.Kind.TheVariants.{Branch, Tag}
use Rattle.cat_model.specs.declared.refusal.Missing.TheVariants as missing
use Rattle.cat_model.specs.declared.refusal.Reason.{Reason}
use Rattle.cat_model.specs.declared.refusal.Reason.TheVariants.{BadHead, BadBody, BadQuery, BadPath, NotABranch, DefaultBranch, OtherType, NotConsecutive}
use Rattle.cat_model.specs.declared.refusal.Refusal.{Refusal}
use Rattle.cat_model.specs.declared.refusal.Refusal.TheVariants.{BadRequest, RefNotFound, RefExists, ContentNotFound, Conflicts, Expired, RetriesSpent, SweepOpen, Limit, Collision, Fault, Down, NoMemory, NoRoute, WrongMethod, TooLarge, Encoding, OldFormat}

abbrev pub kind_text : Kind → List ℕ
kind_text Branch = codes "BRANCH"
kind_text Tag = codes "TAG"

abbrev pub conflict_text : ConflictKind → List ℕ
conflict_text KeyExists = codes "KEY_EXISTS"
conflict_text KeyDoesNotExist = codes "KEY_DOES_NOT_EXIST"
conflict_text PayloadDiffers = codes "PAYLOAD_DIFFERS"
conflict_text ContentIdDiffers = codes "CONTENT_ID_DIFFERS"
conflict_text ValueDiffers = codes "VALUE_DIFFERS"
conflict_text NamespaceAbsent = codes "NAMESPACE_ABSENT"
conflict_text NotANamespace = codes "NOT_A_NAMESPACE"
conflict_text NamespaceNotEmpty = codes "NAMESPACE_NOT_EMPTY"
conflict_text UnexpectedHash = codes "UNEXPECTED_HASH"

abbrev pub behaviour_text : Behaviour → List ℕ
behaviour_text behaviours.Normal = codes "NORMAL"
behaviour_text behaviours.Force = codes "FORCE"
behaviour_text behaviours.Drop = codes "DROP"

abbrev pub quantity_text : Quantity → List ℕ
quantity_text quantities.References = codes "References"
quantity_text quantities.Log = codes "Log"
quantity_text quantities.Commits = codes "Commits"
quantity_text quantities.Keys = codes "Keys"
quantity_text quantities.Contents = codes "Contents"
quantity_text quantities.Names = codes "Names"
quantity_text quantities.Drafts = codes "Drafts"
quantity_text quantities.Checkpoint = codes "Checkpoint"

abbrev pub reason_text : Reason → List ℕ
reason_text BadHead = codes "bad head"
reason_text BadBody = codes "bad body"
reason_text BadQuery = codes "bad query"
reason_text BadPath = codes "bad path"
reason_text NotABranch = codes "not a branch"
reason_text DefaultBranch = codes "default branch"
reason_text OtherType = codes "other type"
reason_text NotConsecutive = codes "not consecutive"

-- the status of a refusal's reply
abbrev pub status_of : Refusal → ℕ
status_of (BadRequest reason) = 400
status_of RefNotFound = 404
status_of RefExists = 409
status_of (ContentNotFound why) = 404
status_of (Conflicts conflicts) = 409
status_of (Expired keys opened) = 409
status_of (RetriesSpent heads) = 409
status_of (SweepOpen place) = 409
status_of (Limit which number) = 409
status_of (Collision hash first second) = 500
status_of Fault = 503
status_of (Down faults) = 503
status_of NoMemory = 507
status_of NoRoute = 404
status_of (WrongMethod allowed) = 405
status_of TooLarge = 413
status_of Encoding = 415
status_of OldFormat = 409

-- the phrase of its status line
abbrev pub phrase_of : Refusal → List ℕ
phrase_of refusal = unwrap_or (reason_phrase (status_of refusal)) []

-- each of these statuses has a phrase
pub has_phrase : (refusal : Refusal) → is_none (reason_phrase (status_of refusal)) ≡ false
has_phrase (BadRequest reason) = refl
has_phrase RefNotFound = refl
has_phrase RefExists = refl
has_phrase (ContentNotFound why) = refl
has_phrase (Conflicts conflicts) = refl
has_phrase (Expired keys opened) = refl
has_phrase (RetriesSpent heads) = refl
has_phrase (SweepOpen place) = refl
has_phrase (Limit which number) = refl
has_phrase (Collision hash first second) = refl
has_phrase Fault = refl
has_phrase (Down faults) = refl
has_phrase NoMemory = refl
has_phrase NoRoute = refl
has_phrase (WrongMethod allowed) = refl
has_phrase TooLarge = refl
has_phrase Encoding = refl
has_phrase OldFormat = refl

abbrev pub code_of : Refusal → List ℕ
code_of (BadRequest reason) = codes "BAD_REQUEST"
code_of RefNotFound = codes "REFERENCE_NOT_FOUND"
code_of RefExists = codes "REFERENCE_ALREADY_EXISTS"
code_of (ContentNotFound why) = codes "CONTENT_NOT_FOUND"
code_of (Conflicts conflicts) = codes "REFERENCE_CONFLICT"
code_of (Expired keys opened) = codes "REFERENCE_CONFLICT"
code_of (RetriesSpent heads) = codes "REFERENCE_CONFLICT"
code_of (SweepOpen place) = codes "SWEEP_OPEN"
code_of (Limit which number) = codes "LIMIT"
code_of (Collision hash first second) = codes "COLLISION"
code_of Fault = codes "FAULT"
code_of (Down faults) = codes "DOWN"
code_of NoMemory = codes "NO_MEMORY"
code_of NoRoute = codes "NO_ROUTE"
code_of (WrongMethod allowed) = codes "WRONG_METHOD"
code_of TooLarge = codes "TOO_LARGE"
code_of Encoding = codes "ENCODING"
code_of OldFormat = codes "OLD_FORMAT"

abbrev pub message_of : Refusal → List ℕ
message_of (BadRequest reason) = reason_text reason
message_of RefNotFound = codes "reference not found"
message_of RefExists = codes "reference exists"
message_of (ContentNotFound missing.Absent) = codes "content absent"
message_of (ContentNotFound missing.Expired) = codes "content expired"
message_of (Conflicts conflicts) = codes "conflicts: " ++ decimal (length conflicts)
message_of (Expired keys opened) = codes "contents expired"
message_of (RetriesSpent heads) = codes "head moved"
message_of (SweepOpen place) = codes "sweep open"
message_of (Limit which number) = codes "limit reached"
message_of (Collision hash first second) = codes "hash collision"
message_of Fault = codes "disk fault"
message_of (Down faults) = codes "store is down"
message_of NoMemory = codes "no memory"
message_of NoRoute = codes "no such path"
message_of (WrongMethod allowed) = codes "method not allowed"
message_of TooLarge = codes "body too large"
message_of Encoding = codes "encoding not supported"
message_of OldFormat = codes "old format"
