-- Refusals by the bytes of a request, and what a call returned of a reading.
use Rattle.std.specs.Prelude.{◌≡◌, ℕ, List, Option, Some, None, Result, Ok, Err}
use Rattle.std.specs.Cow.{cow_str_bytes}
use Rattle.std.specs.declared.alloc.Global.{Global}
use Rattle.std.specs.declared.borrow.CowStr.{CowStr}
use Rattle.cat_json.specs.declared.fault.JsonFault.{JsonFault}
use Rattle.cat_json.specs.declared.fault.JsonFault.TheVariants as json
use Rattle.cat_names.specs.declared.key_fault.KeyFault.{KeyFault}
use Rattle.cat_names.specs.declared.key_fault.KeyFault.TheVariants as keys
use Rattle.cat_names.specs.declared.name_fault.NameFault.{NameFault}
use Rattle.cat_names.specs.declared.name_fault.NameFault.TheVariants as names
use Rattle.cat_pages.specs.declared.token.TokenFault.{TokenFault}
use Rattle.cat_pages.specs.declared.token.TokenFault.TheVariants as tokens
use Rattle.cat_model.specs.declared.refusal.Reason.{Reason}
use Rattle.cat_model.specs.declared.refusal.Reason.TheVariants.{BadPath, BadQuery, BadBody}
use Rattle.cat_model.specs.declared.refusal.Refusal.{Refusal}
use Rattle.cat_model.specs.declared.refusal.Refusal.TheVariants.{BadRequest, NoMemory}
use Rattle.cat_model.specs.declared.refusal.Refused.{Refused}
use Rattle.cat_rest.specs.declared.parameter.QueryFault.{QueryFault}
use Rattle.cat_rest.specs.declared.parameter.QueryFault.TheVariants as queries
use Rattle.cat_rest.specs.declared.path.PathFault.{PathFault}
use Rattle.cat_rest.specs.declared.path.PathFault.TheVariants as paths

-- a reading, or the refusal with its reason
abbrev pub or_bad : {A : Type 0} → Reason → Option A → Result A Refusal
or_bad reason None = Err (BadRequest reason)
or_bad reason (Some x) = Ok x

infixl 10 ◌>>!◌
-- what was read goes on; the first refusal stays
abbrev pub ◌>>!◌ : {A B : Type 0} → Result A Refusal → (A → Result B Refusal) → Result B Refusal
(Ok x) >>! f = f x
(Err e) >>! f = Err e

abbrev pub Refuses : {A : Type 0} → Refusal → Result A Refusal → Type 0
Refuses NoMemory wanted = Unit {0}
Refuses why wanted = wanted ≡ Err why

-- what a call returned is this, and no state was looked at, unless memory ran out
abbrev pub Answers : {A : Type 0} → Result A Refused → Result A Refusal → Type 0
Answers (Ok x) wanted = wanted ≡ Ok x
Answers (Err e) wanted = (e.place ≡ None) × Refuses e.why wanted

-- what a call returned is the reading, unless memory ran out
abbrev pub GivesPath : {A : Type 0} → Result A PathFault → Option A → Type 0
GivesPath (Ok x) reading = reading ≡ Some x
GivesPath (Err paths.Bad) reading = reading ≡ None
GivesPath (Err paths.NoMemory) reading = Unit {0}

-- the same of a text
abbrev pub GivesText : Result (CowStr Global) PathFault → Option (List ℕ) → Type 0
GivesText (Ok text) reading = reading ≡ Some (cow_str_bytes text)
GivesText (Err paths.Bad) reading = reading ≡ None
GivesText (Err paths.NoMemory) reading = Unit {0}

-- the same of a parameter of a query
abbrev pub GivesQuery : {A : Type 0} → Result A QueryFault → Option A → Type 0
GivesQuery (Ok x) reading = reading ≡ Some x
GivesQuery (Err queries.Bad) reading = reading ≡ None
GivesQuery (Err queries.NoMemory) reading = Unit {0}

-- ---- a fault as the fault above it: only want of memory stays that

abbrev pub BecomesRefused : PathFault → Refused → Type 0
BecomesRefused paths.Bad r = r ≡ record { place = None; why = BadRequest BadPath }
BecomesRefused paths.NoMemory r = r ≡ record { place = None; why = NoMemory }

abbrev pub BecomesBadQuery : QueryFault → Refused → Type 0
BecomesBadQuery queries.Bad r = r ≡ record { place = None; why = BadRequest BadQuery }
BecomesBadQuery queries.NoMemory r = r ≡ record { place = None; why = NoMemory }

abbrev pub BecomesBadBody : JsonFault → Refused → Type 0
BecomesBadBody json.Bad r = r ≡ record { place = None; why = BadRequest BadBody }
BecomesBadBody json.NoMemory r = r ≡ record { place = None; why = NoMemory }

abbrev pub NameBecomes : NameFault → PathFault → Type 0
NameBecomes names.NoMemory f = f ≡ paths.NoMemory
NameBecomes names.Bad f = f ≡ paths.Bad

abbrev pub KeyBecomes : KeyFault → PathFault → Type 0
KeyBecomes keys.NoMemory f = f ≡ paths.NoMemory
KeyBecomes keys.Empty f = f ≡ paths.Bad
KeyBecomes keys.TooMany f = f ≡ paths.Bad
KeyBecomes keys.Control f = f ≡ paths.Bad
KeyBecomes keys.TooLong f = f ≡ paths.Bad

abbrev pub NameBecomesBad : NameFault → QueryFault → Type 0
NameBecomesBad names.NoMemory f = f ≡ queries.NoMemory
NameBecomesBad names.Bad f = f ≡ queries.Bad

abbrev pub KeyBecomesBad : KeyFault → QueryFault → Type 0
KeyBecomesBad keys.NoMemory f = f ≡ queries.NoMemory
KeyBecomesBad keys.Empty f = f ≡ queries.Bad
KeyBecomesBad keys.TooMany f = f ≡ queries.Bad
KeyBecomesBad keys.Control f = f ≡ queries.Bad
KeyBecomesBad keys.TooLong f = f ≡ queries.Bad

abbrev pub TokenBecomesBad : TokenFault → QueryFault → Type 0
TokenBecomesBad tokens.NoMemory f = f ≡ queries.NoMemory
TokenBecomesBad tokens.Bad f = f ≡ queries.Bad
