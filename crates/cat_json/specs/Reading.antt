-- What a value of JSON stands for.
use Rattle.std.specs.Prelude.{◌≡◌, ℕ, List, [], ◌∷◌, Option, Some, None, IsTrue, ⊤, Result, Ok, Err, unwrap_or, if◌then◌else◌}
use Rattle.serde_json.specs.Data.{Data, null, boolean, number, string, array, object, Items, no_items, item, Members, no_members, member}
use Rattle.serde_json.specs.Find.{get, as_array, as_object}
use Rattle.std.specs.Str.{is_utf8}
use Rattle.serde_json.specs.Read.{read}
use Rattle.std.specs.Ordering.{nat_cmp}
use Rattle.std.specs.Cmp.Lexicographic.{slice_cmp}
use Rattle.cat_codes.specs.Code.{ascends}
use Rattle.std.specs.Borrow.{Bor}
use Rattle.serde_json.specs.declared.value.Value.{Value}
use Rattle.serde_json.specs.View.{view}
use Rattle.cat_json.specs.declared.fault.JsonFault.{JsonFault}
use Rattle.cat_json.specs.declared.fault.JsonFault.TheVariants.{Bad, NoMemory}

infixl 10 ◌>>=◌
abbrev pub ◌>>=◌ : {A B : Type 0} → Option A → (A → Option B) → Option B
(Some x) >>= f = f x
None >>= f = None

-- what a call returned is the reading, unless memory ran out
abbrev pub Gives : {A : Type 0} → Result A JsonFault → Option A → Type 0
Gives (Ok x) reading = reading ≡ Some x
Gives (Err Bad) reading = reading ≡ None
Gives (Err NoMemory) reading = Unit {0}

-- the same of a value that is lent
abbrev pub GivesView : Result (Bor Value) JsonFault → Option Data → Type 0
GivesView (Ok v) reading = reading ≡ Some (view v.now)
GivesView (Err Bad) reading = reading ≡ None
GivesView (Err NoMemory) reading = Unit {0}

-- the same of a value that is handed out
abbrev pub GivesValue : Result Value JsonFault → Option Data → Type 0
GivesValue (Ok v) reading = reading ≡ Some (view v)
GivesValue (Err Bad) reading = reading ≡ None
GivesValue (Err NoMemory) reading = Unit {0}

-- the JSON that bytes spell
abbrev pub json_of : List ℕ → Option Data
json_of bytes = if is_utf8 bytes then read bytes else None

-- what a body stands for
abbrev pub body_as : {A : Type 0} → (Data → Option A) → List ℕ → Option A
body_as reading bytes = json_of bytes >>= reading

-- null is absent
abbrev pub present : Option Data → Option Data
present None = None
present (Some null) = None
present (Some (boolean b)) = Some (boolean b)
present (Some (number n)) = Some (number n)
present (Some (string s)) = Some (string s)
present (Some (array ds)) = Some (array ds)
present (Some (object ms)) = Some (object ms)

abbrev pub if_absent : Option Data → Option ⊤
if_absent None = Some tt
if_absent (Some d) = None

-- a member that must be absent or null
abbrev pub absent : List ℕ → Data → Option ⊤
absent name d = if_absent (present (get name d))

-- a member that must be there
abbrev pub required : {A : Type 0} → (Data → Option A) → List ℕ → Data → Option A
required read name d = get name d >>= read

abbrev pub if_there : {A : Type 0} → (Data → Option A) → Option Data → Option (Option A)
if_there read None = Some None
if_there read (Some d) = read d >>= λ x. Some (Some x)

-- a member that may be absent or null
abbrev pub optional : {A : Type 0} → (Data → Option A) → List ℕ → Data → Option (Option A)
optional read name d = if_there read (present (get name d))

-- a member that may be absent or null, and stands for the default then
abbrev pub defaulted : {A : Type 0} → (Data → Option A) → A → List ℕ → Data → Option A
defaulted read default name d = optional read name d >>= λ x. Some (unwrap_or x default)

-- an array, each of whose items has a reading
abbrev pub items_as : {A : Type 0} → (Data → Option A) → Items → Option (List A)
items_as read no_items = Some []
items_as read (item d ds) = read d >>= λ x. items_as read ds >>= λ xs. Some (x ∷ xs)

abbrev pub list_as : {A : Type 0} → (Data → Option A) → Data → Option (List A)
list_as read d = as_array d >>= items_as read

-- an object, each of whose members has a reading
abbrev pub members_as : {A : Type 0} → (Data → Option A) → Members → Option (List (List ℕ × A))
members_as read no_members = Some []
members_as read (member k d ms) = read d >>= λ x. members_as read ms >>= λ xs. Some ((k, x) ∷ xs)

abbrev pub map_as : {A : Type 0} → (Data → Option A) → Data → Option (List (List ℕ × A))
map_as read d = as_object d >>= members_as read

-- each name is above the one before
abbrev pub Ascends : {A : Type 0} → List (List ℕ × A) → Type 0
Ascends xs = IsTrue (ascends (slice_cmp nat_cmp) None xs)
