-- Worked cases of listings, of keys that changed, and of operations on distinct keys.
use Rattle.std.specs.Prelude.{◌≡◌, refl, ℕ, [], ◌∷◌, Some, None, true, false, codes, map}
use Rattle.cat_names.specs.Fields.{Key}
use Rattle.cat_model.specs.declared.entry.Entry.{Entry}
use Rattle.cat_model.specs.declared.entry.ContentKind.TheVariants.{IcebergTable}
use Rattle.cat_model.specs.declared.filter.Filter.{Filter}
use Rattle.cat_model.specs.declared.op.Op.TheVariants.{Put, Delete, Unchanged}
use Rattle.cat_model.specs.Maps.{Map, after_changes}
use Rattle.cat_model.specs.Listing.{listing, entries_after}
use Rattle.cat_model.specs.KeySets.{key_set}
use Rattle.cat_model.specs.Changed.{changed_keys}
use Rattle.cat_model.specs.Distinct.{are_distinct}

abbrev table : ℕ → Entry
table n = record { kind = IcebergTable; id = record { bytes = n ∷ [] }; hash = record { bytes = n ∷ [] } }

abbrev a : Key
a = codes "a" ∷ []

abbrev a-t : Key
a-t = codes "a" ∷ codes "t" ∷ []

abbrev ab : Key
ab = codes "ab" ∷ []

abbrev b : Key
b = codes "b" ∷ []

abbrev four : Map
four = (a, table 1) ∷ (a-t, table 2) ∷ (ab, table 3) ∷ (b, table 4) ∷ []

-- ---- listings

abbrev any : Filter
any = record { min = None; max = None; prefix = None; keys = [] }

no_filter : listing four any ≡ four
no_filter = refl

from_a_key_on : listing four (record any { min = Some a-t }) ≡ (a-t, table 2) ∷ (ab, table 3) ∷ (b, table 4) ∷ []
from_a_key_on = refl

from_a_key_on_that_is_not_there : listing four (record any { min = Some (codes "aa" ∷ []) }) ≡ (ab, table 3) ∷ (b, table 4) ∷ []
from_a_key_on_that_is_not_there = refl

up_to_a_key : listing four (record any { max = Some ab }) ≡ (a, table 1) ∷ (a-t, table 2) ∷ (ab, table 3) ∷ []
up_to_a_key = refl

-- the elements are compared, and not the text
below_a_key : listing four (record any { prefix = Some a }) ≡ (a, table 1) ∷ (a-t, table 2) ∷ []
below_a_key = refl

below_a_longer_key : listing four (record any { prefix = Some a-t }) ≡ (a-t, table 2) ∷ []
below_a_longer_key = refl

-- in the order of the map; a key that isn't there lists nothing
some_keys : listing four (record any { keys = b ∷ (codes "c" ∷ []) ∷ a ∷ [] }) ≡ (a, table 1) ∷ (b, table 4) ∷ []
some_keys = refl

all_parts_must_pass : listing four (record { min = Some a-t; max = Some ab; prefix = Some a; keys = a ∷ a-t ∷ ab ∷ b ∷ [] }) ≡ (a-t, table 2) ∷ []
all_parts_must_pass = refl

after_no_key : entries_after four None ≡ four
after_no_key = refl

after_a_key : entries_after four (Some a-t) ≡ (ab, table 3) ∷ (b, table 4) ∷ []
after_a_key = refl

after_a_key_that_is_not_there : entries_after four (Some (codes "aa" ∷ [])) ≡ (ab, table 3) ∷ (b, table 4) ∷ []
after_a_key_that_is_not_there = refl

after_the_last_key : entries_after four (Some b) ≡ []
after_the_last_key = refl

-- ---- keys that changed

each_key_once_ascending : key_set (b ∷ a-t ∷ a ∷ b ∷ ab ∷ a ∷ []) ≡ a ∷ a-t ∷ ab ∷ b ∷ []
each_key_once_ascending = refl

nothing_changed : changed_keys four four ≡ []
nothing_changed = refl

-- gone, appeared, and with another value
changed_in_three_ways : changed_keys ((a, table 1) ∷ (a-t, table 2) ∷ (b, table 4) ∷ []) ((a-t, table 2) ∷ (ab, table 3) ∷ (b, table 5) ∷ []) ≡ a ∷ ab ∷ b ∷ []
changed_in_three_ways = refl

-- ---- maps

the_later_change_stands : after_changes ((a, None) ∷ (a, Some (table 5)) ∷ (b, Some (table 6)) ∷ (b, None) ∷ []) ((a, table 1) ∷ (b, table 4) ∷ []) ≡ (a, table 5) ∷ []
the_later_change_stands = refl

-- ---- distinct keys

keys_that_come_twice : map are_distinct (
    []
    ∷ (Delete a ∷ Put a-t (table 1) true ∷ Unchanged b ∷ [])
    ∷ (Delete a ∷ Unchanged b ∷ Put a (table 1) true ∷ [])
    ∷ (Delete b ∷ Put a (table 1) true ∷ Delete a ∷ [])
    ∷ [])
    ≡ true ∷ true ∷ false ∷ false ∷ []
keys_that_come_twice = refl
