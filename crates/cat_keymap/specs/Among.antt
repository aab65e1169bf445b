-- Keys among which those stand whose entries differ.
use Rattle.std.specs.Prelude.{◌≡◌, List, [], ◌∷◌, ◌++◌, Option, Some, is_none, true, if◌then◌else◌}
use Rattle.cat_codes.specs.Code.{follows}
use Rattle.cat_names.specs.Fields.{Key, key_cmp}
use Rattle.cat_model.specs.Changed.{is_changed}
use Rattle.cat_model.specs.Differs.{differs}
use Rattle.cat_model.specs.Maps.{Map, entry_of}
use Rattle.cat_keymap.specs.Range.{is_among}

-- each key whose entries differ is one of these
abbrev pub Covers : List Key → Map → Map → Type 0
Covers keys before after = (key : Key) → is_changed before after key ≡ true → is_among keys key ≡ true

-- the key, unless its entries are the same
abbrev pub unless_alike : Map → Map → Key → List Key
unless_alike before after key = if is_none (differs (entry_of before key) (entry_of after key)) then [] else key ∷ []

-- or it comes no later than the last
abbrev pub tested : Map → Map → Option Key → Key → List Key
tested before after last key = if follows key_cmp last key then unless_alike before after key else []

-- those of keys, each tested
abbrev pub all_tested : Map → Map → Option Key → List Key → List Key
all_tested before after last [] = []
all_tested before after last (key ∷ keys) = tested before after last key ++ all_tested before after (Some key) keys
