-- Where two maps differ.
use Rattle.std.specs.Prelude.{List, ◌++◌, is_none, Bool, not, map, filter}
use Rattle.cat_names.specs.Fields.{Key}
use Rattle.cat_model.specs.Differs.{differs}
use Rattle.cat_model.specs.KeySets.{key_set}
use Rattle.cat_model.specs.Maps.{Map, entry_of}

-- the keys of a map
abbrev pub keys_of : Map → List Key
keys_of m = map (λ x. x.0) m

-- the entries of a key differ
abbrev pub is_changed : Map → Map → Key → Bool
is_changed before after key = not (is_none (differs (entry_of before key) (entry_of after key)))

-- the keys whose entries differ, ascending
abbrev pub changed_keys : Map → Map → List Key
changed_keys before after = filter (is_changed before after) (key_set (keys_of before ++ keys_of after))
