-- The listing of a map under a filter.
use Rattle.std.specs.Prelude.{List, [], ◌∷◌, Option, Some, None, Bool, true, ◌&&◌, filter}
use Rattle.std.specs.List.{list_any}
use Rattle.std.specs.Option.{option_map_or}
use Rattle.std.specs.Ordering.{is_lt, is_le}
use Rattle.cat_names.specs.Fields.{Key, key_cmp}
use Rattle.cat_model.specs.declared.filter.Filter.{Filter}
use Rattle.cat_model.specs.Keys.{begins_with}
use Rattle.cat_model.specs.Maps.{Map}
use Rattle.cat_model.specs.Same.{same_key}

-- no keys exclude nothing
abbrev pub is_one_of : List Key → Key → Bool
is_one_of [] key = true
is_one_of (first ∷ keys) key = list_any (λ other. same_key other key) (first ∷ keys)

-- the key passes every part of the filter
abbrev pub passes : Filter → Key → Bool
passes f key =
    option_map_or (λ min. is_le (key_cmp min key)) f.min true
    && option_map_or (λ max. is_le (key_cmp key max)) f.max true
    && option_map_or (λ prefix. begins_with key prefix) f.prefix true
    && is_one_of f.keys key

-- the entries whose keys pass a filter
abbrev pub listing : Map → Filter → Map
listing map f = filter (λ x. passes f x.0) map

-- the entries after a key
abbrev pub entries_after : Map → Option Key → Map
entries_after map None = map
entries_after map (Some key) = filter (λ x. is_lt (key_cmp key x.0)) map
