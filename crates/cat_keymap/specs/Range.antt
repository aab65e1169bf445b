-- The pairs among which a page is sought.
use Rattle.std.specs.Prelude.{List, [], ◌∷◌, ◌++◌, Option, Some, None, Bool, true, ◌&&◌, ◌||◌, filter, if◌then◌else◌}
use Rattle.std.specs.List.{list_any}
use Rattle.std.specs.Option.{option_map_or}
use Rattle.std.specs.Ordering.{is_lt, is_le}
use Rattle.cat_codes.specs.Code.{follows}
use Rattle.cat_names.specs.Fields.{Key, key_cmp}
use Rattle.cat_model.specs.declared.filter.Filter.{Filter}
use Rattle.cat_model.specs.Keys.{begins_with}
use Rattle.cat_model.specs.Maps.{Map, entry_of, present}
use Rattle.cat_model.specs.Same.{same_key}
use Rattle.cat_ordered.specs.Maps.{from_key}

-- ---- where the page begins, and where it ends

-- the later of two keys
abbrev pub later : Option Key → Option Key → Option Key
later None b = b
later (Some a) None = Some a
later (Some a) (Some b) = if is_lt (key_cmp a b) then Some b else Some a

-- the latest of the least key, the prefix, and the key after which the page goes on
abbrev pub start : Filter → Option Key → Option Key
start f after = later (later f.min f.prefix) after

-- the pairs from a key on, if there is one
abbrev pub from_start : Map → Option Key → Map
from_start map None = map
from_start map (Some key) = from_key key_cmp map key

-- not past the keys that begin with the prefix
abbrev pub may_have_prefix : Option Key → Key → Bool
may_have_prefix prefix key = option_map_or (λ prefix. is_le (key_cmp key prefix) || begins_with key prefix) prefix true

-- neither above the greatest key nor past the prefix
abbrev pub goes_on : Filter → Key → Bool
goes_on f key = option_map_or (λ max. is_le (key_cmp key max)) f.max true && may_have_prefix f.prefix key

-- ---- what is on it

-- the key is within the least and the greatest, and has the prefix
abbrev pub in_bounds : Filter → Key → Bool
in_bounds f key =
    option_map_or (λ min. is_le (key_cmp min key)) f.min true
    && option_map_or (λ max. is_le (key_cmp key max)) f.max true
    && option_map_or (λ prefix. begins_with key prefix) f.prefix true

-- and comes after the key that is given
abbrev pub admits : Filter → Option Key → Key → Bool
admits f after key = follows key_cmp after key && in_bounds f key

abbrev pub admitted : Filter → Option Key → Map → Map
admitted f after map = filter (λ x. admits f after x.0) map

-- ---- where the filter names keys

-- the key is one of these
abbrev pub is_among : List Key → Key → Bool
is_among keys key = list_any (λ other. same_key other key) keys

-- the pairs of these keys
abbrev pub named : List Key → Map → Map
named keys map = filter (λ x. is_among keys x.0) map

-- the pair of a key, unless it comes no later than the last
abbrev pub looked_up : Option Key → Key → Map → Map
looked_up last key map = if follows key_cmp last key then present (key, entry_of map key) else []

-- the pairs of keys, each looked up
abbrev pub all_looked_up : Option Key → List Key → Map → Map
all_looked_up last [] map = []
all_looked_up last (key ∷ keys) map = looked_up last key map ++ all_looked_up (Some key) keys map
