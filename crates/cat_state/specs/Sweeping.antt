-- A state without contents that go.
use Rattle.std.specs.Prelude.{◌+◌, List, Bool, not, filter}
use Rattle.std.specs.List.{list_all}
use Rattle.cat_names.specs.declared.hash.Hash.{Hash}
use Rattle.cat_model.specs.declared.content.Content.{Content}
use Rattle.cat_model.specs.Base.{is_among}
use Rattle.cat_model.specs.Chain.{Commits, entries}
use Rattle.cat_model.specs.Maps.{Map}
use Rattle.cat_model.specs.State.{State}

-- the contents whose hashes aren't among these
abbrev pub without : List Hash → List (Hash × Content) → List (Hash × Content)
without hashes present = filter (λ x. not (is_among hashes x.0)) present

-- the state with one entry more, and without these contents
abbrev pub sweeping : State → List Hash → State
sweeping state hashes = record state { place = state.place + 1; present = without hashes state.present }

-- no entry of a map has one of the hashes
abbrev pub spares : List Hash → Map → Bool
spares hashes map = list_all (λ x. not (is_among hashes x.1.hash)) map

-- no entry that is visible at the commit has one
abbrev pub spares_at : Commits → List Hash → Hash → Bool
spares_at commits hashes hash = spares hashes (entries commits hash)
