-- Contents that are gone where a draft is settled.
use Rattle.std.specs.Prelude.{◌≡◌, ℕ, List, [], ◌∷◌, map, filter, not}
use Rattle.cat_names.specs.Fields.{Key}
use Rattle.cat_names.specs.declared.hash.Hash.{Hash}
use Rattle.cat_model.specs.declared.command.Command.{Command}
use Rattle.cat_model.specs.declared.command.Command.TheVariants as commands
use Rattle.cat_model.specs.declared.refusal.Refusal.TheVariants.{Expired}
use Rattle.cat_model.specs.Base.{base}
use Rattle.cat_model.specs.KeySets.{key_set}
use Rattle.cat_model.specs.Maps.{Map}
use Rattle.cat_model.specs.Merges.{all_set, merge_planned}
use Rattle.cat_model.specs.State.{State}
use Rattle.cat_model.specs.Transplants.{transplant_planned}
use Rattle.cat_core.specs.declared.draft.Draft.{Draft}
use Rattle.cat_core.specs.declared.draft.Settled.{Settled}
use Rattle.cat_core.specs.declared.draft.Settled.TheVariants as settled
use Rattle.cat_core.specs.Drafts.{command_in}
use Rattle.cat_core.specs.Lasting.{had_content, states_since}
use Rattle.cat_core.specs.Stored.{Stored}

-- the entries that a merge or a transplant sets upon a head
abbrev pub set_upon : State → Command → Hash → Map
set_upon state (commands.Merge m) head = all_set (merge_planned state m (base state.commits m.from_hash head) m.from_hash head ∷ [])
set_upon state (commands.Transplant t) head = all_set (transplant_planned state t head)
set_upon state (commands.Commit c) head = []
set_upon state (commands.Create c) head = []
set_upon state (commands.Assign c) head = []
set_upon state (commands.Delete c) head = []

-- the keys of entries of which none of the states has the content
abbrev pub never_held : List State → Map → List Key
never_held states entries = map (λ x. x.0) (filter (λ x. not (had_content states x.1.hash)) entries)

-- a refusal for contents that are gone names the draft's opening place, and of the entries that the draft sets upon the head the keys of those whose content was there at no moment since
pub record IsGoneSince {K : Type 0} (s : Stored K) (d : Draft) (head : Hash) (keys : List Key) (place : ℕ) : Type 0 where
  pub opened : place ≡ d.place
  pub never : keys ≡ key_set (never_held (states_since s.book d.place) (set_upon s.book.state (command_in d) head))

-- so it is where settling a draft upon the head is refused so
abbrev pub TellsGone : {K : Type 0} → Stored K → Draft → Hash → Settled → Type 0
TellsGone s d head (settled.Done told) = Unit {0}
TellsGone s d head (settled.Refused r) = (keys : List Key) (place : ℕ) → r.why ≡ Expired keys place → IsGoneSince s d head keys place
TellsGone s d head (settled.Moved e view) = Unit {0}
