-- Sweeps: what they keep of the contents that are present, what they remove, and their step.
use Rattle.std.specs.Prelude.{ℕ, ◌+◌, ◌-◌, List, [], ◌∷◌, ◌++◌, length, take, filter, fold, None, Ok, Err, Bool, not}
use Rattle.std.specs.Cmp.Lexicographic.{slice_cmp}
use Rattle.std.specs.Ordering.{nat_cmp}
use Rattle.std.specs.declared.cmp.Ordering.{Ordering}
use Rattle.std.specs.List.{flat_map}
use Rattle.cat_names.specs.declared.hash.Hash.{Hash}
use Rattle.cat_model.specs.declared.content.Content.{Content}
use Rattle.cat_model.specs.declared.cutoff.Resolved.{Resolved}
use Rattle.cat_model.specs.declared.limits.Quantity.TheVariants as quantities
use Rattle.cat_model.specs.declared.log_entry.Action.TheVariants as actions
use Rattle.cat_model.specs.declared.log_entry.LogEntry.{LogEntry}
use Rattle.cat_model.specs.declared.reply.Reply.TheVariants as replies
use Rattle.cat_model.specs.declared.sweep.Sweep.{Sweep}
use Rattle.cat_model.specs.Base.{is_among}
use Rattle.cat_model.specs.Calls.{Called, told_at, unchanged_by}
use Rattle.cat_model.specs.Chain.{Commits}
use Rattle.cat_model.specs.Cutoffs.{live, visible}
use Rattle.cat_model.specs.Drafts.{Names}
use Rattle.cat_model.specs.KeySets.{with_one}
use Rattle.cat_model.specs.Moves.{needs_log}
use Rattle.cat_model.specs.Refusing.{◌>>=◌, needs_at_most, Outcome, Tested}
use Rattle.cat_model.specs.State.{State}

-- ---- what is kept

-- the states from a place on, the newest first: this one, and of those before it, which go down by one place each, those that are not below
abbrev pub since : ℕ → State → List State → List State
since place state past = state ∷ take (state.place - place) past

-- what names keep: the contents that are visible at their commits, and their contents
abbrev pub kept_by_names : Commits → Names → List Hash
kept_by_names commits names = flat_map (visible commits) names.commits ++ names.contents

-- what is live at one of the states
unfoldable pub live_since : List State → Resolved → List Hash
live_since states policy = flat_map (λ s. live s policy) states

-- what a sweep with these names keeps that was open at these states, the newest of which is the present
unfoldable pub saved : List State → Commits → Resolved → Names → List Hash
saved states commits policy names = live_since states policy ++ kept_by_names commits names

-- ---- what is removed

-- the content stays
abbrev pub is_saved : List Hash → Hash × Content → Bool
is_saved saved x = is_among saved x.0

-- the contents that stay
unfoldable pub kept_contents : List Hash → List (Hash × Content) → List (Hash × Content)
kept_contents saved present = filter (is_saved saved) present

-- the contents that go
unfoldable pub removed_contents : List Hash → List (Hash × Content) → List (Hash × Content)
removed_contents saved present = filter (λ x. not (is_saved saved x)) present

-- ---- its step

-- the order of hashes: that of their bytes
abbrev hash_cmp : Hash → Hash → Ordering
hash_cmp a b = slice_cmp nat_cmp a.bytes b.bytes

-- hashes ascending, each once
abbrev pub hash_set : List Hash → List Hash
hash_set hashes = fold (with_one hash_cmp) [] hashes

-- the sweep that is logged of one that was opened at this place, with this policy and these names
abbrev pub sweep_of : ℕ → Resolved → Names → Sweep
sweep_of place policy names = record { opened = place; policy = policy; commits = hash_set names.commits; contents = hash_set names.contents }

abbrev pub names_in : Sweep → Names
names_in s = record { commits = s.commits; contents = s.contents }

-- there is room for an entry, and for so many names in it
unfoldable pub needs_sweep_room : State → ℕ → Tested
needs_sweep_room state count =
    needs_log state >>= λ _.
    needs_at_most count state.limits.names quantities.Names

-- the state with one entry more, and of its contents those that are saved; the reply tells how many these are, and how many were removed
abbrev pub swept : State → ℕ → List Hash → Outcome
swept state opened saved = Ok (
  record state { place = state.place + 1; present = kept_contents saved state.present },
  replies.Swept (record { kept = length (kept_contents saved state.present); opened = opened; removed = length (removed_contents saved state.present) }),
)

-- a sweep on a state, which comes after these
unfoldable pub step_sweep : State → List State → Sweep → Outcome
step_sweep state past s =
    needs_sweep_room state (length s.commits + length s.contents) >>= λ _.
    swept state s.opened (saved (since s.opened state past) state.commits s.policy (names_in s))

-- ---- what it brings

-- the entry of a sweep
unfoldable pub sweep_entry : ℕ → ℕ → ℕ → Sweep → LogEntry
sweep_entry caller place moment s = record { place = place; caller = caller; draft = 0; moment = moment; action = actions.Sweep s; head = None }

-- what a sweep of a caller at a moment brings, by its step
abbrev pub swept_by : ℕ → State → ℕ → ℕ → Sweep → Outcome → Called
swept_by caller state draft moment s (Err why) = unchanged_by state draft (Err why)
swept_by caller state draft moment s (Ok (after, reply)) = record {
  said = told_at after (Ok reply);
  logged = sweep_entry caller after.place moment s ∷ [];
  state = after;
  draft = draft;
}

-- what a sweep of a caller at a moment brings on a state, which comes after these
unfoldable pub sweep_call : ℕ → State → List State → ℕ → ℕ → Sweep → Called
sweep_call caller state past draft moment s = swept_by caller state draft moment s (step_sweep state past s)
