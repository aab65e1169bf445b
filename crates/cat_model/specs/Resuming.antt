-- What a log that goes on from a state has to know of the one before it, and when two states are the same.
use Rattle.std.specs.Prelude.{◌≡◌, ℕ, max, List, [], ◌∷◌, length, map, filter, nat_lt}
use Rattle.std.specs.Ordering.{nat_cmp}
use Rattle.cat_names.specs.declared.hash.Hash.{Hash}
use Rattle.cat_model.specs.declared.log_entry.LogEntry.{LogEntry}
use Rattle.cat_model.specs.Drafts.{OpenDraft}
use Rattle.cat_model.specs.KeySets.{set_of}
use Rattle.cat_model.specs.State.{State, content_at}

-- ---- drafts

-- the greatest draft number of entries, or this one, where it is greater
abbrev pub last_draft : ℕ → List LogEntry → ℕ
last_draft start [] = start
last_draft start (entry ∷ entries) = max entry.draft (last_draft start entries)

-- the numbers of drafts that are below this one, ascending
abbrev pub drafts_below : ℕ → List OpenDraft → List ℕ
drafts_below last drafts = set_of nat_cmp (filter (λ n. nat_lt n last) (map (λ d. d.opening.number) drafts))

-- ---- states

-- the same state, in whatever order its contents came: that order tells nothing
pub record IsSameState (a b : State) : Type 0 where
  pub place : b.place ≡ a.place
  pub references : b.references ≡ a.references
  pub commits : b.commits ≡ a.commits
  pub contents : (hash : Hash) → content_at b.present hash ≡ content_at a.present hash
  pub count : length b.present ≡ length a.present
  pub limits : b.limits ≡ a.limits
