-- What holds of the entries that have a spelling.
use Rattle.std.proofs.Common.{◌≡◌, Bool, true, false, ◌&&◌, refl}
use Rattle.std.proofs.lemmas.Bool.{and_parts}
use Rattle.std.specs.Prelude.{IsTrue}
use Rattle.cat_model.specs.declared.command.Command.TheVariants as commands
use Rattle.cat_model.specs.declared.log_entry.Action.{Action}
use Rattle.cat_model.specs.declared.log_entry.Action.TheVariants as actions
use Rattle.cat_model.specs.declared.log_entry.LogEntry.{LogEntry}
use Rattle.cat_model.specs.declared.cutoff.Resolved.{Resolved}
use Rattle.cat_model.specs.declared.sweep.Sweep.{Sweep}
use Rattle.cat_model.specs.State.{Digest}
use Rattle.cat_frames.specs.Entries.{action_number, action_is_logged, is_kind, is_draft_of, is_head_of, is_logged}
use Rattle.cat_frames.specs.Sweeps.{are_logged, cutoff_is_logged, hashes_ascend, resolved_is_logged, sweep_is_logged}

all_three : (a b c : Bool) → (a && b && c) ≡ true → (a ≡ true) × (b ≡ true) × (c ≡ true)
all_three true true true h = (refl, refl, refl)
all_three true true false h = absurd cc
all_three true false c h = absurd cc
all_three false b c h = absurd cc

parts : (digest : Digest) (e : LogEntry) → IsTrue (is_logged digest e) → IsTrue (is_draft_of (action_number e.action) e.draft) × IsTrue (is_head_of (action_number e.action) e.head) × IsTrue (action_is_logged digest e.draft e.action)
unfolding is_logged
parts digest e h = all_three _ _ _ h

pub logged_draft : (digest : Digest) (e : LogEntry) → IsTrue (is_logged digest e) → IsTrue (is_draft_of (action_number e.action) e.draft)
logged_draft digest e h = (parts digest e h).0

pub logged_head : (digest : Digest) (e : LogEntry) → IsTrue (is_logged digest e) → IsTrue (is_head_of (action_number e.action) e.head)
logged_head digest e h = (parts digest e h).1

pub logged_action : (digest : Digest) (e : LogEntry) → IsTrue (is_logged digest e) → IsTrue (action_is_logged digest e.draft e.action)
logged_action digest e h = (parts digest e h).2

pub numbers_are_kinds : (a : Action) → IsTrue (is_kind (action_number a))
numbers_are_kinds (actions.Sweep s) = refl
numbers_are_kinds (actions.Call (commands.Create c)) = refl
numbers_are_kinds (actions.Call (commands.Assign c)) = refl
numbers_are_kinds (actions.Call (commands.Delete c)) = refl
numbers_are_kinds (actions.Call (commands.Commit c)) = refl
numbers_are_kinds (actions.Call (commands.Merge c)) = refl
numbers_are_kinds (actions.Call (commands.Transplant c)) = refl

-- ---- sweeps

pub logged_default : (r : Resolved) → IsTrue (resolved_is_logged r) → IsTrue (cutoff_is_logged r.default)
logged_default r h = (and_parts (cutoff_is_logged r.default) (are_logged r.cutoffs) h).0

pub logged_rules : (r : Resolved) → IsTrue (resolved_is_logged r) → IsTrue (are_logged r.cutoffs)
logged_rules r h = (and_parts (cutoff_is_logged r.default) (are_logged r.cutoffs) h).1

pub logged_policy : (s : Sweep) → IsTrue (sweep_is_logged s) → IsTrue (resolved_is_logged s.policy)
logged_policy s h = (all_three (resolved_is_logged s.policy) (hashes_ascend s.commits) (hashes_ascend s.contents) h).0

pub logged_commits : (s : Sweep) → IsTrue (sweep_is_logged s) → IsTrue (hashes_ascend s.commits)
logged_commits s h = (all_three (resolved_is_logged s.policy) (hashes_ascend s.commits) (hashes_ascend s.contents) h).1

pub logged_contents : (s : Sweep) → IsTrue (sweep_is_logged s) → IsTrue (hashes_ascend s.contents)
logged_contents s h = (all_three (resolved_is_logged s.policy) (hashes_ascend s.commits) (hashes_ascend s.contents) h).2
