-- Where commits of the bytes that a call makes are there already, they have the maps that the call makes. So it is where both have a spelling, since they are the same then.
use Rattle.std.specs.Prelude.{◌≡◌, ℕ, List, [], ◌∷◌, map, Option, Some, Ok}
use Rattle.cat_names.specs.declared.hash.Hash.{Hash}
use Rattle.cat_model.specs.declared.command.Command.{Command}
use Rattle.cat_model.specs.declared.command.Command.TheVariants as commands
use Rattle.cat_model.specs.declared.commit.Commit.{Commit}
use Rattle.cat_model.specs.declared.content.Content.{Content}
use Rattle.cat_model.specs.declared.log_entry.Action.{Action}
use Rattle.cat_model.specs.declared.log_entry.Action.TheVariants as actions
use Rattle.cat_model.specs.declared.log_entry.LogEntry.{LogEntry}
use Rattle.cat_model.specs.declared.op.Op.{Op}
use Rattle.cat_model.specs.declared.reference.Reference.{Reference}
use Rattle.cat_model.specs.Book.{Book}
use Rattle.cat_model.specs.Chain.{Commits, commit_of, entries}
use Rattle.cat_model.specs.Commits.{commit_opening, given_ops, request_commit}
use Rattle.cat_model.specs.Formats.{commit_code}
use Rattle.cat_model.specs.Maps.{after_changes}
use Rattle.cat_model.specs.Merges.{Planned, commits_made, merge_opening, merge_plans, planned_commit}
use Rattle.cat_model.specs.Records.{with_commit}
use Rattle.cat_model.specs.State.{Digest, State, commit_hash}
use Rattle.cat_model.specs.Step.{Turn}
use Rattle.cat_model.specs.Transplants.{transplant_opening, transplant_plans}
use Rattle.cat_checks.specs.Histories.{after_entry}
use Rattle.cat_checks.specs.Legal.{turn_of}

-- a commit of its bytes that is there already has the map that it makes
abbrev pub KeepsItsMap : Digest → Commits → Commit → Type 0
KeepsItsMap digest commits c =
    (kept : Commit) → commit_of commits (commit_hash digest c) ≡ Some kept → (commit_code).spell kept ≡ (commit_code).spell c → entries commits (commit_hash digest c) ≡ after_changes c.ops (entries commits c.parent)

-- so does each of the commits of plans, one upon the other
abbrev pub HaveTheirMaps : Digest → ℕ → State → Hash → List Planned → Type 0
HaveTheirMaps digest moment x head [] = Unit {0}
HaveTheirMaps digest moment x head (p ∷ planned) =
    KeepsItsMap digest x.commits (planned_commit x.commits head moment p)
    × ((y : State) → with_commit digest x (planned_commit x.commits head moment p) ≡ Ok y → HaveTheirMaps digest moment y (commit_hash digest (planned_commit x.commits head moment p)) planned)

-- so does each that a call makes
abbrev pub HasItsMaps : Digest → State → Command → Turn → Type 0
HasItsMaps digest a (commands.Create c) turn = Unit {0}
HasItsMaps digest a (commands.Assign c) turn = Unit {0}
HasItsMaps digest a (commands.Delete c) turn = Unit {0}
HasItsMaps digest a (commands.Commit c) turn =
    (opened : Reference × Hash) → commit_opening digest a c ≡ Ok opened → KeepsItsMap digest a.commits (request_commit a opened.0.head turn.moment c (map (λ (x : Op × Option Content). x.0) (given_ops digest turn.draft c)))
HasItsMaps digest a (commands.Merge m) turn =
    (opened : Reference × Hash) → merge_opening digest a m ≡ Ok opened → HaveTheirMaps digest turn.moment a opened.0.head (commits_made (merge_plans a m opened.0 opened.1 turn.opened turn.moment).planned)
HasItsMaps digest a (commands.Transplant t) turn =
    (branch : Reference) → transplant_opening digest a t ≡ Ok branch → HaveTheirMaps digest turn.moment a branch.head (commits_made (transplant_plans a t branch turn.opened turn.moment).planned)

-- a sweep makes none
abbrev pub ActionHasMaps : Digest → Book → LogEntry → Action → Type 0
ActionHasMaps digest book entry (actions.Call command) = HasItsMaps digest book.state command (turn_of book entry)
ActionHasMaps digest book entry (actions.Sweep s) = Unit {0}

-- so does each that entries make, where they stand
abbrev pub HaveMaps : Digest → Book → List LogEntry → Type 0
HaveMaps digest book [] = Unit {0}
HaveMaps digest book (entry ∷ entries) = ActionHasMaps digest book entry entry.action × HaveMaps digest (after_entry digest book entry) entries
