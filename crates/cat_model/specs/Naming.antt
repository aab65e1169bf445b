-- What the draft of a call names, so that it stays until the draft is closed.
use Rattle.std.specs.Prelude.{ℕ, [], ◌∷◌, map}
use Rattle.cat_model.specs.declared.command.Command.{Command}
use Rattle.cat_model.specs.declared.command.Command.TheVariants as commands
use Rattle.cat_model.specs.Commits.{given_request}
use Rattle.cat_model.specs.Drafts.{Names}
use Rattle.cat_model.specs.State.{Digest, content_hash}

-- a commit its contents, with the ids that the draft gives; a merge its source, a transplant its commits
abbrev pub names_of : Digest → ℕ → Command → Names
names_of digest draft (commands.Commit c) = record { commits = []; contents = map (content_hash digest) (given_request digest draft c).contents }
names_of digest draft (commands.Merge m) = record { commits = m.from_hash ∷ []; contents = [] }
names_of digest draft (commands.Transplant t) = record { commits = t.hashes; contents = [] }
names_of digest draft (commands.Create c) = record { commits = []; contents = [] }
names_of digest draft (commands.Assign c) = record { commits = []; contents = [] }
names_of digest draft (commands.Delete c) = record { commits = []; contents = [] }
