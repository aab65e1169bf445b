-- What the steps of a drill ask the catalogue.
use Rattle.std.specs.Prelude.{ℕ, ◌+◌, ◌*◌, ◌^◌, ◌%◌, ◌/◌, ◌==◌, pos, List, [], ◌∷◌, ◌++◌, replicate, Option, Some, None, Bool, true, false, if◌then◌else◌, codes}
use Rattle.std.specs.Fmt.{decimal}
use Rattle.sha2.specs.Sha256.{sha256}
use Rattle.cat_names.specs.Fields.{Key}
use Rattle.cat_names.specs.declared.hash.ContentId.{ContentId}
use Rattle.cat_model.specs.declared.command.Command.{Command}
use Rattle.cat_model.specs.declared.command.Command.TheVariants.{Commit}
use Rattle.cat_model.specs.declared.content.Body.TheVariants.{IcebergTable}
use Rattle.cat_model.specs.declared.content.Content.{Content}
use Rattle.cat_model.specs.declared.entry.ContentKind.TheVariants as kinds
use Rattle.cat_model.specs.declared.entry.Entry.{Entry}
use Rattle.cat_model.specs.declared.op.Op.{Op}
use Rattle.cat_model.specs.declared.op.Op.TheVariants.{Put, Delete}
use Rattle.cat_model.specs.State.{entry_for}

-- the number after a number
abbrev pub next_number : ℕ → ℕ
next_number x = (x * 6364136223846793005 + 1442695040888963407) % 2 ^ 64

-- what a step draws from its number
abbrev pub drawn : ℕ → ℕ
drawn x = x / 2 ^ 33

-- the key that is drawn, of one element
abbrev pub drawn_key : ℕ → Key
drawn_key r = (codes "t" ++ decimal (r % 1000)) ∷ []

-- whether a key that is there is removed
abbrev pub removes : ℕ → Bool
removes r = (r / 1000) % 4 == 0

-- the table of a step
abbrev pub table : ℕ → ContentId → Content
table i id = record {
  id = id;
  body = IcebergTable (record { metadata_location = codes "m" ++ decimal i; snapshot_id = pos i; schema_id = pos 0; spec_id = pos 0; sort_order_id = pos 0 });
}

-- a content that has no id yet
abbrev pub no_id : ContentId
no_id = record { bytes = replicate 16 0 }

abbrev pub new_entry : Entry
new_entry = record { kind = kinds.IcebergTable; id = no_id; hash = record { bytes = replicate 32 0 } }

-- a PUT of a new content, or under the id that is there
abbrev pub put : ℕ → Key → Option ContentId → Op × List Content
put i key None = (Put key new_entry true, table i no_id ∷ [])
put i key (Some id) = (Put key (entry_for sha256 (table i id)) false, table i id ∷ [])

-- the operation of a step by the entry that its key has
abbrev pub operation : ℕ → ℕ → Key → Option Entry → Op × List Content
operation i r key None = put i key None
operation i r key (Some entry) = if removes r then (Delete key, []) else put i key (Some entry.id)

-- the commit of an operation on `main`
abbrev pub commit_of : ℕ → Op × List Content → Command
commit_of i p = Commit (record {
  branch = codes "main";
  expected = None;
  meta = record { message = codes "drill " ++ decimal i; authors = []; signed = []; properties = []; author_time = None };
  ops = p.0 ∷ [];
  contents = p.1;
})

-- what step i asks, which draws r, by the entry that its key has
unfoldable pub command_of : ℕ → ℕ → Option Entry → Command
command_of i r found = commit_of i (operation i r (drawn_key r) found)

-- the moment of a step, in microseconds
abbrev pub moment_of : ℕ → ℕ
moment_of i = i * 1000000
