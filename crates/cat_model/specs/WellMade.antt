-- Commands that are well made: what a request has to keep before it reaches the catalogue.
use Rattle.std.specs.Prelude.{ℕ, List, [], ◌∷◌, length, Option, Some, None, is_some, Bool, true, false, ◌&&◌, ◌||◌, not, nat_eq, nat_lt, nat_le}
use Rattle.std.specs.List.{list_any, list_all}
use Rattle.std.specs.Str.{bytes_eq}
use Rattle.std.specs.Cmp.Lexicographic.{pointwise}
use Rattle.cat_names.specs.Fields.{Key}
use Rattle.cat_names.specs.declared.hash.ContentId.{ContentId}
use Rattle.cat_model.specs.declared.command.Command.{Command}
use Rattle.cat_model.specs.declared.command.Command.TheVariants as commands
use Rattle.cat_model.specs.declared.content.Body.{Body}
use Rattle.cat_model.specs.declared.content.Body.TheVariants as bodies
use Rattle.cat_model.specs.declared.content.Content.{Content}
use Rattle.cat_model.specs.declared.entry.Entry.{Entry}
use Rattle.cat_model.specs.declared.op.Op.{Op}
use Rattle.cat_model.specs.declared.reference.Pointer.{Pointer}
use Rattle.cat_model.specs.declared.op.Op.TheVariants.{Put, Delete, Unchanged}
use Rattle.cat_model.specs.Commits.{with_their_contents, puts}
use Rattle.cat_model.specs.Contents.{body_kind}
use Rattle.cat_model.specs.Distinct.{are_distinct}
use Rattle.cat_model.specs.Same.{same_id, same_type, same_entry}
use Rattle.cat_model.specs.State.{Digest, entry_for}

-- the most operations of a commit request
abbrev pub most_ops : ℕ
most_ops = 10_000

-- the most commits of a transplant
abbrev pub most_hashes : ℕ
most_hashes = 100

-- the ids that the request itself gave to contents
abbrev pub given_ids : List Op → List ContentId
given_ids [] = []
given_ids (Put key entry true ∷ ops) = given_ids ops
given_ids (Put key entry false ∷ ops) = entry.id ∷ given_ids ops
given_ids (Delete key ∷ ops) = given_ids ops
given_ids (Unchanged key ∷ ops) = given_ids ops

-- no id comes twice
abbrev pub ids_differ : List ContentId → Bool
ids_differ [] = true
ids_differ (id ∷ ids) = not (list_any (λ other. same_id other id) ids) && ids_differ ids

-- a namespace stands at the key of its elements alone
abbrev pub may_stand_at : Key → Body → Bool
may_stand_at key (bodies.Namespace n) = pointwise bytes_eq n.elements key
may_stand_at key (bodies.IcebergTable t) = true
may_stand_at key (bodies.IcebergView v) = true
may_stand_at key (bodies.DeltaLakeTable t) = true
may_stand_at key (bodies.Udf f) = true

-- a PUT is of its content: of its type, and where the request gave the id, of its id and hash
abbrev pub is_of : Digest → Entry → Bool → Content → Bool
is_of digest entry true c = same_type entry.kind (body_kind c.body)
is_of digest entry false c = same_entry entry (entry_for digest c)

-- a PUT has its content, which may stand at its key
abbrev pub is_made : Digest → Op × Option Content → Bool
is_made digest (Put key entry fresh, None) = false
is_made digest (Put key entry fresh, Some c) = may_stand_at key c.body && is_of digest entry fresh c
is_made digest (Delete key, content) = true
is_made digest (Unchanged key, content) = true

-- operations on distinct keys, at least one and at most so many, no two of whose given ids are alike
unfoldable pub may_be_asked : List Op → Bool
may_be_asked ops = nat_lt 0 (length ops) && nat_le (length ops) most_ops && are_distinct ops && ids_differ (given_ids ops)

-- each PUT has its content, and there are no others
unfoldable pub have_contents : Digest → List Op → List Content → Bool
have_contents digest ops contents = nat_eq (length contents) (puts ops) && list_all (is_made digest) (with_their_contents ops contents)

-- a source has a name or a hash
abbrev pub points : Pointer → Bool
points p = is_some p.name || is_some p.hash

-- a command that the catalogue may be asked for
unfoldable pub is_well_made : Digest → Command → Bool
is_well_made digest (commands.Create c) = points c.source
is_well_made digest (commands.Assign c) = points c.source
is_well_made digest (commands.Delete c) = true
is_well_made digest (commands.Commit c) = may_be_asked c.ops && have_contents digest c.ops c.contents
is_well_made digest (commands.Merge m) = true
is_well_made digest (commands.Transplant t) = nat_lt 0 (length t.hashes) && nat_le (length t.hashes) most_hashes
