-- Each step asks what the catalogue may be asked.
use Rattle.std.proofs.Common.{◌≡◌, ℕ, List, [], Option, Some, None, Bool, true, false, cond, ◌&&◌, refl, ap₂}
use Rattle.std.specs.Str.{bytes_eq}
use Rattle.std.proofs.lemmas.Slice.Eq.{bytes_eq-Decides}
use Rattle.sha2.specs.Sha256.{sha256}
use Rattle.cat_names.specs.Fields.{Key}
use Rattle.cat_names.specs.declared.hash.ContentId.{ContentId}
use Rattle.cat_model.specs.declared.entry.Entry.{Entry}
use Rattle.cat_model.specs.declared.op.Op.TheVariants.{Delete}
use Rattle.cat_model.specs.State.{content_hash}
use Rattle.cat_model.specs.WellMade.{is_well_made, may_be_asked, have_contents}
use Rattle.cat_drill.specs.Steps.{command_of, commit_of, drawn_key, put, removes, table}

same : (bytes : List ℕ) → bytes_eq bytes bytes ≡ true
same bytes = (bytes_eq-Decides bytes bytes).1 refl

removed : (i : ℕ) (key : Key) → is_well_made sha256 (commit_of i (Delete key, [])) ≡ true
unfolding is_well_made may_be_asked have_contents
removed i key = refl

new : (i : ℕ) (key : Key) → is_well_made sha256 (commit_of i (put i key None)) ≡ true
unfolding is_well_made may_be_asked have_contents
new i key = refl

over : (i : ℕ) (key : Key) (id : ContentId) → is_well_made sha256 (commit_of i (put i key (Some id))) ≡ true
unfolding is_well_made may_be_asked have_contents
over i key id =
    ap₂ (λ a b. (a && b) && true) (same id.bytes) (same (content_hash sha256 (table i id)).bytes)

found_by : (b : Bool) (i : ℕ) (key : Key) (id : ContentId) → is_well_made sha256 (commit_of i (cond b (Delete key, []) (put i key (Some id)))) ≡ true
found_by true i key id = removed i key
found_by false i key id = over i key id

pub well_made : (i r : ℕ) (found : Option Entry) → is_well_made sha256 (command_of i r found) ≡ true
unfolding command_of
well_made i r None = new i (drawn_key r)
well_made i r (Some entry) = found_by (removes r) i (drawn_key r) entry.id
