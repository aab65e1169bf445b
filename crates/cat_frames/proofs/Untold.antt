-- What isn't told comes back where it is none.
use Rattle.std.proofs.Common.{◌≡◌, Bool, true, false, ◌&&◌, Option, Some, None, refl, ap}
use Rattle.std.specs.Prelude.{is_none, not, IsTrue}
use Rattle.cat_model.specs.declared.command.Create.{Create}
use Rattle.cat_model.specs.declared.command.Assign.{Assign}
use Rattle.cat_model.specs.declared.command.Merge.{Merge}
use Rattle.cat_model.specs.declared.command.Transplant.{Transplant}
use Rattle.cat_frames.specs.Commands.{create_is_logged, assign_is_logged, merge_is_logged, transplant_is_logged}

is_none_of : {A : Type 0} (a : Bool) (o : Option A) → (a && is_none o) ≡ true → None ≡ o
is_none_of a None h = refl
is_none_of true (Some x) h = absurd cc
is_none_of false (Some x) h = absurd cc

pub create_back : (c : Create) → IsTrue (create_is_logged c) → record { name = c.name; kind = c.kind; source = c.source; source_kind = None } ≡ c
create_back c h = rw (is_none_of _ c.source_kind h) refl

pub assign_back : (c : Assign) → IsTrue (assign_is_logged c) → record { name = c.name; kind = c.kind; expected = c.expected; source = c.source; source_kind = None } ≡ c
assign_back c h = rw (is_none_of _ c.source_kind h) refl

abbrev flags : Bool → Bool → Bool × Bool
flags a b = (a, b)

both_false : (a b : Bool) → (not a && not b) ≡ true → flags false false ≡ flags a b
both_false false false h = refl
both_false true b h = absurd cc
both_false false true h = absurd cc

abbrev with_flags : Merge → Bool × Bool → Merge
with_flags c x = record { branch = c.branch; hash = c.hash; from = c.from; from_hash = c.from_hash; meta = c.meta; modes = c.modes; dry_run = x.0; conflicts_as_result = x.1 }

pub merge_back : (c : Merge) → IsTrue (merge_is_logged c) → record { branch = c.branch; hash = c.hash; from = c.from; from_hash = c.from_hash; meta = c.meta; modes = c.modes; dry_run = false; conflicts_as_result = false } ≡ c
merge_back c h = ap (with_flags c) (both_false c.dry_run c.conflicts_as_result h)

abbrev flagged : Transplant → Bool × Bool → Transplant
flagged c x = record { branch = c.branch; hash = c.hash; from = c.from; hashes = c.hashes; modes = c.modes; dry_run = x.0; conflicts_as_result = x.1 }

pub transplant_back : (c : Transplant) → IsTrue (transplant_is_logged c) → record { branch = c.branch; hash = c.hash; from = c.from; hashes = c.hashes; modes = c.modes; dry_run = false; conflicts_as_result = false } ≡ c
transplant_back c h = ap (flagged c) (both_false c.dry_run c.conflicts_as_result h)
