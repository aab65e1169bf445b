use Rattle.std.proofs.Common.{◌∙◌, ap, subst, arith}
use Rattle.sha2.specs.Sha256.{sha256}
use Rattle.cat_codes.specs.Code.{whole}
use Rattle.cat_codes.specs.Read.{Gives}
use Rattle.cat_codes.specs.FieldLaws.{whole_found, whole_again}
use Rattle.cat_codes.proofs.Items.{gives_found}
use Rattle.cat_frames.specs.Checkpoints.{checkpoint_code}
use Rattle.cat_frames.specs.CheckpointLaws.{checkpoint_is}
use Rattle.cat_frames.proofs.checkpoint.checkpoint_from_bytes.Goals as goal

pub returns-clause-found : goal.returns-clause-found
returns-clause-found c = gives_found _ _ (λ x e. whole_found (checkpoint_code sha256) (checkpoint_is sha256) c.args.bytes.now x (λ i. omega (arith, c.type_inv.bytes i)) e) c.all_of.ensures

pub returns-clause-only : goal.returns-clause-only
returns-clause-only c = λ x fits e. subst (λ read. Gives c.all_of.result read) (ap (whole (checkpoint_code sha256)) e ∙ whole_again (checkpoint_code sha256) (checkpoint_is sha256) x fits) c.all_of.ensures
