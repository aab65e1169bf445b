use Rattle.std.proofs.Common.{◌∙◌, ap}
use Rattle.serde_json.specs.Data.{object}
use Rattle.cat_commit.specs.Metas.{meta_as}
use Rattle.cat_commit.proofs.ReadAgain.{read_again}
use Rattle.cat_commit.proofs.meta.meta_to_json.Goals as goal

pub returns-clause-reads_again : goal.returns-clause-reads_again
returns-clause-reads_again c =
    ap meta_as (c.into_value.ensures ∙ ap object c.in_ok-meta_object.ensures) ∙ read_again c.args.meta.now c.known.ensures
