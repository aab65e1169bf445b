use Rattle.std.proofs.Common.{◌<◌, ◌^◌, sym, ap, ◌∙◌, arith}
use Rattle.cat_frames.specs.Bases.{checkpoint_spelling}
use Rattle.cat_keeper.specs.Bases.{base_place}
use Rattle.cat_state.proofs.Spelled.{place_spelled}
use Rattle.cat_state.proofs.catalogue.Catalogue.keep_checkpoint.Goals as goal

pub rebase-requires-clause-place : goal.rebase-requires-clause-place
rebase-requires-clause-place g c κs within =
    let short : c.args.self.now.place < 2 ^ 32 = omega (arith, c.place.ensures) in
    ap base_place (c.in_ok-bytes.ensures.spelled ∙ ap checkpoint_spelling c.in_ok-checkpoint.ensures) ∙ place_spelled c.args.self.now c.args.draft c.args.drafts short ∙ sym c.place.ensures
