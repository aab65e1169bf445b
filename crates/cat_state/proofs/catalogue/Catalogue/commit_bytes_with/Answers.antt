use Rattle.std.proofs.Common.{sym}
use Rattle.cat_model.specs.Chain.{commit_of}
use Rattle.cat_state.specs.Changing.{with_additions}
use Rattle.cat_state.proofs.Upon.{is_spelled, not_empty}
use Rattle.cat_state.proofs.catalogue.Catalogue.commit_bytes_with.Goals as goal

pub returns-in-Some-clause-there : goal.returns-in-Some-clause-there
returns-in-Some-clause-there c =
    λ d fits e. is_spelled (commit_of (with_additions c.args.self.now c.args.more.now).commits c.args.hash.now) (c.in-Some.commit).now d c.in_ok-to_bytes.field-0.items (sym c.in-Some.ensures) c.in_ok-to_bytes.ensures.spelled c.in_ok-to_bytes.ensures.fits fits e

pub returns-then-eq-clause-there : goal.returns-then-eq-clause-there
returns-then-eq-clause-there c = λ d fits e. absurd (not_empty d c.in_ok-from_slice.field-0.items c.in_ok-from_slice.ensures.items e)
