use Rattle.std.proofs.Common.{List, ◌-◌, ◌||◌, ap, ◌∙◌}
use Rattle.cat_mark.specs.declared.roots.Roots.{Roots}
use Rattle.cat_mark.specs.Marks.{is_marked, live_of}
use Rattle.cat_model.specs.Base.{is_among}
use Rattle.cat_names.specs.declared.hash.Hash.{Hash}
use Rattle.cat_core.specs.Sweeps.{roots_taken}
use Rattle.cat_core.proofs.Taking.{keeps_rooted, slice_is}
use Rattle.cat_core.proofs.marking.marks_of.Goals as goal

pub returns : goal.returns
returns c hash =
    let commits = c.args.catalogue.now.commits in
    c.in_ok-mark_roots.ensures hash
    ∙ ap (λ (l : List Hash). is_marked l hash || is_among (live_of commits c.in_ok-roots.roots) hash) c.empty-marks.ensures.none
    ∙ ap (λ (r : Roots). is_among (live_of commits r) hash) (c.in_ok-roots.ensures ∙ (λ i. roots_taken c.args.sweep.now.policy (c.references.ensures.list i) (slice_is c.args.taken.now (c.args.sweep.now.opened - c.args.first) i) (record { commits = c.as_slice.ensures i; contents = c.as_slice-2.ensures i })))
    ∙ keeps_rooted c.args.first c.args.catalogue.now c.args.taken.now c.args.sweep.now hash

pub mark_roots-requires : goal.mark_roots-requires
mark_roots-requires c = c.empty-marks.ensures.walked c.args.catalogue.now.commits
