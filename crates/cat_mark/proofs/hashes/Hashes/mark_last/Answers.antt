use Rattle.std.proofs.Common.{sym, ◌∙◌}
use Rattle.std.proofs.lemmas.Result.{on_ok_weaker, on_err_weaker}
use Rattle.cat_model.specs.Chain.{entries}
use Rattle.cat_mark.specs.Marks.{hashes}
use Rattle.cat_mark.proofs.Before.{adds_others, beside_map, shown, some_others, were_marked}
use Rattle.cat_mark.proofs.hashes.Hashes.mark_last.Goals as goal

pub returns-then-has-clause-ok : goal.returns-then-has-clause-ok
returns-then-has-clause-ok c =
    were_marked c.args.self.now (hashes (entries c.args.graph.now c.args.at.now))
    (shown c.args.graph.now c.args.self.now c.args.walked.now c.args.at.now c.requires.walked (sym c.has.ensures ∙ c.if-has.true))

pub returns-then-has-2-clause-ok : goal.returns-then-has-2-clause-ok
returns-then-has-2-clause-ok c =
    on_ok_weaker c.mark_changed_at.result
    (adds_others c.args.self.now c.mark_changed_at.new.self _ _
    (beside_map c.args.graph.now c.args.maps.now c.args.self.now c.args.walked.now c.args.at.now c.args.commit.now c.known.ensures c.known-2.ensures.ascends c.requires.maps c.requires.found c.requires.walked (sym c.has-2.ensures ∙ c.if-has-2.true)))
    c.mark_changed_at.ensures.ok

pub returns-then-has-2-clause-err : goal.returns-then-has-2-clause-err
returns-then-has-2-clause-err c =
    on_err_weaker c.mark_changed_at.result
    (some_others c.args.self.now c.mark_changed_at.new.self _ _
    (beside_map c.args.graph.now c.args.maps.now c.args.self.now c.args.walked.now c.args.at.now c.args.commit.now c.known.ensures c.known-2.ensures.ascends c.requires.maps c.requires.found c.requires.walked (sym c.has-2.ensures ∙ c.if-has-2.true)))
    c.mark_changed_at.ensures.err
