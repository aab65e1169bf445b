use Rattle.std.proofs.lemmas.Result.{err_from_is_err_and}
use Rattle.cat_rules.specs.Rules.{verdict}
use Rattle.cat_decisions.specs.KeyLaws.{still_distinct}
use Rattle.cat_decisions.proofs.Making.{making_is}
use Rattle.cat_decisions.proofs.Puts.{map_held}
use Rattle.cat_decisions.proofs.Steps.{map_changed, opened_is, step_added, step_refused, step_unadded}
use Rattle.cat_decisions.proofs.commit.settle_commit.Goals as goal

pub returns-in_err-map : goal.returns-in_err-map
returns-in_err-map c =
    let p = err_from_is_err_and c.from_residual.result c.from_residual.ensures.1 in
    let state = c.args.catalogue.now in
    let request = c.args.request.now in
    let number = c.args.number in
    let branch = c.in-Ok.branch.now in
    let given = c.args.given in
    let opened = opened_is state request number branch c.in-Ok.field-0-1 given c.args.judged c.in-Ok.ensures.opened c.requires.given c.requires.judged in
    record { decides = rw (p.1, p.2) (step_refused state request number c.args.moment branch given (verdict c.args.judged) c.in_err-map.field-0.0 opened (rw c.as_slice.ensures at c.in_err-map.ensures.test)) }

pub additions-requires-clause-after : goal.additions-requires-clause-after
additions-requires-clause-after c =
    let state = c.args.catalogue.now in
    let request = c.args.request.now in
    let number = c.args.number in
    let branch = c.in-Ok.branch.now in
    let given = c.args.given in
    let opened = opened_is state request number branch c.in-Ok.field-0-1 given c.args.judged c.in-Ok.ensures.opened c.requires.given c.requires.judged in
    record {
      distinct = still_distinct number request given.ops c.requires.given.ops c.requires.distinct;
      known = c.in-Ok.ensures.known.upon;
      changed = map_changed state request number branch given (verdict c.args.judged) c.in_ok-map.map opened (rw c.as_slice.ensures at c.in_ok-map.ensures.test);
      well_formed = c.in_ok-map.ensures.well_formed c.requires.judged.1.well_formed;
    }

pub additions-requires-clause-held : goal.additions-requires-clause-held
additions-requires-clause-held c =
    let state = c.args.catalogue.now in
    let request = c.args.request.now in
    let number = c.args.number in
    let branch = c.in-Ok.branch.now in
    let given = c.args.given in
    let opened = opened_is state request number branch c.in-Ok.field-0-1 given c.args.judged c.in-Ok.ensures.opened c.requires.given c.requires.judged in
    map_held state number request branch given c.in_ok-map.map c.requires.given c.requires.contents c.in-Ok.ensures.held (map_changed state request number branch given (verdict c.args.judged) c.in_ok-map.map opened (rw c.as_slice.ensures at c.in_ok-map.ensures.test))

pub returns-in_err-hash : goal.returns-in_err-hash
returns-in_err-hash c =
    let p = err_from_is_err_and c.from_residual-in_err-hash.result c.from_residual-in_err-hash.ensures.1 in
    let state = c.args.catalogue.now in
    let request = c.args.request.now in
    let number = c.args.number in
    let branch = c.in-Ok.branch.now in
    let given = c.args.given in
    let opened = opened_is state request number branch c.in-Ok.field-0-1 given c.args.judged c.in-Ok.ensures.opened c.requires.given c.requires.judged in
    record { decides = rw (p.1, p.2) (step_unadded state request number c.args.moment branch given (verdict c.args.judged) c.in_ok-map.map c.in_err-hash.field-0.0 opened (rw c.as_slice.ensures at c.in_ok-map.ensures.test) c.in_err-hash.ensures.step) }

pub returns : goal.returns
returns c =
    let state = c.args.catalogue.now in
    let request = c.args.request.now in
    let number = c.args.number in
    let branch = c.in-Ok.branch.now in
    let given = c.args.given in
    let opened = opened_is state request number branch c.in-Ok.field-0-1 given c.args.judged c.in-Ok.ensures.opened c.requires.given c.requires.judged in
    let hash = c.in_ok-hash.hash in
    let step = step_added state request number c.args.moment branch given (verdict c.args.judged) c.in_ok-map.map hash c.in_ok-hash.additions opened (rw c.as_slice.ensures at c.in_ok-map.ensures.test) c.in_ok-hash.ensures.step c.in_ok-hash.ensures.hash in
    record { decides = making_is number c.args.moment state request branch hash given c.in_ok-hash.additions c.in_ok-making.making c.in_ok-making.ensures step c.in_ok-map.ensures.place c.in_ok-hash.ensures.new c.in_ok-hash.ensures.head c.requires.given }
