use Rattle.std.proofs.Common.{◌≡◌, rules, string_bytes}
use Rattle.std.proofs.lemmas.Result.{err_from_is_err_and}
use Rattle.cat_json.proofs.Members.{Entry, step, stop, done}
use Rattle.cat_json.proofs.Ascending.{goes_on, ends_with_all, ascends_all}
use Rattle.cat_json.proofs.read.pairs.Goals as goal

pub loop-name-preserved : goal.loop-name-preserved
loop-name-preserved g c =
    let name : c.in_ok-from_str.field-0 ≡ string_bytes c.in-Some.name.now = search (rules, c.in_ok-from_str.ensures, c.as_str.ensures.value) in
    let e : Entry = (c.in-Some.name.now, c.in-Some.found.now) in (
      tt,
      tt,
      step g.F.ReadForm.reads c.args.members.now.entries c.loop-name.name-iterator c.next.new.self e c.loop-name.pairs c.push.new.self c.in_ok-from_str.field-0 c.in_ok-value.value c.in-Some.ensures.steps name c.in_ok-value.ensures c.in_ok-push.ensures.ok c.loop-name.invariant.2,
      goes_on c.args.members.now.entries c.loop-name.name-iterator c.next.new.self e c.loop-name.pairs c.push.new.self c.in_ok-from_str.field-0 c.in_ok-value.value c.in-Some.ensures.steps name c.in_ok-push.ensures.ok c.loop-name.invariant.3,
    )

pub returns-in_err-value-clause-value : goal.returns-in_err-value-clause-value
returns-in_err-value-clause-value g c =
    let p = err_from_is_err_and c.from_residual.result c.from_residual.ensures.1 in
    rw (p.1, p.2) (stop g.F.ReadForm.reads c.in_err-value.field-0.0 c.args.members.now.entries c.loop-name.name-iterator c.next.new.self (c.in-Some.name.now, c.in-Some.found.now) c.loop-name.pairs c.in-Some.ensures.steps c.in_err-value.ensures c.loop-name.invariant.2)

pub returns-clause-value : goal.returns-clause-value
returns-clause-value g c = done g.F.ReadForm.reads c.args.members.now.entries c.loop-name.name-iterator c.loop-name.pairs c.in-None.ensures.steps.0 c.loop-name.invariant.2

pub returns-clause-ascending : goal.returns-clause-ascending
returns-clause-ascending g c =
    ascends_all c.loop-name.pairs c.args.members.now.entries (ends_with_all c.args.members.now.entries c.loop-name.name-iterator c.loop-name.pairs c.in-None.ensures.steps.0 c.loop-name.invariant.3) c.iter-name-items.ensures.ordered
