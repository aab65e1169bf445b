use Rattle.std.proofs.Common.{◌≡◌, ℕ, ◌+◌, ◌-◌, ◌<◌, ◌≤◌, [], ◌∷◌, ◌++◌, Some, refl, ap, ◌∙◌, inr, arith}
use Rattle.std.specs.Io.KnownBytes.{prepend_known}
use Rattle.cat_serve.specs.declared.ending.Session.TheVariants as ends
use Rattle.cat_serve.specs.Passes.{place}
use Rattle.cat_serve.specs.Sessions.{Stands}
use Rattle.cat_serve.proofs.Clocked.{begins_first, begins_then, takes_none, takes_on, took_on}
use Rattle.cat_serve.proofs.Points.{reaches_on}
use Rattle.cat_serve.proofs.Reading.{not_begun, nothing_held}
use Rattle.cat_serve.proofs.Standing.{keeps_on, keeps_self}
use Rattle.cat_serve.proofs.Promised.{serves}
use Rattle.cat_serve.proofs.Visiting.{at_first, at_left, ends_without, goes_on, none_visited}
use Rattle.cat_serve.proofs.session.serve_connection.Goals as goal

-- so many requests may follow the next one
next_left : (left count : ℕ) → left + count ≡ 1000 → count < 1000 → left ≡ 1000 - 1 - count + 1
next_left left count e h = omega arith

counted : (left count : ℕ) → left ≡ 1000 - 1 - count → count < 1000 → left + (count + 1) ≡ 1000
counted left count e h = omega arith

none_left : (left count : ℕ) → left + count ≡ 1000 → 1000 ≤ count → left ≡ 0
none_left left count e h = omega arith

not_cut : ends.Capped ≡ ends.ReadFault → ⊥
not_cut e = cc

whole_left : (left : ℕ) → left ≡ 1000 → left + 0 ≡ 1000
whole_left left whole = omega (arith, whole)

-- memory ran out before the first request
pub returns-in_default-clause-alone : goal.returns-in_default-clause-alone
returns-in_default-clause-alone g c = not_begun c.args.desk.now c.args.pass.now _ _ _

pub returns-in_default-new-clause-alone : goal.returns-in_default-new-clause-alone
returns-in_default-new-clause-alone g c = not_begun c.args.desk.now c.args.pass.now _ _ _

pub returns-in_default-clause-serves : goal.returns-in_default-clause-serves
returns-in_default-clause-serves g c = serves c.args.desk.now c.args.settings.attempts _ ends.NoMemory _ _ _ _ (none_visited c.args.desk.now c.args.settings.attempts c.args.pass.now _ _ _) c.requires.ready.starts c.requires.ready.legal

pub returns-in_default-new-clause-serves : goal.returns-in_default-new-clause-serves
returns-in_default-new-clause-serves g c = serves c.args.desk.now c.args.settings.attempts _ ends.NoMemory _ _ _ _ (none_visited c.args.desk.now c.args.settings.attempts c.args.pass.now _ _ _) c.requires.ready.starts c.requires.ready.legal

pub turns-init : goal.turns-init
turns-init g c = record {
  reached = (
    [],
    refl,
    λ k a begins whole stands.
        let starts : Stands c.args.desk.now a c.args.pass.now (prepend_known c.in-Ok.buffer.unread (g.S.Source.left c.args.source.now)) (g.K.Sink.held c.args.sink.now) =
        record { pass_at = stands.pass_at; bytes_are = nothing_held _ _ c.in-Ok.ensures ∙ stands.bytes_are; held_is = stands.held_is } in
        (a, ([], refl), whole_left a.left whole, starts, takes_none a.standing),
  );
  visited = ([], 1000, refl, at_first _ _ _ _ _ (nothing_held _ _ c.in-Ok.ensures));
  ready = c.requires.ready;
  gate = c.requires.gate;
  desks = refl;
  kept = keeps_self c.args.desk.now c.args.pass.now c.requires.ready.free;
  source_faults = refl;
  sink_faults = refl;
}

pub turns-preserved : goal.turns-preserved
turns-preserved g c =
    let so_far = c.turns.invariant.reached in
    let on = c.in_default-turn.ensures.on in
    let been = c.turns.invariant.visited in
    let visit = c.in_default-turn.ensures.visit in
    record {
      reached = (
        so_far.0 ++ on.0,
        took_on so_far.0 on.0 _ _ _ so_far.1 on.1,
        λ k a begins whole stands.
            let x = so_far.2 k a (begins_first _ k so_far.0 on.0 begins) whole stands in
            let t = on.2 k x.0 (begins_then k so_far.0 on.0 a.standing x.0.standing x.4 begins) (next_left x.0.left c.turns.count x.2 c.turns-test.true) x.3 in (
              t.0.after,
              reaches_on k a x.0 t.0 x.1 t.1.answered t.1.goes_on,
              counted t.0.after.left c.turns.count t.1.left_is c.turns-test.true,
              t.1.stands,
              takes_on so_far.0 on.0 a.standing x.0.standing t.0.after.standing x.4 t.1.takes,
            ),
      );
      visited = (
        been.0 ++ visit.0 ∷ [],
        1000 - 1 - c.turns.count,
        counted (1000 - 1 - c.turns.count) c.turns.count refl c.turns-test.true,
        goes_on c.args.desk.now c.args.settings.attempts been.0 _ _ _ visit.0 (at_left c.args.desk.now c.args.settings.attempts been.0 _ been.1 _ _ _ _ _ (next_left been.1 c.turns.count been.2 c.turns-test.true) been.3) visit.1 visit.2 visit.3,
      );
      ready = c.in_default-turn.ensures.ready;
      gate = c.in_default-turn.ensures.gate.0;
      desks = c.in_default-turn.ensures.gate.1 ∙ c.turns.invariant.desks;
      kept = keeps_on c.args.desk.now c.args.pass.now _ _ c.turns.invariant.kept c.in_default-turn.ensures.kept;
      source_faults = grind (arith, c.in_default-turn.ensures.source_stays, c.turns.invariant.source_faults);
      sink_faults = grind (arith, c.in_default-turn.ensures.sink_stays, c.turns.invariant.sink_faults);
    }

pub returns-in-Some-clause-alone : goal.returns-in-Some-clause-alone
returns-in-Some-clause-alone g c =
    let so_far = c.turns.invariant.reached in
    let ends = c.in-Some.ensures.ends in (
      so_far.0 ++ ends.0,
      took_on so_far.0 ends.0 _ _ _ so_far.1 ends.1,
      λ k a begins whole stands.
          let x = so_far.2 k a (begins_first _ k so_far.0 ends.0 begins) whole stands in
          let t = ends.2 k x.0 (begins_then k so_far.0 ends.0 a.standing x.0.standing x.4 begins) (next_left x.0.left c.turns.count x.2 c.turns-test.true) x.3 in
          (t.0, t.1, t.2, inr (x.0, x.1, t.3, λ e. c.in-Some.ensures.cut (ap Some e) x.0.bytes x.3.bytes_are), t.4, takes_on so_far.0 ends.0 a.standing x.0.standing t.2 x.4 t.5),
    )

pub returns-in-Some-clause-kept : goal.returns-in-Some-clause-kept
returns-in-Some-clause-kept g c = keeps_on c.args.desk.now c.args.pass.now _ _ c.turns.invariant.kept c.in-Some.ensures.kept

pub returns-clause-alone : goal.returns-clause-alone
returns-clause-alone g c =
    let so_far = c.turns.invariant.reached in (
      so_far.0,
      so_far.1,
      λ k a begins whole stands.
          let x = so_far.2 k a begins whole stands in
          (x.0.written, x.3.held_is, x.0.standing, inr (x.0, x.1, (none_left x.0.left c.turns.count x.2 c.turns-test.false, refl, refl), λ e. absurd (not_cut e)), x.3.pass_at, x.4),
    )

pub returns-in-Some-clause-serves : goal.returns-in-Some-clause-serves
returns-in-Some-clause-serves g c =
    let been = c.turns.invariant.visited in
    serves c.args.desk.now c.args.settings.attempts _ c.in-Some.end _ _ _ _ (record {
      visits = been.0;
      c = _;
      goes = at_left c.args.desk.now c.args.settings.attempts been.0 _ been.1 _ _ _ _ _ (next_left been.1 c.turns.count been.2 c.turns-test.true) been.3;
      ended = c.in-Some.ensures.last;
    }) c.requires.ready.starts c.in-Some.ensures.ready.legal

pub returns-clause-serves : goal.returns-clause-serves
returns-clause-serves g c =
    let been = c.turns.invariant.visited in
    let here = place been.1 c.turns.pass (g.C.Clock.ahead c.turns.clock) (prepend_known c.turns.buffer.unread (g.S.Source.left c.turns.source)) (g.K.Sink.held c.turns.sink) in
    serves c.args.desk.now c.args.settings.attempts _ ends.Capped _ _ _ _ (record {
      visits = been.0;
      c = here;
      goes = been.3;
      ended = ends_without c.args.desk.now c.args.settings.attempts here ends.Capped _ (none_left been.1 c.turns.count been.2 c.turns-test.false, refl);
    }) c.requires.ready.starts c.turns.invariant.ready.legal
