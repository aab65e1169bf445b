use Rattle.std.proofs.Common.{arith, ◌+◌, ◌∙◌, sym, ap, subst}
use Rattle.std.proofs.lemmas.Result.{err_from_is_err_and}
use Rattle.cat_core.specs.Opening.{IsLedSoFar}
use Rattle.cat_core.proofs.Led.{StartsAt, all_read, begun_faults, fault_of, no_fault, none_read, starts_at}
use Rattle.cat_core.proofs.Reckoned.{next_added, next_refused, stays_on}
use Rattle.cat_core.proofs.opening.led_to.Goals as goal

pub returns-clause-led : goal.returns-clause-led
returns-clause-led g c =
    all_read (g.K.Keeper.told c.args.keeper.now) c.args.limits _ c.loop-i.i (g.K.Keeper.kept c.args.keeper.now) c.loop-i.replay.ledger c.loop-i.invariant.starts
    ((g.met.K.Keeper g.world.𝓛 g.world.𝓜 g.world.𝓡 ((λ s x. x), (λ x. x), (λ x. x), λ x. x)).counted c.args.keeper.now) (omega arith) c.loop-i.invariant.led

pub returns-in_err-add_payload-clause-illegal : goal.returns-in_err-add_payload-clause-illegal
returns-in_err-add_payload-clause-illegal g c = λ place is.
    let p = err_from_is_err_and c.from_residual-in_err-add_payload.result c.from_residual-in_err-add_payload.ensures.1 in
    next_refused g.K.Keeper c.args.keeper.now c.loop-i.keeper
    ((g.met.K.Keeper g.world.𝓛 g.world.𝓜 g.world.𝓡 ((λ s x. x), (λ x. x), (λ x. x), λ x. x)).counted c.args.keeper.now)
    c.loop-i.invariant.stays c.args.limits _ c.loop-i.invariant.starts c.loop-i.i (omega arith) c.loop-i.replay.ledger c.loop-i.invariant.led place (c.in_err-add_payload.ensures.illegal place (fault_of _ _ (rw (p.1, p.2) at is)))

pub returns-in_err-add_payload-clause-stays : goal.returns-in_err-add_payload-clause-stays
returns-in_err-add_payload-clause-stays g c =
    stays_on g.K.Keeper
    (g.met.K.Keeper g.world.𝓛 g.world.𝓜 g.world.𝓡 ((λ s x. x), (λ x. x), (λ x. x), λ x. x)).counts_now
    c.args.keeper.now c.loop-i.keeper c.add_payload.new.keeper c.loop-i.invariant.stays c.add_payload.ensures.stays

pub returns-in_err-add_payload-clause-level : goal.returns-in_err-add_payload-clause-level
returns-in_err-add_payload-clause-level g c = λ other.
    let p = err_from_is_err_and c.from_residual-in_err-add_payload.result c.from_residual-in_err-add_payload.ensures.1 in
    c.in_err-add_payload.ensures.level (λ is. other (rw (p.1, p.2) (fault_of _ _ is))) ∙ c.loop-i.invariant.level

pub loop-i-init : goal.loop-i-init
loop-i-init g c = record {
  starts = starts_at (g.K.Keeper.told c.args.keeper.now) c.args.limits _ c.in_ok-replay.replay c.in_ok-replay.ensures.starts;
  led = none_read (g.K.Keeper.told c.args.keeper.now) c.args.limits _ c.in_ok-replay.replay c.in_ok-replay.ensures.starts;
  followed = c.in_ok-replay.ensures.starts.starts.followed;
  began = begun_faults (g.K.Keeper.told c.args.keeper.now) c.args.limits _ c.in_ok-replay.replay c.in_ok-replay.ensures.starts;
  first = c.in_ok-replay.ensures.first;
  stays = c.in_ok-replay.ensures.stays;
  level = c.in_ok-replay.ensures.level (no_fault _ _);
}

pub loop-i-preserved : goal.loop-i-preserved
loop-i-preserved g c =
    let same = c.in_ok-add_payload.ensures.from in
    record {
      starts = subst (StartsAt (g.K.Keeper.told c.args.keeper.now) c.args.limits) (sym same) c.loop-i.invariant.starts;
      led =
          subst (λ o. IsLedSoFar (g.K.Keeper.told c.args.keeper.now) o (c.loop-i.i + 1) c.add_payload.new.replay.ledger) (sym same)
          (next_added g.K.Keeper c.args.keeper.now c.loop-i.keeper
          ((g.met.K.Keeper g.world.𝓛 g.world.𝓜 g.world.𝓡 ((λ s x. x), (λ x. x), (λ x. x), λ x. x)).counted c.args.keeper.now)
          c.loop-i.invariant.stays c.args.limits _ c.loop-i.invariant.starts c.loop-i.i (omega arith) c.loop-i.replay.ledger c.loop-i.invariant.led c.add_payload.new.replay.ledger c.in_ok-add_payload.ensures.added);
      followed = c.in_ok-add_payload.ensures.followed;
      began = ap (λ o. o.faults) same ∙ c.loop-i.invariant.began ∙ sym (c.in_ok-add_payload.ensures.level (no_fault _ _));
      first = ap (λ o. o.state.place) same ∙ c.loop-i.invariant.first;
      stays =
          stays_on g.K.Keeper
          (g.met.K.Keeper g.world.𝓛 g.world.𝓜 g.world.𝓡 ((λ s x. x), (λ x. x), (λ x. x), λ x. x)).counts_now
          c.args.keeper.now c.loop-i.keeper c.add_payload.new.keeper c.loop-i.invariant.stays c.add_payload.ensures.stays;
      level = c.in_ok-add_payload.ensures.level (no_fault _ _) ∙ c.loop-i.invariant.level;
    }
