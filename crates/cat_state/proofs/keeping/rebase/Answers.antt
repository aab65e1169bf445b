use Rattle.std.proofs.Common.{Err, sym, ap, ◌∙◌}
use Rattle.std.proofs.lemmas.Result.{err_from_is_err_and}
use Rattle.cat_io.specs.Crashes.{none_is_not_some}
use Rattle.cat_state.proofs.Appended.{rebase_failed, rebased_ok}
use Rattle.cat_state.proofs.keeping.rebase.Goals as goal

pub unreachable-requires : goal.unreachable-requires
unreachable-requires g c =
    none_is_not_some (sym c.requires.up ∙ sym c.in_ok-reserve.ensures.down ∙ (c.in-Err-Down.ensures.is_down c.in-Err-Down.field-0-0).0 (ap Err c.in-Err-Down.field-0-is))

pub returns-in_err-reserve-clause-bases : goal.returns-in_err-reserve-clause-bases
returns-in_err-reserve-clause-bases g c =
    let p = err_from_is_err_and c.from_residual.result c.from_residual.ensures.1 in
    rw (p.1, p.2) (record { payloads = c.in_err-reserve.ensures.told; number = c.in_err-reserve.ensures.kept; first = c.in_err-reserve.ensures.first; format = c.in_err-reserve.ensures.format; fallen = c.in_err-reserve.ensures.down; flies = c.in_err-reserve.ensures.in_flight; level = c.in_err-reserve.ensures.faults; crash = c.in_err-reserve.ensures.time })

pub returns-in-Ok-clause-bases : goal.returns-in-Ok-clause-bases
returns-in-Ok-clause-bases g c =
    rebased_ok g.K.Keeper (g.met.K.Keeper g.world.𝓛 g.world.𝓜 g.world.𝓡 ((λ s x. x), (λ x. x), (λ x. x), λ x. x)).safe (g.met.K.Keeper g.world.𝓛 g.world.𝓜 g.world.𝓡 ((λ s x. x), (λ x. x), (λ x. x), λ x. x)).only_now c.args.keeper.now c.reserve.new.self c.rebase.new.self c.args.place c.args.payload.now c.requires.up
    (record { payloads = c.in_ok-reserve.ensures.told; number = c.in_ok-reserve.ensures.kept; first = c.in_ok-reserve.ensures.first; format = c.in_ok-reserve.ensures.format; fallen = c.in_ok-reserve.ensures.down; flies = c.in_ok-reserve.ensures.in_flight; level = c.in_ok-reserve.ensures.faults; crash = c.in_ok-reserve.ensures.time })
    (rw c.as_slice-bytes.ensures at c.in-Ok.ensures.added) c.in-Ok.ensures.kept c.in-Ok.ensures.first c.in-Ok.ensures.format c.in-Ok.ensures.up c.in-Ok.ensures.cause (rw c.as_slice-bytes.ensures at c.in-Ok.ensures.any_moment (c.in_ok-reserve.ensures.down ∙ c.requires.up))

pub returns-in-Err-Fault-clause-bases : goal.returns-in-Err-Fault-clause-bases
returns-in-Err-Fault-clause-bases g c =
    let failed = c.in-Err-Fault.ensures.failed (ap Err c.in-Err-Fault.field-0-is) in
    rebase_failed g.K.Keeper (g.met.K.Keeper g.world.𝓛 g.world.𝓜 g.world.𝓡 ((λ s x. x), (λ x. x), (λ x. x), λ x. x)).safe (g.met.K.Keeper g.world.𝓛 g.world.𝓜 g.world.𝓡 ((λ s x. x), (λ x. x), (λ x. x), λ x. x)).only_now c.args.keeper.now c.reserve.new.self c.rebase.new.self c.args.payload.now c.requires.up
    (record { payloads = c.in_ok-reserve.ensures.told; number = c.in_ok-reserve.ensures.kept; first = c.in_ok-reserve.ensures.first; format = c.in_ok-reserve.ensures.format; fallen = c.in_ok-reserve.ensures.down; flies = c.in_ok-reserve.ensures.in_flight; level = c.in_ok-reserve.ensures.faults; crash = c.in_ok-reserve.ensures.time })
    c.in-Err-Fault.ensures.not_added c.in-Err-Fault.ensures.not_kept.0 c.in-Err-Fault.ensures.not_kept.1 c.in-Err-Fault.ensures.format failed.1 (rw c.as_slice-bytes.ensures at failed.2)
    (rw c.in-Err-Fault.field-0-is at c.in-Err-Fault.ensures.cause) (rw c.as_slice-bytes.ensures at c.in-Err-Fault.ensures.any_moment (c.in_ok-reserve.ensures.down ∙ c.requires.up))
