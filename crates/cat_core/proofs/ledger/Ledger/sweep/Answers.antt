use Rattle.std.proofs.Common.{◌≡◌, ◌+◌, ℕ, IsTrue, List, length, sym, ap, ◌∙◌, subst, arith}
use Rattle.cat_frames.specs.Entries.{is_logged}
use Rattle.cat_model.specs.declared.log_entry.LogEntry.{LogEntry}
use Rattle.cat_model.specs.Book.{Book}
use Rattle.cat_model.specs.State.{State}
use Rattle.cat_model.specs.Sweeps.{sweep_entry}
use Rattle.cat_names.specs.declared.hash.Hash.{Hash}
use Rattle.cat_state.specs.Kept.{Grew, Spares}
use Rattle.cat_state.specs.Sweeping.{spares_at, sweeping, without}
use Rattle.cat_tables.specs.References.{heads_pass}
use Rattle.cat_core.specs.Making.{with_entry}
use Rattle.cat_core.proofs.Removing.{done_as, failed_runs, fewer, logs_as, spares}
use Rattle.cat_core.proofs.ledger.Ledger.sweep.Goals as goal

pub remove-requires-clause-spared : goal.remove-requires-clause-spared
remove-requires-clause-spared g c = λ κs lives.
    subst (λ (l : List Hash). IsTrue (heads_pass (spares_at c.args.self.now.state.commits l) c.args.self.now.state.references)) (sym c.as_slice.ensures.value) (spares c.args.caller c.args.moment c.args.self.now c.args.sweep c.args.hashes.items c.requires.room c.requires.goes)

pub remove-requires-clause-logged : goal.remove-requires-clause-logged
unfolding is_logged
remove-requires-clause-logged g c κs within = c.requires.logged

pub swept-requires : goal.swept-requires
swept-requires g c =
    let before : c.len-before.result ≡ length c.args.self.now.state.present = c.len-before.ensures ∙ ap length (c.contents.ensures ∙ ap (λ (s : State). s.present) c.catalogue.ensures) in
    let left : length c.remove.new.self.state.present ≡ length (without c.as_slice.result.now c.args.self.now.state.present) = ap (λ (b : Book). length b.state.present) c.in-Ok.ensures.ok in
    let few = fewer c.as_slice.result.now c.args.self.now.state.present in
    omega (arith, before, left, few)

pub returns-in-Ok-clause-call : goal.returns-in-Ok-clause-call
unfolding sweep_entry
returns-in-Ok-clause-call g c =
    let made : LogEntry = sweep_entry c.args.caller (c.place.result + 1) c.args.moment c.args.sweep in
    let left : c.remove.new.self ≡ with_entry c.args.self.now (sweeping c.args.self.now.state c.args.hashes.items) made = c.in-Ok.ensures.ok ∙ ap (λ (l : List Hash). with_entry c.args.self.now (sweeping c.args.self.now.state l) made) c.as_slice.ensures.value in
    done_as c.args.caller c.args.moment c.args.self.now c.remove.new.self c.args.sweep c.args.hashes.items c.requires.room c.requires.goes made
    (ap (λ (n : ℕ). sweep_entry c.args.caller (n + 1) c.args.moment c.args.sweep) c.place.ensures)
    c.swept.result c.len-before.result (c.len-before.ensures ∙ ap length (c.contents.ensures ∙ ap (λ (s : State). s.present) c.catalogue.ensures)) left c.swept.ensures

pub returns-in-Ok-clause-keeps : goal.returns-in-Ok-clause-keeps
unfolding sweep_entry
returns-in-Ok-clause-keeps g c =
    subst (λ (l : List LogEntry). Grew g.K.Keeper c.args.keeper.now c.remove.new.keeper l)
    (sym (logs_as c.args.caller c.args.moment c.args.self.now c.remove.new.self c.args.sweep c.args.hashes.items c.requires.room c.requires.goes _ (ap (λ (n : ℕ). sweep_entry c.args.caller (n + 1) c.args.moment c.args.sweep) c.place.ensures)))
    c.in-Ok.ensures.keeps

pub returns-clause-call : goal.returns-clause-call
returns-clause-call g c =
    failed_runs c.args.caller c.args.moment c.args.self.now c.args.sweep c.args.hashes.items c.requires.room c.requires.goes c.remove.new.self c.in-Err.why c.in-Err.ensures.err c.in-Err.ensures.unrefused

pub returns-clause-keeps : goal.returns-clause-keeps
unfolding sweep_entry
returns-clause-keeps g c =
    subst (λ (l : List LogEntry). Spares g.K.Keeper c.args.keeper.now c.remove.new.keeper l c.in-Err.why)
    (sym (logs_as c.args.caller c.args.moment c.args.self.now c.remove.new.self c.args.sweep c.args.hashes.items c.requires.room c.requires.goes _ (ap (λ (n : ℕ). sweep_entry c.args.caller (n + 1) c.args.moment c.args.sweep) c.place.ensures)))
    c.in-Err.ensures.keeps
