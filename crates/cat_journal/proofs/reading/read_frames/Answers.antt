use Rattle.std.proofs.Common.{◌≡◌, None, refl, subst, rules}
use Rattle.std.specs.List.{All}
use Rattle.std.specs.Prelude.{IfSome}
use Rattle.cat_journal.specs.Reading.{HasFrame, IsEntryFault, unread_at}
use Rattle.cat_journal.proofs.Verdicts.{base_fault_found, entry_fault_found, no_damage_found, torn_found, whole_found}
use Rattle.cat_journal.proofs.ReadOnly.{told_then}
use Rattle.cat_journal.proofs.reading.read_frames.Goals as goal

pub returns-in-Err-clause-found : goal.returns-in-Err-clause-found
returns-in-Err-clause-found g c = no_damage_found (g.D.Disk.told c.args.disk.now) c.in-Err.fault c.in-Err.ensures.fault

pub returns-in-Err-read_base-clause-found : goal.returns-in-Err-read_base-clause-found
returns-in-Err-read_base-clause-found g c =
    base_fault_found c.args.newer c.in-Ok.walked.0 c.in-Ok.walked.1 (search rules) (g.D.Disk.told c.args.disk.now) (g.D.Disk.told c.walk.new.disk) c.walk.ensures.reads.same c.in-Ok.ensures.found c.in-Err-read_base.fault c.in-Err-read_base.ensures.found

pub returns-in-Err-read_entries-clause-found : goal.returns-in-Err-read_entries-clause-found
returns-in-Err-read_entries-clause-found g c =
    let t = g.D.Disk.told c.args.disk.now in
    let t1 = g.D.Disk.told c.walk.new.disk in
    let t2 = g.D.Disk.told c.read_base.new.disk in
    let gates : c.deref.result.now ≡ c.in-Ok.walked.0.gates.items = search rules in
    entry_fault_found c.args.newer c.in-Ok.walked.0 c.in-Ok.walked.1 (search rules) c.in-Ok-read_base.first t t1 t2 c.walk.ensures.reads.same (told_then t t1 t2 c.walk.ensures.reads.same c.read_base.ensures.reads.same) c.in-Ok.ensures.found
    c.in-Ok-read_base.ensures.found c.in-Err-read_entries.fault (subst (λ l. IfSome t2 (λ bytes. All (HasFrame bytes) l → IsEntryFault l bytes c.in-Err-read_entries.fault)) gates c.in-Err-read_entries.ensures.found)

pub returns-then-broken-clause-found : goal.returns-then-broken-clause-found
returns-then-broken-clause-found g c =
    let t = g.D.Disk.told c.args.disk.now in
    let t1 = g.D.Disk.told c.walk.new.disk in
    let t2 = g.D.Disk.told c.read_base.new.disk in
    let gates : c.deref.result.now ≡ c.in-Ok.walked.0.gates.items = search rules in
    torn_found c.args.newer c.in-Ok.walked.0 c.in-Ok.walked.1 (search rules) c.in-Ok-read_base.first t t1 t2 c.walk.ensures.reads.same (told_then t t1 t2 c.walk.ensures.reads.same c.read_base.ensures.reads.same) c.in-Ok.ensures.found
    c.in-Ok-read_base.ensures.found c.if-broken.true (subst (λ l. IfSome t2 (λ bytes. All (HasFrame bytes) l → unread_at l bytes ≡ None)) gates c.in-Ok-read_entries.ensures.found)

pub returns-clause-found : goal.returns-clause-found
returns-clause-found g c =
    let t = g.D.Disk.told c.args.disk.now in
    let t1 = g.D.Disk.told c.walk.new.disk in
    let t2 = g.D.Disk.told c.read_base.new.disk in
    let gates : c.deref.result.now ≡ c.in-Ok.walked.0.gates.items = search rules in
    whole_found c.args.newer c.in-Ok.walked.0 c.in-Ok.walked.1 (search rules) c.in-Ok-read_base.first t t1 t2 c.walk.ensures.reads.same (told_then t t1 t2 c.walk.ensures.reads.same c.read_base.ensures.reads.same) c.in-Ok.ensures.found
    c.in-Ok-read_base.ensures.found (record c.in-Ok.walked.0 { first = c.in-Ok-read_base.first }) refl refl c.if-broken.false (subst (λ l. IfSome t2 (λ bytes. All (HasFrame bytes) l → unread_at l bytes ≡ None)) gates c.in-Ok-read_entries.ensures.found)
