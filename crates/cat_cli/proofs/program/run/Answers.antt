use Rattle.std.proofs.Common.{rules, ◌≡◌, ℕ, List, [], map, Bor, Option, Some, inr, refl, sym, ◌∙◌, ap}
use Rattle.cat_policy.specs.Policies.{policy_of}
use Rattle.cat_words.specs.Asked.{Task, asked, check, gc, migrate, script, serve, task}
use Rattle.cat_serve.specs.ReadingLaws.{some_readings}
use Rattle.cat_cli.proofs.Commands.{has_journal, is_command, lacks_journal, lacks_policy, no_collection, none_asked, refused_policy}
use Rattle.cat_cli.proofs.Opened.{stands_untouched}
use Rattle.cat_cli.proofs.ServedRuns.{out_of_memory}
use Rattle.cat_cli.proofs.Placed.{spared_untouched}
use Rattle.cat_cli.proofs.Unspoiled.{unspoiled_untouched}
use Rattle.cat_cli.proofs.program.run.Goals as goal

same_journal : (a b : List ℕ) → ◌≡◌ {A = Option Task} (Some (script a)) (Some (script b)) → a ≡ b
same_journal a b e = cc

same_migrated : (a b : List ℕ) → ◌≡◌ {A = Option Task} (Some (migrate a)) (Some (migrate b)) → a ≡ b
same_migrated a b e = cc

same_checked : (a b : List ℕ) → ◌≡◌ {A = Option Task} (Some (check a)) (Some (check b)) → a ≡ b
same_checked a b e = cc

module _ (j j' a a' : List ℕ) (w w' t t' n n' : ℕ) (e : ◌≡◌ {A = Option Task} (Some (serve j a w t n)) (Some (serve j' a' w' t' n'))) where
  same_served : j ≡ j'
  same_served = cc

  same_address : a ≡ a'
  same_address = cc

  same_workers : w ≡ w'
  same_workers = cc

  same_attempts : t ≡ t'
  same_attempts = cc

  same_connections : n ≡ n'
  same_connections = cc

module _ (j j' d d' : List ℕ) (r r' : List (List ℕ)) (e : ◌≡◌ {A = Option Task} (Some (gc j d r)) (Some (gc j' d' r'))) where
  same_collected : j ≡ j'
  same_collected = cc

  same_default : d ≡ d'
  same_default = cc

  same_rules : r ≡ r'
  same_rules = cc

same_words : (d d' : List ℕ) (r r' : List (List ℕ)) → d ≡ d' → r ≡ r' → policy_of d' r' ≡ policy_of d r
same_words d d' r r' p q = ap (λ (x : List ℕ × List (List ℕ)). policy_of x.0 x.1) (λ i. (sym p i, sym q i))

-- the texts that are lent are those that were found
lent : (words : List (List ℕ)) (journal default : List ℕ) {found now : List (Bor (List ℕ))} → now ≡ found → asked words ≡ Some (gc journal default (map (λ rule. rule.now) found)) → asked words ≡ Some (gc journal default (map (λ rule. rule.now) now))
lent words journal default same asks = asks ∙ ap (λ (l : List (Bor (List ℕ))). Some (gc journal default (map (λ rule. rule.now) l))) (sym same)

pub returns-in-Ok-Script-clause-replies : goal.returns-in-Ok-Script-clause-replies
returns-in-Ok-Script-clause-replies g c journal asks =
    rw (same_journal journal c.in-Ok-Script.journal.now (sym asks ∙ c.in-Ok-Script.ensures.ok ∙ ap (λ what. Some (task what)) c.in-Ok-Script.field-0-is)) c.script.ensures.replies

pub returns-in-Ok-Check-clause-checked : goal.returns-in-Ok-Check-clause-checked
returns-in-Ok-Check-clause-checked g c journal asks =
    rw (same_checked journal c.in-Ok-Check.journal.now (sym asks ∙ c.in-Ok-Check.ensures.ok ∙ ap (λ what. Some (task what)) c.in-Ok-Check.field-0-is)) c.check.ensures.checked

pub returns-in-Ok-Migrate-clause-migrated : goal.returns-in-Ok-Migrate-clause-migrated
returns-in-Ok-Migrate-clause-migrated g c journal asks =
    rw (same_migrated journal c.in-Ok-Migrate.journal.now (sym asks ∙ c.in-Ok-Migrate.ensures.ok ∙ ap (λ what. Some (task what)) c.in-Ok-Migrate.field-0-is)) c.migrate.ensures.migrated

pub returns-in-Ok-Script-clause-still : goal.returns-in-Ok-Script-clause-still
returns-in-Ok-Script-clause-still g c none = absurd (none c.in-Ok-Script.journal.now (c.in-Ok-Script.ensures.ok ∙ ap (λ what. Some (task what)) c.in-Ok-Script.field-0-is))

pub returns-in-Ok-Script-clause-clock : goal.returns-in-Ok-Script-clause-clock
returns-in-Ok-Script-clause-clock g c none other third = absurd (none c.in-Ok-Script.journal.now (c.in-Ok-Script.ensures.ok ∙ ap (λ what. Some (task what)) c.in-Ok-Script.field-0-is))

pub returns-in-Ok-Serve-clause-served : goal.returns-in-Ok-Serve-clause-served
returns-in-Ok-Serve-clause-served g c journal address workers attempts connections asks =
    let e = sym asks ∙ c.in-Ok-Serve.ensures.ok ∙ ap (λ what. Some (task what)) c.in-Ok-Serve.field-0-is in
    rw (
      same_served _ _ _ _ _ _ _ _ _ _ e,
      same_address _ _ _ _ _ _ _ _ _ _ e,
      same_workers _ _ _ _ _ _ _ _ _ _ e,
      same_attempts _ _ _ _ _ _ _ _ _ _ e,
      same_connections _ _ _ _ _ _ _ _ _ _ e,
    ) c.serve.ensures.served

pub returns-in-Ok-Serve-clause-clock : goal.returns-in-Ok-Serve-clause-clock
returns-in-Ok-Serve-clause-clock g c none other third =
    absurd (other c.in-Ok-Serve.journal.now c.in-Ok-Serve.address.now c.in-Ok-Serve.workers c.in-Ok-Serve.attempts c.in-Ok-Serve.connections (c.in-Ok-Serve.ensures.ok ∙ ap (λ what. Some (task what)) c.in-Ok-Serve.field-0-is))

pub returns-in-Ok-Serve-clause-listener : goal.returns-in-Ok-Serve-clause-listener
returns-in-Ok-Serve-clause-listener g c other =
    absurd (other c.in-Ok-Serve.journal.now c.in-Ok-Serve.address.now c.in-Ok-Serve.workers c.in-Ok-Serve.attempts c.in-Ok-Serve.connections (c.in-Ok-Serve.ensures.ok ∙ ap (λ what. Some (task what)) c.in-Ok-Serve.field-0-is))

-- the words are a command's
pub returns-in-Ok-Script-clause-refused : goal.returns-in-Ok-Script-clause-refused
returns-in-Ok-Script-clause-refused g c none = is_command _ _ (c.in-Ok-Script.ensures.ok ∙ ap (λ what. Some (task what)) c.in-Ok-Script.field-0-is) refl none

pub returns-in-Ok-Script-clause-memory_line : goal.returns-in-Ok-Script-clause-memory_line
returns-in-Ok-Script-clause-memory_line g c none = is_command _ _ (c.in-Ok-Script.ensures.ok ∙ ap (λ what. Some (task what)) c.in-Ok-Script.field-0-is) refl none

pub returns-in-Ok-Check-clause-refused : goal.returns-in-Ok-Check-clause-refused
returns-in-Ok-Check-clause-refused g c none = is_command _ _ (c.in-Ok-Check.ensures.ok ∙ ap (λ what. Some (task what)) c.in-Ok-Check.field-0-is) refl none

pub returns-in-Ok-Migrate-clause-refused : goal.returns-in-Ok-Migrate-clause-refused
returns-in-Ok-Migrate-clause-refused g c none = is_command _ _ (c.in-Ok-Migrate.ensures.ok ∙ ap (λ what. Some (task what)) c.in-Ok-Migrate.field-0-is) refl none

pub returns-in-Ok-Check-clause-memory_line : goal.returns-in-Ok-Check-clause-memory_line
returns-in-Ok-Check-clause-memory_line g c none = is_command _ _ (c.in-Ok-Check.ensures.ok ∙ ap (λ what. Some (task what)) c.in-Ok-Check.field-0-is) refl none

pub returns-in-Ok-Migrate-clause-memory_line : goal.returns-in-Ok-Migrate-clause-memory_line
returns-in-Ok-Migrate-clause-memory_line g c none = is_command _ _ (c.in-Ok-Migrate.ensures.ok ∙ ap (λ what. Some (task what)) c.in-Ok-Migrate.field-0-is) refl none

pub returns-in-Ok-Drill-clause-refused : goal.returns-in-Ok-Drill-clause-refused
returns-in-Ok-Drill-clause-refused g c none = is_command _ _ (c.in-Ok-Drill.ensures.ok ∙ ap (λ what. Some (task what)) c.in-Ok-Drill.field-0-is) refl none

pub returns-in-Ok-Drill-clause-memory_line : goal.returns-in-Ok-Drill-clause-memory_line
returns-in-Ok-Drill-clause-memory_line g c none = is_command _ _ (c.in-Ok-Drill.ensures.ok ∙ ap (λ what. Some (task what)) c.in-Ok-Drill.field-0-is) refl none

pub returns-in-Ok-Serve-clause-refused : goal.returns-in-Ok-Serve-clause-refused
returns-in-Ok-Serve-clause-refused g c none = is_command _ _ (c.in-Ok-Serve.ensures.ok ∙ ap (λ what. Some (task what)) c.in-Ok-Serve.field-0-is) refl none

pub returns-in-Ok-Serve-clause-memory_line : goal.returns-in-Ok-Serve-clause-memory_line
returns-in-Ok-Serve-clause-memory_line g c none = is_command _ _ (c.in-Ok-Serve.ensures.ok ∙ ap (λ what. Some (task what)) c.in-Ok-Serve.field-0-is) refl none

pub returns-in-Ok-Script-clause-untouched : goal.returns-in-Ok-Script-clause-untouched
returns-in-Ok-Script-clause-untouched g c none = has_journal _ _ c.in-Ok-Script.journal.now (c.in-Ok-Script.ensures.ok ∙ ap (λ what. Some (task what)) c.in-Ok-Script.field-0-is) refl none

pub returns-in-Ok-Check-clause-untouched : goal.returns-in-Ok-Check-clause-untouched
returns-in-Ok-Check-clause-untouched g c none = has_journal _ _ c.in-Ok-Check.journal.now (c.in-Ok-Check.ensures.ok ∙ ap (λ what. Some (task what)) c.in-Ok-Check.field-0-is) refl none

pub returns-in-Ok-Migrate-clause-untouched : goal.returns-in-Ok-Migrate-clause-untouched
returns-in-Ok-Migrate-clause-untouched g c none = has_journal _ _ c.in-Ok-Migrate.journal.now (c.in-Ok-Migrate.ensures.ok ∙ ap (λ what. Some (task what)) c.in-Ok-Migrate.field-0-is) refl none

pub returns-in-Ok-Serve-clause-untouched : goal.returns-in-Ok-Serve-clause-untouched
returns-in-Ok-Serve-clause-untouched g c none = has_journal _ _ c.in-Ok-Serve.journal.now (c.in-Ok-Serve.ensures.ok ∙ ap (λ what. Some (task what)) c.in-Ok-Serve.field-0-is) refl none

-- they ask for a collection
pub returns-in-Ok-Gc-clause-usage : goal.returns-in-Ok-Gc-clause-usage
returns-in-Ok-Gc-clause-usage g c is = refused_policy _ _ _ _ (lent _ _ _ c.deref.ensures.value (c.in-Ok-Gc.ensures.ok ∙ ap (λ what. Some (task what)) c.in-Ok-Gc.field-0-is)) (c.gc.ensures.usage is)

pub returns-in-Ok-Gc-clause-refused : goal.returns-in-Ok-Gc-clause-refused
returns-in-Ok-Gc-clause-refused g c none = c.gc.ensures.refused (lacks_policy _ _ _ _ (lent _ _ _ c.deref.ensures.value (c.in-Ok-Gc.ensures.ok ∙ ap (λ what. Some (task what)) c.in-Ok-Gc.field-0-is)) none)

pub returns-in-Ok-Gc-clause-memory_line : goal.returns-in-Ok-Gc-clause-memory_line
returns-in-Ok-Gc-clause-memory_line g c none = c.gc.ensures.memory_line (lacks_policy _ _ _ _ (lent _ _ _ c.deref.ensures.value (c.in-Ok-Gc.ensures.ok ∙ ap (λ what. Some (task what)) c.in-Ok-Gc.field-0-is)) none)

pub returns-in-Ok-Gc-clause-untouched : goal.returns-in-Ok-Gc-clause-untouched
returns-in-Ok-Gc-clause-untouched g c none = (c.gc.ensures.untouched (lacks_journal _ _ _ _ (lent _ _ _ c.deref.ensures.value (c.in-Ok-Gc.ensures.ok ∙ ap (λ what. Some (task what)) c.in-Ok-Gc.field-0-is)) none)).0

pub returns-in-Ok-Gc-clause-clock : goal.returns-in-Ok-Gc-clause-clock
returns-in-Ok-Gc-clause-clock g c none other third = (c.gc.ensures.untouched (no_collection _ _ _ _ (lent _ _ _ c.deref.ensures.value (c.in-Ok-Gc.ensures.ok ∙ ap (λ what. Some (task what)) c.in-Ok-Gc.field-0-is)) third)).1

pub returns-in-Ok-Gc-clause-collected : goal.returns-in-Ok-Gc-clause-collected
returns-in-Ok-Gc-clause-collected g c journal default rules policy asks is =
    let e = sym asks ∙ lent _ _ _ c.deref.ensures.value (c.in-Ok-Gc.ensures.ok ∙ ap (λ what. Some (task what)) c.in-Ok-Gc.field-0-is) in
    rw (same_collected _ _ _ _ _ _ e) (c.gc.ensures.collects policy (same_words _ _ _ _ (same_default _ _ _ _ _ _ e) (same_rules _ _ _ _ _ _ e) ∙ is))

pub returns-in-Err-Usage-clause-usage : goal.returns-in-Err-Usage-clause-usage
returns-in-Err-Usage-clause-usage g c is = none_asked _ (c.asked_of.ensures.usage (search rules))

-- memory ran out before the words were known
pub returns-in-Err-NoMemory-clause-collected : goal.returns-in-Err-NoMemory-clause-collected
returns-in-Err-NoMemory-clause-collected g c journal default rules policy asks is =
    let laws = g.met.O.D.Disk g.world.𝓛 g.world.𝓜 g.world.𝓡 ((λ s x. x), (λ x. x), (λ x. x), λ x. x) in
    inr (out_of_memory g.O.D.Disk.told g.O.D.Disk.may_leave g.O.D.Disk.moment g.O.D.Disk.left_since laws.only_now (g.O.Disks.at_path c.args.disks.now journal) _ _ _ _ c.tell_no_memory.result c.tell_no_memory.ensures.status refl refl c.tell_no_memory.ensures.told)

pub returns-in-Err-NoMemory-clause-served : goal.returns-in-Err-NoMemory-clause-served
returns-in-Err-NoMemory-clause-served g c journal address workers attempts connections asks =
    let laws = g.met.O.D.Disk g.world.𝓛 g.world.𝓜 g.world.𝓡 ((λ s x. x), (λ x. x), (λ x. x), λ x. x) in
    inr (out_of_memory g.O.D.Disk.told g.O.D.Disk.may_leave g.O.D.Disk.moment g.O.D.Disk.left_since laws.only_now (g.O.Disks.at_path c.args.disks.now journal) _ _ _ _ c.tell_no_memory.result c.tell_no_memory.ensures.status refl (refl, refl) c.tell_no_memory.ensures.told)

pub returns-in-Err-NoMemory-clause-replies : goal.returns-in-Err-NoMemory-clause-replies
returns-in-Err-NoMemory-clause-replies g c journal asks b w e f =
    let k = some_readings [] (g.C.Clock.ahead c.args.clock.now) _ refl in
    let laws = g.met.O.D.Disk g.world.𝓛 g.world.𝓜 g.world.𝓡 ((λ s x. x), (λ x. x), (λ x. x), λ x. x) in
    let spared = spared_untouched g.O.D.Disk.told g.O.D.Disk.may_leave g.O.D.Disk.moment g.O.D.Disk.left_since laws.only_now (g.O.Disks.at_path c.args.disks.now journal) in
    let same = unspoiled_untouched g.O.D.Disk.told g.O.D.Disk.may_leave g.O.D.Disk.moment g.O.D.Disk.left_since laws.only_now (g.O.Disks.at_path c.args.disks.now journal) in
    let told = c.tell_no_memory.ensures.told w f in
    (k.0, k.1, told.0, told.1, inr (rw c.tell_no_memory.ensures.status ((refl, told.2), stands_untouched _, spared, same), (refl, refl)))

pub returns-in-Err-NoMemory-clause-checked : goal.returns-in-Err-NoMemory-clause-checked
returns-in-Err-NoMemory-clause-checked g c journal asks w f =
    let laws = g.met.O.D.Disk g.world.𝓛 g.world.𝓜 g.world.𝓡 ((λ s x. x), (λ x. x), (λ x. x), λ x. x) in
    let spared = spared_untouched g.O.D.Disk.told g.O.D.Disk.may_leave g.O.D.Disk.moment g.O.D.Disk.left_since laws.only_now (g.O.Disks.at_path c.args.disks.now journal) in
    let same = unspoiled_untouched g.O.D.Disk.told g.O.D.Disk.may_leave g.O.D.Disk.moment g.O.D.Disk.left_since laws.only_now (g.O.Disks.at_path c.args.disks.now journal) in
    let told = c.tell_no_memory.ensures.told w f in
    (told.0, told.1, inr (rw c.tell_no_memory.ensures.status ((refl, told.2), stands_untouched _, spared, same)))

pub returns-in-Err-NoMemory-clause-migrated : goal.returns-in-Err-NoMemory-clause-migrated
returns-in-Err-NoMemory-clause-migrated g c journal asks w f =
    let laws = g.met.O.D.Disk g.world.𝓛 g.world.𝓜 g.world.𝓡 ((λ s x. x), (λ x. x), (λ x. x), λ x. x) in
    let spared = spared_untouched g.O.D.Disk.told g.O.D.Disk.may_leave g.O.D.Disk.moment g.O.D.Disk.left_since laws.only_now (g.O.Disks.at_path c.args.disks.now journal) in
    let same = unspoiled_untouched g.O.D.Disk.told g.O.D.Disk.may_leave g.O.D.Disk.moment g.O.D.Disk.left_since laws.only_now (g.O.Disks.at_path c.args.disks.now journal) in
    let told = c.tell_no_memory.ensures.told w f in
    (told.0, told.1, inr (rw c.tell_no_memory.ensures.status ((refl, told.2), stands_untouched _, spared, same)))
