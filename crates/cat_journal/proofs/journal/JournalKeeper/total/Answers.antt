use Rattle.std.proofs.Common.{ℕ, ◌≡◌, ◌+◌, IfSome, length, rules, sym, subst, ◌∙◌}
use Rattle.std.specs.Option.{option_map}
use Rattle.cat_journal.specs.Held.{first_payloads, held_count}
use Rattle.cat_journal.specs.Laws.{counted_all}
use Rattle.cat_journal.proofs.journal.JournalKeeper.total.Goals as goal

pub returns : goal.returns
returns g c =
    let j = c.args.self.now in
    subst (λ (n : ℕ). IfSome (option_map (first_payloads (held_count j.points)) (g.D.Disk.told j.disk)) (λ ps. j.points.before + n ≡ length ps)) (sym (c.len.ensures ∙ search rules)) (counted_all (g.D.Disk.told j.disk) j.points j.held)
