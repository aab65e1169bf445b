use Rattle.std.proofs.Common.{◌≡◌, ℕ, length, take, drop, ◌∙◌, ap, arith}
use Rattle.cat_journal.proofs.Ahead.{piece_read}
use Rattle.cat_journal.proofs.read_ahead.ReadAheadDisk.read_at.Goals as goal

pub returns-in-Some-clause-value : goal.returns-in-Some-clause-value
returns-in-Some-clause-value g c =
    let count : ℕ = length c.args.into.now in
    let copied : c.copy_from_slice.new.self ≡ take count (drop c.in-Some.from c.self.inside.bytes) =
    c.copy_from_slice.ensures.after ∙ ap (λ (k : ℕ). take k (drop c.in-Some.from c.self.inside.bytes)) (omega arith) in
    rw (← c.self.view_is)
    (piece_read c.self.inside.at c.self.inside.len c.args.at c.in-Some.from count c.self.inside.bytes c.copy_from_slice.new.self (g.D.Disk.told c.self.inside.disk) c.self.invariant
    c.in-Some.ensures.0 c.in-Some.ensures.1 copied c.copy_from_slice.ensures.len)
