use Rattle.std.proofs.Common.{ℕ, ◌+◌, ap₂, sym, ◌∙◌}
use Rattle.cat_work.specs.BookLaws.{is_ready, same_book}
use Rattle.cat_work.proofs.Made.{from_three}
use Rattle.cat_work.proofs.alone.hold.Goals as goal

pub returns-clause-ready : goal.returns-clause-ready
returns-clause-ready g c =
    from_three c.new.result _ _ _ _ (λ t desk pass number. (
      is_ready c.args.store t.0 t.1 (record { opened = desk.0; seen_is = pass.0; mark_is = pass.2 }) desk.1 desk.2 pass.3 c.history.ensures.legal,
      ap₂ (λ (a b : ℕ). a + b) number.2 number.1,
      number.0,
    )) c.new.ensures.desk c.new.ensures.pass c.new.ensures.number

pub returns-clause-book : goal.returns-clause-book
returns-clause-book g c =
    from_three c.new.result _ _ _ _ (λ t desk pass number. same_book c.args.store t.0 t.1 (record { opened = desk.0; seen_is = pass.0; mark_is = pass.2 }) c.history.ensures.led c.history.ensures.draft c.history.ensures.base)
    c.new.ensures.desk c.new.ensures.pass c.new.ensures.number

pub returns-clause-begun : goal.returns-clause-begun
returns-clause-begun g c =
    from_three c.new.result _ _ _ _ (λ t desk pass number. (desk.1, pass.0 ∙ sym desk.1))
    c.new.ensures.desk c.new.ensures.pass c.new.ensures.number

pub returns-clause-spare : goal.returns-clause-spare
returns-clause-spare g c =
    from_three c.new.result _ _ _ _ (λ t desk pass number. number.1)
    c.new.ensures.desk c.new.ensures.pass c.new.ensures.number

pub returns-clause-mark : goal.returns-clause-mark
returns-clause-mark g c =
    from_three c.new.result _ _ _ _ (λ t desk pass number. (pass.2, pass.4 ∙ c.requires))
    c.new.ensures.desk c.new.ensures.pass c.new.ensures.number
