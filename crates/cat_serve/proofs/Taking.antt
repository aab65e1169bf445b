-- Passes that were taken in, one after another.
use Rattle.std.proofs.Common.{ℕ}
use Rattle.cat_desk.specs.LogLaws.{follows_itself, follows_on}
use Rattle.cat_desk.specs.Pass.{CarriesOn, HasNumber, seen}
use Rattle.cat_desk.specs.declared.pass.Pass.{Pass}
use Rattle.cat_serve.specs.Serving.{TakenIn}

-- nothing was done since
pub taken_self : (number : ℕ) (p : Pass) → HasNumber number p → TakenIn number p p
taken_self number p has = record { has = has; follows = follows_itself number (seen p); faults = λ x is own. is }

-- the one that has the number was taken in too
pub taken_on : (number : ℕ) (p q r : Pass) → CarriesOn q r → TakenIn number p q → TakenIn number p r
taken_on number p q r carries t =
    let on = carries number t.has in
    record { has = on.0; follows = follows_on number (seen p) (seen q) (seen r) t.follows on.1; faults = λ x is own. t.faults x (on.2.own_fault x is own) own }

pub taken_in : (number : ℕ) (p q : Pass) → HasNumber number p → CarriesOn p q → TakenIn number p q
taken_in number p q has carries = taken_on number p p q carries (taken_self number p has)
