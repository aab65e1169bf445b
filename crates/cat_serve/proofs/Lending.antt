-- Passes that know what another knows.
use Rattle.std.proofs.Common.{◌≡◌, Bool, true, false, length, cond, nat_lt, max, refl, ◌∙◌, arith}
use Rattle.cat_desk.specs.Log.{longer}
use Rattle.cat_desk.specs.Marks.{later_mark, later_open}
use Rattle.cat_desk.specs.Pass.{Remembers, all_left_by, known, mark_of, seen, turn_of}
use Rattle.cat_desk.specs.declared.pass.Pass.{Pass}

pub remembers_self : (p : Pass) → Remembers p p
remembers_self p = record { seen = refl; known = refl; mark = refl; turn = refl; all_left = refl }

pub remembers_on : (p q r : Pass) → Remembers p q → Remembers q r → Remembers p r
remembers_on p q r a b = record { seen = b.seen ∙ a.seen; known = b.known ∙ a.known; mark = b.mark ∙ a.mark; turn = b.turn ∙ a.turn; all_left = b.all_left ∙ a.all_left }

-- of two that are one, either
either : {A : Type 0} (b : Bool) (x y z : A) → x ≡ z → y ≡ z → cond b x y ≡ z
either true x y z e f = e
either false x y z e f = f

-- a pass that took in one which has seen as much
pub joined_remembers : (p q r s : Pass) → Remembers p q → Remembers p r → seen s ≡ longer (seen q) (seen r) → known s ≡ max (known q) (known r)
    → mark_of s ≡ later_mark (turn_of q) (turn_of r) (mark_of q) (mark_of r) → turn_of s ≡ max (turn_of q) (turn_of r)
    → all_left_by s ≡ later_open (turn_of q) (turn_of r) (all_left_by q) (all_left_by r) → Remembers p s
joined_remembers p q r s a b seen_is known_is mark_is turn_is left_is = record {
  seen = seen_is ∙ either (nat_lt (length (seen q)) (length (seen r))) (seen r) (seen q) (seen p) b.seen a.seen;
  known = let e = a.known in let f = b.known in omega arith;
  mark = mark_is ∙ either (nat_lt (turn_of q) (turn_of r)) (mark_of r) (mark_of q) (mark_of p) b.mark a.mark;
  turn = let e = a.turn in let f = b.turn in omega arith;
  all_left = left_is ∙ either (nat_lt (turn_of q) (turn_of r)) (all_left_by r) (all_left_by q) (all_left_by p) b.all_left a.all_left;
}
