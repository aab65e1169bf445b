use Rattle.std.proofs.Common.{rules, refl, ◌≡◌, ◌<◌, ◌-◌, ℕ, ◌∷◌, [], arith, sym, subst, ◌∙◌, ap}
use Rattle.cat_desk.specs.Pass.{own_in}
use Rattle.cat_desk.specs.Rule.{split_off, splitting}
use Rattle.cat_desk.specs.Sight.{View}
use Rattle.cat_desk.proofs.Keeps.{looks}
use Rattle.cat_desk.proofs.Passes.{splits, free_view, remembers_at}
use Rattle.cat_desk.proofs.desk.Desk.split.Goals as goal

pub load-requires : goal.load-requires
load-requires g c = let f = free_view c.args.self.now c.args.pass.now c.into_seat-seat.result.me.0 c.requires.free (search rules) in
    (search rules, search rules, looks _ _ _ _ _ _ _ _ _ f.idle (subst (λ (n : ℕ). 0 < n) (sym f.spare) c.requires.spare))

pub split_seat-other-requires : goal.split_seat-other-requires
split_seat-other-requires g c = let f = free_view c.args.self.now c.args.pass.now c.into_seat-seat.result.me.0 c.requires.free (search rules) in
    let same = ap (λ m. m.0) c.load.ensures.2.0 in
    (search rules, search rules, splits _ _ _ _ _ _ _ _ (ap (λ (v : View). v.stage) same ∙ f.idle) (subst (λ (n : ℕ). 0 < n) (sym (ap (λ (v : View). v.spare) same ∙ f.spare)) c.requires.spare))

pub returns-clause-kept : goal.returns-clause-kept
returns-clause-kept g c = let v : View = c.into_seat-seat.result.me.0 in let f = free_view c.args.self.now c.args.pass.now v c.requires.free (search rules) in
    let is = ap (λ m. m.0) c.split_seat-other.ensures.2 ∙ ap splitting (ap (λ m. m.0) c.load.ensures.2.0) in
    let at : c.into_badge.result.views ≡ splitting v ∷ [] = c.into_badge.ensures.2 ∙ ap (λ (x : View). x ∷ []) is in (
      (splitting v, at, search rules, f.idle, f.origin, f.number, ap (λ (n : ℕ). n - 1) f.spare),
      remembers_at c.args.self.now c.args.pass.now _ v (splitting v) f at refl refl refl refl refl,
      ap own_in at ∙ sym f.left,
    )

pub returns-clause-other : goal.returns-clause-other
returns-clause-other g c = let v : View = c.into_seat-seat.result.me.0 in let f = free_view c.args.self.now c.args.pass.now v c.requires.free (search rules) in
    let is = ap (λ m. m.0) c.split_seat-other.ensures.4 ∙ ap split_off (ap (λ m. m.0) c.load.ensures.2.0) in
    let at : c.into_badge-2.result.views ≡ split_off v ∷ [] = c.into_badge-2.ensures.2 ∙ ap (λ (x : View). x ∷ []) is in
    let spare : v.spare ≡ c.args.pass.now.spare = f.spare in let some : 0 < c.args.pass.now.spare = c.requires.spare in (
      (split_off v, at, search rules, refl, f.origin, omega arith, refl),
      remembers_at c.args.self.now c.args.pass.now _ v (split_off v) f at refl refl refl refl refl,
      ap own_in at,
    )
