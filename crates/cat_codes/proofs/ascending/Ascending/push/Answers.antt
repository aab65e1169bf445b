use Rattle.std.proofs.Common.{◌≡◌, true, sym, ◌∙◌}
use Rattle.cat_codes.specs.Code.{follows, last_key}
use Rattle.cat_codes.proofs.Ascents.{ascends-push}
use Rattle.cat_codes.proofs.ascending.Ascending.push.Goals as goal

pub invariant_of-self-2 : goal.invariant_of-self-2
invariant_of-self-2 g c =
    let next : follows g.K.Ord.cmp (last_key c.self.inside.pairs) c.args.key ≡ true = rw (← c.as_slice.ensures) (sym c.comes_next.ensures ∙ c.if-not-comes_next.false) in
    rw c.in_ok-push.ensures.ok (ascends-push g.K.Ord.cmp c.self.inside.pairs (c.args.key, c.args.value) c.self.invariant next)
