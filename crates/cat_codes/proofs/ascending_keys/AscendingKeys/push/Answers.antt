use Rattle.std.proofs.Common.{◌≡◌, true, sym, ◌∙◌}
use Rattle.cat_codes.specs.Code.{follows, last_of}
use Rattle.cat_codes.proofs.Ascents.{keys_ascend-push}
use Rattle.cat_codes.proofs.ascending_keys.AscendingKeys.push.Goals as goal

pub invariant_of-self-2 : goal.invariant_of-self-2
invariant_of-self-2 g c =
    let next : follows g.K.Ord.cmp (last_of c.self.inside.keys) c.args.key ≡ true = rw (← c.as_slice.ensures) (sym c.comes_next.ensures ∙ c.if-not-comes_next.false) in
    rw c.in_ok-push.ensures.ok (keys_ascend-push g.K.Ord.cmp c.self.inside.keys c.args.key c.self.invariant next)
