use Rattle.std.proofs.Common.{◌≡◌, ◌∙◌, List, Bor, IfOk, None, true, ap, map, subst, sym}
use Rattle.std.proofs.lemmas.Result.{IfOk-weaker}
use Rattle.cat_names.specs.Fields.{Key}
use Rattle.cat_keymap.specs.Among.{all_tested}
use Rattle.cat_keymap.specs.KeyListLaws.{changed_rises}
use Rattle.cat_keymap.specs.Ordered.{rise}
use Rattle.cat_keymap.proofs.Once.{changed_is}
use Rattle.cat_keymap.proofs.among.changed_among.Goals as goal

pub returns-clause-exact : goal.returns-clause-exact
returns-clause-exact c =
    let before = c.args.before.now in
    let after = c.args.after.now in
    let same =
    ap (λ (l : List (Bor Key)). all_tested before after None (map (λ k. k.now) l)) c.as_slice.ensures.value
    ∙ changed_is before after c.args.among.now _ c.requires c.in_ok-sorted.ensures.same c.in_ok-sorted.ensures.order in
    subst (λ (l : List Key). IfOk c.all_tested.result (λ keys. keys ≡ l)) same c.all_tested.ensures

pub returns-clause-ascend : goal.returns-clause-ascend
returns-clause-ascend c =
    let before = c.args.before.now in
    let after = c.args.after.now in
    IfOk-weaker c.all_tested.result _ _ (λ keys e. subst (λ (l : List Key). rise None l ≡ true) (sym e) (changed_rises before after)) (returns-clause-exact c)
