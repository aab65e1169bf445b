use Rattle.std.proofs.Common.{◌≡◌, ◌+◌, ◌∷◌, [], ◌++◌, ◌∙◌, ap, sym, subst, length, length-append, arith}
use Rattle.std.specs.Option.{option_map}
use Rattle.cat_names.specs.Fields.{Key}
use Rattle.cat_model.specs.declared.entry.Entry.{Entry}
use Rattle.cat_model.specs.Maps.{Map, IsMap}
use Rattle.cat_keymap.specs.KeyOrder.{ascends_any}
use Rattle.cat_keymap.specs.Range.{admitted}
use Rattle.cat_keymap.proofs.Pages.{one_more, page_done, skips_one, takes_one}
use Rattle.cat_keymap.proofs.Ranges.{ended}
use Rattle.cat_keymap.proofs.listing.walked_part.Goals as goal

pub returns-then-not-goes_on : goal.returns-then-not-goes_on
returns-then-not-goes_on c =
    let after = option_map (λ key. key.now) c.args.after in
    let f = c.args.filter.now in
    let up = subst (λ (m : Map). IsMap m) c.in-Some.ensures c.loop-key.invariant.order in
    let over = ap (admitted f after) c.in-Some.ensures ∙ ended f after (c.in-Some.key.now, c.in-Some.entry) c.next.new.self (sym c.goes_on.ensures ∙ c.if-not-goes_on.true) up in
    sym (page_done c.args.limit c.loop-key.out _ _ c.loop-key.invariant.few over c.loop-key.invariant.whole)

pub loop-key-preserved-in_ok-push : goal.loop-key-preserved-in_ok-push
loop-key-preserved-in_ok-push c =
    let after = option_map (λ key. key.now) c.args.after in
    let x : Key × Entry = (c.in-Some.key.now, c.in-Some.entry) in
    let up = subst (λ (m : Map). IsMap m) c.in-Some.ensures c.loop-key.invariant.order in
    let next = takes_one c.args.filter.now after c.loop-key.rest x c.next.new.self c.in-Some.ensures (sym c.admits.ensures ∙ c.if-admits.true) in
    let pushed : c.push.new.self ≡ c.loop-key.out ++ x ∷ [] = c.in_ok-push.ensures.ok ∙ ap (λ (k : Key). c.loop-key.out ++ (k, c.in-Some.entry) ∷ []) c.in_ok-clone.ensures.cases in
    let size : length c.push.new.self ≡ length c.loop-key.out + 1 = ap length pushed ∙ length-append c.loop-key.out (x ∷ []) in
    record {
      order = ascends_any c.in-Some.key.now c.next.new.self up;
      few = omega (arith, size);
      whole = one_more c.loop-key.out c.push.new.self _ x _ _ next pushed c.loop-key.invariant.whole;
    }

pub loop-key-preserved : goal.loop-key-preserved
loop-key-preserved c =
    let after = option_map (λ key. key.now) c.args.after in
    let x : Key × Entry = (c.in-Some.key.now, c.in-Some.entry) in
    let up = subst (λ (m : Map). IsMap m) c.in-Some.ensures c.loop-key.invariant.order in
    let next = skips_one c.args.filter.now after c.loop-key.rest x c.next.new.self c.in-Some.ensures (sym c.admits.ensures ∙ c.if-admits.false) in
    record {
      order = ascends_any c.in-Some.key.now c.next.new.self up;
      few = c.loop-key.invariant.few;
      whole = ap (λ (m : Map). c.loop-key.out ++ m) (sym next) ∙ c.loop-key.invariant.whole;
    }
