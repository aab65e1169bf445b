use Rattle.std.proofs.Common.{◌≡◌, ◌∙◌, List, true, ap, sym, subst}
use Rattle.std.specs.List.{filter}
use Rattle.std.specs.Option.{option_map}
use Rattle.std.specs.Str.{bytes_eq}
use Rattle.cat_model.specs.declared.reference.Reference.{Reference}
use Rattle.cat_tables.specs.References.{names_ascend, is_below}
use Rattle.cat_tables.proofs.Naming.{held, past_same, past_other, past_none}
use Rattle.cat_tables.proofs.references.References.walk_above.Goals as goal
use Rattle.cat_tables.proofs.references.References.walk_above.Goals.{in-Some+then-eq, in-Some+else-eq, in_default}

pub returns : goal.returns
returns c =
    let name = c.args.name.now in
    let named = c.self.inside.named in
    let from = c.walk_from-rest.result in
    let up = subst (λ (l : List Reference). names_ascend l ≡ true) (sym c.self.view_is) c.known.ensures in
    let all = ap (λ (l : List Reference). filter (λ r. is_below name r.name) l) c.self.view_is in
    elim c.match-peek.branch [
      | in-Some+then-eq w ↦ ap held (w.rest-is ∙ w.next.ensures.left)
          ∙ past_same name named from w.in-Some.pair.now c.self.invariant up c.walk_from-rest.ensures (ap (option_map (λ p. p.now)) (sym w.in-Some.is) ∙ c.peek.ensures)
          (ap (λ n. bytes_eq n name) (sym w.key.ensures) ∙ sym w.eq.ensures ∙ w.if-eq.true) ∙ all
      | in-Some+else-eq w ↦ ap held w.rest-is
          ∙ past_other name named from w.in-Some.pair.now c.self.invariant up c.walk_from-rest.ensures (ap (option_map (λ p. p.now)) (sym w.in-Some.is) ∙ c.peek.ensures)
          (ap (λ n. bytes_eq n name) (sym w.key.ensures) ∙ sym w.eq.ensures ∙ w.if-eq.false) ∙ all
      | in_default w ↦ ap held w.rest-is
          ∙ past_none name named from c.self.invariant up c.walk_from-rest.ensures (ap (option_map (λ p. p.now)) (sym w.in_default.is) ∙ c.peek.ensures) ∙ all
    ]
