use Rattle.std.proofs.Common.{◌≡◌, ◌≤◌, ◌∙◌, List, IfOk, ap, length, subst}
use Rattle.std.specs.Prelude.{filter}
use Rattle.std.specs.Option.{option_map}
use Rattle.cat_names.specs.Fields.{Key}
use Rattle.cat_model.specs.Maps.{Map}
use Rattle.cat_keymap.specs.Parts.{first_part}
use Rattle.cat_keymap.specs.Range.{admitted, named}
use Rattle.cat_keymap.proofs.Ranges.{IsMap-from_start, from_its_start, no_items, of_all, of_named, one_of_some}
use Rattle.cat_keymap.proofs.listing.part.Goals as goal

pub walked_part-requires : goal.walked_part-requires
walked_part-requires c = rw c.from_start.ensures (IsMap-from_start c.args.map.now _ c.known.ensures)

pub returns-in-empty : goal.returns-in-empty
returns-in-empty c =
    let after = option_map (λ key. key.now) c.args.after in
    let f = c.args.filter.now in
    let none = no_items f.keys (rw c.as_slice.ensures at c.in-empty.len_below) in
    let all = ap (admitted f after) c.from_start.ensures ∙ from_its_start f after c.args.map.now ∙ of_all f after c.args.map.now none in
    subst (λ (m : Map). IfOk c.walked_part.result (λ part. part ≡ first_part c.args.limit m)) all c.walked_part.ensures

pub returns-in_ok-named-in_default : goal.returns-in_ok-named-in_default
returns-in_ok-named-in_default c =
    let after = option_map (λ key. key.now) c.args.after in
    let f = c.args.filter.now in
    let some : 1 ≤ length f.keys = rw c.as_slice.ensures at c.in_default.len_at_least in
    let named_are = c.as_slice-in_default.ensures.value ∙ c.in_ok-named-in_default.ensures ∙ ap (λ (keys : List Key). named keys c.args.map.now) c.as_slice.ensures ∙ one_of_some f.keys c.args.map.now some in
    let all = ap (admitted f after) named_are ∙ of_named f after c.args.map.now in
    subst (λ (m : Map). IfOk c.chosen_part.result (λ part. part ≡ first_part c.args.limit m)) all c.chosen_part.ensures
