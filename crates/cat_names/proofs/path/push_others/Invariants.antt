use Rattle.std.proofs.Common.{◌≡◌, ◌∷◌, ◌++◌, take, string_bytes}
use Rattle.std.specs.List.{AllByRecursion, flat_map}
use Rattle.cat_names.specs.Fields.{IsElement}
use Rattle.cat_names.specs.Paths.{escaped_element}
use Rattle.cat_names.proofs.path.push_others.Given as goal

abbrev pub invariant-loop-element : goal.invariant-loop-element
invariant-loop-element l = record {
  path : string_bytes l.path ≡ string_bytes l.fn.path ++ flat_map (λ element. 46 ∷ escaped_element element) (take l.element-index l.elements);
  elements : AllByRecursion IsElement (take l.element-index l.elements);
}
