-- A page as it is filled.
use Rattle.std.proofs.Common.{◌≡◌, ℕ, ◌≤◌, [], ◌∷◌, ◌++◌, length, Option, true, false, nat_lt, refl, sym, ap, ◌∙◌, arith, append_assoc}
use Rattle.std.proofs.lemmas.Bool.Decides.{nat_tests}
use Rattle.std.proofs.lemmas.List.{append-nil, take_all}
use Rattle.cat_names.specs.Fields.{Key}
use Rattle.cat_model.specs.declared.entry.Entry.{Entry}
use Rattle.cat_model.specs.declared.filter.Filter.{Filter}
use Rattle.cat_model.specs.Maps.{Map}
use Rattle.cat_keymap.specs.Parts.{first_part}
use Rattle.cat_keymap.specs.Range.{admits, admitted}

pub takes_one : (f : Filter) (after : Option Key) (m : Map) (x : Key × Entry) (rest : Map) → m ≡ x ∷ rest → admits f after x.0 ≡ true → admitted f after m ≡ x ∷ admitted f after rest
takes_one f after m x rest e h = ap (admitted f after) e ∙ rw h refl

pub skips_one : (f : Filter) (after : Option Key) (m : Map) (x : Key × Entry) (rest : Map) → m ≡ x ∷ rest → admits f after x.0 ≡ false → admitted f after m ≡ admitted f after rest
skips_one f after m x rest e h = ap (admitted f after) e ∙ rw h refl

pub one_more : (out new m : Map) (x : Key × Entry) (rest all : Map) → m ≡ x ∷ rest → new ≡ out ++ x ∷ [] → out ++ m ≡ all → new ++ rest ≡ all
one_more out new m x rest all e n so_far = ap (λ (l : Map). l ++ rest) n ∙ append_assoc out (x ∷ []) rest ∙ ap (λ (l : Map). out ++ l) (sym e) ∙ so_far

pub page_done : (limit : ℕ) (out m all : Map) → length out ≤ limit → m ≡ [] → out ++ m ≡ all → first_part limit all ≡ record { pairs = out; more = false }
page_done limit out m all few e so_far =
    let whole : all ≡ out = sym so_far ∙ ap (λ (l : Map). out ++ l) e ∙ append-nil out in
    let fits : nat_lt limit (length out) ≡ false = grind (arith, nat_tests) in
    ap (first_part limit) whole ∙ (λ i. record { pairs = take_all limit out few i; more = fits i })
