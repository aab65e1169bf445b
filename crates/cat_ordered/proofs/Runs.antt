-- Runs as pieces of a map.
use Rattle.std.proofs.Common.{◌≡◌, ℕ, ◌*◌, ◌<◌, ◌≤◌, List, [], ◌∷◌, ◌++◌, length, take, refl, sym, ap, subst, ◌∙◌, arith}
use Rattle.std.proofs.lemmas.List.{map-append}
use Rattle.std.proofs.lemmas.List.Concat.{flat_map-append}
use Rattle.std.specs.Arc.{arc_value}
use Rattle.std.specs.List.{flat_map}
use Rattle.std.specs.declared.cmp.Ordering.{Ordering}
use Rattle.std.specs.declared.sync.Arc.{Arc}
use Rattle.cat_ordered.specs.Maps.{IsMap}
use Rattle.cat_ordered.specs.Pieces.{Shape, IsPiece, AreFine, AppendsAll, Cuts, Joins}
use Rattle.cat_ordered.specs.Shared.{values}
use Rattle.cat_ordered.proofs.Cutting.{fine_take, run_piece, cuts_join}
use Rattle.cat_ordered.proofs.Seats.{length-values, values-take}

-- pairs are a piece
pub block_piece : {E : Type 0} (pairs : List E) → 0 < length pairs → length pairs ≤ 64 → IsPiece pairs (length pairs) 16
block_piece pairs some fits = record { some = some; full = some; fits = fits; heavy = λ many. many }

-- what owners were added to nothing
pub owners_are : {T Z : Type 0} (none list shared : List (Arc T Z)) → length none ≡ 0 → values shared ≡ values none ++ values list → values shared ≡ values list
owners_are [] list shared e s = s
owners_are (x ∷ none) list shared e s = absurd (omega arith)

module _ {E T Z : Type 0} (entries : T → List E) (size : T → ℕ) (least : ℕ) where
  pub fine_front : (list front : List (Arc T Z)) (n : ℕ) → front ≡ take n list → AreFine entries size least (values list) → AreFine entries size least (values front)
  fine_front list front n e fine = rw (e, values-take n list) (fine_take entries size least n (values list) fine)

  pub value_halves : (list front back : List (Arc T Z)) → list ≡ front ++ back → flat_map entries (values list) ≡ flat_map entries (values front) ++ flat_map entries (values back)
  value_halves list front back e = ap (λ (l : List (Arc T Z)). flat_map entries (values l)) e ∙ ap (flat_map entries) (map-append arc_value front back) ∙ flat_map-append entries (values front) (values back)

  pub run_of_pieces : (list : List (Arc T Z)) → AreFine entries size least (values list) → 0 < length list → length list ≤ 64 → IsPiece (flat_map entries (values list)) (length list) (16 * least)
  run_of_pieces list fine some fits =
      rw (← length-values list) (run_piece entries size least (values list) fine (omega (arith, length-values list)) (omega (arith, length-values list)))

  pub none_in : (list : List (Arc T Z)) → length list ≡ 0 → flat_map entries (values list) ≡ []
  none_in [] e = refl
  none_in (x ∷ list) e = absurd (omega arith)

module _ {K V T Z : Type 0} (entries : T → List (K × V)) (size : T → ℕ) (least : ℕ) where
  abbrev pub shape : List (Arc T Z) → Shape K V
  shape list = record { entries = flat_map entries (values list); size = length list }

  -- two runs whose pieces were put together
  pub runs_join : (none a b shared out : List (Arc T Z)) (first next : Shape K V) (runs : List (Shape K V)) (copied : ℕ) → length none ≡ 0 → values shared ≡ values none ++ values a → shape a ≡ first → shape b ≡ next
      → AppendsAll entries size least (values shared) (values b) (values out) copied
      → Cuts (λ (r : Shape K V). r.entries) (λ (r : Shape K V). r.size) (16 * least) (flat_map entries (values out)) (length out) runs
      → Joins (λ (r : Shape K V). r.entries) (λ (r : Shape K V). r.size) (16 * least) first next runs
  runs_join none a b shared out first next runs copied e s f n appends cuts =
      let same : values shared ≡ values a = owners_are none a shared e s in
      let parts : length (values shared) ≡ length (values a) = ap length same in
      let whole : flat_map entries (values out) ≡ flat_map entries (values a) ++ flat_map entries (values b) = appends.whole ∙ ap (λ (l : List T). flat_map entries l ++ flat_map entries (values b)) same in
      let joins : Joins (λ (r : Shape K V). r.entries) (λ (r : Shape K V). r.size) (16 * least) (shape a) (shape b) runs =
      cuts_join _ _ _ (shape a) (shape b) (flat_map entries (values out)) (length out) runs cuts whole (omega (arith, length-values out, length-values a, parts, appends.longer)) (omega (arith, length-values out, length-values b, appends.long)) in
      subst (λ (r : Shape K V). Joins (λ (r : Shape K V). r.entries) (λ (r : Shape K V). r.size) (16 * least) r next runs) f (subst (λ (r : Shape K V). Joins (λ (r : Shape K V). r.entries) (λ (r : Shape K V). r.size) (16 * least) (shape a) r runs) n joins)

  -- what holds of a run's entries holds of its pieces'
  pub map_inside : (cmp : K → K → Ordering) (list : List (Arc T Z)) (now : Shape K V) → shape list ≡ now → IsMap cmp now.entries → IsMap cmp (flat_map entries (values list))
  map_inside cmp list now e up = subst (λ (r : Shape K V). IsMap cmp r.entries) (sym e) up
