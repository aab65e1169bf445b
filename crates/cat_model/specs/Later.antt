-- States that grew.
use Rattle.std.specs.Prelude.{◌≡◌, List, ◌++◌}
use Rattle.cat_model.specs.State.{State}

-- a list has another one behind some elements
abbrev pub Adds : {A : Type 0} → List A → List A → Type 0
Adds {A} older list = (front : List A) × (list ≡ front ++ older)

-- each commit of the one state is in the other, below those that were added; contents may have been removed
pub record IsLater (a b : State) : Type 0 where
  pub commits : Adds a.commits b.commits
