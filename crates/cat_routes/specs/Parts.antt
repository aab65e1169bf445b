-- A path that routes are looked for in, and the parts of it that parameters take.
use Rattle.std.specs.Prelude.{ℕ, List, [], ◌∷◌, ⊤, IsUtf8}
use Rattle.percent_encoding.specs.Percent.{percent_encode}
use Rattle.percent_encoding.specs.declared.ascii_set.TheConstants.AsciiSet.{EMPTY}

-- each byte outside ASCII is escaped, and no other
abbrev pub escaped : List ℕ → List ℕ
escaped path = percent_encode EMPTY path

-- what each parameter took is a text
abbrev pub AreTexts : List (List ℕ × List ℕ) → Type 0
AreTexts [] = ⊤
AreTexts (p ∷ ps) = IsUtf8 p.1 × AreTexts ps
