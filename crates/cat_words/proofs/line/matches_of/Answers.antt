use Rattle.std.proofs.Common.{◌≡◌, ◌∙◌, [], ◌∷◌, false, map, refl}
use Rattle.clap.specs.Words.{Kinds, fault_of}
use Rattle.cat_words.specs.Asked.{is_free}
use Rattle.cat_words.specs.Line.{line}
use Rattle.cat_words.proofs.line.matches_of.Goals as goal

not_free : (kinds : Kinds) → (kinds ≡ [] → ⊥) → is_free kinds ≡ false
not_free [] some = absurd (some refl)
not_free (kind ∷ kinds) some = refl

pub returns : goal.returns
returns c = record {
  rows = tt;
  taken = tt;
  usage = λ _. not_free (fault_of line (map (λ word. word.now) c.args.words.now)) (λ none. c.in_default.not-OutOfMemory (c.kind.ensures ∙ c.in-Err.ensures.fails none));
}
