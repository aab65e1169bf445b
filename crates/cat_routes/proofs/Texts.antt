-- What the parameters of an ASCII path took is ASCII, so it is a text.
use Rattle.std.proofs.Common.{ℕ, List, [], ◌∷◌, ◌-◌, Bool, true, false, cond, ◌&&◌, leb, length, IsAscii, take, drop, rules}
use Rattle.std.proofs.lemmas.Str.{IsAscii-take, IsAscii-drop, IsUtf8-from_ascii}
use Rattle.std.specs.Str.{IsUtf8}
use Rattle.matchit.specs.Params.{walk, part_of}
use Rattle.cat_routes.specs.Parts.{AreTexts}

cut_ascii : (b : Bool) (bytes : List ℕ) → IsAscii bytes → IsAscii (cond b bytes [])
cut_ascii true bytes ascii = ascii
cut_ascii false bytes ascii = search rules

part_is_text : (bytes : List ℕ) (start stop : ℕ) → IsAscii bytes → IsUtf8 (part_of bytes start stop)
part_is_text bytes start stop ascii =
    IsUtf8-from_ascii (part_of bytes start stop) (cut_ascii (leb start stop && leb stop (length bytes)) (take (stop - start) (drop start bytes)) (IsAscii-take (drop start bytes) (stop - start) (IsAscii-drop bytes start ascii)))

pub are_texts : (pattern text path : List ℕ) (names : List (ℕ × ℕ)) (token at : ℕ) → IsAscii path → AreTexts (walk pattern text path names token at)
are_texts pattern text path [] token at ascii = tt
are_texts pattern text path (n ∷ ns) token at ascii = (part_is_text path _ _ ascii, are_texts pattern text path ns _ _ ascii)
