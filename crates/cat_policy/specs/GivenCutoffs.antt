-- Cutoffs as they are asked for.
use Rattle.std.specs.Prelude.{ℕ, ◌-◌, ◌==◌, ◌&&◌, List, [], ◌∷◌, length, map, Option, Some, None, option_map, Bool, false, nat_le, nat_lt, if◌then◌else◌, codes, bytes_eq}
use Rattle.std.specs.Char.{to_ascii_lowercase}
use Rattle.std.specs.Str.{all_ascii_digits}
use Rattle.std.specs.Str.Parse.{digits_value}
use Rattle.serde_json.specs.Data.{Data}
use Rattle.serde_json.specs.Find.{as_str}
use Rattle.cat_json.specs.Reading.{◌>>=◌}
use Rattle.cat_model.specs.declared.cutoff.Cutoff.{Cutoff}
use Rattle.cat_model.specs.declared.cutoff.Cutoff.TheVariants.{All, Commits, Since}
use Rattle.cat_policy.specs.declared.given.GivenCutoff.{GivenCutoff}
use Rattle.cat_policy.specs.declared.given.GivenCutoff.TheVariants.{Fixed, Back}
use Rattle.cat_policy.specs.Times.{duration_of, instant_of}

-- `NONE`, in any letter case
abbrev pub is_none_word : List ℕ → Bool
is_none_word text = bytes_eq (map to_ascii_lowercase text) (codes "none")

-- 1 to 10 digits, and nothing else
abbrev pub is_count : List ℕ → Bool
is_count text = nat_lt 0 (length text) && nat_le (length text) 10 && all_ascii_digits text

-- so many commits, from 1 to 4,294,967,295
abbrev pub counted : ℕ → Option GivenCutoff
counted number = if number == 0 then None else if nat_le number 4294967295 then Some (Fixed (Commits number)) else None

abbrev pub begins_with_p : List ℕ → Bool
begins_with_p [] = false
begins_with_p (byte ∷ text) = byte == 80

-- the cutoff that a text is
unfoldable pub cutoff_of : List ℕ → Option GivenCutoff
cutoff_of text =
    if is_none_word text then Some (Fixed All)
    else if is_count text then counted (digits_value 10 text)
    else if begins_with_p text then option_map Back (duration_of text)
    else option_map (λ moment. Fixed (Since moment)) (instant_of text)

abbrev pub cutoff_as : Data → Option GivenCutoff
cutoff_as d = as_str d >>= cutoff_of

-- the cutoff at a moment: a duration is taken back from it, not below 0
abbrev pub cutoff_at : ℕ → GivenCutoff → Cutoff
cutoff_at moment (Fixed cutoff) = cutoff
cutoff_at moment (Back length) = Since (moment - length)
