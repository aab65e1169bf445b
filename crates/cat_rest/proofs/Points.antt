-- Each source that is read has a name or a hash.
use Rattle.std.proofs.Common.{◌≡◌, ℕ, List, Bool, true, Option, Some, None, sym, ap, codes, bytes_eq}
use Rattle.serde_json.specs.Data.{Data}
use Rattle.serde_json.specs.Find.{as_str}
use Rattle.cat_json.specs.Names.{hash_as}
use Rattle.cat_json.specs.Reading.{required, optional}
use Rattle.cat_model.specs.WellMade.{points}
use Rattle.cat_model.specs.declared.reference.Kind.{Kind}
use Rattle.cat_model.specs.declared.reference.Kind.TheVariants.{Branch, Tag}
use Rattle.cat_rest.specs.Sources.{name_as, named_as, detached_as, typed_source, source_as}
use Rattle.cat_rest.specs.declared.source.Source.{Source}
use Rattle.cat_rest.proofs.Options.{step, chosen}

abbrev pointing : Option Source → Bool
pointing None = true
pointing (Some s) = points s.at

abbrev Points : Option Source → Type 0
Points o = (s : Source) → o ≡ Some s → points s.at ≡ true

named_points : (kind : Kind) (d : Data) → Points (named_as kind d)
unfolding named_as
named_points kind d s e =
    let n = step (required name_as (codes "name") d) _ s e in
    let h = step (optional hash_as (codes "hash") d) _ s n.2 in
    sym (ap pointing h.2)

detached_points : (d : Data) → Points (detached_as d)
detached_points d s e = let h = step (required hash_as (codes "hash") d) _ s e in sym (ap pointing h.2)

none_points : Points None
none_points s e = absurd cc

typed_points : (word : List ℕ) (d : Data) → Points (typed_source word d)
typed_points word d =
    chosen Points (bytes_eq word (codes "BRANCH")) _ _ (named_points Branch d)
    (chosen Points (bytes_eq word (codes "TAG")) _ _ (named_points Tag d)
    (chosen Points (bytes_eq word (codes "DETACHED")) _ _ (detached_points d) none_points))

pub source_points : (d : Data) → Points (source_as d)
unfolding source_as
source_points d s e = let w = step (required as_str (codes "type") d) _ s e in typed_points w.0 d s w.2
