-- Sources in bodies.
use Rattle.std.specs.Prelude.{ℕ, List, Option, Some, None, bytes_eq, if◌then◌else◌, codes}
use Rattle.serde_json.specs.Data.{Data}
use Rattle.serde_json.specs.Find.{as_str}
use Rattle.cat_json.specs.Names.{hash_as}
use Rattle.cat_json.specs.Reading.{◌>>=◌, required, optional}
use Rattle.cat_model.specs.declared.reference.Kind.{Kind}
use Rattle.cat_model.specs.declared.reference.Kind.TheVariants.{Branch, Tag}
use Rattle.cat_rest.specs.Paths.{name_of}
use Rattle.cat_rest.specs.declared.source.Source.{Source}

abbrev pub name_as : Data → Option (List ℕ)
name_as d = as_str d >>= name_of

-- a reference at its head, or at a hash
unfoldable pub named_as : Kind → Data → Option Source
named_as kind d =
    required name_as (codes "name") d >>= λ name.
    optional hash_as (codes "hash") d >>= λ hash.
    Some (record { at = record { name = Some name; hash = hash }; kind = Some kind })

-- a commit alone: a name has no effect
abbrev pub detached_as : Data → Option Source
detached_as d =
    required hash_as (codes "hash") d >>= λ hash.
    Some (record { at = record { name = None; hash = Some hash }; kind = None })

abbrev pub typed_source : List ℕ → Data → Option Source
typed_source word d =
    if bytes_eq word (codes "BRANCH") then named_as Branch d
    else if bytes_eq word (codes "TAG") then named_as Tag d
    else if bytes_eq word (codes "DETACHED") then detached_as d
    else None

-- what a body says of a source
unfoldable pub source_as : Data → Option Source
source_as d = required as_str (codes "type") d >>= λ word. typed_source word d
