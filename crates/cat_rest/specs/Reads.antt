-- Reads: the path is read first, then the query, then the body.
use Rattle.std.specs.Prelude.{ℕ, List, Option, Result, Ok, codes}
use Rattle.serde_json.specs.Data.{Data}
use Rattle.cat_json.specs.Names.{key_as}
use Rattle.cat_json.specs.Reading.{required, list_as, body_as}
use Rattle.cat_model.specs.declared.ask.Ask.TheVariants as asks
use Rattle.cat_model.specs.declared.refusal.Reason.TheVariants.{BadPath, BadQuery, BadBody}
use Rattle.cat_model.specs.declared.refusal.Refusal.{Refusal}
use Rattle.cat_names.specs.Fields.{Key}
use Rattle.cat_rest.specs.Faults.{◌>>!◌, or_bad}
use Rattle.cat_rest.specs.Paths.{position_at, key_at}
use Rattle.cat_rest.specs.Queries.{references_asked, entries_asked, history_asked, contents_asked}
use Rattle.cat_rest.specs.declared.wanted.Wanted.{Wanted}
use Rattle.cat_rest.specs.declared.wanted.Wanted.TheVariants.{Read}

-- a page of the references
abbrev pub references_at : List ℕ → Result Wanted Refusal
references_at query =
    or_bad BadQuery (references_asked query) >>! λ ask.
    Ok (Read (asks.References ask))

-- a reference
abbrev pub reference_at : Option (List ℕ) → Result Wanted Refusal
reference_at part =
    or_bad BadPath (position_at part) >>! λ at.
    Ok (Read (asks.Reference at))

-- a page of the entries at a commit
abbrev pub entries_at : Option (List ℕ) → List ℕ → Result Wanted Refusal
entries_at part query =
    or_bad BadPath (position_at part) >>! λ at.
    or_bad BadQuery (entries_asked at query) >>! λ ask.
    Ok (Read (asks.Entries ask))

-- a page of a history
abbrev pub history_at : Option (List ℕ) → List ℕ → Result Wanted Refusal
history_at part query =
    or_bad BadPath (position_at part) >>! λ at.
    or_bad BadQuery (history_asked at query) >>! λ ask.
    Ok (Read (asks.History ask))

-- the contents of the keys of a query
abbrev pub contents_at : Option (List ℕ) → List ℕ → Result Wanted Refusal
contents_at part query =
    or_bad BadPath (position_at part) >>! λ at.
    or_bad BadQuery (contents_asked at query) >>! λ ask.
    Ok (Read (asks.Contents ask))

-- the keys of a body, in their order
abbrev pub requested_as : Data → Option (List Key)
requested_as d = required (list_as key_as) (codes "requestedKeys") d

-- the contents of the keys of a body
abbrev pub requested_at : Option (List ℕ) → List ℕ → Result Wanted Refusal
requested_at part body =
    or_bad BadPath (position_at part) >>! λ at.
    or_bad BadBody (body_as requested_as body) >>! λ keys.
    Ok (Read (asks.Contents (record { at = at; keys = keys })))

-- the content of a key
abbrev pub content_at : Option (List ℕ) → Option (List ℕ) → Result Wanted Refusal
content_at part name =
    or_bad BadPath (position_at part) >>! λ at.
    or_bad BadPath (key_at name) >>! λ key.
    Ok (Read (asks.Content (record { at = at; key = key })))
