-- What a query asks for.
use Rattle.std.specs.Prelude.{ℕ, List, [], ◌∷◌, Option, Some, None, Bool, true, false, unwrap_or, bytes_eq, if◌then◌else◌, codes}
use Rattle.cat_json.specs.Reading.{◌>>=◌}
use Rattle.cat_model.specs.declared.ask.ContentsAsk.{ContentsAsk}
use Rattle.cat_model.specs.declared.ask.EntriesAsk.{EntriesAsk}
use Rattle.cat_model.specs.declared.ask.HistoryAsk.{HistoryAsk}
use Rattle.cat_model.specs.declared.ask.ReferencesAsk.{ReferencesAsk}
use Rattle.cat_model.specs.declared.filter.Filter.{Filter}
use Rattle.cat_model.specs.declared.reference.Kind.{Kind}
use Rattle.cat_model.specs.declared.reference.Kind.TheVariants.{Branch, Tag}
use Rattle.cat_model.specs.declared.reference.Position.{Position}
use Rattle.cat_names.specs.Fields.{Key}
use Rattle.cat_names.specs.Hashes.{hash_of}
use Rattle.cat_names.specs.declared.hash.Hash.{Hash}
use Rattle.cat_pages.specs.Tokens.{token_of}
use Rattle.cat_pages.specs.declared.token.Token.{Token}
use Rattle.cat_pages.specs.declared.token.Token.TheVariants.{References, Entries, History}
use Rattle.cat_queries.specs.Parameters.{first_value, all_values, page_limit}
use Rattle.cat_rest.specs.Paths.{key_in}

-- ---- parameters: of one that comes twice the first counts

-- a parameter that must be there
abbrev pub required : {A : Type 0} → (List ℕ → Option A) → List ℕ → List ℕ → Option A
required read name query = first_value name query >>= read

abbrev pub if_there : {A : Type 0} → (List ℕ → Option A) → Option (List ℕ) → Option (Option A)
if_there read None = Some None
if_there read (Some text) = read text >>= λ x. Some (Some x)

-- a parameter that may be absent
abbrev pub optional : {A : Type 0} → (List ℕ → Option A) → List ℕ → List ℕ → Option (Option A)
optional read name query = if_there read (first_value name query)

-- the kind of a reference
abbrev pub kind_of : List ℕ → Option Kind
kind_of text =
    if bytes_eq text (codes "BRANCH") then Some Branch
    else if bytes_eq text (codes "TAG") then Some Tag
    else None

-- whether the operations of commits are asked for
abbrev pub fetch_of : List ℕ → Option Bool
fetch_of text =
    if bytes_eq text (codes "ALL") then Some true
    else if bytes_eq text (codes "MINIMAL") then Some false
    else None

-- ---- tokens, each of its own listing alone

abbrev pub name_after : Token → Option (List ℕ)
name_after (References name) = Some name
name_after (Entries hash key) = None
name_after (History hash) = None

abbrev pub key_after : Token → Option (Hash × Key)
key_after (References name) = None
key_after (Entries hash key) = Some (hash, key)
key_after (History hash) = None

abbrev pub commit_from : Token → Option Hash
commit_from (References name) = None
commit_from (Entries hash key) = None
commit_from (History hash) = Some hash

abbrev pub references_token : List ℕ → Option (List ℕ)
references_token text = token_of text >>= name_after

abbrev pub entries_token : List ℕ → Option (Hash × Key)
entries_token text = token_of text >>= key_after

abbrev pub history_token : List ℕ → Option Hash
history_token text = token_of text >>= commit_from

-- ---- keys

-- the keys of texts, each of which has to be one
abbrev pub keys_of : List (List ℕ) → Option (List Key)
keys_of [] = Some []
keys_of (text ∷ texts) = key_in text >>= λ key. keys_of texts >>= λ keys. Some (key ∷ keys)

-- every key, in order
abbrev pub keys_in : List ℕ → Option (List Key)
keys_in query = keys_of (all_values (codes "key") query)

unfoldable pub filter_in : List ℕ → Option Filter
filter_in query =
    optional key_in (codes "min-key") query >>= λ least.
    optional key_in (codes "max-key") query >>= λ greatest.
    optional key_in (codes "prefix-key") query >>= λ front.
    keys_in query >>= λ keys.
    Some (record { min = least; max = greatest; prefix = front; keys = keys })

-- ---- asks

abbrev pub limit_in : List ℕ → Option ℕ
limit_in query = page_limit (first_value (codes "max-records") query)

unfoldable pub references_asked : List ℕ → Option ReferencesAsk
references_asked query =
    limit_in query >>= λ limit.
    optional references_token (codes "page-token") query >>= λ after.
    Some (record { limit = limit; after = after })

unfoldable pub entries_asked : Position → List ℕ → Option EntriesAsk
entries_asked at query =
    limit_in query >>= λ limit.
    optional entries_token (codes "page-token") query >>= λ after.
    filter_in query >>= λ filter.
    Some (record { at = at; filter = filter; limit = limit; after = after })

-- without a word the operations are not asked for
unfoldable pub history_asked : Position → List ℕ → Option HistoryAsk
history_asked at query =
    limit_in query >>= λ limit.
    optional history_token (codes "page-token") query >>= λ from.
    optional hash_of (codes "limit-hash") query >>= λ until.
    optional fetch_of (codes "fetch") query >>= λ fetch.
    Some (record { at = at; until = until; with_operations = unwrap_or fetch false; limit = limit; from = from })

abbrev pub contents_asked : Position → List ℕ → Option ContentsAsk
contents_asked at query = keys_in query >>= λ keys. Some (record { at = at; keys = keys })
