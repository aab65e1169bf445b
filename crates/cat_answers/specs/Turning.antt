-- What a token says of where a listing goes on.
use Rattle.std.specs.Prelude.{ℕ, List, Option, Some, None}
use Rattle.cat_names.specs.Fields.{Key}
use Rattle.cat_names.specs.declared.hash.Hash.{Hash}
use Rattle.cat_pages.specs.declared.token.Token.{Token}
use Rattle.cat_pages.specs.declared.token.Token.TheVariants.{References, Entries, History}

-- the name, of a token of references
abbrev pub name_of : Token → Option (List ℕ)
name_of (References name) = Some name
name_of (Entries hash key) = None
name_of (History hash) = None

-- the commit and the key, of a token of entries
abbrev pub entry_of : Token → Option (Hash × Key)
entry_of (References name) = None
entry_of (Entries hash key) = Some (hash, key)
entry_of (History hash) = None

-- the commit, of a token of a history
abbrev pub commit_of : Token → Option Hash
commit_of (References name) = None
commit_of (Entries hash key) = None
commit_of (History hash) = Some hash
