-- Where listings go on, from tokens.
use Rattle.std.proofs.Common.{◌≡◌, ℕ, List, Option, Some, None, refl}
use Rattle.std.specs.Option.{option_map, option_and_then}
use Rattle.cat_names.specs.Fields.{Key}
use Rattle.cat_names.specs.declared.hash.Hash.{Hash}
use Rattle.cat_model.specs.declared.commit.Commit.{Commit}
use Rattle.cat_model.specs.declared.entry.Entry.{Entry}
use Rattle.cat_pages.specs.declared.token.Token.TheVariants.{References, Entries, History}
use Rattle.cat_answers.specs.Turning.{commit_of, entry_of, name_of}

pub names_next : (o : Option (List ℕ)) → option_and_then name_of (option_map (λ name. References name) o) ≡ o
names_next None = refl
names_next (Some name) = refl

pub entries_next : (hash : Hash) (o : Option (Key × Entry)) → option_and_then entry_of (option_map (λ x. Entries hash x.0) o) ≡ option_map (λ x. (hash, x.0)) o
entries_next hash None = refl
entries_next hash (Some x) = refl

pub commits_next : (o : Option (Hash × Commit)) → option_and_then commit_of (option_map (λ x. History x.0) o) ≡ option_map (λ x. x.0) o
commits_next None = refl
commits_next (Some x) = refl
