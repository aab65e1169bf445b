-- What is written of a meta is read as that meta.
use Rattle.std.proofs.Common.{◌≡◌, ℕ, List, None, Some, Option, refl}
use Rattle.serde_json.specs.Data.{string}
use Rattle.serde_json.specs.Find.{as_str}
use Rattle.cat_json.specs.Reading.{list_as}
use Rattle.cat_json.specs.Writing.{list_data}
use Rattle.cat_json.proofs.RoundTrips.{list_back, map_back}
use Rattle.cat_model.specs.declared.commit.Meta.{Meta}
use Rattle.cat_commit.specs.Metas.{given_meta_as, meta_as, meta_data, IsKept}
use Rattle.cat_commit.proofs.MomentBack.{moment_back}

texts_back : (xs : List (List ℕ)) → list_as as_str (list_data string xs) ≡ Some xs
texts_back xs = list_back as_str string (λ _. refl) xs

meta_again : (message : List ℕ) (authors signed : List (List ℕ)) (properties : List (List ℕ × List (List ℕ))) (time : Option ℕ)
    → IsKept (record { message = message; authors = authors; signed = signed; properties = properties; author_time = time })
    → meta_as (meta_data (record { message = message; authors = authors; signed = signed; properties = properties; author_time = time }))
    ≡ Some (record { message = message; authors = authors; signed = signed; properties = properties; author_time = time })
unfolding meta_as given_meta_as
meta_again message authors signed properties None h =
    rw (texts_back authors, texts_back signed, map_back (list_as as_str) (list_data string) texts_back properties h.0) refl
meta_again message authors signed properties (Some t) h =
    rw (texts_back authors, texts_back signed, map_back (list_as as_str) (list_data string) texts_back properties h.0, moment_back t h.1) refl

pub read_again : (m : Meta) → IsKept m → meta_as (meta_data m) ≡ Some m
read_again m h = meta_again m.message m.authors m.signed m.properties m.author_time h
