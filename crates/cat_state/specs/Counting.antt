-- Where `main` stands.
use Rattle.std.specs.Prelude.{List, Option, Some, None, codes}
use Rattle.sha2.specs.Sha256.{sha256}
use Rattle.cat_names.specs.declared.hash.Hash.{Hash}
use Rattle.cat_model.specs.declared.reference.Reference.{Reference}
use Rattle.cat_model.specs.State.{no_ancestor, reference_of}

-- the head of a reference; the hash that has no ancestor where there is none
abbrev pub head_of : Option Reference → Hash
head_of None = no_ancestor sha256
head_of (Some reference) = reference.head

-- the head of `main`
abbrev pub main_head : List Reference → Hash
main_head references = head_of (reference_of references (codes "main"))
