-- The operations of a request with their contents, one after the other.
use Rattle.std.proofs.Common.{◌≡◌, List, [], ◌∷◌, Option, Some, None, refl}
use Rattle.cat_model.specs.declared.content.Content.{Content}
use Rattle.cat_model.specs.declared.op.Op.{Op}
use Rattle.cat_model.specs.declared.op.Op.TheVariants.{Put, Delete, Unchanged}
use Rattle.cat_model.specs.Commits.{with_their_contents}

-- the content of an operation: of a PUT, the first that is left
abbrev pub content_for : Op → List Content → Option Content
content_for (Put key entry fresh) [] = None
content_for (Put key entry fresh) (c ∷ contents) = Some c
content_for (Delete key) contents = None
content_for (Unchanged key) contents = None

-- the contents that are left after it
abbrev pub left_after : Op → List Content → List Content
left_after (Put key entry fresh) [] = []
left_after (Put key entry fresh) (c ∷ contents) = contents
left_after (Delete key) contents = contents
left_after (Unchanged key) contents = contents

-- a list of one value, or of none
abbrev pub listed : {A : Type 0} → Option A → List A
listed None = []
listed (Some x) = x ∷ []

-- each operation takes its content, and leaves the others to those behind it
pub their_own : (op : Op) (ops : List Op) (contents : List Content) → with_their_contents (op ∷ ops) contents ≡ (op, content_for op contents) ∷ with_their_contents ops (left_after op contents)
their_own (Put key entry fresh) ops [] = refl
their_own (Put key entry fresh) ops (c ∷ contents) = refl
their_own (Delete key) ops contents = refl
their_own (Unchanged key) ops contents = refl
