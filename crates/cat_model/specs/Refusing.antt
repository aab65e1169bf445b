-- Tests in turn: the first that fails refuses.
use Rattle.std.specs.Prelude.{ℕ, List, Option, Some, None, Result, Ok, Err, Bool, true, nat_lt, nat_le, if◌then◌else◌}
use Rattle.cat_names.specs.declared.hash.Hash.{Hash}
use Rattle.cat_model.specs.declared.refusal.Refusal.{Refusal}
use Rattle.cat_model.specs.declared.refusal.Refusal.TheVariants.{BadRequest, RefNotFound, Limit}
use Rattle.cat_model.specs.declared.reply.Reply.{Reply}
use Rattle.cat_model.specs.declared.refusal.Reason.TheVariants.{NotABranch, OtherType}
use Rattle.cat_model.specs.declared.limits.Quantity.{Quantity}
use Rattle.cat_model.specs.declared.reference.Position.{Position}
use Rattle.cat_model.specs.declared.reference.Reference.{Reference}
use Rattle.cat_model.specs.declared.reference.Kind.{Kind}
use Rattle.cat_model.specs.declared.reference.Kind.TheVariants.{Branch}
use Rattle.cat_model.specs.Same.{same_kind}
use Rattle.cat_model.specs.Chain.{back, on_chain}
use Rattle.cat_model.specs.State.{Digest, State, reference_of, is_known}

infixr 5 ◌>>=◌
-- the next test with what this one found, or this one's refusal
abbrev pub ◌>>=◌ : {A B E : Type 0} → Result A E → (A → Result B E) → Result B E
(Ok x) >>= next = next x
(Err why) >>= next = Err why

-- the state after a call and its reply, or its refusal, which leaves the state as it was
abbrev pub Outcome : Type 0
Outcome = Result (State × Reply) Refusal

-- a test's outcome
abbrev pub Tested : Type 0
Tested = Result (Unit {0}) Refusal

-- refused where the test fails
abbrev pub needs : Bool → Refusal → Tested
needs test why = if test then Ok tt else Err why

-- a value that is there, or refused
abbrev pub found : {A : Type 0} → Option A → Refusal → Result A Refusal
found None why = Err why
found (Some x) why = Ok x

-- so many are there already: one more passes the limit
abbrev pub needs_room : ℕ → ℕ → Quantity → Tested
needs_room count limit which = needs (nat_lt count limit) (Limit which limit)

-- so many there will be
abbrev pub needs_at_most : ℕ → ℕ → Quantity → Tested
needs_at_most count limit which = needs (nat_le count limit) (Limit which limit)

-- the reference of a name
abbrev pub named : State → List ℕ → Result Reference Refusal
named state name = found (reference_of state.references name) RefNotFound

-- the reference of a name that may be missing
abbrev pub perhaps_named : State → Option (List ℕ) → Result (Option Reference) Refusal
perhaps_named state None = Ok None
perhaps_named state (Some name) = named state name >>= λ reference. Ok (Some reference)

-- the kind that is stated is the reference's, if one is
abbrev pub is_of_kind : Option Kind → Reference → Bool
is_of_kind None reference = true
is_of_kind (Some kind) reference = same_kind kind reference.kind

-- refused where another kind is stated
abbrev pub needs_kind : Option Kind → Reference → Tested
needs_kind kind reference = needs (is_of_kind kind reference) (BadRequest OtherType)

-- the same of a source, which may be no reference
abbrev pub needs_source_kind : Option Kind → Option Reference → Tested
needs_source_kind kind None = Ok tt
needs_source_kind kind (Some reference) = needs_kind kind reference

-- refused where it is a tag
abbrev pub needs_branch : Reference → Tested
needs_branch reference = needs (same_kind reference.kind Branch) (BadRequest NotABranch)

-- the head of a reference, or a hash on its chain; a hash that is known, where there is no reference
abbrev pub pointed : Digest → State → Option Reference → Option Hash → Result Hash Refusal
pointed digest state (Some reference) None = Ok reference.head
pointed digest state (Some reference) (Some hash) = if on_chain state.commits reference.head hash then Ok hash else Err RefNotFound
pointed digest state None (Some hash) = if is_known digest state hash then Ok hash else Err RefNotFound
pointed digest state None None = Err RefNotFound

-- so many commits back along the chain from what is pointed at; refused where the chain has fewer
abbrev pub positioned : Digest → State → Option Reference → Position → Result Hash Refusal
positioned digest state reference p = pointed digest state reference p.from.hash >>= λ hash. found (back state.commits hash p.back) RefNotFound
