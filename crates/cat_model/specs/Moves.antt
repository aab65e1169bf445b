-- Making, moving and removing references.
use Rattle.std.specs.Prelude.{ℕ, ◌+◌, List, [], ◌∷◌, length, Option, Some, None, is_none, Ok, Bool, true, not, codes}
use Rattle.std.specs.Str.{bytes_eq}
use Rattle.cat_names.specs.declared.hash.Hash.{Hash}
use Rattle.cat_model.specs.declared.command.Create.{Create}
use Rattle.cat_model.specs.declared.command.Assign.{Assign}
use Rattle.cat_model.specs.declared.command.Delete.{Delete}
use Rattle.cat_model.specs.declared.conflict.ConflictKind.TheVariants.{UnexpectedHash}
use Rattle.cat_model.specs.declared.limits.Quantity.TheVariants as quantities
use Rattle.cat_model.specs.declared.reference.Reference.{Reference}
use Rattle.cat_model.specs.declared.refusal.Refusal.TheVariants.{BadRequest, RefExists, Conflicts}
use Rattle.cat_model.specs.declared.refusal.Reason.TheVariants.{DefaultBranch}
use Rattle.cat_model.specs.declared.reply.Reply.TheVariants as replies
use Rattle.cat_model.specs.Same.{same_hash}
use Rattle.cat_model.specs.Chain.{entries}
use Rattle.cat_model.specs.State.{Digest, State, reference_of, with_reference, without_reference, moved_reference}
use Rattle.cat_model.specs.Refusing.{◌>>=◌, Tested, Outcome, needs, needs_room, named, perhaps_named, needs_kind, needs_source_kind, pointed}
use Rattle.cat_model.specs.Records.{expired_keys, needs_no_expired}

-- the log has room for an entry
abbrev pub needs_log : State → Tested
needs_log state = needs_room state.place state.limits.log quantities.Log

-- the state with one entry more and these references
abbrev pub with_references : State → List Reference → State
with_references state references = record state { place = state.place + 1; references = references }

-- the head is the one expected, if one is
abbrev pub is_expected : Option Hash → Hash → Bool
is_expected None head = true
is_expected (Some hash) head = same_hash hash head

-- refused where another head is expected
abbrev pub needs_head : Option Hash → Hash → Tested
needs_head expected head = needs (is_expected expected head) (Conflicts (record { key = None; kind = UnexpectedHash } ∷ []))

-- refused where a content that is visible at the commit isn't held
unfoldable pub needs_contents : State → Hash → Tested
needs_contents state hash = needs_no_expired (expired_keys state (entries state.commits hash)) state.place

-- refused where a reference has the name
abbrev pub needs_new_name : State → List ℕ → Tested
needs_new_name state name = needs (is_none (reference_of state.references name)) RefExists

-- refused where it is the default branch
abbrev pub needs_other_than_default : List ℕ → Tested
needs_other_than_default name = needs (not (bytes_eq name (codes "main"))) (BadRequest DefaultBranch)

-- a new reference at its source
unfoldable pub step_create : Digest → State → Create → Outcome
step_create digest state c =
    perhaps_named state c.source.name >>= λ source.
    needs_source_kind c.source_kind source >>= λ _.
    pointed digest state source c.source.hash >>= λ hash.
    needs_new_name state c.name >>= λ _.
    needs_room (length state.references) state.limits.references quantities.References >>= λ _.
    needs_log state >>= λ _.
    needs_contents state hash >>= λ _.
    let reference : Reference = record { name = c.name; kind = c.kind; head = hash } in
    Ok (with_references state (with_reference state.references reference), replies.Reference reference)

-- a reference at another commit
unfoldable pub step_assign : Digest → State → Assign → Outcome
step_assign digest state c =
    named state c.name >>= λ reference.
    perhaps_named state c.source.name >>= λ source.
    needs_kind c.kind reference >>= λ _.
    needs_source_kind c.source_kind source >>= λ _.
    pointed digest state source c.source.hash >>= λ hash.
    needs_log state >>= λ _.
    needs_head c.expected reference.head >>= λ _.
    needs_contents state hash >>= λ _.
    let moved : Reference = record reference { head = hash } in
    Ok (with_references state (moved_reference state.references moved), replies.Reference moved)

-- a reference less; the reply is the reference as it was
unfoldable pub step_delete : State → Delete → Outcome
step_delete state c =
    named state c.name >>= λ reference.
    needs_other_than_default c.name >>= λ _.
    needs_kind c.kind reference >>= λ _.
    needs_log state >>= λ _.
    needs_head c.expected reference.head >>= λ _.
    Ok (with_references state (without_reference state.references c.name), replies.Reference reference)
