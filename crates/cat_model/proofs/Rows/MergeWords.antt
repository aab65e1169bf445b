-- Words for worked cases of merges and transplants.
use Rattle.std.specs.Prelude.{ℕ, List, [], ◌∷◌, Option, Some, None, Result, Ok, Err, codes, map}
use Rattle.std.specs.Option.{option_map}
use Rattle.cat_names.specs.Fields.{Key}
use Rattle.cat_names.specs.declared.hash.Hash.{Hash}
use Rattle.cat_model.specs.Chain.{commit_of}
use Rattle.cat_model.specs.State.{fresh_id}
use Rattle.cat_model.specs.Requests.{Session}
use Rattle.cat_model.proofs.Rows.Script.{script, at_state}
use Rattle.cat_model.specs.declared.commit.Commit.{Commit}
use Rattle.cat_model.specs.declared.conflict.ConflictKind.{ConflictKind}
use Rattle.cat_model.specs.declared.limits.Limits.{Limits}
use Rattle.cat_model.specs.declared.reference.Kind.TheVariants.{Branch}
use Rattle.cat_model.specs.declared.refusal.Refused.{Refused}
use Rattle.cat_model.specs.declared.reply.Merged.{Merged}
use Rattle.cat_model.specs.declared.reply.Reply.{Reply}
use Rattle.cat_model.specs.declared.reply.Reply.TheVariants as replies
use Rattle.cat_model.specs.declared.reply.Told.{Told}
use Rattle.cat_model.proofs.Rows.Words.{quick, clock, main, dev, Request, no_id, table, new, again, commit, create, from_branch, after, head, t1, t2, one}

-- a new table on a branch, and a new location of the first one
abbrev pub new_on : List ℕ → Key → List ℕ → Request
new_on branch key location = commit branch None (new key (table no_id location) ∷ []) (table no_id location ∷ [])

abbrev pub put_on : List ℕ → List ℕ → Request
put_on branch location = commit branch None (again t1 (table (fresh_id 1 0) location) ∷ []) (table (fresh_id 1 0) location ∷ [])

abbrev pub t3 : Key
t3 = codes "t3" ∷ []

abbrev pub a1 : Key
a1 = codes "a1" ∷ []

abbrev pub b1 : Key
b1 = codes "b1" ∷ []

-- a hash that is nothing's
abbrev pub other : Hash
other = record { bytes = 1 ∷ [] }

-- the parents, the generation, the time and the message of the commit at the head of main
abbrev pub Shape : Type 0
Shape = Hash × (Option Hash × (ℕ × (ℕ × List ℕ)))

abbrev pub shape : Commit → Shape
shape c = (c.parent, (c.merge_parent, (c.generation, (c.time, c.meta.message))))

abbrev pub at_head : Session → Option Shape
at_head s = option_map shape (commit_of s.book.state.commits (head s))

abbrev pub merge_told : Reply → Option Merged
merge_told (replies.Merged m) = Some m
merge_told _ = None

-- the reply of a merge that was asked first
abbrev pub merged_in : List (Result Told Refused) → Option Merged
merged_in [] = None
merged_in (Ok t ∷ said) = merge_told t.reply
merged_in (Err e ∷ said) = None

abbrev pub told_of : Session → Request → Option Merged
told_of s request = merged_in (script quick 1 clock s (request ∷ [])).said

-- the heads that a reply tells
abbrev pub heads : Merged → Hash × (List ℕ × Hash)
heads m = (m.effective_target, (m.target.name, m.target.head))

-- the base that it tells, and its keys with their conflicts
abbrev pub found : Merged → Option Hash × List (Key × Option ConflictKind)
found m = (m.common_ancestor, map (λ d. (d.key, d.conflict)) m.details)

-- a table at main, and a branch from it
abbrev pub begin : Session
begin = after one (create dev Branch (from_branch main) ∷ [])

abbrev pub both_changed : Session
both_changed = after begin (put_on main (codes "m2") ∷ put_on dev (codes "m3") ∷ [])

abbrev pub three : Session
three = after begin (new_on dev t2 (codes "x") ∷ [])

abbrev pub with_limits : Limits → Session → Session
with_limits limits s = at_state s (record s.book.state { limits = limits })

-- a state that holds no contents
abbrev pub swept : Session → Session
swept s = at_state s (record s.book.state { present = [] })
