-- What an accepted step leaves: the reference of its command's name at the head that its entry tells, and otherwise what was there.
use Rattle.std.proofs.Common.{◌≡◌, ℕ, ◌<◌, List, [], ◌∷◌, map, filter_map, length, Option, Some, None, Result, Ok, Err, Bool, true, false, not, ◌||◌, if◌then◌else◌, refl, sym, ap, ◌∙◌, subst, ltb-true, nat_lt, arith}
use Rattle.std.specs.List.{list_any}
use Rattle.std.specs.Str.{bytes_eq}
use Rattle.cat_names.specs.declared.hash.Hash.{Hash}
use Rattle.cat_model.specs.declared.command.Assign.{Assign}
use Rattle.cat_model.specs.declared.command.Command.{Command}
use Rattle.cat_model.specs.declared.command.Command.TheVariants as commands
use Rattle.cat_model.specs.declared.command.CommitRequest.{CommitRequest}
use Rattle.cat_model.specs.declared.command.Create.{Create}
use Rattle.cat_model.specs.declared.command.Delete.{Delete}
use Rattle.cat_model.specs.declared.command.Merge.{Merge}
use Rattle.cat_model.specs.declared.command.Transplant.{Transplant}
use Rattle.cat_model.specs.declared.commit.Commit.{Commit}
use Rattle.cat_model.specs.declared.conflict.Conflict.{Conflict}
use Rattle.cat_model.specs.declared.content.Content.{Content}
use Rattle.cat_model.specs.declared.limits.Quantity.TheVariants as quantities
use Rattle.cat_model.specs.declared.op.Op.{Op}
use Rattle.cat_model.specs.declared.reference.Reference.{Reference}
use Rattle.cat_model.specs.declared.refusal.Reason.TheVariants.{NotConsecutive}
use Rattle.cat_model.specs.declared.refusal.Refusal.{Refusal}
use Rattle.cat_model.specs.declared.refusal.Refusal.TheVariants.{BadRequest, RefNotFound}
use Rattle.cat_model.specs.declared.reply.Reply.{Reply}
use Rattle.cat_model.specs.Chain.{entries}
use Rattle.cat_model.specs.Commits.{commit_opening, given_ops, needs_commit_room, or_conflicts, puts, request_commit, step_commit}
use Rattle.cat_model.specs.Judge.{judge}
use Rattle.cat_model.specs.Merges.{Plans, all_conflicts, applied, commits_made, has_changes, merge_opening, merge_plans, needs_planned_room, needs_set_contents, step_applied, step_merge, step_planned, step_unless_conflicts, with_planned}
use Rattle.cat_model.specs.Moves.{needs_contents, needs_head, needs_log, needs_new_name, needs_other_than_default, step_assign, step_create, step_delete}
use Rattle.cat_model.specs.Records.{with_commit, with_contents}
use Rattle.cat_model.specs.Refusing.{found, named, needs, needs_branch, needs_kind, needs_room, needs_source_kind, perhaps_named, pointed}
use Rattle.cat_model.specs.State.{Digest, State, moved_reference, reference_of, with_reference, without_reference}
use Rattle.cat_model.specs.Step.{Turn, head_left, head_told, step}
use Rattle.cat_model.specs.Transplants.{are_consecutive, needs_on_chain, step_transplant, transplant_opening, transplant_plans}
use Rattle.cat_tables.specs.References.{is_below}
use Rattle.cat_tables.specs.ReferenceLaws.{either}
use Rattle.cat_core.specs.Sweeping.{name_in}
use Rattle.cat_core.proofs.Taken.{Has, MadeHas, OkIs, bind, commit_has, contents_have, goes, named_is, or_here, or_more, planned_have}

-- ---- references by their names and heads

abbrev pub Test : Type 0
Test = List ℕ → Hash → Bool

abbrev pub seen : Test → Reference → Bool
seen passes r = passes r.name r.head

-- a head that was left passes
abbrev pub left_passes : Test → List ℕ → Option Hash → Bool
left_passes passes name None = false
left_passes passes name (Some head) = passes name head

-- what passes after it passed before or was left, and what was left passes after it
pub record Leaves (name : List ℕ) (head : Option Hash) (before after : List Reference) : Type 0 where
  pub only : (passes : Test) → list_any (seen passes) after ≡ true → (list_any (seen passes) before || left_passes passes name head) ≡ true
  pub there : (passes : Test) → left_passes passes name head ≡ true → list_any (seen passes) after ≡ true

-- ---- changes of references

by_or : {P : Type 0} (a b : Bool) → (a || b) ≡ true → (a ≡ true → P) → (b ≡ true → P) → P
by_or true b e f g = f refl
by_or false b e f g = g e

left_of : (a b c : Bool) → (a || b) ≡ true → ((c || a) || b) ≡ true
left_of a b true e = refl
left_of a b false e = e

only_with : (f : Reference → Bool) (references : List Reference) (r : Reference) → list_any f (with_reference references r) ≡ true → (list_any f references || f r) ≡ true
only_with f [] r e = by_or (f r) false e (λ here. here) (λ none. absurd cc)
only_with f (x ∷ xs) r e = by (only_with f xs r) (is_below r.name x.name) e
  where
    by : (list_any f (with_reference xs r) ≡ true → (list_any f xs || f r) ≡ true) → (b : Bool) → list_any f (if b then r ∷ x ∷ xs else x ∷ with_reference xs r) ≡ true → ((f x || list_any f xs) || f r) ≡ true
    by rest true g = by_or (f r) (list_any f (x ∷ xs)) g (λ here. or_more (list_any f (x ∷ xs)) (f r) here) (λ old. or_here (list_any f (x ∷ xs)) (f r) old)
    by rest false g = by_or (f x) (list_any f (with_reference xs r)) g (λ here. or_here (f x || list_any f xs) (f r) (or_here (f x) (list_any f xs) here)) (λ later. left_of (list_any f xs) (f r) (f x) (rest later))

there_with : (f : Reference → Bool) (references : List Reference) (r : Reference) → f r ≡ true → list_any f (with_reference references r) ≡ true
there_with f [] r e = or_here (f r) false e
there_with f (x ∷ xs) r e =
    either (λ (l : List Reference). list_any f l ≡ true) (is_below r.name x.name) _ _ (λ _. or_here (f r) (list_any f (x ∷ xs)) e) (λ _. or_more (f x) (list_any f (with_reference xs r)) (there_with f xs r e))

only_moved : (f : Reference → Bool) (references : List Reference) (m : Reference) → list_any f (moved_reference references m) ≡ true → (list_any f references || f m) ≡ true
only_moved f [] m e = absurd cc
only_moved f (x ∷ xs) m e = by (only_moved f xs m) (bytes_eq x.name m.name) e
  where
    by : (list_any f (moved_reference xs m) ≡ true → (list_any f xs || f m) ≡ true) → (b : Bool) → (f (if b then m else x) || list_any f (moved_reference xs m)) ≡ true → ((f x || list_any f xs) || f m) ≡ true
    by rest true g = by_or (f m) (list_any f (moved_reference xs m)) g (λ here. or_more (f x || list_any f xs) (f m) here) (λ later. left_of (list_any f xs) (f m) (f x) (rest later))
    by rest false g = by_or (f x) (list_any f (moved_reference xs m)) g (λ here. or_here (f x || list_any f xs) (f m) (or_here (f x) (list_any f xs) here)) (λ later. left_of (list_any f xs) (f m) (f x) (rest later))

there_moved : (f : Reference → Bool) (references : List Reference) (m r : Reference) → reference_of references m.name ≡ Some r → f m ≡ true → list_any f (moved_reference references m) ≡ true
there_moved f [] m r is e = absurd cc
there_moved f (x ∷ xs) m r is e = by (λ g. there_moved f xs m r g e) (bytes_eq x.name m.name) is
  where
    by : (reference_of xs m.name ≡ Some r → list_any f (moved_reference xs m) ≡ true) → (b : Bool) → (if b then Some x else reference_of xs m.name) ≡ Some r → (f (if b then m else x) || list_any f (moved_reference xs m)) ≡ true
    by rest true g = or_here (f m) (list_any f (moved_reference xs m)) e
    by rest false g = or_more (f x) (list_any f (moved_reference xs m)) (rest g)

only_without : (f : Reference → Bool) (references : List Reference) (name : List ℕ) → list_any f (without_reference references name) ≡ true → list_any f references ≡ true
only_without f [] name e = absurd cc
only_without f (x ∷ xs) name e = by (only_without f xs name) (not (bytes_eq x.name name)) e
  where
    by : (list_any f (without_reference xs name) ≡ true → list_any f xs ≡ true) → (b : Bool) → list_any f (if b then x ∷ without_reference xs name else without_reference xs name) ≡ true → (f x || list_any f xs) ≡ true
    by rest true g = by_or (f x) (list_any f (without_reference xs name)) g (λ here. or_here (f x) (list_any f xs) here) (λ later. or_more (f x) (list_any f xs) (rest later))
    by rest false g = or_more (f x) (list_any f xs) (rest g)

with_leaves : (references : List Reference) (r : Reference) → Leaves r.name (Some r.head) references (with_reference references r)
with_leaves references r = record { only = λ passes e. only_with (seen passes) references r e; there = λ passes e. there_with (seen passes) references r e }

-- a reference that was found was moved, among those that were there
moved_leaves : (name : List ℕ) (references mid : List Reference) (found m : Reference) → m.name ≡ name → reference_of references name ≡ Some found → mid ≡ references → Leaves name (Some m.head) references (moved_reference mid m)
moved_leaves name references mid found m own is same =
    let there : reference_of references m.name ≡ Some found = ap (reference_of references) own ∙ is in
    subst (λ (l : List Reference). Leaves name (Some m.head) references (moved_reference l m)) (sym same)
    (subst (λ (n : List ℕ). Leaves n (Some m.head) references (moved_reference references m)) own
    record { only = λ passes e. only_moved (seen passes) references m e; there = λ passes e. there_moved (seen passes) references m found there e })

without_leaves : (references : List Reference) (name : List ℕ) → Leaves name None references (without_reference references name)
without_leaves references name = record { only = λ passes e. or_here (list_any (seen passes) references) false (only_without (seen passes) references name e); there = λ passes e. absurd cc }

pub same_leaves : (name : List ℕ) (references after : List Reference) → after ≡ references → Leaves name None references after
same_leaves name references after same = record { only = λ passes e. or_here (list_any (seen passes) references) false (ap (list_any (seen passes)) (sym same) ∙ e); there = λ passes e. absurd cc }

-- ---- steps, by their tests in turn

abbrev Rose : State → State → Type 0
Rose a b = nat_lt a.place b.place ≡ true

never_rose : (a : State) → Rose a a → ⊥
never_rose a rose = let up : a.place < a.place = ltb-true a.place a.place rose in omega arith

-- where the place rose, the head that is told was left
abbrev Steps : List ℕ → State → State × Reply → Type 0
Steps name a x = Rose a x.0 → Leaves name (head_told x.1) a.references x.0.references

-- the reference that a name finds
found_by : (o : Option Reference) (why : Refusal) (r : Reference) → found o why ≡ Ok r → o ≡ Some r
found_by None why r e = absurd cc
found_by (Some x) why r e = ap Some (same x r e)
  where
    same : (x r : Reference) → ◌≡◌ {A = Result Reference Refusal} (Ok x) (Ok r) → x ≡ r
    same x r e = cc

pub named_found : (a : State) (name : List ℕ) (r : Reference) → named a name ≡ Ok r → reference_of a.references name ≡ Some r
named_found a name r e = found_by (reference_of a.references name) RefNotFound r e

create_leaves : (digest : Digest) (a : State) (c : Create) → OkIs (Steps c.name a) (step_create digest a c)
unfolding step_create
create_leaves digest a c =
    bind _ (perhaps_named a c.source.name) _ (λ source _.
    bind _ (needs_source_kind c.source_kind source) _ (λ u _.
    bind _ (pointed digest a source c.source.hash) _ (λ hash _.
    bind _ (needs_new_name a c.name) _ (λ u _.
    bind _ (needs_room (length a.references) a.limits.references quantities.References) _ (λ u _.
    bind _ (needs_log a) _ (λ u _.
    bind _ (needs_contents a hash) _ (λ u _ rose. with_leaves a.references (record { name = c.name; kind = c.kind; head = hash }))))))))

assign_leaves : (digest : Digest) (a : State) (c : Assign) → OkIs (Steps c.name a) (step_assign digest a c)
unfolding step_assign
assign_leaves digest a c =
    bind _ (named a c.name) _ (λ reference is.
    bind _ (perhaps_named a c.source.name) _ (λ source _.
    bind _ (needs_kind c.kind reference) _ (λ u _.
    bind _ (needs_source_kind c.source_kind source) _ (λ u _.
    bind _ (pointed digest a source c.source.hash) _ (λ hash _.
    bind _ (needs_log a) _ (λ u _.
    bind _ (needs_head c.expected reference.head) _ (λ u _.
    bind _ (needs_contents a hash) _ (λ u _ rose. moved_leaves c.name a.references a.references reference (record reference { head = hash }) (named_is a c.name reference is) (named_found a c.name reference is) refl))))))))

-- a delete leaves none
abbrev Removes : List ℕ → State → State × Reply → Type 0
Removes name a x = Leaves name None a.references x.0.references

delete_leaves : (a : State) (c : Delete) → OkIs (Removes c.name a) (step_delete a c)
unfolding step_delete
delete_leaves a c =
    bind _ (named a c.name) _ (λ reference _.
    bind _ (needs_other_than_default c.name) _ (λ u _.
    bind _ (needs_kind c.kind reference) _ (λ u _.
    bind _ (needs_log a) _ (λ u _.
    bind _ (needs_head c.expected reference.head) _ (λ u _. without_leaves a.references c.name)))))

-- ---- the branch of a call that was opened

commit_finds : (digest : Digest) (a : State) (c : CommitRequest) → OkIs (λ x. named a c.branch ≡ Ok x.0) (commit_opening digest a c)
unfolding commit_opening
commit_finds digest a c =
    bind _ (named a c.branch) _ (λ branch is.
    bind _ (needs_branch branch) _ (λ u _.
    bind _ (pointed digest a (Some branch) c.expected) _ (λ expected _. is)))

merge_finds : (digest : Digest) (a : State) (m : Merge) → OkIs (λ x. named a m.branch ≡ Ok x.0) (merge_opening digest a m)
unfolding merge_opening
merge_finds digest a m =
    bind _ (named a m.branch) _ (λ branch is.
    bind _ (named a m.from) _ (λ from _.
    bind _ (needs_branch branch) _ (λ u _.
    bind _ (pointed digest a (Some branch) m.hash) _ (λ x _.
    bind _ (pointed digest a (Some from) (Some m.from_hash)) _ (λ source _. is)))))

transplant_finds : (digest : Digest) (a : State) (t : Transplant) → OkIs (λ branch. named a t.branch ≡ Ok branch) (transplant_opening digest a t)
unfolding transplant_opening
transplant_finds digest a t =
    bind _ (named a t.branch) _ (λ branch is.
    bind _ (named a t.from) _ (λ from _.
    bind _ (needs_branch branch) _ (λ u _.
    bind _ (pointed digest a (Some branch) t.hash) _ (λ x _.
    bind _ (needs_on_chain a from t.hashes) _ (λ y _.
    bind _ (needs (are_consecutive a.commits t.hashes) (BadRequest NotConsecutive)) _ (λ z _. is))))))

-- ---- commits

-- the branch that was found was moved
branch_leaves : (a : State) (name : List ℕ) (mid : List Reference) (branch : Reference) (head : Hash) → named a name ≡ Ok branch → mid ≡ a.references → Leaves name (Some head) a.references (moved_reference mid (record branch { head = head }))
branch_leaves a name mid branch head is same = moved_leaves name a.references mid branch (record branch { head = head }) (named_is a name branch is) (named_found a name branch is) same

commit_leaves : (digest : Digest) (a : State) (c : CommitRequest) (draft moment : ℕ) → OkIs (Steps c.branch a) (step_commit digest a c draft moment)
unfolding step_commit
commit_leaves digest a c draft moment =
    goes (λ (x : Reference × Hash). named a c.branch ≡ Ok x.0) _ (commit_opening digest a c) _ (commit_finds digest a c) (λ (branch, expected) is.
    let contents : List Content = filter_map (λ (x : Op × Option Content). x.1) (given_ops digest draft c) in
    let ops : List Op = map (λ (x : Op × Option Content). x.0) (given_ops digest draft c) in
    let commit : Commit = request_commit a branch.head moment c ops in
    bind _ (needs_commit_room a (entries a.commits branch.head) (puts ops)) _ (λ u _.
    bind _ (or_conflicts (judge (entries a.commits expected) (entries a.commits branch.head) ops)) _ (λ u _.
    goes (Has a.references) _ (with_contents digest a contents) _ (contents_have digest a.references a contents refl) (λ held has.
    goes (Has a.references) _ (with_commit digest held commit) _ (commit_has digest a.references held commit has) (λ more same rose. branch_leaves a c.branch more.references branch _ is same)))))

choice_leaves : (name : List ℕ) (a : State) (b : Bool) (x y : State × Reply) → Steps name a x → Steps name a y → Steps name a (if b then x else y)
choice_leaves name a true x y p q = p
choice_leaves name a false x y p q = q

applied_leaves : (name : List ℕ) (a : State) (p : Plans) (made : Hash × State) → named a name ≡ Ok p.branch → MadeHas a.references made → Steps name a (applied a p made)
applied_leaves name a p made is same =
    choice_leaves name a (p.asked.dry_run || not (list_any (λ one. has_changes one.plan.ops) p.planned)) _ _ (λ rose. absurd (never_rose a rose)) (λ rose. branch_leaves a name made.1.references p.branch made.0 is same)

plans_leave : (digest : Digest) (name : List ℕ) (a : State) (p : Plans) → named a name ≡ Ok p.branch → OkIs (Steps name a) (step_applied digest a p)
unfolding step_applied
plans_leave digest name a p is =
    bind _ (needs_set_contents a p.planned p.opened) _ (λ u _.
    goes (MadeHas a.references) _ (with_planned digest p.moment a p.branch.head (commits_made p.planned)) _ (planned_have digest a.references p.moment a p.branch.head (commits_made p.planned) refl) (λ made same. applied_leaves name a p made is same))

clash_leaves : (name : List ℕ) (a : State) (b : Bool) (reply : Reply) (why : Refusal) → OkIs (Steps name a) (if b then Ok (a, reply) else Err why)
clash_leaves name a true reply why = λ rose. absurd (never_rose a rose)
clash_leaves name a false reply why = tt

unless_leaves : (digest : Digest) (name : List ℕ) (a : State) (p : Plans) (conflicts : List Conflict) → named a name ≡ Ok p.branch → OkIs (Steps name a) (step_unless_conflicts digest a p conflicts)
unless_leaves digest name a p [] is = plans_leave digest name a p is
unless_leaves digest name a p (x ∷ conflicts) is = clash_leaves name a p.asked.conflicts_as_result _ _

planned_leaves : (digest : Digest) (name : List ℕ) (a : State) (p : Plans) → named a name ≡ Ok p.branch → OkIs (Steps name a) (step_planned digest a p)
planned_leaves digest name a p is = bind _ (needs_planned_room a (entries a.commits p.branch.head) p.planned) _ (λ u _. unless_leaves digest name a p (all_conflicts p.planned) is)

merge_leaves : (digest : Digest) (a : State) (m : Merge) (opened moment : ℕ) → OkIs (Steps m.branch a) (step_merge digest a m opened moment)
unfolding step_merge
merge_leaves digest a m opened moment =
    goes (λ (x : Reference × Hash). named a m.branch ≡ Ok x.0) _ (merge_opening digest a m) _ (merge_finds digest a m) (λ (branch, source) is. planned_leaves digest m.branch a (merge_plans a m branch source opened moment) is)

transplant_leaves : (digest : Digest) (a : State) (t : Transplant) (opened moment : ℕ) → OkIs (Steps t.branch a) (step_transplant digest a t opened moment)
unfolding step_transplant
transplant_leaves digest a t opened moment =
    goes (λ (branch : Reference). named a t.branch ≡ Ok branch) _ (transplant_opening digest a t) _ (transplant_finds digest a t) (λ branch is. planned_leaves digest t.branch a (transplant_plans a t branch opened moment) is)

-- ---- accepted steps

abbrev Accepts : Command → State → State × Reply → Type 0
Accepts command a x = Rose a x.0 → Leaves (name_in command) (head_left command x.1) a.references x.0.references

step_is : (digest : Digest) (a : State) (command : Command) (turn : Turn) → OkIs (Accepts command a) (step digest a command turn)
step_is digest a (commands.Create c) turn = create_leaves digest a c
step_is digest a (commands.Assign c) turn = assign_leaves digest a c
step_is digest a (commands.Delete c) turn = by (step_delete a c) (delete_leaves a c)
  where
    by : (r : Result (State × Reply) Refusal) → OkIs (Removes c.name a) r → OkIs (Accepts (commands.Delete c) a) r
    by (Ok x) leaves = λ rose. leaves
    by (Err why) leaves = tt
step_is digest a (commands.Commit c) turn = commit_leaves digest a c turn.draft turn.moment
step_is digest a (commands.Merge m) turn = merge_leaves digest a m turn.opened turn.moment
step_is digest a (commands.Transplant t) turn = transplant_leaves digest a t turn.opened turn.moment

pub step_leaves : (digest : Digest) (a : State) (command : Command) (turn : Turn) (after : State) (reply : Reply) → step digest a command turn ≡ Ok (after, reply) → nat_lt a.place after.place ≡ true → Leaves (name_in command) (head_left command reply) a.references after.references
step_leaves digest a command turn after reply e = subst (OkIs (Accepts command a)) e (step_is digest a command turn)
