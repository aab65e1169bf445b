-- What an accepted step takes: at most the reference of its command's name.
use Rattle.std.proofs.Common.{◌≡◌, ℕ, List, [], ◌∷◌, map, filter_map, length, Option, Some, None, Result, Ok, Err, Bool, true, false, not, ◌||◌, ◌&&◌, if◌then◌else◌, refl, sym, ap, ◌∙◌, subst}
use Rattle.std.specs.List.{list_all, list_any}
use Rattle.std.specs.Str.{bytes_eq}
use Rattle.cat_names.specs.declared.hash.Hash.{Hash}
use Rattle.cat_model.specs.declared.command.Assign.{Assign}
use Rattle.cat_model.specs.declared.command.Command.{Command}
use Rattle.cat_model.specs.declared.command.Command.TheVariants as commands
use Rattle.cat_model.specs.declared.command.CommitRequest.{CommitRequest}
use Rattle.cat_model.specs.declared.command.Create.{Create}
use Rattle.cat_model.specs.declared.command.Delete.{Delete}
use Rattle.cat_model.specs.declared.command.Merge.{Merge}
use Rattle.cat_model.specs.declared.command.Transplant.{Transplant}
use Rattle.cat_model.specs.declared.commit.Commit.{Commit}
use Rattle.cat_model.specs.declared.conflict.Conflict.{Conflict}
use Rattle.cat_model.specs.declared.content.Content.{Content}
use Rattle.cat_model.specs.declared.limits.Quantity.TheVariants as quantities
use Rattle.cat_model.specs.declared.op.Op.{Op}
use Rattle.cat_model.specs.declared.reference.Reference.{Reference}
use Rattle.cat_model.specs.declared.refusal.Reason.TheVariants.{NotConsecutive}
use Rattle.cat_model.specs.declared.refusal.Refusal.{Refusal}
use Rattle.cat_model.specs.declared.refusal.Refusal.TheVariants.{BadRequest}
use Rattle.cat_model.specs.declared.reply.Reply.{Reply}
use Rattle.cat_model.specs.Chain.{entries}
use Rattle.cat_model.specs.Commits.{commit_opening, given_ops, needs_commit_room, or_conflicts, puts, request_commit, step_commit}
use Rattle.cat_model.specs.Contents.{content_code}
use Rattle.cat_model.specs.Formats.{commit_code}
use Rattle.cat_model.specs.Judge.{judge}
use Rattle.cat_model.specs.Merges.{Planned, Plans, all_conflicts, applied, commits_made, has_changes, merge_opening, merge_plans, needs_planned_room, needs_set_contents, planned_commit, step_applied, step_merge, step_planned, step_unless_conflicts, with_planned}
use Rattle.cat_model.specs.Moves.{needs_contents, needs_head, needs_log, needs_new_name, needs_other_than_default, step_assign, step_create, step_delete}
use Rattle.cat_model.specs.Records.{added, commit_bytes, content_bytes, with_commit, with_content, with_contents}
use Rattle.cat_model.specs.Refusing.{◌>>=◌, found, named, needs, needs_branch, needs_kind, needs_room, needs_source_kind, perhaps_named, pointed}
use Rattle.cat_model.specs.State.{Digest, State, commit_hash, content_hash, moved_reference, reference_of, with_reference, without_reference}
use Rattle.cat_model.specs.Step.{Turn, step}
use Rattle.cat_model.specs.Transplants.{are_consecutive, needs_on_chain, step_transplant, transplant_opening, transplant_plans}
use Rattle.cat_tables.specs.References.{is_below, names_ascend}
use Rattle.cat_tables.specs.ReferenceLaws.{and_true, either, is_same, other_name, same_name}
use Rattle.cat_core.specs.Sweeping.{name_in, taken_passes}

-- ---- references of other names

-- it passes, and has another name
abbrev is_other : List ℕ → (Reference → Bool) → Reference → Bool
is_other name passes r = passes r && not (bytes_eq r.name name)

-- whatever one of another name passes, one passes still
abbrev pub KeepsOthers : List ℕ → List Reference → List Reference → Type 0
KeepsOthers name before after = (passes : Reference → Bool) → list_any (is_other name passes) before ≡ true → list_any passes after ≡ true

or_either : (a b : Bool) → (a || b) ≡ true → (c d : Bool) → (a ≡ true → c ≡ true) → (b ≡ true → d ≡ true) → (c || d) ≡ true
or_either true b e true d f g = refl
or_either true b e false d f g = absurd (let no : false ≡ true = f refl in cc)
or_either false b e true d f g = refl
or_either false b e false d f g = g e

pub or_more : (a b : Bool) → b ≡ true → (a || b) ≡ true
or_more true b e = refl
or_more false b e = e

pub or_here : (a b : Bool) → a ≡ true → (a || b) ≡ true
or_here true b e = refl
or_here false b e = absurd cc

other_passes : (name : List ℕ) (passes : Reference → Bool) (r : Reference) → is_other name passes r ≡ true → passes r ≡ true
other_passes name passes r e = (and_true (passes r) _ e).0

has_other_name : (name : List ℕ) (passes : Reference → Bool) (r : Reference) → is_other name passes r ≡ true → not (bytes_eq r.name name) ≡ true
has_other_name name passes r e = (and_true (passes r) _ e).1

pub others_stay : (name : List ℕ) (references : List Reference) → KeepsOthers name references references
others_stay name [] passes e = absurd cc
others_stay name (x ∷ xs) passes e = or_either (is_other name passes x) (list_any (is_other name passes) xs) e _ _ (other_passes name passes x) (others_stay name xs passes)

others_with : (name : List ℕ) (references : List Reference) (reference : Reference) → KeepsOthers name references (with_reference references reference)
others_with name [] reference passes e = absurd cc
others_with name (x ∷ xs) reference passes e =
    either (λ (l : List Reference). list_any passes l ≡ true) (is_below reference.name x.name) _ _
    (λ _. or_more (passes reference) _ (others_stay name (x ∷ xs) passes e))
    (λ _. or_either (is_other name passes x) (list_any (is_other name passes) xs) e _ _ (other_passes name passes x) (others_with name xs reference passes))

not_so : (b : Bool) → not b ≡ true → b ≡ true → ⊥
not_so true e f = cc
not_so false e f = cc

moved_passes : (name : List ℕ) (x reference : Reference) (passes : Reference → Bool) → reference.name ≡ name → is_other name passes x ≡ true → passes (if bytes_eq x.name reference.name then reference else x) ≡ true
moved_passes name x reference passes own e =
    either (λ (r : Reference). passes r ≡ true) (bytes_eq x.name reference.name) reference x
    (λ same. absurd (not_so _ (has_other_name name passes x e) (subst (λ (n : List ℕ). bytes_eq x.name n ≡ true) own same)))
    (λ _. other_passes name passes x e)

others_moved : (name : List ℕ) (references : List Reference) (reference : Reference) → reference.name ≡ name → KeepsOthers name references (moved_reference references reference)
others_moved name [] reference own passes e = absurd cc
others_moved name (x ∷ xs) reference own passes e =
    or_either (is_other name passes x) (list_any (is_other name passes) xs) e _ _ (moved_passes name x reference passes own) (others_moved name xs reference own passes)

others_without : (name : List ℕ) (references : List Reference) → KeepsOthers name references (without_reference references name)
others_without name [] passes e = absurd cc
others_without name (x ∷ xs) passes e = by (bytes_eq x.name name) refl (others_without name xs passes)
  where
    later : (a b : Bool) → (a || b) ≡ true → (a ≡ true → ⊥) → b ≡ true
    later true b e none = absurd (none refl)
    later false b e none = e

    by : (b : Bool) → bytes_eq x.name name ≡ b → (list_any (is_other name passes) xs ≡ true → list_any passes (without_reference xs name) ≡ true)
        → list_any passes (if not b then x ∷ without_reference xs name else without_reference xs name) ≡ true
    by true same more = more (later (is_other name passes x) _ e (λ here. not_so _ (has_other_name name passes x here) same))
    by false other more = or_either (is_other name passes x) (list_any (is_other name passes) xs) e _ _ (other_passes name passes x) more

-- ---- the one of the name

all_other : (name : List ℕ) (x : Reference) (xs : List Reference) (passes : Reference → Bool) → bytes_eq x.name name ≡ true → list_all (λ r. is_below x.name r.name) xs ≡ true → list_any passes xs ≡ true → list_any (is_other name passes) xs ≡ true
all_other name x [] passes own below e = absurd cc
all_other name x (y ∷ ys) passes own below e =
    let both = and_true (is_below x.name y.name) _ below in
    or_either (passes y) (list_any passes ys) e _ _ (λ p. with_other (passes y) (bytes_eq y.name name) p (other y both.0)) (all_other name x ys passes own both.1)
  where
    with_other : (a b : Bool) → a ≡ true → b ≡ false → (a && not b) ≡ true
    with_other true true e f = absurd cc
    with_other true false e f = refl
    with_other false b e f = absurd cc

    other : (y : Reference) → is_below x.name y.name ≡ true → bytes_eq y.name name ≡ false
    other y lower = not_true (bytes_eq y.name name) (λ same. absurd (differs (is_same x.name y.name (same_name _ _ own ∙ sym (same_name _ _ same))) (other_name x.name y.name lower)))
      where
        differs : bytes_eq x.name y.name ≡ true → bytes_eq x.name y.name ≡ false → ⊥
        differs e f = let no : true ≡ false = sym e ∙ f in cc

        not_true : (b : Bool) → (b ≡ true → ⊥) → b ≡ false
        not_true true none = absurd (none refl)
        not_true false none = refl

-- whatever one passes, the one of a name passes, or another
pub parted : (name : List ℕ) (references : List Reference) (passes : Reference → Bool) → names_ascend references ≡ true → list_any passes references ≡ true
    → (list_any (is_other name passes) references || taken_passes passes (reference_of references name)) ≡ true
parted name [] passes ascend e = absurd cc
parted name (x ∷ xs) passes ascend e =
    let ascends = and_true (list_all (λ r. is_below x.name r.name) xs) (names_ascend xs) ascend in
    by (bytes_eq x.name name) (passes x) refl refl (λ own is. all_other name x xs passes own ascends.0 (rest false is refl)) (λ is. parted name xs passes ascends.1 (rest false is refl))
  where
    rest : (p : Bool) → passes x ≡ p → p ≡ false → list_any passes xs ≡ true
    rest p is none = subst (λ (b : Bool). (b || list_any passes xs) ≡ true) (is ∙ none) e

    by : (b p : Bool) → bytes_eq x.name name ≡ b → passes x ≡ p → (bytes_eq x.name name ≡ true → passes x ≡ false → list_any (is_other name passes) xs ≡ true)
        → (passes x ≡ false → (list_any (is_other name passes) xs || taken_passes passes (reference_of xs name)) ≡ true)
        → (((p && not b) || list_any (is_other name passes) xs) || taken_passes passes (if b then Some x else reference_of xs name)) ≡ true
    by true true own is f g = or_more _ (passes x) is
    by true false own is f g = or_here _ (passes x) (f own is)
    by false true own is f g = refl
    by false false own is f g = g is

-- the one of a name is there
pub found_there : (name : List ℕ) (references : List Reference) (passes : Reference → Bool) → taken_passes passes (reference_of references name) ≡ true → list_any passes references ≡ true
found_there name [] passes e = absurd cc
found_there name (x ∷ xs) passes e = by (bytes_eq x.name name) e (found_there name xs passes)
  where
    by : (b : Bool) → taken_passes passes (if b then Some x else reference_of xs name) ≡ true → (taken_passes passes (reference_of xs name) ≡ true → list_any passes xs ≡ true) → (passes x || list_any passes xs) ≡ true
    by true f more = or_here (passes x) _ f
    by false f more = or_more (passes x) _ (more f)

found_name : (references : List Reference) (name : List ℕ) (why : Refusal) (r : Reference) → found (reference_of references name) why ≡ Ok r → r.name ≡ name
found_name [] name why r e = absurd cc
found_name (x ∷ xs) name why r e = by (bytes_eq x.name name) refl e (found_name xs name why r)
  where
    same_ok : (x r : Reference) → ◌≡◌ {A = Result Reference Refusal} (Ok x) (Ok r) → x ≡ r
    same_ok x r e = cc

    by : (b : Bool) → bytes_eq x.name name ≡ b → found (if b then Some x else reference_of xs name) why ≡ Ok r → (found (reference_of xs name) why ≡ Ok r → r.name ≡ name) → r.name ≡ name
    by true own f more = ap (λ (s : Reference). s.name) (sym (same_ok x r f)) ∙ same_name x.name name own
    by false other f more = more f

-- ---- steps, by their tests in turn

abbrev pub OkIs : {A : Type 0} → (A → Type 0) → Result A Refusal → Type 0
OkIs P (Ok x) = P x
OkIs P (Err why) = Unit {0}

pub bind : {A B : Type 0} (P : B → Type 0) (r : Result A Refusal) (f : A → Result B Refusal) → ((x : A) → r ≡ Ok x → OkIs P (f x)) → OkIs P (r >>= f)
bind P (Ok x) f h = h x refl
bind P (Err why) f h = tt

pub goes : {A B : Type 0} (Q : A → Type 0) (P : B → Type 0) (r : Result A Refusal) (f : A → Result B Refusal) → OkIs Q r → ((x : A) → Q x → OkIs P (f x)) → OkIs P (r >>= f)
goes Q P (Ok x) f q h = h x q
goes Q P (Err why) f q h = tt

-- the references are these
abbrev pub Has : List Reference → State → Type 0
Has references b = b.references ≡ references

kept_has : (references : List Reference) (a : State) (b : Bool) (why : Refusal) → Has references a → OkIs (Has references) (if b then Ok a else Err why)
kept_has references a true why has = has
kept_has references a false why has = tt

added_has : (references : List Reference) (a more : State) (hash : Hash) (kept : Option (List ℕ)) (bytes : List ℕ) → Has references a → Has references more → OkIs (Has references) (added a more hash kept bytes)
added_has references a more hash None bytes p q = q
added_has references a more hash (Some kept) bytes p q = kept_has references a (bytes_eq kept bytes) _ p

pub commit_has : (digest : Digest) (references : List Reference) (a : State) (c : Commit) → Has references a → OkIs (Has references) (with_commit digest a c)
unfolding with_commit
commit_has digest references a c has =
    let hash = commit_hash digest c in
    added_has references a (record a { commits = (hash, c) ∷ a.commits }) hash (commit_bytes digest a hash) ((commit_code).spell c) has has

content_has : (digest : Digest) (references : List Reference) (a : State) (c : Content) → Has references a → OkIs (Has references) (with_content digest a c)
unfolding with_content
content_has digest references a c has =
    let hash = content_hash digest c in
    added_has references a (record a { present = (hash, c) ∷ a.present }) hash (content_bytes a hash) ((content_code).spell c) has has

pub contents_have : (digest : Digest) (references : List Reference) (a : State) (contents : List Content) → Has references a → OkIs (Has references) (with_contents digest a contents)
contents_have digest references a [] has = has
contents_have digest references a (c ∷ contents) has = goes (Has references) (Has references) (with_content digest a c) _ (content_has digest references a c has) (λ b h. contents_have digest references b contents h)

abbrev pub MadeHas : List Reference → Hash × State → Type 0
MadeHas references made = made.1.references ≡ references

pub planned_have : (digest : Digest) (references : List Reference) (moment : ℕ) (a : State) (head : Hash) (ps : List Planned) → Has references a → OkIs (MadeHas references) (with_planned digest moment a head ps)
planned_have digest references moment a head [] has = has
planned_have digest references moment a head (p ∷ ps) has =
    let commit : Commit = planned_commit a.commits head moment p in
    goes (Has references) (MadeHas references) (with_commit digest a commit) _ (commit_has digest references a commit has) (λ b h. planned_have digest references moment b (commit_hash digest commit) ps h)

-- the references after a step, against those before it
abbrev Steps : List ℕ → State → State × Reply → Type 0
Steps name a x = KeepsOthers name a.references x.0.references

pub named_is : (a : State) (name : List ℕ) (r : Reference) → named a name ≡ Ok r → r.name ≡ name
named_is a name r e = found_name a.references name _ r e

create_takes : (digest : Digest) (a : State) (c : Create) → OkIs (Steps c.name a) (step_create digest a c)
unfolding step_create
create_takes digest a c =
    bind _ (perhaps_named a c.source.name) _ (λ source _.
    bind _ (needs_source_kind c.source_kind source) _ (λ u _.
    bind _ (pointed digest a source c.source.hash) _ (λ hash _.
    bind _ (needs_new_name a c.name) _ (λ u _.
    bind _ (needs_room (length a.references) a.limits.references quantities.References) _ (λ u _.
    bind _ (needs_log a) _ (λ u _.
    bind _ (needs_contents a hash) _ (λ u _. others_with c.name a.references _)))))))

assign_takes : (digest : Digest) (a : State) (c : Assign) → OkIs (Steps c.name a) (step_assign digest a c)
unfolding step_assign
assign_takes digest a c =
    bind _ (named a c.name) _ (λ reference is.
    bind _ (perhaps_named a c.source.name) _ (λ source _.
    bind _ (needs_kind c.kind reference) _ (λ u _.
    bind _ (needs_source_kind c.source_kind source) _ (λ u _.
    bind _ (pointed digest a source c.source.hash) _ (λ hash _.
    bind _ (needs_log a) _ (λ u _.
    bind _ (needs_head c.expected reference.head) _ (λ u _.
    bind _ (needs_contents a hash) _ (λ u _. others_moved c.name a.references _ (named_is a c.name reference is)))))))))

delete_takes : (a : State) (c : Delete) → OkIs (Steps c.name a) (step_delete a c)
unfolding step_delete
delete_takes a c =
    bind _ (named a c.name) _ (λ reference _.
    bind _ (needs_other_than_default c.name) _ (λ u _.
    bind _ (needs_kind c.kind reference) _ (λ u _.
    bind _ (needs_log a) _ (λ u _.
    bind _ (needs_head c.expected reference.head) _ (λ u _. others_without c.name a.references)))))

-- ---- the branch of a call that was opened

commit_opens : (digest : Digest) (a : State) (c : CommitRequest) → OkIs (λ x. x.0.name ≡ c.branch) (commit_opening digest a c)
unfolding commit_opening
commit_opens digest a c =
    bind _ (named a c.branch) _ (λ branch is.
    bind _ (needs_branch branch) _ (λ u _.
    bind _ (pointed digest a (Some branch) c.expected) _ (λ expected _. named_is a c.branch branch is)))

merge_opens : (digest : Digest) (a : State) (m : Merge) → OkIs (λ x. x.0.name ≡ m.branch) (merge_opening digest a m)
unfolding merge_opening
merge_opens digest a m =
    bind _ (named a m.branch) _ (λ branch is.
    bind _ (named a m.from) _ (λ from _.
    bind _ (needs_branch branch) _ (λ u _.
    bind _ (pointed digest a (Some branch) m.hash) _ (λ x _.
    bind _ (pointed digest a (Some from) (Some m.from_hash)) _ (λ source _. named_is a m.branch branch is)))))

transplant_opens : (digest : Digest) (a : State) (t : Transplant) → OkIs (λ branch. branch.name ≡ t.branch) (transplant_opening digest a t)
unfolding transplant_opening
transplant_opens digest a t =
    bind _ (named a t.branch) _ (λ branch is.
    bind _ (named a t.from) _ (λ from _.
    bind _ (needs_branch branch) _ (λ u _.
    bind _ (pointed digest a (Some branch) t.hash) _ (λ x _.
    bind _ (needs_on_chain a from t.hashes) _ (λ y _.
    bind _ (needs (are_consecutive a.commits t.hashes) (BadRequest NotConsecutive)) _ (λ z _. named_is a t.branch branch is))))))

-- ---- commits

-- a branch was moved, among the references that were there
branch_moved : (name : List ℕ) (references mid : List Reference) (branch : Reference) → branch.name ≡ name → mid ≡ references → KeepsOthers name references (moved_reference mid branch)
branch_moved name references mid branch own same = subst (λ (l : List Reference). KeepsOthers name references (moved_reference l branch)) (sym same) (others_moved name references branch own)

commit_takes : (digest : Digest) (a : State) (c : CommitRequest) (draft moment : ℕ) → OkIs (Steps c.branch a) (step_commit digest a c draft moment)
unfolding step_commit
commit_takes digest a c draft moment =
    goes (λ (x : Reference × Hash). x.0.name ≡ c.branch) _ (commit_opening digest a c) _ (commit_opens digest a c) (λ (branch, expected) own.
    let contents : List Content = filter_map (λ (x : Op × Option Content). x.1) (given_ops digest draft c) in
    let ops : List Op = map (λ (x : Op × Option Content). x.0) (given_ops digest draft c) in
    let commit : Commit = request_commit a branch.head moment c ops in
    bind _ (needs_commit_room a (entries a.commits branch.head) (puts ops)) _ (λ u _.
    bind _ (or_conflicts (judge (entries a.commits expected) (entries a.commits branch.head) ops)) _ (λ u _.
    goes (Has a.references) _ (with_contents digest a contents) _ (contents_have digest a.references a contents refl) (λ held has.
    goes (Has a.references) _ (with_commit digest held commit) _ (commit_has digest a.references held commit has) (λ more same. branch_moved c.branch a.references more.references _ own same)))))

choice_takes : (name : List ℕ) (a : State) (b : Bool) (x y : State × Reply) → Steps name a x → Steps name a y → Steps name a (if b then x else y)
choice_takes name a true x y p q = p
choice_takes name a false x y p q = q

applied_takes : (name : List ℕ) (a : State) (p : Plans) (made : Hash × State) → p.branch.name ≡ name → MadeHas a.references made → Steps name a (applied a p made)
applied_takes name a p made own same =
    choice_takes name a (p.asked.dry_run || not (list_any (λ one. has_changes one.plan.ops) p.planned)) _ _ (others_stay name a.references) (branch_moved name a.references made.1.references _ own same)

plans_take : (digest : Digest) (name : List ℕ) (a : State) (p : Plans) → p.branch.name ≡ name → OkIs (Steps name a) (step_applied digest a p)
unfolding step_applied
plans_take digest name a p own =
    bind _ (needs_set_contents a p.planned p.opened) _ (λ u _.
    goes (MadeHas a.references) _ (with_planned digest p.moment a p.branch.head (commits_made p.planned)) _ (planned_have digest a.references p.moment a p.branch.head (commits_made p.planned) refl) (λ made same. applied_takes name a p made own same))

clash_takes : (name : List ℕ) (a : State) (b : Bool) (reply : Reply) (why : Refusal) → OkIs (Steps name a) (if b then Ok (a, reply) else Err why)
clash_takes name a true reply why = others_stay name a.references
clash_takes name a false reply why = tt

unless_takes : (digest : Digest) (name : List ℕ) (a : State) (p : Plans) (conflicts : List Conflict) → p.branch.name ≡ name → OkIs (Steps name a) (step_unless_conflicts digest a p conflicts)
unless_takes digest name a p [] own = plans_take digest name a p own
unless_takes digest name a p (x ∷ conflicts) own = clash_takes name a p.asked.conflicts_as_result _ _

planned_takes : (digest : Digest) (name : List ℕ) (a : State) (p : Plans) → p.branch.name ≡ name → OkIs (Steps name a) (step_planned digest a p)
planned_takes digest name a p own = bind _ (needs_planned_room a (entries a.commits p.branch.head) p.planned) _ (λ u _. unless_takes digest name a p (all_conflicts p.planned) own)

merge_takes : (digest : Digest) (a : State) (m : Merge) (opened moment : ℕ) → OkIs (Steps m.branch a) (step_merge digest a m opened moment)
unfolding step_merge
merge_takes digest a m opened moment =
    goes (λ (x : Reference × Hash). x.0.name ≡ m.branch) _ (merge_opening digest a m) _ (merge_opens digest a m) (λ (branch, source) own. planned_takes digest m.branch a (merge_plans a m branch source opened moment) own)

transplant_takes : (digest : Digest) (a : State) (t : Transplant) (opened moment : ℕ) → OkIs (Steps t.branch a) (step_transplant digest a t opened moment)
unfolding step_transplant
transplant_takes digest a t opened moment =
    goes (λ (branch : Reference). branch.name ≡ t.branch) _ (transplant_opening digest a t) _ (transplant_opens digest a t) (λ branch own. planned_takes digest t.branch a (transplant_plans a t branch opened moment) own)

step_takes : (digest : Digest) (a : State) (command : Command) (turn : Turn) → OkIs (Steps (name_in command) a) (step digest a command turn)
step_takes digest a (commands.Create c) turn = create_takes digest a c
step_takes digest a (commands.Assign c) turn = assign_takes digest a c
step_takes digest a (commands.Delete c) turn = delete_takes a c
step_takes digest a (commands.Commit c) turn = commit_takes digest a c turn.draft turn.moment
step_takes digest a (commands.Merge m) turn = merge_takes digest a m turn.opened turn.moment
step_takes digest a (commands.Transplant t) turn = transplant_takes digest a t turn.opened turn.moment

-- an accepted step keeps what references of other names pass
pub takes_own : (digest : Digest) (a : State) (command : Command) (turn : Turn) (after : State) (reply : Reply) → step digest a command turn ≡ Ok (after, reply) → KeepsOthers (name_in command) a.references after.references
takes_own digest a command turn after reply e = subst (OkIs (Steps (name_in command) a)) e (step_takes digest a command turn)
