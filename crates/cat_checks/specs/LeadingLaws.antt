-- What accepted steps tell and where they lead: to the state itself, or, with a change that is told, to the next place, where each commit that was there is still there, and what a state upholds is upheld.
use Rattle.std.proofs.Common.{◌≡◌, ℕ, ◌+◌, ◌<◌, ◌⊎◌, inl, inr, ⊎_elim, List, [], ◌∷◌, ◌++◌, length, map, filter_map, Option, Some, None, Result, Ok, Err, Bool, true, false, not, ◌||◌, nat_lt, is_some, if◌then◌else◌, refl, sym, ap, ◌∙◌, subst, append_assoc, ltb-true, arith}
use Rattle.std.specs.List.{list_any}
use Rattle.std.specs.Str.{bytes_eq}
use Rattle.cat_names.specs.declared.hash.Hash.{Hash}
use Rattle.cat_model.specs.declared.command.Assign.{Assign}
use Rattle.cat_model.specs.declared.command.Command.{Command}
use Rattle.cat_model.specs.declared.command.Command.TheVariants as commands
use Rattle.cat_model.specs.declared.command.CommitRequest.{CommitRequest}
use Rattle.cat_model.specs.declared.command.Create.{Create}
use Rattle.cat_model.specs.declared.command.Delete.{Delete}
use Rattle.cat_model.specs.declared.command.Merge.{Merge}
use Rattle.cat_model.specs.declared.command.Transplant.{Transplant}
use Rattle.cat_model.specs.declared.commit.Commit.{Commit}
use Rattle.cat_model.specs.declared.conflict.Conflict.{Conflict}
use Rattle.cat_model.specs.declared.content.Content.{Content}
use Rattle.cat_model.specs.declared.limits.Quantity.TheVariants as quantities
use Rattle.cat_model.specs.declared.op.Op.{Op}
use Rattle.cat_model.specs.declared.reference.Kind.TheVariants.{Branch}
use Rattle.cat_model.specs.declared.reference.Reference.{Reference}
use Rattle.cat_model.specs.declared.refusal.Refusal.{Refusal}
use Rattle.cat_model.specs.declared.refusal.Refusal.TheVariants.{Collision, Conflicts}
use Rattle.cat_model.specs.declared.reply.Reply.{Reply}
use Rattle.cat_model.specs.Chain.{entries}
use Rattle.cat_model.specs.Commits.{commit_opening, given_ops, needs_commit_room, or_conflicts, puts, request_commit, step_commit}
use Rattle.cat_model.specs.Contents.{content_code}
use Rattle.cat_model.specs.Formats.{commit_code}
use Rattle.cat_model.specs.Judge.{judge}
use Rattle.cat_model.specs.Later.{Adds, IsLater}
use Rattle.cat_model.specs.Merges.{Planned, Plans, all_conflicts, applied, commits_made, has_changes, merge_opening, merge_plans, needs_planned_room, needs_set_contents, planned_commit, step_applied, step_merge, step_planned, step_unless_conflicts, with_planned}
use Rattle.cat_model.specs.Moves.{needs_contents, needs_head, needs_log, needs_new_name, needs_other_than_default, step_assign, step_create, step_delete}
use Rattle.cat_model.specs.Records.{added, commit_bytes, content_bytes, with_commit, with_content, with_contents}
use Rattle.cat_model.specs.Refusing.{◌>>=◌, Outcome, named, needs_kind, needs_room, needs_source_kind, perhaps_named, pointed}
use Rattle.cat_model.specs.State.{Digest, State, commit_hash, content_hash}
use Rattle.cat_model.specs.Step.{Turn, head_told, step}
use Rattle.cat_model.specs.Transplants.{step_transplant, transplant_opening, transplant_plans}
use Rattle.cat_checks.specs.Changes.{tells_change}
use Rattle.cat_checks.specs.MainLaws.{commit_branch, main_assigned, main_moved, main_with, main_without, merge_branch, passed, transplant_branch}
use Rattle.cat_checks.specs.Upheld.{HasMain, Upholds}

-- ---- states that grew

pub adds_self : {A : Type 0} (xs : List A) → Adds xs xs
adds_self xs = ([], refl)

adds_on : {A : Type 0} (a b c : List A) → Adds a b → Adds b c → Adds a c
adds_on {A} a b c p q = (q.0 ++ p.0, q.1 ∙ ap (λ (l : List A). q.0 ++ l) p.1 ∙ sym (append_assoc q.0 p.0 a))

pub later_self : (a : State) → IsLater a a
later_self a = record { commits = adds_self a.commits }

pub later_on : (a b c : State) → IsLater a b → IsLater b c → IsLater a c
later_on a b c p q = record { commits = adds_on a.commits b.commits c.commits p.commits q.commits }

-- commits and contents were added, and nothing else was changed
record Grows (digest : Digest) (a b : State) : Type 0 where
  place : b.place ≡ a.place
  limits : b.limits ≡ a.limits
  later : IsLater a b
  upholds : Upholds digest a → Upholds digest b

grows_self : (digest : Digest) (a : State) → Grows digest a a
grows_self digest a = record { place = refl; limits = refl; later = later_self a; upholds = λ u. u }

grows_on : (digest : Digest) (a b c : State) → Grows digest a b → Grows digest b c → Grows digest a c
grows_on digest a b c p q = record { place = q.place ∙ p.place; limits = q.limits ∙ p.limits; later = later_on a b c p.later q.later; upholds = λ u. q.upholds (p.upholds u) }

-- the next place, the same limits, no commit taken away, and what is upheld still so
pub record Follows (digest : Digest) (a b : State) : Type 0 where
  pub place : b.place ≡ a.place + 1
  pub limits : b.limits ≡ a.limits
  pub later : IsLater a b
  pub upholds : Upholds digest a → Upholds digest b

-- a state and the one that a call leaves
abbrev pub Leads : Digest → State → State → Type 0
Leads digest a b = (b ≡ a) ⊎ Follows digest a b

-- ---- adding commits and contents

abbrev GrowsOn : Digest → State → Result State Refusal → Type 0
GrowsOn digest a (Ok b) = Grows digest a b
GrowsOn digest a (Err why) = Unit {0}

grows_bind : (digest : Digest) (a : State) (r : Result State Refusal) (f : State → Result State Refusal) → GrowsOn digest a r → ((b : State) → Grows digest a b → GrowsOn digest a (f b)) → GrowsOn digest a (r >>= f)
grows_bind digest a (Ok b) f g h = h b g
grows_bind digest a (Err why) f g h = tt

kept_grows : (digest : Digest) (a : State) (b : Bool) (why : Refusal) → GrowsOn digest a (if b then Ok a else Err why)
kept_grows digest a true why = grows_self digest a
kept_grows digest a false why = tt

added_grows : (digest : Digest) (a more : State) (hash : Hash) (kept : Option (List ℕ)) (bytes : List ℕ) → Grows digest a more → GrowsOn digest a (added a more hash kept bytes)
added_grows digest a more hash None bytes g = g
added_grows digest a more hash (Some kept) bytes g = kept_grows digest a (bytes_eq kept bytes) (Collision hash kept bytes)

commit_grows : (digest : Digest) (a : State) (c : Commit) → GrowsOn digest a (with_commit digest a c)
unfolding with_commit
commit_grows digest a c =
    let hash = commit_hash digest c in
    added_grows digest a (record a { commits = (hash, c) ∷ a.commits }) hash (commit_bytes digest a hash) ((commit_code).spell c)
    (record {
      place = refl;
      limits = refl;
      later = record { commits = ((hash, c) ∷ [], refl) };
      upholds = λ u. record { main = u.main; commits = (refl, u.commits); contents = u.contents };
    })

content_grows : (digest : Digest) (a : State) (c : Content) → GrowsOn digest a (with_content digest a c)
unfolding with_content
content_grows digest a c =
    let hash = content_hash digest c in
    added_grows digest a (record a { present = (hash, c) ∷ a.present }) hash (content_bytes a hash) ((content_code).spell c)
    (record {
      place = refl;
      limits = refl;
      later = record { commits = adds_self a.commits };
      upholds = λ u. record { main = u.main; commits = u.commits; contents = (refl, u.contents) };
    })

-- what grew from a state that grew, grew
grew : (digest : Digest) (a b : State) (r : Result State Refusal) → Grows digest a b → GrowsOn digest b r → GrowsOn digest a r
grew digest a b (Ok c) g h = grows_on digest a b c g h
grew digest a b (Err why) g h = tt

contents_grow : (digest : Digest) (a : State) (contents : List Content) → GrowsOn digest a (with_contents digest a contents)
contents_grow digest a [] = grows_self digest a
contents_grow digest a (c ∷ contents) = grows_bind digest a (with_content digest a c) _ (content_grows digest a c) (λ b g. grew digest a b (with_contents digest b contents) g (contents_grow digest b contents))

abbrev HeadGrows : Digest → State → Result (Hash × State) Refusal → Type 0
HeadGrows digest a (Ok x) = Grows digest a x.1
HeadGrows digest a (Err why) = Unit {0}

head_bind : (digest : Digest) (a : State) (r : Result State Refusal) (f : State → Result (Hash × State) Refusal) → GrowsOn digest a r → ((b : State) → Grows digest a b → HeadGrows digest a (f b)) → HeadGrows digest a (r >>= f)
head_bind digest a (Ok b) f g h = h b g
head_bind digest a (Err why) f g h = tt

head_grew : (digest : Digest) (a b : State) (r : Result (Hash × State) Refusal) → Grows digest a b → HeadGrows digest b r → HeadGrows digest a r
head_grew digest a b (Ok x) g h = grows_on digest a b x.1 g h
head_grew digest a b (Err why) g h = tt

plans_grow : (digest : Digest) (moment : ℕ) (a : State) (head : Hash) (ps : List Planned) → HeadGrows digest a (with_planned digest moment a head ps)
plans_grow digest moment a head [] = grows_self digest a
plans_grow digest moment a head (p ∷ ps) =
    let commit : Commit = planned_commit a.commits head moment p in
    head_bind digest a (with_commit digest a commit) _ (commit_grows digest a commit) (λ b g. head_grew digest a b (with_planned digest moment b (commit_hash digest commit) ps) g (plans_grow digest moment b (commit_hash digest commit) ps))

-- ---- steps

-- an accepted step tells the head of a reference; it leaves the state, or leads on and tells of a change
pub record IsStep (digest : Digest) (a : State) (x : State × Reply) : Type 0 where
  pub head : is_some (head_told x.1) ≡ true
  pub leads : (x.0 ≡ a) ⊎ (Follows digest a x.0 × (tells_change x.1 ≡ true))

abbrev pub LeadsOn : Digest → State → Outcome → Type 0
LeadsOn digest a (Ok x) = IsStep digest a x
LeadsOn digest a (Err why) = Unit {0}

leads_bind : {A : Type 0} (digest : Digest) (a : State) (r : Result A Refusal) (f : A → Outcome) → ((x : A) → LeadsOn digest a (f x)) → LeadsOn digest a (r >>= f)
leads_bind digest a (Ok x) f h = h x
leads_bind digest a (Err why) f h = tt

-- the same, where it is known what the test found
found_bind : {A : Type 0} (digest : Digest) (a : State) (r : Result A Refusal) (f : A → Outcome) → ((x : A) → r ≡ Ok x → LeadsOn digest a (f x)) → LeadsOn digest a (r >>= f)
found_bind digest a (Ok x) f h = h x refl
found_bind digest a (Err why) f h = tt

more_bind : (digest : Digest) (a : State) (r : Result State Refusal) (f : State → Outcome) → GrowsOn digest a r → ((b : State) → Grows digest a b → LeadsOn digest a (f b)) → LeadsOn digest a (r >>= f)
more_bind digest a (Ok b) f g h = h b g
more_bind digest a (Err why) f g h = tt

made_bind : (digest : Digest) (a : State) (r : Result (Hash × State) Refusal) (f : Hash × State → Outcome) → HeadGrows digest a r → ((x : Hash × State) → Grows digest a x.1 → LeadsOn digest a (f x)) → LeadsOn digest a (r >>= f)
made_bind digest a (Ok x) f g h = h x g
made_bind digest a (Err why) f g h = tt

-- one entry more, and other references, of which the reply tells
next : (digest : Digest) (a b : State) (references : List Reference) (reply : Reply) → is_some (head_told reply) ≡ true → tells_change reply ≡ true → Grows digest a b → (HasMain b.references → HasMain references)
    → IsStep digest a (record b { place = b.place + 1; references = references }, reply)
next digest a b references reply head change g main =
    let follows : Follows digest a (record b { place = b.place + 1; references = references }) = record {
      place = ap (λ (n : ℕ). n + 1) g.place;
      limits = g.limits;
      later = record { commits = g.later.commits };
      upholds = λ u. let v = g.upholds u in record { main = main v.main; commits = v.commits; contents = v.contents };
    } in
    record { head = head; leads = inr (follows, change) }

-- the state as it was
stays : (digest : Digest) (a : State) (reply : Reply) → is_some (head_told reply) ≡ true → IsStep digest a (a, reply)
stays digest a reply head = record { head = head; leads = inl refl }

not_true : (b : Bool) → not b ≡ true → b ≡ false
not_true true e = absurd cc
not_true false e = refl

create_leads : (digest : Digest) (a : State) (c : Create) → LeadsOn digest a (step_create digest a c)
unfolding step_create
create_leads digest a c =
    leads_bind digest a (perhaps_named a c.source.name) _ (λ source.
    leads_bind digest a (needs_source_kind c.source_kind source) _ (λ u.
    leads_bind digest a (pointed digest a source c.source.hash) _ (λ hash.
    found_bind digest a (needs_new_name a c.name) _ (λ new fresh.
    leads_bind digest a (needs_room (length a.references) a.limits.references quantities.References) _ (λ u.
    leads_bind digest a (needs_log a) _ (λ u.
    leads_bind digest a (needs_contents a hash) _ (λ u. next digest a a _ _ refl refl (grows_self digest a) (main_with a.references _ (passed _ _ new fresh)))))))))

assign_leads : (digest : Digest) (a : State) (c : Assign) → LeadsOn digest a (step_assign digest a c)
unfolding step_assign
assign_leads digest a c =
    found_bind digest a (named a c.name) _ (λ reference is.
    leads_bind digest a (perhaps_named a c.source.name) _ (λ source.
    leads_bind digest a (needs_kind c.kind reference) _ (λ u.
    leads_bind digest a (needs_source_kind c.source_kind source) _ (λ u.
    leads_bind digest a (pointed digest a source c.source.hash) _ (λ hash.
    leads_bind digest a (needs_log a) _ (λ u.
    leads_bind digest a (needs_head c.expected reference.head) _ (λ u.
    leads_bind digest a (needs_contents a hash) _ (λ u. next digest a a _ _ refl refl (grows_self digest a) (main_assigned a c.name reference _ is refl refl)))))))))

delete_leads : (digest : Digest) (a : State) (c : Delete) → LeadsOn digest a (step_delete a c)
unfolding step_delete
delete_leads digest a c =
    leads_bind digest a (named a c.name) _ (λ reference.
    found_bind digest a (needs_other_than_default c.name) _ (λ other test.
    leads_bind digest a (needs_kind c.kind reference) _ (λ u.
    leads_bind digest a (needs_log a) _ (λ u.
    leads_bind digest a (needs_head c.expected reference.head) _ (λ u. next digest a a _ _ refl refl (grows_self digest a) (main_without a.references c.name (not_true _ (passed _ _ other test))))))))

commit_leads : (digest : Digest) (a : State) (c : CommitRequest) (draft moment : ℕ) → LeadsOn digest a (step_commit digest a c draft moment)
unfolding step_commit
commit_leads digest a c draft moment =
    found_bind digest a (commit_opening digest a c) _ (λ (branch, expected) opened.
    let contents : List Content = filter_map (λ (x : Op × Option Content). x.1) (given_ops digest draft c) in
    let ops : List Op = map (λ (x : Op × Option Content). x.0) (given_ops digest draft c) in
    let commit : Commit = request_commit a branch.head moment c ops in
    leads_bind digest a (needs_commit_room a (entries a.commits branch.head) (puts ops)) _ (λ u.
    leads_bind digest a (or_conflicts (judge (entries a.commits expected) (entries a.commits branch.head) ops)) _ (λ u.
    more_bind digest a (with_contents digest a contents) _ (contents_grow digest a contents) (λ held g.
    more_bind digest a (with_commit digest held commit) _ (grew digest a held (with_commit digest held commit) g (commit_grows digest held commit)) (λ more grown. next digest a more _ _ refl refl grown (main_moved more.references _ (λ same. commit_branch digest a c (branch, expected) opened)))))))

choice_leads : (digest : Digest) (a : State) (b : Bool) (x y : State × Reply) → IsStep digest a x → IsStep digest a y → IsStep digest a (if b then x else y)
choice_leads digest a true x y p q = p
choice_leads digest a false x y p q = q

applied_leads : (digest : Digest) (a : State) (p : Plans) (made : Hash × State) → p.branch.kind ≡ Branch → Grows digest a made.1 → IsStep digest a (applied a p made)
applied_leads digest a p made kind g =
    choice_leads digest a (p.asked.dry_run || not (list_any (λ one. has_changes one.plan.ops) p.planned)) _ _ (stays digest a _ refl) (next digest a made.1 _ _ refl refl g (main_moved made.1.references _ (λ same. kind)))

plans_lead : (digest : Digest) (a : State) (p : Plans) → p.branch.kind ≡ Branch → LeadsOn digest a (step_applied digest a p)
unfolding step_applied
plans_lead digest a p kind =
    leads_bind digest a (needs_set_contents a p.planned p.opened) _ (λ u.
    made_bind digest a (with_planned digest p.moment a p.branch.head (commits_made p.planned)) _ (plans_grow digest p.moment a p.branch.head (commits_made p.planned)) (λ made g. applied_leads digest a p made kind g))

clash_leads : (digest : Digest) (a : State) (b : Bool) (reply : Reply) (why : Refusal) → is_some (head_told reply) ≡ true → LeadsOn digest a (if b then Ok (a, reply) else Err why)
clash_leads digest a true reply why head = stays digest a reply head
clash_leads digest a false reply why head = tt

unless_leads : (digest : Digest) (a : State) (p : Plans) (conflicts : List Conflict) → p.branch.kind ≡ Branch → LeadsOn digest a (step_unless_conflicts digest a p conflicts)
unless_leads digest a p [] kind = plans_lead digest a p kind
unless_leads digest a p (x ∷ conflicts) kind = clash_leads digest a p.asked.conflicts_as_result _ (Conflicts (x ∷ conflicts)) refl

planned_leads : (digest : Digest) (a : State) (p : Plans) → p.branch.kind ≡ Branch → LeadsOn digest a (step_planned digest a p)
planned_leads digest a p kind =
    leads_bind digest a (needs_planned_room a (entries a.commits p.branch.head) p.planned) _ (λ u. unless_leads digest a p (all_conflicts p.planned) kind)

merge_leads : (digest : Digest) (a : State) (m : Merge) (opened moment : ℕ) → LeadsOn digest a (step_merge digest a m opened moment)
unfolding step_merge
merge_leads digest a m opened moment =
    found_bind digest a (merge_opening digest a m) _ (λ (branch, source) is. planned_leads digest a (merge_plans a m branch source opened moment) (merge_branch digest a m (branch, source) is))

transplant_leads : (digest : Digest) (a : State) (t : Transplant) (opened moment : ℕ) → LeadsOn digest a (step_transplant digest a t opened moment)
unfolding step_transplant
transplant_leads digest a t opened moment =
    found_bind digest a (transplant_opening digest a t) _ (λ branch is. planned_leads digest a (transplant_plans a t branch opened moment) (transplant_branch digest a t branch is))

pub step_leads : (digest : Digest) (a : State) (command : Command) (turn : Turn) → LeadsOn digest a (step digest a command turn)
step_leads digest a (commands.Create c) turn = create_leads digest a c
step_leads digest a (commands.Assign c) turn = assign_leads digest a c
step_leads digest a (commands.Delete c) turn = delete_leads digest a c
step_leads digest a (commands.Commit c) turn = commit_leads digest a c turn.draft turn.moment
step_leads digest a (commands.Merge m) turn = merge_leads digest a m turn.opened turn.moment
step_leads digest a (commands.Transplant t) turn = transplant_leads digest a t turn.opened turn.moment

-- ---- what a step comes to

pub is_step : (digest : Digest) (state : State) (command : Command) (turn : Turn) (after : State) (reply : Reply) → step digest state command turn ≡ Ok (after, reply) → IsStep digest state (after, reply)
is_step digest state command turn after reply e = subst (LeadsOn digest state) e (step_leads digest state command turn)

-- an accepted step tells the head of a reference
abbrev pub TellsHead : Outcome → Type 0
TellsHead (Ok x) = is_some (head_told x.1) ≡ true
TellsHead (Err why) = Unit {0}

tells_by : (digest : Digest) (a : State) (outcome : Outcome) → LeadsOn digest a outcome → TellsHead outcome
tells_by digest a (Ok x) is = is.head
tells_by digest a (Err why) is = tt

pub step_tells : (digest : Digest) (state : State) (command : Command) (turn : Turn) → TellsHead (step digest state command turn)
step_tells digest state command turn = tells_by digest state (step digest state command turn) (step_leads digest state command turn)

-- the state itself, or one that follows it
pub leads_by : (digest : Digest) (a : State) (x : State × Reply) → IsStep digest a x → Leads digest a x.0
leads_by digest a x is = ⊎_elim (λ (same : x.0 ≡ a). inl same) (λ (on : Follows digest a x.0 × (tells_change x.1 ≡ true)). inr on.0) is.leads

pub led_to : (digest : Digest) (state : State) (command : Command) (turn : Turn) (after : State) (reply : Reply) → step digest state command turn ≡ Ok (after, reply) → Leads digest state after
led_to digest state command turn after reply e = leads_by digest state (after, reply) (is_step digest state command turn after reply e)

pub lead_later : (digest : Digest) (a b : State) → Leads digest a b → IsLater a b
lead_later digest a b leads = ⊎_elim (λ (same : b ≡ a). subst (IsLater a) (sym same) (later_self a)) (λ (follows : Follows digest a b). follows.later) leads

-- no commit is taken away by a step
pub step_later : (digest : Digest) (state : State) (command : Command) (turn : Turn) (after : State) (reply : Reply) → step digest state command turn ≡ Ok (after, reply) → IsLater state after
step_later digest state command turn after reply e = lead_later digest state after (led_to digest state command turn after reply e)

-- a state whose place rose follows
pub risen : (digest : Digest) (a b : State) → Leads digest a b → nat_lt a.place b.place ≡ true → Follows digest a b
risen digest a b (inl same) rose =
    let up : a.place < b.place = ltb-true a.place b.place rose in
    let stays : b.place ≡ a.place = ap (λ (s : State). s.place) same in
    absurd (omega arith)
risen digest a b (inr follows) rose = follows

-- the place of an accepted step is the next one
pub logged_place : (digest : Digest) (state : State) (command : Command) (turn : Turn) (after : State) (reply : Reply) → step digest state command turn ≡ Ok (after, reply) → nat_lt state.place after.place ≡ true → after.place ≡ state.place + 1
logged_place digest state command turn after reply e rose = (risen digest state after (led_to digest state command turn after reply e) rose).place
