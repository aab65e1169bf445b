-- Calls add contents, and take none away.
use Rattle.std.proofs.Common.{◌≡◌, ℕ, max, List, [], ◌∷◌, map, filter_map, length, Option, Some, None, is_some, Ok, Err, Bool, true, false, not, ◌||◌, nat_lt, if◌then◌else◌, refl}
use Rattle.std.specs.List.{list_any}
use Rattle.std.specs.Option.{option_map}
use Rattle.std.specs.Prelude.{find}
use Rattle.std.specs.Str.{bytes_eq}
use Rattle.sha2.specs.Sha256.{sha256}
use Rattle.cat_names.specs.declared.hash.Hash.{Hash}
use Rattle.cat_model.specs.declared.command.Assign.{Assign}
use Rattle.cat_model.specs.declared.command.Command.{Command}
use Rattle.cat_model.specs.declared.command.Command.TheVariants as commands
use Rattle.cat_model.specs.declared.command.CommitRequest.{CommitRequest}
use Rattle.cat_model.specs.declared.command.Create.{Create}
use Rattle.cat_model.specs.declared.command.Delete.{Delete}
use Rattle.cat_model.specs.declared.command.Merge.{Merge}
use Rattle.cat_model.specs.declared.command.Transplant.{Transplant}
use Rattle.cat_model.specs.declared.commit.Commit.{Commit}
use Rattle.cat_model.specs.declared.conflict.Conflict.{Conflict}
use Rattle.cat_model.specs.declared.content.Content.{Content}
use Rattle.cat_model.specs.declared.limits.Quantity.TheVariants as quantities
use Rattle.cat_model.specs.declared.op.Op.{Op}
use Rattle.cat_model.specs.declared.refusal.Refusal.{Refusal}
use Rattle.cat_model.specs.declared.reply.Reply.{Reply}
use Rattle.cat_model.specs.Book.{Book, attempt_on}
use Rattle.cat_model.specs.Calls.{Called, Occasion, attempt, stepped, tests_on, tried, turn_on}
use Rattle.cat_model.specs.Chain.{entries}
use Rattle.cat_model.specs.Commits.{commit_opening, given_ops, needs_commit_room, or_conflicts, puts, request_commit, step_commit}
use Rattle.cat_model.specs.Contents.{content_code}
use Rattle.cat_model.specs.Formats.{commit_code}
use Rattle.cat_model.specs.Judge.{judge}
use Rattle.cat_model.specs.Merges.{Planned, Plans, all_conflicts, commits_made, has_changes, merge_opening, merge_plans, needs_planned_room, needs_set_contents, planned_commit, step_applied, step_merge, step_planned, step_unless_conflicts, with_planned}
use Rattle.cat_model.specs.Moves.{needs_contents, needs_head, needs_log, needs_new_name, needs_other_than_default, step_assign, step_create, step_delete}
use Rattle.cat_model.specs.Records.{added, commit_bytes, content_bytes, with_commit, with_content, with_contents}
use Rattle.cat_model.specs.Refusing.{Outcome, Tested, named, needs_kind, needs_room, needs_source_kind, perhaps_named, pointed}
use Rattle.cat_model.specs.Same.{same_hash}
use Rattle.cat_model.specs.State.{Digest, State, commit_hash, content_hash}
use Rattle.cat_model.specs.Step.{Turn, opens_draft, step}
use Rattle.cat_model.specs.Transplants.{step_transplant, transplant_opening, transplant_plans}
use Rattle.cat_core.specs.Lasting.{has_content}
use Rattle.cat_core.proofs.Taken.{OkIs, bind, goes}

-- each content of the one state is in the other
abbrev pub Keeps : State → State → Type 0
Keeps a b = (hash : Hash) → has_content a hash ≡ true → has_content b hash ≡ true

keeps_self : (a : State) → Keeps a a
keeps_self a = λ hash there. there

-- ---- adding commits and contents

kept_keeps : (a b : State) (test : Bool) (why : Refusal) → Keeps a b → OkIs (Keeps a) (if test then Ok b else Err why)
kept_keeps a b true why keeps = keeps
kept_keeps a b false why keeps = tt

added_keeps : (a b more : State) (hash : Hash) (kept : Option (List ℕ)) (bytes : List ℕ) → Keeps a b → Keeps a more → OkIs (Keeps a) (added b more hash kept bytes)
added_keeps a b more hash None bytes p q = q
added_keeps a b more hash (Some kept) bytes p q = kept_keeps a b (bytes_eq kept bytes) _ p

commit_keeps : (digest : Digest) (a b : State) (c : Commit) → Keeps a b → OkIs (Keeps a) (with_commit digest b c)
unfolding with_commit
commit_keeps digest a b c keeps =
    let hash = commit_hash digest c in
    added_keeps a b (record b { commits = (hash, c) ∷ b.commits }) hash (commit_bytes digest b hash) ((commit_code).spell c) keeps keeps

there_by : (test : Bool) (x : Hash × Content) (found : Option (Hash × Content)) → is_some (option_map (λ (y : Hash × Content). y.1) found) ≡ true → is_some (option_map (λ (y : Hash × Content). y.1) (if test then Some x else found)) ≡ true
there_by true x found e = refl
there_by false x found e = e

-- one content more
one_more : (b : State) (hash : Hash) (c : Content) → Keeps b (record b { present = (hash, c) ∷ b.present })
one_more b hash c = λ other there. there_by (same_hash hash other) (hash, c) (find (λ x. same_hash x.0 other) b.present) there

content_keeps : (digest : Digest) (a b : State) (c : Content) → Keeps a b → OkIs (Keeps a) (with_content digest b c)
unfolding with_content
content_keeps digest a b c keeps =
    let hash = content_hash digest c in
    added_keeps a b (record b { present = (hash, c) ∷ b.present }) hash (content_bytes b hash) ((content_code).spell c) keeps (λ other there. one_more b hash c other (keeps other there))

contents_keep : (digest : Digest) (a b : State) (contents : List Content) → Keeps a b → OkIs (Keeps a) (with_contents digest b contents)
contents_keep digest a b [] keeps = keeps
contents_keep digest a b (c ∷ contents) keeps = goes (Keeps a) (Keeps a) (with_content digest b c) _ (content_keeps digest a b c keeps) (λ more h. contents_keep digest a more contents h)

planned_keep : (digest : Digest) (moment : ℕ) (a b : State) (head : Hash) (ps : List Planned) → Keeps a b → OkIs (λ made. Keeps a made.1) (with_planned digest moment b head ps)
planned_keep digest moment a b head [] keeps = keeps
planned_keep digest moment a b head (p ∷ ps) keeps =
    let commit : Commit = planned_commit b.commits head moment p in
    goes (Keeps a) (λ (made : Hash × State). Keeps a made.1) (with_commit digest b commit) _ (commit_keeps digest a b commit keeps) (λ more h. planned_keep digest moment a more (commit_hash digest commit) ps h)

-- ---- steps

abbrev Steps : State → State × Reply → Type 0
Steps a x = Keeps a x.0

create_keeps : (digest : Digest) (a : State) (c : Create) → OkIs (Steps a) (step_create digest a c)
unfolding step_create
create_keeps digest a c =
    bind _ (perhaps_named a c.source.name) _ (λ source _.
    bind _ (needs_source_kind c.source_kind source) _ (λ u _.
    bind _ (pointed digest a source c.source.hash) _ (λ hash _.
    bind _ (needs_new_name a c.name) _ (λ u _.
    bind _ (needs_room (length a.references) a.limits.references quantities.References) _ (λ u _.
    bind _ (needs_log a) _ (λ u _.
    bind _ (needs_contents a hash) _ (λ u _. keeps_self a)))))))

assign_keeps : (digest : Digest) (a : State) (c : Assign) → OkIs (Steps a) (step_assign digest a c)
unfolding step_assign
assign_keeps digest a c =
    bind _ (named a c.name) _ (λ reference _.
    bind _ (perhaps_named a c.source.name) _ (λ source _.
    bind _ (needs_kind c.kind reference) _ (λ u _.
    bind _ (needs_source_kind c.source_kind source) _ (λ u _.
    bind _ (pointed digest a source c.source.hash) _ (λ hash _.
    bind _ (needs_log a) _ (λ u _.
    bind _ (needs_head c.expected reference.head) _ (λ u _.
    bind _ (needs_contents a hash) _ (λ u _. keeps_self a))))))))

delete_keeps : (a : State) (c : Delete) → OkIs (Steps a) (step_delete a c)
unfolding step_delete
delete_keeps a c =
    bind _ (named a c.name) _ (λ reference _.
    bind _ (needs_other_than_default c.name) _ (λ u _.
    bind _ (needs_kind c.kind reference) _ (λ u _.
    bind _ (needs_log a) _ (λ u _.
    bind _ (needs_head c.expected reference.head) _ (λ u _. keeps_self a)))))

commit_step_keeps : (digest : Digest) (a : State) (c : CommitRequest) (draft moment : ℕ) → OkIs (Steps a) (step_commit digest a c draft moment)
unfolding step_commit
commit_step_keeps digest a c draft moment =
    bind _ (commit_opening digest a c) _ (λ (branch, expected) _.
    let contents : List Content = filter_map (λ (x : Op × Option Content). x.1) (given_ops digest draft c) in
    let ops : List Op = map (λ (x : Op × Option Content). x.0) (given_ops digest draft c) in
    let commit : Commit = request_commit a branch.head moment c ops in
    bind _ (needs_commit_room a (entries a.commits branch.head) (puts ops)) _ (λ u _.
    bind _ (or_conflicts (judge (entries a.commits expected) (entries a.commits branch.head) ops)) _ (λ u _.
    goes (Keeps a) _ (with_contents digest a contents) _ (contents_keep digest a a contents (keeps_self a)) (λ held keeps.
    goes (Keeps a) _ (with_commit digest held commit) _ (commit_keeps digest a held commit keeps) (λ more keep. keep)))))

choice_keeps : (a : State) (test : Bool) (x y : State × Reply) → Steps a x → Steps a y → Steps a (if test then x else y)
choice_keeps a true x y p q = p
choice_keeps a false x y p q = q

plans_keep : (digest : Digest) (a : State) (p : Plans) → OkIs (Steps a) (step_applied digest a p)
unfolding step_applied
plans_keep digest a p =
    bind _ (needs_set_contents a p.planned p.opened) _ (λ u _.
    goes (λ (made : Hash × State). Keeps a made.1) _ (with_planned digest p.moment a p.branch.head (commits_made p.planned)) _ (planned_keep digest p.moment a a p.branch.head (commits_made p.planned) (keeps_self a)) (λ made keep.
    choice_keeps a (p.asked.dry_run || not (list_any (λ one. has_changes one.plan.ops) p.planned)) _ _ (keeps_self a) keep))

clash_keeps : (a : State) (test : Bool) (reply : Reply) (why : Refusal) → OkIs (Steps a) (if test then Ok (a, reply) else Err why)
clash_keeps a true reply why = keeps_self a
clash_keeps a false reply why = tt

unless_keeps : (digest : Digest) (a : State) (p : Plans) (conflicts : List Conflict) → OkIs (Steps a) (step_unless_conflicts digest a p conflicts)
unless_keeps digest a p [] = plans_keep digest a p
unless_keeps digest a p (x ∷ conflicts) = clash_keeps a p.asked.conflicts_as_result _ _

planned_step_keeps : (digest : Digest) (a : State) (p : Plans) → OkIs (Steps a) (step_planned digest a p)
planned_step_keeps digest a p = bind _ (needs_planned_room a (entries a.commits p.branch.head) p.planned) _ (λ u _. unless_keeps digest a p (all_conflicts p.planned))

merge_keeps : (digest : Digest) (a : State) (m : Merge) (opened moment : ℕ) → OkIs (Steps a) (step_merge digest a m opened moment)
unfolding step_merge
merge_keeps digest a m opened moment = bind _ (merge_opening digest a m) _ (λ (branch, source) _. planned_step_keeps digest a (merge_plans a m branch source opened moment))

transplant_keeps : (digest : Digest) (a : State) (t : Transplant) (opened moment : ℕ) → OkIs (Steps a) (step_transplant digest a t opened moment)
unfolding step_transplant
transplant_keeps digest a t opened moment = bind _ (transplant_opening digest a t) _ (λ branch _. planned_step_keeps digest a (transplant_plans a t branch opened moment))

step_keeps : (digest : Digest) (a : State) (command : Command) (turn : Turn) → OkIs (Steps a) (step digest a command turn)
step_keeps digest a (commands.Create c) turn = create_keeps digest a c
step_keeps digest a (commands.Assign c) turn = assign_keeps digest a c
step_keeps digest a (commands.Delete c) turn = delete_keeps a c
step_keeps digest a (commands.Commit c) turn = commit_step_keeps digest a c turn.draft turn.moment
step_keeps digest a (commands.Merge m) turn = merge_keeps digest a m turn.opened turn.moment
step_keeps digest a (commands.Transplant t) turn = transplant_keeps digest a t turn.opened turn.moment

-- ---- attempts

called_keeps : (a : State) (test : Bool) (x y : Called) → Keeps a x.state → Keeps a y.state → Keeps a (if test then x else y).state
called_keeps a true x y p q = p
called_keeps a false x y p q = q

stepped_keeps : (caller : ℕ) (a : State) (draft : ℕ) (command : Command) (turn : Turn) (outcome : Outcome) → OkIs (Steps a) outcome → Keeps a (stepped sha256 caller a draft command turn outcome).state
stepped_keeps caller a draft command turn (Err why) keeps = keeps_self a
stepped_keeps caller a draft command turn (Ok (after, reply)) keeps = called_keeps a (nat_lt a.place after.place) _ _ keeps (keeps_self a)

tried_keeps : (caller : ℕ) (a : State) (last : ℕ) (command : Command) (turn : Turn) (tested : Tested) → Keeps a (tried sha256 caller a last command turn tested).state
tried_keeps caller a last command turn (Err why) = keeps_self a
tried_keeps caller a last command turn (Ok u) = stepped_keeps caller a (max last turn.draft) command turn (step sha256 a command turn) (step_keeps sha256 a command turn)

-- each content that is there before an attempt is there after it
pub attempt_keeps : (book : Book) (o : Occasion) (command : Command) → Keeps book.state (attempt_on sha256 book o command).state
unfolding attempt
attempt_keeps book o command = tried_keeps o.caller book.state book.draft command (turn_on book.state book.draft o (opens_draft command)) (tests_on sha256 book.state book.draft o.draft command)
