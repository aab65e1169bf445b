-- Each change that a request wants is a command that is well made, and each policy is fit.
use Rattle.std.proofs.Common.{◌≡◌, ℕ, List, Bool, true, Option, Some, None, Result, Ok, Err, IfOk, IfSome, IsTrue, refl, ap, subst, sym, ◌∙◌, codes, length, nat_eq, eq-eqb, bytes_eq}
use Rattle.std.specs.List.{list_all}
use Rattle.serde_json.specs.Data.{Data}
use Rattle.serde_json.specs.Find.{get}
use Rattle.sha2.specs.Sha256.{sha256}
use Rattle.cat_commit.specs.Metas.{meta_as}
use Rattle.cat_http.specs.Fields.{is_encoded}
use Rattle.cat_http.specs.Message.{Message}
use Rattle.cat_json.specs.Names.{hash_as}
use Rattle.cat_json.specs.Reading.{list_as, json_of, body_as}
use Rattle.cat_json.specs.Reading as json
use Rattle.cat_names.specs.declared.hash.Hash.{Hash}
use Rattle.cat_model.specs.Commits.{puts}
use Rattle.cat_model.specs.WellMade.{is_made, may_be_asked, have_contents, points, is_well_made}
use Rattle.cat_model.specs.declared.ask.Ask.{Ask}
use Rattle.cat_model.specs.declared.ask.Ask.TheVariants as asks
use Rattle.cat_model.specs.declared.command.Command.TheVariants as commands
use Rattle.cat_model.specs.declared.content.Content.{Content}
use Rattle.cat_model.specs.declared.op.Op.{Op}
use Rattle.cat_model.specs.declared.reference.Kind.{Kind}
use Rattle.cat_model.specs.declared.reference.Position.{Position}
use Rattle.cat_model.specs.declared.refusal.Reason.{Reason}
use Rattle.cat_model.specs.declared.refusal.Reason.TheVariants.{BadPath, BadQuery, BadBody}
use Rattle.cat_model.specs.declared.refusal.Refusal.{Refusal}
use Rattle.cat_model.specs.declared.refusal.Refused.{Refused}
use Rattle.cat_policy.specs.declared.policy.Policy.{Policy}
use Rattle.cat_policy.specs.Policies.{HasCounts, HasFew, policy_as}
use Rattle.cat_policy.specs.PolicyLaws.{IsFit, json_fit}
use Rattle.cat_routes.specs.Parts.{escaped}
use Rattle.cat_routes.specs.Table.{Match, found_in}
use Rattle.cat_routes.specs.declared.routes.Route.TheVariants as routes
use Rattle.cat_rest.specs.Bodies.{ops_of, contents_of, commit_as}
use Rattle.cat_rest.specs.Changes.{create, assign, delete, commit, create_at, assign_at, delete_at, commit_at, merge_at, transplant_at, collect_at}
use Rattle.cat_rest.specs.Faults.{◌>>!◌, or_bad, Answers}
use Rattle.cat_rest.specs.MergeBodies.{manner_as, merge_as, merge}
use Rattle.cat_rest.specs.Operations.{op_as}
use Rattle.cat_rest.specs.Paths.{name_of, reference_at, position_at, key_at}
use Rattle.cat_rest.specs.Queries.{required, optional, kind_of, references_asked, entries_asked, history_asked, contents_asked}
use Rattle.cat_rest.specs.Reads.{requested_as}
use Rattle.cat_rest.specs.Served.{IsServed, AreServed}
use Rattle.cat_rest.specs.Sources.{name_as, source_as}
use Rattle.cat_rest.specs.TransplantBodies.{may_be_moved, hashes_as, transplant_as, transplant}
use Rattle.cat_rest.specs.Wanted.{methods_of, allows, path_of, query_of, trees_by, tree_by, contents_by, read_at, by_route, wanted}
use Rattle.cat_rest.specs.declared.commit.CommitBody.{CommitBody}
use Rattle.cat_rest.specs.declared.merge.MergeBody.{MergeBody}
use Rattle.cat_rest.specs.declared.path.PathReference.{PathReference}
use Rattle.cat_rest.specs.declared.source.Source.{Source}
use Rattle.cat_rest.specs.declared.transplant.TransplantBody.{TransplantBody}
use Rattle.cat_rest.specs.declared.wanted.Wanted.{Wanted}
use Rattle.cat_rest.specs.declared.wanted.Wanted.TheVariants.{Read}
use Rattle.cat_rest.proofs.Options.{step, picked, chosen, joined}
use Rattle.cat_rest.proofs.Points.{source_points}
use Rattle.cat_rest.proofs.Ready.{is_ready, list_ready, paired_again, puts_have, all_made}

-- ---- a body is well made

have_theirs : (xs : List (Op × Option Content)) → list_all is_ready xs ≡ true → have_contents sha256 (ops_of xs) (contents_of xs) ≡ true
unfolding have_contents
have_theirs xs h =
    joined (nat_eq (length (contents_of xs)) (puts (ops_of xs))) _
    (eq-eqb (length (contents_of xs)) (puts (ops_of xs)) (puts_have xs h))
    (ap (list_all (is_made sha256)) (paired_again xs h) ∙ all_made xs h)

abbrev is_well : PathReference → Option CommitBody → Bool
is_well at None = true
is_well at (Some b) = is_well_made sha256 (commands.Commit (commit at b))

commit_is_well : (at : PathReference) (d : Data) (b : CommitBody) → commit_as d ≡ Some b → is_well_made sha256 (commands.Commit (commit at b)) ≡ true
unfolding commit_as is_well_made
commit_is_well at d b e =
    let m = step (json.required meta_as (codes "commitMeta") d) _ b e in
    let a = step (json.required (list_as op_as) (codes "operations") d) _ b m.2 in
    let v = step (get (codes "operations") d) (list_as op_as) a.0 a.1 in
    let p = picked (may_be_asked (ops_of a.0)) _ b a.2 in
    sym (ap (is_well at) p.1) ∙ joined (may_be_asked (ops_of a.0)) _ p.0 (have_theirs a.0 (list_ready v.0 a.0 v.2))

abbrev value_of : {A : Type 0} → Result A Refusal → Option A
value_of (Ok x) = Some x
value_of (Err e) = None

read_well : {A : Type 0} (o : Option A) (x : A) → or_bad BadBody o ≡ Ok x → o ≡ Some x
read_well None x e = absurd cc
read_well (Some y) x e = ap value_of e

asked_is_well : (at : PathReference) (body : List ℕ) (b : CommitBody) → or_bad BadBody (body_as commit_as body) ≡ Ok b → IsTrue (is_well_made sha256 (commands.Commit (commit at b)))
asked_is_well at body b e =
    let o = read_well (body_as commit_as body) b e in
    let d = step (json_of body) commit_as b o in
    commit_is_well at d.0 b d.2

-- ---- so is what is made or moved

source_is_there : (body : List ℕ) (s : Source) → or_bad BadBody (body_as source_as body) ≡ Ok s → points s.at ≡ true
source_is_there body s e =
    let o = read_well (body_as source_as body) s e in
    let d = step (json_of body) source_as s o in
    source_points d.0 s d.2

create_is_well : (name : List ℕ) (kind : Kind) (s : Source) → points s.at ≡ true → is_well_made sha256 (commands.Create (create name kind s)) ≡ true
unfolding is_well_made
create_is_well name kind s h = h

assign_is_well : (at : PathReference) (kind : Option Kind) (s : Source) → points s.at ≡ true → is_well_made sha256 (commands.Assign (assign at kind s)) ≡ true
unfolding is_well_made
assign_is_well at kind s h = h

delete_is_well : (at : PathReference) (kind : Option Kind) → is_well_made sha256 (commands.Delete (delete at kind)) ≡ true
unfolding is_well_made
delete_is_well at kind = refl

merge_is_well : (at : PathReference) (b : MergeBody) → is_well_made sha256 (commands.Merge (merge at b)) ≡ true
unfolding is_well_made
merge_is_well at b = refl

-- ---- so are the commits of a transplant

abbrev are_few : Option (List Hash) → Bool
are_few None = true
are_few (Some hashes) = may_be_moved hashes

hashes_are_few : (d : Data) (hashes : List Hash) → hashes_as d ≡ Some hashes → may_be_moved hashes ≡ true
hashes_are_few d hashes e =
    let l = step (list_as hash_as d) _ hashes e in
    let p = picked (may_be_moved l.0) _ hashes l.2 in
    sym (ap are_few p.1) ∙ p.0

abbrev is_few : PathReference → Option TransplantBody → Bool
is_few at None = true
is_few at (Some b) = is_well_made sha256 (commands.Transplant (transplant at b))

transplant_is_well : (at : PathReference) (d : Data) (b : TransplantBody) → transplant_as d ≡ Some b → is_well_made sha256 (commands.Transplant (transplant at b)) ≡ true
unfolding transplant_as is_well_made
transplant_is_well at d b e =
    let n = step (json.required name_as (codes "fromRefName") d) _ b e in
    let h = step (json.required hashes_as (codes "hashesToTransplant") d) _ b n.2 in
    let m = step (manner_as d) _ b h.2 in
    let v = step (get (codes "hashesToTransplant") d) hashes_as h.0 h.1 in
    sym (ap (is_few at) m.2) ∙ hashes_are_few v.0 h.0 v.2

moved_is_well : (at : PathReference) (body : List ℕ) (b : TransplantBody) → or_bad BadBody (body_as transplant_as body) ≡ Ok b → IsTrue (is_well_made sha256 (commands.Transplant (transplant at b)))
moved_is_well at body b e =
    let o = read_well (body_as transplant_as body) b e in
    let d = step (json_of body) transplant_as b o in
    transplant_is_well at d.0 b d.2

-- ---- so each change is

through : {A : Type 0} (o : Result A Refusal) (f : A → Result Wanted Refusal) → ((x : A) → o ≡ Ok x → AreServed (f x)) → AreServed (o >>! f)
through (Ok x) f h = h x refl
through (Err e) f h = tt

create_served : (query body : List ℕ) → AreServed (create_at query body)
create_served query body =
    through (or_bad BadQuery (required name_of (codes "name") query)) _ (λ name e.
    through (or_bad BadQuery (required kind_of (codes "type") query)) _ (λ kind e.
    through (or_bad BadBody (body_as source_as body)) _ (λ s e. create_is_well name kind s (source_is_there body s e))))

assign_served : (part : Option (List ℕ)) (query body : List ℕ) → AreServed (assign_at part query body)
assign_served part query body =
    through (or_bad BadPath (reference_at part)) _ (λ at e.
    through (or_bad BadQuery (optional kind_of (codes "type") query)) _ (λ kind e.
    through (or_bad BadBody (body_as source_as body)) _ (λ s e. assign_is_well at kind s (source_is_there body s e))))

delete_served : (part : Option (List ℕ)) (query : List ℕ) → AreServed (delete_at part query)
delete_served part query =
    through (or_bad BadPath (reference_at part)) _ (λ at e.
    through (or_bad BadQuery (optional kind_of (codes "type") query)) _ (λ kind e. delete_is_well at kind))

commit_served : (part : Option (List ℕ)) (body : List ℕ) → AreServed (commit_at part body)
commit_served part body =
    through (or_bad BadPath (reference_at part)) _ (λ at e.
    through (or_bad BadBody (body_as commit_as body)) _ (λ asked e. asked_is_well at body asked e))

merge_served : (part : Option (List ℕ)) (body : List ℕ) → AreServed (merge_at part body)
merge_served part body =
    through (or_bad BadPath (reference_at part)) _ (λ at e.
    through (or_bad BadBody (body_as merge_as body)) _ (λ asked e. merge_is_well at asked))

transplant_served : (part : Option (List ℕ)) (body : List ℕ) → AreServed (transplant_at part body)
transplant_served part body =
    through (or_bad BadPath (reference_at part)) _ (λ at e.
    through (or_bad BadBody (body_as transplant_as body)) _ (λ asked e. moved_is_well at body asked e))

-- ---- so is a policy

policy_is_fit : (body : List ℕ) (policy : Policy) → or_bad BadBody (body_as policy_as body) ≡ Ok policy → HasFew policy × HasCounts policy
policy_is_fit body policy e =
    let o = read_well (body_as policy_as body) policy e in
    let d = step (json_of body) policy_as policy o in
    subst (λ (p : Option Policy). IfSome p IsFit) d.2 (json_fit d.0)

collect_served : (body : List ℕ) → AreServed (collect_at body)
collect_served body = through (or_bad BadBody (body_as policy_as body)) _ (λ policy e. policy_is_fit body policy e)

-- ---- and each read

pointed_served : {A : Type 0} (part : Option (List ℕ)) (reason : Reason) (o : Position → Option A) (f : Position → A → Ask) → AreServed (or_bad BadPath (position_at part) >>! λ at. or_bad reason (o at) >>! λ x. Ok (Read (f at x)))
pointed_served part reason o f =
    through (or_bad BadPath (position_at part)) _ (λ at e. through (or_bad reason (o at)) _ (λ x e. tt))

trees_served : (r : Message) → AreServed (trees_by r)
trees_served r =
    chosen AreServed (bytes_eq r.method (codes "GET")) _ _
    (through (or_bad BadQuery (references_asked (query_of r.target))) _ (λ ask e. tt))
    (create_served (query_of r.target) r.body)

tree_served : (part : Option (List ℕ)) (r : Message) → AreServed (tree_by part r)
tree_served part r =
    chosen AreServed (bytes_eq r.method (codes "GET")) _ _
    (through (or_bad BadPath (position_at part)) _ (λ at e. tt))
    (chosen AreServed (bytes_eq r.method (codes "PUT")) _ _
    (assign_served part (query_of r.target) r.body)
    (delete_served part (query_of r.target)))

contents_served : (part : Option (List ℕ)) (r : Message) → AreServed (contents_by part r)
contents_served part r =
    chosen AreServed (bytes_eq r.method (codes "GET")) _ _
    (pointed_served part BadQuery (λ at. contents_asked at (query_of r.target)) (λ at ask. asks.Contents ask))
    (pointed_served part BadBody (λ at. body_as requested_as r.body) (λ at keys. asks.Contents (record { at = at; keys = keys })))

read_served : (found : Match) (r : Message) → AreServed (read_at found r)
read_served (routes.Config, parts) r = tt
read_served (routes.Trees, parts) r = trees_served r
read_served (routes.Tree, parts) r = tree_served parts.0 r
read_served (routes.Entries, parts) r = pointed_served parts.0 BadQuery (λ at. entries_asked at (query_of r.target)) (λ at ask. asks.Entries ask)
read_served (routes.History, parts) r = pointed_served parts.0 BadQuery (λ at. history_asked at (query_of r.target)) (λ at ask. asks.History ask)
read_served (routes.Contents, parts) r = contents_served parts.0 r
read_served (routes.Content, parts) r = pointed_served parts.0 BadPath (λ at. key_at parts.1) (λ at key. asks.Content (record { at = at; key = key }))
read_served (routes.Commit, parts) r = commit_served parts.0 r.body
read_served (routes.Merge, parts) r = merge_served parts.0 r.body
read_served (routes.Transplant, parts) r = transplant_served parts.0 r.body
read_served (routes.Sweep, parts) r = collect_served r.body
read_served (routes.Checkpoint, parts) r = tt

route_served : (found : Option Match) (r : Message) → AreServed (by_route found r)
route_served None r = tt
route_served (Some found) r =
    chosen AreServed (allows (methods_of found.0) r.method) _ _ (chosen AreServed (is_encoded r.fields) _ _ tt (read_served found r)) tt

served : (r : Message) → AreServed (wanted r)
unfolding wanted
served r = route_served (found_in (escaped (path_of r.target))) r

pub answered : (r : Message) (result : Result Wanted Refused) → Answers result (wanted r) → IfOk result IsServed
answered r (Ok w) e = subst AreServed e (served r)
answered r (Err e) h = tt
