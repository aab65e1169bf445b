-- What each state keeps but for its default branch: calls that move references and sweeps keep it.
use Rattle.std.proofs.Common.{◌≡◌, ℕ, ◌+◌, List, [], ◌∷◌, filter, Option, Some, None, Result, Ok, Err, Bool, true, false, not, if◌then◌else◌, refl, ap, subst}
use Rattle.std.specs.List.{list_all}
use Rattle.std.specs.Str.{bytes_eq}
use Rattle.std.specs.Cmp.Lexicographic.{slice_cmp}
use Rattle.std.specs.Ordering.{nat_cmp, is_lt}
use Rattle.sha2.specs.Sha256.{sha256}
use Rattle.cat_names.specs.declared.hash.Hash.{Hash}
use Rattle.cat_model.specs.declared.command.Assign.{Assign}
use Rattle.cat_model.specs.declared.command.Create.{Create}
use Rattle.cat_model.specs.declared.command.Delete.{Delete}
use Rattle.cat_model.specs.declared.limits.Quantity.TheVariants as quantities
use Rattle.cat_model.specs.declared.reference.Reference.{Reference}
use Rattle.cat_model.specs.declared.refusal.Refusal.{Refusal}
use Rattle.cat_model.specs.declared.refusal.Refusal.TheVariants.{RefNotFound}
use Rattle.cat_model.specs.Chain.{on_chain}
use Rattle.cat_model.specs.Moves.{needs_contents, needs_head, needs_log, needs_new_name, needs_other_than_default, step_assign, step_create, step_delete}
use Rattle.cat_model.specs.Namespaces.{is_well_formed}
use Rattle.cat_model.specs.Refusing.{◌>>=◌, Outcome, found, named, needs_kind, needs_room, needs_source_kind, perhaps_named, pointed}
use Rattle.cat_model.specs.State.{State, moved_reference, reference_of, with_reference, without_reference}
use Rattle.cat_frames.specs.Standing.{maps_pass}
use Rattle.cat_graph.specs.Linked.{AreLinked, is_known}
use Rattle.cat_tables.specs.References.{heads_pass}
use Rattle.cat_tables.specs.ReferenceLaws.{and_true, both_true, split}
use Rattle.cat_state.specs.HeldLaws.{passed_there}
use Rattle.cat_state.specs.Keeping.{is_held_at}
use Rattle.cat_state.proofs.Heads.{chain_is_known, named_passes}

-- what each state keeps: linked commits with well-formed maps, and references at known commits, whose contents are there
pub record IsFull (s : State) : Type 0 where
  pub linked : AreLinked s.commits
  pub formed : maps_pass is_well_formed s.commits ≡ true
  pub heads : heads_pass (is_known s.commits) s.references ≡ true
  pub held : heads_pass (is_held_at s.commits s.present) s.references ≡ true

abbrev pub FullOn : Outcome → Type 0
FullOn (Ok x) = IsFull x.0
FullOn (Err why) = Unit {0}

pub full_bind : {A : Type 0} (r : Result A Refusal) (f : A → Outcome) → ((x : A) → r ≡ Ok x → FullOn (f x)) → FullOn (r >>= f)
full_bind (Ok x) f h = h x refl
full_bind (Err why) f h = tt

-- ---- lists of references

all_with : (test : Reference → Bool) (references : List Reference) (new : Reference) → test new ≡ true → list_all test references ≡ true → list_all test (with_reference references new) ≡ true
all_with test [] new passes all = both_true _ _ passes refl
all_with test (first ∷ references) new passes all =
    let both = and_true (test first) (list_all test references) all in
    by (is_lt (slice_cmp nat_cmp new.name first.name)) (all_with test references new passes both.1) both.0
  where
    by : (t : Bool) → list_all test (with_reference references new) ≡ true → test first ≡ true → list_all test (if t then new ∷ first ∷ references else first ∷ with_reference references new) ≡ true
    by true rest own = both_true _ _ passes all
    by false rest own = both_true _ _ own rest

one_moved : (test : Reference → Bool) (moves : Bool) (r moved : Reference) → test moved ≡ true → test r ≡ true → test (if moves then moved else r) ≡ true
one_moved test true r moved passes own = passes
one_moved test false r moved passes own = own

pub all_moved : (test : Reference → Bool) (references : List Reference) (moved : Reference) → test moved ≡ true → list_all test references ≡ true → list_all test (moved_reference references moved) ≡ true
all_moved test [] moved passes all = refl
all_moved test (r ∷ references) moved passes all =
    let both = and_true (test r) (list_all test references) all in
    both_true _ _ (one_moved test (bytes_eq r.name moved.name) r moved passes both.0) (all_moved test references moved passes both.1)

pub all_left : {A : Type 0} (test stays : A → Bool) (xs : List A) → list_all test xs ≡ true → list_all test (filter stays xs) ≡ true
all_left test stays [] all = refl
all_left test stays (x ∷ xs) all =
    let both = and_true (test x) (list_all test xs) all in
    split (stays x)
    (λ e. rw e (both_true _ _ both.0 (all_left test stays xs both.1)))
    (λ e. rw e (all_left test stays xs both.1))

-- ---- what is pointed at

found_is : (o : Option Reference) (why : Refusal) (r : Reference) → ◌≡◌ {A = Result Reference Refusal} (found o why) (Ok r) → o ≡ Some r
found_is None why r e = absurd cc
found_is (Some x) why r e = let same : x ≡ r = cc in ap Some same

pub named_is : (a : State) (name : List ℕ) (r : Reference) → named a name ≡ Ok r → reference_of a.references name ≡ Some r
named_is a name r is = found_is (reference_of a.references name) RefNotFound r is

-- a reference that is found is one of the state's, or there is none
abbrev pub IsOf : State → Option Reference → Type 0
IsOf a None = Unit {0}
IsOf a (Some r) = (name : List ℕ) × (reference_of a.references name ≡ Some r)

perhaps_is : (a : State) (name : Option (List ℕ)) (source : Option Reference) → perhaps_named a name ≡ Ok source → IsOf a source
perhaps_is a None None is = tt
perhaps_is a None (Some r) is = absurd cc
perhaps_is a (Some name) source is = by (named a name) refl is
  where
    by : (t : Result Reference Refusal) → named a name ≡ t → (t >>= λ reference. Ok (Some reference)) ≡ Ok source → IsOf a source
    by (Err why) e is = absurd cc
    by (Ok r) e is = let same : Some r ≡ source = cc in subst (IsOf a) same (name, named_is a name r e)

chosen_is : (test : Bool) (hash other : Hash) → ◌≡◌ {A = Result Hash Refusal} (if test then Ok hash else Err RefNotFound) (Ok other) → (test ≡ true) × (hash ≡ other)
chosen_is true hash other is = (refl, let same : hash ≡ other = cc in same)
chosen_is false hash other is = absurd cc

pub pointed_known : (a : State) (source : Option Reference) (at : Option Hash) (hash : Hash) → IsFull a → IsOf a source → pointed sha256 a source at ≡ Ok hash → is_known a.commits hash ≡ true
pointed_known a (Some r) None hash full of is =
    let same : r.head ≡ hash = cc in
    subst (λ (h : Hash). is_known a.commits h ≡ true) same (named_passes (is_known a.commits) a.references of.0 r full.heads of.1)
pointed_known a (Some r) (Some at) hash full of is =
    let both = chosen_is (on_chain a.commits r.head at) at hash is in
    subst (λ (h : Hash). is_known a.commits h ≡ true) both.1 (chain_is_known a.commits r.head at full.linked both.0 (named_passes (is_known a.commits) a.references of.0 r full.heads of.1))
pointed_known a None (Some at) hash full of is = let both = chosen_is (is_known a.commits at) at hash is in subst (λ (h : Hash). is_known a.commits h ≡ true) both.1 both.0
pointed_known a None None hash full of is = absurd cc

-- ---- references that are made, moved and removed

-- with one head more that is known, whose contents are there
pub referenced_full : (a : State) (references : List Reference) (place : ℕ) → IsFull a → heads_pass (is_known a.commits) references ≡ true → heads_pass (is_held_at a.commits a.present) references ≡ true → IsFull (record a { place = place; references = references })
referenced_full a references place full heads held = record { linked = full.linked; formed = full.formed; heads = heads; held = held }

pub create_full : (a : State) (c : Create) → IsFull a → FullOn (step_create sha256 a c)
unfolding step_create
create_full a c full =
    full_bind (perhaps_named a c.source.name) _ (λ source sourced.
    full_bind (needs_source_kind c.source_kind source) _ (λ u e.
    full_bind (pointed sha256 a source c.source.hash) _ (λ hash points.
    full_bind (needs_new_name a c.name) _ (λ u e.
    full_bind (needs_room _ a.limits.references quantities.References) _ (λ u e.
    full_bind (needs_log a) _ (λ u e.
    full_bind (needs_contents a hash) _ (λ u there.
    let new : Reference = record { name = c.name; kind = c.kind; head = hash } in
    let known = pointed_known a source c.source.hash hash full (perhaps_is a c.source.name source sourced) points in
    referenced_full a (with_reference a.references new) (a.place + 1) full
    (all_with (λ r. is_known a.commits r.head) a.references new known full.heads)
    (all_with (λ r. is_held_at a.commits a.present r.head) a.references new (passed_there a hash there) full.held))))))))

pub assign_full : (a : State) (c : Assign) → IsFull a → FullOn (step_assign sha256 a c)
unfolding step_assign
assign_full a c full =
    full_bind (named a c.name) _ (λ reference e.
    full_bind (perhaps_named a c.source.name) _ (λ source sourced.
    full_bind (needs_kind c.kind reference) _ (λ u e.
    full_bind (needs_source_kind c.source_kind source) _ (λ u e.
    full_bind (pointed sha256 a source c.source.hash) _ (λ hash points.
    full_bind (needs_log a) _ (λ u e.
    full_bind (needs_head c.expected reference.head) _ (λ u e.
    full_bind (needs_contents a hash) _ (λ u there.
    let moved : Reference = record reference { head = hash } in
    let known = pointed_known a source c.source.hash hash full (perhaps_is a c.source.name source sourced) points in
    referenced_full a (moved_reference a.references moved) (a.place + 1) full
    (all_moved (λ r. is_known a.commits r.head) a.references moved known full.heads)
    (all_moved (λ r. is_held_at a.commits a.present r.head) a.references moved (passed_there a hash there) full.held)))))))))

pub delete_full : (a : State) (c : Delete) → IsFull a → FullOn (step_delete a c)
unfolding step_delete
delete_full a c full =
    full_bind (named a c.name) _ (λ reference e.
    full_bind (needs_other_than_default c.name) _ (λ u e.
    full_bind (needs_kind c.kind reference) _ (λ u e.
    full_bind (needs_log a) _ (λ u e.
    full_bind (needs_head c.expected reference.head) _ (λ u e.
    referenced_full a (without_reference a.references c.name) (a.place + 1) full
    (all_left (λ r. is_known a.commits r.head) (λ r. not (bytes_eq r.name c.name)) a.references full.heads)
    (all_left (λ r. is_held_at a.commits a.present r.head) (λ r. not (bytes_eq r.name c.name)) a.references full.held))))))
