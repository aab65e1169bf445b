-- Commits, merges and transplants keep what each state keeps.
use Rattle.std.proofs.Common.{◌≡◌, ℕ, ◌+◌, max, List, length, map, filter_map, Option, Some, Result, Ok, Err, true, ◌&&◌, is_some, nat_le, nat_lt, refl, ap, subst, ◌∙◌, arith}
use Rattle.std.specs.List.{list_all}
use Rattle.sha2.specs.Sha256.{sha256}
use Rattle.cat_names.specs.Fields.{Key}
use Rattle.cat_names.specs.declared.hash.Hash.{Hash}
use Rattle.cat_model.specs.declared.command.CommitRequest.{CommitRequest}
use Rattle.cat_model.specs.declared.commit.Commit.{Commit}
use Rattle.cat_model.specs.declared.conflict.Conflict.{Conflict}
use Rattle.cat_model.specs.declared.content.Content.{Content}
use Rattle.cat_model.specs.declared.entry.Entry.{Entry}
use Rattle.cat_model.specs.declared.op.Op.{Op}
use Rattle.cat_model.specs.declared.reference.Reference.{Reference}
use Rattle.cat_model.specs.declared.refusal.Refusal.{Refusal}
use Rattle.cat_model.specs.Base.{is_among}
use Rattle.cat_model.specs.Chain.{entries, generation}
use Rattle.cat_model.specs.Commits.{commit_opening, given_ops, given_request, needs_commit_room, or_conflicts, puts, request_commit, step_commit, with_their_contents}
use Rattle.cat_model.specs.Distinct.{are_distinct}
use Rattle.cat_model.specs.Judge.{changes_of, judge}
use Rattle.cat_model.specs.Maps.{Map, after_changes}
use Rattle.cat_model.specs.Merges.{entries_set}
use Rattle.cat_model.specs.Namespaces.{is_well_formed}
use Rattle.cat_model.specs.Records.{with_commit, with_contents}
use Rattle.cat_model.specs.Refusing.{named, needs_branch, pointed}
use Rattle.cat_model.specs.State.{State, commit_hash, content_at, content_hash}
use Rattle.cat_model.specs.WellMade.{given_ids, have_contents, ids_differ, is_made, may_be_asked, most_ops}
use Rattle.cat_graph.specs.Linked.{is_known}
use Rattle.cat_tables.specs.ReferenceLaws.{and_true}
use Rattle.cat_checks.specs.GivenLaws.{well_made_again}
use Rattle.cat_checks.specs.KeptMaps.{KeepsItsMap}
use Rattle.cat_checks.specs.WithinLaws.{ContentsOn, contents_on, first_of}
use Rattle.cat_state.specs.HeldLaws.{all_after, all_more}
use Rattle.cat_state.specs.Keeping.{has_contents, is_held_at}
use Rattle.cat_state.proofs.Heads.{named_passes}
use Rattle.cat_state.proofs.Held.{AreThere, all_there, map_stays}
use Rattle.cat_core.proofs.FullStates.{FullOn, IsFull, full_bind, named_is}
use Rattle.cat_core.proofs.JudgedMaps.{changes_pass, judged_formed, puts_among, set_passes}
use Rattle.cat_core.proofs.RaisedStates.{IsRaised, MayStand, StandsOn, commit_stands, map_ascends, map_formed, raised_full, raised_on}

-- ---- a branch that is found

-- it is at a known commit, whose contents are there
pub record IsAt (a : State) (branch : Reference) : Type 0 where
  pub known : is_known a.commits branch.head ≡ true
  pub held : has_contents a.present (entries a.commits branch.head) ≡ true

pub branch_at : (a : State) (name : List ℕ) (branch : Reference) → IsFull a → named a name ≡ Ok branch → IsAt a branch
branch_at a name branch full is = record {
  known = named_passes (is_known a.commits) a.references name branch full.heads (named_is a name branch is);
  held = named_passes (is_held_at a.commits a.present) a.references name branch full.held (named_is a name branch is);
}

pub same_ok : {A : Type 0} (x y : A) → ◌≡◌ {A = Result A Refusal} (Ok x) (Ok y) → x ≡ y
same_ok x y e = cc

commit_at : (a : State) (c : CommitRequest) (opened : Reference × Hash) → IsFull a → commit_opening sha256 a c ≡ Ok opened → IsAt a opened.0
unfolding commit_opening
commit_at a c opened full is =
    let one = first_of (named a c.branch) _ opened is in
    let two = first_of (needs_branch one.0) _ opened one.2 in
    let three = first_of (pointed sha256 a (Some one.0) c.expected) (λ expected. Ok (one.0, expected)) opened two.2 in
    let same : (one.0, three.0) ≡ opened = same_ok (one.0, three.0) opened three.2 in
    subst (λ (x : Reference × Hash). IsAt a x.0) same (branch_at a c.branch one.0 full one.1)

-- ---- a commit of a request

next_generation_is : (own : ℕ) → own + 1 ≡ max own 0 + 1
next_generation_is own = omega arith

judged_ok : (judged : Result Map (List Conflict)) (m : Map) → or_conflicts judged ≡ Ok m → judged ≡ Ok m
judged_ok (Ok x) m e = let same : x ≡ m = same_ok x m e in ap (λ (y : Map). Ok y) same
judged_ok (Err list) m e = absurd cc

-- contents were added, and nothing else
held_raised : (a held : State) (contents : List Content) → IsFull a → with_contents sha256 a contents ≡ Ok held → (present : List (Hash × Content)) × (held ≡ record a { present = present }) × IsRaised a (record a { present = present }) × AreThere a.present present (map (content_hash sha256) contents)
held_raised a held contents full added =
    let on : ContentsOn a (length contents) (Ok held) = subst (ContentsOn a (length contents)) added (contents_on sha256 contents a) in
    let there : AreThere a.present held.present (map (content_hash sha256) contents) = all_there a held contents (map (content_hash sha256) contents) refl added in
    let here : AreThere a.present on.0 (map (content_hash sha256) contents) = subst (λ (s : State). AreThere a.present s.present (map (content_hash sha256) contents)) on.1 there in
    (on.0, on.1, record { references = refl; linked = full.linked; formed = full.formed; known = λ hash e. e; entries_stay = λ hash e. refl; there = here.grows }, here)

module _ (a : State) (c : CommitRequest) (draft moment : ℕ) (full : IsFull a) (made : (may_be_asked c.ops && have_contents sha256 c.ops c.contents) ≡ true) where
  abbrev its_ops : List Op
  its_ops = map (λ (x : Op × Option Content). x.0) (given_ops sha256 draft c)

  abbrev its_contents : List Content
  its_contents = filter_map (λ (x : Op × Option Content). x.1) (given_ops sha256 draft c)

  ops_distinct : are_distinct its_ops ≡ true
  unfolding given_request may_be_asked
  ops_distinct =
      let parts = and_true (may_be_asked c.ops) (have_contents sha256 c.ops c.contents) made in
      let again = well_made_again sha256 draft c parts.0 parts.1 in
      let asked = (and_true (may_be_asked (given_request sha256 draft c).ops) (have_contents sha256 (given_request sha256 draft c).ops (given_request sha256 draft c).contents) again).0 in
      of_asked its_ops asked
    where
      of_asked : (ops : List Op) → may_be_asked ops ≡ true → are_distinct ops ≡ true
      of_asked ops asked =
          let some = nat_lt 0 (length ops) in
          let few = nat_le (length ops) most_ops in
          let once = are_distinct ops in
          (and_true (some && few) once (and_true (some && few && once) (ids_differ (given_ids ops)) asked).0).1

  puts_there : (more : List Hash) → ((hash : Hash) → is_among (map (content_hash sha256) its_contents) hash ≡ true → is_among more hash ≡ true) → list_all (set_passes (λ (e : Entry). is_among more e.hash)) its_ops ≡ true
  unfolding given_ops have_contents
  puts_there more sub =
      let parts = and_true (may_be_asked c.ops) (have_contents sha256 c.ops c.contents) made in
      puts_among draft 0 c.ops c.contents more (and_true _ (list_all (is_made sha256) (with_their_contents c.ops c.contents)) parts.1).1 sub

  -- the entries that it sets have their contents
  set_there : (present : List (Hash × Content)) → AreThere a.present present (map (content_hash sha256) its_contents) → has_contents present (entries_set (changes_of its_ops)) ≡ true
  set_there present are =
      all_more (λ (x : Key × Entry). is_among (map (content_hash sha256) its_contents) x.1.hash) (λ (x : Key × Entry). is_some (content_at present x.1.hash)) (entries_set (changes_of its_ops))
      (λ x e. are.hold x.1.hash e)
      (changes_pass (λ (e : Entry). is_among (map (content_hash sha256) its_contents) e.hash) its_ops (puts_there (map (content_hash sha256) its_contents) (λ hash e. e)))

  pub commit_full : ((opened : Reference × Hash) → commit_opening sha256 a c ≡ Ok opened → KeepsItsMap sha256 a.commits (request_commit a opened.0.head moment c its_ops)) → FullOn (step_commit sha256 a c draft moment)
  unfolding step_commit request_commit
  commit_full have =
      full_bind (commit_opening sha256 a c) _ (λ (branch, expected) opens.
      let head : Map = entries a.commits branch.head in
      let commit : Commit = request_commit a branch.head moment c its_ops in
      let at : IsAt a branch = commit_at a c (branch, expected) full opens in
      full_bind (needs_commit_room a head (puts its_ops)) _ (λ u e.
      full_bind (or_conflicts (judge (entries a.commits expected) head its_ops)) _ (λ m judged.
      full_bind (with_contents sha256 a its_contents) _ (λ held added.
      full_bind (with_commit sha256 held commit) _ (λ more goes.
      let grown = held_raised a held its_contents full added in
      let x : State = record a { present = grown.0 } in
      let formed : is_well_formed (after_changes (changes_of its_ops) head) ≡ true = judged_formed (entries a.commits expected) head its_ops m ops_distinct (map_ascends a.commits branch.head) (map_formed a.commits branch.head full.formed) (judged_ok (judge (entries a.commits expected) head its_ops) m judged) in
      let may : MayStand x commit = record { parent = at.known; merge_parent = refl; generation = next_generation_is (generation a.commits branch.head); formed = formed; kept = have (branch, expected) opens } in
      let made_on : with_commit sha256 x commit ≡ Ok more = subst (λ (s : State). with_commit sha256 s commit ≡ Ok more) grown.1 goes in
      let stands : StandsOn x more commit = commit_stands x more commit full.linked full.formed may made_on in
      let raised : IsRaised a more = raised_on a x more grown.2 stands.raised in
      let shown : has_contents more.present (entries more.commits (commit_hash sha256 commit)) ≡ true =
      ap (has_contents more.present) stands.shown
      ∙ map_stays x.present more.present (after_changes (changes_of its_ops) head) stands.raised.there
      (all_after (λ (y : Key × Entry). is_some (content_at x.present y.1.hash)) (changes_of its_ops) head (set_there x.present grown.3) (map_stays a.present x.present head grown.2.there at.held)) in
      raised_full a more (record branch { head = commit_hash sha256 commit }) (more.place + 1) full raised stands.known shown)))))
