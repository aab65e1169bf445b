-- Operations of a request that are written one after the other.
use Rattle.std.proofs.Common.{◌≡◌, ℕ, suc, ◌+◌, ◌<◌, ◌≤◌, ◌^◌, List, [], ◌∷◌, ◌++◌, length, get_or, drop, Some, None, true, nat_eq, refl, sym, ap, subst, ◌∙◌, append_assoc, arith}
use Rattle.std.specs.List.{list_all}
use Rattle.std.proofs.lemmas.Bool.{eqb-true}
use Rattle.std.proofs.Math.ListN.{drop_of_length-le}
use Rattle.std.proofs.lemmas.List.{append-nil, drop_more}
use Rattle.cat_codes.specs.Code.{Code, PlacedFit, placed_spelling, u32_code}
use Rattle.cat_codes.specs.ListLaws.{and_true, both_true}
use Rattle.cat_names.specs.declared.hash.ContentId.{ContentId}
use Rattle.cat_model.specs.declared.command.CommitRequest.{CommitRequest}
use Rattle.cat_model.specs.declared.content.Content.{Content}
use Rattle.cat_model.specs.declared.op.Op.{Op}
use Rattle.cat_model.specs.declared.op.Op.TheVariants.{Put, Delete, Unchanged}
use Rattle.cat_model.specs.Commits.{puts, with_their_contents}
use Rattle.cat_model.specs.State.{Digest, fresh_id}
use Rattle.cat_frames.specs.Requests.{Both, are_logged, contents_of, is_logged, op_code, ops_of, request_fields, request_is_logged, request_of}
use Rattle.cat_model.specs.Walks.{content_for, left_after, their_own}
use Rattle.cat_frames.specs.Walks.{is_whole}

-- one piece after another
pub then : (out mid new one two : List ℕ) → mid ≡ out ++ one → new ≡ mid ++ two → new ≡ out ++ (one ++ two)
then out mid new one two a b = b ∙ ap (λ (l : List ℕ). l ++ two) a ∙ append_assoc out one two

-- ---- the next operation

-- those from the next on begin with it
pub next_is : (i : ℕ) (ops : List Op) (op : Op) (left : List Content) → i < length ops → op ≡ get_or ops i op
    → with_their_contents (drop i ops) left ≡ (op, content_for op left) ∷ with_their_contents (drop (i + 1) ops) (left_after op left)
next_is i ops op left lt e =
    ap (λ (l : List Op). with_their_contents l left) (drop_more ops i op lt ∙ ap (λ (x : Op). x ∷ drop (i + 1) ops) (sym e))
    ∙ their_own op (drop (i + 1) ops) left

-- ---- the operations that are still to be written

abbrev pub code_at : Digest → ℕ → ℕ → Code Both
code_at digest draft index = op_code digest (fresh_id draft index)

-- what is written so far, and what is known of those that are left
pub record Writes (digest : Digest) (out : List ℕ) (i : ℕ) (left : List Both) (before : List ℕ) (all : List Both) : Type 0 where
  pub whole : list_all is_whole left ≡ true
  pub spelled : (draft : ℕ) → out ++ placed_spelling (code_at digest draft) i left ≡ before ++ placed_spelling (code_at digest draft) 0 all
  pub logged : (draft : ℕ) → are_logged digest draft 0 all ≡ true → are_logged digest draft i left ≡ true
  pub fits : (draft : ℕ) → are_logged digest draft 0 all ≡ true → PlacedFit (code_at digest draft) i left → PlacedFit (code_at digest draft) 0 all

pub begins : (digest : Digest) (out : List ℕ) (all : List Both) → list_all is_whole all ≡ true → Writes digest out 0 all out all
begins digest out all h = record { whole = h; spelled = λ draft. refl; logged = λ draft e. e; fits = λ draft e f. f }

pub goes_on : (digest : Digest) (out more : List ℕ) (i : ℕ) (left : List Both) (x : Both) (after : List Both) (before : List ℕ) (all : List Both) → left ≡ x ∷ after
    → ((id : ContentId) → more ≡ out ++ (op_code digest id).spell x) → ((id : ContentId) → is_logged digest id x ≡ true → (op_code digest id).Fits x)
    → Writes digest out i left before all → Writes digest more (i + 1) after before all
goes_on digest out more i left x after before all e spelled fits w =
    let next : suc i ≡ i + 1 = omega arith in
    let parts : (draft : ℕ) → are_logged digest draft 0 all ≡ true → (is_logged digest (fresh_id draft i) x ≡ true) × (are_logged digest draft (i + 1) after ≡ true) =
    λ draft l. and_true _ _ (subst (λ (b : List Both). are_logged digest draft i b ≡ true) e (w.logged draft l)) in
    record {
      whole = (and_true (is_whole x) (list_all is_whole after) (subst (λ (b : List Both). list_all is_whole b ≡ true) e w.whole)).1;
      spelled = λ draft.
          ap (λ (o : List ℕ). o ++ placed_spelling (code_at digest draft) (i + 1) after) (spelled (fresh_id draft i))
          ∙ append_assoc out ((code_at digest draft i).spell x) (placed_spelling (code_at digest draft) (i + 1) after)
          ∙ ap (λ (n : ℕ). out ++ ((code_at digest draft i).spell x ++ placed_spelling (code_at digest draft) n after)) (sym next)
          ∙ ap (λ (b : List Both). out ++ placed_spelling (code_at digest draft) i b) (sym e) ∙ w.spelled draft;
      logged = λ draft l. (parts draft l).1;
      fits = λ draft l f. w.fits draft l (subst (λ (b : List Both). PlacedFit (code_at digest draft) i b) (sym e) (fits (fresh_id draft i) (parts draft l).0, subst (λ (n : ℕ). PlacedFit (code_at digest draft) n after) (sym next) f));
    }

pub ended : (digest : Digest) (draft : ℕ) (out : List ℕ) (i : ℕ) (ops : List Op) (left : List Content) (before : List ℕ) (all : List Both) → length ops ≤ i
    → Writes digest out i (with_their_contents (drop i ops) left) before all → out ≡ before ++ placed_spelling (code_at digest draft) 0 all
ended digest draft out i ops left before all le w =
    let none : placed_spelling (code_at digest draft) i (with_their_contents (drop i ops) left) ≡ [] = ap (λ (l : List Op). placed_spelling (code_at digest draft) i (with_their_contents l left)) (drop_of_length-le ops le) in
    sym (append-nil out) ∙ ap (λ (l : List ℕ). out ++ l) (sym none) ∙ w.spelled draft

pub same_both : {ops more : List Op} {contents others : List Content} → ops ≡ more → contents ≡ others → with_their_contents ops contents ≡ with_their_contents more others
same_both {ops} {more} {contents} {others} a b = ap (λ (l : List Op). with_their_contents l contents) a ∙ ap (with_their_contents more) b

-- ---- the whole request

-- as many as the operations
count_is : (ops : List Op) (contents : List Content) → length (with_their_contents ops contents) ≡ length ops
count_is [] contents = refl
count_is (op ∷ ops) contents = ap length (their_own op ops contents) ∙ ap suc (count_is ops (left_after op contents))

pub few : (ops : List Op) (contents : List Content) → length ops < 2 ^ 32 → length (with_their_contents ops contents) < 2 ^ 32
few ops contents lt = subst (λ (n : ℕ). n < 2 ^ 32) (sym (count_is ops contents)) lt

-- their number is written
pub counted : (out new : List ℕ) (ops : List Op) (contents : List Content) (n : ℕ) → n ≡ length ops → new ≡ out ++ (u32_code).spell n → new ≡ out ++ (u32_code).spell (length (with_their_contents ops contents))
counted out new ops contents n len e = e ∙ ap (λ (k : ℕ). out ++ (u32_code).spell k) (len ∙ sym (count_is ops contents))

ops_stay : (ops : List Op) (contents : List Content) → ops_of (with_their_contents ops contents) ≡ ops
ops_stay [] contents = refl
ops_stay (op ∷ ops) contents = ap ops_of (their_own op ops contents) ∙ ap (λ (l : List Op). op ∷ l) (ops_stay ops (left_after op contents))

contents_stay : (ops : List Op) (contents : List Content) → length contents ≡ puts ops → contents_of (with_their_contents ops contents) ≡ contents
contents_stay [] [] e = refl
contents_stay [] (c ∷ contents) e = absurd (omega (arith, e))
contents_stay (Put key entry fresh ∷ ops) [] e = absurd (omega (arith, e))
contents_stay (Put key entry fresh ∷ ops) (c ∷ contents) e = ap (λ (l : List Content). c ∷ l) (contents_stay ops contents (omega (arith, e)))
contents_stay (Delete key ∷ ops) contents e = contents_stay ops contents e
contents_stay (Unchanged key ∷ ops) contents e = contents_stay ops contents e

whole_of : (digest : Digest) (id : ContentId) (x : Both) → is_logged digest id x ≡ true → is_whole x ≡ true
whole_of digest id (Put key entry fresh, None) e = e
whole_of digest id (Put key entry fresh, Some c) e = refl
whole_of digest id (Delete key, content) e = refl
whole_of digest id (Unchanged key, content) e = refl

all_whole : (digest : Digest) (draft i : ℕ) (both : List Both) → are_logged digest draft i both ≡ true → list_all is_whole both ≡ true
all_whole digest draft i [] e = refl
all_whole digest draft i (x ∷ both) e =
    let parts = and_true (is_logged digest (fresh_id draft i) x) (are_logged digest draft (i + 1) both) e in
    both_true _ _ (whole_of digest (fresh_id draft i) x parts.0) (all_whole digest draft (i + 1) both parts.1)

-- what is known of a request that is logged
pub record Logged (digest : Digest) (draft : ℕ) (c : CommitRequest) : Type 0 where
  pub whole : list_all is_whole (with_their_contents c.ops c.contents) ≡ true
  pub logged : are_logged digest draft 0 (with_their_contents c.ops c.contents) ≡ true
  pub back : request_of (request_fields c) ≡ c

pub logged_is : (digest : Digest) (draft : ℕ) (c : CommitRequest) → request_is_logged digest draft c ≡ true → Logged digest draft c
unfolding request_is_logged
logged_is digest draft c e =
    let parts = and_true (nat_eq (length c.contents) (puts c.ops)) (are_logged digest draft 0 (with_their_contents c.ops c.contents)) e in
    record {
      whole = all_whole digest draft 0 (with_their_contents c.ops c.contents) parts.1;
      logged = parts.1;
      back = rw (ops_stay c.ops c.contents, contents_stay c.ops c.contents (eqb-true _ _ parts.0)) refl;
    }
