-- What is open of a caller, as its drafts are opened and closed.
use Rattle.std.proofs.Common.{◌≡◌, ℕ, List, [], ◌∷◌, ◌++◌, Bool, true, false, cond, nat_eq, ◌&&◌, refl, ap, ap₂, ◌∙◌, eq-eqb}
use Rattle.cat_core.specs.Drafts.{without}
use Rattle.cat_model.specs.Drafts.{OpenDraft, drafts_of}

more_at : (b : Bool) (x : OpenDraft) (all xs ys : List OpenDraft) → all ≡ xs ++ ys → cond b (x ∷ all) all ≡ cond b (x ∷ xs) xs ++ ys
more_at true x all xs ys e = ap (λ (l : List OpenDraft). x ∷ l) e
more_at false x all xs ys e = e

pub drafts_more : (n : ℕ) (xs ys : List OpenDraft) → drafts_of n (xs ++ ys) ≡ drafts_of n xs ++ drafts_of n ys
drafts_more n [] ys = refl
drafts_more n (x ∷ xs) ys = more_at (nat_eq x.opening.caller n) x (drafts_of n (xs ++ ys)) (drafts_of n xs) (drafts_of n ys) (drafts_more n xs ys)

pub drafts_one : (d : OpenDraft) → drafts_of d.opening.caller (d ∷ []) ≡ d ∷ []
drafts_one d = ap (λ (b : Bool). cond b (d ∷ []) []) (eq-eqb d.opening.caller d.opening.caller refl)

-- none is left of one alone
pub none_but : (d : OpenDraft) → without d.opening (d ∷ []) ≡ []
none_but d = ap₂ (λ (a b : Bool). cond (a && b) [] (d ∷ [])) (eq-eqb d.opening.caller d.opening.caller refl) (eq-eqb d.opening.number d.opening.number refl)

rest_of : List OpenDraft → List OpenDraft
rest_of [] = []
rest_of (x ∷ xs) = xs

own_cond : (n : ℕ) (b : Bool) (xs ys : List OpenDraft) → drafts_of n (cond b xs ys) ≡ cond b (drafts_of n xs) (drafts_of n ys)
own_cond n true xs ys = refl
own_cond n false xs ys = refl

-- where a caller has none, it has none afterwards
none_at : (b e : Bool) (x : OpenDraft) (all less : List OpenDraft) → cond b (x ∷ all) all ≡ [] → (all ≡ [] → less ≡ []) → cond (b && e) less (cond b (x ∷ less) less) ≡ []
none_at true e x all less is rest = absurd (cc)
none_at false e x all less is rest = rest is

none_stays : (d : OpenDraft) (xs : List OpenDraft) → drafts_of d.opening.caller xs ≡ [] → drafts_of d.opening.caller (without d.opening xs) ≡ []
none_stays d [] is = refl
none_stays d (x ∷ xs) is =
    own_cond d.opening.caller (nat_eq x.opening.caller d.opening.caller && nat_eq x.opening.number d.opening.number) (without d.opening xs) (x ∷ without d.opening xs)
    ∙ none_at (nat_eq x.opening.caller d.opening.caller) (nat_eq x.opening.number d.opening.number) x (drafts_of d.opening.caller xs) (drafts_of d.opening.caller (without d.opening xs)) is (none_stays d xs)

-- where it is the caller's only draft, none is left
alone_at : (b e : Bool) (d x : OpenDraft) (all less : List OpenDraft) → (x ≡ d → e ≡ true) → cond b (x ∷ all) all ≡ d ∷ [] → (all ≡ [] → less ≡ []) → (all ≡ d ∷ [] → less ≡ []) → cond (b && e) less (cond b (x ∷ less) less) ≡ []
unfolding rest_of
alone_at true true d x all less same is none rest = none (ap rest_of is)
alone_at true false d x all less same is none rest = absurd (let u : false ≡ true = same (cc) in cc)
alone_at false e d x all less same is none rest = rest is

pub none_left : (d : OpenDraft) (xs : List OpenDraft) → drafts_of d.opening.caller xs ≡ d ∷ [] → drafts_of d.opening.caller (without d.opening xs) ≡ []
none_left d [] is = refl
none_left d (x ∷ xs) is =
    own_cond d.opening.caller (nat_eq x.opening.caller d.opening.caller && nat_eq x.opening.number d.opening.number) (without d.opening xs) (x ∷ without d.opening xs)
    ∙ alone_at (nat_eq x.opening.caller d.opening.caller) (nat_eq x.opening.number d.opening.number) d x (drafts_of d.opening.caller xs) (drafts_of d.opening.caller (without d.opening xs))
    (λ e. eq-eqb x.opening.number d.opening.number (ap (λ (y : OpenDraft). y.opening.number) e)) is (none_stays d xs) (none_left d xs)
