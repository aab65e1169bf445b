-- Drafts that are open: what opening and closing one does to them, and to those of other callers.
use Rattle.std.proofs.Common.{◌≡◌, ◌≢◌, ◌≤◌, ◌<◌, ℕ, ◌+◌, List, [], ◌∷◌, ◌++◌, Option, Some, None, Bool, true, false, cond, ◌&&◌, nat_eq, refl, sym, ap, ◌∙◌, subst, inl, inr, ⊎_elim, arith, eq-eqb, ne_eqb}
use Rattle.std.proofs.lemmas.List.{append-nil}
use Rattle.std.proofs.lemmas.Map.Views.{exact_unsigned_eq}
use Rattle.cat_checks.specs.HistoryLaws.{AreAtMost, new_above}
use Rattle.cat_checks.specs.Legal.{draft_is_new}
use Rattle.cat_names.specs.declared.hash.Hash.{Hash}
use Rattle.cat_model.specs.declared.log_entry.LogEntry.{LogEntry}
use Rattle.cat_model.specs.Drafts.{IsNamed, LeavesOthers, Names, Open, OpenDraft, OpenSweep, Opening, SweepAwaits, drafts_of, open_of, sweep_of}
use Rattle.cat_model.specs.TurnLaws.{stays_self}
use Rattle.cat_core.specs.Drafts.{IsOpen, without}
use Rattle.cat_core.specs.Noting.{and_names, noting}
use Rattle.cat_core.specs.Stored.{AreWaiting, IsNumberOfNone, IsWaiting}

-- ---- those of other callers

more_at : (b : Bool) (x : OpenDraft) (all xs ys : List OpenDraft) → all ≡ xs ++ ys → cond b (x ∷ all) all ≡ cond b (x ∷ xs) xs ++ ys
more_at true x all xs ys e = ap (λ (l : List OpenDraft). x ∷ l) e
more_at false x all xs ys e = e

drafts_more : (n : ℕ) (xs ys : List OpenDraft) → drafts_of n (xs ++ ys) ≡ drafts_of n xs ++ drafts_of n ys
drafts_more n [] ys = refl
drafts_more n (x ∷ xs) ys = more_at (nat_eq x.opening.caller n) x (drafts_of n (xs ++ ys)) (drafts_of n xs) (drafts_of n ys) (drafts_more n xs ys)

one_other : (b : Bool) (d : OpenDraft) → b ≡ false → cond b (d ∷ []) [] ≡ []
one_other b d e = ap (λ (x : Bool). cond x (d ∷ []) []) e

opened_others : (xs : List OpenDraft) (d : OpenDraft) (m : ℕ) → m ≢ d.opening.caller → drafts_of m (xs ++ d ∷ []) ≡ drafts_of m xs
opened_others xs d m ne =
    drafts_more m xs (d ∷ [])
    ∙ (ap (λ (l : List OpenDraft). drafts_of m xs ++ l) (one_other (nat_eq d.opening.caller m) d (ne_eqb d.opening.caller m (λ e. ne (sym e)))) ∙ append-nil (drafts_of m xs))

drafts_cond : (n : ℕ) (b : Bool) (xs ys : List OpenDraft) → drafts_of n (cond b xs ys) ≡ cond b (drafts_of n xs) (drafts_of n ys)
drafts_cond n true xs ys = refl
drafts_cond n false xs ys = refl

-- one that is taken away is its caller's
other_at : (b c e : Bool) (x : OpenDraft) (less all : List OpenDraft) → (b ≡ true → c ≡ false) → less ≡ all → cond (b && e) less (cond c (x ∷ less) less) ≡ cond c (x ∷ all) all
other_at true true e x less all ne is = absurd (let t : true ≡ false = ne refl in cc)
other_at true false true x less all ne is = is
other_at true false false x less all ne is = is
other_at false c e x less all ne is = ap (λ (l : List OpenDraft). cond c (x ∷ l) l) is

closed_others : (o : Opening) (xs : List OpenDraft) (m : ℕ) → m ≢ o.caller → drafts_of m (without o xs) ≡ drafts_of m xs
closed_others o [] m ne = refl
closed_others o (x ∷ xs) m ne =
    drafts_cond m (nat_eq x.opening.caller o.caller && nat_eq x.opening.number o.number) (without o xs) (x ∷ without o xs)
    ∙ other_at (nat_eq x.opening.caller o.caller) (nat_eq x.opening.caller m) (nat_eq x.opening.number o.number) x (drafts_of m (without o xs)) (drafts_of m xs)
    (λ e. ne_eqb x.opening.caller m (λ s. ne (sym s ∙ exact_unsigned_eq x.opening.caller o.caller e))) (closed_others o xs m ne)

leaves_drafts : (caller : ℕ) (a : Open) (ds : List OpenDraft) → ((m : ℕ) → m ≢ caller → drafts_of m ds ≡ drafts_of m a.drafts) → LeavesOthers caller a (record a { drafts = ds })
leaves_drafts caller a ds h = λ m ne. record { drafts = h m ne; sweep = (stays_self (open_of m a)).sweep }

named_still : (hash : Hash) (xs ys : List Hash) → IsNamed hash xs → IsNamed hash (xs ++ ys)
named_still hash [] ys is = absurd is
named_still hash (x ∷ xs) ys is = ⊎_elim (λ (first : x ≡ hash). inl first) (λ (later : IsNamed hash xs). inr (named_still hash xs ys later)) is

-- an open sweep that a draft gave more names
awaits_noted : (names : Names) (m : ℕ) (held : Option OpenSweep) → SweepAwaits (sweep_of m held) (sweep_of m (noting names held))
awaits_noted names m None = tt
awaits_noted names m (Some o) = by (nat_eq o.opening.caller m)
  where
    by : (b : Bool) → SweepAwaits (cond b (Some o) None) (cond b (Some (record o { names = and_names o.names names })) None)
    by true = record { same = refl; commits = λ hash is. named_still hash o.names.commits names.commits is; contents = λ hash is. named_still hash o.names.contents names.contents is }
    by false = tt

pub leaves_opened : (a : Open) (d : OpenDraft) → LeavesOthers d.opening.caller a (record { drafts = a.drafts ++ d ∷ []; sweep = noting d.names a.sweep })
leaves_opened a d = λ m ne. record { drafts = opened_others a.drafts d m ne; sweep = awaits_noted d.names m a.sweep }

pub leaves_closed : (a : Open) (o : Opening) → LeavesOthers o.caller a (record a { drafts = without o a.drafts })
leaves_closed a o = leaves_drafts o.caller a _ (closed_others o a.drafts)

-- ---- one among them

in_at : (b : Bool) (d x : OpenDraft) (own xs : List OpenDraft) → (IsOpen d own → IsOpen d xs) → IsOpen d (cond b (x ∷ own) own) → IsOpen d (x ∷ xs)
in_at true d x own xs h is = ⊎_elim (λ (same : x ≡ d). inl same) (λ (there : IsOpen d own). inr (h there)) is
in_at false d x own xs h is = inr (h is)

-- a caller's draft is one of all
pub in_all : (n : ℕ) (d : OpenDraft) (xs : List OpenDraft) → IsOpen d (drafts_of n xs) → IsOpen d xs
in_all n d [] is = is
in_all n d (x ∷ xs) is = in_at (nat_eq x.opening.caller n) d x (drafts_of n xs) xs (in_all n d xs) is

module _ (first last : ℕ) (log : List LogEntry) where
  pub waits : (d : OpenDraft) (xs : List OpenDraft) → AreWaiting first last log xs → IsOpen d xs → IsWaiting first last log d
  waits d [] are is = absurd is
  waits d (x ∷ xs) are is = ⊎_elim (λ (same : x ≡ d). subst (IsWaiting first last log) same are.0) (λ (there : IsOpen d xs). waits d xs are.2 there) is

-- ---- numbers

not_there : (n : ℕ) (d : OpenDraft) (xs : List OpenDraft) → IsNumberOfNone n xs → IsOpen d xs → d.opening.number ≡ n → ⊥
not_there n d [] none is same = is
not_there n d (x ∷ xs) none is same = ⊎_elim (λ (first : x ≡ d). none.0 (ap (λ (y : OpenDraft). y.opening.number) first ∙ same)) (λ (there : IsOpen d xs). not_there n d xs none.1 there same) is

none_at : (b : Bool) (n : ℕ) (x : OpenDraft) (less : List OpenDraft) → (x.opening.number ≡ n → ⊥) → IsNumberOfNone n less → IsNumberOfNone n (cond b less (x ∷ less))
none_at true n x less other none = none
none_at false n x less other none = (other, none)

none_stays : (n : ℕ) (o : Opening) (xs : List OpenDraft) → IsNumberOfNone n xs → IsNumberOfNone n (without o xs)
none_stays n o [] none = tt
none_stays n o (x ∷ xs) none = none_at (nat_eq x.opening.caller o.caller && nat_eq x.opening.number o.number) n x (without o xs) none.0 (none_stays n o xs none.1)

waiting_at : (first last : ℕ) (log : List LogEntry) (b : Bool) (x : OpenDraft) (less : List OpenDraft) → IsWaiting first last log x → IsNumberOfNone x.opening.number less → AreWaiting first last log less → AreWaiting first last log (cond b less (x ∷ less))
waiting_at first last log true x less is none are = are
waiting_at first last log false x less is none are = (is, none, are)

-- once one is closed
pub waiting_closed : (first last : ℕ) (log : List LogEntry) (o : Opening) (xs : List OpenDraft) → AreWaiting first last log xs → AreWaiting first last log (without o xs)
waiting_closed first last log o [] are = tt
waiting_closed first last log o (x ∷ xs) are =
    waiting_at first last log (nat_eq x.opening.caller o.caller && nat_eq x.opening.number o.number) x (without o xs) are.0 (none_stays x.opening.number o xs are.1) (waiting_closed first last log o xs are.2)

gone_at : (x d : OpenDraft) (less : List OpenDraft) → x ≡ d → IsNumberOfNone d.opening.number less → IsNumberOfNone d.opening.number (cond (nat_eq x.opening.caller d.opening.caller && nat_eq x.opening.number d.opening.number) less (x ∷ less))
gone_at x d less same none =
    let caller : nat_eq x.opening.caller d.opening.caller ≡ true = eq-eqb x.opening.caller d.opening.caller (ap (λ (y : OpenDraft). y.opening.caller) same) in
    let number : nat_eq x.opening.number d.opening.number ≡ true = eq-eqb x.opening.number d.opening.number (ap (λ (y : OpenDraft). y.opening.number) same) in
    rw (caller, number) none

-- its number is none of the others'
pub none_left : (first last : ℕ) (log : List LogEntry) (d : OpenDraft) (xs : List OpenDraft) → AreWaiting first last log xs → IsOpen d xs → IsNumberOfNone d.opening.number (without d.opening xs)
none_left first last log d [] are is = absurd is
none_left first last log d (x ∷ xs) are is =
    ⊎_elim
    (λ (same : x ≡ d). gone_at x d (without d.opening xs) same (none_stays d.opening.number d.opening xs (subst (λ (y : OpenDraft). IsNumberOfNone y.opening.number xs) same are.1)))
    (λ (there : IsOpen d xs). none_at (nat_eq x.opening.caller d.opening.caller && nat_eq x.opening.number d.opening.number) d.opening.number x (without d.opening xs)
    (λ same. not_there x.opening.number d xs are.1 there (sym same)) (none_left first last log d xs are.2 there))
    is

-- none has the number of no draft
pub none_of_none : (first last : ℕ) (log : List LogEntry) (xs : List OpenDraft) → AreWaiting first last log xs → IsNumberOfNone 0 xs
none_of_none first last log [] are = tt
none_of_none first last log (x ∷ xs) are = let above : first < x.opening.number = are.0.above in ((λ same. omega arith), none_of_none first last log xs are.2)

-- ---- a longer log, and one draft more

new_on : (e : LogEntry) (log : List LogEntry) (n : ℕ) → (n ≡ e.draft → ⊥) → draft_is_new log n ≡ true → draft_is_new (e ∷ log) n ≡ true
new_on e log n other new = let no : nat_eq n e.draft ≡ false = ne_eqb n e.draft other in rw no new

pub waiting_on : (first last : ℕ) (log : List LogEntry) (e : LogEntry) (xs : List OpenDraft) → IsNumberOfNone e.draft xs → AreWaiting first last log xs → AreWaiting first last (e ∷ log) xs
waiting_on first last log e [] none are = tt
waiting_on first last log e (x ∷ xs) none are =
    (record { above = are.0.above; below = are.0.below; new = new_on e log x.opening.number none.0 are.0.new }, are.1, waiting_on first last log e xs none.1 are.2)

none_more : (n : ℕ) (d : OpenDraft) (xs : List OpenDraft) → (d.opening.number ≡ n → ⊥) → IsNumberOfNone n xs → IsNumberOfNone n (xs ++ d ∷ [])
none_more n d [] other none = (other, tt)
none_more n d (x ∷ xs) other none = (none.0, none_more n d xs other none.1)

-- the next number is new
pub waiting_more : (first last : ℕ) (log : List LogEntry) (d : OpenDraft) (xs : List OpenDraft) → first ≤ last → d.opening.number ≡ last + 1 → AreAtMost last log → AreWaiting first last log xs → AreWaiting first d.opening.number log (xs ++ d ∷ [])
waiting_more first last log d [] low next most are = (record { above = omega (arith, low); below = omega arith; new = new_above last d.opening.number log most (omega arith) }, tt, tt)
waiting_more first last log d (x ∷ xs) from next most are =
    let low : x.opening.number ≤ last = are.0.below in
    (record { above = are.0.above; below = omega arith; new = are.0.new }, none_more x.opening.number d xs (λ same. omega arith) are.1, waiting_more first last log d xs from next most are.2)
