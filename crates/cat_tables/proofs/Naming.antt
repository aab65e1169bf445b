-- References held under their names, names ascending.
use Rattle.std.proofs.Common.{◌≡◌, ℕ, List, [], ◌∷◌, ◌++◌, append_assoc, Option, Some, None, Bool, true, false, cond, is_some, map, drop, refl, sym, ap, subst, ◌∙◌, Bor}
use Rattle.std.proofs.lemmas.List.{append-nil}
use Rattle.std.proofs.lemmas.List.Folds.{list_all-append}
use Rattle.std.proofs.lemmas.Option.{none-some}
use Rattle.std.specs.Cmp.Lexicographic.{slice_cmp, texts_ties, nat_list_cmp_total}
use Rattle.std.specs.List.{list_all, filter}
use Rattle.std.specs.Option.{option_copied}
use Rattle.std.specs.Ordering.{nat_cmp, is_eq, is_lt, ordering_reverse}
use Rattle.std.specs.Str.{bytes_eq}
use Rattle.std.specs.declared.cmp.Ordering.{Ordering}
use Rattle.std.specs.declared.cmp.Ordering.TheVariants.{Less, Equal, Greater}
use Rattle.cat_codes.specs.Code.{follows, ascends}
use Rattle.cat_model.specs.declared.reference.Reference.{Reference}
use Rattle.cat_model.specs.State.{reference_of, with_reference, without_reference, moved_reference}
use Rattle.cat_ordered.specs.Maps.{value_of, after_change, after_changes, first_of, from_key}
use Rattle.cat_tables.specs.References.{is_below, names_ascend, AreNamed, all_named}
use Rattle.cat_tables.specs.ReferenceLaws.{and_true, both_true, same_name, is_same, below_trans, other_name, not_above, other_name_above, absent_parts}
use Rattle.cat_tables.proofs.Arriving.{split3, less_is}

abbrev Name : Type 0
Name = List ℕ

abbrev Named : Type 0
Named = List (List ℕ × Reference)

abbrev name_cmp : List ℕ → List ℕ → Ordering
name_cmp = slice_cmp nat_cmp

-- the references under the names
abbrev pub held : List (List ℕ × Reference) → List Reference
held named = map (λ x. x.1) named

-- ---- names that ascend

all_lower : (a b : Name) (xs : List Reference) → is_below a b ≡ true → list_all (λ r. is_below b r.name) xs ≡ true → list_all (λ r. is_below a r.name) xs ≡ true
all_lower a b [] e up = refl
all_lower a b (x ∷ xs) e up = let h = and_true (is_below b x.name) _ up in both_true _ _ (below_trans a b x.name e h.0) (all_lower a b xs e h.1)

all_above : (name : Name) (named : Named) → AreNamed named → ascends name_cmp (Some name) named ≡ true → list_all (λ r. is_below name r.name) (held named) ≡ true
all_above name [] are up = refl
all_above name (x ∷ named) are up =
    let a = and_true (is_below name x.0) (ascends name_cmp (Some x.0) named) up in
    both_true _ _ (subst (λ (n : Name). is_below name n ≡ true) are.0 a.0) (all_lower name x.0 (held named) a.0 (all_above x.0 named are.1 a.1))

pub ascend_held : (last : Option (List ℕ)) (named : List (List ℕ × Reference)) → AreNamed named → ascends name_cmp last named ≡ true → names_ascend (held named) ≡ true
ascend_held last [] are up = refl
ascend_held last (x ∷ named) are up =
    let a = and_true (follows name_cmp last x.0) (ascends name_cmp (Some x.0) named) up in
    both_true _ _ (subst (λ (n : Name). list_all (λ r. is_below n r.name) (held named) ≡ true) are.0 (all_above x.0 named are.1 a.1)) (ascend_held (Some x.0) named are.1 a.1)

parts : (x : Reference) (xs : List Reference) → names_ascend (x ∷ xs) ≡ true → (list_all (λ r. is_below x.name r.name) xs ≡ true) × (names_ascend xs ≡ true)
parts x xs up = and_true (list_all (λ r. is_below x.name r.name) xs) (names_ascend xs) up

-- none has a name that is below them all
above_absent : (name : Name) (xs : List Reference) → list_all (λ r. is_below name r.name) xs ≡ true → reference_of xs name ≡ None
above_absent name [] up = refl
above_absent name (x ∷ xs) up = let h = and_true (is_below name x.name) _ up in rw (other_name_above name x.name h.0) (above_absent name xs h.1)

-- nor do those that follow have the first one's
rest_absent : (x : Reference) (xs : List Reference) (name : Name) → names_ascend (x ∷ xs) ≡ true → x.name ≡ name → reference_of xs name ≡ None
rest_absent x xs name up e = above_absent name xs (subst (λ (n : Name). list_all (λ r. is_below n r.name) xs ≡ true) e (parts x xs up).0)

lower_absent : (x : Reference) (xs : List Reference) (name : Name) → names_ascend (x ∷ xs) ≡ true → is_below name x.name ≡ true → reference_of (x ∷ xs) name ≡ None
lower_absent x xs name up e = above_absent name (x ∷ xs) (both_true _ _ e (all_lower name x.name xs e (parts x xs up).0))

without_absent : (xs : List Reference) (name : Name) → reference_of xs name ≡ None → without_reference xs name ≡ xs
without_absent [] name absent = refl
without_absent (x ∷ xs) name absent = let h = absent_parts x xs name absent in rw h.0 (ap (λ (l : List Reference). x ∷ l) (without_absent xs name h.1))

pub moved_absent : (xs : List Reference) (reference : Reference) → reference_of xs reference.name ≡ None → moved_reference xs reference ≡ xs
moved_absent [] reference absent = refl
moved_absent (x ∷ xs) reference absent = let h = absent_parts x xs reference.name absent in rw h.0 (ap (λ (l : List Reference). x ∷ l) (moved_absent xs reference h.1))

all_pass : (p : Reference → Bool) (xs : List Reference) → list_all p xs ≡ true → filter p xs ≡ xs
all_pass p [] all = refl
all_pass p (x ∷ xs) all = let h = and_true (p x) (list_all p xs) all in rw h.0 (ap (λ (l : List Reference). x ∷ l) (all_pass p xs h.1))

-- ---- the order of a first name and another

pub compared : {P : Type 0} (x : List ℕ × Reference) (name : List ℕ) → x.0 ≡ x.1.name
    → (name_cmp x.0 name ≡ Less → is_below x.1.name name ≡ true → P)
    → (name_cmp x.0 name ≡ Equal → x.1.name ≡ name → P)
    → (name_cmp x.0 name ≡ Greater → is_below name x.1.name ≡ true → P) → P
compared x name named f g h = split3 (name_cmp x.0 name)
    (λ o. f o (ap (λ (n : Name). is_below n name) (sym named) ∙ ap is_lt o))
    (λ o. g o (sym named ∙ same_name x.0 name (texts_ties x.0 name ∙ ap is_eq o)))
    (λ o. h o (ap (λ (n : Name). is_below name n) (sym named) ∙ ap is_lt (nat_list_cmp_total.antisymm name x.0 ∙ ap ordering_reverse o)))

-- ---- look-ups

pub value_is : (named : List (List ℕ × Reference)) (name : List ℕ) → AreNamed named → value_of name_cmp named name ≡ reference_of (held named) name
value_is [] name are = refl
value_is (x ∷ named) name are =
    let same : is_eq (name_cmp x.0 name) ≡ bytes_eq x.1.name name = ap (λ (n : Name). is_eq (name_cmp n name)) are.0 ∙ sym (texts_ties x.1.name name) in
    λ i. cond (same i) (Some x.1) (value_is named name are.1 i)

is_some_copied : (found : Option (Bor Reference)) → is_some (option_copied found) ≡ is_some found
is_some_copied None = refl
is_some_copied (Some r) = refl

pub some_found : (found : Option (Bor Reference)) (value : Option Reference) → option_copied found ≡ value → is_some value ≡ is_some found
some_found found value is = ap is_some (sym is) ∙ is_some_copied found

pub none_is : (value : Option Reference) → is_some value ≡ false → value ≡ None
none_is None e = refl
none_is (Some r) e = absurd cc

-- ---- changes

pub named_put : (reference : Reference) (named : List (List ℕ × Reference)) → AreNamed named → AreNamed (after_change name_cmp (reference.name, Some reference) named)
named_put reference [] are = (refl, tt)
named_put reference (x ∷ named) are = split3 (name_cmp x.0 reference.name)
    (λ o. rw o (are.0, named_put reference named are.1))
    (λ o. rw o (refl, are.1))
    (λ o. rw o (refl, are))

pub named_without : (name : List ℕ) (named : List (List ℕ × Reference)) → AreNamed named → AreNamed (after_change name_cmp (name, None) named)
named_without name [] are = tt
named_without name (x ∷ named) are = split3 (name_cmp x.0 name)
    (λ o. rw o (are.0, named_without name named are.1))
    (λ o. rw o are.1)
    (λ o. rw o are)

pub with_is : (reference : Reference) (named : List (List ℕ × Reference)) → AreNamed named → reference_of (held named) reference.name ≡ None
    → held (after_change name_cmp (reference.name, Some reference) named) ≡ with_reference (held named) reference
with_is reference [] are absent = refl
with_is reference (x ∷ named) are absent =
    let other = absent_parts x.1 (held named) reference.name absent in
    compared x reference.name are.0
    (λ o e. rw (o, not_above _ _ e) (ap (λ (l : List Reference). x.1 ∷ l) (with_is reference named are.1 other.1)))
    (λ o e. let same = is_same x.1.name reference.name e in let no = other.0 in absurd cc)
    (λ o e. rw (o, e) refl)

pub moved_is : (reference : Reference) (named : List (List ℕ × Reference)) → AreNamed named → names_ascend (held named) ≡ true → is_some (reference_of (held named) reference.name) ≡ true
    → held (after_change name_cmp (reference.name, Some reference) named) ≡ moved_reference (held named) reference
moved_is reference [] are up there = absurd cc
moved_is reference (x ∷ named) are up there =
    compared x reference.name are.0
    (λ o e. let other = other_name x.1.name reference.name e in rw (o, other) (ap (λ (l : List Reference). x.1 ∷ l) (moved_is reference named are.1 (parts x.1 (held named) up).1 (rw other at there))))
    (λ o e. rw (o, is_same x.1.name reference.name e) (ap (λ (l : List Reference). reference ∷ l) (sym (moved_absent (held named) reference (rest_absent x.1 (held named) reference.name up e)))))
    (λ o e. let none = ap is_some (lower_absent x.1 (held named) reference.name up e) in absurd cc)

pub without_is : (name : List ℕ) (named : List (List ℕ × Reference)) → AreNamed named → names_ascend (held named) ≡ true
    → held (after_change name_cmp (name, None) named) ≡ without_reference (held named) name
without_is name [] are up = refl
without_is name (x ∷ named) are up =
    compared x name are.0
    (λ o e. rw (o, other_name x.1.name name e) (ap (λ (l : List Reference). x.1 ∷ l) (without_is name named are.1 (parts x.1 (held named) up).1)))
    (λ o e. rw (o, is_same x.1.name name e) (sym (without_absent (held named) name (rest_absent x.1 (held named) name up e))))
    (λ o e. rw o (sym (without_absent (held (x ∷ named)) name (lower_absent x.1 (held named) name up e))))

-- ---- the references above a name

-- what follows the name's own pair, if that is the first one
abbrev past : List (List ℕ × Reference) → List ℕ → List (List ℕ × Reference)
past [] name = []
past (x ∷ named) name = cond (bytes_eq x.0 name) named (x ∷ named)

past_above : (name : Name) (named : Named) → AreNamed named → names_ascend (held named) ≡ true → held (past (from_key name_cmp named name) name) ≡ filter (λ r. is_below name r.name) (held named)
past_above name [] are up = refl
past_above name (x ∷ named) are up =
    let all = parts x.1 (held named) up in
    compared x name are.0
    (λ o e. rw (o, not_above x.1.name name e) (past_above name named are.1 all.1))
    (λ o e.
    let here : bytes_eq x.0 name ≡ true = is_same x.0 name (are.0 ∙ e) in
    let itself : is_below name x.1.name ≡ false = ap (λ (n : Name). is_below name n) (sym are.0) ∙ ap is_lt (nat_list_cmp_total.antisymm name x.0 ∙ ap ordering_reverse o) in
    rw o (rw (here, itself) (sym (all_pass (λ r. is_below name r.name) (held named) (subst (λ (n : Name). list_all (λ r. is_below n r.name) (held named) ≡ true) e all.0)))))
    (λ o e.
    let other : bytes_eq x.0 name ≡ false = texts_ties x.0 name ∙ ap is_eq o in
    rw o (rw other (sym (all_pass (λ r. is_below name r.name) (held (x ∷ named)) (both_true _ _ e (all_lower name x.1.name (held named) e all.0))))))

pub past_same : (name : List ℕ) (named from : List (List ℕ × Reference)) (x : List ℕ × Reference) → AreNamed named → names_ascend (held named) ≡ true → from ≡ from_key name_cmp named name
    → Some x ≡ first_of from → bytes_eq x.0 name ≡ true → held (drop 1 from) ≡ filter (λ r. is_below name r.name) (held named)
past_same name named [] x are up is some same = absurd (none-some x (sym some))
past_same name named (y ∷ from) x are up is some same =
    let one : x ≡ y = cc in
    let here : bytes_eq y.0 name ≡ true = ap (λ (p : List ℕ × Reference). bytes_eq p.0 name) (sym one) ∙ same in
    let left : past (y ∷ from) name ≡ from = rw here refl in
    ap held (sym left ∙ ap (λ (l : Named). past l name) is) ∙ past_above name named are up

pub past_other : (name : List ℕ) (named from : List (List ℕ × Reference)) (x : List ℕ × Reference) → AreNamed named → names_ascend (held named) ≡ true → from ≡ from_key name_cmp named name
    → Some x ≡ first_of from → bytes_eq x.0 name ≡ false → held from ≡ filter (λ r. is_below name r.name) (held named)
past_other name named [] x are up is some same = absurd (none-some x (sym some))
past_other name named (y ∷ from) x are up is some same =
    let one : x ≡ y = cc in
    let here : bytes_eq y.0 name ≡ false = ap (λ (p : List ℕ × Reference). bytes_eq p.0 name) (sym one) ∙ same in
    let left : past (y ∷ from) name ≡ y ∷ from = rw here refl in
    ap held (sym left ∙ ap (λ (l : Named). past l name) is) ∙ past_above name named are up

pub past_none : (name : List ℕ) (named from : List (List ℕ × Reference)) → AreNamed named → names_ascend (held named) ≡ true → from ≡ from_key name_cmp named name
    → None ≡ first_of from → held from ≡ filter (λ r. is_below name r.name) (held named)
past_none name named [] are up is none = ap (λ (l : Named). held (past l name)) is ∙ past_above name named are up
past_none name named (y ∷ from) are up is none = absurd (none-some y none)

-- ---- references put one after another, names ascending

-- each under its name
abbrev under_names : List Reference → Named
under_names list = map (λ r. (r.name, r)) list

put_last : (reference : Reference) (front : Named) → list_all (λ x. is_below x.0 reference.name) front ≡ true → after_change name_cmp (reference.name, Some reference) front ≡ front ++ (reference.name, reference) ∷ []
put_last reference [] up = refl
put_last reference (x ∷ front) up =
    let h = and_true (is_below x.0 reference.name) (list_all (λ y. is_below y.0 reference.name) front) up in
    let o : name_cmp x.0 reference.name ≡ Less = less_is _ h.0 in
    rw o (ap (λ (l : Named). x ∷ l) (put_last reference front h.1))

-- all that are put are below each that follows
abbrev AllBelow : Named → List Reference → Type 0
AllBelow front list = list_all (λ r. list_all (λ x. is_below x.0 r.name) front) list ≡ true

below_more : (reference : Reference) (front : Named) (list : List Reference) → AllBelow front list → list_all (λ r. is_below reference.name r.name) list ≡ true → AllBelow (front ++ (reference.name, reference) ∷ []) list
below_more reference front [] below up = refl
below_more reference front (r ∷ list) below up =
    let h = and_true (list_all (λ x. is_below x.0 r.name) front) (list_all (λ q. list_all (λ x. is_below x.0 q.name) front) list) below in
    let k = and_true (is_below reference.name r.name) (list_all (λ q. is_below reference.name q.name) list) up in
    both_true _ _ (list_all-append (λ x. is_below x.0 r.name) front ((reference.name, reference) ∷ []) ∙ both_true _ _ h.0 (both_true _ _ k.0 refl)) (below_more reference front list h.1 k.1)

none_below : (list : List Reference) → AllBelow [] list
none_below [] = refl
none_below (r ∷ list) = none_below list

put_after : (front : Named) (list : List Reference) → names_ascend list ≡ true → AllBelow front list → after_changes name_cmp (all_named list) front ≡ front ++ under_names list
put_after front [] up below = sym (append-nil front)
put_after front (r ∷ list) up below =
    let a = parts r list up in
    let h = and_true (list_all (λ x. is_below x.0 r.name) front) (list_all (λ q. list_all (λ x. is_below x.0 q.name) front) list) below in
    ap (after_changes name_cmp (all_named list)) (put_last r front h.0)
    ∙ put_after (front ++ (r.name, r) ∷ []) list a.1 (below_more r front list h.1 a.0)
    ∙ append_assoc front ((r.name, r) ∷ []) (under_names list)

named_under : (list : List Reference) → AreNamed (under_names list)
named_under [] = tt
named_under (r ∷ list) = (refl, named_under list)

held_under : (list : List Reference) → held (under_names list) ≡ list
held_under [] = refl
held_under (r ∷ list) = ap (λ (l : List Reference). r ∷ l) (held_under list)

ascend_above : (name : Name) (list : List Reference) → list_all (λ r. is_below name r.name) list ≡ true → names_ascend list ≡ true → ascends name_cmp (Some name) (all_named list) ≡ true
ascend_above name [] lower up = refl
ascend_above name (r ∷ list) lower up =
    let h = and_true (is_below name r.name) (list_all (λ q. is_below name q.name) list) lower in
    let a = parts r list up in
    both_true _ _ h.0 (ascend_above r.name list a.0 a.1)

pub ascend_named : (list : List Reference) → names_ascend list ≡ true → ascends name_cmp None (all_named list) ≡ true
ascend_named [] up = refl
ascend_named (r ∷ list) up = let a = parts r list up in both_true _ _ refl (ascend_above r.name list a.0 a.1)

-- what is put so is the list, each under its name
pub all_put_is : (list : List Reference) (named : List (List ℕ × Reference)) → names_ascend list ≡ true → named ≡ after_changes name_cmp (all_named list) [] → AreNamed named × (held named ≡ list)
all_put_is list named up is =
    let whole : named ≡ under_names list = is ∙ put_after [] list up (none_below list) in
    (subst AreNamed (sym whole) (named_under list), ap held whole ∙ held_under list)
