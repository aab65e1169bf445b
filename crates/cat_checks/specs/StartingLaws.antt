-- The states that a log may start from: the first one, and with each one those that are the same.
use Rattle.std.proofs.Common.{◌≡◌, [], length, max, true, ◌&&◌, nat_le, is_some, refl, sym}
use Rattle.std.specs.List.{list_all}
use Rattle.std.specs.Cmp.Lexicographic.{bytes_decides}
use Rattle.std.proofs.Math.Dec.{leb-zero}
use Rattle.std.proofs.Math.Nat.{le-max_left}
use Rattle.std.proofs.lemmas.Bool.{le-leb}
use Rattle.cat_names.specs.Fields.{Key}
use Rattle.cat_model.specs.declared.entry.Entry.{Entry}
use Rattle.cat_model.specs.declared.limits.Limits.{Limits}
use Rattle.cat_model.specs.declared.reference.Reference.{Reference}
use Rattle.cat_model.specs.Chain.{entries}
use Rattle.cat_model.specs.Maps.{Map}
use Rattle.cat_model.specs.Namespaces.{is_well_formed}
use Rattle.cat_model.specs.Resuming.{IsSameState}
use Rattle.cat_model.specs.State.{Digest, State, first_state, no_ancestor}
use Rattle.cat_frames.specs.Standing.{are_above, has_main, heads_known, is_whole, is_within, knows, maps_pass, may_start}

-- ---- the first state

known_at_first : (digest : Digest) → knows digest [] (no_ancestor digest) ≡ true
known_at_first digest = (bytes_decides (no_ancestor digest).bytes (no_ancestor digest).bytes).1 refl

whole_at_first : (digest : Digest) (limits : Limits) → is_whole digest (first_state digest limits) ≡ true
unfolding is_whole entries
whole_at_first digest limits = λ i. true && true && true && (known_at_first digest i && true) && true

within_at_first : (digest : Digest) (limits : Limits) → is_within (first_state digest limits) ≡ true
unfolding is_within
within_at_first digest limits = λ i. le-leb 1 (max 1 limits.references) (le-max_left 1 limits.references) i && leb-zero limits.log i && leb-zero limits.commits i && true && leb-zero limits.contents i

-- a log may start from the first state, whatever the limits are
pub first_may : (digest : Digest) (limits : Limits) → may_start digest (first_state digest limits) ≡ true
first_may digest limits = λ i. whole_at_first digest limits i && within_at_first digest limits i

-- ---- states that are the same

whole_alike : (digest : Digest) (a b : State) → IsSameState a b → is_whole digest b ≡ is_whole digest a
unfolding is_whole
whole_alike digest a b same = λ i.
    are_above digest (same.commits i)
    && maps_pass is_well_formed (same.commits i)
    && has_main (same.references i)
    && heads_known digest (same.commits i) (same.references i)
    && list_all (λ (r : Reference). list_all (λ (x : Key × Entry). is_some (same.contents x.1.hash i)) (entries (same.commits i) r.head)) (same.references i)

within_alike : (a b : State) → IsSameState a b → is_within b ≡ is_within a
unfolding is_within
within_alike a b same = λ i.
    nat_le (length (same.references i)) (max 1 (same.limits i).references)
    && nat_le (same.place i) (same.limits i).log
    && nat_le (length (same.commits i)) (same.limits i).commits
    && maps_pass (λ (map : Map). nat_le (length map) (same.limits i).keys) (same.commits i)
    && nat_le (same.count i) (same.limits i).contents

-- a log may start from a state exactly where it may from the same one with its contents in another order
pub start_alike : (digest : Digest) (a b : State) → IsSameState a b → may_start digest a ≡ may_start digest b
start_alike digest a b same = sym (λ i. whole_alike digest a b same i && within_alike a b same i)
