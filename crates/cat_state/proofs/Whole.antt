-- A catalogue in memory holds all that a state keeps from which a log may start.
use Rattle.std.proofs.Common.{◌≡◌, List, [], ◌∷◌, true, ◌&&◌, IsTrue, refl, subst}
use Rattle.std.proofs.lemmas.Bool.{and_from}
use Rattle.sha2.specs.Sha256.{sha256}
use Rattle.cat_frames.specs.Standing.{are_above, has_main, heads_known, heads_shown, is_whole, is_within, maps_pass, may_start, stands_above}
use Rattle.cat_graph.specs.Linked.{AreLinked}
use Rattle.cat_model.specs.Chain.{Commits}
use Rattle.cat_model.specs.Maps.{Map}
use Rattle.cat_model.specs.Namespaces.{is_well_formed}
use Rattle.cat_model.specs.State.{State}
use Rattle.cat_names.specs.declared.hash.Hash.{Hash}
use Rattle.cat_state.specs.Keeping.{AreKept, IsCatalogue}
use Rattle.cat_state.proofs.Founding.{next_stands}

-- linked commits stand one above the other
linked_above : (commits : Commits) → AreLinked commits → are_above sha256 commits ≡ true
linked_above [] linked = refl
linked_above (x ∷ older) linked = and_from (stands_above sha256 older x.0 x.1) (are_above sha256 older) (next_stands older x.0 x.1 linked.0 linked.1) (linked_above older linked.2)

-- the maps that are kept are well-formed
kept_formed : (maps : List (Hash × Map)) (commits : Commits) → AreKept maps commits → maps_pass is_well_formed commits ≡ true
kept_formed [] [] are = refl
kept_formed [] (x ∷ older) are = absurd are
kept_formed (m ∷ maps) [] are = absurd are
kept_formed (m ∷ maps) (x ∷ older) are =
    and_from _ (maps_pass is_well_formed older) (subst (λ (map : Map). is_well_formed map ≡ true) are.0.changed are.0.well_formed) (kept_formed maps older are.1)

-- the state of a catalogue whose commits are linked, and which has its default branch
catalogue_whole : (s : State) (maps : List (Hash × Map)) → IsCatalogue s.limits s.references s.commits maps s.present s.place → AreLinked s.commits → IsTrue (has_main s.references) → is_whole sha256 s ≡ true
unfolding is_whole
catalogue_whole s maps is linked main =
    let above = are_above sha256 s.commits in
    let well = maps_pass is_well_formed s.commits in
    let there = has_main s.references in
    let known = heads_known sha256 s.commits s.references in
    let shown = heads_shown s.commits s.present s.references in
    and_from (above && well && there && known) shown (and_from (above && well && there) known (and_from (above && well) there (and_from above well (linked_above s.commits linked) (kept_formed maps s.commits is.kept)) main) is.heads) is.held

-- a log may start from it
pub catalogue_starts : (s : State) (maps : List (Hash × Map)) → IsCatalogue s.limits s.references s.commits maps s.present s.place → AreLinked s.commits → IsTrue (has_main s.references) → may_start sha256 s ≡ true
catalogue_starts s maps is linked main = and_from (is_whole sha256 s) (is_within s) (catalogue_whole s maps is linked main) is.within
