use Rattle.std.proofs.Common.{◌≡◌, List, ◌∷◌, None, ◌∙◌, ap, refl, sym, subst}
use Rattle.cat_names.specs.declared.hash.Hash.{Hash}
use Rattle.cat_tables.specs.Tables.{value_of}
use Rattle.cat_keymap.specs.MapsAt.{map_at}
use Rattle.cat_model.specs.Chain.{Commits}
use Rattle.cat_model.specs.Maps.{Map}
use Rattle.cat_state.proofs.Added.{commit_more, map_absent}
use Rattle.cat_state.proofs.Over.{commit_absent_in_front}
use Rattle.cat_state.proofs.catalogue.Catalogue.push_commit.Goals as goal

pub push-requires-clause-absent : goal.push-requires-clause-absent
push-requires-clause-absent c =
    subst (λ (l : Commits). value_of l c.args.made.written.hash ≡ None) (sym c.in_ok-reserve.ensures.commits) (commit_absent_in_front (c.args.more.now).commits.list c.args.self.now.commits c.args.made.written.hash c.requires.absent)

pub push-requires-2-clause-absent : goal.push-requires-2-clause-absent
push-requires-2-clause-absent c =
    subst (λ (l : List (Hash × Map)). map_at l c.args.made.written.hash ≡ None) (sym c.in_ok-reserve.ensures.maps) (map_absent c.args.self.now.commits (c.args.more.now).commits.list (c.args.more.now).maps.list c.args.made.written.hash c.requires.new.beside c.requires.absent)

pub returns-clause-step : goal.returns-clause-step
returns-clause-step c = rw (c.push.ensures.list, c.in_ok-reserve.ensures.commits, c.in_ok-reserve.ensures.contents) refl

pub returns-clause-added : goal.returns-clause-added
returns-clause-added c =
    commit_more c.args.self.now c.args.more.now _ c.args.made.written.hash c.args.made.commit c.args.made.map c.requires.new c.requires.next c.requires.absent c.requires.below
    (c.push.ensures.list ∙ ap (λ (l : Commits). (c.args.made.written.hash, c.args.made.commit) ∷ l) c.in_ok-reserve.ensures.commits)
    (c.push-2.ensures.list ∙ ap (λ (l : List (Hash × Map)). (c.args.made.written.hash, c.args.made.map) ∷ l) c.in_ok-reserve.ensures.maps) c.in_ok-reserve.ensures.contents
