use Rattle.std.proofs.Common.{◌≡◌, ◌∙◌, List, true, sym, ap, subst}
use Rattle.std.specs.List.{list_any}
use Rattle.cat_names.specs.Fields.{Key}
use Rattle.cat_model.specs.declared.reference.Reference.{Reference}
use Rattle.cat_model.specs.Moves.{needs_contents}
use Rattle.cat_model.specs.Records.{expired_keys, needs_no_expired}
use Rattle.cat_model.specs.Same.{same_hash}
use Rattle.cat_state.specs.Giving.{Gives}
use Rattle.cat_state.specs.GivingLaws.{on_accepted}
use Rattle.cat_state.specs.HeldLaws.{contents_pass, passed_there}
use Rattle.cat_state.specs.Keeping.{IsHeldAt, is_held_at}
use Rattle.cat_state.proofs.Heads.{head_passes}
use Rattle.cat_state.proofs.catalogue.Catalogue.needs_contents.Goals as goal

pub returns-then-is_head-clause-exact : goal.returns-then-is_head-clause-exact
returns-then-is_head-clause-exact c =
    let state = c.args.self.now in
    let points : list_any (λ r. same_hash r.head c.args.hash.now) state.references ≡ true =
    ap (list_any (λ (r : Reference). same_hash r.head c.args.hash.now)) (sym c.references.ensures.list) ∙ sym c.is_head.ensures ∙ c.if-is_head.true in
    contents_pass state c.args.hash.now (head_passes (is_held_at state.commits state.present) state.references c.args.hash.now c.references.ensures.held points)

pub returns-then-is_head-clause-held : goal.returns-then-is_head-clause-held
returns-then-is_head-clause-held c =
    let state = c.args.self.now in
    let points : list_any (λ r. same_hash r.head c.args.hash.now) state.references ≡ true =
    ap (list_any (λ (r : Reference). same_hash r.head c.args.hash.now)) (sym c.references.ensures.list) ∙ sym c.is_head.ensures ∙ c.if-is_head.true in
    head_passes (is_held_at state.commits state.present) state.references c.args.hash.now c.references.ensures.held points

pub returns-clause-held : goal.returns-clause-held
unfolding needs_contents
returns-clause-held c =
    let state = c.args.self.now in
    let keys = c.in_ok-keys.ensures ∙ ap (expired_keys state) (c.walk.ensures ∙ c.in_ok-map.ensures) in
    on_accepted c.needs_none.result (needs_contents state c.args.hash.now) (IsHeldAt state c.args.hash.now)
    (subst (λ (l : List Key). Gives c.needs_none.result (needs_no_expired l state.place)) keys (rw (← c.place.ensures) c.needs_none.ensures)) (λ _. passed_there state c.args.hash.now)
