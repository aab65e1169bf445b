use Rattle.std.proofs.Common.{◌≡◌, Ok, true, subst}
use Rattle.sha2.specs.Sha256.{sha256}
use Rattle.cat_model.specs.Step.{Turn, opening}
use Rattle.cat_model.specs.WellMade.{is_well_made}
use Rattle.cat_decisions.specs.declared.building.Work.{Work}
use Rattle.cat_decisions.specs.declared.call.Call.{Call}
use Rattle.cat_decisions.specs.declared.call.Call.TheVariants as calls
use Rattle.cat_decisions.specs.Builds.{IsGivenBy, IsMadeAt, command_of}
use Rattle.cat_decisions.proofs.Decided.{decides_call}
use Rattle.cat_decisions.proofs.Found.{have_theirs, ops_are_distinct}
use Rattle.cat_decisions.proofs.deciding.decide.Goals as goal

pub settle_commit-requires-clause-distinct : goal.settle_commit-requires-clause-distinct
settle_commit-requires-clause-distinct c = ops_are_distinct _ (subst (λ (x : Call). is_well_made sha256 (command_of x) ≡ true) c.in-Commit.is c.requires.well_made)

pub settle_commit-requires-clause-contents : goal.settle_commit-requires-clause-contents
settle_commit-requires-clause-contents c = have_theirs _ (subst (λ (x : Call). is_well_made sha256 (command_of x) ≡ true) c.in-Commit.is c.requires.well_made)

pub settle_commit-requires-clause-given : goal.settle_commit-requires-clause-given
settle_commit-requires-clause-given c = subst (λ (x : Call). IsGivenBy c.args.number x) c.in-Commit.is c.requires.given

pub settle_commit-requires-clause-judged : goal.settle_commit-requires-clause-judged
settle_commit-requires-clause-judged c = (c.args.built.head, subst (λ (w : Work). IsMadeAt c.args.catalogue.now (calls.Commit c.in-Commit.request c.in-Commit.given) c.args.built.head w) c.in-Judged.is (subst (λ (x : Call). IsMadeAt c.args.catalogue.now x c.args.built.head c.args.built.work) c.in-Commit.is c.requires.built))

pub decide_merge-requires-clause-planned : goal.decide_merge-requires-clause-planned
decide_merge-requires-clause-planned c = (c.args.built.head, subst (λ (w : Work). IsMadeAt c.args.catalogue.now (calls.Merge c.in-Merge.merge) c.args.built.head w) c.in-Planned-work.is (subst (λ (x : Call). IsMadeAt c.args.catalogue.now x c.args.built.head c.args.built.work) c.in-Merge.is c.requires.built))

pub decide_transplant-requires-clause-planned : goal.decide_transplant-requires-clause-planned
decide_transplant-requires-clause-planned c = (c.args.built.head, subst (λ (w : Work). IsMadeAt c.args.catalogue.now (calls.Transplant c.in-Transplant.transplant) c.args.built.head w) c.in-Planned-work-2.is (subst (λ (x : Call). IsMadeAt c.args.catalogue.now x c.args.built.head c.args.built.work) c.in-Transplant.is c.requires.built))

pub settle_commit-requires-clause-opened : goal.settle_commit-requires-clause-opened
settle_commit-requires-clause-opened c = subst (λ (x : Call). opening sha256 c.args.catalogue.now (command_of x) ≡ Ok tt) c.in-Commit.is c.requires.opened

pub decide_merge-requires-clause-opened : goal.decide_merge-requires-clause-opened
decide_merge-requires-clause-opened c = subst (λ (x : Call). opening sha256 c.args.catalogue.now (command_of x) ≡ Ok tt) c.in-Merge.is c.requires.opened

pub decide_transplant-requires-clause-opened : goal.decide_transplant-requires-clause-opened
decide_transplant-requires-clause-opened c = subst (λ (x : Call). opening sha256 c.args.catalogue.now (command_of x) ≡ Ok tt) c.in-Transplant.is c.requires.opened

pub returns-in-Planned-work : goal.returns-in-Planned-work
returns-in-Planned-work c =
    let turn : Turn = record { draft = c.args.number; opened = c.args.opened; moment = c.args.moment } in
    record { decides = decides_call c.args.catalogue.now turn c.args.call (calls.Merge c.in-Merge.merge) c.decide_merge.result c.in-Merge.is (c.decide_merge.ensures.decides c.args.number) }

pub returns-in-Planned-work-2 : goal.returns-in-Planned-work-2
returns-in-Planned-work-2 c =
    let turn : Turn = record { draft = c.args.number; opened = c.args.opened; moment = c.args.moment } in
    record { decides = decides_call c.args.catalogue.now turn c.args.call (calls.Transplant c.in-Transplant.transplant) c.decide_transplant.result c.in-Transplant.is (c.decide_transplant.ensures.decides c.args.number) }
