use Rattle.std.proofs.Common.{[], ◌∷◌, refl, inl, inr}
use Rattle.cat_serve.proofs.Checkpointing.{from_checkpoint}
use Rattle.cat_serve.proofs.Standing.{from_change, from_collection, from_reading, from_refusal, keeps_self}
use Rattle.cat_serve.proofs.Visiting.{called_for}
use Rattle.cat_serve.proofs.answer.said_to.Goals as goal

pub returns-in-Ok-Read-clause-says : goal.returns-in-Ok-Read-clause-says
returns-in-Ok-Read-clause-says g c =
    let wants = rw c.in-Ok-Read.field-0-is at c.in-Ok-Read.ensures.wanted in (
      [],
      refl,
      λ k s at begins.
          from_reading c.args.desk.now k s c.args.request.now c.args.pass.now _ c.in-Ok-Read.ask c.read.result at wants c.read.ensures.kept c.read.ensures.ready c.read.ensures.reads c.read.ensures.alone c.read.ensures.still,
    )

pub returns-in-Ok-Change-clause-says : goal.returns-in-Ok-Change-clause-says
returns-in-Ok-Change-clause-says g c =
    let wants = rw c.in-Ok-Change.field-0-is at c.in-Ok-Change.ensures.wanted in
    let answers = c.call.ensures.answers in (
      answers.0 ∷ [],
      (_, answers.1, refl),
      λ k s at begins.
          from_change c.args.desk.now k s c.args.request.now c.in-Ok-Change.command c.args.pass.now _ answers.0 c.call.result at wants c.call.ensures.kept c.call.ensures.ready begins.0 answers.3 answers.4 answers.6,
    )

pub returns-in-Ok-Collect-clause-says : goal.returns-in-Ok-Collect-clause-says
returns-in-Ok-Collect-clause-says g c =
    let wants = rw c.in-Ok-Collect.field-0-is at c.in-Ok-Collect.ensures.wanted in
    let collects = c.collect.ensures.collects in (
      collects.0 ∷ [],
      (_, collects.1, refl),
      λ k s at begins.
          from_collection c.args.desk.now k s c.args.request.now c.in-Ok-Collect.policy c.args.pass.now _ collects.0 c.collect.result at wants c.collect.ensures.kept c.collect.ensures.ready begins.0 collects.3 collects.4 collects.6,
    )

pub returns-in-Ok-Checkpoint-clause-says : goal.returns-in-Ok-Checkpoint-clause-says
returns-in-Ok-Checkpoint-clause-says g c =
    let wants = rw c.in-Ok-Checkpoint.field-0-is at c.in-Ok-Checkpoint.ensures.wanted in (
      [],
      refl,
      λ k s at begins. from_checkpoint c.args.desk.now s c.args.pass.now _ c.checkpoint.result at c.checkpoint.ensures.checks k c.args.request.now wants c.checkpoint.ensures.kept c.checkpoint.ensures.ready c.checkpoint.ensures.grows,
    )

pub returns-in-Err-clause-says : goal.returns-in-Err-clause-says
returns-in-Err-clause-says g c =
    ([], refl, λ k s at begins. from_refusal c.args.desk.now k s c.args.request.now c.args.pass.now c.in-Err.refused at c.in-Err.ensures.wanted)

pub returns-in-Ok-Read-clause-comes : goal.returns-in-Ok-Read-clause-comes
returns-in-Ok-Read-clause-comes g c =
    let wants = rw c.in-Ok-Read.field-0-is at c.in-Ok-Read.ensures.wanted in
    let known = c.read.ensures.known in (
      [],
      refl,
      inl (called_for c.args.desk.now c.args.attempts _ _ [] c.args.pass.now _ c.read.result wants (record {
        none = refl;
        reads = c.read.ensures.reads;
        follows = c.read.ensures.follows;
        knew = known.0;
        knows = known.1;
        turn = c.read.ensures.turn;
        linked = c.read.ensures.linked;
        still = c.read.ensures.still;
        grows = c.read.ensures.grows;
      })),
    )

pub returns-in-Ok-Change-clause-comes : goal.returns-in-Ok-Change-clause-comes
returns-in-Ok-Change-clause-comes g c =
    let wants = rw c.in-Ok-Change.field-0-is at c.in-Ok-Change.ensures.wanted in
    let answers = c.call.ensures.answers in (
      answers.0 ∷ [],
      (_, answers.1, refl),
      inl (called_for c.args.desk.now c.args.attempts _ _ (answers.0 ∷ []) c.args.pass.now _ c.call.result wants (record {
        moment = answers.0;
        one = refl;
        answers = answers.2;
        knows = c.call.ensures.known;
        undrafted = answers.5;
        unswept = answers.6;
        grows = c.call.ensures.grows;
      })),
    )

pub returns-in-Ok-Collect-clause-comes : goal.returns-in-Ok-Collect-clause-comes
returns-in-Ok-Collect-clause-comes g c =
    let wants = rw c.in-Ok-Collect.field-0-is at c.in-Ok-Collect.ensures.wanted in
    let collects = c.collect.ensures.collects in (
      collects.0 ∷ [],
      (_, collects.1, refl),
      inl (called_for c.args.desk.now c.args.attempts _ _ (collects.0 ∷ []) c.args.pass.now _ c.collect.result wants (record {
        moment = collects.0;
        one = refl;
        answers = collects.2;
        knows = c.collect.ensures.known;
        undrafted = collects.5;
        unbased = collects.6;
        grows = c.collect.ensures.grows;
      })),
    )

pub returns-in-Ok-Checkpoint-clause-comes : goal.returns-in-Ok-Checkpoint-clause-comes
returns-in-Ok-Checkpoint-clause-comes g c =
    let wants = rw c.in-Ok-Checkpoint.field-0-is at c.in-Ok-Checkpoint.ensures.wanted in (
      [],
      refl,
      inl (called_for c.args.desk.now c.args.attempts _ _ [] c.args.pass.now _ c.checkpoint.result wants (record {
        none = refl;
        checks = c.checkpoint.ensures.checks;
        knows = c.checkpoint.ensures.known;
        undrafted = c.checkpoint.ensures.undrafted;
        unswept = c.checkpoint.ensures.unswept;
        grows = c.checkpoint.ensures.grows;
      })),
    )

pub returns-in-Err-clause-comes : goal.returns-in-Err-clause-comes
returns-in-Err-clause-comes g c = ([], refl, inr (record { none = refl; stays = refl; refused = c.in-Err.refused; told_is = refl; by_bytes = c.in-Err.ensures.wanted }))

pub returns-in-Err-clause-kept : goal.returns-in-Err-clause-kept
returns-in-Err-clause-kept g c = keeps_self c.args.desk.now c.args.pass.now c.requires.ready.free
