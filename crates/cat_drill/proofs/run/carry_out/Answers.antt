use Rattle.cat_desk.specs.Pass.{mark_of, number_of}
use Rattle.cat_work.specs.Passes.{book_of}
use Rattle.cat_drill.proofs.Called.{refused_made, told_made}
use Rattle.cat_drill.proofs.run.carry_out.Goals as goal

pub returns-in-Ok-clause-made : goal.returns-in-Ok-clause-made
returns-in-Ok-clause-made g c =
    let answers = c.in-Ok.ensures.answers in (
      answers.0,
      answers.1,
      told_made (number_of c.args.pass.now) c.args.command.now answers.0 (book_of c.args.desk.now c.args.pass.now) (book_of c.args.desk.now c.commit.new.pass) (mark_of c.args.pass.now).fault (mark_of c.commit.new.pass).fault c.in-Ok.field-0
          c.requires.number (answers.3 c.requires.alone),
    )

pub returns-clause-made : goal.returns-clause-made
returns-clause-made g c =
    let answers = c.in-Err.ensures.answers in (
      answers.0,
      answers.1,
      refused_made (number_of c.args.pass.now) c.args.command.now answers.0 (book_of c.args.desk.now c.args.pass.now) (book_of c.args.desk.now c.commit.new.pass) (mark_of c.args.pass.now).fault (mark_of c.commit.new.pass).fault c.in-Err.refused
          c.requires.number c.in_default.not-NoMemory c.in_default.not-Fault c.in_default.not-Down (answers.3 c.requires.alone),
    )
