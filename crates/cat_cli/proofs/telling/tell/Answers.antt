use Rattle.cat_cli.proofs.Starting.{told_line}
use Rattle.cat_cli.proofs.telling.tell.Goals as goal

pub returns : goal.returns
returns g c w held = told_line _ _ _ _ c.write_all.result c.args.line.now w c.write_all.ensures held
