use Rattle.cat_content.proofs.ReadAgain.{read_again}
use Rattle.cat_content.proofs.write.reads_again.Goals as goal

pub returns : goal.returns
returns c = λ x fits small. read_again x.id x.body fits small
