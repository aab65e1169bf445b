use Rattle.std.proofs.Common.{rules}
use Rattle.cat_desk.proofs.Keeps.{takes_none}
use Rattle.cat_desk.proofs.Opens.{opens}
use Rattle.cat_desk.proofs.desk.Desk.new.Goals as goal

pub vacant-made-requires : goal.vacant-made-requires
vacant-made-requires g c = opens _ _ _ _ _ _ _ _ c.words_of.ensures c.requires.legal c.requires.closed c.count-count.ensures c.count-count.type_inv

pub load-requires : goal.load-requires
load-requires g c = (search rules, search rules, takes_none _ _ _ _ _ _ _ _ _ (search rules) (search rules))
