use Rattle.cat_names.proofs.ReadBack.{reads_back, path_is_short}
use Rattle.cat_names.proofs.key.ContentKey.to_path.Goals as goal

pub returns-clause-read_back : goal.returns-clause-read_back
returns-clause-read_back c = reads_back c.args.self.now c.known.ensures (rw (c.as_slice.ensures, c.self.view_is) at c.in_ok-path.ensures.elements)

pub returns-clause-short : goal.returns-clause-short
returns-clause-short c = path_is_short c.args.self.now c.known.ensures
