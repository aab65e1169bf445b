use Rattle.std.proofs.Common.{arith, take, ◌++◌}
use Rattle.std.proofs.lemmas.Grind.{common_steps}
use Rattle.cat_http.proofs.GatherLemmas.{last_written}
use Rattle.cat_http.proofs.PutLemmas.{wrote_same}
use Rattle.cat_http.proofs.gather.Gathered.finish.Goals as goal

pub returns : goal.returns
returns g c start from all before =
    let waiting = take c.args.self.now.len c.args.self.now.bytes in
    last_written start _ _ from _ _ c.args.self.now.outcome _ waiting all before
    (λ written was. wrote_same _ _ _ _ _ _ (written ++ waiting) (grind (arith, common_steps)) (c.put_after.ensures start from written was))
