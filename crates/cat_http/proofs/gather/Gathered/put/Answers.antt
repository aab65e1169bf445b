use Rattle.std.proofs.Common.{arith, rules, take}
use Rattle.std.proofs.lemmas.Grind.{common_steps}
use Rattle.cat_http.proofs.GatherLemmas.{none_follow, none_wait, all_written}
use Rattle.cat_http.proofs.PutLemmas.{wrote_same}
use Rattle.cat_http.proofs.gather.Gathered.put.Goals as goal

pub returns-then-is_err : goal.returns-then-is_err
returns-then-is_err g c start from all before =
    none_follow _ _ _ _ c.args.self.now.outcome _ _ _ (search rules) before

pub returns : goal.returns
returns g c start from all before =
    let waiting = take c.args.self.now.len c.args.self.now.bytes in
    let written = wrote_same _ _ _ _ _ _ waiting (grind (arith, common_steps)) c.write_all-waiting.ensures in
    none_wait _ _ _ _ _ _
    (c.put_after-self.ensures start from all (all_written start _ _ from _ _ c.args.self.now.outcome _ waiting all (search rules) before written))
