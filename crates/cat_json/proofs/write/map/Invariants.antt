use Rattle.std.proofs.Common.{◌≡◌, drop}
use Rattle.serde_json.specs.Data.{no_members}
use Rattle.serde_json.specs.View.{members_view}
use Rattle.cat_json.specs.Writing.{put_all}
use Rattle.cat_json.proofs.write.map.Given as goal

abbrev pub invariant-loop-name : goal.invariant-loop-name
invariant-loop-name g l =
    put_all g.F.WriteForm.writes (members_view l.members.entries) (drop l.name-index l.pairs) ≡ put_all g.F.WriteForm.writes no_members l.pairs
