use Rattle.std.specs.Prelude.{length}
use Rattle.cat_cli.specs.Surviving.{IsEarlier, began_of, had_in, past_of, shape_of}
use Rattle.cat_cli.proofs.checking.check.Given as goal

-- what is watched begins with the disk that was opened
abbrev pub ghosts-line_on-B-Since : goal.ghosts-line_on-B-Since
ghosts-line_on-B-Since g a = record { since = g.O.D.Disk.moment a.disk; had = had_in (g.O.D.Disk.told a.disk); before = λ c. IsEarlier (g.O.D.Disk.may_leave a.disk) (g.O.D.Disk.told a.disk) c }

-- its bytes are those that it has then, and so is its format
abbrev pub ghosts-line_on-T-Stood : goal.ghosts-line_on-T-Stood
ghosts-line_on-T-Stood g a = record {
  since = g.O.D.Disk.moment a.disk;
  count = length (had_in (g.O.D.Disk.told a.disk));
  past = λ t c. past_of (g.O.D.Disk.may_leave a.disk) (g.O.D.Disk.left_since a.disk) (g.O.D.Disk.told a.disk) t c;
  began = λ c. began_of (g.O.D.Disk.told a.disk) c;
  shape = λ n. shape_of (g.O.D.Disk.told a.disk) n;
}
