use Rattle.std.specs.Option.{option_map}
use Rattle.cat_journal.specs.Held.{first_payloads, held_count}
use Rattle.cat_cli.specs.Unadded.{any_shape, count_told}
use Rattle.cat_cli.proofs.migrating.place_on.Given as goal

-- as the journal's disk stood when it was opened
abbrev pub ghosts-count_on : goal.ghosts-count_on
ghosts-count_on g a = record {
  since = g.D.Disk.moment a.journal.disk;
  count = count_told (option_map (first_payloads (held_count a.journal.points)) (g.D.Disk.told a.journal.disk));
  past = λ t b. g.D.Disk.left_since a.journal.disk t b;
  began = λ b. g.D.Disk.may_leave a.journal.disk b;
  shape = any_shape;
}
