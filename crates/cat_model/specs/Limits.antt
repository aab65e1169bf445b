-- The program's limits.
use Rattle.cat_model.specs.declared.limits.Limits.{Limits}

-- the greatest number of each quantity that a catalogue of the program holds
abbrev pub program_limits : Limits
program_limits = record { references = 65535; log = 4294967295; commits = 4294967295; keys = 1000000; contents = 16777216; names = 16777216; drafts = 18446744073709551615 }
