-- Lines that a run tells.
use Rattle.std.specs.Prelude.{ℕ, List, ◌++◌, length, codes}
use Rattle.std.specs.Fmt.{decimal}
use Rattle.hex.specs.Hex.{encode_lower}
use Rattle.cat_model.specs.Book.{Book}
use Rattle.cat_state.specs.Counting.{main_head}
use Rattle.cat_cli.specs.declared.unopened.Unopened.{Unopened}
use Rattle.cat_cli.specs.declared.unopened.Unopened.TheVariants as whys

abbrev pub usage_line : List ℕ
usage_line = codes "nessie: usage\n"

abbrev pub no_memory_line : List ℕ
no_memory_line = codes "nessie: no memory\n"

abbrev pub disk_fault_line : List ℕ
disk_fault_line = codes "nessie: disk fault\n"

abbrev pub listener_fault_line : List ℕ
listener_fault_line = codes "nessie: listener fault\n"

-- why a journal isn't opened
unfoldable pub unopened_line : Unopened → List ℕ
unopened_line (whys.Version number) = codes "nessie: version " ++ (decimal number ++ codes "\n")
unopened_line (whys.Damaged offset) = codes "nessie: damaged at " ++ (decimal offset ++ codes "\n")
unopened_line (whys.Illegal place) = codes "nessie: illegal entry " ++ (decimal place ++ codes "\n")
unopened_line whys.Fault = disk_fault_line
unopened_line whys.NoMemory = no_memory_line

-- the line of these numbers and the digits of a hash
unfoldable pub counts_line : ℕ → ℕ → ℕ → ℕ → List ℕ → List ℕ
counts_line entries references commits contents head =
    codes "entries " ++ (decimal entries ++ (codes " references " ++ (decimal references ++ (codes " commits " ++ (decimal commits ++ (codes " contents " ++ (decimal contents ++ (codes " head " ++ (head ++ codes "\n")))))))))

-- that a journal is of format 2, and how many entries its log has
unfoldable pub migrated_line : ℕ → List ℕ
migrated_line entries = codes "format 2 entries " ++ (decimal entries ++ codes "\n")

-- what a collection did: how many contents it kept and removed, and the place of its entry
unfoldable pub swept_line : ℕ → ℕ → ℕ → List ℕ
swept_line kept removed place = codes "kept " ++ (decimal kept ++ (codes " removed " ++ (decimal removed ++ (codes " place " ++ (decimal place ++ codes "\n")))))

-- why there was none: the catalogue may have so much and no more
unfoldable pub limit_line : ℕ → List ℕ
limit_line number = codes "nessie: limit " ++ (decimal number ++ codes "\n")

-- how much a catalogue holds: the entries of its log, the references, the commits, the contents, and the head of `main`
abbrev pub check_line : Book → List ℕ
check_line book =
    counts_line book.state.place (length book.state.references) (length book.state.commits) (length book.state.present)
    (encode_lower (main_head book.state.references).bytes)
