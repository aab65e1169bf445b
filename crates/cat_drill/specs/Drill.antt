-- A drill: the catalogue that a seed and a number of steps make, and the line that is told of it.
use Rattle.std.specs.Prelude.{ℕ, zero, suc, List, ◌++◌, length, codes}
use Rattle.std.specs.Fmt.{decimal}
use Rattle.hex.specs.Hex.{encode_lower}
use Rattle.sha2.specs.Sha256.{sha256}
use Rattle.cat_io.specs.Clocks.{readings}
use Rattle.cat_model.specs.declared.command.Command.{Command}
use Rattle.cat_model.specs.Book.{Book, first_book, after_call, call_on}
use Rattle.cat_model.specs.Chain.{entries}
use Rattle.cat_model.specs.Limits.{program_limits}
use Rattle.cat_model.specs.Maps.{Map, entry_of}
use Rattle.cat_model.specs.State.{State}
use Rattle.cat_state.specs.Counting.{main_head}
use Rattle.cat_drill.specs.Steps.{next_number, drawn, drawn_key, command_of, moment_of}

-- what the keys stand for on `main`
abbrev pub on_main : State → Map
on_main state = entries state.commits (main_head state.references)

-- what step i asks of a book, which draws from x
unfoldable pub asked : ℕ → ℕ → Book → Command
asked i x book = command_of i (drawn x) (entry_of (on_main book.state) (drawn_key (drawn x)))

-- a book after a command of caller 1
unfoldable pub after_command : Command → ℕ → Book → Book
after_command command moment book = after_call book (call_on sha256 1 book command moment)

-- a book after step i, which draws from x
abbrev pub after_step : ℕ → ℕ → Book → Book
after_step i x book = after_command (asked i x book) (moment_of i) book

-- the moments of the steps, the first at 0
abbrev pub moments : ℕ → ℕ
moments = readings 1000000 1000000

-- the number of step i of a seed
abbrev pub number_at : ℕ → ℕ → ℕ
number_at seed zero = seed
number_at seed (suc i) = next_number (number_at seed i)

-- the book after so many steps of a seed
abbrev pub book_at : ℕ → ℕ → Book
book_at seed zero = first_book sha256 program_limits
book_at seed (suc i) = after_step (suc i) (number_at seed (suc i)) (book_at seed i)

-- the line of these numbers and the digits of a hash
unfoldable pub line_of : ℕ → ℕ → ℕ → ℕ → List ℕ → List ℕ
line_of commits keys contents place head =
    codes "commits " ++ (decimal commits ++ (codes " keys " ++ (decimal keys ++ (codes " contents " ++ (decimal contents ++ (codes " place " ++ (decimal place ++ (codes " head " ++ (head ++ codes "\n")))))))))

-- what is told of a catalogue: its commits, the keys of `main`, the contents, the place, and the head of `main`
abbrev pub told_of : State → List ℕ
told_of state = line_of (length state.commits) (length (on_main state)) (length state.present) state.place (encode_lower (main_head state.references).bytes)

-- the line of a drill
unfoldable pub drill_line : ℕ → ℕ → List ℕ
drill_line seed commits = told_of (book_at seed commits).state
