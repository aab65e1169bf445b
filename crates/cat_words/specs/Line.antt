-- The command line.
use Rattle.std.specs.Prelude.{ℕ, List, [], ◌∷◌, Some, true, codes}
use Rattle.clap.specs.Words.{App, Shape, Rule, new_rule, with_subcommand}
use Rattle.clap.specs.Simple.{new_shape}
use Rattle.clap.specs.declared.builder.action.ArgAction.TheVariants.{Append, Set}

-- a required word
abbrev pub word_rule : List ℕ → Rule
word_rule id = record (new_rule id) { required = true; action = Some Set }

-- any number of words
abbrev pub words_rule : List ℕ → Rule
words_rule id = record (new_rule id) { action = Some Append }

-- a required option of one value
abbrev pub option_rule : List ℕ → Rule
option_rule id = record (new_rule id) { long = Some id; required = true; action = Some Set }

-- an option of one value, which is this where it isn't given
abbrev pub default_rule : List ℕ → List ℕ → Rule
default_rule id value = record (new_rule id) { long = Some id; action = Some Set; defaults = value ∷ [] }

abbrev pub shape : List ℕ → List Rule → Shape
shape name rules = record (new_shape name) { rules = rules }

-- `script JOURNAL`
abbrev pub script_shape : Shape
script_shape = shape (codes "script") (word_rule (codes "journal") ∷ [])

-- `check JOURNAL`
abbrev pub check_shape : Shape
check_shape = shape (codes "check") (word_rule (codes "journal") ∷ [])

-- `migrate JOURNAL`
abbrev pub migrate_shape : Shape
migrate_shape = shape (codes "migrate") (word_rule (codes "journal") ∷ [])

-- `drill --seed S --commits N`
abbrev pub drill_shape : Shape
drill_shape = shape (codes "drill") (option_rule (codes "seed") ∷ option_rule (codes "commits") ∷ [])

-- `gc JOURNAL DEFAULT`
abbrev pub gc_by_default_shape : Shape
gc_by_default_shape = shape (codes "gc") (word_rule (codes "journal") ∷ word_rule (codes "default") ∷ [])

-- `gc JOURNAL DEFAULT [PATTERN=CUTOFF]...`
abbrev pub gc_shape : Shape
gc_shape = shape (codes "gc") (word_rule (codes "journal") ∷ word_rule (codes "default") ∷ words_rule (codes "rules") ∷ [])

-- `serve JOURNAL ADDRESS`
abbrev pub serve_at_shape : Shape
serve_at_shape = shape (codes "serve") (word_rule (codes "journal") ∷ word_rule (codes "address") ∷ [])

-- `serve JOURNAL ADDRESS [--workers 4] [--attempts 8]`
abbrev pub serve_by_shape : Shape
serve_by_shape =
    shape (codes "serve")
    (word_rule (codes "journal") ∷ word_rule (codes "address") ∷ default_rule (codes "workers") (codes "4") ∷ default_rule (codes "attempts") (codes "8") ∷ [])

-- `serve JOURNAL ADDRESS [--workers 4] [--attempts 8] [--connections 0]`
abbrev pub serve_shape : Shape
serve_shape =
    shape (codes "serve")
    (word_rule (codes "journal")
    ∷ word_rule (codes "address")
    ∷ default_rule (codes "workers") (codes "4")
    ∷ default_rule (codes "attempts") (codes "8")
    ∷ default_rule (codes "connections") (codes "0")
    ∷ [])

-- the program's name, which asks for a command
abbrev pub bare_line : App
bare_line = record { top = record (new_shape (codes "nessie")) { subcommand_required = true }; subs = [] }

-- a session over a journal, a look at one, and a newer format for one
abbrev pub session_line : App
session_line = with_subcommand (with_subcommand (with_subcommand bare_line script_shape) check_shape) migrate_shape

-- the commands that serve no connections
abbrev pub offline_line : App
offline_line = with_subcommand (with_subcommand session_line gc_shape) drill_shape

abbrev pub line : App
line = with_subcommand offline_line serve_shape
