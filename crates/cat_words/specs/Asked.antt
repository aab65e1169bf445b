-- What the words of a command line ask for.
use Rattle.std.specs.Prelude.{ℕ, ◌≤◌, List, [], ◌∷◌, map, Bool, true, false, Option, Some, None, option_map, option_and_then, unwrap_or, if◌then◌else◌, codes, bytes_eq}
use Rattle.clap.specs.Words.{Kinds, Row, all_of, fault_of, first_of, subcommand_of}
use Rattle.cat_words.specs.declared.asked.Asked.{Asked}
use Rattle.cat_words.specs.declared.asked.Asked.TheVariants as asks
use Rattle.cat_words.specs.Line.{line}
use Rattle.cat_words.specs.Numbers.{number_between, number_of}

-- a command: a script, a check or a migration with its journal, a collection with its journal, the default cutoff and any number of patterns with their cutoffs, a drill with its seed and how many commits it makes, or serving with its journal, its address, how many workers serve, how often each tries, and how many connections are served, where 0 is no end
pub data Task : Type 0 where
  script : List ℕ → Task
  check : List ℕ → Task
  migrate : List ℕ → Task
  gc : List ℕ → List ℕ → List (List ℕ) → Task
  drill : ℕ → ℕ → Task
  serve : List ℕ → List ℕ → ℕ → ℕ → ℕ → Task

-- the command that was read
abbrev pub task : Asked → Task
task (asks.Script journal) = script journal.now
task (asks.Check journal) = check journal.now
task (asks.Migrate journal) = migrate journal.now
task (asks.Gc journal default rules) = gc journal.now default.now (map (λ rule. rule.now) rules.items)
task (asks.Drill seed commits) = drill seed commits
task (asks.Serve journal address workers attempts connections) = serve journal.now address.now workers attempts connections

-- how many commits a command makes by itself
abbrev pub commits_of : Asked → ℕ
commits_of (asks.Script journal) = 0
commits_of (asks.Check journal) = 0
commits_of (asks.Migrate journal) = 0
commits_of (asks.Gc journal default rules) = 0
commits_of (asks.Drill seed commits) = commits
commits_of (asks.Serve journal address workers attempts connections) = 0

-- where a command listens
abbrev pub address_in : Task → Option (List ℕ)
address_in (script journal) = None
address_in (check journal) = None
address_in (migrate journal) = None
address_in (gc journal default rules) = None
address_in (drill seed commits) = None
address_in (serve journal address workers attempts connections) = Some address

-- a number from 1 to 64
abbrev pub IsFew : ℕ → Type 0
IsFew number = (1 ≤ number) × (number ≤ 64)

-- workers and attempts are so many
abbrev pub IsSet : Asked → Type 0
IsSet (asks.Script journal) = Unit {0}
IsSet (asks.Check journal) = Unit {0}
IsSet (asks.Migrate journal) = Unit {0}
IsSet (asks.Gc journal default rules) = Unit {0}
IsSet (asks.Drill seed commits) = Unit {0}
IsSet (asks.Serve journal address workers attempts connections) = IsFew workers × IsFew attempts

-- the text of an argument
abbrev pub text : List ℕ → List Row → Option (List ℕ)
text id rows = first_of id rows

-- the texts of an argument that any number of words may follow
abbrev pub texts : List ℕ → List Row → List (List ℕ)
texts id rows = unwrap_or (all_of id rows) []

-- a collection by its words, which are texts alone: whether they are a policy is judged by the program
abbrev pub gc_of : List Row → Option Task
gc_of rows =
    option_and_then (λ journal. option_map (λ default. gc journal default (texts (codes "rules") rows)) (text (codes "default") rows)) (text (codes "journal") rows)

-- a drill by its options; none where a number has no reading
abbrev pub drill_of : List Row → Option Task
drill_of rows =
    option_and_then (λ seed. option_map (λ commits. drill seed commits) (option_and_then (number_of 1000000) (text (codes "commits") rows)))
    (option_and_then (number_of 18446744073709551615) (text (codes "seed") rows))

-- the number of an option of so many workers or attempts
abbrev pub few_of : List ℕ → List Row → Option ℕ
few_of id rows = option_and_then (number_between 1 64) (text id rows)

-- the number of connections
abbrev pub connections_of : List Row → Option ℕ
connections_of rows = option_and_then (number_of 18446744073709551615) (text (codes "connections") rows)

-- serving by its words and options; none where a number has no reading
abbrev pub serve_of : List Row → Option Task
serve_of rows =
    option_and_then (λ journal. option_and_then (λ address. option_and_then (λ workers. option_and_then (λ attempts.
    option_map (λ connections. serve journal address workers attempts connections) (connections_of rows))
    (few_of (codes "attempts") rows)) (few_of (codes "workers") rows)) (text (codes "address") rows)) (text (codes "journal") rows)

-- the command of a subcommand and its arguments
abbrev pub task_of : Option (List ℕ × List Row) → Option Task
task_of None = None
task_of (Some p) =
    if bytes_eq p.0 (codes "script") then option_map script (text (codes "journal") p.1)
    else if bytes_eq p.0 (codes "check") then option_map check (text (codes "journal") p.1)
    else if bytes_eq p.0 (codes "migrate") then option_map migrate (text (codes "journal") p.1)
    else if bytes_eq p.0 (codes "gc") then gc_of p.1
    else if bytes_eq p.0 (codes "drill") then drill_of p.1
    else if bytes_eq p.0 (codes "serve") then serve_of p.1
    else None

-- no kind of error comes
abbrev pub is_free : Kinds → Bool
is_free [] = true
is_free (kind ∷ kinds) = false

-- the command that the words ask for; none where they aren't the command line's, or a number has no reading
unfoldable pub asked : List (List ℕ) → Option Task
asked words = if is_free (fault_of line words) then task_of (subcommand_of line words) else None
