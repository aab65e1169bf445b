-- Open drafts and the open sweep: what is kept beside the log until it is closed.
use Rattle.std.specs.Prelude.{◌≡◌, ◌≢◌, ℕ, List, [], ◌∷◌, cond, nat_eq, ◌⊎◌, Option, Some, None}
use Rattle.cat_names.specs.declared.hash.Hash.{Hash}
use Rattle.cat_model.specs.declared.cutoff.Resolved.{Resolved}

-- commits and contents that are to stay
pub record Names : Type 0 where
  pub commits : List Hash
  pub contents : List Hash

abbrev pub no_names : Names
no_names = record { commits = []; contents = [] }

-- a draft's or a sweep's running number, its caller, and the place of its opening
pub record Opening : Type 0 where
  pub number : ℕ
  pub caller : ℕ
  pub place : ℕ

-- a draft that is open, with what it names
pub record OpenDraft : Type 0 where
  pub opening : Opening
  pub names : Names

-- the sweep that is open, with what it keeps of each chain and the names of each draft that was open since. Its caller was given the roots that the log's first `drained` entries made, and the names `given`
pub record OpenSweep : Type 0 where
  pub opening : Opening
  pub policy : Resolved
  pub names : Names
  pub drained : ℕ
  pub given : Names

-- what is open beside the log
pub record Open : Type 0 where
  pub drafts : List OpenDraft
  pub sweep : Option OpenSweep

abbrev pub nothing_open : Open
nothing_open = record { drafts = []; sweep = None }

-- a caller's drafts
abbrev pub drafts_of : ℕ → List OpenDraft → List OpenDraft
drafts_of caller [] = []
drafts_of caller (x ∷ xs) = cond (nat_eq x.opening.caller caller) (x ∷ drafts_of caller xs) (drafts_of caller xs)

-- the sweep, where it is the caller's
abbrev pub sweep_of : ℕ → Option OpenSweep → Option OpenSweep
sweep_of caller None = None
sweep_of caller (Some s) = cond (nat_eq s.opening.caller caller) (Some s) None

-- what is open of a caller
abbrev pub open_of : ℕ → Open → Open
open_of caller open_now = record { drafts = drafts_of caller open_now.drafts; sweep = sweep_of caller open_now.sweep }

abbrev pub IsNamed : Hash → List Hash → Type 0
IsNamed hash [] = ⊥
IsNamed hash (x ∷ xs) = (x ≡ hash) ⊎ IsNamed hash xs

-- a sweep that others left alone: what its caller was given is as before, and no name was taken away
pub record Awaits (a b : OpenSweep) : Type 0 where
  pub same : b ≡ record a { names = b.names }
  pub commits : (hash : Hash) → IsNamed hash a.names.commits → IsNamed hash b.names.commits
  pub contents : (hash : Hash) → IsNamed hash a.names.contents → IsNamed hash b.names.contents

abbrev pub SweepAwaits : Option OpenSweep → Option OpenSweep → Type 0
SweepAwaits None None = Unit {0}
SweepAwaits (Some a) (Some b) = Awaits a b
SweepAwaits None (Some b) = ⊥
SweepAwaits (Some a) None = ⊥

-- what is open of a caller stayed so in its absence
pub record StaysOpen (a b : Open) : Type 0 where
  pub drafts : b.drafts ≡ a.drafts
  pub sweep : SweepAwaits a.sweep b.sweep

-- a caller's turn: what is open of others stays so
abbrev pub LeavesOthers : ℕ → Open → Open → Type 0
LeavesOthers caller a b = (other : ℕ) → other ≢ caller → StaysOpen (open_of other a) (open_of other b)
