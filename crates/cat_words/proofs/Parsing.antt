-- What a parse says of the command line, which is simple.
use Rattle.std.proofs.Common.{◌≡◌, ℕ, List, [], ◌∷◌, inl, inr, IfErr, IfOk, Result, Ok, Err, true, refl, subst}
use Rattle.clap.specs.Faults.{is_simple_and_free}
use Rattle.clap.specs.Kinds.{FailsBy, HasKind, Kinds}
use Rattle.clap.specs.Words.{App, HasMatchesOf, fault_of, is_simple, kind_of, subcommand_of, subcommand_rows_of}
use Rattle.clap.specs.declared.error.Error.{Error}
use Rattle.clap.specs.declared.error.kind.ErrorKind.TheVariants as fault
use Rattle.clap.specs.declared.parser.matches.ArgMatches.{ArgMatches}
use Rattle.cat_words.specs.Line.{line}

simple : is_simple line ≡ true
simple = refl

free : is_simple_and_free line ≡ true
free = refl

memory_alone : (kinds : Kinds) (e : Error) → HasKind kinds e → kinds ≡ [] → kind_of e ≡ fault.OutOfMemory
memory_alone [] e (inl is) none = is
memory_alone [] e (inr among) none = absurd among
memory_alone (k ∷ ks) e has none = cc

module _ (app : App) (is : app ≡ line) (words : List (List ℕ)) where
  pub rows : (r : Result ArgMatches Error) → IfOk r (HasMatchesOf app words) → IfOk r (λ m. subcommand_rows_of m ≡ subcommand_of line words)
  rows (Ok m) has = (subst (λ (a : App). HasMatchesOf a words m) is has simple).1
  rows (Err e) has = tt

  pub taken : (r : Result ArgMatches Error) → (is_simple_and_free app ≡ true → FailsBy (fault_of app words) r) → IfOk r (λ m. fault_of line words ≡ [])
  taken (Ok m) fails = subst (λ (a : App). is_simple_and_free a ≡ true → FailsBy {T = ArgMatches} (fault_of a words) (Ok m)) is fails free
  taken (Err e) fails = tt

  pub fails : (r : Result ArgMatches Error) → (is_simple_and_free app ≡ true → FailsBy (fault_of app words) r) → IfErr r (λ e. fault_of line words ≡ [] → kind_of e ≡ fault.OutOfMemory)
  fails (Ok m) how = tt
  fails (Err e) how = memory_alone (fault_of line words) e (subst (λ (a : App). is_simple_and_free a ≡ true → FailsBy {T = ArgMatches} (fault_of a words) (Err e)) is how free)
