-- What a call returned against what a definition says.
use Rattle.std.specs.Prelude.{◌≡◌, Result, Ok, Err}
use Rattle.cat_model.specs.declared.refusal.Refusal.{Refusal}
use Rattle.cat_state.specs.declared.failure.Failure.{Failure}
use Rattle.cat_state.specs.declared.failure.Failure.TheVariants.{Refused, NoMemory}

-- the refusal is the definition's, unless memory ran out
abbrev pub Fails : {A : Type 0} → Failure → Result A Refusal → Type 0
Fails NoMemory answer = Unit {0}
Fails (Refused why) answer = answer ≡ Err why

-- what was returned stands for the definition's answer, unless memory ran out
abbrev pub GivesAs : {A B : Type 0} → (A → B) → Result A Failure → Result B Refusal → Type 0
GivesAs meaning (Ok x) answer = answer ≡ Ok (meaning x)
GivesAs meaning (Err failure) answer = Fails failure answer

-- what was returned is the definition's answer, unless memory ran out
abbrev pub Gives : {A : Type 0} → Result A Failure → Result A Refusal → Type 0
Gives (Ok x) answer = answer ≡ Ok x
Gives (Err failure) answer = Fails failure answer

-- what was returned stands for the definition's answer
abbrev pub SaysAs : {A B : Type 0} → (A → B) → Result A Refusal → Result B Refusal → Type 0
SaysAs meaning (Ok x) answer = answer ≡ Ok (meaning x)
SaysAs meaning (Err why) answer = answer ≡ Err why
