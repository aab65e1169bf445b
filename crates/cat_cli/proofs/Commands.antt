-- The command of the words, by what they ask for.
use Rattle.std.proofs.Common.{◌≡◌, ℕ, List, Option, Some, None, refl, sym, ◌∙◌, ap}
use Rattle.std.specs.Option.{option_and_then, option_map}
use Rattle.cat_policy.specs.declared.policy.Policy.{Policy}
use Rattle.cat_policy.specs.Policies.{policy_of}
use Rattle.cat_words.specs.Asked.{Task, asked, gc}
use Rattle.cat_cli.specs.Runs.{command_of, journal_of, judged}

not_some : {A : Type 0} (t : Task) → ◌≡◌ {A = Option Task} None (Some t) → A
not_some t e = absurd cc

no_journal : {A : Type 0} (journal : List ℕ) → ◌≡◌ {A = Option (List ℕ)} None (Some journal) → A
no_journal journal e = absurd cc

module _ (words : List (List ℕ)) where
  commanded : (t : Task) → asked words ≡ Some t → command_of words ≡ judged t
  commanded t asks = ap (option_and_then judged) asks

  -- they are a command's
  pub is_command : {A : Type 0} (t : Task) → asked words ≡ Some t → judged t ≡ Some t → command_of words ≡ None → A
  is_command t asks is none = not_some t (sym none ∙ commanded t asks ∙ is)

  pub has_journal : {A : Type 0} (t : Task) (journal : List ℕ) → asked words ≡ Some t → option_and_then journal_of (judged t) ≡ Some journal → option_and_then journal_of (command_of words) ≡ None → A
  has_journal t journal asks is none = no_journal journal (sym none ∙ ap (option_and_then journal_of) (commanded t asks) ∙ is)

  -- they aren't the command line's
  pub none_asked : asked words ≡ None → command_of words ≡ None
  none_asked none = ap (option_and_then judged) none

  -- they ask for a collection, which is a command where they are a policy
  module _ (journal default : List ℕ) (rules : List (List ℕ)) (asks : asked words ≡ Some (gc journal default rules)) where
    no_policy : (o : Option Policy) → option_map (λ (_ : Policy). gc journal default rules) o ≡ None → o ≡ None
    no_policy None e = refl
    no_policy (Some policy) e = not_some (gc journal default rules) (sym e)

    no_place : (o : Option Policy) → option_and_then journal_of (option_map (λ (_ : Policy). gc journal default rules) o) ≡ None → o ≡ None
    no_place None e = refl
    no_place (Some policy) e = no_journal journal (sym e)

    unjudged : {A : Type 0} (o : Option Policy) → (option_map (λ (_ : Policy). gc journal default rules) o ≡ Some (gc journal default rules) → A) → (o ≡ None → A) → A
    unjudged None some none = none refl
    unjudged (Some policy) some none = some refl

    pub refused_policy : policy_of default rules ≡ None → command_of words ≡ None
    refused_policy none = commanded (gc journal default rules) asks ∙ ap (option_map (λ (_ : Policy). gc journal default rules)) none

    pub lacks_policy : command_of words ≡ None → policy_of default rules ≡ None
    lacks_policy none = no_policy (policy_of default rules) (sym (commanded (gc journal default rules) asks) ∙ none)

    pub lacks_journal : option_and_then journal_of (command_of words) ≡ None → policy_of default rules ≡ None
    lacks_journal none = no_place (policy_of default rules) (ap (option_and_then journal_of) (sym (commanded (gc journal default rules) asks)) ∙ none)

    -- it isn't one
    pub no_collection : ((journal default : List ℕ) (rules : List (List ℕ)) → command_of words ≡ Some (gc journal default rules) → ⊥) → policy_of default rules ≡ None
    no_collection other =
        unjudged (policy_of default rules) (λ is. absurd (other journal default rules (commanded (gc journal default rules) asks ∙ is))) (λ none. none)
