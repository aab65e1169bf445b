-- A policy that words or JSON give has few patterns, and no number of commits in it is 0; nor is one at a moment.
use Rattle.std.proofs.Common.{◌≡◌, ℕ, zero, suc, ◌==◌, Bool, true, false, ◌&&◌, if◌then◌else◌, List, [], ◌∷◌, length, map, Option, Some, None, IfSome, refl, arith, codes}
use Rattle.std.specs.Prelude.{◌≤◌, is_some, nat_le, nat_lt, option_map, unwrap_or}
use Rattle.std.specs.List.{after_first, before_first, list_all, position}
use Rattle.std.specs.Str.Parse.{digits_value}
use Rattle.std.proofs.lemmas.Bool.{and_from, and_parts, eqb-false, lt-ltb, ltb-false}
use Rattle.serde_json.specs.Data.{Data, Items, no_items, item}
use Rattle.serde_json.specs.Find.{as_array, as_object, as_str, get}
use Rattle.cat_json.specs.Reading.{◌>>=◌, defaulted, if_there, items_as, list_as, optional, present, required}
use Rattle.cat_model.specs.declared.cutoff.Cutoff.{Cutoff}
use Rattle.cat_model.specs.declared.cutoff.Cutoff.TheVariants.{All, Commits, Since}
use Rattle.cat_model.specs.declared.cutoff.Pattern.{Pattern}
use Rattle.cat_model.specs.Cutoffs.{pattern_of}
use Rattle.cat_policy.specs.declared.given.GivenCutoff.{GivenCutoff}
use Rattle.cat_policy.specs.declared.given.GivenCutoff.TheVariants.{Fixed, Back}
use Rattle.cat_policy.specs.declared.policy.Policy.{Policy}
use Rattle.cat_policy.specs.GivenCutoffs.{begins_with_p, counted, cutoff_as, cutoff_at, cutoff_of, is_count, is_none_word}
use Rattle.cat_policy.specs.Policies.{HasCounts, HasFew, ResolvedCounts, Rule, all_of, counts, given_counts, is_equals, pattern_as, policy_as, policy_of, policy_with, resolved, rule_as, rule_of}
use Rattle.cat_policy.specs.Times.{duration_of, instant_of}

-- ---- what a reading goes through

module _ {A : Type 0} (P : A → Type 0) where
  chosen : (b : Bool) (x y : Option A) → IfSome x P → IfSome y P → IfSome (if b then x else y) P
  chosen true x y h k = h
  chosen false x y h k = k

  unless : (b : Bool) (o : Option A) → (b ≡ false → IfSome o P) → IfSome (if b then None else o) P
  unless true o h = tt
  unless false o h = h refl

  through : {B : Type 0} (o : Option B) (f : B → Option A) → ((x : B) → IfSome (f x) P) → IfSome (o >>= f) P
  through None f h = tt
  through (Some x) f h = h x

  after : {B : Type 0} (Q : B → Type 0) (o : Option B) (f : B → Option A) → IfSome o Q → ((x : B) → Q x → IfSome (f x) P) → IfSome (o >>= f) P
  after Q None f q h = tt
  after Q (Some x) f q h = h x q

-- ---- members that may be absent

module _ {A : Type 0} (P : A → Type 0) (read : Data → Option A) (reads : (d : Data) → IfSome (read d) P) where
  pub required_is : (name : List ℕ) (d : Data) → IfSome (required read name d) P
  required_is name d = through P (get name d) read reads

  given : (default : A) (o : Option A) → IfSome o P → IfSome ((o >>= λ x. Some (Some x)) >>= λ x. Some (unwrap_or x default)) P
  given default None h = tt
  given default (Some x) h = h

  there : (default : A) → P default → (o : Option Data) → IfSome (if_there read o >>= λ x. Some (unwrap_or x default)) P
  there default is None = is
  there default is (Some d) = given default (read d) (reads d)

  pub defaulted_is : (default : A) → P default → (name : List ℕ) (d : Data) → IfSome (defaulted read default name d) P
  defaulted_is default is name d = there default is (present (get name d))

-- ---- cutoffs

abbrev Counts : GivenCutoff → Type 0
Counts given = given_counts given ≡ true

some_commits : (number : ℕ) → (number ≡ 0 → ⊥) → nat_lt 0 number ≡ true
some_commits zero h = absurd (h refl)
some_commits (suc n) h = lt-ltb 0 (suc n) (omega arith)

number_counts : (number : ℕ) → IfSome (counted number) Counts
number_counts number =
    unless Counts (number == 0) _ (λ other.
    chosen Counts (nat_le number 4294967295) _ _ (some_commits number (eqb-false number 0 other)) tt)

length_counts : (o : Option ℕ) → IfSome (option_map Back o) Counts
length_counts None = tt
length_counts (Some length) = refl

moment_counts : (o : Option ℕ) → IfSome (option_map (λ moment. Fixed (Since moment)) o) Counts
moment_counts None = tt
moment_counts (Some moment) = refl

cutoff_counts : (text : List ℕ) → IfSome (cutoff_of text) Counts
unfolding cutoff_of
cutoff_counts text =
    chosen Counts (is_none_word text) _ _ refl
    (chosen Counts (is_count text) _ _ (number_counts (digits_value 10 text))
    (chosen Counts (begins_with_p text) _ _ (length_counts (duration_of text)) (moment_counts (instant_of text))))

given_as_counts : (d : Data) → IfSome (cutoff_as d) Counts
given_as_counts d = through Counts (as_str d) cutoff_of cutoff_counts

-- ---- rules

abbrev RuleCounts : Rule → Type 0
RuleCounts rule = given_counts rule.1 ≡ true

abbrev RulesCount : List Rule → Type 0
RulesCount rules = list_all (λ x. given_counts x.1) rules ≡ true

rule_counts : (text : List ℕ) → IfSome (rule_of text) RuleCounts
unfolding rule_of
rule_counts text =
    chosen RuleCounts (is_some (position is_equals text)) _ _
    (through RuleCounts (pattern_of (before_first is_equals text)) _ (λ pattern.
    after RuleCounts Counts (cutoff_of (after_first is_equals text)) _ (cutoff_counts (after_first is_equals text)) (λ cutoff h. h)))
    tt

rule_as_counts : (d : Data) → IfSome (rule_as d) RuleCounts
rule_as_counts d =
    through RuleCounts (required pattern_as (codes "pattern") d) _ (λ pattern.
    after RuleCounts Counts (required cutoff_as (codes "cutoff") d) _ (required_is Counts cutoff_as given_as_counts (codes "cutoff") d) (λ cutoff h. h))

rules_count : (texts : List (List ℕ)) → IfSome (all_of rule_of texts) RulesCount
rules_count [] = refl
rules_count (text ∷ texts) =
    after RulesCount RuleCounts (rule_of text) _ (rule_counts text) (λ rule h.
    after RulesCount RulesCount (all_of rule_of texts) _ (rules_count texts) (λ rules hs. and_from _ _ h hs))

items_count : (ds : Items) → IfSome (items_as rule_as ds) RulesCount
items_count no_items = refl
items_count (item d ds) =
    after RulesCount RuleCounts (rule_as d) _ (rule_as_counts d) (λ rule h.
    after RulesCount RulesCount (items_as rule_as ds) _ (items_count ds) (λ rules hs. and_from _ _ h hs))

list_counts : (d : Data) → IfSome (list_as rule_as d) RulesCount
list_counts d = through RulesCount (as_array d) (items_as rule_as) items_count

-- ---- policies

abbrev pub IsFit : Policy → Type 0
IsFit policy = HasFew policy × HasCounts policy

with_fit : (default : GivenCutoff) (cutoffs : List Rule) → Counts default → RulesCount cutoffs → IfSome (policy_with default cutoffs) IsFit
with_fit default cutoffs h hs = unless IsFit (nat_lt 1000 (length cutoffs)) _ (λ few. (ltb-false 1000 (length cutoffs) few, and_from _ _ h hs))

-- a policy of words
pub words_fit : (default : List ℕ) (rules : List (List ℕ)) → IfSome (policy_of default rules) IsFit
words_fit default rules =
    after IsFit Counts (cutoff_of default) _ (cutoff_counts default) (λ given h.
    after IsFit RulesCount (all_of rule_of rules) _ (rules_count rules) (λ cutoffs hs. with_fit given cutoffs h hs))

-- a policy of JSON
pub json_fit : (d : Data) → IfSome (policy_as d) IsFit
unfolding policy_as
json_fit d =
    through IsFit (as_object d) _ (λ members.
    after IsFit Counts (defaulted cutoff_as (Fixed All) (codes "defaultCutoff") d) _ (defaulted_is Counts cutoff_as given_as_counts (Fixed All) refl (codes "defaultCutoff") d) (λ given h.
    after IsFit RulesCount (defaulted (list_as rule_as) [] (codes "cutoffs") d) _ (defaulted_is RulesCount (list_as rule_as) list_counts [] refl (codes "cutoffs") d) (λ cutoffs hs.
    with_fit given cutoffs h hs)))

-- ---- at a moment

at_counts : (moment : ℕ) (given : GivenCutoff) → given_counts given ≡ true → counts (cutoff_at moment given) ≡ true
at_counts moment (Fixed cutoff) h = h
at_counts moment (Back length) h = refl

all_at_count : (moment : ℕ) (rules : List Rule) → RulesCount rules → list_all (λ (x : Pattern × Cutoff). counts x.1) (map (λ x. (x.0, cutoff_at moment x.1)) rules) ≡ true
all_at_count moment [] h = refl
all_at_count moment (rule ∷ rules) h =
    let parts = and_parts (given_counts rule.1) _ h in
    and_from _ _ (at_counts moment rule.1 parts.0) (all_at_count moment rules parts.1)

-- a policy that has counts has them at each moment
pub resolved_counts : (moment : ℕ) (policy : Policy) → HasCounts policy → ResolvedCounts (resolved moment policy)
resolved_counts moment policy h =
    let parts = and_parts (given_counts policy.default) _ h in
    and_from _ _ (at_counts moment policy.default parts.0) (all_at_count moment policy.cutoffs parts.1)
