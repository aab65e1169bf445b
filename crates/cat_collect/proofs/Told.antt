-- What a collection answers, from what it has come to.
use Rattle.std.proofs.Common.{◌≡◌, ◌<◌, ◌≤◌, ℕ, List, [], ◌∷◌, length, map, Option, Some, None, Result, Ok, Err, true, IsTrue, refl, sym, ap, subst, ◌∙◌, arith}
use Rattle.std.proofs.lemmas.Bool.{and_from, and_parts}
use Rattle.std.proofs.lemmas.List.{length-map}
use Rattle.std.specs.List.{list_all}
use Rattle.cat_checks.specs.Histories.{IsLegalFrom}
use Rattle.cat_desk.specs.Log.{BeginsWith}
use Rattle.cat_desk.specs.LogLaws.{begins_on}
use Rattle.cat_desk.specs.Pass.{DeskId, Keeps, known, mark_of, number_of, seen, turn_of}
use Rattle.cat_desk.specs.declared.pass.Pass.{Pass}
use Rattle.cat_frames.specs.Sweeps.{cutoff_is_logged, resolved_is_logged}
use Rattle.cat_io.specs.Clocks.{Ticks}
use Rattle.cat_model.specs.declared.cutoff.Cutoff.{Cutoff}
use Rattle.cat_model.specs.declared.cutoff.Cutoff.TheVariants as cutoffs
use Rattle.cat_model.specs.declared.cutoff.Pattern.{Pattern}
use Rattle.cat_model.specs.declared.cutoff.Resolved.{Resolved}
use Rattle.cat_model.specs.declared.log_entry.LogEntry.{LogEntry}
use Rattle.cat_model.specs.declared.refusal.Refused.{Refused}
use Rattle.cat_model.specs.declared.reply.Told.{Told}
use Rattle.cat_model.specs.Mark.{Mark}
use Rattle.cat_model.specs.Turns.{place_after}
use Rattle.cat_policy.specs.declared.given.GivenCutoff.{GivenCutoff}
use Rattle.cat_policy.specs.declared.given.GivenCutoff.TheVariants.{Back, Fixed}
use Rattle.cat_policy.specs.declared.policy.Policy.{Policy}
use Rattle.cat_policy.specs.GivenCutoffs.{cutoff_at}
use Rattle.cat_policy.specs.Policies.{HasCounts, HasFew, Rule, counts, given_counts, resolved}
use Rattle.cat_work.specs.Answers.{Knows, KnowsAt}
use Rattle.cat_work.specs.Passes.{IsReady}
use Rattle.cat_work.specs.ReadyLaws.{ready_on}
use Rattle.cat_collect.specs.Answers.{Answers, CollectsTo}
use Rattle.cat_collect.specs.Turns.{Comes}

-- ---- what was seen

answers_begin : (desk : DeskId) (n : ℕ) (policy : Resolved) (moment k : ℕ) (before after : Mark) (l m : List LogEntry) (r : Result Told Refused) → Answers desk n policy moment k before after l m r → BeginsWith l m
answers_begin desk n policy moment k before after l m (Ok told) a = begins_on l a.earlier m ((a.follows).0, (a.follows).1) (_ ∷ [], a.log)
answers_begin desk n policy moment k before after l m (Err r) a = ((a.0).0, (a.0).1)

-- a collection leaves its pass ready
pub comes_ready : (desk : DeskId) (policy : Resolved) (moment : ℕ) (p q : Pass) (r : Result Told Refused) → IsReady desk p → Keeps desk p q → IsLegalFrom desk.opened (seen q) → Comes desk policy moment p q r → IsReady desk q
comes_ready desk policy moment p q r ready kept legal comes =
    ready_on desk p q ready kept.free comes.none legal (answers_begin desk (number_of p) policy moment (known p) (mark_of p) (mark_of q) (seen p) (seen q) r comes.answers)

-- ---- what is known

known_at : (desk : DeskId) (p q : Pass) (place : Option ℕ) → known p ≤ known q → known q ≡ place_after desk.opened (seen q) → turn_of p < turn_of q → KnowsAt desk p q place
known_at desk p q None le is turn = le
known_at desk p q (Some place) le is turn = (subst (λ (n : ℕ). known p ≤ n) is le, is, turn)

pub knows_all : (desk : DeskId) (p q : Pass) (r : Result Told Refused) → known p ≤ known q → known q ≡ place_after desk.opened (seen q) → turn_of p < turn_of q → Knows desk p q r
knows_all desk p q (Ok told) le is turn = (subst (λ (n : ℕ). known p ≤ n) is le, is, turn)
knows_all desk p q (Err e) le is turn = known_at desk p q e.place le is turn

pub known_on : (a b c size : ℕ) → a ≤ b → b ≤ size → c ≡ size → a ≤ c
known_on a b c size p q e = omega arith

pub turned_on : (a b c : ℕ) → a < b → b < c → a < c
turned_on a b c p q = omega arith

-- ---- at the moment of the call

pub collects : (desk : DeskId) (policy : Policy) (ahead later : Option (ℕ → ℕ)) (p q : Pass) (r : Result Told Refused) (now moment : ℕ) (at : Resolved) → moment ≡ now → Ticks ahead later now → at ≡ resolved moment policy → Comes desk at moment p q r → CollectsTo desk policy ahead later p q r
collects desk policy ahead later p q r now moment at same ticks is comes =
    let there : Comes desk (resolved now policy) now p q r = subst (λ (x : Resolved × ℕ). Comes desk x.0 x.1 p q r) (λ i. ((is ∙ ap (λ (n : ℕ). resolved n policy) same) i, same i)) comes in
    (now, ticks, there.answers, there.alone, there.rests, there.undrafted, there.unbased)

-- ---- policies

counts_same : (c : Cutoff) → counts c ≡ true → cutoff_is_logged c ≡ true
counts_same cutoffs.All e = refl
counts_same (cutoffs.Commits n) e = e
counts_same (cutoffs.Since n) e = refl

given_logged : (moment : ℕ) (g : GivenCutoff) → given_counts g ≡ true → cutoff_is_logged (cutoff_at moment g) ≡ true
given_logged moment (Fixed c) e = counts_same c e
given_logged moment (Back n) e = refl

rules_logged : (moment : ℕ) (rules : List Rule) → list_all (λ (x : Rule). given_counts x.1) rules ≡ true → list_all (λ (x : Pattern × Cutoff). cutoff_is_logged x.1) (map (λ (x : Rule). (x.0, cutoff_at moment x.1)) rules) ≡ true
rules_logged moment [] e = refl
rules_logged moment (x ∷ rules) e = let both = and_parts (given_counts x.1) (list_all (λ (y : Rule). given_counts y.1) rules) e in and_from _ _ (given_logged moment x.1 both.0) (rules_logged moment rules both.1)

pub resolved_logged : (moment : ℕ) (policy : Policy) (at : Resolved) → HasCounts policy → at ≡ resolved moment policy → IsTrue (resolved_is_logged at)
resolved_logged moment policy at has is =
    let both = and_parts (given_counts policy.default) (list_all (λ (y : Rule). given_counts y.1) policy.cutoffs) has in
    subst (λ (x : Resolved). IsTrue (resolved_is_logged x)) (sym is) (and_from _ _ (given_logged moment policy.default both.0) (rules_logged moment policy.cutoffs both.1))

pub resolved_few : (moment : ℕ) (policy : Policy) (at : Resolved) → HasFew policy → at ≡ resolved moment policy → length at.cutoffs ≤ 1000
resolved_few moment policy at few is =
    let same : length at.cutoffs ≡ length policy.cutoffs = ap (λ (x : Resolved). length x.cutoffs) is ∙ length-map policy.cutoffs _ in
    omega (arith, same, few)
