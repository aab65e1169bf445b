-- The rule holds of a desk that is made.
use Rattle.std.proofs.Common.{◌≡◌, ℕ, zero, suc, ◌<◌, List, [], ◌∷◌, replicate, sym, refl, subst, inl, inr, arith, None, le_refl}
use mathlib.Core.Option.{some, some-injective, some-ne-none}
use lib.ListN.{get_elem?}
use Rattle.atomic_table.specs.Table.{opening}
use Rattle.cat_model.specs.declared.log_entry.LogEntry.{LogEntry}
use Rattle.cat_model.specs.Drafts.{Open, nothing_open, open_of}
use Rattle.cat_model.specs.Mark.{Mark}
use Rattle.cat_model.specs.Turns.{Opened, place_after}
use Rattle.cat_model.specs.TurnLaws.{grows_self, stays_self}
use Rattle.cat_desk.specs.Sight.{View}
use Rattle.cat_desk.specs.Log.{IsAmong, WasGiven}
use Rattle.cat_desk.specs.Marks.{AreGiven}
use Rattle.cat_desk.specs.Rule.{unborn, IsLive, tickets_of, Fits, Kept, newcomer}
use Rattle.cat_desk.proofs.Logs.{missed_none, since_none}
use Rattle.cat_desk.proofs.Marks.{linked_self, given_self}

module _ {V : Type 0} (log : V → List LogEntry) (opened : V → Opened) (legal : Opened → List LogEntry → Type 0) (mark : V → Mark) (left_open : V → Open) (key : V) where
  opens_at : (c : ℕ) → legal (opened key) (log key) → left_open key ≡ nothing_open → c ≡ place_after (opened key) (log key) → c < 4294967296 → Kept log opened legal mark left_open key (opening (c ∷ 1 ∷ replicate 65 0) (None ∷ []) (newcomer log opened mark left_open key))
  opens_at c ok none_open is small = record {
    all = log key;
    tickets = 1;
    next = 2;
    keeper = 0;
    owner = λ _. 0;
    named = λ _. 0;
    last = 0;
    marks = λ _. mark key;
    opens = left_open key;
    place = unborn;
    wide = refl;
    count = is;
    small = omega arith;
    drawn = refl;
    queued = refl;
    weighs = refl;
    is_legal = ok;
    since = since_none 2 (log key);
    each = first;
    spent = first_spent;
    grows = λ i j _ _. grows_self (mark key);
    first_mark = refl;
    mark_given = λ j le. given_self 2 (mark key);
    opens_given = subst (AreGiven 2) (sym none_open) (λ m le. refl);
    longest = (0, newcomer log opened mark left_open key, refl, tt, refl, refl);
    stands = (refl, (newcomer log opened mark left_open key, refl, refl));
  } where
    first_given : (n : ℕ) → IsAmong n (1 ∷ []) → WasGiven 2 n
    first_given n (inl same) = (omega (arith, same), omega (arith, same))
    first_given n (inr none) = absurd none

    first : (j : ℕ) (d : View) → get_elem? (newcomer log opened mark left_open key ∷ []) j ≡ some d → IsLive d.stage → Fits (opened key, log key) (log key) 1 0 2 0 (λ _. 0) (λ _. 0) (Unit {0}) 0 (λ _. mark key) (left_open key) j d
    first zero d e _ = subst (λ (x : View). Fits (opened key, log key) (log key) 1 0 2 0 (λ _. 0) (λ _. 0) (Unit {0}) 0 (λ _. mark key) (left_open key) 0 x) (some-injective (newcomer log opened mark left_open key) d e) record {
      saw = record { based = refl; since = since_none 2 (log key); missed = λ n is. missed_none n 2 (log key); least = le_refl (place_after (opened key) (log key)); most = le_refl (place_after (opened key) (log key)) };
      numbered = record { own_numbers = λ n is. (refl, first_given n is); stands_for = omega arith; may_give = λ _. (refl, refl) };
      in_line = record { has_ticket = λ _. (omega arith, omega arith, refl); served = λ _. refl; alone = λ _. refl; making = λ _. tt };
      marked = record { turn = le_refl 0; mark = refl; linked = λ n is j low high. linked_self n (mark key); own = stays_self (open_of 1 (left_open key)); whole = λ _. refl; current = λ _. refl };
      parts = (λ n is. absurd is, λ n is. absurd is);
    }
    first (suc j) d e _ = absurd (some-ne-none d (sym e))

    first_spent : (j : ℕ) (d : View) → get_elem? (newcomer log opened mark left_open key ∷ []) j ≡ some d → ¬ IsLive d.stage → tickets_of d.stage ≡ 0
    first_spent zero d e gone = absurd (gone (subst (λ (x : View). IsLive x.stage) (some-injective (newcomer log opened mark left_open key) d e) tt))
    first_spent (suc j) d e gone = absurd (some-ne-none d (sym e))

  pub opens : (c : ℕ) (words : List ℕ) → words ≡ c ∷ 1 ∷ replicate 65 0 → legal (opened key) (log key) → left_open key ≡ nothing_open → c ≡ place_after (opened key) (log key) → c < 4294967296
      → Kept log opened legal mark left_open key (opening words (None ∷ []) (newcomer log opened mark left_open key))
  opens c words are ok none_open is small = subst (λ (ws : List ℕ). Kept log opened legal mark left_open key (opening ws (None ∷ []) (newcomer log opened mark left_open key))) (sym are) (opens_at c ok none_open is small)
