-- The part of a chain that a page shows.
use Rattle.std.proofs.Common.{◌≡◌, ℕ, zero, suc, ◌+◌, Bool, true, false, cond, Bor, List, ◌<◌, get_or, [], ◌∷◌, length, take, drop, Option, Some, None, refl, sym, ap, ◌∙◌, arith}
use Rattle.std.proofs.lemmas.List.{take_all, take-map, take-take}
use Rattle.std.proofs.lemmas.Option.{slice_get-map, slice_get_read}
use Rattle.std.specs.Option.{option_map}
use Rattle.cat_graph.specs.Linked.{values}
use Rattle.cat_model.specs.Chain.{Commits, chain}
use Rattle.cat_model.specs.declared.commit.Commit.{Commit}
use Rattle.cat_model.specs.Pages.{first, up_to, until, history}
use Rattle.cat_model.specs.Same.{same_hash}
use Rattle.cat_names.specs.declared.hash.Hash.{Hash}
use Rattle.cat_pages.proofs.Lists.{first_at, first_of_more}

up_to_take : (n : ℕ) (commits : Commits) (last : Hash) → up_to (take n commits) last ≡ take n (up_to commits last)
up_to_take zero commits last = refl
up_to_take (suc n) [] last = refl
up_to_take (suc n) (x ∷ commits) last = by (same_hash x.0 last) (up_to_take n commits last)
  where
    by : (b : Bool) → up_to (take n commits) last ≡ take n (up_to commits last)
        → cond b (x ∷ []) (x ∷ up_to (take n commits) last) ≡ take (suc n) (cond b (x ∷ []) (x ∷ up_to commits last))
    by true e = ap (λ (rest : Commits). x ∷ rest) (sym (take_all n [] (omega arith)))
    by false e = ap (λ (rest : Commits). x ∷ rest) e

until_take : (n : ℕ) (commits : Commits) (last : Option Hash) → until (take n commits) last ≡ take n (until commits last)
until_take n commits None = refl
until_take n commits (Some last) = up_to_take n commits last

up_to_front : (commits : Commits) (last : Hash) → take (length (up_to commits last)) commits ≡ up_to commits last
up_to_front [] last = refl
up_to_front (x ∷ commits) last = by (same_hash x.0 last) (up_to_front commits last)
  where
    by : (b : Bool) → take (length (up_to commits last)) commits ≡ up_to commits last
        → take (length (cond b (x ∷ []) (x ∷ up_to commits last))) (x ∷ commits) ≡ cond b (x ∷ []) (x ∷ up_to commits last)
    by true e = refl
    by false e = ap (λ (rest : Commits). x ∷ rest) e

until_front : (commits : Commits) (last : Option Hash) → take (length (until commits last)) commits ≡ until commits last
until_front commits None = take_all (length commits) commits (omega arith)
until_front commits (Some last) = up_to_front commits last

abbrev pair_now : Bor Hash × Bor Commit → Hash × Commit
pair_now x = (x.0.now, x.1.now)

-- the commit behind so many of a walk
pub behind : (n : ℕ) (found : List (Bor Hash × Bor Commit)) (x : Bor Hash × Bor Commit) → n < length found → x ≡ get_or found n x → Some (x.0.now, x.1.now) ≡ first (drop n (values found))
behind n found x inside e =
    ap (λ (o : Option (Bor Hash × Bor Commit)). option_map pair_now o) (sym (slice_get_read found (length found) n x refl inside e))
    ∙ sym (slice_get-map pair_now found n) ∙ first_at n (values found)

-- a walk of one commit more than is shown, cut behind the last that is asked for
cut : (found : List (Bor Hash × Bor Commit)) (commits : Commits) (from : Hash) (last : Option Hash) (n : ℕ) → values found ≡ take (n + 1) (chain commits from)
    → values (take (length (until (values found) last)) found) ≡ take (n + 1) (history commits from last)
unfolding history
cut found commits from last n walked =
    sym (take-map pair_now (length (until (values found) last)) found)
    ∙ until_front (values found) last ∙ ap (λ (l : Commits). until l last) walked ∙ until_take (n + 1) (chain commits from) last

-- what is shown of it
pub cut_shown : (found : List (Bor Hash × Bor Commit)) (commits : Commits) (from : Hash) (last : Option Hash) (n : ℕ) → values found ≡ take (n + 1) (chain commits from)
    → values (take n (take (length (until (values found) last)) found)) ≡ take n (history commits from last)
cut_shown found commits from last n walked =
    sym (take-map pair_now n (take (length (until (values found) last)) found))
    ∙ ap (λ (l : Commits). take n l) (cut found commits from last n walked) ∙ take-take n (n + 1) (history commits from last) (omega arith)

-- and what follows
pub cut_next : (found : List (Bor Hash × Bor Commit)) (commits : Commits) (from : Hash) (last : Option Hash) (n : ℕ) → values found ≡ take (n + 1) (chain commits from)
    → first (drop n (values (take (length (until (values found) last)) found))) ≡ first (drop n (history commits from last))
cut_next found commits from last n walked = ap (λ (l : Commits). first (drop n l)) (cut found commits from last n walked) ∙ first_of_more n (history commits from last)
