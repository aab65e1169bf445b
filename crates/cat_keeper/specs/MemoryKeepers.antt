-- What a keeper in memory holds and tells, and which of its calls fail.
use Rattle.std.specs.Prelude.{◌≡◌, ℕ, ◌+◌, ◌-◌, ◌^◌, min, Bool, List, length, Option, Some, vec_len, vec_capacity, nat_eq, nat_lt, if◌then◌else◌}
use Rattle.std.specs.List.{list_any}
use Rattle.std.specs.Option.{option_map}
use Rattle.cat_keeper.specs.declared.memory_keeper.MemKeeper.{MemKeeper}
use Rattle.cat_keeper.specs.Bases.{entries_of, first_of}
use Rattle.cat_keeper.specs.Listed.{left_of}

-- the payloads
abbrev pub keeper_payloads : MemKeeper → List (List ℕ)
keeper_payloads k = k.payloads.items

-- how many of them are entries behind the last base
abbrev pub keeper_kept : MemKeeper → ℕ
keeper_kept k = length (entries_of k.payloads.items)

-- the place of that base
abbrev pub keeper_start : MemKeeper → ℕ
keeper_start k = first_of k.payloads.items

abbrev pub keeper_form : MemKeeper → ℕ
keeper_form k = 2

-- the length of a payload for which there is room
abbrev pub keeper_spare : MemKeeper → ℕ
keeper_spare k = if nat_lt (vec_len k.payloads) (vec_capacity k.payloads) then vec_capacity k.room else 0

-- the numbers of the calls that fail
abbrev pub keeper_failing : MemKeeper → List ℕ
keeper_failing k = k.failing.items

-- how many calls were counted
abbrev pub keeper_calls : MemKeeper → ℕ
keeper_calls k = k.calls

-- the number of the next one, which stands still at its type's end
abbrev pub keeper_next : MemKeeper → ℕ
keeper_next k = min (k.calls + 1) (2 ^ 64 - 1)

abbrev pub next_fails : MemKeeper → Bool
next_fails k = list_any (λ (n : ℕ). nat_eq n (keeper_next k)) (keeper_failing k)

abbrev pub keeper_faults : MemKeeper → ℕ
keeper_faults k = k.faults

-- the count of faults at which an append or a rebase failed
abbrev pub keeper_down : MemKeeper → Option ℕ
keeper_down k = k.down

-- and its payload
abbrev pub keeper_in_flight : MemKeeper → Option (List ℕ)
keeper_in_flight k = option_map (λ (c : ℕ). k.room.items) k.down

-- what a crash may leave now
abbrev pub keeper_images : MemKeeper → Option (List (List ℕ)) → Type 0
keeper_images k c = c ≡ Some (keeper_payloads k)

-- the moment is the number of payloads, since these alone change what a crash leaves
abbrev pub keeper_moment : MemKeeper → ℕ
keeper_moment k = length (keeper_payloads k)

-- what a crash might have left since a moment
abbrev pub keeper_left : MemKeeper → ℕ → Option (List (List ℕ)) → Type 0
keeper_left k t c = left_of (keeper_payloads k) t c
