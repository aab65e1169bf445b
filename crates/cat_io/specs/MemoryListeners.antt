-- What a listener in memory holds and tells.
use Rattle.std.specs.Prelude.{◌≡◌, ℕ, ◌-◌, ◌^◌, nat_le, nat_lt, Bool, ◌||◌, if◌then◌else◌, List, [], ◌∷◌, map, length, Option, Some, None}
use Rattle.cat_io.specs.declared.memory.MemorySource.{MemorySource}
use Rattle.cat_io.specs.declared.memory.MemorySink.{MemorySink}
use Rattle.cat_io.specs.declared.memory_listener.ConnectionList.{ConnectionList}
use Rattle.cat_io.specs.declared.memory_listener.MemoryListener.{MemoryListener}
use Rattle.cat_io.specs.Plans.{Plan, fails_next, planned}

-- the connections to come, the first one first
abbrev pub waiting_in : MemoryListener → List (MemorySource × MemorySink)
waiting_in l = l.waiting.items

-- those that came back
abbrev pub returned_to : MemoryListener → List (MemorySource × MemorySink)
returned_to l = l.returned.items

-- those that came back to each twin
abbrev pub rejoined_to : MemoryListener → List (List (MemorySource × MemorySink))
rejoined_to l = map (λ group. group.items) l.rejoined.items

-- how many connections are out, and how many twins
abbrev pub out_of : MemoryListener → ℕ
out_of l = l.out

abbrev pub twins_of : MemoryListener → ℕ
twins_of l = l.twins

-- what the twins to come are made of
abbrev pub lists_in : MemoryListener → List ConnectionList
lists_in l = l.lists.items

-- the connections that each of them is given
abbrev pub dealt_by : MemoryListener → List (List (MemorySource × MemorySink))
dealt_by l = map (λ (list : ConnectionList). list.connections.items) l.lists.items

abbrev pub faults_in : MemoryListener → ℕ
faults_in l = l.faults

-- which calls fail by their numbers
abbrev pub plan_of : MemoryListener → Plan
plan_of l = l.calls

-- a twin has the connections of the first list and its failing calls, and no connections where there is no list
abbrev pub IsMadeOf : List ConnectionList → MemoryListener → Type 0
IsMadeOf [] twin = waiting_in twin ≡ []
IsMadeOf (list ∷ lists) twin = (waiting_in twin ≡ list.connections.items) × (plan_of twin ≡ planned list.failing.items (2 ^ 64 - 1))

-- the address that it keeps, with the number, if there is one
abbrev pub kept_with : List ℕ → Option ℕ → Option (List ℕ × ℕ)
kept_with address None = None
kept_with address (Some connections) = Some (address, connections)

-- what the last `listen` was handed
abbrev pub heard_by : MemoryListener → Option (List ℕ × ℕ)
heard_by l = kept_with l.address.items l.connections

-- an address is kept where it has at most 512 bytes
abbrev pub kept_of : List ℕ → ℕ → Option (List ℕ × ℕ)
kept_of address connections = if nat_le (length address) 512 then Some (address, connections) else None

-- whether the next `listen` fails: by its number, or since the address is too long
abbrev pub listen_fails : MemoryListener → List ℕ → Bool
listen_fails l address = fails_next (plan_of l) || nat_lt 512 (length address)
