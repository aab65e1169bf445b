-- Worked cases of what a journal's bytes stand for.
use Rattle.std.proofs.Common.{◌≡◌, [], ◌∷◌, ◌++◌, true, false, Some, Ok, Err, refl}
use Rattle.cat_frames.specs.CheckpointLaws.{is_whole_checkpoint}
use Rattle.cat_frames.specs.Payload.{has_reading}
use Rattle.cat_journal.specs.declared.fault.OpenFault.TheVariants.{Version, Damaged}
use Rattle.cat_journal.specs.Frames.{header, recovered, settled, unread, unread_from, walk}

nothing : recovered [] ≡ Ok []
unfolding recovered
nothing = refl

-- a new journal, of format 2
no_entries : recovered (78 ∷ 69 ∷ 83 ∷ 83 ∷ 73 ∷ 69 ∷ 67 ∷ 74 ∷ 0 ∷ 0 ∷ 0 ∷ 1 ∷ 0 ∷ 0 ∷ 0 ∷ 1 ∷ 0 ∷ []) ≡ Ok []
unfolding recovered walk unread unread_from
no_entries = refl

-- one of format 1
no_entries_before : recovered (78 ∷ 69 ∷ 83 ∷ 83 ∷ 73 ∷ 69 ∷ 67 ∷ 74 ∷ 0 ∷ 0 ∷ 0 ∷ 1 ∷ 0 ∷ 0 ∷ 0 ∷ 0 ∷ 0 ∷ []) ≡ Ok []
unfolding recovered walk unread unread_from
no_entries_before = refl

-- as is one with any other byte there
other_format : recovered (header 7 ++ 0 ∷ []) ≡ Ok []
unfolding recovered walk unread unread_from
other_format = refl

-- a closed gate needn't be 0, and what follows it counts for nothing
other_gate : recovered (header 1 ++ 2 ∷ 1 ∷ 1 ∷ []) ≡ Ok []
unfolding recovered walk unread unread_from
other_gate = refl

two_bytes : recovered (78 ∷ 69 ∷ []) ≡ Err (Damaged 0)
unfolding recovered
two_bytes = refl

no_gate : recovered (header 1) ≡ Err (Damaged 0)
unfolding recovered
no_gate = refl

other_name : recovered (77 ∷ 69 ∷ 83 ∷ 83 ∷ 73 ∷ 69 ∷ 67 ∷ 74 ∷ 0 ∷ 0 ∷ 0 ∷ 9 ∷ 0 ∷ 0 ∷ 0 ∷ 0 ∷ 0 ∷ []) ≡ Err (Damaged 0)
unfolding recovered
other_name = refl

-- the version is told before what stands behind it
other_version : recovered (78 ∷ 69 ∷ 83 ∷ 83 ∷ 73 ∷ 69 ∷ 67 ∷ 74 ∷ 0 ∷ 0 ∷ 1 ∷ 1 ∷ 0 ∷ 7 ∷ 0 ∷ 1 ∷ 0 ∷ []) ≡ Err (Version 257)
unfolding recovered
other_version = refl

third_field : recovered (78 ∷ 69 ∷ 83 ∷ 83 ∷ 73 ∷ 69 ∷ 67 ∷ 74 ∷ 0 ∷ 0 ∷ 0 ∷ 1 ∷ 0 ∷ 0 ∷ 7 ∷ 1 ∷ 0 ∷ []) ≡ Err (Damaged 12)
unfolding recovered
third_field = refl

-- an open gate with no length, with a payload past the end, and with no gate behind it
no_length : recovered (header 1 ++ 1 ∷ 0 ∷ 0 ∷ 0 ∷ []) ≡ Err (Damaged 16)
unfolding recovered walk unread unread_from
no_length = refl

past_the_end : recovered (header 1 ++ 1 ∷ 0 ∷ 0 ∷ 0 ∷ 9 ∷ 3 ∷ 0 ∷ []) ≡ Err (Damaged 16)
unfolding recovered walk unread unread_from
past_the_end = refl

no_gate_behind : recovered (header 1 ++ 1 ∷ 0 ∷ 0 ∷ 0 ∷ 2 ∷ 3 ∷ 0 ∷ []) ≡ Err (Damaged 16)
unfolding recovered walk unread unread_from
no_gate_behind = refl

-- frames behind the header
no_reading : has_reading (3 ∷ 0 ∷ []) ≡ false → settled true (walk 9 16 (1 ∷ 0 ∷ 0 ∷ 0 ∷ 2 ∷ 3 ∷ 0 ∷ 0 ∷ [])) ≡ Err (Damaged 16)
unfolding walk unread unread_from
no_reading none = rw none refl

one_entry : has_reading (3 ∷ 0 ∷ []) ≡ true → settled true (walk 9 16 (1 ∷ 0 ∷ 0 ∷ 0 ∷ 2 ∷ 3 ∷ 0 ∷ 0 ∷ 1 ∷ [])) ≡ Ok ((3 ∷ 0 ∷ []) ∷ [])
unfolding walk unread unread_from
one_entry reading = rw reading refl

two_entries : has_reading (3 ∷ 0 ∷ []) ≡ true → has_reading (4 ∷ []) ≡ true
    → settled true (walk 20 16 (1 ∷ 0 ∷ 0 ∷ 0 ∷ 2 ∷ 3 ∷ 0 ∷ 1 ∷ 0 ∷ 0 ∷ 0 ∷ 1 ∷ 4 ∷ 0 ∷ [])) ≡ Ok ((3 ∷ 0 ∷ []) ∷ (4 ∷ []) ∷ [])
unfolding walk unread unread_from
two_entries first second = rw (first, second) refl

-- damage behind an entry stands at its own gate
later_damage : has_reading (3 ∷ 0 ∷ []) ≡ true → settled true (walk 20 16 (1 ∷ 0 ∷ 0 ∷ 0 ∷ 2 ∷ 3 ∷ 0 ∷ 1 ∷ 0 ∷ [])) ≡ Err (Damaged 23)
unfolding walk unread unread_from
later_damage reading = rw reading refl

-- and the first of two is told
first_damage : has_reading (3 ∷ 0 ∷ []) ≡ false → settled true (walk 20 16 (1 ∷ 0 ∷ 0 ∷ 0 ∷ 2 ∷ 3 ∷ 0 ∷ 1 ∷ 0 ∷ [])) ≡ Err (Damaged 16)
unfolding walk unread unread_from
first_damage none = rw none refl

-- a base: what stands before it isn't read
a_base : is_whole_checkpoint (8 ∷ 0 ∷ []) ≡ true → settled true (walk 20 16 (1 ∷ 0 ∷ 0 ∷ 0 ∷ 1 ∷ 5 ∷ 1 ∷ 0 ∷ 0 ∷ 0 ∷ 2 ∷ 8 ∷ 0 ∷ 0 ∷ [])) ≡ Ok ((5 ∷ []) ∷ (8 ∷ 0 ∷ []) ∷ [])
unfolding walk unread unread_from
a_base whole = rw whole refl

-- which has to have a reading
bad_base : is_whole_checkpoint (8 ∷ 0 ∷ []) ≡ false → settled true (walk 20 16 (1 ∷ 0 ∷ 0 ∷ 0 ∷ 1 ∷ 5 ∷ 1 ∷ 0 ∷ 0 ∷ 0 ∷ 2 ∷ 8 ∷ 0 ∷ 0 ∷ [])) ≡ Err (Damaged 22)
unfolding walk unread unread_from
bad_base none = rw none refl

-- as have the entries behind it
bad_behind : is_whole_checkpoint (8 ∷ 0 ∷ []) ≡ true → has_reading (5 ∷ []) ≡ false
    → settled true (walk 20 16 (1 ∷ 0 ∷ 0 ∷ 0 ∷ 2 ∷ 8 ∷ 0 ∷ 1 ∷ 0 ∷ 0 ∷ 0 ∷ 1 ∷ 5 ∷ 0 ∷ [])) ≡ Err (Damaged 23)
unfolding walk unread unread_from
bad_behind whole none = rw (whole, none) refl

-- in format 1 there is none
base_before : has_reading (8 ∷ 0 ∷ []) ≡ false → settled false (walk 20 16 (1 ∷ 0 ∷ 0 ∷ 0 ∷ 2 ∷ 8 ∷ 0 ∷ 0 ∷ [])) ≡ Err (Damaged 16)
unfolding walk unread unread_from
base_before none = rw none refl

-- no entry is given where none is allowed any more
one_too_many : unread_from 3 ((3 ∷ 0 ∷ []) ∷ []) 0 ≡ Some 3
unfolding unread_from
one_too_many = refl
