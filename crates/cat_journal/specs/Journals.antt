-- What a journal stands on, and what it keeps there.
use Rattle.std.specs.Prelude.{◌≡◌, ℕ, ◌-◌, List, length, Option, nat_lt, vec_len, vec_capacity, if◌then◌else◌}
use Rattle.std.specs.Option.{option_map}
use Rattle.cat_journal.specs.declared.journal.Journal.{Journal}
use Rattle.cat_journal.specs.Frames.{payload_of}
use Rattle.cat_journal.specs.Held.{first_payloads, held_count, outcome}

abbrev pub journal_disk : {D : Type 0} {g : _} → Journal D g → D
journal_disk j = j.disk

-- the payloads that are held, where the disk tells its bytes
abbrev pub journal_payloads : {D : Type 0} {g : _} → (D → Option (List ℕ)) → Journal D g → Option (List (List ℕ))
journal_payloads told j = option_map (first_payloads (held_count j.points)) (told j.disk)

abbrev pub journal_kept : {D : Type 0} {g : _} → Journal D g → ℕ
journal_kept j = length j.points.gates.items

abbrev pub journal_start : {D : Type 0} {g : _} → Journal D g → ℕ
journal_start j = j.points.first

abbrev pub journal_form : {D : Type 0} {g : _} → Journal D g → ℕ
journal_form j = j.format

-- a frame has five bytes more than its payload
abbrev pub journal_spare : {D : Type 0} {g : _} → Journal D g → ℕ
journal_spare j = if nat_lt (vec_len j.points.gates) (vec_capacity j.points.gates) then vec_capacity j.frame - 5 else 0

abbrev pub journal_down : {D : Type 0} {g : _} → Journal D g → Option ℕ
journal_down j = j.down

abbrev pub journal_in_flight : {D : Type 0} {g : _} → Journal D g → Option (List ℕ)
journal_in_flight j = option_map (λ (c : ℕ). payload_of j.frame.items) j.down

abbrev pub journal_moment : {D : Type 0} {g : _} → (D → ℕ) → Journal D g → ℕ
journal_moment moment j = moment j.disk

-- what a crash may leave, as payloads
abbrev pub journal_images : {D : Type 0} {g : _} → (D → List ℕ → Type 0) → Journal D g → Option (List (List ℕ)) → Type 0
journal_images may_leave j r = (c : List ℕ) × may_leave j.disk c × (outcome c ≡ r)

abbrev pub journal_left : {D : Type 0} {g : _} → (D → ℕ → List ℕ → Type 0) → Journal D g → ℕ → Option (List (List ℕ)) → Type 0
journal_left left_since j t r = (c : List ℕ) × left_since j.disk t c × (outcome c ≡ r)

-- and as bytes
abbrev pub journal_bytes : {D : Type 0} {g : _} → (D → ℕ → List ℕ → Type 0) → Journal D g → ℕ → List ℕ → Type 0
journal_bytes left_since j t b = left_since j.disk t b
