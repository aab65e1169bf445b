-- How many comparisons a search takes.
use Rattle.std.proofs.Common.{◌≡◌, ℕ, zero, suc, ◌+◌, ◌*◌, ◌^◌, ◌<◌, ◌≤◌, ap, ◌∙◌, arith}
use Rattle.std.proofs.Math.Nat.{le_trans, suc-mul, mul-suc, mul_assoc, mul-mul-mul_comm, mul-le-mul_left, le-mul_of_pos_right, one-mul, pow-zero, pow-suc}
use Rattle.std.proofs.Math.Pow.{pow_mono}
use Rattle.std.proofs.lemmas.Nat.{mul-le, pow-add}

-- a count that isn't above the sum of two
pub summed : (i j n : ℕ) → n ≤ i + j → 2 ^ n ≤ 2 ^ i * 2 ^ j
summed i j n le = rw (← pow-add 2 i j) (pow_mono le)

pub ticked : (c n : ℕ) → n ≤ c + 1 → 2 ^ n ≤ 2 ^ c * 2
ticked c n le = summed c 1 n le

-- a comparison halves what is left
pub search_step : (c n d left s : ℕ) → n ≤ c + 1 → 2 ^ c * d ≤ s → 1 ≤ d → 2 * left ≤ d → (2 ^ n * left ≤ s) × (2 ^ n ≤ 2 * s)
search_step c n d left s le fits some half =
    let tick = ticked c n le in
    let whole : 2 ^ c * (2 * left) ≤ s = le_trans (mul-le-mul_left (2 ^ c) half) fits in
    let more : 2 ^ n * left ≤ 2 ^ c * 2 * left = mul-le (2 ^ n) left (2 ^ c * 2) left tick (omega arith) in
    let once : 2 ^ c ≤ 2 ^ c * d = le-mul_of_pos_right (2 ^ c) (omega arith) in
    (le_trans more (rw (mul_assoc (2 ^ c) 2 left) whole), omega arith)

at_most_square : (m a : ℕ) → a < 2 * m → a ≤ m * m
at_most_square zero a lt = absurd (omega arith)
at_most_square (suc k) a lt = omega (arith, suc-mul k (suc k), mul-suc k k)

-- a search among so many pieces, and one in a piece
pub among_many : (a b m l n : ℕ) → a < 2 * m → b ≤ l * l → m * l ≤ n → a * b ≤ (n + 1) * (n + 1)
among_many a b m l n lt le big =
    le_trans (mul-le a b (m * m) (l * l) (at_most_square m a lt) le)
    (rw (mul-mul-mul_comm m m l l) (mul-le (m * l) (m * l) (n + 1) (n + 1) (omega arith) (omega arith)))

pub among_few : (a b m l : ℕ) → a < 2 * m → m ≤ 64 → b ≤ l * l → a * b ≤ 16 * l * (16 * l)
among_few a b m l lt few le =
    let parts : 256 * (l * l) ≡ 16 * l * (16 * l) = mul-mul-mul_comm 16 16 l l in
    rw (← parts) (mul-le a b 256 (l * l) (omega arith) le)

pub in_one : (a b n inner : ℕ) → a < 2 → b ≤ (inner + 1) * (inner + 1) → inner ≤ n → a * b ≤ (n + 1) * (n + 1)
in_one a b n inner lt le fits =
    let more : a * b ≤ 1 * ((n + 1) * (n + 1)) = mul-le a b 1 ((n + 1) * (n + 1)) (omega arith) (le_trans le (mul-le (inner + 1) (inner + 1) (n + 1) (n + 1) (omega arith) (omega arith))) in
    omega arith

-- a search in a block, and the comparison that follows
pub four_times : (s : ℕ) → 4 * s ≤ (s + 1) * (s + 1)
four_times zero = omega arith
four_times (suc k) =
    let e : suc k + 1 ≡ suc (suc k) = omega arith in
    rw e (omega (arith, suc-mul (suc k) (suc (suc k)), mul-suc (suc k) (suc k), suc-mul k (suc k), mul-suc k k))

pub in_block : (c n s : ℕ) → n ≤ c + 1 → 2 ^ c ≤ 2 * s → (2 ^ n ≤ (s + 1) * (s + 1)) × (s ≤ 64 → 2 ^ n ≤ 16 * 16)
in_block c n s le few =
    let tick = ticked c n le in
    let fours = four_times s in
    (omega arith, λ fits. omega arith)

pub one_at_least : (n : ℕ) → 1 ≤ (n + 1) * (n + 1)
one_at_least n = mul-le 1 1 (n + 1) (n + 1) (omega arith) (omega arith)

-- a square is a product
pub squared : (n : ℕ) → n ^ 2 ≡ n * n
squared n = pow-suc n 1 ∙ ap (λ (m : ℕ). m * n) (pow-suc n 0 ∙ ap (λ (m : ℕ). m * n) (pow-zero n) ∙ one-mul n)

pub within_square : (c n : ℕ) → 2 ^ c ≤ n * n → 2 ^ c ≤ n ^ 2
within_square c n le = rw (squared n) le
