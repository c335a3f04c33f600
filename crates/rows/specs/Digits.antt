-- The value of a row of decimal digits. Assumes nothing.
use Rattle.std.specs.Prelude.{◌≡◌, ℕ, ◌+◌, ◌-◌, ◌*◌, ◌<◌, true, List, [], ◌∷◌, length, slice_index}
use Rattle.std.specs.Str.{all_ascii_digits}

-- The number that the digits write, behind the number n.
abbrev pub value_from : ℕ → List ℕ → ℕ
value_from n [] = n
value_from n (b ∷ bs) = value_from (n * 10 + (b - 48)) bs

-- Digits alone, with a value below 1,024.
abbrev pub Small : List ℕ → ℕ → Type 0
Small bs n = (all_ascii_digits bs ≡ true) × (value_from 0 bs ≡ n) × (n < 1024)

-- Some byte, and no zero in front of another.
abbrev pub Unpadded : List ℕ → Type 0
Unpadded bs = (0 < length bs) × (slice_index bs 0 ≡ 48 → length bs ≡ 1)
