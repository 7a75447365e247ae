-- A number in decimal: "prints in decimal", without leading zeros. Definitions only. Assumes nothing.
use Rattle.std.specs.Prelude.{List, [], ◌∷◌, ◌++◌, ℕ, zero, suc, ◌+◌, ◌/◌, ◌%◌}
use Rattle.refusal.specs.Numbers.{if_zero}

-- of a number of 32 bits
abbrev pub most_digits : ℕ
most_digits = 10

-- the byte of the last digit
abbrev pub last_digit : ℕ → ℕ
last_digit n = 48 + n % 10

-- The digits of n, at most so many, the high one first; none of 0.
unfoldable pub digits : ℕ → ℕ → List ℕ
digits zero n = []
digits (suc k) n = if_zero n [] (digits k (n / 10) ++ (last_digit n ∷ []))

-- The last digit always, and before it those of the tenth part. Ten digits hold every number of 32 bits.
unfoldable pub decimal : ℕ → List ℕ
decimal n = digits 9 (n / 10) ++ (last_digit n ∷ [])
