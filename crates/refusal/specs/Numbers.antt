-- "Numbers and their words": the refusal numbers, and the first check that applies. Every call's checks are a list of these.
-- The words, with the condition of each at the check that gives it:
--    1 no tray         2 rule unknown   3 vessel count   4 book off       5 no vessel
--    6 same tub        7 empty scoop    8 clock back     9 overfull      10 tally full
--   11 tray full      12 span back     13 short form    14 no sheet      15 movements
--   16 layout         17 name          18 filler        19 short paper   20 past the end
--   21 milled before time   22 scale loaded   23 scale bare
-- 18 keeps its word; what it refuses is an age above 65,535.
-- Definitions only. Assumes nothing.
use Rattle.std.specs.Prelude.{Bool, true, false, List, [], ◌∷◌, ℕ, zero, suc}

-- The largest number of 32 bits (TOP).
abbrev pub TOP : ℕ
TOP = 4294967295

-- A refusal's number, and whether it applies.
pub data Check : Type 0 where
  ◌if◌ : ℕ → Bool → Check

infix 70 ◌if◌
-- "The first that applies is given", and 0, acceptance, where none does.
abbrev pub or_else : Check → ℕ → ℕ
or_else (n if true) m = n
or_else (n if false) m = m

abbrev pub first : List Check → ℕ
first [] = 0
first (c ∷ cs) = or_else c (first cs)

-- What is given where the number is 0, and what else.
abbrev pub if_zero {ℓ} : {A : Type ℓ} → ℕ → A → A → A
if_zero zero a b = a
if_zero (suc n) a b = b
