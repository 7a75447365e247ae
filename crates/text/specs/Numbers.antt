-- The decimal numbers of a text, between which anything stands that is no digit. Definitions only. Assumes nothing.
use Rattle.std.specs.Prelude.{Bool, cond, ◌&&◌, List, [], ◌∷◌, ℕ, ◌+◌, ◌*◌, ◌-◌, min, leb, get_or, fold}
use Rattle.refusal.specs.Numbers.{TOP}

-- the byte of 0
abbrev pub zero_digit : ℕ
zero_digit = 0x30

-- the byte of 9
abbrev pub nine_digit : ℕ
nine_digit = 0x39

abbrev pub digit : ℕ → Bool
digit b = leb zero_digit b && leb b nine_digit

-- whether a digit stands at an index; behind the end there is none
abbrev pub digit_at : List ℕ → ℕ → Bool
digit_at text i = digit (get_or text i 0)

-- n with a digit behind it; what is too large for 32 bits is TOP
abbrev pub with_digit : ℕ → ℕ → ℕ
with_digit n b = min (10 * n + (b - zero_digit)) TOP

-- the number that digits make
abbrev pub number : List ℕ → ℕ
number digits = fold with_digit 0 digits

-- The numbers of a text, where n is what the digits before it make: a number ends where its digits do.
unfoldable pub numbers_from : ℕ → List ℕ → List ℕ
numbers_from n [] = []
numbers_from n (b ∷ bs) =
    cond (digit b) (cond (digit_at bs 0) (numbers_from (with_digit n b) bs) (with_digit n b ∷ numbers_from 0 bs)) (numbers_from n bs)

abbrev pub numbers_in : List ℕ → List ℕ
numbers_in text = numbers_from 0 text
