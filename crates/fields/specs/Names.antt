-- The names of the vessels: "A name is 8 bytes: 1 to 8 bytes of 21 to 7E hexadecimal, then zeros."
-- Definitions only. Assumes nothing.
use Rattle.std.specs.Prelude.{Bool, true, false, not, ◌&&◌, ◌||◌, List, [], ◌∷◌, ℕ, suc, ltb, leb, take, drop}
use Rattle.book.specs.Head.{same, all_zero}
use Rattle.fields.specs.Bytes.{groups, exists}
use Rattle.fields.specs.Layout.{name_size}

-- a byte of 21 to 7E hexadecimal
abbrev pub least_letter : ℕ
least_letter = 0x21

abbrev pub most_letter : ℕ
most_letter = 0x7e

abbrev pub graphic : ℕ → Bool
graphic b = leb least_letter b && leb b most_letter

abbrev pub one_more_if : Bool → ℕ → ℕ
one_more_if true n = suc n
one_more_if false n = 0

-- How many bytes of 21 to 7E hexadecimal a name begins with.
unfoldable pub letters : List ℕ → ℕ
letters [] = 0
letters (b ∷ bs) = one_more_if (graphic b) (letters bs)

-- At least one such byte, then zeros.
unfoldable pub well_formed : List ℕ → Bool
well_formed name = ltb 0 (letters name) && all_zero (drop (letters name) name)

-- The name without its zeros.
abbrev pub short_name : List ℕ → List ℕ
short_name name = take (letters name) name

-- The names of `vessels` vessels, eight bytes each.
abbrev pub names_in : ℕ → List ℕ → List (List ℕ)
names_in vessels l = groups name_size (take name_size) vessels l

-- Whether a name is among others.
abbrev pub used_in : List ℕ → List (List ℕ) → Bool
used_in name names = exists (λ n rest. same name n) names

-- "name ill-formed or used twice": a name is off if it is ill-formed, or used again behind.
abbrev pub name_off : List ℕ → List (List ℕ) → Bool
name_off name rest = not (well_formed name) || used_in name rest

abbrev pub names_off : List (List ℕ) → Bool
names_off names = exists name_off names
