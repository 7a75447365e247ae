-- Reading's numbers on small sheets, as one table and one theorem: a sheet of three vessels and two movements, then the
-- same with one thing wrong in each row. And what asking for the movements of that sheet yields.
-- Assumes nothing.
use Rattle.std.proofs.Common.{ℕ, ◌≡◌, refl, List, [], ◌∷◌, ◌++◌, map, set, take}
use Rattle.book.specs.Head.{same, all_zero}
use Rattle.fields.specs.Bytes.{value_in, groups, exists}
use Rattle.fields.specs.Movements.{entries_checks}
use Rattle.fields.specs.Layout.{movements_off}
use Rattle.fields.specs.Names.{letters, well_formed}
use Rattle.sheet.specs.Sheet.{layout_off, no_sheet, read_number}
use Rattle.sheet.specs.Answers.{asked_number, movement_asked}

-- The names `A`, `B~` and `C`; from 1 to 2 at minute 1, 3 grams, age 0; from 2 to 0 at minute 258, 5 grams, age 259.
unfoldable pub bytes : List ℕ
bytes =
    80 ∷ 82 ∷ 79 ∷ 86 ∷ 2 ∷ 0 ∷ 3 ∷ 0 ∷ 2 ∷ 0 ∷ 0 ∷ 0 ∷ 24 ∷ 0 ∷ 0 ∷ 0 ∷ 48 ∷ 0 ∷ 0 ∷ 0 ∷ 72 ∷ 0 ∷ 0 ∷ 0
    ∷ 65 ∷ 0 ∷ 0 ∷ 0 ∷ 0 ∷ 0 ∷ 0 ∷ 0
    ∷ 66 ∷ 126 ∷ 0 ∷ 0 ∷ 0 ∷ 0 ∷ 0 ∷ 0
    ∷ 67 ∷ 0 ∷ 0 ∷ 0 ∷ 0 ∷ 0 ∷ 0 ∷ 0
    ∷ 1 ∷ 2 ∷ 0 ∷ 0 ∷ 1 ∷ 0 ∷ 0 ∷ 0 ∷ 3 ∷ 0 ∷ 0 ∷ 0
    ∷ 2 ∷ 0 ∷ 3 ∷ 1 ∷ 2 ∷ 1 ∷ 0 ∷ 0 ∷ 5 ∷ 0 ∷ 0 ∷ 0
    ∷ []

-- The same three vessels without a movement.
unfoldable pub no_movement : List ℕ
no_movement = set (set (take 48 bytes) 8 0) 20 48

-- A sheet, and the number that reading it gives.
pub record Sample : Type 0 where
  pub sheet : List ℕ
  pub number : ℕ

pub sample : ℕ → List ℕ → Sample
sample number sheet = record { sheet = sheet; number = number }

pub samples : List Sample
samples =
    sample 0 bytes
    -- shorter than a header; another mark
    ∷ sample 14 (take 23 bytes)
    ∷ sample 14 (set bytes 0 81)
    ∷ sample 14 (set bytes 3 87)
    -- the rule, in its low and in its high byte
    ∷ sample 2 (set bytes 4 4)
    ∷ sample 2 (set bytes 5 1)
    ∷ sample 0 (set bytes 4 3)
    -- no vessel, 65 vessels; 64 are not refused by 3
    ∷ sample 3 (set bytes 6 0)
    ∷ sample 3 (set bytes 6 65)
    ∷ sample 16 (set bytes 6 64)
    -- 4,097 movements; 4,096, one and none are not refused by 15
    ∷ sample 15 (set (set bytes 8 1) 9 16)
    ∷ sample 16 (set (set bytes 8 0) 9 16)
    ∷ sample 16 (set bytes 8 1)
    ∷ sample 16 (set bytes 8 0)
    ∷ sample 0 no_movement
    -- each cause of 16 by itself: the offset of the names, that of the movements, the length, the real length
    ∷ sample 16 (set bytes 12 25)
    ∷ sample 16 (set bytes 16 49)
    ∷ sample 16 (set bytes 20 73)
    ∷ sample 16 (take 71 bytes)
    ∷ sample 16 (bytes ++ (0 ∷ []))
    -- a name of no letters, one with a letter behind its zeros, one that is no letter, one used twice
    ∷ sample 17 (set bytes 24 0)
    ∷ sample 17 (set bytes 31 65)
    ∷ sample 17 (set bytes 33 127)
    ∷ sample 17 (set bytes 40 65)
    ∷ sample 0 (set bytes 33 0)
    -- every age is readable: in its low byte, in its high byte, the largest
    ∷ sample 0 (set bytes 50 1)
    ∷ sample 0 (set bytes 51 1)
    ∷ sample 0 (set (set bytes 62 255) 63 255)
    -- no such source, no such destination
    ∷ sample 5 (set bytes 48 3)
    ∷ sample 5 (set bytes 61 3)
    -- two things wrong: the first in document 01's order is given
    ∷ sample 14 (set (set bytes 0 81) 4 4)
    ∷ sample 2 (set (set bytes 4 4) 6 0)
    ∷ sample 3 (set (set bytes 6 0) 9 17)
    ∷ sample 15 (set (set bytes 9 17) 12 25)
    ∷ sample 16 (set (set bytes 12 25) 24 0)
    ∷ sample 17 (set (set bytes 24 0) 48 3)
    -- without a movement each of the others is looked at as before
    ∷ sample 14 (set no_movement 0 81)
    ∷ sample 2 (set no_movement 4 4)
    ∷ sample 3 (set no_movement 6 0)
    ∷ sample 15 (set no_movement 9 17)
    ∷ sample 16 (set no_movement 12 25)
    ∷ sample 16 (set no_movement 16 49)
    ∷ sample 16 (set no_movement 20 60)
    ∷ sample 16 (take 47 no_movement)
    ∷ sample 16 (no_movement ++ (0 ∷ []))
    ∷ sample 17 (set no_movement 40 65)
    -- an age beside what is wrong changes nothing
    ∷ sample 17 (set (set bytes 24 0) 51 255)
    ∷ sample 5 (set (set bytes 48 3) 51 255)
    ∷ []

pub read_samples : map (λ c. read_number c.sheet) samples ≡ map (λ c. c.number) samples
unfolding sample samples bytes no_movement read_number no_sheet movements_off layout_off value_in same groups exists well_formed letters all_zero entries_checks
read_samples = refl

-- What asking for the movements of the sample yields: each number from all of its bytes, the low byte first.
pub asked_samples : map (movement_asked bytes) (0 ∷ 1 ∷ 2 ∷ [])
    ≡ record { number = 0; source = 1; destination = 2; minute = 1; weight = 3; age = 0 }
    ∷ record { number = 0; source = 2; destination = 0; minute = 258; weight = 5; age = 259 }
    ∷ record { number = 20; source = 0; destination = 0; minute = 0; weight = 0; age = 0 }
    ∷ []
unfolding bytes asked_number read_number no_sheet movements_off layout_off value_in same groups exists well_formed letters all_zero entries_checks
asked_samples = refl
