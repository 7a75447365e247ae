-- Writing on a small case: the bytes as document 01 lays them out, and the writer's numbers as one table and one
-- theorem, with one thing wrong in each row.
-- Assumes nothing.
use mathlib.Core.List.{flat_map}
use Rattle.std.proofs.Common.{ℕ, ◌≡◌, refl, List, [], ◌∷◌, map, set, take, replicate}
use Rattle.book.specs.Head.{same, all_zero}
use Rattle.fields.specs.Bytes.{bytes_of, groups, exists}
use Rattle.fields.specs.Movements.{entries_checks}
use Rattle.fields.specs.Layout.{movements_off}
use Rattle.fields.specs.Names.{letters, well_formed}
use Rattle.sheet.proofs.Samples.{bytes, no_movement}
use Rattle.writing.specs.Writing.{sheet_of, given_off, write_number}

-- the names `A`, `B~` and `C` of eight bytes each
pub names : List ℕ
names =
    65 ∷ 0 ∷ 0 ∷ 0 ∷ 0 ∷ 0 ∷ 0 ∷ 0
    ∷ 66 ∷ 126 ∷ 0 ∷ 0 ∷ 0 ∷ 0 ∷ 0 ∷ 0
    ∷ 67 ∷ 0 ∷ 0 ∷ 0 ∷ 0 ∷ 0 ∷ 0 ∷ 0
    ∷ []

-- from 1 to 2 at minute 1, 3 grams, age 0; from 2 to 0 at minute 258, 5 grams, age 259
pub numbers : List ℕ
numbers = 1 ∷ 2 ∷ 1 ∷ 3 ∷ 0 ∷ 2 ∷ 0 ∷ 258 ∷ 5 ∷ 259 ∷ []

pub sample_bytes : sheet_of 2 3 names numbers ≡ bytes
unfolding names numbers bytes sheet_of bytes_of flat_map groups
sample_bytes = refl

pub no_movement_bytes : sheet_of 2 3 names [] ≡ no_movement
unfolding names bytes no_movement sheet_of bytes_of flat_map groups
no_movement_bytes = refl

-- What the writer is given, and the number that it gives.
pub record Given : Type 0 where
  pub rule : ℕ
  pub vessels : ℕ
  pub names : List ℕ
  pub numbers : List ℕ
  pub room : ℕ
  pub number : ℕ

pub given : ℕ → ℕ → ℕ → List ℕ → List ℕ → ℕ → Given
given number rule vessels names numbers room =
    record { rule = rule; vessels = vessels; names = names; numbers = numbers; room = room; number = number }

pub samples : List Given
samples =
    given 0 2 3 names numbers 72
    ∷ given 2 4 3 names numbers 72
    ∷ given 3 2 0 [] numbers 72
    ∷ given 3 2 65 names numbers 72
    -- each cause of 16 by itself
    ∷ given 16 2 3 (take 23 names) numbers 72
    ∷ given 16 2 3 names (take 9 numbers) 72
    ∷ given 16 2 3 names (take 8 numbers) 72
    -- 4,097 movements; 4,096 are not refused by 15, and none is accepted
    ∷ given 15 2 3 names (replicate 20485 0) 72
    ∷ given 19 2 3 names (replicate 20480 0) 72
    ∷ given 0 2 3 names [] 48
    ∷ given 17 2 3 (set names 9 127) numbers 72
    ∷ given 17 2 3 (set names 16 65) numbers 72
    -- an age above 65,535, in either movement; 65,535 is accepted
    ∷ given 18 2 3 names (set numbers 4 65536) 72
    ∷ given 18 2 3 names (set numbers 9 65536) 72
    ∷ given 0 2 3 names (set (set numbers 4 65535) 9 65535) 72
    ∷ given 5 2 3 names (set numbers 0 3) 72
    ∷ given 5 2 3 names (set numbers 6 3) 72
    ∷ given 19 2 3 names numbers 71
    -- two things wrong: the first in the order of documents 01 and 02 is given
    ∷ given 2 4 0 [] numbers 72
    ∷ given 3 2 0 names numbers 72
    ∷ given 16 2 3 (take 23 names) (replicate 20485 0) 72
    ∷ given 15 2 3 (set names 16 65) (replicate 20485 0) 72
    ∷ given 17 2 3 (set names 16 65) (set numbers 0 3) 72
    ∷ given 17 2 3 (set names 16 65) (set numbers 4 65536) 72
    -- in one movement, and movement by movement
    ∷ given 18 2 3 names (set (set numbers 0 3) 4 65536) 72
    ∷ given 5 2 3 names (set (set numbers 0 3) 9 65536) 72
    ∷ given 18 2 3 names (set (set numbers 4 65536) 5 3) 72
    ∷ given 18 2 3 names (set numbers 9 65536) 0
    ∷ given 5 2 3 names (set numbers 0 3) 0
    -- without a movement each of the others is looked at as before
    ∷ given 2 4 3 names [] 48
    ∷ given 3 2 0 [] [] 48
    ∷ given 16 2 3 (take 23 names) [] 48
    ∷ given 17 2 3 (set names 16 65) [] 48
    ∷ given 19 2 3 names [] 47
    ∷ []

pub write_samples : map (λ g. write_number g.rule g.vessels g.names g.numbers g.room) samples ≡ map (λ g. g.number) samples
unfolding given samples names numbers write_number given_off movements_off same groups exists well_formed letters all_zero entries_checks
write_samples = refl
