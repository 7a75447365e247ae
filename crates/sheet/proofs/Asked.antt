-- WHAT A SHEET ANSWERS. `sheet_refused`: of a sheet that is refused, reading and asking for any movement and any name
-- give the sheet's own number, and all else is 0, or the empty part at the sheet's start.
-- Of one that reads well `name_told`: the part that is a vessel's name lies where the sheet has the name, and is all of
-- its letters; and `past_the_end`, `no_such_name`: what it has not is refused by 20 and by 5, with zeros and with the
-- empty part at the sheet's start. A name is spoken of as a part that meets `NamePart`, so that where it lies is said
-- of whatever meets that.
-- Assumes nothing.
use Rattle.std.proofs.Common.{ℕ, ◌+◌, ◌*◌, ◌<◌, ◌≤◌, arith, ◌≡◌, true, le-leb, List, [], length, take, drop}
use Rattle.fields.proofs.ShortNames.{Lettered, without_zeros, each_well_formed}
use Rattle.fields.specs.Layout.{name_size, header_size}
use Rattle.fields.proofs.GroupLaws.{length_groups}
use Rattle.fields.specs.Names.{well_formed}
use Rattle.sheet.specs.Sheet.{names_read, vessels_of, movements_of, read_number}
use Rattle.sheet.specs.Answers.{reading, movement_asked, name_number, name_bytes, asked_number, NamePart}
use Rattle.sheet.proofs.AnswerLaws.{name_of, asked_good, asked_inside, asked_past}
use Rattle.sheet.proofs.ReadLaws.{good_names}

-- Asking for a name answers with this number, and whatever part is told is the empty one at the sheet's start.
pub record NoName (s : List ℕ) (vessel number : ℕ) : Type 0 where
  pub number_is : name_number s vessel ≡ number
  pub part_is : (sheet_at : ℕ × ℕ) (part : List ℕ) (part_at : ℕ × ℕ) → NamePart s vessel sheet_at part part_at
      → (part ≡ []) × (part_at.0 ≡ sheet_at.0) × (part_at.1 ≡ sheet_at.1)

-- A sheet that is refused with this number.
pub record RefusedWith (s : List ℕ) (n : ℕ) : Type 0 where
  pub read : reading s ≡ record { number = n; rule = 0; vessels = 0; movements = 0 }
  pub movement : (index : ℕ)
      → movement_asked s index ≡ record { number = n; source = 0; destination = 0; minute = 0; weight = 0; age = 0 }
  pub name : (vessel : ℕ) → NoName s vessel n

pub sheet_refused : (s : List ℕ) → (read_number s ≡ 0 → ⊥) → RefusedWith s (read_number s)
unfolding asked_number
sheet_refused s refused = record {
  read = grind arith;
  movement = λ index. grind arith;
  name = λ vessel. record { number_is = grind arith; part_is = λ sheet_at part part_at told. grind (arith, told) };
}

-- The part that is told as a vessel's name: its letters, where the sheet has the name.
pub record NameThere (s : List ℕ) (vessel : ℕ) (sheet_at : ℕ × ℕ) (part : List ℕ) (part_at : ℕ × ℕ) : Type 0 where
  pub letters : Lettered (take 8 (drop (24 + 8 * vessel) s)) part
  pub block : part_at.0 ≡ sheet_at.0
  pub place : part_at.1 ≡ 24 + 8 * vessel + sheet_at.1

-- a sheet that reads well
module _ (s : List ℕ) (z : read_number s ≡ 0) where
  pub past_the_end : (index : ℕ) → movements_of s ≤ index
      → movement_asked s index ≡ record { number = 20; source = 0; destination = 0; minute = 0; weight = 0; age = 0 }
  past_the_end = asked_past s z

  pub no_such_name : (vessel : ℕ) → vessels_of s ≤ vessel → NoName s vessel 5
  no_such_name vessel h =
      let number : name_number s vessel ≡ 5 = rw (asked_good s z, le-leb (vessels_of s) vessel h) in
      record { number_is = number; part_is = λ sheet_at part part_at told. grind (arith, told, number) }

  well_formed_at : (vessel : ℕ) → vessel < vessels_of s → well_formed (name_bytes s vessel) ≡ true
  well_formed_at vessel h =
      let count : length (names_read s) ≡ vessels_of s =
      length_groups name_size (take name_size) (vessels_of s) (drop header_size s)
      in
      rw (name_of s vessel h) (each_well_formed (names_read s) (good_names s z) vessel (rw count h))

  pub name_told : (vessel : ℕ) → vessel < vessels_of s → (name_number s vessel ≡ 0)
      × ((sheet_at : ℕ × ℕ) (part : List ℕ) (part_at : ℕ × ℕ) → NamePart s vessel sheet_at part part_at
      → NameThere s vessel sheet_at part part_at)
  name_told vessel h =
      let number : name_number s vessel ≡ 0 = asked_inside s z 5 (vessels_of s) vessel h in (
        number,
        λ sheet_at part part_at told. record {
          letters = rw (told.bytes, number) (without_zeros (name_bytes s vessel) (well_formed_at vessel h));
          block = told.block;
          place = rw number at told.place;
        },
      )
