-- The movements of a sheet: "A movement is 12 bytes: s (1), d (1), filler 0 (2), t (4), q (4)", where the age, "an unsigned 16-bit number,
-- 0 to 65,535", has the place of the filler: "The sheet's two filler bytes hold it".
-- Definitions only. Assumes nothing.
use Rattle.std.specs.Prelude.{◌||◌, ℕ, leb, ltb, get_or, drop}
use mathlib.Core.List.{List, [], ◌∷◌, ◌++◌, flat_map}
use Rattle.refusal.specs.Numbers.{Check, ◌if◌}
use Rattle.book.specs.Transfer.{most_age}
use Rattle.fields.specs.declared.entries.Entry.{Entry}
use Rattle.fields.specs.Bytes.{value_in, bytes_of, groups}

abbrev pub entry_size : ℕ
entry_size = 12

-- How many numbers the writer is given for a movement: s, d, t, q, age.
abbrev pub given_size : ℕ
given_size = 5

abbrev pub no_entry : Entry
no_entry = record { source = 0; destination = 0; age = 0; minute = 0; weight = 0 }

-- The movement in the first twelve bytes.
abbrev pub entry_in : List ℕ → Entry
entry_in l =
    record {
      source = value_in 1 l;
      destination = value_in 1 (drop 1 l);
      age = value_in 2 (drop 2 l);
      minute = value_in 4 (drop 4 l);
      weight = value_in 4 (drop 8 l);
    }

abbrev pub entry_bytes : Entry → List ℕ
entry_bytes e =
    bytes_of 1 e.source ++ bytes_of 1 e.destination ++ bytes_of 2 e.age ++ bytes_of 4 e.minute ++ bytes_of 4 e.weight

-- The movement that the writer is given in its first numbers.
abbrev pub given_in : List ℕ → Entry
given_in l = record { source = get_or l 0 0; destination = get_or l 1 0; age = get_or l 4 0; minute = get_or l 2 0; weight = get_or l 3 0 }

abbrev pub entries_in : ℕ → List ℕ → List Entry
entries_in count l = groups entry_size entry_in count l

abbrev pub entries_given : ℕ → List ℕ → List Entry
entries_given count numbers = groups given_size given_in count numbers

abbrev pub entries_bytes : List Entry → List ℕ
entries_bytes es = flat_map entry_bytes es

-- The numbers of movements, as the writer is given them.
abbrev pub entry_numbers : Entry → List ℕ
entry_numbers e = e.source ∷ e.destination ∷ e.minute ∷ e.weight ∷ e.age ∷ []

abbrev pub numbers_in : List Entry → List ℕ
numbers_in es = flat_map entry_numbers es

-- What reading checks of a movement: 5. Every age is readable.
abbrev pub entry_checks : ℕ → Entry → List Check
entry_checks vessels e = (5 if (leb vessels e.source || leb vessels e.destination)) ∷ []

-- What the writer checks of a movement: "18 is kept for an age above 65,535, in each movement before 5".
abbrev pub given_checks : ℕ → Entry → List Check
given_checks vessels e = (18 if ltb most_age e.age) ∷ entry_checks vessels e

-- The checks of "each movement in turn".
unfoldable pub entries_checks : (Entry → List Check) → List Entry → List Check
entries_checks checks [] = []
entries_checks checks (e ∷ es) = checks e ++ entries_checks checks es
