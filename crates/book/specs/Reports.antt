-- "Reports": held, spread and whole. What each writes, and their checks. Every row is of vessels: "pieces on [the
-- scale] are in no vessel, and no vessel's report includes them".
-- Definitions only. Assumes nothing.
use Rattle.std.specs.Prelude.{◌&&◌, List, [], ◌∷◌, ◌++◌, ℕ, zero, suc, ◌*◌, leb, ltb, eqb, length, drop}
use Rattle.table.specs.declared.Piece.{Piece}
use Rattle.table.specs.Pieces.{Kind, sum}
use Rattle.refusal.specs.Numbers.{Check, ◌if◌}
use Rattle.book.specs.declared.Report.{Report}
use Rattle.book.specs.declared.Report.TheVariants.{Held, Spread, Whole}
use Rattle.book.specs.Head.{Book, tab}

-- "Held: vessel v, V numbers, the weight by origin in v."
abbrev pub from_origin : ℕ → ℕ → Kind
from_origin v u h o b = eqb o u && eqb h v

abbrev pub held_row : ℕ → ℕ → List Piece → List ℕ
held_row size v ps = tab (λ u. sum (from_origin v u) ps) 0 size

-- "Spread: origin o and minutes from and to, both included; V numbers, the weight in each vessel born at o in that
-- span."
abbrev pub born_within : ℕ → ℕ → ℕ → ℕ → Kind
born_within u from to v h o b = eqb h v && (eqb o u && (leb from b && leb b to))

abbrev pub spread_row : ℕ → ℕ → ℕ → ℕ → List Piece → List ℕ
spread_row size u from to ps = tab (λ v. sum (born_within u from to v) ps) 0 size

-- "Whole: V rows of V numbers, where vessel v's row starts at number v × V and is its held report."
-- n rows from vessel v on
unfoldable pub rows : ℕ → ℕ → ℕ → List Piece → List ℕ
rows size v zero ps = []
rows size v (suc n) ps = held_row size v ps ++ rows size (suc v) n ps

-- What a report writes: the record `Report` of src/lib.rt says what is asked.
abbrev pub report_row : ℕ → List Piece → Report → List ℕ
report_row size ps (Held v) = held_row size v ps
report_row size ps (Spread u from to) = spread_row size u from to ps
report_row size ps Whole = rows size 0 size ps

-- Checks 5, 12, 13, as they apply: of the number of vessels and the length of the room. A report's checks are of the
-- book; these look at its vessels alone.
unfoldable pub asked_checks : ℕ → ℕ → Report → List Check
asked_checks size room (Held v) = 5 if leb size v ∷ 13 if ltb room size ∷ []
asked_checks size room (Spread u from to) = 5 if leb size u ∷ 12 if ltb to from ∷ 13 if ltb room size ∷ []
asked_checks size room Whole = 13 if ltb room (size * size) ∷ []

abbrev pub report_checks : Book → ℕ → Report → List Check
report_checks b room q = asked_checks b.vessels room q

-- "Numbers after these remain."
abbrev pub onto : List ℕ → List ℕ → List ℕ
onto w room = w ++ drop (length w) room
