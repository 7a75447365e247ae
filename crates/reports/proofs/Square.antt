-- The rows of all vessels, one behind the other, are a square: the number of origin u in the row of vessel v is the one
-- at v × size + u. So one pass over the pieces in vessels, each entered at its origin in the row of its holder, fills
-- what the rows are.
-- Assumes nothing.
use Rattle.std.proofs.Common.{◌≡◌, sym, ap, ◌∙◌, true, ◌&&◌, List, ◌++◌, ℕ, zero, suc, ◌+◌, ◌*◌, ◌≤◌, ◌<◌, zero-add, zero-mul, suc-mul, add_comm, mul-le-mul_right, arith, eqb}
use Rattle.std.proofs.lemmas.Bool.Decides.{nat_tests}
use Rattle.table.specs.declared.Piece.{Piece}
use Rattle.table.specs.Pieces.{sum, All}
use Rattle.table.proofs.Pieces.{all_map, all_both}
use Rattle.book.specs.Head.{most_vessels, is_holder, tab}
use Rattle.book.specs.declared.Report.TheVariants.{Whole}
use Rattle.book.specs.Reports.{from_origin, held_row, rows, report_row, onto}
use Rattle.book.proofs.BalanceLaws.{tab_append, tab_same}
use Rattle.reports.specs.Scatter.{off_scale, cell_of, tally, one_pass}
use Rattle.reports.proofs.Scattered.{tally_kind, scattered}

-- a row ends where the next one starts, or before
row_below : (m v w : ℕ) → v < w → v * m + m ≤ w * m
row_below m v w h = rw (← suc-mul) (mul-le-mul_right m h)

-- a number of the square tells its row and its place in it
module _ (m v u w x : ℕ) (hu : u < m) (hx : x < m) where
  same_cell : v * m + u ≡ w * m + x → (v ≡ w) × (u ≡ x)
  same_cell e = grind (arith, nat_tests, e, row_below m v w, row_below m w v)

  cell : eqb (v * m + u) (w * m + x) ≡ eqb u x && eqb v w
  cell = grind (arith, nat_tests, same_cell)

-- what is entered there is the weight of origin u in vessel v
pub tally_square : (m v u : ℕ) → m ≤ most_vessels → v < m → u < m → {ps : List Piece} → All (λ p. p.origin < m) ps
    → tally off_scale (cell_of m) ps (v * m + u) ≡ sum (from_origin v u) ps
tally_square m v u few hv hu = tally_kind off_scale (cell_of m) (v * m + u) (from_origin v u) (λ p g. grind (arith, nat_tests, cell m p.holder p.origin v u g hu))

-- rows are the square
module _ (m : ℕ) (few : m ≤ most_vessels) (ps : List Piece) (o : All (λ p. p.origin < m) ps) where
  abbrev cells : ℕ → ℕ
  cells = tally off_scale (cell_of m) ps

  rows_from : (v n : ℕ) → v + n ≤ m → rows m v n ps ≡ tab cells (v * m) (n * m)
  unfolding rows tab
  rows_from v zero h = rw zero-mul
  rows_from v (suc n) h =
      let row : held_row m v ps ≡ tab cells (v * m) m
      = tab_same (λ u. sum (from_origin v u) ps) cells 0 (v * m) m (λ u g. rw zero-add (sym (tally_square m v u few (omega arith) g o))) in
      let size : suc n * m ≡ m + n * m = suc-mul n m ∙ add_comm (n * m) m in
      rw (row, size) (ap (λ (l : List ℕ). tab cells (v * m) m ++ l) (rows_from (suc v) n (omega arith) ∙ rw suc-mul) ∙ sym (tab_append cells (v * m) m (n * m)))

  rows_square : rows m 0 m ps ≡ tab cells 0 (m * m)
  rows_square = rows_from 0 m (omega arith) ∙ rw zero-mul

-- a piece of a book that is not on the scale is in a vessel, and its cell lies in the square
pub in_a_vessel : (m : ℕ) (p : Piece) → is_holder m p.holder ≡ true → off_scale p ≡ true → p.holder < m
in_a_vessel m p h c = grind (arith, nat_tests)

pub cells_inside : (m : ℕ) {ps : List Piece} → All (λ p. is_holder m p.holder ≡ true) ps → All (λ p. p.origin < m) ps
    → All (λ p. off_scale p ≡ true → cell_of m p < m * m) ps
cells_inside m h o = all_map (λ p (g, inside) c. omega (arith, row_below m p.holder m (in_a_vessel m p g c), inside)) (all_both h o)

-- ONE PASS: "go over the pieces once and add each where it belongs." Over numbers cleared before, that is the whole
-- report.
pub rows_in_one_pass : (m : ℕ) (room : List ℕ) {ps : List Piece} → m ≤ most_vessels → All (λ p. is_holder m p.holder ≡ true) ps
    → All (λ p. p.origin < m) ps → one_pass (m * m) off_scale (cell_of m) room ps ≡ onto (report_row m ps Whole) room
rows_in_one_pass m room {ps} few h o = scattered _ _ (m * m) room ps (cells_inside m h o) ∙ ap (λ (w : List ℕ). onto w room) (sym (rows_square m few ps o))
