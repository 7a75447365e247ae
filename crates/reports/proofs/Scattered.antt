-- A report filled in one pass: over numbers that are 0 at first, each becomes the sum of its kind, and the numbers
-- behind stay. Shown once for any test and any index, so that held, spread and whole are instances.
-- Assumes nothing.
use Rattle.std.proofs.lemmas.List.{set-append_left}
use Rattle.std.proofs.Common.{◌≡◌, refl, sym, ap, ◌∙◌, Bool, true, ◌&&◌, List, [], ◌∷◌, ◌++◌, ℕ, ◌+◌, ◌<◌, append-nil, arith, eqb, length, get_or, drop, replicate, length-set, drop_of_length-le, get_or-set_same, get_or-set_other, ext_get_or}
use Rattle.std.proofs.lemmas.Bool.Decides.{nat_tests}
use lib.ListN.{get_or-replicate, length-replicate, get_or-append}
use Rattle.table.specs.declared.Piece.{Piece}
use Rattle.table.specs.Pieces.{only, Kind, sum, All, done, also}
use Rattle.table.proofs.Pieces.{all_head, all_tail, all_map}
use Rattle.book.specs.Head.{tab}
use Rattle.book.specs.Reports.{onto}
use Rattle.reports.specs.Scatter.{cleared, entered, scatter, tally, Enterable, Fillable, Tallied}
use Rattle.book.proofs.BalanceLaws.{length_tab}
use Rattle.book.proofs.ReportLaws.{row_at}

-- numbers that are all 0 are cleared
pub all_cleared : (room r : List ℕ) → r ≡ replicate (length room) 0 → r ≡ cleared (length room) room
all_cleared room r e = rw (e, drop_of_length-le room {i = length room} (omega arith), append-nil)

module _ (test : Piece → Bool) (at : Piece → ℕ) where
  length_entered : (r : List ℕ) (p : Piece) → length (entered test at r p) ≡ length r
  length_entered r p = grind (arith, length-set)

  length_scatter : (ps : List Piece) (r : List ℕ) → length (scatter test at r ps) ≡ length r
  unfolding scatter
  length_scatter [] r = refl
  length_scatter (p ∷ ps) r = length_scatter ps (entered test at r p) ∙ length_entered r p

  entered_at : (r : List ℕ) (p : Piece) (j : ℕ) → j < length r → get_or (entered test at r p) j 0 ≡ get_or r j 0 + only (eqb (at p) j && test p) p.weight
  entered_at r p j h = grind (arith, nat_tests, get_or-set_same, get_or-set_other)

  scatter_at : (ps : List Piece) (r : List ℕ) (j : ℕ) → j < length r → get_or (scatter test at r ps) j 0 ≡ get_or r j 0 + tally test at ps j
  unfolding scatter
  scatter_at [] r j h = omega arith
  scatter_at (p ∷ ps) r j h = omega (arith, scatter_at ps (entered test at r p) j (rw (length_entered r p) h), entered_at r p j h)

  -- numbers behind those that the indices of the pieces that count lie in stay
  entered_left : (r rest : List ℕ) (p : Piece) → (test p ≡ true → at p < length r) → entered test at (r ++ rest) p ≡ entered test at r p ++ rest
  entered_left r rest p h = grind (arith, set-append_left, get_or-append)

  scatter_left : (ps : List Piece) (r rest : List ℕ) → All (λ p. test p ≡ true → at p < length r) ps → scatter test at (r ++ rest) ps ≡ scatter test at r ps ++ rest
  unfolding scatter
  scatter_left [] r rest done = refl
  scatter_left (p ∷ ps) r rest (also h x) = rw (entered_left r rest p h) (scatter_left ps (entered test at r p) rest (rw (length_entered r p) x))

  -- over n zeros, each number becomes what is tallied for it
  over_zeros : (n : ℕ) (ps : List Piece) (j : ℕ) → j < n → get_or (scatter test at (replicate n 0) ps) j 0 ≡ tally test at ps j
  over_zeros n ps j h = omega (arith, scatter_at ps (replicate n 0) j (rw length-replicate h), get_or-replicate {A = ℕ} n j 0 0 h)

  -- the report: n numbers cleared, and the pieces entered
  pub scattered : (n : ℕ) (room : List ℕ) (ps : List Piece) → All (λ p. test p ≡ true → at p < n) ps → scatter test at (cleared n room) ps ≡ onto (tab (tally test at ps) 0 n) room
  scattered n room ps inside =
      let long : length (scatter test at (replicate n 0) ps) ≡ n = length_scatter ps (replicate n 0) ∙ length-replicate n 0 in
      let sums : scatter test at (replicate n 0) ps ≡ tab (tally test at ps) 0 n =
      ext_get_or 0 _ _ (rw length_tab long) (λ j h. let l : j < n = rw long at h in over_zeros n ps j l ∙ sym (row_at (tally test at ps) n j l)) in
      rw length_tab (scatter_left ps (replicate n 0) (drop n room) (rw length-replicate inside) ∙ ap (λ (l : List ℕ). l ++ drop n room) sums)

  -- what is tallied for an index is the sum of a kind, where the pieces that count there are those of the kind
  pub tally_kind : {P : Piece → Type 0} (j : ℕ) (k : Kind) → ((p : Piece) → P p → eqb (at p) j && test p ≡ k p.holder p.origin p.birth)
      → {ps : List Piece} → All P ps → tally test at ps j ≡ sum k ps
  tally_kind j k same done = refl
  tally_kind j k same (also h x) = grind (arith, same _ h, tally_kind j k same x)

  -- numbers that are all 0 can be filled
  pub fillable : (room r : List ℕ) (ps : List Piece) → r ≡ replicate (length room) 0 → Tallied test at (length room) ps → Fillable test at r ps
  fillable room r ps e u = rw (e, length-replicate) (all_map (λ p k c. ((k c).0, rw (over_zeros (length room) ps (at p) (k c).0) (k c).1)) u)

  -- The loop, by the pieces left: what entering the first of them asks, and a turn.
  pub may_enter : (r : List ℕ) (p : Piece) (left ps : List Piece) → left ≡ p ∷ ps → Fillable test at r left → Enterable test at r p
  unfolding scatter
  may_enter r p left ps e f c =
      let h = all_head (rw e at f) c in
      (h.0, omega (arith, h.1, scatter_at ps (entered test at r p) (at p) (rw length_entered h.0)))

  pub fillable_next : (r r' : List ℕ) (p : Piece) (left ps : List Piece) → left ≡ p ∷ ps → Fillable test at r left → r' ≡ entered test at r p → Fillable test at r' ps
  unfolding scatter
  fillable_next r r' p left ps e f er = rw (er, length_entered) (all_tail (rw e at f))
