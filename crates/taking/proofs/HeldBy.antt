-- The pieces of a holder, in the order they lie, and the pieces of all others: of two lists of pieces one behind the other, of pieces that others hold,
-- and sums.
-- Assumes nothing.
use Rattle.std.proofs.Common.{◌≡◌, refl, ap, ◌≢◌, false, List, [], ◌∷◌, ◌++◌, ℕ, arith, ne_eqb}
use Rattle.std.proofs.lemmas.Bool.Decides.{nat_tests}
use Rattle.std.proofs.lemmas.Grind.{common_steps}
use Rattle.table.specs.declared.Piece.{Piece}
use Rattle.table.specs.Pieces.{Kind, sum, All, done, also}
use Rattle.taking.specs.Sweeping.{held_by, elsewhere}

module _ (c : ℕ) where
  pub held_by_append : (ps qs : List Piece) → held_by c (ps ++ qs) ≡ held_by c ps ++ held_by c qs
  unfolding held_by
  held_by_append [] qs = refl
  held_by_append (p ∷ ps) qs = grind (arith, common_steps, held_by_append ps qs)

  -- another's pieces are passed over
  pub passed_over : (p : Piece) (ps : List Piece) → p.holder ≢ c → held_by c (p ∷ ps) ≡ held_by c ps
  unfolding held_by
  passed_over p ps ne = rw (ne_eqb p.holder c ne) refl

  pub none_of_it : {ps : List Piece} → All (λ p. p.holder ≢ c) ps → held_by c ps ≡ []
  unfolding held_by
  none_of_it done = refl
  none_of_it (also {p = p} {ps = ps} h x) = rw (ne_eqb p.holder c h) (none_of_it x)

  -- the pieces of all others
  pub elsewhere_append : (ps qs : List Piece) → elsewhere c (ps ++ qs) ≡ elsewhere c ps ++ elsewhere c qs
  unfolding elsewhere
  elsewhere_append [] qs = refl
  elsewhere_append (p ∷ ps) qs = grind (arith, common_steps, elsewhere_append ps qs)

  pub all_elsewhere : {ps : List Piece} → All (λ p. p.holder ≢ c) ps → elsewhere c ps ≡ ps
  unfolding elsewhere
  all_elsewhere done = refl
  all_elsewhere (also {p = p} {ps = ps} h x) = rw (ne_eqb p.holder c h) (ap (λ l. p ∷ l) (all_elsewhere x))

  -- a sum that no piece of c counts in is one over the pieces of all others
  pub sum_elsewhere : (k : Kind) → ((o b : ℕ) → k c o b ≡ false) → (ps : List Piece) → sum k (elsewhere c ps) ≡ sum k ps
  unfolding elsewhere
  sum_elsewhere k none [] = refl
  sum_elsewhere k none (p ∷ ps) = grind (arith, nat_tests, none p.origin p.birth, sum_elsewhere k none ps)
