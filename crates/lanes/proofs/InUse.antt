-- Which slots are in use: those of a lane are, and the next new one is not.
-- Assumes nothing.
use Rattle.std.proofs.Common.{◌≡◌, sym, ap, ◌∙◌, true, false, List, ◌∷◌, ℕ, ◌<◌, arith, length, eqb, ltb-true}
use Rattle.std.proofs.lemmas.Bool.Decides.{nat_tests}
use lib.ListN.{length-map}
use Rattle.lanes.specs.Notes.{has}
use Rattle.lanes.specs.Order.{at_slot, ahead}
use Rattle.lanes.specs.declared.Store.{Store}
use Rattle.lanes.specs.Store.{received, pieces_in, lane_of, Kept}
use Rattle.lanes.proofs.Order.{members}

-- the slots of a lane are in use, and no other is
module _ (rule : ℕ) (s : Store) (k : Kept rule s) where
  pub first_used : (v x : ℕ) (l : List ℕ) → lane_of rule s v ≡ x ∷ l → x < s.count
  unfolding has
  first_used v x l e =
      let m = members (ahead rule s.pieces) (λ i. eqb (at_slot s.pieces i).holder v) x (received s) in
      let h : has x (lane_of rule s v) ≡ true = ap (has x) e ∙ grind (arith, nat_tests) in
      ltb-true x s.count (sym (k.listed.noted x) ∙ grind (arith, nat_tests, m, h))

  pub next_unused : has s.count (received s) ≡ false
  next_unused = k.listed.noted s.count ∙ grind (arith, nat_tests)

  pub length_pieces_in : length (pieces_in s) ≡ s.count
  length_pieces_in = rw length-map k.listed.all
