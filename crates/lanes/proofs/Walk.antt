-- A walk over a lane tells whether a move by it is full: one piece more comes of it, a split or a birth, just where
-- something is still wanted once whole pieces are taken (`left_over`). By induction over how many pieces may still go
-- whole: what is picked is the first of the lane, and the other slots have the rest of it.
-- Assumes nothing.
use Rattle.std.proofs.Common.{◌≡◌, refl, ap, ◌∙◌, ◌≢◌, Bool, true, false, not, cond, List, [], ◌∷◌, ◌++◌, ℕ, zero, suc, ◌+◌, ◌-◌, ◌≤◌, ◌<◌, min, arith, leb, ltb, eqb, length, eqb-true, le-ltb}
use Rattle.std.proofs.lemmas.Bool.Decides.{nat_tests}
use lib.ListN.{length-map}
use borrow.Author.Tests.{eqb-false}
use Rattle.table.specs.declared.Piece.{Piece}
use Rattle.taking.specs.declared.Move.{Move}
use Rattle.taking.specs.Selection.{wins, select}
use Rattle.taking.specs.Stirring.{stirred_rule}
use Rattle.taking.specs.Taken.{Taken}
use Rattle.taking.specs.Taking.{take_from, take_found, take_next, take_up_to, singly, taken}
use Rattle.taking.proofs.Stirring.{taken_singly, taken_fair}
use Rattle.taking.proofs.Handed.{handed_length}
use Rattle.taking.specs.Applied.{full}
use Rattle.lanes.specs.Order.{at_slot, pieces_at, ahead, lane}
use Rattle.lanes.specs.Walk.{remains}
use Rattle.lanes.proofs.Order.{First, none_picked, first_picked, length_in_order}
use Rattle.lanes.proofs.Hops.{pieces_append}

-- where nothing is wanted, nothing is left over
pub none_remains : (ps : List Piece) (l : List ℕ) → remains ps 0 l ≡ 0
unfolding remains
none_remains ps [] = refl
none_remains ps (i ∷ l) = grind (arith, nat_tests, none_remains ps l)

-- the pieces that a taking adds
abbrev pub added : Taken → ℕ
added t = t.split + min 1 t.born

module _ (rule : ℕ) (ps : List Piece) (s : ℕ) where
  abbrev Tells : ℕ → Type 0
  Tells n = (want : ℕ) (r : List ℕ) (l : List ℕ) → lane rule ps s r ≡ l → length l ≤ n
      → added (take_up_to (select (wins rule) s) n want (pieces_at ps r)) ≡ min 1 (remains ps want l)

  tells : (n : ℕ) → Tells n
  unfolding take_up_to remains
  tells zero want r [] e h = omega arith
  tells zero want r (x ∷ l) e h = absurd (omega (arith, h))
  tells (suc n) want r l e h = next (eqb want 0) refl (tells n)
    where
      whole : (x : ℕ) (l : List ℕ) (f : First rule ps s r x l) → want ≢ 0 → length l ≤ n → Tells n → (c : Bool)
          → added (take_from (take_up_to (select (wins rule) s) n) want (pieces_at ps f.before) (at_slot ps x) (pieces_at ps f.after) c)
          ≡ min 1 (cond c (remains ps (want - (at_slot ps x).weight) l) want)
      whole x l f some h i true = rw (← (pieces_append ps f.before f.after)) (i (want - (at_slot ps x).weight) (f.before ++ f.after) l f.left h)
      whole x l f some h i false = omega arith

      found : (l : List ℕ) → lane rule ps s r ≡ l → want ≢ 0 → length l ≤ suc n → Tells n
          → added (take_found (take_up_to (select (wins rule) s) n) want (pieces_at ps r) (select (wins rule) s (pieces_at ps r))) ≡ min 1 (remains ps want l)
      found [] e some h i = rw (none_picked rule ps s r e) (omega arith)
      found (x ∷ l) e some h i =
          let f = first_picked rule ps s r x l e in
          rw f.found (whole x l f some (omega (arith, h)) i (leb (at_slot ps x).weight want))

      next : (c : Bool) → eqb want 0 ≡ c → Tells n
          → added (take_next (select (wins rule) s) (take_up_to (select (wins rule) s) n) want (pieces_at ps r) c) ≡ min 1 (remains ps want l)
      next true z i = rw (eqb-true want 0 z, none_remains ps l) (omega arith)
      next false z i = found l e (eqb-false want 0 z) h i

-- A move m of pieces in slots r.
module _ (rule : ℕ) (m : Move) (ps : List Piece) (r : List ℕ) where
  abbrev pub rest_wanted : ℕ
  rest_wanted = remains ps m.weight (lane rule ps m.source r)

  pub few_in_lane : length (lane rule ps m.source r) ≤ length (pieces_at ps r)
  few_in_lane = rw length-map (length_in_order (ahead rule ps) (λ i. eqb (at_slot ps i).holder m.source) r)

  pub left_over : added (singly rule m (pieces_at ps r)) ≡ min 1 rest_wanted
  left_over = tells rule ps m.source (length (pieces_at ps r)) m.weight r (lane rule ps m.source r) refl few_in_lane

  module _ (first : rule ≢ stirred_rule) (places : ℕ) where
    pub full_is : full places m (taken rule m (pieces_at ps r)) ≡ ltb places (length r + min 1 rest_wanted)
    full_is =
        let t = taken rule m (pieces_at ps r) in
        ap (ltb places) (handed_length m (pieces_at ps r) t (taken_fair rule m (pieces_at ps r))
        ∙ rw length-map (ap (λ (k : ℕ). length r + k) (ap added (taken_singly rule m (pieces_at ps r) first) ∙ left_over)))

    pub not_full : length r < places → full places m (taken rule m (pieces_at ps r)) ≡ false
    not_full h = full_is ∙ le-ltb _ _ (omega (arith, h))

    pub full_if_left : length r ≡ places → full places m (taken rule m (pieces_at ps r)) ≡ not (eqb rest_wanted 0)
    full_if_left e = full_is ∙ grind (arith, nat_tests)
