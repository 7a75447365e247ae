-- One piece after the other goes: the order and its plan give what `singly` says, so the plan tells whether there is
-- room, and applying it gives the answer and the table.
-- Assumes nothing.
use Rattle.std.proofs.Common.{◌≡◌, refl, sym, ap, ◌∙◌, Bool, true, false, cond, None, Some, List, [], ◌∷◌, ℕ, suc, ◌+◌, ◌-◌, ◌*◌, ◌≤◌, min, arith, leb, ltb, eqb, length, get_or, drop, drop_of_length-le, drop-cons, ltb-false}
use Rattle.std.proofs.lemmas.Bool.Decides.{nat_tests}
use Rattle.table.specs.declared.Piece.{Piece}
use Rattle.table.specs.Table.{most_places, pieces_of, lay}
use Rattle.table.proofs.Table.{length_pieces}
use Rattle.picking.specs.declared.selection.Order.{Order}
use Rattle.picking.specs.declared.plan.Plan.{Plan}
use Rattle.moving.specs.declared.apply.Withdrawal.{Withdrawal}
use Rattle.taking.specs.declared.Move.{Move}
use Rattle.taking.specs.Taken.{Taken}
use Rattle.taking.specs.Taking.{handed, singly}
use Rattle.picking.specs.Plan.{at_key, in_order, count_of, plan_from, splits, lacking, taken_by, planned}
use Rattle.taking.specs.Applied.{table_left, Moves, full, accepted, applied}
use Rattle.moving.specs.Ready.{Ready}
use Rattle.picking.specs.Ordering.{Ordered}
use Rattle.moving.specs.Parts.{Room, Applicable, Applies}
use Rattle.picking.proofs.Keys.{length_in_order}
use Rattle.picking.proofs.Planned.{singly_planned}
use Rattle.taking.proofs.Taking.{singly_law}
use Rattle.taking.proofs.Handed.{handed_length}
use Rattle.taking.specs.declared.Applied.{Applied}

-- the plan takes no more keys than there are
plan_most : (ks : List ℕ) (c want : ℕ) (ps : List Piece) → (plan_from c ks want ps).whole ≤ c + length ks
unfolding plan_from
plan_most [] c want ps = omega arith
plan_most (k ∷ ks) c want ps = grind (arith, nat_tests, plan_most ks (suc c) (want - (at_key ps k).weight) ps)

-- what follows the whole ones is a split or a birth
one_of : (w : ℕ) (ks : List ℕ) → splits w ks + min 1 (lacking w ks) ≡ min 1 w
one_of w [] = omega arith
one_of w (k ∷ ks) = omega arith

-- a number that depends on whether a key is left after c of them
by_next : (f : List ℕ → ℕ) (a : ℕ) → ((k : ℕ) (ks : List ℕ) → f (k ∷ ks) ≡ a) → (c : ℕ) (ks : List ℕ)
    → f (drop c ks) ≡ cond (ltb c (length ks)) a (f [])
by_next f a h c ks = grind (arith, nat_tests, drop-cons ks c 0, drop_of_length-le ks {i = c}, h (get_or ks c 0) (drop (suc c) ks))

module _ {n places rule : ℕ} {m : Move} {t : List ℕ} (ready : Ready n places m t)
    {read : List Piece} (read_is : read ≡ pieces_of n t)
    {o : Order} (ordered : Ordered rule m.source o read)
    {r : Plan} (plan : r ≡ plan_from 0 (in_order o) m.weight read) where
  abbrev ps : List Piece
  ps = pieces_of n t

  abbrev ks : List ℕ
  ks = in_order o

  abbrev taking : Taken
  taking = singly rule m ps

  length_order : length ks ≡ count_of o
  length_order = length_in_order o

  by_plan : taking ≡ taken_by ks ps r
  unfolding planned
  by_plan =
      let h : length ps ≤ most_places = rw length_pieces (omega (arith, ready.pieces, ready.most)) in
      singly_planned rule m ps ready.source h ready.present ∙ rw (plan, ordered.order, read_is)

  whole_most : r.whole ≤ count_of o
  whole_most = rw plan (omega (arith, length_order, plan_most ks 0 m.weight read))

  rest : length taking.rest + taking.whole ≡ n
  rest = let l = singly_law rule m ps in omega (arith, l.fair.longer, l.counted, length_pieces n t)

  size : length (handed m taking) ≡ n + min 1 r.left
  size =
      let e : taking.split + min 1 taking.born ≡ min 1 r.left = rw by_plan (one_of r.left (drop r.whole ks)) in
      omega (arith, handed_length m ps taking (singly_law rule m ps).fair, length_pieces n t)

  -- a place more is wanted where something is left after the whole ones
  due : full places m taking ≡ cond (eqb r.left 0) false (leb places n)
  due = rw size (grind (arith, nat_tests, ready.pieces))

  module _ {b : Bool} (is : b ≡ cond (eqb r.left 0) false (leb places n)) where
    pub move_refused : b ≡ true → Moves places m taking t t None
    unfolding applied table_left
    move_refused e = record { answer = rw (due ∙ sym is ∙ e); table = rw (due ∙ sym is ∙ e) }

    module _ (e : b ≡ false) where
      free : full places m taking ≡ false
      free = due ∙ sym is ∙ e

      -- the plan, as a withdrawal
      abbrev w : Withdrawal
      w = record { count = n; order = o; plan = r; asked = m }

      pub move_room : Room w t
      move_room = record {
        places = omega (arith, ready.pieces, ready.most);
        pieces = omega (arith, ready.pieces, ready.room);
        goes = whole_most;
        order = omega (arith, ordered.most, ap length read_is, length_pieces n t, ready.pieces, ready.most);
      }

      pub move_applicable : Applicable w t
      move_applicable =
          let h : length (handed m taking) ≤ places = ltb-false _ _ free in
          let f : 4 * length (handed m taking) ≤ length t = omega (arith, ready.room) in
          record { rest = rw by_plan at rest; fits = rw by_plan at f }

      pub move_applied : {t' : List ℕ} {a : Applied} → Applies w t t' a → Moves places m taking t t' (Some a)
      unfolding applied table_left
      move_applied {a = a} done =
          let split = rw length_order at (by_next (splits r.left) (min 1 r.left) (λ k ks. refl) r.whole ks) in
          let born = rw length_order at (by_next (lacking r.left) 0 (λ k ks. refl) r.whole ks) in
          let e : a ≡ accepted m taking = done.answers ∙ rw (← split, ← born) (ap (accepted m) (sym by_plan)) in
          record {
            answer = rw (free, e);
            table = done.stands ∙ sym (rw free (ap (λ (z : Taken). lay (handed m z) t) by_plan));
          }
