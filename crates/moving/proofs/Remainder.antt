-- What follows the pieces that go whole: nothing where nothing is wanted, the part of a split, or what is born.
-- Assumes nothing.
use Rattle.std.proofs.Common.{◌≡◌, refl, List, [], ◌∷◌, ◌++◌, append-nil, map, ℕ, suc, ◌+◌, ◌≤◌, ◌<◌, arith, length, get_or, drop, drop_of_length-le, drop-cons, ne_eqb}
use Rattle.table.specs.declared.Piece.{Piece}
use Rattle.table.specs.Pieces.{hand_to, if_any}
use Rattle.table.specs.Table.{put_in}
use Rattle.table.proofs.Table.{formed, put_more}
use Rattle.taking.specs.declared.Move.{Move}
use Rattle.taking.specs.Taking.{newborn}
use Rattle.picking.specs.Plan.{in_order, count_of, part, lacking}
use Rattle.picking.proofs.Keys.{length_in_order}
use Rattle.picking.proofs.Planned.{reduced_zero}
use Rattle.moving.specs.declared.apply.Withdrawal.{Withdrawal}
use Rattle.moving.specs.Ready.{lifted_places}
use Rattle.moving.specs.Parts.{Room, next, Splits, Follows}

nothing_more : (m : Move) (ks : List ℕ) (ps : List Piece)
    → map (hand_to m.destination) (part 0 ks ps) ++ if_any (newborn m (lacking 0 ks)) ≡ []
nothing_more m [] ps = refl
nothing_more m (k ∷ ks) ps = refl

module _ (w : Withdrawal) (t l : List ℕ) (room : Room w t) where
  abbrev ks : List ℕ
  ks = in_order w.order

  long : length ks ≡ count_of w.order
  long = length_in_order w.order

  pub remains_none : w.plan.left ≡ 0 → Follows w t l t l w.plan.whole
  remains_none e = record {
    stands = rw (e, reduced_zero) (formed w.count t room.pieces);
    goes = rw (e, nothing_more, append-nil);
    most = omega (arith, room.goes, room.order);
  }

  module _ (more : w.plan.left ≡ 0 → ⊥) (l' : List ℕ) where
    pub remains_split : (t' : List ℕ) → w.plan.whole < count_of w.order → Splits w t l t' l' → Follows w t l t' l' (w.plan.whole + 1)
    remains_split t' h split =
        let cons : next w ≡ get_or ks w.plan.whole 0 ∷ drop (suc w.plan.whole) ks = drop-cons ks w.plan.whole 0 (rw long h) in
        record {
          stands = rw cons split.stands;
          goes = rw (cons, ne_eqb _ _ more) (put_more lifted_places w.plan.whole l l' _ split.goes (omega (arith, room.order)));
          most = omega (arith, room.order);
        }

    pub remains_born : count_of w.order ≤ w.plan.whole → l' ≡ put_in lifted_places w.plan.whole (newborn w.asked w.plan.left) l
        → Follows w t l t l' (w.plan.whole + 1)
    remains_born h e =
        let spent : next w ≡ [] = drop_of_length-le ks {i = w.plan.whole} (rw long h) in
        record {
          stands = rw spent (formed w.count t room.pieces);
          goes = rw (spent, ne_eqb _ _ more) (put_more lifted_places w.plan.whole l l' _ e (omega (arith, room.goes, room.order)));
          most = omega (arith, room.goes, room.order);
        }
