-- What the parts of the code promise each other: w is what a move takes out of a table, t is the table and l the memory
-- for lifted pieces; with a prime, afterwards.
-- Definitions only. Assumes nothing.
use Rattle.std.specs.Prelude.{◌≡◌, cond, List, ◌++◌, map, ℕ, ◌+◌, ◌-◌, ◌*◌, ◌≤◌, min, ltb, length, get_or, take, drop}
use Rattle.table.specs.declared.Piece.{Piece}
use Rattle.table.specs.Pieces.{hand_to, of_weight, if_any}
use Rattle.table.specs.Table.{most_places, pieces_of, lay, over, piece_in, put_in}
use Rattle.table.specs.Closing.{vacated}
use Rattle.taking.specs.Taken.{Taken}
use Rattle.taking.specs.Taking.{newborn, handed}
use Rattle.taking.specs.declared.Applied.{Applied}
use Rattle.picking.specs.Plan.{place_of, in_order, count_of, vacate_all, picked, reduced, part, lacking, taken_by}
use Rattle.moving.specs.declared.apply.Withdrawal.{Withdrawal}
use Rattle.moving.specs.Ready.{lifted_places}

-- There is room: for the pieces in the table, and for all that is lifted.
pub record Room (w : Withdrawal) (t : List ℕ) : Type 0 where
  pub places : w.count ≤ most_places
  pub pieces : 4 * w.count ≤ length t
  pub goes : w.plan.whole ≤ count_of w.order
  pub order : count_of w.order ≤ most_places

-- the pieces in the table
abbrev pub pieces : Withdrawal → List ℕ → List Piece
pieces w t = pieces_of w.count t

-- the keys of the pieces that go whole, and of those that do not
abbrev pub gone : Withdrawal → List ℕ
gone w = take w.plan.whole (in_order w.order)

abbrev pub next : Withdrawal → List ℕ
next w = drop w.plan.whole (in_order w.order)

-- the place of the piece that is picked as number c, and the piece
abbrev pub place : Withdrawal → ℕ → ℕ
place w c = place_of (get_or (in_order w.order) c 0)

abbrev pub nth : Withdrawal → ℕ → List ℕ → Piece
nth w c t = piece_in w.count t (place w c)

-- the piece, handed over
abbrev pub sent : Withdrawal → Piece → Piece
sent w p = hand_to w.asked.destination p

-- The piece that is picked as number c goes whole, to place c of the lifted, and its place is vacant.
pub record LiftsOne (w : Withdrawal) (c : ℕ) (t l t' l' : List ℕ) : Type 0 where
  pub stands : t' ≡ put_in w.count (place w c) (vacated (nth w c t)) t
  pub goes : l' ≡ put_in lifted_places c (sent w (nth w c t)) l

-- The pieces that go whole are lifted: their places are vacant, and they are copied with the new holder.
pub record Lifts (w : Withdrawal) (t t' l' : List ℕ) : Type 0 where
  pub stands : t' ≡ over w.count (vacate_all (gone w) (pieces w t)) t
  pub goes : pieces_of w.plan.whole l' ≡ map (sent w) (picked (gone w) (pieces w t))

-- The weight left is taken of the piece that follows, and goes behind the lifted; the rest of it stays.
pub record Splits (w : Withdrawal) (t l t' l' : List ℕ) : Type 0 where
  pub stands : t' ≡ put_in w.count (place w w.plan.whole) (of_weight ((nth w w.plan.whole t).weight - w.plan.left) (nth w w.plan.whole t)) t
  pub goes : l' ≡ put_in lifted_places w.plan.whole (sent w (of_weight w.plan.left (nth w w.plan.whole t))) l

-- What follows the whole ones is put behind them: the part of a split, what is born, or nothing. Then g pieces are
-- lifted.
pub record Follows (w : Withdrawal) (t l t' l' : List ℕ) (g : ℕ) : Type 0 where
  pub stands : t' ≡ over w.count (reduced w.plan.left (next w) (pieces w t)) t
  pub goes : pieces_of g l' ≡ pieces_of w.plan.whole l
      ++ (map (sent w) (part w.plan.left (next w) (pieces w t)) ++ if_any (newborn w.asked (lacking w.plan.left (next w))))
  pub most : g ≤ lifted_places

-- what the plan takes of the pieces in the table, and what is left when that is handed over
abbrev pub plan_taken : Withdrawal → List ℕ → Taken
plan_taken w t = taken_by (in_order w.order) (pieces w t) w.plan

abbrev pub plan_handed : Withdrawal → List ℕ → List Piece
plan_handed w t = handed w.asked (plan_taken w t)

-- Both: all that the plan takes is lifted.
pub record Gathers (w : Withdrawal) (t t' l' : List ℕ) (g : ℕ) : Type 0 where
  pub stands : t' ≡ over w.count (reduced w.plan.left (next w) (vacate_all (gone w) (pieces w t))) t
  pub goes : pieces_of g l' ≡ map (sent w) (plan_taken w t).given ++ if_any (newborn w.asked (plan_taken w t).born)
  pub least : w.plan.whole ≤ g
  pub most : g ≤ lifted_places

-- the answer where the plan was applied and leaves so many pieces
abbrev pub plan_answer : Withdrawal → ℕ → Applied
plan_answer w count = record {
  whole = w.plan.whole;
  split = cond (ltb w.plan.whole (count_of w.order)) (min 1 w.plan.left) 0;
  born = cond (ltb w.plan.whole (count_of w.order)) 0 w.plan.left;
  count = count;
}

-- The plan can be applied: no piece is lost, and the table has room.
pub record Applicable (w : Withdrawal) (t : List ℕ) : Type 0 where
  pub rest : length (plan_taken w t).rest + w.plan.whole ≡ w.count
  pub fits : 4 * length (plan_handed w t) ≤ length t

-- It is applied, and this is the answer.
pub record Applies (w : Withdrawal) (t t' : List ℕ) (a : Applied) : Type 0 where
  pub stands : t' ≡ lay (plan_handed w t) t
  pub answers : a ≡ plan_answer w (length (plan_handed w t))
