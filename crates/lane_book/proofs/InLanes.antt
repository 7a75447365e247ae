-- A motion carried in lanes is the motion on head and table. Every vessel has the book's rule, so that lanes by that
-- one rule take what the book takes; and pieces never become fewer, so that the table as it would be, written anew
-- after each motion, is the one lent with the pieces written at the end.
-- Assumes nothing.
use Rattle.std.proofs.Common.{◌≡◌, refl, sym, ◌∙◌, Bool, true, false, cond, Option, List, ℕ, ◌*◌, ◌≤◌, arith, length, drop}
use Rattle.std.proofs.lemmas.Bool.Decides.{nat_tests}
use Rattle.table.specs.Table.{pieces_of, places_of, lay, places_in}
use Rattle.table.proofs.Table.{pieces_over, places_fit}
use Rattle.taking.specs.Taken.{Taken}
use Rattle.taking.specs.Taking.{handed}
use Rattle.taking.specs.declared.Applied.{Applied}
use Rattle.taking.specs.Applied.{full, applied, table_left}
use Rattle.taking.specs.Applied as Table
use Rattle.lanes.specs.Lanes.{Contents, Movable, taken_of, Moves}
use Rattle.lanes.proofs.Laid.{lay_twice, length_lay}
use Rattle.book.specs.declared.Head.{Head}
use Rattle.book.specs.declared.Motion.{Motion}
use Rattle.book.specs.Head.{with_balance, book_of, rule_at}
use Rattle.book.specs.Motion.{takes}
use Rattle.book.proofs.Known.{Known}
use Rattle.book.proofs.RuleLaws.{given_at}
use Rattle.book.proofs.Sound.{after_length}
use Rattle.book.specs.Memory.{Audited}
use Rattle.motions.specs.Carrying.{Carriable, head_after}
use Rattle.book.proofs.Audited.{audited_known, vessels_fit}
use Rattle.lane_book.specs.InLanes.{InLanes, BetweenVessels}

module _ (h : Head) (c : Contents) (t : List ℕ) (w : Audited h (lay c.pieces t)) (m : Motion) (f : Carriable h m)
    (l : InLanes h c t) (s : BetweenVessels h m) where
  abbrev table : List ℕ
  table = lay c.pieces t

  abbrev r : Taken
  r = taken_of m.moves c

  k : Known h table
  k = audited_known h table w

  -- the pieces of the book are those in the lanes
  pieces_are : pieces_of h.pieces table ≡ c.pieces
  pieces_are = pieces_over h.pieces c.pieces (drop (4 * length c.pieces) t) l.count

  places_are : places_of table ≡ places_of t
  unfolding places_in
  places_are = rw (length_lay c.pieces t l.room) refl

  -- the book takes what the lanes take
  rule_is : rule_at h.rules m.moves.source ≡ c.rule
  rule_is = rw (l.rules, l.rule) (given_at h.rule h.vessels m.moves.source (vessels_fit h table w) s.from_vessel)

  takes_are : takes (book_of h table) m ≡ r
  unfolding takes
  takes_are = rw (rule_is, pieces_are) refl

  pub movable : (p : ℕ) → p ≡ places_of t → Movable p m.moves c
  unfolding places_in
  movable p ep = grind (arith, f, s, k.few, places_are, l.count, vessels_fit h table w)

  -- The pieces were moved, or there was no place.
  module _ (p : ℕ) (ep : p ≡ places_of t) (c' : Contents) (o : Option Applied) (moves : Moves p m.moves c c' o) where
    places_there : p ≡ places_of table
    places_there = ep ∙ sym places_are

    no_fewer : length c.pieces ≤ length (handed m.moves r)
    no_fewer = grind (arith, after_length (book_of h table) m, takes_are, pieces_are)

    table_is : lay c'.pieces t ≡ table_left (places_of table) m.moves (takes (book_of h table) m) table
    unfolding table_left
    table_is = rw (moves.contents, ← places_there, takes_are) (go (full p m.moves r))
      where
        go : (b : Bool) → lay (cond b c.pieces (handed m.moves r)) t ≡ cond b table (lay (handed m.moves r) table)
        go true = refl
        go false = sym (lay_twice c.pieces (handed m.moves r) t no_fewer)

    pub lanes_move : Table.Moves (places_of table) m.moves (takes (book_of h table) m) table (lay c'.pieces t) o
    lanes_move = record { answer = moves.answer ∙ rw (places_there, takes_are) refl; table = table_is }

    pub lanes_keep : InLanes (head_after h m o) c' t
    unfolding applied with_balance
    lanes_keep = go (full p m.moves r) refl
      where
        go : (b : Bool) → full p m.moves r ≡ b → InLanes (head_after h m o) c' t
        go true e = rw (moves.answer, e, moves.contents, e) l
        go false e =
            let had = places_fit t (length (handed m.moves r)) p ep (grind (arith, nat_tests)) in
            rw (moves.answer, e, moves.contents, e) (
            record { rules = l.rules; rule = l.rule; count = refl; room = had })
