-- The pieces are written into a table in order of receipt.
-- Assumes nothing.
use Rattle.std.proofs.Common.{◌≡◌, refl, sym, ap, ◌∙◌, List, ℕ, ◌+◌, ◌*◌, ◌≤◌, ◌<◌, arith, length, get_or, take, get_or-take, ltb-true}
use Rattle.std.proofs.lemmas.List.{get_or-map, take_all}
use lib.ListN.{length-map}
use Rattle.table.specs.declared.Piece.{Piece}
use Rattle.table.specs.Pieces.{no_piece}
use Rattle.table.specs.Table.{most_places, lay, put_in}
use Rattle.lanes.specs.Order.{at_slot}
use Rattle.lanes.specs.declared.Store.{Store}
use Rattle.lanes.specs.Store.{received, pieces_in, contents, InOrder}
use Rattle.lanes.specs.Lanes.{Contents}
use Rattle.lanes.specs.Moving.{Roomy}
use Rattle.lanes.proofs.Made.{roomy}
use Rattle.lanes.specs.Steps.{Closed, Writable}
use Rattle.lanes.proofs.Notes.{has_at}
use Rattle.lanes.proofs.Laid.{lay_none, lay_next}

module _ (s : Store) (w : Writable s) where
  module _ (j x : ℕ) (e : x ≡ get_or s.log j 0) (q : j < s.count) where
    here : x ≡ get_or (received s) j 0
    here = e ∙ sym (get_or-take s.count s.log j 0 q) ∙ ap (λ (l : List ℕ). get_or l j 0) w.closed

    pub slot_inside : x < most_places
    slot_inside =
        let h = has_at (received s) j (omega (arith, q, w.listed.all)) in
        let k = ltb-true x s.count (sym (w.listed.noted x) ∙ rw here h) in
        omega (arith, k, w.listed.few)

    picked : get_or (pieces_in s) j no_piece ≡ at_slot s.pieces x
    picked = get_or-map (at_slot s.pieces) (received s) j 0 no_piece (omega (arith, q, w.listed.all)) ∙ ap (at_slot s.pieces) (sym here)

    pub written_on : (table t : List ℕ) → t ≡ lay (take j (pieces_in s)) table → put_in (j + 1) j (at_slot s.pieces x) t ≡ lay (take (j + 1) (pieces_in s)) table
    written_on table t i = rw (i, ← picked) (lay_next (pieces_in s) table j (rw length-map (omega (arith, q, w.listed.all))))

  pub written_start : (table : List ℕ) → table ≡ lay (take 0 (pieces_in s)) table
  written_start table = sym (lay_none (pieces_in s) table)

  pub written_all : (j : ℕ) → j ≡ s.count → (table t : List ℕ) → t ≡ lay (take j (pieces_in s)) table → t ≡ lay (pieces_in s) table
  written_all j q table t e = e ∙ ap (λ (qs : List Piece). lay qs table) (take_all j (pieces_in s) (rw length-map (omega (arith, q, w.listed.all))))

-- memory whose log was closed
module _ (rule : ℕ) (s s' : Store) (o : InOrder rule s) (c : Closed s s') where
  abbrev r : Roomy rule s s'
  r = roomy rule s s' o.kept c

  pub closed_order : InOrder rule s'
  closed_order = record { kept = r.kept; singly = o.singly }

  pub closed_same : contents rule s' ≡ contents rule s
  closed_same = rw (r.pieces, r.order) refl

  pub closed_writable : Writable s'
  closed_writable = record {
    listed = r.kept.listed;
    closed = ap (λ n. take n s'.log) (c.count ∙ sym c.noted) ∙ c.log ∙ sym r.order;
  }

  module _ (contents_are : Contents) (view : contents rule s ≡ contents_are) where
    pub closed_fits : (table : List ℕ) → 4 * length contents_are.pieces ≤ length table → 4 * s'.count ≤ length table
    closed_fits table h = omega (arith, rw length-map at (rw (← view) at h), o.kept.listed.all, c.count)

    pub closed_laid : (table table' : List ℕ) → table' ≡ lay (pieces_in s') table → (table' ≡ lay contents_are.pieces table) × (contents rule s' ≡ contents_are)
    closed_laid table table' e = (e ∙ ap (λ (k : Contents). lay k.pieces table) (closed_same ∙ view), closed_same ∙ view)
