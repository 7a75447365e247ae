-- The public calls: what they promise of the contents, from what the steps promise of memory.
-- Assumes nothing.
use Rattle.std.proofs.Common.{◌≡◌, refl, sym, ap, ◌∙◌, ◌≢◌, true, false, not, List, Some, None, ℕ, ◌≤◌, ◌<◌, arith, eqb, ltb-false}
use lib.ListN.{length-map}
use Rattle.taking.specs.declared.Move.{Move}
use Rattle.taking.specs.Stirring.{stirred_rule}
use Rattle.taking.specs.declared.Applied.{Applied}
use Rattle.taking.specs.Applied.{full, applied}
use Rattle.lanes.specs.Order.{at_slot, ahead}
use Rattle.lanes.specs.Chains.{start, Chain}
use Rattle.lanes.specs.Lanes.{most_lanes, Contents, taken_of, Movable, Moves}
use Rattle.lanes.specs.declared.Store.{Store}
use Rattle.lanes.specs.Store.{received, pieces_in, lane_of, contents, InOrder}
use Rattle.lanes.specs.Steps.{Leads}
use Rattle.lanes.specs.Walk.{remains}
use Rattle.lanes.specs.Moving.{Going, Made, Roomy}
use Rattle.lanes.proofs.Order.{length_in_order}
use Rattle.lanes.proofs.Walk.{full_is, not_full, full_if_left}

module _ (rule : ℕ) (s : Store) (o : InOrder rule s) (places : ℕ) (m : Move) (c : Contents) (view : contents rule s ≡ c) (h : Movable places m c) where
  few : s.count ≤ places
  few = omega (arith, o.kept.listed.all, rw length-map at (rw (← view) at h.pieces))

  pub few_full : s.count < places → false ≡ full places m (taken_of m c)
  few_full q = rw (← view) (sym (not_full rule m s.pieces (received s) o.singly places (rw o.kept.listed.all q)))

  pub lane_leads : (m.source < most_lanes) × Leads (start m.source) s
  lane_leads =
      let n = length_in_order (ahead rule s.pieces) (λ i. eqb (at_slot s.pieces i).holder m.source) (received s) in
      (h.source, record { place = omega (arith, h.source); line = lane_of rule s m.source; chain = o.kept.chained m.source h.source; short = omega (arith, n, o.kept.listed.all, o.kept.listed.few) })

  pub left_full : places ≤ s.count → (left : ℕ) → ((l : List ℕ) → Chain s.next (start m.source) l → left ≡ remains s.pieces m.weight l)
      → not (eqb left 0) ≡ full places m (taken_of m c)
  left_full q left e =
      let w = full_if_left rule m s.pieces (received s) o.singly places (omega (arith, q, few, o.kept.listed.all)) in
      rw (← view, e (lane_of rule s m.source) (o.kept.chained m.source h.source)) (sym w)

  -- a move that is full
  pub not_moved : full places m (taken_of m c) ≡ true → Moves places m c c None
  unfolding applied
  not_moved e = record { answer = rw e refl; contents = rw e refl }

  -- one that is not
  module _ (e : full places m (taken_of m c) ≡ false) (s₁ : Store) (r : Roomy rule s s₁) where
    pub going : Going rule m s₁ × (rule ≢ stirred_rule)
    going = (
      record {
        kept = r.kept;
        source = h.source;
        destination = h.destination;
        apart = h.apart;
        place = λ some.
            let q = ltb-false places _ (sym (full_is rule m s.pieces (received s) o.singly places) ∙ rw (← view) at e) in
            let some' = rw (r.pieces, r.order) at some in
            rw r.count (omega (arith, q, some', h.most, o.kept.listed.all));
        room = r.room;
      },
      o.singly,
    )

    pub moved : (s₂ : Store) (a : Applied) → Made rule m s₁ s₂ a → Moves places m c (contents rule s₂) (Some a)
    unfolding applied
    moved s₂ a d =
        let same : pieces_in s₁ ≡ pieces_in s = rw (r.pieces, r.order) refl in
        record { answer = rw e (ap Some (rw (← view, ← same) d.answer)); contents = rw e (rw (← view, ← same) (ap (λ ps. record { rule = rule; pieces = ps }) d.pieces)) }
