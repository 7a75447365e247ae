-- The pieces that go whole are lifted, one after the other: c keys of `gone` are behind, and what the rest of them
-- vacates and picks completes what all of them do. What lies behind the pieces stays.
-- Assumes nothing.
use Rattle.std.proofs.Common.{◌≡◌, sym, ap, ◌∙◌, List, [], ◌∷◌, ◌++◌, append_assoc, append-nil, map, ℕ, suc, ◌+◌, ◌*◌, ◌≤◌, ◌<◌, add-one, arith, length, get_or, drop, length-take, drop_of_length-le, drop-cons, get_or-take}
use Rattle.table.specs.Table.{pieces_of, piece_in}
use Rattle.table.proofs.Table.{formed, put_pieces, put_behind, put_more}
use Rattle.picking.specs.Plan.{place_of, in_order, vacate_at, vacate_all, picked}
use Rattle.picking.proofs.Keys.{length_in_order}
use Rattle.moving.specs.declared.apply.Withdrawal.{Withdrawal}
use Rattle.moving.specs.Ready.{lifted_places}
use Rattle.moving.specs.Parts.{Room, pieces, gone, place, nth, sent, LiftsOne, Lifts}

pub record Lifting (w : Withdrawal) (c : ℕ) (t₀ t l : List ℕ) : Type 0 where
  pub vacates : vacate_all (drop c (gone w)) (pieces w t) ≡ vacate_all (gone w) (pieces w t₀)
  pub picks : pieces_of c l ++ map (sent w) (picked (drop c (gone w)) (pieces w t)) ≡ map (sent w) (picked (gone w) (pieces w t₀))
  pub behind : drop (4 * w.count) t ≡ drop (4 * w.count) t₀

module _ (w : Withdrawal) (c : ℕ) (t₀ t l : List ℕ) (room : Room w t₀) (s : Lifting w c t₀ t l) where
  abbrev going : List ℕ
  going = gone w

  long : length going ≡ w.plan.whole
  long = simp length-take (omega (arith, length_in_order w.order, room.goes))

  pub lift_next : (t' l' : List ℕ) → c < w.plan.whole → LiftsOne w c t l t' l' → Lifting w (c + 1) t₀ t' l'
  unfolding vacate_all picked
  lift_next t' l' h one =
      let k : ℕ = get_or going c 0 in
      let next : List ℕ = drop (suc c) going in
      let cons : drop c going ≡ k ∷ next = drop-cons going c 0 (rw long h) in
      let same : place_of k ≡ place w c = ap place_of (get_or-take w.plan.whole (in_order w.order) c 0 h) in
      let ps : pieces w t' ≡ vacate_at (place w c) (pieces w t) = put_pieces w.count (place w c) t t' _ one.stands in
      let vacates : vacate_all next (vacate_at (place_of k) (pieces w t)) ≡ vacate_all going (pieces w t₀) = rw cons at s.vacates in
      let picks : pieces_of c l ++ (sent w (piece_in w.count t (place_of k)) ∷ map (sent w) (picked next (vacate_at (place_of k) (pieces w t))))
      ≡ map (sent w) (picked going (pieces w t₀)) = rw cons at s.picks in
      let more : pieces_of (c + 1) l' ≡ pieces_of c l ++ (sent w (nth w c t) ∷ []) = put_more lifted_places c l l' _ one.goes (omega (arith, room.goes, room.order)) in
      record {
        vacates = rw (add-one, ps) (rw same at vacates);
        picks = rw (more, add-one, ps, append_assoc) (rw same at picks);
        behind = put_behind w.count (place w c) t t' _ one.stands ∙ s.behind;
      }

  pub lift_end : length t ≡ length t₀ → c ≤ w.plan.whole → w.plan.whole ≤ c → Lifts w t₀ t l
  unfolding vacate_all picked
  lift_end same h g =
      let e : c ≡ w.plan.whole = omega arith in
      let no : drop c going ≡ [] = drop_of_length-le going {i = c} (omega (arith, long)) in
      record {
        stands = formed w.count t (omega (arith, room.pieces)) ∙ rw (s.behind, rw no at s.vacates);
        goes = ap (λ (k : ℕ). pieces_of k l) (sym e) ∙ sym (append-nil (pieces_of c l)) ∙ (rw no at s.picks);
      }
