-- The plan's walk: c keys of the order are behind, `left` is still wanted, and the plan from here on is the plan z from the start.
-- Assumes nothing.
use Rattle.std.proofs.Common.{arith, ◌≡◌, ◌⊎◌, Option, List, ◌∷◌, ℕ, suc, ◌+◌, ◌-◌, ◌≤◌, ◌<◌, add-one, get_or, drop, drop_of_length-le, drop-cons}
use Rattle.std.specs.List.{slice_get}
use Rattle.std.specs.Option.{UnwrapsOrElse}
use Rattle.std.proofs.lemmas.Option.{unwrap_or-slice_get}
use Rattle.std.proofs.lemmas.Bool.Decides.{nat_tests}
use Rattle.table.specs.declared.Piece.{Piece}
use Rattle.table.specs.Pieces.{no_piece}
use Rattle.picking.specs.declared.selection.Order.{Order}
use Rattle.picking.specs.declared.plan.Plan.{Plan}
use Rattle.picking.specs.Plan.{place_of, at_key, in_order, count_of, plan_from}
use Rattle.picking.proofs.Keys.{length_in_order}

-- the default, where there is no piece at a place: every number of it is 0
abbrev pub Zeros : ℕ → ℕ → ℕ → ℕ → Type 0
Zeros h o b w = (h ≡ 0) × ((o ≡ 0) × ((b ≡ 0) × (w ≡ 0)))

module _ (o : Order) (c left : ℕ) (ps : List Piece) (z : Plan) where
  abbrev ks : List ℕ
  ks = in_order o

  -- q is the piece that the next key gives, if it is there, and p the piece read
  module _ (h : c < count_of o) (e : plan_from c (drop c ks) left ps ≡ z) (i : ℕ) (ei : i ≡ place_of (get_or ks c 0))
      (q : Option Piece) (p : Piece) (eq : q ≡ slice_get ps i) (ep : UnwrapsOrElse q (λ r. Zeros r.holder r.origin r.birth r.weight) p) where
    here : plan_from c (get_or ks c 0 ∷ drop (suc c) ks) left ps ≡ z
    here = rw (drop-cons ks c 0 (rw (length_in_order o) h)) at e

    seen : at_key ps (get_or ks c 0) ≡ p
    seen = grind (arith, unwrap_or-slice_get ps i no_piece)

    pub plan_next : (left ≡ 0 → ⊥) → p.weight ≤ left → plan_from (c + 1) (drop (c + 1) ks) (left - p.weight) ps ≡ z
    unfolding plan_from
    plan_next more g = grind (arith, nat_tests, add-one c, seen, here)

    pub plan_stop : (left ≡ 0) ⊎ ((left ≡ 0 → ⊥) × left < p.weight) → record { whole = c; left = left } ≡ z
    unfolding plan_from
    plan_stop why = grind (arith, nat_tests, seen, here)

  pub plan_end : count_of o ≤ c → plan_from c (drop c ks) left ps ≡ z → record { whole = c; left = left } ≡ z
  unfolding plan_from
  plan_end g e = rw (drop_of_length-le ks {i = c} (rw (length_in_order o) g)) at e
