-- Before a slot is in use, memory is in order and holds no piece.
-- Assumes nothing.
use Rattle.std.proofs.Common.{◌≡◌, refl, [], ℕ, ◌+◌, ◌<◌, arith}
use Rattle.std.proofs.lemmas.Bool.Decides.{nat_tests}
use Rattle.std.proofs.lemmas.List.{get_or-replicate, length-replicate}
use Rattle.table.specs.Table.{most_places}
use Rattle.table.specs.Pieces.{no_piece}
use Rattle.taking.specs.Stirring.{stirred_rule}
use Rattle.lanes.specs.Notes.{has, latest}
use Rattle.lanes.specs.Order.{in_order}
use Rattle.lanes.specs.Chains.{start, ends}
use Rattle.lanes.specs.Lanes.{most_lanes}
use Rattle.lanes.specs.Store.{fresh, Kept, contents, InOrder}

kept : (rule : ℕ) → Kept rule fresh
unfolding fresh latest has in_order
kept rule = record {
  slots = length-replicate most_places no_piece;
  room = omega arith;
  keyed = λ i h. absurd (omega (arith, h));
  listed = record { few = omega arith; noted = λ i. grind (arith, nat_tests); all = refl };
  chained = λ v h. ends (get_or-replicate {A = ℕ} (most_places + most_lanes) (start v) 0 0 (omega (arith, h)));
}

pub fresh_order : (rule : ℕ) → rule < stirred_rule → InOrder rule fresh
fresh_order rule h = record { kept = kept rule; singly = λ e. omega (arith, e, h) }

pub fresh_contents : (rule : ℕ) → contents rule fresh ≡ record { rule = rule; pieces = [] }
unfolding fresh latest
fresh_contents rule = refl
