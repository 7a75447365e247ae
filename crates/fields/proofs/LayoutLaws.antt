-- Laws of a sheet's limits: which counts of movements it can have. Assumes nothing.
use Rattle.std.proofs.Common.{ℕ, ◌≤◌, ◌≡◌, sym, ◌∙◌, Bool, false, ltb-false, le-ltb}
use Rattle.fields.specs.Layout.{most_movements, movements_off}

pub few_movements : (n : ℕ) (r : Bool) → r ≡ movements_off n → r ≡ false → n ≤ most_movements
unfolding movements_off
few_movements n r e q = ltb-false most_movements n (sym e ∙ q)

pub movements_fit : (n : ℕ) → n ≤ most_movements → movements_off n ≡ false
unfolding movements_off
movements_fit n h = le-ltb most_movements n h
