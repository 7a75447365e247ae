-- The checks of transfer, lift, tip and the setting of a rule: what it tells of each that none applies, that none
-- applies where that holds, and what decides of a transfer once 5 to 8 do not.
-- Assumes nothing.
use Rattle.std.proofs.Common.{◌≡◌, ◌≢◌, ◌∙◌, lt-ltb, [], ◌∷◌, ℕ, ◌+◌, ◌≤◌, ◌<◌, ltb, eqb, arith}
use Rattle.std.proofs.lemmas.Bool.Decides.{nat_tests}
use Rattle.taking.specs.Stirring.{stirred_rule}
use Rattle.refusal.specs.Numbers.{TOP, ◌if◌, first}
use Rattle.book.specs.declared.Transfer.{Transfer}
use Rattle.book.specs.declared.Lift.{Lift}
use Rattle.book.specs.declared.Tip.{Tip}
use Rattle.book.specs.declared.Setting.{Setting}
use Rattle.book.specs.Motion.{Standing}
use Rattle.book.specs.Transfer.{transfer_checks}
use Rattle.book.specs.Scale.{lift_checks, tip_checks}
use Rattle.book.specs.Setting.{setting_checks}

pub record Fit (g : Standing) (x : Transfer) : Type 0 where
  pub source_in : x.source < g.vessels
  pub destination_in : x.destination < g.vessels
  pub apart : x.source ≢ x.destination
  pub weighty : 1 ≤ x.weight
  pub forward : g.last ≤ x.minute
  pub in_time : x.age ≤ x.minute
  pub room : g.balance x.destination + x.weight ≤ TOP
  pub tally : g.accepted ≢ TOP

pub fit : (g : Standing) (x : Transfer) → first (transfer_checks g x) ≡ 0 → Fit g x
unfolding transfer_checks
fit g x e = grind (arith, nat_tests)

-- a lift onto a scale
pub record LiftFit (scale : ℕ) (g : Standing) (x : Lift) : Type 0 where
  pub bare : g.balance scale ≡ 0
  pub source_in : x.source < g.vessels
  pub weighty : 1 ≤ x.weight
  pub forward : g.last ≤ x.minute
  pub in_time : x.age ≤ x.minute
  pub tally : g.accepted ≢ TOP

pub lift_fit : (scale : ℕ) (g : Standing) (x : Lift) → first (lift_checks scale g x) ≡ 0 → LiftFit scale g x
unfolding lift_checks
lift_fit scale g x e = grind (arith, nat_tests)

-- a tip of a scale
pub record TipFit (scale : ℕ) (g : Standing) (y : Tip) : Type 0 where
  pub load : g.balance scale ≢ 0
  pub destination_in : y.destination < g.vessels
  pub forward : g.last ≤ y.minute
  pub room : g.balance y.destination + g.balance scale ≤ TOP

pub tip_fit : (scale : ℕ) (g : Standing) (y : Tip) → first (tip_checks scale g y) ≡ 0 → TipFit scale g y
unfolding tip_checks
tip_fit scale g y e = grind (arith, nat_tests)

-- the setting of a rule
pub record SettingFit (size : ℕ) (s : Setting) : Type 0 where
  pub vessel_in : s.vessel < size
  pub rule_known : s.rule ≤ stirred_rule

pub setting_fit : (size : ℕ) (s : Setting) → first (setting_checks size s) ≡ 0 → SettingFit size s
unfolding setting_checks
setting_fit size s e = grind (arith, nat_tests)

-- and the other way round: where all of that holds, none applies
pub lift_passes : (scale : ℕ) (g : Standing) (x : Lift) → LiftFit scale g x → first (lift_checks scale g x) ≡ 0
unfolding lift_checks
lift_passes scale g x f = grind (arith, nat_tests)

pub tip_passes : (scale : ℕ) (g : Standing) (y : Tip) → TipFit scale g y → first (tip_checks scale g y) ≡ 0
unfolding tip_checks
tip_passes scale g y f = grind (arith, nat_tests)

module _ (g : Standing) (x : Transfer) (source_in : x.source < g.vessels) (destination_in : x.destination < g.vessels)
    (apart : x.source ≢ x.destination) (weighty : x.weight ≢ 0) (forward : g.last ≤ x.minute) where
  pub past_clock : first (transfer_checks g x)
      ≡ first (21 if ltb x.minute x.age ∷ 9 if ltb TOP (g.balance x.destination + x.weight) ∷ 10 if eqb g.accepted TOP ∷ [])
  unfolding transfer_checks
  past_clock = grind (arith, nat_tests)

-- Past 5 to 8 an age above the minute is 21, whatever the balances are: so also where nothing would be born.
pub before_time : (g : Standing) (x : Transfer) → x.source < g.vessels → x.destination < g.vessels → x.source ≢ x.destination → x.weight ≢ 0
    → g.last ≤ x.minute → x.minute < x.age → first (transfer_checks g x) ≡ 21
before_time g x source_in destination_in apart weighty forward early = past_clock g x source_in destination_in apart weighty forward ∙ rw (lt-ltb _ _ early)
