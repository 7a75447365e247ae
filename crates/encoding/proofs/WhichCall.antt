-- WHICH CALL SIX NUMBERS ARE, of all numbers: each kind with its arguments in their order, any other kind the whole
-- report; and which number of a call is an age. A definition that is altered together with code and proofs fails here.
-- Assumes nothing.
use Rattle.std.proofs.Common.{◌≡◌, refl, false, List, [], ◌∷◌, ℕ, ◌≤◌, arith, ltb, ne_eqb}
use Rattle.book.specs.declared.Report.TheVariants.{Held, Spread, Whole}
use Rattle.book.specs.Transfer.{transfer_of}
use Rattle.book.specs.Scale.{lift_of, tip_of}
use Rattle.book.specs.Setting.{setting_of}
use Rattle.book.specs.Calls.{Call, post, lift, tip, set_rule, ask}
use Rattle.encoding.specs.Encoding.{call_listed, call_in, age_off}

abbrev numbers : ℕ → ℕ → ℕ → ℕ → ℕ → ℕ → List ℕ
numbers kind a b c d e = kind ∷ a ∷ b ∷ c ∷ d ∷ e ∷ []

module _ (a b c d e : ℕ) (room : List ℕ) where
  abbrev call : ℕ → Call
  call kind = call_in (numbers kind a b c d e) room

  pub kinds : (call 0 ≡ post (transfer_of a b c d e)) × (call 1 ≡ ask (Held a) room) × (call 2 ≡ ask (Spread a b c) room) × (call 3 ≡ ask Whole room)
      × (call 4 ≡ lift (lift_of a b c d)) × (call 5 ≡ tip (tip_of a b)) × (call 6 ≡ set_rule (setting_of a b))
  unfolding call_listed
  kinds = (refl, refl, refl, refl, refl, refl, refl)

  pub other_kinds : (kind : ℕ) → 7 ≤ kind → call kind ≡ ask Whole room
  unfolding call_listed
  other_kinds kind h =
      rw (
        ne_eqb kind 0 (λ z. omega arith),
        ne_eqb kind 1 (λ z. omega arith),
        ne_eqb kind 2 (λ z. omega arith),
        ne_eqb kind 4 (λ z. omega arith),
        ne_eqb kind 5 (λ z. omega arith),
        ne_eqb kind 6 (λ z. omega arith),
      )

  -- a transfer's fifth argument and a lift's fourth, and no other number of a call
  pub ages : (age_off (numbers 0 a b c d e) ≡ ltb 65535 e) × (age_off (numbers 4 a b c d e) ≡ ltb 65535 d)
      × ((kind : ℕ) → (kind ≡ 0 → ⊥) → (kind ≡ 4 → ⊥) → age_off (numbers kind a b c d e) ≡ false)
  unfolding age_off
  ages = (refl, refl, λ kind nt nl. rw (ne_eqb kind 0 nt, ne_eqb kind 4 nl))
