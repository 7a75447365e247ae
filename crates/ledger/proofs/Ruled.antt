-- The setting of a rule on head and table: refused, and on a book that adds up.
-- Assumes nothing.
use Rattle.std.proofs.Common.{◌≡◌, refl, sym, ◌∙◌, List, ℕ, ◌<◌, ◌≤◌, arith, Result, Ok}
use Rattle.std.specs.Result.{IsErrAnd}
use Rattle.refusal.specs.Numbers.{first}
use Rattle.refusal.specs.declared.Refusal.{Refusal}
use Rattle.refusal.specs.Refusals as Refusals
use Rattle.refusal.proofs.Refusals.{some_number}
use Rattle.book.specs.declared.Head.{Head}
use Rattle.book.specs.declared.Setting.{Setting}
use Rattle.book.specs.Head.{most_vessels}
use Rattle.book.specs.Setting.{setting_checks, ruled}
use Rattle.book.specs.Calls.{set_rule}
use Rattle.book.specs.Memory.{book_checks, number_of, Audited}
use Rattle.book.proofs.Checks.{setting_fit}
use Rattle.book.proofs.Memory.{call_number, refused_on, off_number, on_number}
use Rattle.book.proofs.Accepted.{ruled_is}
use Rattle.ledger.specs.Setting.{Sets}
use Rattle.book.proofs.Audited.{passed}

-- a setting that passes its checks is of a vessel that the head has
pub set_inside : (size : ℕ) (s : Setting) → size ≤ most_vessels → 0 ≡ first (setting_checks size s)
    → s.vessel < most_vessels
set_inside size s few e = let f = setting_fit size s (sym e) in omega (arith, f.vessel_in)

module _ (h : Head) (t : List ℕ) (s : Setting) where
  refused : (why : Refusal) → Refusals.number_of why ≡ number_of h t (set_rule s)
      → (q : Result (Unit {0}) Refusal) → IsErrAnd q (λ (other : Refusal). other ≡ why) → Sets s h h t q
  refused why e q eq = grind (arith, refused_on h t (set_rule s) (Refusals.number_of why) (sym e) (some_number why))

  -- by 1 or 4
  pub set_off : (why : Refusal) → Refusals.number_of why ≡ first (book_checks h t)
      → (q : Result (Unit {0}) Refusal) → IsErrAnd q (λ (other : Refusal). other ≡ why) → Sets s h h t q
  set_off why e = refused why (sym (off_number h t (set_rule s) _ e (some_number why)))

  -- On a book that adds up: its number is that of its own checks.
  module _ (w : Audited h t) where
    own : number_of h t (set_rule s) ≡ first (setting_checks h.vessels s)
    own = on_number h t (set_rule s) 0 (passed h t w) refl

    pub set_refused : (why : Refusal) → Refusals.number_of why ≡ first (setting_checks h.vessels s)
        → (q : Result (Unit {0}) Refusal) → IsErrAnd q (λ (other : Refusal). other ≡ why) → Sets s h h t q
    set_refused why e = refused why (e ∙ sym own)

    pub set_done : 0 ≡ first (setting_checks h.vessels s) → (h' : Head) → h' ≡ ruled h s → Sets s h h' t (Ok tt)
    set_done e h' eh =
        let z : number_of h t (set_rule s) ≡ 0 = own ∙ sym e in
        record { number = sym (call_number h t (set_rule s) ∙ z); head = eh ∙ sym (ruled_is h t s z) }
