-- What setting a vessel's rule promises.
-- Definitions only. Assumes nothing.
use Rattle.std.specs.Prelude.{◌≡◌, List, ℕ, Result}
use Rattle.refusal.specs.declared.Refusal.{Refusal}
use Rattle.refusal.specs.Refusals.{outcome_number}
use Rattle.book.specs.declared.Head.{Head}
use Rattle.book.specs.declared.Setting.{Setting}
use Rattle.book.specs.Calls.{set_rule}
use Rattle.book.specs.Memory.{call_on}

-- Number and head are those of the call. The table is not written.
pub record Sets (s : Setting) (h h' : Head) (t : List ℕ) (r : Result (Unit {0}) Refusal) : Type 0 where
  pub number : outcome_number r ≡ (call_on h t (set_rule s)).number
  pub head : h' ≡ (call_on h t (set_rule s)).head
