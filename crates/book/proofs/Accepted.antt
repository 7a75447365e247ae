-- A CALL THAT IS ACCEPTED has passed its own checks, on a book that adds up; and what a setting of a rule leaves.
-- Assumes nothing.
use Rattle.std.proofs.Common.{◌≡◌, refl, sym, ap, List, ℕ, arith, length, ◌∙◌}
use Rattle.std.proofs.lemmas.Bool.Decides.{nat_tests}
use Rattle.refusal.specs.Numbers.{first}
use Rattle.book.specs.declared.Head.{Head}
use Rattle.book.specs.declared.Transfer.{Transfer}
use Rattle.book.specs.declared.Lift.{Lift}
use Rattle.book.specs.declared.Setting.{Setting}
use Rattle.book.specs.Head.{the_scale, book_of}
use Rattle.book.specs.Motion.{of_book}
use Rattle.book.specs.Transfer.{transfer_checks, motion_of}
use Rattle.book.specs.Scale.{lift_checks}
use Rattle.book.specs.Setting.{ruled}
use Rattle.book.specs.Calls.{Call, post, lift, set_rule, meaning}
use Rattle.book.specs.Memory.{number_of, call_on}
use Rattle.book.proofs.Checks.{Fit, LiftFit}
use Rattle.book.proofs.Memory.{on_number, passed_book, book_passed}
use Rattle.book.proofs.Known.{AddsUp, adds_up_told, adds_head}
use Rattle.book.proofs.Sound.{held_after}

module _ (h : Head) (t : List ℕ) where
  -- a call that is answered 0 has passed its own checks, on a book that adds up
  pub checks_passed : (c : Call) → number_of h t c ≡ 0 → first ((meaning c).checks (length t) (book_of h t)) ≡ 0
  checks_passed c e = sym (on_number h t c _ refl (passed_book h t c e)) ∙ e

  pub accepted_book : (c : Call) → number_of h t c ≡ 0 → AddsUp h t
  accepted_book c e = adds_up_told h t (book_passed h t (passed_book h t c e)).1

  pub post_fit : (x : Transfer) → number_of h t (post x) ≡ 0 → Fit (of_book (book_of h t)) x
  unfolding transfer_checks
  post_fit x e = grind (arith, nat_tests, checks_passed (post x) e)

  pub fit_lift : (x : Lift) → number_of h t (lift x) ≡ 0 → LiftFit the_scale (of_book (book_of h t)) x
  unfolding lift_checks
  fit_lift x e = grind (arith, nat_tests, checks_passed (lift x) e)

  -- a setting, refused or accepted, writes nothing
  pub set_writes_nothing : (s : Setting) → (call_on h t (set_rule s)).table ≡ t
  unfolding call_on
  set_writes_nothing s = grind arith

  -- an accepted setting changes that rule in the head
  pub ruled_is : (s : Setting) → number_of h t (set_rule s) ≡ 0 → (call_on h t (set_rule s)).head ≡ ruled h s
  unfolding call_on ruled
  ruled_is s e = rw e (ap (λ (k : Head). ruled k s) (sym (adds_head h t (accepted_book (set_rule s) e))))

-- a transfer leaves the scale as it was
pub post_scale : (h : Head) (t : List ℕ) (x : Transfer) → (call_on h t (post x)).head.scale ≡ h.scale
unfolding call_on
post_scale h t x =
    grind (arith, nat_tests, held_after (book_of h t) (motion_of x) the_scale, post_fit h t x, accepted_book h t (post x))
