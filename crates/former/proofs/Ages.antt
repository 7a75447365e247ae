-- AGE 0 is the former meaning. A transfer of age 0 gives and leaves what the transfer without an age gave and left, on
-- any table and any head with nothing on the scale, whose rules were never set, with no more pieces than accepted
-- transfers (`age_zero`); and so it is to the weigh book, whatever is on its scale (`age_zero_weighed`).
-- Assumes nothing.
use Rattle.std.proofs.Common.{◌≡◌, refl, List, ℕ, zero, suc, ◌≤◌, add-one, arith, le-ltb, length, ◌∙◌}
use Rattle.std.proofs.lemmas.Bool.Decides.{nat_tests}
use native.Mathlib.Nat.{sub-zero}
use Rattle.refusal.specs.Numbers.{first}
use Rattle.refusal.proofs.Numbers.{first_append}
use Rattle.book.specs.declared.Head.{Head}
use Rattle.book.specs.Head.{book_of, given_rules}
use Rattle.book.specs.Transfer.{transfer_checks, motion_of, unaged}
use Rattle.book.specs.Calls.{post}
use Rattle.book.specs.Memory.{outcome, book_checks, call_on}
use Rattle.conservation.specs.WeighBook.{WeighBook, of_weigh, weighed, weigh_number}
use Rattle.former.specs.OneRule.{one_rule, one_rule_checks, one_rule_number, one_rule_on}
use Rattle.former.specs.Former.{former_checks, former_meaning, former_book_checks, former_number, former_on, former_weighed}
use Rattle.former.proofs.OneRule.{same_book, former_split, as_before}
use Rattle.former.proofs.Former.{bare_book}

module _ (h : Head) (t : List ℕ) (s d m q : ℕ) (z : h.scale ≡ 0) (unset : h.rules ≡ given_rules h.rule h.vessels)
    (counted : h.pieces ≤ h.accepted) where
  own_number : first ((one_rule (post (unaged s d m q))).checks (length t) (book_of h t)) ≡ first ((former_meaning s d m q).checks (length t) (book_of h t))
  unfolding transfer_checks
  own_number = rw (le-ltb m 0 (omega arith), sub-zero)

  same_checks : first (one_rule_checks h t) ≡ first (former_book_checks h t)
  unfolding book_checks
  same_checks = grind (arith, nat_tests, same_book h t unset counted, bare_book h t z unset)

  same_number : one_rule_number h t (post (unaged s d m q)) ≡ former_number h t s d m q
  same_number =
      let former =
      first_append (former_book_checks h t) ((former_meaning s d m q).checks (length t) (book_of h t)) tt in
      grind (arith, former_split h t unset counted (post (unaged s d m q)), own_number, same_checks, former)

  pub age_zero : call_on h t (post (unaged s d m q)) ≡ former_on h t s d m q
  unfolding one_rule_on
  age_zero = as_before h t unset counted (post (unaged s d m q)) refl ∙ rw same_number (go (former_number h t s d m q))
    where
      go : (n : ℕ) → outcome h t (one_rule (post (unaged s d m q))) n ≡ outcome h t (former_meaning s d m q) n
      go zero = rw sub-zero
      go (suc n) = refl

pub age_zero_weighed : (w : WeighBook) (s d m q : ℕ)
    → (weigh_number w (post (unaged s d m q)) ≡ first (former_checks (of_weigh w) s d m q)) × (weighed w (motion_of (unaged s d m q)) ≡ former_weighed w s d m q)
unfolding weigh_number transfer_checks
age_zero_weighed w s d m q = (rw (le-ltb m 0 (omega arith)), rw (sub-zero, add-one))
