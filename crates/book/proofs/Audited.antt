-- What is known of a head and a table that add up; and after a call they do so again, if an accepted one leaves numbers
-- of 32 bits.
-- Assumes nothing.
use Rattle.std.proofs.Common.{◌≡◌, refl, List, ℕ, ◌≤◌, arith}
use Rattle.refusal.specs.Numbers.{first}
use Rattle.book.specs.declared.Head.{Head}
use Rattle.book.specs.Head.{most_vessels, Sized, book_of}
use Rattle.book.specs.Calls.{Call, meaning}
use Rattle.book.specs.Memory.{book_checks, number_of, call_on, Audited}
use Rattle.book.proofs.Sound.{SizedBook}
use Rattle.book.proofs.Memory.{book_on, book_passed}
use Rattle.book.proofs.Known.{Known, known_up}
use Rattle.book.proofs.After.{known_after, length_after}

-- as checks 1 and 4 find it
pub audited : (h : Head) (t : List ℕ) (n : ℕ) → (n ≡ first (book_checks h t)) × Sized h → n ≡ 0 → Audited h t
audited h t n e z = grind (arith, book_passed h t)

pub passed : (h : Head) (t : List ℕ) → Audited h t → 0 ≡ first (book_checks h t)
passed h t w = book_on h t _ w.long refl w.book_adds_up

pub audited_known : (h : Head) (t : List ℕ) → Audited h t → Known h t
audited_known h t w = known_up h t w.sized w.book_adds_up

pub vessels_fit : (h : Head) (t : List ℕ) → Audited h t → h.vessels ≤ most_vessels
vessels_fit h t w = (audited_known h t w).sound.vessels_fit

-- after a call
pub audited_after : (h : Head) (t : List ℕ) (w : Audited h t) (c : Call) → (number_of h t c ≡ 0 → SizedBook ((meaning c).next (book_of h t)))
    → Audited (call_on h t c).head (call_on h t c).table
audited_after h t w c z =
    let k = audited_known h t w in
    let after = known_after h t k c z in
    record { long = rw (length_after h t k c) w.long; book_adds_up = after.adds; sized = after.sized }
