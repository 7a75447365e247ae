-- Head and table against the book: a head and a table that hold a sound book add up, a call on them is the call on the
-- book, and what it leaves holds the book that the call leaves.
-- Assumes nothing.
use Rattle.std.proofs.Common.{◌≡◌, refl, sym, Bool, true, false, List, ℕ, ◌≤◌, arith, ltb, eqb, length, le-ltb}
use Rattle.std.proofs.lemmas.Bool.Decides.{nat_tests}
use Rattle.table.specs.Table.{places_in, places_of}
use Rattle.table.proofs.Table.{pieces_flat}
use Rattle.refusal.specs.Numbers.{first, if_zero}
use Rattle.refusal.proofs.Numbers.{first_append}
use Rattle.book.specs.declared.Head.{Head}
use Rattle.book.specs.Head.{Book, balances_of, head_of, book_of, adds_up}
use Rattle.book.specs.Calls.{Call, set_rule, meaning}
use Rattle.book.specs.Lists.{sets_rule}
use Rattle.book.specs.Memory.{Outcome, outcome, book_checks, number_of, call_on, transferred, replied}
use Rattle.book.proofs.Sound.{number, SoundBook, Lies, keeps}
use Rattle.book.proofs.HeadLaws.{same_refl, all_fit}

pub no_place : (t : List ℕ) → ltb (length t) 4 ≡ eqb (places_of t) 0
unfolding places_in
no_place t = grind (arith, nat_tests)

-- checks 1 and 4, by whether the book adds up
module _ (h : Head) (t : List ℕ) (c : Bool) (long : 4 ≤ length t) (e : c ≡ adds_up h t) where
  pub book_on : c ≡ true → 0 ≡ first (book_checks h t)
  unfolding book_checks
  book_on q = rw (le-ltb _ _ long, ← e, q)

  pub book_off : c ≡ false → 4 ≡ first (book_checks h t)
  unfolding book_checks
  book_off q = rw (le-ltb _ _ long, ← e, q)

-- a call answers its number
pub call_number : (h : Head) (t : List ℕ) (c : Call) → (call_on h t c).number ≡ number_of h t c
unfolding call_on
call_number h t c = grind arith

-- what the code answers is all of it
pub answer_told : (o : Outcome)
    → (transferred o ≡ record { number = o.number; head = o.head; whole = o.answer.whole; split = o.answer.split; born = o.answer.born })
    × (replied o ≡ record { number = o.number; head = o.head })
answer_told o = (refl, refl)

-- a refused call gives back the head and leaves the table as it was, and tells what it means
pub refused_on : (h : Head) (t : List ℕ) (c : Call) (n : ℕ) → number_of h t c ≡ n → (n ≡ 0 → ⊥)
    → let r = (meaning c).refused n (length t) (book_of h t) in
    call_on h t c ≡ record { number = n; answer = r.answer; head = h; table = t; room = r.room; even = 0; stirred = (meaning c).stirs (book_of h t) n }
unfolding call_on
refused_on h t c n e nz = grind arith

-- and an accepted one gives and leaves what it means
pub accepted_on : (h : Head) (t : List ℕ) (c : Call) → number_of h t c ≡ 0 → call_on h t c ≡ outcome h t (meaning c) 0
unfolding call_on
accepted_on h t c e = rw e

pub refused_memory : (h : Head) (t : List ℕ) (c : Call) → ((call_on h t c).number ≡ 0 → ⊥) → ((call_on h t c).head ≡ h) × ((call_on h t c).table ≡ t)
refused_memory h t c nz = rw (refused_on h t c _ (sym (call_number h t c)) nz) (refl, refl)

pub refused_even : (h : Head) (t : List ℕ) (c : Call) → ((call_on h t c).number ≡ 0 → ⊥) → (call_on h t c).even ≡ 0
refused_even h t c nz = rw (refused_on h t c _ (sym (call_number h t c)) nz)

-- the number of a call: checks 1 and 4, then its own
pub number_split : (h : Head) (t : List ℕ) (c : Call)
    → number_of h t c ≡ if_zero (first (book_checks h t)) (first ((meaning c).checks (length t) (book_of h t))) (first (book_checks h t))
unfolding number_of book_checks
number_split h t c = first_append (book_checks h t) ((meaning c).checks (length t) (book_of h t)) tt

pub off_number : (h : Head) (t : List ℕ) (c : Call) (n : ℕ) → n ≡ first (book_checks h t) → (n ≡ 0 → ⊥) → number_of h t c ≡ n
off_number h t c n e nz = grind (arith, number_split h t c)

pub on_number : (h : Head) (t : List ℕ) (c : Call) (n : ℕ) → n ≡ first (book_checks h t) → n ≡ 0 → number_of h t c ≡ first ((meaning c).checks (length t) (book_of h t))
on_number h t c n e z = grind (arith, number_split h t c)

-- a call that is accepted has passed checks 1 and 4
pub passed_book : (h : Head) (t : List ℕ) (c : Call) → number_of h t c ≡ 0 → first (book_checks h t) ≡ 0
passed_book h t c e = grind (arith, number_split h t c)

-- checks 1 and 4 are passed
pub book_passed : (h : Head) (t : List ℕ) → first (book_checks h t) ≡ 0 → (4 ≤ length t) × (adds_up h t ≡ true)
unfolding book_checks
book_passed h t e = grind (arith, nat_tests)

-- A head and a table that hold the book b.
pub record On (len : ℕ) (h : Head) (t : List ℕ) (b : Book) : Type 0 where
  pub head_is : h ≡ head_of b
  pub lies : Lies len b.pieces t

module _ (len : ℕ) (h : Head) (t : List ℕ) (b : Book) (on : On len h t b) (o : SoundBook len b) where
  pub back : book_of h t ≡ b
  back = rw (on.head_is, on.lies.table_is, pieces_flat)

  pub adds : adds_up h t ≡ true
  unfolding adds_up
  adds = rw (on.lies.long, on.head_is, on.lies.table_is, pieces_flat) (grind (arith, nat_tests, o, all_fit _ _ o.sound, same_refl (balances_of b.vessels b.pieces)))

  pub number_same : (c : Call) → number_of h t c ≡ number len b c
  unfolding number_of book_checks number
  number_same c = rw (adds, back, no_place, on.lies.long)

  -- a call in memory is the call on the book
  pub record InStep (c : Call) (n : ℕ) : Type 0 where
    pub number_is : (call_on h t c).number ≡ n
    pub even_is : (call_on h t c).even ≡ if_zero n ((meaning c).even b) 0
    pub stirred_is : (call_on h t c).stirred ≡ (meaning c).stirs b n
    pub holds : On len (call_on h t c).head (call_on h t c).table (if_zero n ((meaning c).next b) b)
    pub sound : SoundBook len (if_zero n ((meaning c).next b) b)

  pub in_step : (c : Call) → InStep c (number len b c)
  unfolding call_on
  in_step c =
      let lies = λ (e : number len b c ≡ 0). (keeps len b c o e).lies t on.lies in
      grind (arith, back, number_same c, keeps len b c o, lies)

-- no call alters the rule or the number of vessels
pub rule_kept : (h : Head) (t : List ℕ) (c : Call) → ((call_on h t c).head.rule ≡ h.rule) × ((call_on h t c).head.vessels ≡ h.vessels)
unfolding call_on
rule_kept h t c = grind arith

-- and only the setting of one alters the rules of the vessels
pub rules_kept : (h : Head) (t : List ℕ) (c : Call) → sets_rule c ≡ false → (call_on h t c).head.rules ≡ h.rules
unfolding call_on
rules_kept h t (set_rule s) u = cc
rules_kept h t c u = grind arith
