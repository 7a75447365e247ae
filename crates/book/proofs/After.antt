-- AFTER A CALL on a book known to add up, the book is known to add up again, and the table is as long as before: so
-- that many calls in turn need checks 1 and 4 once. An accepted call has to leave numbers of 32 bits. And a fresh book
-- is known.
-- Assumes nothing.
use Rattle.std.proofs.Common.{◌≡◌, refl, ◌∙◌, List, ℕ, zero, suc, arith, length}
use Rattle.table.specs.Pieces.{done}
use Rattle.table.specs.Table.{flat}
use Rattle.table.proofs.Pieces.{all_map}
use Rattle.refusal.specs.Numbers.{first, if_zero}
use Rattle.book.specs.declared.Head.{Head}
use Rattle.book.specs.Head.{Book, Sized, head_of, book_of, empty_head, opened, open_checks}
use Rattle.book.specs.Calls.{meaning, Call}
use Rattle.book.specs.Memory.{call_on, number_of}
use Rattle.book.proofs.BalanceLaws.{balances_match, balance_held, fresh_head}
use Rattle.book.proofs.RuleLaws.{given_fit}
use Rattle.book.proofs.Sound.{number, SoundBook, SizedBook}
use Rattle.book.proofs.HeadLaws.{openable}
use Rattle.book.proofs.Memory.{On, adds, in_step, number_same}
use Rattle.book.proofs.Known.{Known, known_up}

-- the head of a sound book whose numbers are of 32 bits has such numbers
sized_head : (len : ℕ) (b : Book) → SoundBook len b → SizedBook b → Sized (head_of b)
sized_head len b o z =
    let holders = all_map (λ p f. f.holder_in) o.sound in
    let matches = balances_match b.vessels (head_of b).balances (head_of b).scale b.pieces holders refl refl in
    record { light = λ v. rw (balance_held (head_of b) b.vessels b.pieces o.vessels_fit holders matches v) (z.light v); tally = z.tally }

-- a head and a table that hold such a book are known
on_known : (len : ℕ) (h : Head) (t : List ℕ) (b : Book) → On len h t b → SoundBook len b → SizedBook b → Known h t
on_known len h t b on o z = known_up h t (rw on.head_is (sized_head len b o z)) (adds len h t b on o)

module _ (h : Head) (t : List ℕ) (k : Known h t) (c : Call) where
  -- the book that it leaves
  abbrev b' : Book
  b' = if_zero (number (length t) (book_of h t) c) ((meaning c).next (book_of h t)) (book_of h t)

  sized_after : (number_of h t c ≡ 0 → SizedBook ((meaning c).next (book_of h t))) → SizedBook b'
  sized_after z = go (number (length t) (book_of h t) c) refl
    where
      go : (n : ℕ) → number (length t) (book_of h t) c ≡ n → SizedBook (if_zero n ((meaning c).next (book_of h t)) (book_of h t))
      go zero e = z (number_same (length t) h t (book_of h t) k.on k.sound c ∙ e)
      go (suc n) e = k.light

  pub known_after : (number_of h t c ≡ 0 → SizedBook ((meaning c).next (book_of h t))) → Known (call_on h t c).head (call_on h t c).table
  known_after z = let s = in_step (length t) h t (book_of h t) k.on k.sound c in on_known (length t) _ _ b' s.holds s.sound (sized_after z)

  pub length_after : length (call_on h t c).table ≡ length t
  length_after = (in_step (length t) h t (book_of h t) k.on k.sound c).holds.lies.long

-- a fresh book
pub fresh : (len rule size : ℕ) → first (open_checks rule size) ≡ 0 → SoundBook len (opened rule size)
fresh len rule size e =
    let o = openable rule size e in
    record {
      known = o.rule_known;
      some_vessel = o.some_vessels;
      vessels_fit = o.few_vessels;
      fits = omega arith;
      rules_known = given_fit rule size o.rule_known;
      sound = done;
    }

pub fresh_on : (rule size : ℕ) (t : List ℕ) → On (length t) (empty_head rule size) t (opened rule size)
unfolding flat
fresh_on rule size t = record { head_is = fresh_head rule size; lies = record { tail = t; table_is = refl; long = refl } }

pub fresh_known : (rule size : ℕ) (t : List ℕ) → first (open_checks rule size) ≡ 0 → Known (empty_head rule size) t
fresh_known rule size t e =
    on_known (length t) _ t _ (fresh_on rule size t) (fresh (length t) rule size e) (record { light = λ v. omega arith; tally = omega arith })
