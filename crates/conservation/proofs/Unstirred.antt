-- LISTS THAT NEVER USE RULE 4. A list in which no accepted call sets it makes no pick under it (`first_rules`), from
-- any opening on. The idea: opening gives one of the four first rules, and only an accepted setting alters a vessel's.
-- Assumes nothing.
use Rattle.std.proofs.Common.{◌≡◌, refl, Bool, true, false, List, [], ◌∷◌, ℕ, zero, suc, arith, ne_eqb, length, ◌≢◌}
use Rattle.std.specs.List.{list_all}
use borrow.Author.Tests.{eqb-false}
use Rattle.book.specs.declared.Head.{Head}
use Rattle.book.specs.Head.{Book, opened, opening}
use Rattle.book.specs.Calls.{Call, enter, set_rule, terms, meaning}
use Rattle.book.specs.Memory.{call_on}
use Rattle.book.specs.Lists.{Entry, calls_on, answered, stirs}
use Rattle.conservation.specs.Conservation.{sets_stirred, sets_none}
use Rattle.book.proofs.RuleLaws.{Unstirred, given_unstirred, set_unstirred}
use Rattle.book.proofs.Sound.{number, SoundBook}
use Rattle.book.proofs.Along.{step, entry, from_opening}
use Rattle.book.proofs.HeadLaws.{opening_passed, openable}
use Rattle.std.proofs.lemmas.Bool.Decides.{nat_tests}

-- where no vessel has the rule, no call makes a pick under it
pub asks_none : (b : Book) → Unstirred b.rules → (c : Call) (n : ℕ) → (meaning c).stirs b n ≡ false
asks_none b none (enter p) n = rw (ne_eqb _ _ (none (terms p).source)) refl
asks_none b none c n = refl

-- A call makes a pick only where it is accepted or refused by 11: whatever else refuses it, 10 among them, comes before
-- the pick.
pub stirred_picks : (b : Book) (c : Call) (n : ℕ) → n ≢ 0 → n ≢ 11 → (meaning c).stirs b n ≡ false
stirred_picks b (enter p) n accepted full = grind (arith, nat_tests)
stirred_picks b c n accepted full = refl

-- an accepted call that sets none leaves none
still_unstirred : (b : Book) (c : Call) → sets_stirred c ≡ false → Unstirred b.rules
    → Unstirred ((meaning c).next b).rules
still_unstirred b (set_rule s) u none = set_unstirred s.vessel s.rule b.rules (eqb-false _ _ u) none
still_unstirred b c u none = none

module _ (len : ℕ) where
  abbrev Unused : Book → List Entry → Book → Type 0
  Unused b es z = Unstirred b.rules → sets_none (answered es) ≡ true → stirs es ≡ false

  more : (b : Book) (c : Call) (es : List Entry) (z : Book) → SoundBook len b → Unused (step len b c) es z
      → Unused b (entry len b c ∷ es) z
  more b c es z o rest none e = rw (asks_none b none c (number len b c)) (go (number len b c) refl)
    where
      go : (n : ℕ) → number len b c ≡ n → stirs es ≡ false
      go zero q =
          let r = rw q at e in
          let next : Unused ((meaning c).next b) es z = rw q at rest in
          next (still_unstirred b c (grind arith) none) (grind arith)
      go (suc n) q = let r = rw q at e in let next : Unused b es z = rw q at rest in next none r

-- from any opening on
pub first_rules : (rule size : ℕ) → (opening rule size).number ≡ 0 → (t : List ℕ) (cs : List Call)
    → let r = calls_on (opening rule size).head t cs in sets_none (answered r.log) ≡ true → stirs r.log ≡ false
first_rules rule size e t cs none =
    let o = opening_passed rule size e in
    let given : Unstirred (opened rule size).rules =
    given_unstirred rule size (openable rule size o.0).rule_known (openable rule size o.0).few_vessels in
    (from_opening (length t) (Unused (length t)) (λ b u e. refl) (more (length t)) rule size e t refl cs).related given none

-- what holds of all calls of a list holds of those answered 0
pub answered_all : (p : Call → Bool) (cs : List Call) (h : Head) (t : List ℕ) → list_all p cs ≡ true
    → list_all p (answered (calls_on h t cs).log) ≡ true
unfolding calls_on
answered_all p [] h t e = refl
answered_all p (c ∷ cs) h t e = let o = call_on h t c in grind (arith, answered_all p cs o.head o.table)
