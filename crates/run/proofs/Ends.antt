-- A RUN ENDS WITH A BOOK THAT ADDS UP, whether it was stopped or not. Along the transfers head and table hold a sound book
-- (`On`), from the fresh one on; a transfer that is refused leaves both as they were.
-- Assumes nothing.
use Rattle.std.proofs.Common.{◌≡◌, refl, true, List, [], ◌∷◌, ℕ, zero, suc, ◌+◌, length}
use Rattle.refusal.specs.Numbers.{if_zero}
use Rattle.refusal.proofs.Numbers.{first_zero}
use Rattle.book.specs.declared.Head.{Head}
use Rattle.book.specs.declared.Transfer.{Transfer}
use Rattle.book.specs.Head.{Book, adds_up, opening, opened}
use Rattle.book.specs.Calls.{post, meaning}
use Rattle.book.specs.Memory.{Outcome, call_on}
use Rattle.book.proofs.Sound.{number, SoundBook}
use Rattle.book.proofs.Memory.{On, adds, in_step}
use Rattle.book.proofs.HeadLaws.{opening_passed}
use Rattle.book.proofs.After.{fresh, fresh_on}
use Rattle.sheet.specs.Sheet.{rule_of, vessels_of, read_number}
use Rattle.run.specs.Run.{Running, transfers_of, go_on, run_from, run_number, running}
use Rattle.run.proofs.RunLaws.{opened_well}

-- what a run leaves adds up
abbrev AddsUp : Running → Type 0
AddsUp r = adds_up r.answer.head r.table ≡ true

abbrev EndsUp : List Transfer → Type 0
EndsUp xs =
    (i even : ℕ) (h : Head) (t : List ℕ) (b : Book) → On (length t) h t b → SoundBook (length t) b
    → AddsUp (run_from i even h t xs)

ends_up : (xs : List Transfer) → EndsUp xs
unfolding run_from
ends_up [] i even h t b on o = adds (length t) h t b on o
ends_up (x ∷ xs) i even h t b on o = go (call_on h t (post x)).number refl (ends_up xs)
  where
    u : Outcome
    u = call_on h t (post x)

    go : (n : ℕ) → u.number ≡ n → EndsUp xs
        → AddsUp (go_on (λ even' h' t'. run_from (suc i) even' h' t' xs) i even h t x u n)
    go (suc n) e rest = adds (length t) h t b on o
    go zero e rest =
        let s = in_step (length t) h t b on o (post x) in
        let l = s.holds.lies.long in
        let b' : Book = if_zero (number (length t) b (post x)) ((meaning (post x)).next b) b in
        rest (suc i) (even + u.even) u.head u.table b' (rw l s.holds) (rw l s.sound)

pub run_adds : (s t : List ℕ) → run_number s t ≡ 0 → AddsUp (running s t)
unfolding running run_number
run_adds s t e =
    let reads : read_number s ≡ 0 = first_zero (read_number s) _ e in
    let o = opening_passed (rule_of s) (vessels_of s) (opened_well s reads) in
    rw e (ends_up (transfers_of s) 0 0 (opening (rule_of s) (vessels_of s)).head t (opened (rule_of s) (vessels_of s))
    (rw o.1 (fresh_on (rule_of s) (vessels_of s) t)) (fresh (length t) (rule_of s) (vessels_of s) o.0))
