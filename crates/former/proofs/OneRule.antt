-- A BOOK WHOSE RULES WERE NEVER SET IS THE FORMER BOOK. Where each vessel has the rule that opening gave it, a call
-- gives and leaves what it did while a book had one rule (`as_before`); and so does every list of calls in which no
-- rule is set: its numbers, its count of even transfers, the head and the table are the same (`never_set`), on any head
-- with no more pieces than accepted transfers and any table. (With more, a book was off.) The idea: what is picked
-- differs only where the source is no vessel of the book, and there 5 comes first; and the four first rules give at
-- most one piece more for each transfer.
-- Assumes nothing.
use Rattle.std.proofs.Common.{◌≡◌, refl, sym, ap, Bool, true, false, cond, List, [], ◌∷◌, ℕ, zero, suc, ◌≤◌, ◌<◌, arith, length, ◌∙◌}
use Rattle.std.proofs.lemmas.Bool.Decides.{nat_tests}
use Rattle.table.proofs.Table.{length_pieces}
use Rattle.taking.proofs.Stirring.{taken_singly}
use Rattle.refusal.specs.Numbers.{first, if_zero}
use Rattle.refusal.proofs.Numbers.{first_append}
use Rattle.book.specs.declared.Head.{Head}
use Rattle.book.specs.declared.Motion.{Motion}
use Rattle.book.specs.Head.{Book, given_rules, adds_up, book_of, open_checks, opens, opening}
use Rattle.book.specs.Motion.{of_book, Terms, takes, pieces_after}
use Rattle.book.specs.Calls.{Posting, terms, Call, enter, set_rule, place_checks, motion_on, Meaning, posting_meaning, meaning}
use Rattle.book.specs.Memory.{outcome, book_checks, number_of, call_on}
use Rattle.book.specs.Lists.{noted, calls_on, sets_rule, without_settings}
use Rattle.former.specs.OneRule.{former_takes, former_pieces, former_posting, one_rule, one_rule_checks, one_rule_number, one_rule_on, one_rule_calls}
use Rattle.book.proofs.RuleLaws.{given_fit, given_at, given_unstirred}
use Rattle.book.proofs.Memory.{number_split, number_same, passed_book, book_passed, on_number, rule_kept, rules_kept}
use Rattle.book.proofs.Sound.{number, proper, keeps, count_kept}
use Rattle.book.proofs.Known.{AddsUp, adds_up_told, adds_sound, adds_on}
use Rattle.conservation.proofs.Unstirred.{asks_none}
use Rattle.table.specs.Table.{places_of}

module _ (h : Head) (t : List ℕ) (unset : h.rules ≡ given_rules h.rule h.vessels) (counted : h.pieces ≤ h.accepted) where
  abbrev b : Book
  b = book_of h t

  pub same_book : first (book_checks h t) ≡ first (one_rule_checks h t)
  unfolding book_checks adds_up one_rule_checks
  same_book = grind (arith, nat_tests, given_fit h.rule h.vessels)

  same_taken : (m : Motion) → AddsUp h t → m.moves.source < h.vessels → takes b m ≡ former_takes b m.moves
  unfolding takes
  same_taken m a inside =
      rw (unset, given_at h.rule h.vessels m.moves.source a.vessels_fit inside) (taken_singly h.rule m.moves b.pieces (λ e. omega (arith, a.rule_known)))

  pub former_split : (c : Call)
      → one_rule_number h t c ≡ if_zero (first (one_rule_checks h t)) (first ((one_rule c).checks (length t) b)) (first (one_rule_checks h t))
  unfolding one_rule_number one_rule_checks
  former_split c = first_append (one_rule_checks h t) ((one_rule c).checks (length t) b) tt

  -- A call is as before if, on a book that adds up, its own checks are, and what it leaves where none applies; and it
  -- tells the same where it is refused.
  module _ (c : Call) (same_checks : AddsUp h t → first ((meaning c).checks (length t) b) ≡ first ((one_rule c).checks (length t) b))
      (same_refused : (meaning c).refused ≡ (one_rule c).refused) (same_stirs : (meaning c).stirs ≡ (one_rule c).stirs)
      (same_left : AddsUp h t → first ((meaning c).checks (length t) b) ≡ 0 → outcome h t (meaning c) 0 ≡ outcome h t (one_rule c) 0) where
    sums : first (book_checks h t) ≡ 0 → AddsUp h t
    sums e = adds_up_told h t (book_passed h t e).1

    same_number : number_of h t c ≡ one_rule_number h t c
    same_number = grind (arith, number_split h t c, former_split c, same_book, sums, same_checks)

    as_ever : call_on h t c ≡ one_rule_on h t c
    unfolding call_on one_rule_on
    as_ever = rw (← same_number) (go (number_of h t c) refl)
      where
        go : (n : ℕ) → number_of h t c ≡ n → outcome h t (meaning c) n ≡ outcome h t (one_rule c) n
        go zero e = let p = passed_book h t c e in same_left (sums p) (sym (on_number h t c _ refl p) ∙ e)
        go (suc n) e = rw (same_refused, same_stirs) refl

  -- what is posted from a vessel
  module _ (u : Posting) (counts : 1 ≤ (terms u).counts) where
    was : one_rule (enter u) ≡ former_posting (terms u)
    was = grind arith

    inside : first ((terms u).checks (of_book b)) ≡ 0 → (terms u).source < h.vessels
    inside e = ((proper u).fits (of_book b) e).from_vessel counts

    abbrev p : Terms
    p = terms u

    abbrev m : Motion
    m = motion_on p b

    one : first ((posting_meaning p).checks (length t) b)
        ≡ if_zero (first (p.checks (of_book b))) (first (place_checks p.counts (places_of t) (pieces_after b m))) (first (p.checks (of_book b)))
    one = first_append (p.checks (of_book b)) _ ((proper u).named (of_book b))

    other : first ((former_posting p).checks (length t) b)
        ≡ if_zero (first (p.checks (of_book b))) (first (place_checks p.counts (places_of t) (former_pieces b m.moves))) (first (p.checks (of_book b)))
    other = first_append (p.checks (of_book b)) _ ((proper u).named (of_book b))

    posted_as_before : call_on h t (enter u) ≡ one_rule_on h t (enter u)
    posted_as_before =
        as_ever (enter u)
        (λ a. rw was (let same = λ (e : first (p.checks (of_book b)) ≡ 0). same_taken m a (inside e) in grind (arith, one, other, same)))
        (rw was refl)
        (rw was refl)
        (λ a e. rw (was, same_taken m a (inside (grind (arith, one)))) refl)

  pub as_before : (c : Call) → sets_rule c ≡ false → call_on h t c ≡ one_rule_on h t c
  as_before (enter v) u = go (terms v).counts refl
    where
      go : (n : ℕ) → (terms v).counts ≡ n → call_on h t (enter v) ≡ one_rule_on h t (enter v)
      go zero z =
          let same : one_rule (enter v) ≡ meaning (enter v) = rw z refl in
          as_ever (enter v) (λ a. ap (λ (x : Meaning). first (x.checks (length t) b)) (sym same)) (ap (λ (x : Meaning). x.refused) (sym same)) (ap (λ (x : Meaning). x.stirs) (sym same)) (λ a e. ap (λ (x : Meaning). outcome h t x 0) (sym same))
      go (suc n) z = posted_as_before v (omega arith)
  as_before (set_rule s) u = cc
  as_before c u = as_ever c (λ a. refl) refl refl (λ a e. refl)

  -- and it leaves the rules as they were given
  pub still_unset : (c : Call) → sets_rule c ≡ false →
      let z = (call_on h t c).head in
      z.rules ≡ given_rules z.rule z.vessels
  still_unset c u = rw (rules_kept h t c u, (rule_kept h t c).0, (rule_kept h t c).1) unset

  -- and no more pieces than accepted transfers
  pub still_counted : (c : Call) → let z = (call_on h t c).head in z.pieces ≤ z.accepted
  unfolding call_on
  still_counted c = go (number_of h t c) refl
    where
      go : (n : ℕ) → number_of h t c ≡ n → let z = (outcome h t (meaning c) n).head in z.pieces ≤ z.accepted
      go (suc n) e = counted
      go zero e =
          let a = adds_up_told h t (book_passed h t (passed_book h t c e)).1 in
          let known = number_same (length t) h t b (adds_on h t a) (adds_sound h t a) c in
          let none = asks_none b (rw unset (given_unstirred h.rule h.vessels a.rule_known a.vessels_fit)) c 0 in
          let z : number (length t) b c ≡ 0 = sym known ∙ e in
          omega (arith, counted, length_pieces h.pieces t, count_kept (length t) b c none, (keeps (length t) b c (adds_sound h t a) z).tally)

abbrev AsBefore : List Call → Type 0
AsBefore cs =
    (h : Head) (t : List ℕ) → h.rules ≡ given_rules h.rule h.vessels → h.pieces ≤ h.accepted
    → calls_on h t cs ≡ one_rule_calls h t cs

-- THE THEOREM: for every list of calls, any settings left out.
pub never_set : (cs : List Call) → AsBefore (without_settings cs)
unfolding calls_on one_rule_calls
never_set [] h t unset counted = refl
never_set (c ∷ cs) h t unset counted = go (sets_rule c) refl (never_set cs)
  where
    go : (s : Bool) → sets_rule c ≡ s → AsBefore (without_settings cs)
        → calls_on h t (cond s (without_settings cs) (c ∷ without_settings cs)) ≡ one_rule_calls h t (cond s (without_settings cs) (c ∷ without_settings cs))
    go true e rest = rest h t unset counted
    go false e rest =
        let o = call_on h t c in
        rw (← (as_before h t unset counted c e)) (ap (noted c o) (rest o.head o.table (still_unset h t unset counted c e) (still_counted h t unset counted c)))

-- so from any opening on
pub opened_unset : (rule size : ℕ) →
    let h = (opening rule size).head in
    (h.rules ≡ given_rules h.rule h.vessels) × (h.pieces ≤ h.accepted)
unfolding opening
opened_unset rule size = go (first (open_checks rule size))
  where
    go : (n : ℕ) →
        let h = (opens rule size n).head in
        (h.rules ≡ given_rules h.rule h.vessels) × (h.pieces ≤ h.accepted)
    go zero = (refl, omega arith)
    go (suc n) = (refl, omega arith)
