-- A book as it was while it had one rule, one of the four first: every pick from a vessel went by the rule of the book,
-- and a book added up only if it had no more pieces than accepted transfers, and whatever the numbers are that are its
-- vessels' rules now. (Whether rule 4 was used is noted of a call as it is now.) "A book whose rules were never set" is this one: `never_set` (proofs/OneRule.antt).
-- Definitions only. Assumes nothing.
use Rattle.std.specs.Prelude.{Bool, not, List, [], ◌∷◌, ◌++◌, ℕ, ◌+◌, leb, ltb, length}
use Rattle.table.specs.declared.Piece.{Piece}
use Rattle.table.specs.Table.{pieces_of, lay, places_in}
use Rattle.taking.specs.declared.Move.{Move}
use Rattle.taking.specs.Taken.{Taken}
use Rattle.taking.specs.Taking.{singly, handed}
use Rattle.refusal.specs.Numbers.{Check, ◌if◌, first, if_zero}
use Rattle.book.specs.declared.Head.{Head}
use Rattle.book.specs.Head.{Book, book_of, all_of, balanced, count_tests}
use Rattle.book.specs.Motion.{of_book, Terms}
use Rattle.book.specs.Calls.{Call, enter, terms, place_checks, motion_on, posting_meaning, answer_of, even_of, Meaning, meaning}
use Rattle.book.specs.Memory.{Outcome, outcome}
use Rattle.book.specs.Lists.{Journal, noted}

abbrev pub former_takes : Book → Move → Taken
former_takes b x = singly b.rule x b.pieces

abbrev pub former_pieces : Book → Move → List Piece
former_pieces b x = handed x (former_takes b x)

-- what is posted, by the rule of the book
abbrev pub former_posting : Terms → Meaning
former_posting p =
    record (posting_meaning p) {
      checks =
          λ len b. p.checks (of_book b) ++ place_checks p.counts (places_in len) (former_pieces b (motion_on p b).moves);
      told = λ b. record { answer = answer_of (former_takes b (motion_on p b).moves); room = [] };
      next =
          λ b. record b { last = p.minute; accepted = b.accepted + p.counts; pieces = former_pieces b (motion_on p b).moves };
      table = λ b. lay (former_pieces b (motion_on p b).moves);
      even = λ b. if_zero p.counts 0 (even_of (answer_of (former_takes b (motion_on p b).moves)));
    }

-- a call: what takes nothing is as it was
abbrev pub one_rule : Call → Meaning
one_rule (enter p) = if_zero (terms p).counts (posting_meaning (terms p)) (former_posting (terms p))
one_rule c = meaning c

-- checks 1 and 4, a call's number, and the call on a head and a table
abbrev pub former_count_tests : Head → List ℕ → List Bool
former_count_tests h t = count_tests h t ++ (leb h.pieces h.accepted ∷ [])

unfoldable pub one_rule_checks : Head → List ℕ → List Check
one_rule_checks h t =
    1 if ltb (length t) 4 ∷ 4 if not (all_of (former_count_tests h t ++ balanced h (pieces_of h.pieces t))) ∷ []

unfoldable pub one_rule_number : Head → List ℕ → Call → ℕ
one_rule_number h t c = first (one_rule_checks h t ++ (one_rule c).checks (length t) (book_of h t))

unfoldable pub one_rule_on : Head → List ℕ → Call → Outcome
one_rule_on h t c = outcome h t (one_rule c) (one_rule_number h t c)

-- and a list of calls
unfoldable pub one_rule_calls : Head → List ℕ → List Call → Journal
one_rule_calls h t [] = record { log = []; head = h; table = t }
one_rule_calls h t (c ∷ cs) = let o = one_rule_on h t c in noted c o (one_rule_calls o.head o.table cs)
