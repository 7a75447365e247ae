-- A transfer of document 01, as it was before it had an age, there was a scale, and a vessel had a rule: source s,
-- destination d, minute t, weight q. There is no check 21, what is born has birth t, and a piece that lies in no vessel
-- puts the book off. "Age 0 is the former meaning": `age_zero` and `age_zero_weighed` (proofs/Ages.antt) show that a
-- transfer of age 0 is this one, on a book with no weight on the scale whose rules were never set, and to the weigh
-- book.
-- Definitions only. Assumes nothing.
use Rattle.std.specs.Prelude.{Bool, ◌&&◌, not, List, [], ◌∷◌, ◌++◌, ℕ, suc, ◌+◌, ◌-◌, leb, ltb, eqb, length}
use Rattle.table.specs.Pieces.{only}
use Rattle.table.specs.declared.Piece.{Piece}
use Rattle.table.specs.Table.{pieces_of}
use Rattle.refusal.specs.Numbers.{TOP, Check, ◌if◌, first}
use Rattle.book.specs.declared.Head.{Head}
use Rattle.book.specs.Head.{book_of, balances_of, all_of, lot_tests, every, same}
use Rattle.book.specs.Motion.{Standing}
use Rattle.book.specs.Calls.{Meaning}
use Rattle.book.specs.Memory.{Outcome, outcome}
use Rattle.conservation.specs.WeighBook.{WeighBook}
use Rattle.former.specs.OneRule.{former_posting, former_count_tests}

abbrev pub former_checks : Standing → ℕ → ℕ → ℕ → ℕ → List Check
former_checks g s d t q =
    5 if leb g.vessels s
    ∷ 5 if leb g.vessels d
    ∷ 6 if eqb s d
    ∷ 7 if eqb q 0
    ∷ 8 if ltb t g.last
    ∷ 9 if ltb TOP (g.balance d + q)
    ∷ 10 if eqb g.accepted TOP
    ∷ []

abbrev pub former_meaning : ℕ → ℕ → ℕ → ℕ → Meaning
former_meaning s d t q =
    former_posting (record {
      checks = λ g. former_checks g s d t q;
      source = s;
      destination = d;
      birth = t;
      weight = λ g. q;
      minute = t;
      counts = 1;
    })

-- a book that adds up, where every piece lies in a vessel, and the head has no scale and no rules of vessels
abbrev pub former_fits : ℕ → ℕ → Piece → Bool
former_fits size last p = all_of (ltb p.holder size ∷ lot_tests size last p)

abbrev pub former_tests : Head → List ℕ → List Bool
former_tests h t =
    former_count_tests h t
    ++ (every (former_fits h.vessels h.last) (pieces_of h.pieces t) ∷ same h.balances (balances_of h.vessels (pieces_of h.pieces t)) ∷ [])

abbrev pub former_book_checks : Head → List ℕ → List Check
former_book_checks h t = 1 if ltb (length t) 4 ∷ 4 if not (all_of (former_tests h t)) ∷ []

-- its number on a head and a table, and all that it gives back and leaves
abbrev pub former_number : Head → List ℕ → ℕ → ℕ → ℕ → ℕ → ℕ
former_number h t s d m q = first (former_book_checks h t ++ (former_meaning s d m q).checks (length t) (book_of h t))

abbrev pub former_on : Head → List ℕ → ℕ → ℕ → ℕ → ℕ → Outcome
former_on h t s d m q = outcome h t (former_meaning s d m q) (former_number h t s d m q)

-- the weigh book after it: births are entered under t
abbrev pub former_weighed : WeighBook → ℕ → ℕ → ℕ → ℕ → WeighBook
former_weighed w s d t q =
    let born = q - w.weight s in
    record {
      vessels = w.vessels;
      weight = λ v. (w.weight v - only (eqb s v) (q - born)) + only (eqb d v) q;
      births = λ o m. w.births o m + only (eqb s o && eqb t m) born;
      last = t;
      accepted = suc w.accepted;
    }
