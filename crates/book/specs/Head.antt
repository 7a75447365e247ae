-- "Vessels, pieces, the head": a book, its head, what it is that a book adds up, and opening.
-- The head is the record `Head` of src/lib.rt. A book here is what head and table tell together, with a list of pieces;
-- its balances, the scale's among them, are sums of the pieces, so that they cannot be wrong.
-- Definitions only. Assumes nothing.
use Rattle.std.specs.Prelude.{Bool, true, false, ◌&&◌, ◌||◌, cond, List, [], ◌∷◌, ◌++◌, ℕ, zero, suc, ◌+◌, ◌-◌, ◌≤◌, ◌<◌, leb, ltb, eqb, length, get_or, set, replicate, take, drop}
use Rattle.std.specs.List.{list_all}
use Rattle.table.specs.declared.Piece.{Piece}
use Rattle.table.specs.Pieces.{held}
use Rattle.table.specs.Table.{pieces_of, places_of}
use Rattle.taking.specs.Selection.{as_received}
use Rattle.taking.specs.Stirring.{stirred_rule}
use Rattle.refusal.specs.Numbers.{TOP, Check, ◌if◌, first}
use Rattle.book.specs.declared.Head.{Head}
use Rattle.book.specs.declared.Reply.{Reply}

-- "rule is 0 to 3; V is 1 to 64". Rule 4 is a vessel's alone: "opening and sheets stop at 3".
abbrev pub last_rule : ℕ
last_rule = 3

abbrev pub most_vessels : ℕ
most_vessels = 64

-- "The scale is one more holder, number 64, with a balance of its own in the head."
abbrev pub the_scale : ℕ
the_scale = most_vessels

-- all vessels, and the scale
abbrev pub most_holders : ℕ
most_holders = 65

-- the holders that a book of so many vessels has
abbrev pub is_holder : ℕ → ℕ → Bool
is_holder size v = ltb v size || eqb v the_scale

-- the balances of all holders, the scale's last
abbrev pub holdings : Head → List ℕ
holdings h = h.balances ++ (h.scale ∷ [])

-- The pieces on the scale "leave it in the order they lie in the table": rule 0 picks them.
abbrev pub as_they_lie : ℕ
as_they_lie = as_received

-- The rule by which the pieces of a holder are picked: each vessel has its own, and the scale has none.
abbrev pub rule_at : List ℕ → ℕ → ℕ
rule_at rules v = cond (ltb v most_vessels) (get_or rules v 0) as_they_lie

-- the balance of a holder, and the head with another one
unfoldable pub balance_at : Head → ℕ → ℕ
balance_at h v = cond (eqb v the_scale) h.scale (get_or h.balances v 0)

unfoldable pub with_balance : Head → ℕ → ℕ → Head
with_balance h v w =
    let scaled = eqb v the_scale in
    record h { balances = cond scaled h.balances (set h.balances v w); scale = cond scaled w h.scale }

-- the head after a holder gave weight and another received weight
abbrev pub shifted : Head → ℕ → ℕ → ℕ → ℕ → Head
shifted h s given d received =
    let less = with_balance h s (balance_at h s - given) in
    with_balance less d (balance_at less d + received)

-- The numbers of that head are ones of 32 bits: the source has what it gives, and the destination has room.
pub record Shiftable (h : Head) (s given d received : ℕ) : Type 0 where
  pub source_in : s < most_holders
  pub destination_in : d < most_holders
  pub there : given ≤ balance_at h s
  pub room : balance_at (with_balance h s (balance_at h s - given)) d + received ≤ TOP

-- Every number of a head in memory is one of 32 bits. (So it is of any head that the code is given; the code's promises
-- pass it on.)
pub record Sized (h : Head) : Type 0 where
  pub light : (v : ℕ) → balance_at h v ≤ TOP
  pub tally : h.accepted ≤ TOP

-- A book: what the head says, and the pieces in order of receipt. Its rule is that with which it was opened; pieces are
-- picked by those of the vessels.
pub record Book : Type 0 where
  pub rule : ℕ
  pub vessels : ℕ
  pub last : ℕ
  pub accepted : ℕ
  pub rules : List ℕ
  pub pieces : List Piece

-- f i, f (i + 1), .., n of them
unfoldable pub tab : (ℕ → ℕ) → ℕ → ℕ → List ℕ
tab f i zero = []
tab f i (suc n) = f i ∷ tab f (suc i) n

-- "each balance below V is the sum of that holder's weights, not wrapped; .. balances from V on are 0"
abbrev pub balance_of : ℕ → List Piece → ℕ → ℕ
balance_of size ps v = cond (ltb v size) (held v ps) 0

unfoldable pub balances_of : ℕ → List Piece → List ℕ
balances_of size ps = tab (balance_of size ps) 0 most_vessels

-- the head of a book, and the book that a head and a table are
abbrev pub head_of : Book → Head
head_of b =
    record {
      rule = b.rule;
      vessels = b.vessels;
      pieces = length b.pieces;
      last = b.last;
      accepted = b.accepted;
      balances = balances_of b.vessels b.pieces;
      scale = held the_scale b.pieces;
      rules = b.rules;
    }

abbrev pub book_of : Head → List ℕ → Book
book_of h t = record { rule = h.rule; vessels = h.vessels; last = h.last; accepted = h.accepted; rules = h.rules; pieces = pieces_of h.pieces t }

-- whether all of these hold
abbrev pub all_of : List Bool → Bool
all_of [] = true
all_of (t ∷ ts) = t && all_of ts

-- "each piece has holder and origin below V, birth ≤ last minute, weight ≥ 1"; and "a book that adds up may have holder
-- 64"
abbrev pub lot_tests : ℕ → ℕ → Piece → List Bool
lot_tests size last p = ltb p.origin size ∷ leb p.birth last ∷ leb 1 p.weight ∷ []

abbrev pub lot_fits : ℕ → ℕ → Piece → Bool
lot_fits size last p = all_of (lot_tests size last p)

abbrev pub piece_tests : ℕ → ℕ → Piece → List Bool
piece_tests size last p = is_holder size p.holder ∷ lot_tests size last p

abbrev pub fits : ℕ → ℕ → Piece → Bool
fits size last p = all_of (piece_tests size last p)

-- whether every piece passes the test
unfoldable pub every : (Piece → Bool) → List Piece → Bool
every test [] = true
every test (p ∷ ps) = test p && every test ps

-- whether two lists of numbers are the same
unfoldable pub same : List ℕ → List ℕ → Bool
same [] [] = true
same [] (y ∷ ys) = false
same (x ∷ xs) [] = false
same (x ∷ xs) (y ∷ ys) = eqb x y && same xs ys

-- whether all numbers are 0
unfoldable pub all_zero : List ℕ → Bool
all_zero xs = list_all (λ x. eqb x 0) xs

-- "each of these rules below V is known and those from V on are 0"; "rule 4 can be set for a vessel"
abbrev pub known_rule : ℕ → Bool
known_rule rule = leb rule stirred_rule

unfoldable pub rules_fit : ℕ → List ℕ → Bool
rules_fit size rules = list_all known_rule (take size rules) && all_zero (drop size rules)

-- "each piece ..; each balance ..", and "the scale's balance is the sum of its pieces"
abbrev pub balanced : Head → List Piece → List Bool
balanced h ps = every (fits h.vessels h.last) ps ∷ same h.balances (balances_of h.vessels ps) ∷ eqb h.scale (held the_scale ps) ∷ []

-- "A book adds up if: rule is 0 to 3; V is 1 to 64; pieces ≤ places; .." That pieces ≤ accepted is asked no more: it
-- "may now have more pieces than accepted transfers".
abbrev pub count_tests : Head → List ℕ → List Bool
count_tests h t = leb h.rule last_rule ∷ leb 1 h.vessels ∷ leb h.vessels most_vessels ∷ leb h.pieces (places_of t) ∷ []

abbrev pub book_tests : Head → List ℕ → List Bool
book_tests h t = count_tests h t ++ (rules_fit h.vessels h.rules ∷ balanced h (pieces_of h.pieces t))

unfoldable pub adds_up : Head → List ℕ → Bool
adds_up h t = all_of (book_tests h t)

-- "Opening gives every vessel the book's rule": every one that the book has.
abbrev pub given_rules : ℕ → ℕ → List ℕ
given_rules rule size = replicate size rule ++ replicate (most_vessels - size) 0

-- "Opening takes a rule and V; the fresh head has all other numbers 0." It checks 2, 3; a refusal gives a head of
-- zeros.
abbrev pub empty_head : ℕ → ℕ → Head
empty_head rule size =
    record { rule = rule; vessels = size; pieces = 0; last = 0; accepted = 0; balances = replicate most_vessels 0; scale = 0; rules = given_rules rule size }

abbrev pub not_opened : ℕ → Reply
not_opened n = record { number = n; head = empty_head 0 0 }

abbrev pub open_checks : ℕ → ℕ → List Check
open_checks rule size = 2 if ltb last_rule rule ∷ 3 if ltb size 1 ∷ 3 if ltb most_vessels size ∷ []

abbrev pub opens : ℕ → ℕ → ℕ → Reply
opens rule size zero = record { number = 0; head = empty_head rule size }
opens rule size (suc n) = not_opened (suc n)

unfoldable pub opening : ℕ → ℕ → Reply
opening rule size = opens rule size (first (open_checks rule size))

-- the empty book
abbrev pub opened : ℕ → ℕ → Book
opened rule size = record { rule = rule; vessels = size; last = 0; accepted = 0; rules = given_rules rule size; pieces = [] }
