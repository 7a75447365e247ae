-- K1 to K10, the marked cases of document 01, with age 0: one table over the definitions that the contracts cite, and
-- one theorem. K8 speaks of every book and every rule: `even_law` is that law.
-- Assumes nothing.
use Rattle.std.proofs.Common.{◌≡◌, refl, List, [], ◌∷◌, ◌++◌, map, ℕ, take}
use Rattle.table.specs.Pieces.{held}
use Rattle.table.specs.Table.{pieces_of, flat, places_in}
use Rattle.taking.specs.Selection.{precedes}
use Rattle.taking.specs.Taking.{take_up_to, taken}
use Rattle.book.specs.declared.Transfer.{Transfer}
use Rattle.book.specs.Head.{Book, tab, balances_of, every, same, adds_up, opening, rules_fit, all_zero}
use Rattle.book.specs.Motion.{takes}
use Rattle.book.specs.Transfer.{transfer_checks, motion_of, unaged}
use Rattle.book.specs.Calls.{post, meaning}
use Rattle.book.specs.Memory.{book_checks, number_of, call_on}
use Rattle.conservation.specs.WeighBook.{WeighBook, blank, weigh_number, feed}
use Rattle.book.specs.Lists.{Journal, calls_on, answered, evens}
use Rattle.conservation.specs.Conservation.{numbers}
use Rattle.book.proofs.Sound.{all_taken}
use Rattle.cases.proofs.Cases.{Case, worked, seen, pieces}

pub data Name : Type 0 where
  K1 : Name
  K2 : Name
  K3 : Name
  K4 : Name
  K5 : Name
  K6 : Name
  K7 : Name
  K8 : Name
  K9 : Name
  K10 : Name

-- a marked case
pub record Named : Type 0 where
  pub name : Name
  pub is : Case

-- What is looked at: the pieces and the even count, alone or with the numbers of the head; the births at some vessels
-- and minutes; the balances of the head and the weights of the weigh book; the numbers answered; the even count.
abbrev weigh_book : Journal → WeighBook
weigh_book r = feed (blank 3) (answered r.log)

abbrev whole : Journal → List ℕ
whole r = r.head.vessels ∷ r.head.rule ∷ r.head.accepted ∷ r.head.pieces ∷ pieces r

abbrev births : Journal → List ℕ
births r = (weigh_book r).births 1 1 ∷ (weigh_book r).births 2 3 ∷ (weigh_book r).births 1 5 ∷ []

abbrev balances : Journal → List ℕ
balances r = take 3 r.head.balances ++ tab (weigh_book r).weight 0 3

abbrev answers : Journal → List ℕ
answers r = numbers r.log

abbrev even : Journal → List ℕ
even r = evens r.log ∷ []

-- the six movements of the published table
abbrev pub six : List Transfer
six = unaged 1 2 1 3 ∷ unaged 2 0 3 5 ∷ unaged 0 1 4 3 ∷ unaged 1 2 5 7 ∷ unaged 2 1 7 2 ∷ unaged 2 0 8 1 ∷ []

-- two lots, and then all of them moved on
abbrev emptied : List Transfer
emptied = unaged 0 1 1 2 ∷ unaged 0 1 2 3 ∷ unaged 1 2 3 5 ∷ []

abbrev case : Name → ℕ → List Transfer → (Journal → List ℕ) → List ℕ → Named
case k r xs f ns = record { name = k; is = worked r xs f ns }

unfoldable pub marked : List Named
marked =
    case K1 2 six whole (3 ∷ 2 ∷ 6 ∷ 4 ∷ 0 ∷ 2 ∷ 3 ∷ 2 ∷ 2 ∷ 1 ∷ 5 ∷ 4 ∷ 1 ∷ 1 ∷ 1 ∷ 2 ∷ 0 ∷ 1 ∷ 1 ∷ 1 ∷ 2 ∷ [])
    ∷ case K2 0 six pieces (0 ∷ 2 ∷ 3 ∷ 2 ∷ 2 ∷ 1 ∷ 5 ∷ 4 ∷ 1 ∷ 1 ∷ 1 ∷ 2 ∷ 0 ∷ 1 ∷ 1 ∷ 1 ∷ 2 ∷ [])
    ∷ case K3 1 six pieces (0 ∷ 1 ∷ 1 ∷ 2 ∷ 2 ∷ 1 ∷ 1 ∷ 1 ∷ 2 ∷ 2 ∷ 3 ∷ 2 ∷ 2 ∷ 1 ∷ 5 ∷ 1 ∷ 1 ∷ 1 ∷ 5 ∷ 2 ∷ 0 ∷ 1 ∷ 5 ∷ 1 ∷ 0 ∷ [])
    ∷ case K4 3 six pieces (0 ∷ 1 ∷ 1 ∷ 2 ∷ 2 ∷ 2 ∷ 3 ∷ 2 ∷ 2 ∷ 1 ∷ 1 ∷ 1 ∷ 2 ∷ 1 ∷ 5 ∷ 1 ∷ 1 ∷ 1 ∷ 5 ∷ 2 ∷ 0 ∷ 1 ∷ 5 ∷ 1 ∷ 0 ∷ [])
    ∷ case K5 0 six births (3 ∷ 2 ∷ 4 ∷ [])
    ∷ case K5 1 six births (3 ∷ 2 ∷ 4 ∷ [])
    ∷ case K5 2 six births (3 ∷ 2 ∷ 4 ∷ [])
    ∷ case K5 3 six births (3 ∷ 2 ∷ 4 ∷ [])
    ∷ case K6 0 six balances (3 ∷ 2 ∷ 4 ∷ 3 ∷ 2 ∷ 4 ∷ [])
    ∷ case K6 1 six balances (3 ∷ 2 ∷ 4 ∷ 3 ∷ 2 ∷ 4 ∷ [])
    ∷ case K6 2 six balances (3 ∷ 2 ∷ 4 ∷ 3 ∷ 2 ∷ 4 ∷ [])
    ∷ case K6 3 six balances (3 ∷ 2 ∷ 4 ∷ 3 ∷ 2 ∷ 4 ∷ [])
    ∷ case K7 2 (six ++ unaged 0 1 8 1 ∷ unaged 0 1 7 1 ∷ []) answers (0 ∷ 0 ∷ 0 ∷ 0 ∷ 0 ∷ 0 ∷ 0 ∷ 8 ∷ [])
    ∷ case K8 0 emptied even (1 ∷ [])
    ∷ case K8 1 emptied even (1 ∷ [])
    ∷ case K8 2 emptied even (1 ∷ [])
    ∷ case K8 3 emptied even (1 ∷ [])
    ∷ case K9 0 (unaged 0 1 0 4294967294 ∷ unaged 0 1 0 2 ∷ unaged 0 1 0 1 ∷ []) answers (0 ∷ 9 ∷ 0 ∷ [])
    ∷ case K10 0 (unaged 1 1 0 0 ∷ []) answers (6 ∷ [])
    ∷ []

pub marked_cases : map (λ c. seen c.is) marked ≡ map (λ c. c.is.wanted) marked
unfolding marked calls_on call_on number_of book_checks adds_up rules_fit all_zero every same balances_of tab places_in pieces_of flat opening transfer_checks takes taken take_up_to precedes feed weigh_number
marked_cases = refl

-- K8: "q = balance of s, above 0, accepted: even under every rule", of every book.
pub even_law : (b : Book) (x : Transfer) → x.weight ≡ held x.source b.pieces → (meaning (post x)).even b ≡ 1
even_law b x e = rw (all_taken b (motion_of x) e)
