-- "The weigh book": a plain machine with weights and births alone, and no pieces. It knows no rule. "The weigh book has
-- [the scale] too."
-- Definitions only. Assumes nothing.
use Rattle.std.specs.Prelude.{Bool, true, false, ◌&&◌, cond, List, [], ◌∷◌, ℕ, ◌+◌, ◌-◌, eqb}
use Rattle.table.specs.Pieces.{only}
use Rattle.refusal.specs.Numbers.{Check, first, if_zero}
use Rattle.book.specs.declared.Motion.{Motion}
use Rattle.book.specs.Motion.{Standing, Terms, motion}
use Rattle.book.specs.Calls.{Call, enter, terms}

-- "weight W of each vessel, births B of each vessel and minute, last minute, accepted; all 0 at first"; the scale's
-- weight is that of holder 64
pub record WeighBook : Type 0 where
  pub vessels : ℕ
  pub weight : ℕ → ℕ
  pub births : ℕ → ℕ → ℕ
  pub last : ℕ
  pub accepted : ℕ

abbrev pub blank : ℕ → WeighBook
blank size = record { vessels = size; weight = λ v. 0; births = λ o t. 0; last = 0; accepted = 0 }

abbrev pub of_weigh : WeighBook → Standing
of_weigh w = record { vessels = w.vessels; balance = w.weight; last = w.last; accepted = w.accepted }

-- "born = q − W[s] if positive, else 0; W[s] falls by q − born; W[d] rises by q; B[s, t] rises by born; last = t;
-- accepted rises by 1", where "the weigh book enters births under t − age"
abbrev pub weighed : WeighBook → Motion → WeighBook
weighed w m =
    let x = m.moves in
    let born = x.weight - w.weight x.source in
    record {
      vessels = w.vessels;
      weight = λ v. (w.weight v - only (eqb x.source v) (x.weight - born)) + only (eqb x.destination v) x.weight;
      births = λ o t. w.births o t + only (eqb x.source o && eqb x.birth t) born;
      last = m.minute;
      accepted = w.accepted + m.counts;
    }

-- What a call is to the weigh book: its checks, the machine after it where none applies, and whether its number is
-- forecast.
pub record Weighing : Type 0 where
  pub checks : WeighBook → List Check
  pub next : WeighBook → WeighBook
  pub forecasts : Bool

-- What is posted it checks and weighs as a book does, "with W as balance": "a lift is to it a transfer onto the scale,
-- a tip moves all its weight there to d, sets last and leaves accepted"
abbrev pub terms_weighing : Terms → Weighing
terms_weighing p =
    record { checks = λ w. p.checks (of_weigh w); next = λ w. weighed w (motion p (of_weigh w)); forecasts = true }

-- what it is not fed
abbrev pub no_weighing : Weighing
no_weighing = record { checks = λ w. []; next = λ w. w; forecasts = false }

-- settings of rules and reports it is not fed
abbrev pub weighing : Call → Weighing
weighing (enter p) = terms_weighing (terms p)
weighing c = no_weighing

-- "The first that applies is its answer, and nothing changes."
unfoldable pub weigh_number : WeighBook → Call → ℕ
weigh_number w c = first ((weighing c).checks w)

abbrev pub weigh_step : WeighBook → Call → WeighBook
weigh_step w c = if_zero (weigh_number w c) ((weighing c).next w) w

-- fed with calls in turn
unfoldable pub feed : WeighBook → List Call → WeighBook
feed w [] = w
feed w (c ∷ cs) = feed (weigh_step w c) cs

-- a call's number in front, where it is forecast
abbrev pub listed : Call → ℕ → List ℕ → List ℕ
listed c n ns = cond (weighing c).forecasts (n ∷ ns) ns

-- the numbers that it gives to a list's transfers, lifts and tips, fed every one
unfoldable pub forecast : WeighBook → List Call → List ℕ
forecast w [] = []
forecast w (c ∷ cs) = listed c (weigh_number w c) (forecast (weigh_step w c) cs)
