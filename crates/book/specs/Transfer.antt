-- "A transfer": its checks, and the motion that it is.
-- Definitions only. Assumes nothing.
use Rattle.std.specs.Prelude.{◌++◌, List, [], ◌∷◌, ℕ, ◌+◌, ◌-◌, leb, ltb, eqb}
use Rattle.refusal.specs.Numbers.{TOP, Check, ◌if◌}
use Rattle.book.specs.declared.Transfer.{Transfer}
use Rattle.book.specs.declared.Motion.{Motion}
use Rattle.book.specs.Motion.{Standing, no_standing, Terms, motion}

-- The largest age: "an unsigned 16-bit number, 0 to 65,535".
abbrev pub most_age : ℕ
most_age = 65535

-- "It has source s, destination d, minute t, weight q", and "an age in minutes": the record `Transfer` of src/lib.rt.
abbrev pub transfer_of : ℕ → ℕ → ℕ → ℕ → ℕ → Transfer
transfer_of s d t q age = record { source = s; destination = d; minute = t; weight = q; age = age }

-- the transfer that has age 0
abbrev pub unaged : ℕ → ℕ → ℕ → ℕ → Transfer
unaged s d t q = transfer_of s d t q 0

-- The checks of the vessels, and those after them.
abbrev pub vessel_checks : Standing → Transfer → List Check
vessel_checks g x = 5 if leb g.vessels x.source ∷ 5 if leb g.vessels x.destination ∷ []

abbrev pub rest_checks : Standing → Transfer → List Check
rest_checks g x =
    6 if eqb x.source x.destination
    ∷ 7 if eqb x.weight 0
    ∷ 8 if ltb x.minute g.last
    ∷ 21 if ltb x.minute x.age
    ∷ 9 if ltb TOP (g.balance x.destination + x.weight)
    ∷ 10 if eqb g.accepted TOP
    ∷ []

-- Checks 5 to 10, with 21 straight after 8. What is on the scale plays no part: 9 looks at the balance of the
-- destination alone.
unfoldable pub transfer_checks : Standing → Transfer → List Check
transfer_checks g x = vessel_checks g x ++ rest_checks g x

-- What a transfer posts: "what is born has birth t − age", and it counts as one.
abbrev pub transfer_terms : Transfer → Terms
transfer_terms x =
    record {
      checks = λ g. transfer_checks g x;
      source = x.source;
      destination = x.destination;
      birth = x.minute - x.age;
      weight = λ g. x.weight;
      minute = x.minute;
      counts = 1;
    }

-- the motion that a transfer is, on any book
abbrev pub motion_of : Transfer → Motion
motion_of x = motion (transfer_terms x) no_standing
