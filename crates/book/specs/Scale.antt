-- "Lift and tip": their checks, and the motions that they are. "Lift takes weight from s onto the scale, tip empties
-- the whole scale into d." A scale is told by its number. A book has one, `the_scale`, and every lift and tip is of
-- that; what "a second, empty scale" would do is said with another number.
-- Definitions only. Assumes nothing.
use Rattle.std.specs.Prelude.{List, [], ◌∷◌, ℕ, ◌+◌, ◌-◌, leb, ltb, eqb}
use Rattle.refusal.specs.Numbers.{TOP, Check, ◌if◌}
use Rattle.book.specs.declared.Transfer.{Transfer}
use Rattle.book.specs.declared.Lift.{Lift}
use Rattle.book.specs.declared.Tip.{Tip}
use Rattle.book.specs.declared.Motion.{Motion}
use Rattle.book.specs.Motion.{Standing, no_standing, Terms, motion}

abbrev pub lift_of : ℕ → ℕ → ℕ → ℕ → Lift
lift_of s t q age = record { source = s; minute = t; weight = q; age = age }

abbrev pub tip_of : ℕ → ℕ → Tip
tip_of d t = record { destination = d; minute = t }

-- "A transfer is divided": into this lift and this tip. `second_scale` (wording/proofs/SecondScale.antt) shows that it leaves
-- what they leave, whatever lies on the book's own scale, and `succession` that these can be calls where nothing does.
abbrev pub lift_part : Transfer → Lift
lift_part x = lift_of x.source x.minute x.weight x.age

abbrev pub tip_part : Transfer → Tip
tip_part x = tip_of x.destination x.minute

-- "Lift checks 1, 4, 5, 7, 8, 21, 10, 11", and "22 'scale loaded'", which "is left for lift alone", after 4. The scale
-- is bare then, so that it has room for any weight.
unfoldable pub lift_checks : ℕ → Standing → Lift → List Check
lift_checks scale g x =
    22 if ltb 0 (g.balance scale)
    ∷ 5 if leb g.vessels x.source
    ∷ 7 if eqb x.weight 0
    ∷ 8 if ltb x.minute g.last
    ∷ 21 if ltb x.minute x.age
    ∷ 10 if eqb g.accepted TOP
    ∷ []

-- "tip checks 1, 4, 5, 8, 9", and "23 'scale bare' .. after 4". 9 is of all that lies on the scale.
unfoldable pub tip_checks : ℕ → Standing → Tip → List Check
tip_checks scale g y =
    23 if eqb (g.balance scale) 0
    ∷ 5 if leb g.vessels y.destination
    ∷ 8 if ltb y.minute g.last
    ∷ 9 if ltb TOP (g.balance y.destination + g.balance scale)
    ∷ []

-- A lift is a transfer onto a scale.
abbrev pub lift_terms : ℕ → Lift → Terms
lift_terms scale x =
    record {
      checks = λ g. lift_checks scale g x;
      source = x.source;
      destination = scale;
      birth = x.minute - x.age;
      weight = λ g. x.weight;
      minute = x.minute;
      counts = 1;
    }

-- A tip moves all the weight on a scale, so that nothing is born, and does not count.
abbrev pub tip_terms : ℕ → Tip → Terms
tip_terms scale y =
    record {
      checks = λ g. tip_checks scale g y;
      source = scale;
      destination = y.destination;
      birth = y.minute;
      weight = λ g. g.balance scale;
      minute = y.minute;
      counts = 0;
    }

-- the motions that they are: of a lift on any book, of a tip where so much lies on the scale
abbrev pub lift_motion : ℕ → Lift → Motion
lift_motion scale x = motion (lift_terms scale x) no_standing

abbrev pub tip_motion : ℕ → ℕ → Tip → Motion
tip_motion scale weight y = motion (tip_terms scale y) (record no_standing { balance = λ v. weight })
