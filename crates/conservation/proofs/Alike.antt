-- THE SAME UNDER ALL RULES. Who supplied which gram is the rules' doing, and nothing else is: of two books with as many
-- vessels, opened under any rules, and two lists that differ only in their settings of rules, the transfers, lifts and
-- tips get the same numbers (`rules_alike`), and every vessel and the scale then hold the same, with the same born at
-- every vessel in every minute (`totals_alike`). Each where the tables have places enough and rule 4 is never used,
-- which can ask for any number of places: a transfer that finds none is refused. The idea: the weigh book gives both,
-- and it knows neither a rule nor a setting.
-- Assumes nothing.
use Rattle.std.proofs.Common.{◌≡◌, refl, sym, ap, false, List, [], ◌∷◌, ℕ, ◌≤◌, length, ◌∙◌}
use Rattle.table.specs.Pieces.{sum, born_at, held}
use Rattle.table.specs.Table.{places_of}
use Rattle.book.specs.Head.{book_of, opening}
use Rattle.book.specs.Calls.{Call, set_rule}
use Rattle.conservation.specs.WeighBook.{WeighBook, blank, weigh_number, weigh_step, feed, listed, forecast}
use Rattle.book.specs.Lists.{calls_on, answered, stirs, without_settings, transfers, tips}
use Rattle.conservation.specs.Conservation.{numbers}
use Rattle.conservation.proofs.Lists.{demand_3, fed_all}

-- settings left out, the weigh book forecasts the same and is the same
unset_forecast : (cs : List Call) (w : WeighBook) → forecast w cs ≡ forecast w (without_settings cs)
unfolding forecast weigh_number
unset_forecast [] w = refl
unset_forecast (set_rule s ∷ cs) w = unset_forecast cs w
unset_forecast (c ∷ cs) w = ap (listed c (weigh_number w c)) (unset_forecast cs (weigh_step w c))

unset_feed : (cs : List Call) (w : WeighBook) → feed w cs ≡ feed w (without_settings cs)
unfolding feed weigh_number
unset_feed [] w = refl
unset_feed (set_rule s ∷ cs) w = unset_feed cs w
unset_feed (c ∷ cs) w = unset_feed cs (weigh_step w c)

-- A table with a place for every transfer and lift of a list, refused ones counted, and with one at all if it has a
-- tip; and rule 4 is never used.
pub record Roomy (rule size : ℕ) (t : List ℕ) (cs : List Call) : Type 0 where
  pub unstirred : stirs (calls_on (opening rule size).head t cs).log ≡ false
  pub places : transfers cs ≤ places_of t
  pub long : 1 ≤ tips cs → 4 ≤ length t

module _ (one other size : ℕ) (e : (opening one size).number ≡ 0) (f : (opening other size).number ≡ 0) (t u : List ℕ) (cs ds : List Call)
    (same : without_settings cs ≡ without_settings ds) (h : Roomy one size t cs) (k : Roomy other size u ds) where
  pub rules_alike : numbers (calls_on (opening one size).head t cs).log ≡ numbers (calls_on (opening other size).head u ds).log
  rules_alike =
      (demand_3 one size e t cs).forecasts h.unstirred h.places h.long
      ∙ unset_forecast cs (blank size)
      ∙ ap (forecast (blank size)) same
      ∙ sym (unset_forecast ds (blank size))
      ∙ sym ((demand_3 other size f u ds).forecasts k.unstirred k.places k.long)

  weighed_alike : feed (blank size) (answered (calls_on (opening one size).head t cs).log) ≡ feed (blank size) (answered (calls_on (opening other size).head u ds).log)
  weighed_alike =
      fed_all one size e t cs h.unstirred h.places h.long
      ∙ unset_feed cs (blank size)
      ∙ ap (feed (blank size)) same
      ∙ sym (unset_feed ds (blank size))
      ∙ sym (fed_all other size f u ds k.unstirred k.places k.long)

  pub totals_alike : let r = calls_on (opening one size).head t cs in
      let s = calls_on (opening other size).head u ds in
      ((v : ℕ) → held v (book_of r.head r.table).pieces ≡ held v (book_of s.head s.table).pieces)
      × ((o m : ℕ) → sum (born_at o m) (book_of r.head r.table).pieces ≡ sum (born_at o m) (book_of s.head s.table).pieces)
  totals_alike =
      let a = demand_3 one size e t cs in
      let b = demand_3 other size f u ds in (
        λ v. a.vessel_sums v ∙ ap (λ (w : WeighBook). w.weight v) weighed_alike ∙ sym (b.vessel_sums v),
        λ o m. a.birth_sums o m ∙ ap (λ (w : WeighBook). w.births o m) weighed_alike ∙ sym (b.birth_sums o m),
      )
