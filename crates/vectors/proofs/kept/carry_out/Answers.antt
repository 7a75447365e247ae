-- Each clause is a field of what `journal` promises of the list.
use Rattle.vectors.proofs.kept.carry_out.Goals as goal

pub returns-clause-carries : goal.returns-clause-carries
returns-clause-carries c = c.carry_out.ensures

pub returns-clause-journal : goal.returns-clause-journal
returns-clause-journal c opens =
    let d = c.carry_out.ensures.demand opens in
    (d.0, d.1, d.2)

pub returns-clause-in_turn : goal.returns-clause-in_turn
returns-clause-in_turn c opens = (c.carry_out.ensures.demand opens).3.in_turn

pub returns-clause-vessel_sums : goal.returns-clause-vessel_sums
returns-clause-vessel_sums c opens = (c.carry_out.ensures.demand opens).3.vessel_sums

pub returns-clause-birth_sums : goal.returns-clause-birth_sums
returns-clause-birth_sums c opens = (c.carry_out.ensures.demand opens).3.birth_sums

pub returns-clause-even_count : goal.returns-clause-even_count
returns-clause-even_count c opens = (c.carry_out.ensures.demand opens).3.even_count

pub returns-clause-accepted_count : goal.returns-clause-accepted_count
returns-clause-accepted_count c opens = (c.carry_out.ensures.demand opens).3.accepted_count

pub returns-clause-forecasts : goal.returns-clause-forecasts
returns-clause-forecasts c opens = (c.carry_out.ensures.demand opens).3.forecasts

pub returns-clause-adds_up : goal.returns-clause-adds_up
returns-clause-adds_up c opens = (c.carry_out.ensures.demand opens).3.book_adds_up
