-- Laws of the rules that vessels have: those given at opening fit, and each vessel has the book's; rules that fit still do after one is set; from V on
-- they are rule 0, which is how the scale's pieces are picked, so that what is no vessel has no rule of its own; and each is one of the five.
-- Assumes nothing.
use Rattle.std.proofs.Common.{◌≡◌, ◌≢◌, true, List, [], ◌∷◌, ◌++◌, ℕ, zero, suc, ◌≤◌, ◌<◌, arith, length, get_or, get_or-set_same, get_or-set_other, set, take, drop, replicate}
use Rattle.std.proofs.lemmas.Bool.Decides.{nat_tests}
use Rattle.std.specs.List.{list_all}
use Rattle.std.proofs.lemmas.List.{drop-replicate, get_or-replicate, length-replicate}
use lib.ListN.{get_or-append}
use lib.Seq.{set_out}
use Rattle.taking.specs.Stirring.{stirred_rule}
use Rattle.book.specs.Head.{last_rule, most_vessels, as_they_lie, rule_at, known_rule, rules_fit, given_rules}
use Rattle.book.proofs.ZeroLaws.{zeros_all, zeros_from}

given_before : (rule size n : ℕ) → rule ≤ stirred_rule → rules_fit size (replicate size rule ++ replicate n 0) ≡ true
unfolding rules_fit
given_before rule zero n known = zeros_all n
given_before rule (suc size) n known = grind (arith, nat_tests, given_before rule size n known)

-- as the code writes them: over zeros
pub given_written : (rule size : ℕ) → replicate size rule ++ drop size (replicate most_vessels 0) ≡ given_rules rule size
given_written rule size = rw drop-replicate

pub given_fit : (rule size : ℕ) → rule ≤ last_rule → rules_fit size (given_rules rule size) ≡ true
given_fit rule size known = given_before rule size _ (omega arith)

pub given_at : (rule size v : ℕ) → size ≤ most_vessels → v < size → rule_at (given_rules rule size) v ≡ rule
given_at rule size v few inside = grind (arith, nat_tests, get_or-append, get_or-replicate size v rule 0, length-replicate size rule)

pub set_fit : (size v rule : ℕ) (rules : List ℕ) → v < size → rule ≤ stirred_rule → rules_fit size rules ≡ true → rules_fit size (set rules v rule) ≡ true
unfolding rules_fit
set_fit size v rule [] inside known e = e
set_fit zero v rule (x ∷ rules) inside known e = absurd (omega arith)
set_fit (suc size) zero rule (x ∷ rules) inside known e = grind (arith, nat_tests)
set_fit (suc size) (suc v) rule (x ∷ rules) inside known e = grind (arith, nat_tests, set_fit size v rule rules)

-- the vessel has the rule, and any other holder that which it had
pub set_at : (v rule : ℕ) (rules : List ℕ) → v < most_vessels → length rules ≡ most_vessels → rule_at (set rules v rule) v ≡ rule
set_at v rule rules inside long = grind (arith, nat_tests, get_or-set_same rules v rule 0)

pub set_others : (v rule w : ℕ) (rules : List ℕ) → w ≢ v → rule_at (set rules v rule) w ≡ rule_at rules w
set_others v rule w rules apart = grind (arith, nat_tests, get_or-set_other rules v w rule 0)

known_at : (size v : ℕ) (rules : List ℕ) → list_all known_rule (take size rules) ≡ true → v < size → get_or rules v 0 ≤ stirred_rule
known_at size v [] e inside = omega arith
known_at zero v (x ∷ rules) e inside = absurd (omega arith)
known_at (suc size) zero (x ∷ rules) e inside = grind (arith, nat_tests)
known_at (suc size) (suc v) (x ∷ rules) e inside = grind (arith, nat_tests, known_at size v rules)

pub rule_beyond : (size v : ℕ) (rules : List ℕ) → rules_fit size rules ≡ true → size ≤ v → rule_at rules v ≡ as_they_lie
unfolding rules_fit
rule_beyond size v rules e past = grind (arith, nat_tests, zeros_from size v rules)

-- so that every holder's pieces are picked by one of the five
pub rule_known : (size v : ℕ) (rules : List ℕ) → rules_fit size rules ≡ true → rule_at rules v ≤ stirred_rule
unfolding rules_fit
rule_known size v rules e = grind (arith, nat_tests, known_at size v rules, zeros_from size v rules)

-- Vessels none of which has rule 4: as given by an opening, and after another rule is set.
abbrev pub Unstirred : List ℕ → Type 0
Unstirred rules = (v : ℕ) → rule_at rules v ≢ stirred_rule

pub given_unstirred : (rule size : ℕ) → rule ≤ last_rule → size ≤ most_vessels → Unstirred (given_rules rule size)
given_unstirred rule size known few v e =
    let fit = rule_beyond size v (given_rules rule size) (given_fit rule size known) in
    grind (arith, nat_tests, given_at rule size v few, fit)

pub set_unstirred : (v rule : ℕ) (rules : List ℕ) → rule ≢ stirred_rule → Unstirred rules → Unstirred (set rules v rule)
set_unstirred v rule rules other before w = grind (arith, nat_tests, before w, get_or-set_other rules v w rule 0, get_or-set_same rules v rule 0, set_out rules v rule)
