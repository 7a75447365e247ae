-- A RUN IS THE FOLD OF DOCUMENT 01'S TRANSFERS over the movements read: it ends with the head, the table and the even
-- count that calling the transfers in turn gives, up to and with the first that is refused. So demand 3 holds of it;
-- and nothing is on the scale at its end, as a sheet knows no lift (`run_bare`), and every pick goes by its one rule
-- (`run_one_rule`).
-- Assumes nothing.
use Rattle.std.proofs.Common.{◌≡◌, refl, sym, ap, ◌∙◌, true, false, not, List, [], ◌∷◌, ◌++◌, map, ℕ, zero, suc, ◌+◌, ◌-◌, ◌≤◌, arith, length, take, replicate}
use Rattle.refusal.specs.Numbers.{first, if_zero}
use Rattle.refusal.proofs.Numbers.{first_zero}
use Rattle.book.specs.declared.Head.{Head}
use Rattle.book.specs.declared.Transfer.{Transfer}
use Rattle.book.specs.Head.{open_checks, opens, opening}
use Rattle.book.specs.Calls.{Call, post}
use Rattle.book.specs.Memory.{Outcome, call_on}
use Rattle.book.specs.Lists.{Journal, calls_on, without_settings, evens, stirs}
use Rattle.conservation.specs.Conservation.{numbers, sets_stirred, sets_none, Demand3}
use Rattle.former.specs.OneRule.{one_rule_calls}
use Rattle.book.proofs.Memory.{refused_memory, refused_even}
use Rattle.conservation.proofs.Lists.{demand_3}
use Rattle.conservation.proofs.Unstirred.{first_rules, answered_all}
use Rattle.book.proofs.Accepted.{post_scale}
use Rattle.former.proofs.OneRule.{never_set, opened_unset}
use Rattle.sheet.specs.Sheet.{rule_of, vessels_of, movements_of, read_number}
use Rattle.run.specs.Run.{transfers_of, Running, go_on, run_from, run_number, running}
use Rattle.fields.proofs.GroupLaws.{length_groups}
use Rattle.run.proofs.RunLaws.{opened_well}
use Rattle.run.proofs.InWords.{refused_run}

-- the first n transfers, as calls
abbrev pub calls_from : ℕ → List Transfer → List Call
calls_from n xs = map post (take n xs)

-- A run from index i on, against the journal of its transfers tried: so many are accepted, and then one is refused or
-- none is left.
pub record Folds (i even : ℕ) (h : Head) (t : List ℕ) (xs : List Transfer) (r : Running) : Type 0 where
  pub tried : ℕ
  pub index_is : r.answer.index + if_zero r.answer.number 0 1 ≡ i + tried
  pub head_is : r.answer.head ≡ (calls_on h t (calls_from tried xs)).head
  pub table_is : r.table ≡ (calls_on h t (calls_from tried xs)).table
  pub even_is : r.answer.even ≡ even + evens (calls_on h t (calls_from tried xs)).log
  -- every number but the last is 0, and the last is the run's
  pub numbers_are : numbers (calls_on h t (calls_from tried xs)).log ≡ replicate (r.answer.index - i) 0 ++ if_zero r.answer.number [] (r.answer.number ∷ [])
  pub onward : i ≤ r.answer.index
  pub all_made : r.answer.number ≡ 0 → tried ≡ length xs

pub folds : (xs : List Transfer) (i even : ℕ) (h : Head) (t : List ℕ) → Folds i even h t xs (run_from i even h t xs)
unfolding run_from calls_on
folds [] i even h t = record {
  tried = 0;
  index_is = refl;
  head_is = refl;
  table_is = refl;
  even_is = omega arith;
  numbers_are = let z : i - i ≡ 0 = omega arith in rw z;
  onward = omega arith;
  all_made = λ e. refl;
}
folds (x ∷ xs) i even h t = go (call_on h t (post x)).number refl (folds xs)
  where
    u : Outcome
    u = call_on h t (post x)

    go : (n : ℕ) → u.number ≡ n → ((i even : ℕ) (h : Head) (t : List ℕ) → Folds i even h t xs (run_from i even h t xs))
        → Folds i even h t (x ∷ xs) (go_on (λ even' h' t'. run_from (suc i) even' h' t' xs) i even h t x u n)
    go zero e next =
        let f = next (suc i) (even + u.even) u.head u.table in
        let k = (run_from (suc i) (even + u.even) u.head u.table xs).answer in
        let d : k.index - i ≡ suc (k.index - suc i) = omega (arith, f.onward) in
        record {
          tried = suc f.tried;
          index_is = f.index_is ∙ omega arith;
          head_is = f.head_is;
          table_is = f.table_is;
          even_is = f.even_is ∙ omega arith;
          numbers_are = rw (e, d) (ap (λ (l : List ℕ). 0 ∷ l) f.numbers_are);
          onward = omega (arith, f.onward);
          all_made = λ z. ap suc (f.all_made z);
        }
    go (suc n) e next =
        let m = refused_memory h t (post x) (λ z. omega arith) in
        let z : i - i ≡ 0 = omega arith in
        record {
          tried = 1;
          index_is = refl;
          head_is = sym m.0;
          table_is = sym m.1;
          even_is = rw (refused_even h t (post x) (λ z. omega arith)) (omega arith);
          numbers_are = rw (e, z);
          onward = omega arith;
          all_made = λ z. absurd (omega arith);
        }

-- transfers set no rule
posts_set_none : (xs : List Transfer) → sets_none (map post xs) ≡ true
posts_set_none [] = refl
posts_set_none (x ∷ xs) = posts_set_none xs

-- What holds of a run r that is not refused by its sheet or by 1.
pub record RunOf (s t : List ℕ) (r : Running) : Type 0 where
  pub folded : Folds 0 0 (opening (rule_of s) (vessels_of s)).head t (transfers_of s) r
  pub demand : Demand3 (rule_of s) (vessels_of s) t (calls_from folded.tried (transfers_of s)) (calls_on (opening (rule_of s) (vessels_of s)).head t (calls_from folded.tried (transfers_of s)))
  -- it never uses rule 4, so that its pieces are counted and its numbers forecast
  pub unstirred : stirs (calls_on (opening (rule_of s) (vessels_of s)).head t (calls_from folded.tried (transfers_of s))).log ≡ false
  -- where none is refused the index is M
  pub passed : r.answer.number ≡ 0 → r.answer.index ≡ movements_of s

module _ (s t : List ℕ) (e : run_number s t ≡ 0) where
  reads : read_number s ≡ 0
  unfolding run_number
  reads = first_zero (read_number s) _ e

  abbrev run : Running
  run = run_from 0 0 (opening (rule_of s) (vessels_of s)).head t (transfers_of s)

  runs : running s t ≡ run
  unfolding running
  runs = rw e

  pub run_theorem : RunOf s t (running s t)
  run_theorem = rw runs (record {
    folded = f;
    demand = demand_3 (rule_of s) (vessels_of s) (opened_well s reads) t _;
    unstirred =
        let xs = take f.tried (transfers_of s) in
        let given =
        answered_all (λ c. not (sets_stirred c)) (map post xs) (opening (rule_of s) (vessels_of s)).head t (posts_set_none xs) in
        first_rules (rule_of s) (vessels_of s) (opened_well s reads) t (map post xs) given;
    passed = λ z. let k = f.all_made z ∙ length_groups _ _ (movements_of s) _ in omega (arith, rw z at f.index_is);
  })
    where
      f : Folds 0 0 (opening (rule_of s) (vessels_of s)).head t (transfers_of s) run
      f = folds (transfers_of s) 0 0 (opening (rule_of s) (vessels_of s)).head t

-- transfers leave the scale as it was, and a fresh book has nothing on it
posts_scale : (xs : List Transfer) (h : Head) (t : List ℕ) → (calls_on h t (map post xs)).head.scale ≡ h.scale
unfolding calls_on
posts_scale [] h t = refl
posts_scale (x ∷ xs) h t = let o = call_on h t (post x) in posts_scale xs o.head o.table ∙ post_scale h t x

opened_bare : (rule size : ℕ) → (opening rule size).head.scale ≡ 0
unfolding opening
opened_bare rule size = go (first (open_checks rule size))
  where
    go : (n : ℕ) → (opens rule size n).head.scale ≡ 0
    go zero = refl
    go (suc n) = refl

-- of every sheet and every table, refused or not
pub run_bare : (s t : List ℕ) → (running s t).answer.head.scale ≡ 0
run_bare s t = go (run_number s t) refl
  where
    fresh : Head
    fresh = (opening (rule_of s) (vessels_of s)).head

    go : (n : ℕ) → run_number s t ≡ n → (running s t).answer.head.scale ≡ 0
    go zero e =
        let f = (run_theorem s t e).folded in
        ap (λ (h : Head). h.scale) f.head_is ∙ posts_scale (take f.tried (transfers_of s)) fresh t ∙ opened_bare (rule_of s) (vessels_of s)
    go (suc n) e = ap (λ (r : Running). r.answer.head.scale) (refused_run s t n e)

-- "Sheets still carry one rule": a run leaves what its transfers did while a book had one rule.
without_posts : (xs : List Transfer) → without_settings (map post xs) ≡ map post xs
without_posts [] = refl
without_posts (x ∷ xs) = ap (λ (cs : List Call). post x ∷ cs) (without_posts xs)

pub run_one_rule : (s t : List ℕ) (e : run_number s t ≡ 0)
    → let r = running s t in
    let j =
    one_rule_calls (opening (rule_of s) (vessels_of s)).head t (calls_from (run_theorem s t e).folded.tried (transfers_of s)) in
    (r.answer.head ≡ j.head) × (r.table ≡ j.table)
run_one_rule s t e =
    let f = (run_theorem s t e).folded in
    let xs = take f.tried (transfers_of s) in
    let fresh = opened_unset (rule_of s) (vessels_of s) in
    let same =
    rw (without_posts xs) at (never_set (map post xs) (opening (rule_of s) (vessels_of s)).head t fresh.0 fresh.1) in
    (f.head_is ∙ ap (λ (j : Journal). j.head) same, f.table_is ∙ ap (λ (j : Journal). j.table) same)
