-- Laws of the balances: when a list of 65 numbers, the scale's last, is the balances of some pieces, and what it
-- becomes when weight goes from one holder to another.
-- Assumes nothing.
use Rattle.std.proofs.Common.{◌≡◌, refl, sym, ap, ◌≢◌, true, false, cond, List, [], ◌∷◌, ◌++◌, ℕ, zero, suc, ◌+◌, ◌-◌, ◌≤◌, ◌<◌, not-suc-le-zero, le_of_suc-le-suc, zero-add, add-zero, suc-add, arith, w32, Fits, eqb, length, get_or, length-append, replicate, ext_get_or, ◌∙◌}
use lib.ListN.{get_or-eq_default, get_or-append}
use lib.Seq.{get_or_at}
use Rattle.std.proofs.lemmas.Bool.{cases_lt}
use Rattle.std.proofs.lemmas.Bool.Decides.{nat_tests}
use Rattle.std.proofs.lemmas.Grind.{common_steps}
use Rattle.table.specs.declared.Piece.{Piece}
use Rattle.table.specs.Pieces.{only, held, All, done, also}
use Rattle.book.specs.declared.Head.{Head}
use Rattle.book.specs.Head.{most_vessels, the_scale, most_holders, is_holder, holdings, Sized, balance_at, with_balance, shifted, tab, balance_of, balances_of, head_of, opened, empty_head}

pub length_tab : (f : ℕ → ℕ) (i n : ℕ) → length (tab f i n) ≡ n
unfolding tab
length_tab f i zero = refl
length_tab f i (suc n) = ap suc (length_tab f (suc i) n)

pub get_d_tab : (f : ℕ → ℕ) (i n k : ℕ) → k < n → get_or (tab f i n) k 0 ≡ f (i + k)
unfolding tab
get_d_tab f i zero k h = absurd (not-suc-le-zero h)
get_d_tab f i (suc n) zero h = ap f (omega arith)
get_d_tab f i (suc n) (suc k) h = get_d_tab f (suc i) n k (le_of_suc-le-suc h) ∙ ap f (omega arith)

pub tab_append : (f : ℕ → ℕ) (i m n : ℕ) → tab f i (m + n) ≡ tab f i m ++ tab f (i + m) n
unfolding tab
tab_append f i zero n = rw (zero-add, add-zero)
tab_append f i (suc m) n = let e : suc i + m ≡ i + suc m = omega arith in rw suc-add (ap (λ (l : List ℕ). f i ∷ l) (tab_append f (suc i) m n ∙ rw e))

-- the same numbers make the same list, wherever they are counted from
pub tab_same : (f g : ℕ → ℕ) (i j n : ℕ) → ((k : ℕ) → k < n → f (i + k) ≡ g (j + k)) → tab f i n ≡ tab g j n
tab_same f g i j n e =
    ext_get_or 0 _ _ (length_tab f i n ∙ sym (length_tab g j n)) (λ k h. let l : k < n = rw length_tab at h in get_d_tab f i n k l ∙ e k l ∙ sym (get_d_tab g j n k l))

tab_zeros : (f : ℕ → ℕ) → ((k : ℕ) → f k ≡ 0) → (i n : ℕ) → tab f i n ≡ replicate n 0
unfolding tab
tab_zeros f h i zero = refl
tab_zeros f h i (suc n) = rw (h i, tab_zeros f h (suc i) n)

-- the head of the empty book is the fresh head
pub fresh_head : (rule size : ℕ) → empty_head rule size ≡ head_of (opened rule size)
unfolding balances_of
fresh_head rule size = rw (tab_zeros (balance_of size []) (λ k. grind arith) 0 most_vessels)

-- every piece lies in a vessel of the book or on the scale
abbrev pub Holders : ℕ → List Piece → Type 0
Holders size ps = All (λ p. is_holder size p.holder ≡ true) ps

-- nothing is held where no piece is
pub held_none : (size v : ℕ) {ps : List Piece} → Holders size ps → is_holder size v ≡ false → held v ps ≡ 0
held_none size v done h = refl
held_none size v (also {p = p} u x) h = grind (arith, nat_tests, held_none size v x h)

-- The numbers are what each of the 65 holders has.
pub record Matches (rest : List ℕ) (ps : List Piece) : Type 0 where
  pub long : length rest ≡ most_holders
  pub each : (v : ℕ) → v < most_holders → get_or rest v 0 ≡ held v ps

module _ (size : ℕ) (l : List ℕ) (w : ℕ) (ps : List Piece) (u : Holders size ps) where
  balances_of_at : (v : ℕ) → v < most_vessels → get_or (balances_of size ps) v 0 ≡ held v ps
  unfolding balances_of
  balances_of_at v h = get_d_tab (balance_of size ps) 0 most_vessels v h ∙ grind (arith, nat_tests, zero-add, held_none size v u)

  pub matches_balances : length l ≡ most_vessels → Matches (l ++ (w ∷ [])) ps → (l ≡ balances_of size ps) × (w ≡ held the_scale ps)
  unfolding balances_of
  matches_balances long m = (
    ext_get_or 0 l (balances_of size ps) (long ∙ sym (length_tab (balance_of size ps) 0 most_vessels))
        (λ k h. grind (arith, get_or-append l (w ∷ []) 0 k, m.each k, balances_of_at k)),
    sym (get_or_at l w [] 0 the_scale long) ∙ m.each the_scale (omega arith),
  )

  pub balances_match : l ≡ balances_of size ps → w ≡ held the_scale ps → Matches (l ++ (w ∷ [])) ps
  unfolding balances_of
  balances_match e ew =
      let long : length l ≡ most_vessels = ap length e ∙ length_tab (balance_of size ps) 0 most_vessels in
      let last = get_or_at l w [] 0 the_scale long in
      record { long = simp length-append (omega (arith, long)); each = λ v h. grind (arith, cases_lt v most_vessels, get_or-append l (w ∷ []) 0 v, balances_of_at v, last) }

-- the balances of a head, by holder
module _ (h : Head) (long : length h.balances ≡ most_vessels) where
  at_holdings : (v : ℕ) → v < most_holders → get_or (holdings h) v 0 ≡ balance_at h v
  unfolding balance_at
  at_holdings v g = let last = get_or_at h.balances h.scale [] 0 the_scale long in grind (arith, nat_tests, last, get_or-append h.balances (h.scale ∷ []) 0 v)

  at_set : (i w v : ℕ) → i < most_holders → balance_at (with_balance h i w) v ≡ cond (eqb i v) w (balance_at h v)
  unfolding with_balance balance_at
  at_set i w v g = grind (arith, nat_tests, common_steps)

-- a head that matches has a balance for each vessel
pub long_balances : (h : Head) (ps : List Piece) → Matches (holdings h) ps → length h.balances ≡ most_vessels
long_balances h ps m = omega (arith, simp length-append at m.long)

-- what a holder's balance is, past the last holder too
pub balance_held : (h : Head) (size : ℕ) (ps : List Piece) → size ≤ most_vessels → Holders size ps → Matches (holdings h) ps → (v : ℕ) → balance_at h v ≡ held v ps
unfolding balance_at
balance_held h size ps fit u m v =
    let long = long_balances h ps m in
    let past = get_or-eq_default h.balances 0 {n = v} in
    grind (arith, nat_tests, at_holdings h long v, m.each v, held_none size v u, past)

-- the numbers of a head that lies in memory
pub sized : {h : Head} → ((v : ℕ) → Fits w32 (get_or h.balances v 0)) → Fits w32 h.scale → Fits w32 h.accepted → Sized h
unfolding balance_at
sized {h} f s g = record { light = λ v. let u = f v in grind (arith, u.fits, s.fits); tally = omega (arith, g.fits) }

set_long : (h : Head) (i w : ℕ) → length (with_balance h i w).balances ≡ length h.balances
unfolding with_balance
set_long h i w = grind (arith, common_steps)

-- Weight goes from holder s to holder d: what the holders then hold is what the head then says. One law for every call
-- that moves weight.
module _ (h : Head) (ps qs : List Piece) (s given d received : ℕ) (hs : s < most_holders) (hd : d < most_holders) (m : Matches (holdings h) ps)
    (after : (v : ℕ) → held v qs ≡ (held v ps - only (eqb s v) given) + only (eqb d v) received) where
  abbrev less : Head
  less = with_balance h s (balance_at h s - given)

  long : length h.balances ≡ most_vessels
  long = long_balances h ps m

  long_less : length less.balances ≡ most_vessels
  long_less = set_long h s _ ∙ long

  long_more : length (shifted h s given d received).balances ≡ most_vessels
  long_more = set_long less d _ ∙ long_less

  was : (v : ℕ) → v < most_holders → balance_at h v ≡ held v ps
  was v g = sym (at_holdings h long v g) ∙ m.each v g

  raised : (v : ℕ) → v < most_holders → balance_at (shifted h s given d received) v ≡ held v qs
  raised v g =
      let less_at = at_set h long s (balance_at h s - given) in
      at_set less long_less d _ v hd ∙ rw (after v) (grind (arith, nat_tests, less_at v, less_at d, was v, was s, was d))

  pub shift_matches : Matches (holdings (shifted h s given d received)) qs
  shift_matches = record { long = simp length-append (omega (arith, long_more)); each = λ v g. at_holdings _ long_more v g ∙ raised v g }

-- the other numbers of the head stay
pub shift_keeps : (h : Head) (s given d received : ℕ)
    → let z = shifted h s given d received in (z.rule ≡ h.rule) × (z.vessels ≡ h.vessels) × (z.pieces ≡ h.pieces) × (z.last ≡ h.last) × (z.accepted ≡ h.accepted)
unfolding with_balance
shift_keeps h s given d received = (refl, refl, refl, refl, refl)

-- another holder's balance stays
pub shift_there : (h : Head) (s w d : ℕ) → s ≢ d → balance_at (with_balance h s w) d ≡ balance_at h d
unfolding with_balance balance_at
shift_there h s w d apart = grind (arith, nat_tests, common_steps)
