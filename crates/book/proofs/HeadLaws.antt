-- Laws of the head: the tests by which a book adds up, what each says where it holds and that a sound piece and equal lists pass them; where pieces lie;
-- and opening: what passes its checks, and its answer by its number.
-- Assumes nothing.
use Rattle.std.proofs.Common.{◌≡◌, refl, true, List, [], ◌∷◌, ℕ, zero, suc, ◌≤◌, ◌<◌, arith}
use Rattle.std.proofs.lemmas.Bool.Decides.{nat_tests}
use Rattle.table.specs.declared.Piece.{Piece}
use Rattle.table.specs.Pieces.{held, All, done, also}
use Rattle.table.proofs.Pieces.{all_map, all_both}
use Rattle.taking.proofs.Sweeping.{none_held}
use Rattle.refusal.specs.Numbers.{first}
use Rattle.book.specs.declared.Head.{Head}
use Rattle.book.specs.declared.Reply.{Reply}
use Rattle.book.specs.Head.{last_rule, most_vessels, the_scale, fits, every, same, empty_head, not_opened, open_checks, opens, opening}
use Rattle.book.proofs.HolderLaws.{holder_vessel}
use Rattle.book.proofs.Sound.{SoundPiece}

-- equal lists
pub same_refl : (l : List ℕ) → same l l ≡ true
unfolding same
same_refl [] = refl
same_refl (x ∷ xs) = grind (arith, nat_tests, same_refl xs)

pub same_eq : (l m : List ℕ) → same l m ≡ true → l ≡ m
unfolding same
same_eq [] [] e = refl
same_eq [] (y ∷ ys) e = cc
same_eq (x ∷ xs) [] e = cc
same_eq (x ∷ xs) (y ∷ ys) e = grind (arith, nat_tests, same_eq xs ys)

-- pieces that fit are sound
module _ (size last : ℕ) where
  pub sound_fit : (p : Piece) → SoundPiece size last p → fits size last p ≡ true
  sound_fit p h = grind (arith, nat_tests)

  pub fit_sound : (p : Piece) → fits size last p ≡ true → SoundPiece size last p
  fit_sound p e = grind (arith, nat_tests)

  pub all_fit : {ps : List Piece} → All (SoundPiece size last) ps → every (fits size last) ps ≡ true
  unfolding every
  all_fit done = refl
  all_fit (also {p = p} h x) = grind (arith, nat_tests, all_fit x)

  pub all_sound : (ps : List Piece) → every (fits size last) ps ≡ true → All (SoundPiece size last) ps
  unfolding every
  all_sound [] e = done
  all_sound (p ∷ ps) e = also (grind (arith, nat_tests)) (grind (arith, all_sound ps))

-- pieces of which none is on the scale lie in vessels
pub in_vessels : (size last : ℕ) (ps : List Piece) → All (SoundPiece size last) ps → held the_scale ps ≡ 0 → All (λ p. p.holder < size) ps
in_vessels size last ps s bare =
    let off = none_held the_scale ps (all_map (λ p f. f.weighty) s) bare in
    all_map (λ p u. holder_vessel size _ u.0.holder_in u.1) (all_both s off)

-- what a rule and a number of vessels are that pass opening's checks
pub record Openable (rule size : ℕ) : Type 0 where
  pub rule_known : rule ≤ last_rule
  pub some_vessels : 1 ≤ size
  pub few_vessels : size ≤ most_vessels

pub openable : (rule size : ℕ) → first (open_checks rule size) ≡ 0 → Openable rule size
openable rule size e = grind (arith, nat_tests)

-- opening, with the number of its checks in hand
module _ (rule size n : ℕ) (z : Reply) (e : n ≡ first (open_checks rule size)) where
  pub open_refused : (n ≡ 0 → ⊥) → z ≡ not_opened n → z ≡ opening rule size
  unfolding opening
  open_refused nz ez = grind arith

  pub open_accepted : n ≡ 0 → (h : Head) → h ≡ empty_head rule size → record { number = 0; head = h } ≡ opening rule size
  unfolding opening
  open_accepted q h eh = grind arith

-- an opening that is accepted has passed its checks, and gives the fresh head
pub opening_passed : (rule size : ℕ) → (opening rule size).number ≡ 0 → (first (open_checks rule size) ≡ 0) × ((opening rule size).head ≡ empty_head rule size)
unfolding opening
opening_passed rule size = go (first (open_checks rule size))
  where
    go : (n : ℕ) → (opens rule size n).number ≡ 0 → (n ≡ 0) × ((opens rule size n).head ≡ empty_head rule size)
    go zero e = (refl, refl)
    go (suc n) e = absurd (omega arith)
