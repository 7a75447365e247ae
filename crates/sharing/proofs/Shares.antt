-- THE FACT ABOUT RUNNING SUMS, over any weights and any amount: the shares sum to the amount (`shares_sum`), each
-- differs from the exact amount × weight / total by less than 1 (`shares_near`), and those of the first weights are
-- together their exact part, rounded down (`shares_down`).
-- The idea: what falls to the first weights only grows, so that the shares telescope; and a share is the difference of
-- two numbers that are rounded down, each by less than 1. Where no more is shared out than there is, nothing gives more
-- than it has.
-- Assumes nothing.
use Rattle.std.proofs.Common.{arith, ◌≡◌, refl, sym, ap, ◌∙◌, List, [], ◌∷◌, ℕ, zero, suc, ◌+◌, ◌*◌, ◌≤◌, ◌<◌, add-zero, zero-add, get_or, take}
use Rattle.std.proofs.Math.Seq.{take-nil}
use Rattle.std.proofs.Math.Nat.{div-mul-le_self, lt-div-mul-add, div-le_of_le-mul, mul-div_cancel, mul-le-mul_left, mul-le-mul_right, mul-zero, mul-add, add-mul, mul_comm, lt_of_mul-lt-mul_right, zero-div}
use Rattle.sharing.specs.Sharing.{up_to, share, shares, sum_of}

-- Two numbers are apart by less than n: so a / n and b / n are, by less than 1.
abbrev pub Within : ℕ → ℕ → ℕ → Type 0
Within n a b = (a < b + n) × (b < a + n)

-- a is b / n, rounded down
abbrev pub RoundedDown : ℕ → ℕ → ℕ → Type 0
RoundedDown n a b = (a * n ≤ b) × (b < a * n + n)

module _ (amount total : ℕ) where
  pub up_to_none : up_to amount total 0 ≡ 0
  unfolding up_to
  up_to_none = rw (mul-zero, zero-div) refl

  -- what has no weight gets nothing
  pub share_none : (c : ℕ) → share amount total c 0 ≡ 0
  share_none c = rw add-zero (omega arith)

  module _ (some : 0 < total) where
    pub up_to_all : up_to amount total total ≡ amount
    unfolding up_to
    up_to_all = mul-div_cancel amount some

    -- each is rounded down, by less than 1
    below : (c : ℕ) → up_to amount total c * total ≤ amount * c
    unfolding up_to
    below c = div-mul-le_self (amount * c) total

    above : (c : ℕ) → amount * c < up_to amount total c * total + total
    unfolding up_to
    above c = lt-div-mul-add some

    under : (a b : ℕ) → a * total < b * total + total → a ≤ b
    under a b h = let less : a < b + 1 = lt_of_mul-lt-mul_right total (omega (arith, add-mul b 1 total)) in omega arith

    grows : (c w : ℕ) → up_to amount total c ≤ up_to amount total (c + w)
    grows c w = under _ _ (omega (arith, below c, above (c + w), mul-add amount c w))

    -- the shares telescope
    pub share_adds : (c w : ℕ) → up_to amount total c + share amount total c w ≡ up_to amount total (c + w)
    share_adds c w = omega (arith, grows c w)

    -- the part of the total that falls to c and the next w together
    both : (c w : ℕ) → up_to amount total (c + w) * total ≡ up_to amount total c * total + share amount total c w * total
    both c w = ap (λ n. n * total) (sym (share_adds c w)) ∙ add-mul (up_to amount total c) (share amount total c w) total

    -- nothing gives more than it has, where no more is shared out than there is
    pub share_fits : amount ≤ total → (c w : ℕ) → share amount total c w ≤ w
    share_fits few c w =
        under _ _ (omega (arith, below (c + w), above c, both c w, mul-add amount c w, mul-le-mul_right w few, mul_comm w total))

    -- THE FACT: within less than 1 of the exact part
    pub share_near : (c w : ℕ) → Within total (share amount total c w * total) (amount * w)
    share_near c w =
        let split = mul-add amount c w in
        (omega (arith, below (c + w), above c, both c w, split), omega (arith, below c, above (c + w), both c w, split))

    -- and nothing is lost
    shares_up_to : (c : ℕ) (ws : List ℕ) → up_to amount total c + sum_of (shares amount total c ws) ≡ up_to amount total (c + sum_of ws)
    unfolding shares
    shares_up_to c [] = simp add-zero
    shares_up_to c (w ∷ ws) =
        let all : up_to amount total (c + w + sum_of ws) ≡ up_to amount total (c + sum_of (w ∷ ws)) = ap (up_to amount total) (omega arith) in
        omega (arith, share_adds c w, shares_up_to (c + w) ws, all)

pub shares_sum : (amount : ℕ) (ws : List ℕ) → 0 < sum_of ws → sum_of (shares amount (sum_of ws) 0 ws) ≡ amount
shares_sum amount ws some = omega (arith, simp zero-add at (shares_up_to amount (sum_of ws) some 0 ws), up_to_none amount (sum_of ws), up_to_all amount (sum_of ws) some)

shares_at : (amount total c i : ℕ) → 0 < total → (ws : List ℕ) → Within total (get_or (shares amount total c ws) i 0 * total) (amount * get_or ws i 0)
unfolding shares
shares_at amount total c i some [] = rw mul-zero (omega arith, omega arith)
shares_at amount total c zero some (w ∷ ws) = share_near amount total some c w
shares_at amount total c (suc i) some (w ∷ ws) = shares_at amount total (c + w) i some ws

pub shares_near : (amount : ℕ) (ws : List ℕ) → 0 < sum_of ws → (i : ℕ) → Within (sum_of ws) (get_or (shares amount (sum_of ws) 0 ws) i 0 * sum_of ws) (amount * get_or ws i 0)
shares_near amount ws some i = shares_at amount (sum_of ws) 0 i some ws

-- what the first weights get together
first_shares : (amount total c : ℕ) → 0 < total → (ws : List ℕ) (i : ℕ)
    → up_to amount total c + sum_of (take i (shares amount total c ws)) ≡ up_to amount total (c + sum_of (take i ws))
unfolding shares
first_shares amount total c some [] i = simp (take-nil, add-zero)
first_shares amount total c some (w ∷ ws) zero = simp add-zero
first_shares amount total c some (w ∷ ws) (suc i) =
    let first : ℕ = sum_of (take i ws) in
    let all : up_to amount total (c + w + first) ≡ up_to amount total (c + (w + first)) =
    ap (up_to amount total) (omega arith)
    in
    omega (arith, share_adds amount total some c w, first_shares amount total (c + w) some ws i, all)

pub shares_down : (amount : ℕ) (ws : List ℕ) → 0 < sum_of ws → (i : ℕ)
    → RoundedDown (sum_of ws) (sum_of (take i (shares amount (sum_of ws) 0 ws))) (amount * sum_of (take i ws))
shares_down amount ws some i =
    let together : sum_of (take i (shares amount (sum_of ws) 0 ws)) ≡ up_to amount (sum_of ws) (sum_of (take i ws)) =
    omega (arith, simp zero-add at (first_shares amount (sum_of ws) 0 some ws i), up_to_none amount (sum_of ws))
    in
    rw together (below amount (sum_of ws) some _, above amount (sum_of ws) some _)

-- of numbers of 32 bits: so much of the amount falls to a part of the total
pub up_to_fits : (amount total c : ℕ) → 0 < total → c ≤ total → up_to amount total c ≤ amount
unfolding up_to
up_to_fits amount total c some part = div-le_of_le-mul total (omega (arith, mul-le-mul_left amount part))
