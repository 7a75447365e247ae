-- Numbers in bytes: "multi-byte fields little-endian". Definitions only. Assumes nothing.
use Rattle.std.specs.Prelude.{ℕ, zero, suc, ◌+◌, ◌*◌, ◌/◌, ◌%◌, Bool, false, ◌||◌, List, [], ◌∷◌, get_or, drop}

-- The number in the first `width` bytes of a list, the low byte first.
unfoldable pub value_in : ℕ → List ℕ → ℕ
value_in zero l = 0
value_in (suc width) l = get_or l 0 0 + 256 * value_in width (drop 1 l)

-- A number in `width` bytes, the low byte first.
unfoldable pub bytes_of : ℕ → ℕ → List ℕ
bytes_of zero x = []
bytes_of (suc width) x = x % 256 ∷ bytes_of width (x / 256)

-- The first `count` groups of `size` elements each, and what f makes of each.
unfoldable pub groups : {A : Type 0} → ℕ → (List ℕ → A) → ℕ → List ℕ → List A
groups size f zero l = []
groups size f (suc count) l = f l ∷ groups size f count (drop size l)

-- Whether an element passes the test, which is told the element and those behind it.
unfoldable pub exists : {A : Type 0} → (A → List A → Bool) → List A → Bool
exists t [] = false
exists t (x ∷ xs) = t x xs || exists t xs
