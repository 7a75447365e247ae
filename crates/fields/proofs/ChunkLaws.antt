-- Laws of a slice cut into arrays, as std cuts it: what is made of each array is what is made of each group of the flat list.
-- Assumes nothing.
use Rattle.std.proofs.Common.{ℕ, zero, suc, ◌*◌, ◌/◌, ◌≡◌, refl, List, map, length, take, drop, arith, get_or-drop, drop-drop}
use Rattle.std.proofs.lemmas.List.{get_or-take}
use Rattle.std.specs.Simd.{first_chunks}
use Rattle.fields.specs.Bytes.{value_in, groups}
use Rattle.fields.specs.Movements.{entry_size, given_size, entry_in, entries_in, given_in, entries_given}

-- of an f that sees no further than its array
pub map_chunks : {A : Type 0} (size : ℕ) (f : List ℕ → A) → ((l : List ℕ) → f (take size l) ≡ f l)
    → (count : ℕ) (l : List ℕ) → map f (first_chunks size count l) ≡ groups size f count l
unfolding groups
map_chunks size f same zero l = refl
map_chunks size f same (suc count) l = rw (same l, map_chunks size f same count (drop size l))

-- the arrays themselves
pub chunks_taken : (size count : ℕ) (l : List ℕ) → first_chunks size count l ≡ groups size (take size) count l
unfolding groups
chunks_taken size zero l = refl
chunks_taken size (suc count) l = rw (chunks_taken size count (drop size l))

entry_taken : (l : List ℕ) → entry_in (take entry_size l) ≡ entry_in l
unfolding value_in
entry_taken l = simp (get_or-drop, drop-drop) (grind (arith, get_or-take))

given_taken : (l : List ℕ) → given_in (take given_size l) ≡ given_in l
given_taken l = grind (arith, get_or-take)

pub entry_chunks : (count : ℕ) (l : List ℕ) → map entry_in (first_chunks entry_size count l) ≡ entries_in count l
entry_chunks = map_chunks entry_size entry_in entry_taken

pub given_chunks : (count : ℕ) (l : List ℕ) → map given_in (first_chunks given_size count l) ≡ entries_given count l
given_chunks = map_chunks given_size given_in given_taken

-- the movements of bytes that hold so many and no more
pub entries_cut : (count : ℕ) (l : List ℕ) → length l ≡ entry_size * count → map entry_in (first_chunks entry_size (length l / entry_size) l) ≡ entries_in count l
entries_cut count l e = let same : length l / entry_size ≡ count = omega arith in rw same (entry_chunks count l)
