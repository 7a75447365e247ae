-- Laws of names: what std counts, tests, compares and cuts is what the definitions read. Assumes nothing.
use Rattle.std.proofs.Common.{ℕ, ◌+◌, ◌<◌, get_or, arith, ◌≡◌, refl, sym, ◌∙◌, Bool, true, false, ◌||◌, List, [], ◌∷◌, eqb, ltb, lt-ltb, length, drop, ◌*◌, ◌/◌, ◌≤◌, ◌++◌, take, ap, length-take, take-append-drop}
use Rattle.std.proofs.lemmas.Bool.{eqb-false}
use Rattle.std.proofs.lemmas.List.{drop_more, drop_all}
use Rattle.std.specs.Char.{is_ascii_graphic}
use Rattle.std.specs.Cmp.Lexicographic.{pointwise}
use Rattle.std.specs.List.{list_all, list_any, prefix_len}
use Rattle.book.specs.Head.{all_zero}
use Rattle.fields.specs.Bytes.{exists}
use Rattle.fields.specs.Names.{letters, well_formed, used_in, name_off, names_off, names_in}
use Rattle.fields.specs.Layout.{name_size}
use Rattle.std.specs.Simd.{first_chunks}
use Rattle.fields.proofs.ChunkLaws.{chunks_taken}
use Rattle.fields.proofs.GroupLaws.{groups_append}
use lib.Seq.{take-append-le}
use Rattle.fields.proofs.ByteLaws.{slices_compared, same_either}

-- std's count of graphic bytes from the front on is the letters
pub letters_counted : (s : List ℕ) → prefix_len is_ascii_graphic s ≡ letters s
unfolding letters
letters_counted [] = refl
letters_counted (b ∷ s) = let ih = letters_counted s in grind (arith, ih)

-- of a name with letters, cut behind them, the zeros are left to tell
pub some_letters : (s front rest : List ℕ) (n : ℕ) (none r : Bool) → n ≡ letters s → length front ≡ n → none ≡ eqb (length front) 0 → none ≡ false
    → rest ≡ drop n s → r ≡ list_all (λ b. eqb b 0) rest → r ≡ well_formed s
unfolding well_formed all_zero
some_letters s front rest n none r is cut says some behind zeros =
    let p : ltb 0 (letters s) ≡ true = lt-ltb 0 (letters s) (omega (arith, eqb-false (length front) 0 (sym says ∙ some))) in
    zeros ∙ simp (behind, is, p)

-- what std finds among the names behind
pub used_found : (name : List ℕ) (behind : List (List ℕ)) (r : Bool) → r ≡ list_any (λ other. pointwise eqb other name) behind → r ≡ used_in name behind
unfolding exists
used_found name [] r e = e
used_found name (other ∷ behind) r e =
    rw (slices_compared other name, same_either other name, used_found name behind (list_any (λ other. pointwise eqb other name) behind) refl) at e

-- the names left, from name i on, where it is told whether that one is off
pub names_next : (names : List (List ℕ)) (i : ℕ) → i < length names → (off : Bool)
    → off ≡ name_off (get_or names i []) (drop (i + 1) names) → names_off (drop i names) ≡ (off || names_off (drop (i + 1) names))
unfolding exists
names_next names i h off e = rw (e, drop_more names i [] h)

pub names_none : (names : List (List ℕ)) (i : ℕ) → length names ≤ i → names_off (drop i names) ≡ false
unfolding exists
names_none names i h = rw (drop_all i names h)

-- the names that std cuts a part of the bytes into, which holds the names and no more
pub names_cut : (vessels : ℕ) (l : List ℕ) → length l ≡ name_size * vessels → first_chunks name_size (length l / name_size) l ≡ names_in vessels l
names_cut vessels l e = let count : length l / name_size ≡ vessels = omega arith in rw count (chunks_taken name_size vessels l)

-- what lies behind the names does not matter
pub names_append : (vessels : ℕ) (l r : List ℕ) → name_size * vessels ≤ length l → names_in vessels (l ++ r) ≡ names_in vessels l
names_append = groups_append name_size (take name_size) (λ l r h. take-append-le name_size l r h)

pub names_taken : (vessels : ℕ) (l : List ℕ) → name_size * vessels ≤ length l → names_in vessels (take (name_size * vessels) l) ≡ names_in vessels l
names_taken vessels l h =
    sym (names_append vessels (take (name_size * vessels) l) (drop (name_size * vessels) l) (rw length-take (omega arith))) ∙ ap (names_in vessels) (take-append-drop (name_size * vessels) l)
