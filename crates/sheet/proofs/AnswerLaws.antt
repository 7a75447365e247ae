-- Laws of the answers: what asking of a sheet that reads well gives, what it has room for, and its movements and names by their index.
-- Assumes nothing.
use Rattle.std.proofs.Common.{ℕ, ◌+◌, ◌*◌, ◌<◌, ◌≤◌, arith, ◌≡◌, refl, sym, ap, ◌∙◌, List, [], ◌∷◌, leb-false, le-leb, leb, get_or, length, take, drop, drop-drop, length-drop, map, ◌-◌, ◌/◌}
use Rattle.std.proofs.lemmas.List.{get_or-map, length-map, take_rest}
use Rattle.std.specs.Simd.{first_chunks}
use borrow.Author.Tests.{lt-leb}
use Rattle.refusal.specs.Numbers.{Check, ◌if◌, first}
use Rattle.refusal.proofs.Numbers.{passed, first_zero}
use Rattle.sheet.specs.declared.answer.Header.{Header}
use Rattle.fields.specs.declared.entries.Entry.{Entry}
use Rattle.fields.specs.Layout.{name_size, header_size, name_start, entries_start}
use Rattle.fields.specs.Movements.{entry_size, entry_in, no_entry}
use Rattle.sheet.specs.Sheet.{entries_read, names_read, vessels_of, movements_of, read_number}
use Rattle.sheet.specs.Answers.{header_numbers, asked_number, entry_at, movement_answer, movement_number, movement_asked, name_number, name_bytes}
use Rattle.fields.proofs.ChunkLaws.{entries_cut}
use Rattle.fields.proofs.GroupLaws.{group_at, length_groups}
use Rattle.sheet.proofs.ReadLaws.{good}

-- the movements and the names of a sheet, each by its index
pub entry_of : (s : List ℕ) (i : ℕ) → i < movements_of s → entry_at s i ≡ get_or (entries_read s) i no_entry
entry_of s i h =
    let d = drop (entries_start (vessels_of s)) s in
    let e : drop (entry_size * i) d ≡ drop (entries_start (vessels_of s) + entry_size * i) s = drop-drop (entry_size * i) (entries_start (vessels_of s)) s in
    sym (group_at entry_size entry_in (movements_of s) d i no_entry h ∙ ap entry_in e)

pub name_of : (s : List ℕ) (v : ℕ) → v < vessels_of s → name_bytes s v ≡ get_or (names_read s) v []
name_of s v h = rw (group_at name_size (take name_size) (vessels_of s) (drop header_size s) v [] h, drop-drop)

-- a sheet that reads well, asked for something: only what is asked for is looked at
module _ (s : List ℕ) (z : read_number s ≡ 0) where
  pub asked_good : (check : Check) → asked_number s check ≡ first (check ∷ [])
  unfolding asked_number
  asked_good check = rw z

  -- the check of an index, of either kind
  pub asked_inside : (number count index : ℕ) → index < count → asked_number s (number if leb count index) ≡ 0
  asked_inside number count index h = rw (asked_good, lt-leb count index h)

  pub asked_past : (index : ℕ) → movements_of s ≤ index → movement_asked s index ≡ movement_answer 20 no_entry
  asked_past index h = let n : movement_number s index ≡ 20 = rw (asked_good, le-leb (movements_of s) index h) in rw n

  -- what its header tells lies within it
  module _ (header : Header) (told : header ≡ header_numbers s) (start : ℕ) (es : start ≡ name_start header.vessels) where
    pub names_end : start ≤ length s
    names_end = let l = good s _ refl z in rw (es, told) (omega (arith, l.size))

    abbrev rest : List ℕ
    rest = take (length s - start) (drop start s)

    pub entries_known : (entries : List (List ℕ)) → entries ≡ first_chunks entry_size (length rest / entry_size) rest → map entry_in entries ≡ entries_read s
    entries_known entries cut =
        let l = good s _ refl z in
        let behind = drop (entries_start (vessels_of s)) s in
        let here : start ≡ entries_start (vessels_of s) = es ∙ rw told in
        let long : length behind ≡ entry_size * movements_of s = rw length-drop (omega (arith, l.size)) in
        rw (take_rest, here) at (ap (map entry_in) cut) ∙ entries_cut (movements_of s) behind long

-- the movement at an index, among those that the sheet has
module _ (s : List ℕ) (entries : List (List ℕ)) (known : map entry_in entries ≡ entries_read s) (index : ℕ) (h : index < movements_of s) where
  pub entry_there : index < length entries
  entry_there =
      let size : length entries ≡ movements_of s = sym (length-map entries entry_in) ∙ ap length known ∙ length_groups entry_size entry_in (movements_of s) _ in
      rw size h

  pub entry_known : (e : Entry) → e ≡ entry_in (get_or entries index []) → e ≡ entry_at s index
  entry_known e is =
      is ∙ sym (get_or-map entry_in entries index [] no_entry entry_there) ∙ ap (λ (es : List Entry). get_or es index no_entry) known ∙ sym (entry_of s index h)

-- the eight bytes of a name lie in a sheet that has it
pub name_fits : (s : List ℕ) (vessel n : ℕ) → n ≡ name_number s vessel → n ≡ 0 → name_start vessel + name_size ≤ length s
unfolding asked_number
name_fits s vessel n e z =
    let k = first ((5 if leb (vessels_of s) vessel) ∷ []) in
    let q : read_number s ≡ 0 = first_zero (read_number s) k (sym e ∙ z) in
    let p : k ≡ 0 = rw q at (sym e ∙ z) in
    let l = good s _ refl q in
    omega (arith, leb-false (vessels_of s) vessel (passed ((5 if leb (vessels_of s) vessel) ∷ []) tt p).0)
