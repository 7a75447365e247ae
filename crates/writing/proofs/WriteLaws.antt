-- Laws of writing: what the checks tell once they are passed, and each way out. Assumes nothing.
use mathlib.Core.List.{flat_map}
use Rattle.std.proofs.Common.{ℕ, ◌+◌, ◌*◌, ◌/◌, ◌%◌, ◌<◌, ◌≤◌, zero-add, arith, ◌≡◌, refl, sym, ap, ◌∙◌, Bool, true, false, not, List, [], ◌∷◌, ◌++◌, ltb-false, lt-ltb, le-ltb, T, eqb, map, length, take, drop, length-append, take_at}
use lib.Seq.{sets, sets-eq}
use Rattle.refusal.specs.Numbers.{Check, ◌if◌, first}
use Rattle.refusal.proofs.Numbers.{named, passed, same_if, past, refuses, passes, passed_first, passed_second}
use Rattle.fields.specs.declared.entries.Entry.{Entry}
use Rattle.fields.specs.Layout.{name_size, most_movements, sheet_size, movements_off, Within}
use Rattle.fields.specs.Names.{names_in, names_off}
use Rattle.fields.specs.Movements.{given_size, entry_size, given_in, entries_given, entries_bytes, given_checks, entries_checks}
use Rattle.book.specs.Head.{open_checks}
use Rattle.writing.specs.Writing.{count_given, given_off, count_checks, content_checks, room_check, write_number, sheet_of, written}
use Rattle.std.specs.Simd.{first_chunks}
use Rattle.std.proofs.lemmas.Bool.{or_parts}
use Rattle.fields.proofs.NameLaws.{names_cut}
use Rattle.book.proofs.HeadLaws.{Openable, openable}
use Rattle.fields.proofs.LayoutLaws.{few_movements}
use Rattle.fields.proofs.GroupLaws.{length_groups}
use Rattle.fields.proofs.EntryLaws.{named_given, named_entries}
use Rattle.writing.proofs.SheetPut.{length_entry, length_header}

pub named_movements : (vessels : ℕ) (es : List Entry) → T (named (entries_checks (given_checks vessels) es))
named_movements vessels es = named_entries (given_checks vessels) (named_given vessels) es

-- What counts that pass their checks are.
pub record Counted (rule vessels : ℕ) (names numbers : List ℕ) : Type 0 where
  pub opens : first (open_checks rule vessels) ≡ 0
  pub inside : movements_off (count_given numbers) ≡ false
  pub opened : Openable rule vessels
  pub named : length names ≡ name_size * vessels
  pub whole : length numbers % given_size ≡ 0
  pub moved : count_given numbers ≤ most_movements

pub counted : (rule vessels n : ℕ) (names numbers : List ℕ) → n ≡ first (count_checks rule vessels names numbers) → n ≡ 0 → Counted rule vessels names numbers
unfolding given_off
counted rule vessels n names numbers e z =
    let last = (16 if given_off vessels names numbers) ∷ (15 if movements_off (count_given numbers)) ∷ [] in
    let opens = passed_first (open_checks rule vessels) last tt (sym e ∙ z) in
    let p = passed last tt (passed_second (open_checks rule vessels) last tt (sym e ∙ z)) in
    let g = or_parts (not (eqb (length names) (name_size * vessels))) (not (eqb (length numbers % given_size) 0)) p.0 in
    record {
      opens = opens;
      inside = p.1.0;
      opened = openable rule vessels opens;
      named = same_if _ _ g.0;
      whole = same_if _ _ g.1;
      moved = few_movements (count_given numbers) _ refl p.1.0;
    }

within : {rule vessels : ℕ} {names numbers : List ℕ} → Counted rule vessels names numbers → Within vessels (count_given numbers)
within g = record { few_vessels = g.opened.few_vessels; few_movements = g.moved }

-- what the content's checks ask
pub content_fits : (rule vessels n : ℕ) (names numbers : List ℕ) → n ≡ first (count_checks rule vessels names numbers) → n ≡ 0
    → Within vessels (count_given numbers) × (length names ≡ name_size * vessels)
content_fits rule vessels n names numbers e z =
    let g = counted rule vessels n names numbers e z in
    (within g, g.named)

-- the ways out of `check_content`: the names and the movements are cut out of what is given
module _ (vessels movements room : ℕ) (names numbers : List ℕ) (sized : length names ≡ name_size * vessels) (cut : List (List ℕ))
    (these : cut ≡ first_chunks name_size (length names / name_size) names) (off : Bool) (e : off ≡ names_off cut) where
  names_say : off ≡ names_off (names_in vessels names)
  names_say = e ∙ ap names_off (these ∙ names_cut vessels names sized)

  pub out_name : off ≡ true → 17 ≡ first (content_checks vessels movements names numbers room)
  out_name q = rw (← names_say, q)

  module _ (f : off ≡ false) (given : List (List ℕ)) (are : map given_in given ≡ entries_given movements numbers)
      (n : ℕ) (says : n ≡ first (entries_checks (given_checks vessels) (map given_in given))) where
    abbrev es : List Check
    es = entries_checks (given_checks vessels) (entries_given movements numbers)

    ok : T (named es)
    ok = named_movements vessels (entries_given movements numbers)

    en : n ≡ first es
    en = rw are at says

    pub out_movement : (n ≡ 0 → ⊥) → n ≡ first (content_checks vessels movements names numbers room)
    out_movement h = rw (← names_say, f) (refuses es (room_check vessels movements room ∷ []) ok n en h)

    pub out_room : n ≡ 0 → room < sheet_size vessels movements → 19 ≡ first (content_checks vessels movements names numbers room)
    out_room z h = rw (← names_say, f) (passes es (room_check vessels movements room ∷ []) ok n 19 en z (rw (lt-ltb _ _ h)))

    pub out_all : n ≡ 0 → sheet_size vessels movements ≤ room → 0 ≡ first (content_checks vessels movements names numbers room)
    out_all z h = rw (← names_say, f) (passes es (room_check vessels movements room ∷ []) ok n 0 en z (rw (le-ltb _ _ h)))

-- What names, movements and room that pass their checks are.
pub record Content (vessels movements : ℕ) (names numbers : List ℕ) (most : ℕ) : Type 0 where
  pub named : names_off (names_in vessels names) ≡ false
  pub moved : first (entries_checks (given_checks vessels) (entries_given movements numbers)) ≡ 0
  pub room : sheet_size vessels movements ≤ most

pub content : (vessels movements most : ℕ) (names numbers : List ℕ) → first (content_checks vessels movements names numbers most) ≡ 0
    → Content vessels movements names numbers most
content vessels movements most names numbers e =
    let es = entries_checks (given_checks vessels) (entries_given movements numbers) in
    let last = room_check vessels movements most ∷ [] in
    let ok = named_movements vessels (entries_given movements numbers) in
    let p = past 16 (names_off (names_in vessels names)) (es ++ last) e in
    record {
      named = p.0;
      moved = passed_first es last ok p.1;
      room = ltb-false most (sheet_size vessels movements) (passed last tt (passed_second es last ok p.1)).0;
    }

-- the ways out of `check`
module _ (rule vessels room : ℕ) (names numbers : List ℕ) (n : ℕ) (e : n ≡ first (count_checks rule vessels names numbers)) where
  pub out_counts : (n ≡ 0 → ⊥) → n ≡ write_number rule vessels names numbers room
  unfolding write_number
  out_counts h = refuses (count_checks rule vessels names numbers) (content_checks vessels (count_given numbers) names numbers room) tt n e h

  pub out_content : (r : ℕ) → n ≡ 0 → r ≡ first (content_checks vessels (count_given numbers) names numbers room) → r ≡ write_number rule vessels names numbers room
  unfolding write_number
  out_content r z er = passes (count_checks rule vessels names numbers) (content_checks vessels (count_given numbers) names numbers room) tt n r e z er

length_entries : (es : List Entry) → length (entries_bytes es) ≡ entry_size * length es
unfolding flat_map
length_entries [] = refl
length_entries (e ∷ es) =
    let ih = length_entries es in
    let one = length_entry e in
    rw length-append (omega arith)

pub length_sheet : (rule vessels : ℕ) (names numbers : List ℕ) → length names ≡ name_size * vessels → length (sheet_of rule vessels names numbers) ≡ sheet_size vessels (count_given numbers)
unfolding sheet_of
length_sheet rule vessels names numbers e =
    let es = entries_given (count_given numbers) numbers in
    let count : length es ≡ count_given numbers = length_groups given_size given_in (count_given numbers) numbers in
    let bytes = length_entries es in
    rw (length-append, length-append, length_header) (omega arith)

-- what is given where the number is 0
module _ (rule vessels room n : ℕ) (names numbers : List ℕ) (e : n ≡ write_number rule vessels names numbers room) (z : n ≡ 0) where
  zeros : first (count_checks rule vessels names numbers ++ content_checks vessels (count_given numbers) names numbers room) ≡ 0
  unfolding write_number
  zeros = sym e ∙ z

  pub write_counted : Counted rule vessels names numbers
  write_counted =
      counted rule vessels _ names numbers refl
      (passed_first (count_checks rule vessels names numbers) (content_checks vessels (count_given numbers) names numbers room) tt zeros)

  pub write_content : Content vessels (count_given numbers) names numbers room
  write_content =
      content vessels (count_given numbers) room names numbers
      (passed_second (count_checks rule vessels names numbers) (content_checks vessels (count_given numbers) names numbers room) tt zeros)

-- what is given where the number of what is to be put into a slice is 0
module _ (rule vessels n : ℕ) (names numbers out : List ℕ) (e : n ≡ write_number rule vessels names numbers (length out)) (z : n ≡ 0) where
  pub put_fits : Within vessels (count_given numbers) × (length names ≡ name_size * vessels) × (sheet_size vessels (count_given numbers) ≤ length out)
  put_fits =
      let g = write_counted rule vessels (length out) n names numbers e z in
      let k = write_content rule vessels (length out) n names numbers e z in
      (within g, g.named, k.room)

  pub write_done : (l : List ℕ) → l ≡ sets out 0 (sheet_of rule vessels names numbers) → l ≡ written rule vessels names numbers out
  write_done l el =
      let size = length_sheet rule vessels names numbers put_fits.1 in
      let room : 0 + length (sheet_of rule vessels names numbers) ≤ length out = omega (arith, put_fits.2) in
      rw (← e, z) (el ∙ sets-eq (sheet_of rule vessels names numbers) out 0 room ∙ rw (zero-add, size))

  -- the sheet lies at the start of what is left
  pub write_starts : take (sheet_size vessels (count_given numbers)) (written rule vessels names numbers out) ≡ sheet_of rule vessels names numbers
  write_starts =
      rw (← e, z)
      (take_at (sheet_of rule vessels names numbers) (drop (sheet_size vessels (count_given numbers)) out) (sheet_size vessels (count_given numbers))
      (length_sheet rule vessels names numbers put_fits.1))
