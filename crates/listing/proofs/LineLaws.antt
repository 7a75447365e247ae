-- Laws of the lines: those of pieces are written one behind the other, so that a line behind those of the first pieces makes those of
-- one more; the last line; and the two ways to list a run. Assumes nothing.
use Rattle.std.proofs.Common.{ℕ, suc, ◌*◌, length-append, ◌+◌, ◌≤◌, zero-add, arith, ◌≡◌, sym, ap, ◌∙◌, List, [], ◌∷◌, ◌++◌, append-nil, append_assoc, length}
use lib.Seq.{sets-eq}
use Rattle.refusal.proofs.Numbers.{not_zero}
use Rattle.table.specs.declared.Piece.{Piece}
use Rattle.table.specs.Table.{pieces_of}
use Rattle.table.proofs.Table.{length_pieces}
use Rattle.run.specs.declared.Ran.{Ran}
use Rattle.text.specs.declared.Writer.{Writer}
use Rattle.text.specs.Writing.{Room, Writes}
use Rattle.text.proofs.TextLaws.{none_written, then_written}
use Rattle.listing.specs.Listing.{Listed, piece_line, piece_lines, stopped_line, last_line, refused_line, book_text, listing_text, piece_size, last_size, refused_size, room_for}

-- the line of a piece behind lines
lines_then : (ps : List Piece) (p : Piece) → piece_lines (ps ++ (p ∷ [])) ≡ piece_lines ps ++ piece_line p
unfolding piece_lines
lines_then [] p = append-nil _
lines_then (q ∷ ps) p = ap (λ (l : List ℕ). piece_line q ++ l) (lines_then ps p) ∙ sym (append_assoc (piece_line q) (piece_lines ps) (piece_line p))

-- Where the lines of all pieces stand before the pieces left: those of the pieces so far are written.
pub record InLines (w : Writer) (all ps left : List Piece) (w₁ : Writer) : Type 0 where
  pub parts : ps ++ left ≡ all
  pub lines : Writes w (piece_lines ps) (piece_size * length ps) w₁

pub lines_start : (w : Writer) {all left : List Piece} → left ≡ all → InLines w all [] left w
unfolding piece_lines
lines_start w e = record { parts = e; lines = none_written w 0 }

module _ {w w₁ : Writer} {all ps left rest : List Piece} {p : Piece} (k : InLines w all ps left w₁) (e : left ≡ p ∷ rest) where
  count : length all ≡ length ps + suc (length rest)
  count = rw (← k.parts, e, length-append)

  pub line_fits : Room w (piece_size * length all) → Room w₁ piece_size
  line_fits h = omega (arith, count, k.lines.1, k.lines.0.same_length)

  pub line_written : {w₂ : Writer} → Writes w₁ (piece_line p) piece_size w₂ → InLines w all (ps ++ (p ∷ [])) rest w₂
  line_written q = record {
    parts = rw append_assoc (rw e at k.parts);
    lines = (rw lines_then (then_written k.lines.0 q.0), rw length-append (omega (arith, k.lines.1, q.1)));
  }

pub lines_end : {w w₁ : Writer} {all ps left : List Piece} → InLines w all ps left w₁ → left ≡ [] → Writes w (piece_lines all) (piece_size * length all) w₁
lines_end {w} {w₁} {all} {ps} {left} k e = let q : ps ≡ all = sym (append-nil ps) ∙ (rw e at k.parts) in rw (← q) k.lines

-- how many pieces there are
pub pieces_count : {ps : List Piece} (n : ℕ) (t : List ℕ) → ps ≡ pieces_of n t → length ps ≡ n
pieces_count n t e = rw e (length_pieces n t)

-- the last line, if there is one
pub last_stopped : {w w' : Writer} (index number : ℕ) → (number ≡ 0 → ⊥) → Writes w (stopped_line index number) last_size w' → Writes w (last_line index number) last_size w'
last_stopped index number h p = rw (← (not_zero number [] (stopped_line index number) h)) p

-- a text written from the start of bytes
pub listed : {w w' : Writer} {before text after : List ℕ} {count : ℕ} (size : ℕ) → w.out.now ≡ before → w.at ≡ 0 → size ≤ length before → Writes w text size w'
    → count ≡ w'.at → after ≡ w'.out.now → Listed before text count after
listed {w} {w'} {before} {text} {after} {count} size b z h p k a =
    let q = rw (b, z) at p.0.put in
    let n : count ≡ length text = omega (arith, q.next_is) in
    let same : length w'.out.now ≡ length before = rw b at p.0.same_length in
    record {
      count_is = n;
      room = rw a (omega (arith, p.1));
      after_is = a ∙ q.after_is ∙ sets-eq text before 0 (omega (arith, p.1)) ∙ rw zero-add;
    }

-- the two ways to list a run
module _ {w w' : Writer} (ran : Ran) (ps : List Piece) where
  pub lists_refused : ran.head.vessels ≡ 0 → Writes w (refused_line ran.number) refused_size w' → Writes w (listing_text ran ps) (room_for ran.head.pieces) w'
  unfolding listing_text
  lists_refused e p = rw e (p.0, omega (arith, p.1))

  pub lists_book : (ran.head.vessels ≡ 0 → ⊥) → Writes w (book_text ran ps) (room_for ran.head.pieces) w' → Writes w (listing_text ran ps) (room_for ran.head.pieces) w'
  unfolding listing_text
  lists_book e p = rw (← (not_zero ran.head.vessels (refused_line ran.number) (book_text ran ps) e)) p
