-- A stirred source whole: the gifts tell how many are split, so whether there is room, and the parted pieces with what
-- they give behind them are what is handed over. No piece gives more than it has.
-- Assumes nothing.
use Rattle.std.proofs.Common.{◌≡◌, refl, ap, ◌∙◌, ◌≢◌, true, false, Option, None, Some, List, [], ◌∷◌, ◌++◌, append-nil, map, ℕ, zero, suc, ◌+◌, ◌-◌, ◌*◌, ◌≤◌, ◌<◌, arith, length, take, length-append, lt-ltb, le-ltb}
use Rattle.std.proofs.lemmas.Bool.Decides.{nat_tests}
use lib.ListN.{length-map}
use Rattle.sharing.specs.Sharing.{shares}
use Rattle.sharing.proofs.Shares.{share_fits}
use Rattle.table.specs.declared.Piece.{Piece}
use Rattle.table.specs.Pieces.{hand_to, weigh, in_vessel, held}
use Rattle.table.specs.Table.{most_places, pieces_of, over}
use Rattle.table.proofs.Table.{length_pieces, same_behind}
use Rattle.taking.specs.declared.Move.{Move}
use Rattle.taking.specs.Taken.{Taken}
use Rattle.taking.specs.Selection.{as_received}
use Rattle.taking.specs.Taking.{handed, singly, taken}
use Rattle.taking.proofs.Stirring.{counts, taken_singly, taken_stirred, taken_out}
use Rattle.taking.specs.Stirring.{stirred_rule, weights_in, gifts, stirred}
use Rattle.taking.specs.declared.Applied.{Applied}
use Rattle.taking.specs.Applied.{full, applied, table_left, Moves}
use Rattle.moving.specs.declared.stirring.Parted.{Parted}
use Rattle.moving.specs.Ready.{lifted_places, Ready}
use Rattle.moving.specs.Stirring.{Stirrable, SharesOut, Affordable, Partible, Parts}

afford : (s q T : ℕ) → 0 < T → q ≤ T → (c : ℕ) (ps : List Piece) → Affordable (shares q T c (weights_in s ps)) ps
unfolding shares
afford s q T some few c [] i = omega arith
afford s q T some few c (p ∷ ps) zero = grind (arith, nat_tests, share_fits q T some few c (weigh (in_vessel s) p))
afford s q T some few c (p ∷ ps) (suc i) = afford s q T some few (c + weigh (in_vessel s) p) ps i

module _ {n places T : ℕ} {m : Move} {t : List ℕ} (ready : Ready n places m t) (asked : Stirrable m T (pieces_of n t))
    {read : List Piece} (read_is : read ≡ pieces_of n t) where
  abbrev ps : List Piece
  ps = pieces_of n t

  abbrev taking : Taken
  taking = stirred m ps

  pub stir_asked : Stirrable m T read
  stir_asked = rw read_is asked

  pub stir_places : length read ≤ most_places
  stir_places = omega (arith, ap length read_is, length_pieces n t, ready.pieces, ready.most)

  module _ {gs : List ℕ} {splits : ℕ} (out : SharesOut m read gs splits) where
    given : take n gs ≡ gifts m ps
    given = rw (read_is, length_pieces) at out.noted

    counted : splits ≡ taking.split
    counted = rw read_is at out.counted

    -- nothing is born
    put : handed m taking ≡ taking.rest ++ map (hand_to m.destination) taking.given
    put = rw ((counts (gifts m ps) ps).0, append-nil) refl

    size : length (handed m taking) ≡ n + splits
    size = rw put (simp (length-append, length-map) (omega (arith, (counts (gifts m ps) ps).2, length_pieces n t, counted)))

    pub stir_refused : places - n < splits → Moves places m taking t t None
    unfolding applied table_left
    stir_refused h =
        let over : full places m taking ≡ true = rw size (lt-ltb _ _ (omega (arith, ready.pieces))) in
        record { answer = rw over refl; table = rw over refl }

    pub stir_partible : {g : List ℕ} → g ≡ take n gs → length g ≡ n → Partible n g t
    stir_partible {g} e long = record {
      places = omega (arith, ready.pieces, ready.most);
      pieces = omega (arith, ready.pieces, ready.room);
      gifts = long;
      affordable = rw (e, given) (rw (← asked.all) (afford m.source m.weight T (omega (arith, asked.more)) (omega (arith, asked.more)) 0 ps));
    }

    module _ (room : splits ≤ places - n) {t' l' : List ℕ} {r : Parted} {g : List ℕ} (e : g ≡ take n gs) (parts : Parts n m.destination g t t' l' r) where
      stands : pieces_of r.stay t' ≡ taking.rest
      stands = rw (e, given) at parts.stands

      goes : pieces_of r.go l' ≡ map (hand_to m.destination) taking.given
      goes = rw (e, given) at parts.goes

      went : length taking.given ≡ r.go
      went =
          let same : length (map (hand_to m.destination) taking.given) ≡ length taking.given = simp length-map in
          omega (arith, same, ap length goes, length_pieces r.go l')

      pub stir_few : splits ≤ r.go
      stir_few = omega (arith, went, counted, (counts (gifts m ps) ps).1)

      sum : r.stay + r.go ≡ n + splits
      sum = omega (arith, (counts (gifts m ps) ps).2, went, counted, ap length stands, length_pieces r.stay t', length_pieces n t)

      pub stir_room : length t' ≡ length t → 4 * (r.stay + r.go) ≤ length t'
      stir_room same = omega (arith, sum, ready.room, ready.pieces)

      pub stir_lifted : length l' ≡ 4 * lifted_places → 4 * r.go ≤ length l'
      stir_lifted long = omega (arith, parts.most, ready.pieces, ready.most)

      pub stir_done : {t'' : List ℕ} → t'' ≡ over (r.stay + r.go) (pieces_of r.stay t' ++ pieces_of r.go l') t'
          → Moves places m taking t t'' (Some (record { whole = r.go - splits; split = splits; born = 0; count = n + splits }))
      unfolding applied table_left
      stir_done {t''} et =
          let free : full places m taking ≡ false = rw size (le-ltb _ _ (omega (arith, room, ready.pieces))) in
          let whole : taking.whole ≡ r.go - splits = omega (arith, went, counted, (counts (gifts m ps) ps).1) in
          let behind = same_behind n (n + splits) t t' (omega arith) parts.behind in
          record {
            answer = rw (free, size, whole, ← counted, (counts (gifts m ps) ps).0) refl;
            table = et ∙ rw (free, size, put, stands, goes, sum, behind) refl;
          }

-- By the source's rule: a stirred source that has more than is wanted gives from every piece, and any other gives one
-- piece after the other.
module _ {places rule T : ℕ} {m : Move} (ps : List Piece) (all : T ≡ held m.source ps) {t t' : List ℕ} {o : Option Applied} where
  pub by_rule : rule ≢ stirred_rule → Moves places m (singly rule m ps) t t' o → Moves places m (taken rule m ps) t t' o
  by_rule first moves = rw (taken_singly rule m ps first) moves

  module _ (stir : rule ≡ stirred_rule) where
    pub from_all : m.weight < T → Moves places m (stirred m ps) t t' o → Moves places m (taken rule m ps) t t' o
    from_all more moves = rw (stir, taken_stirred m ps (rw all at more)) moves

    pub all_out : T ≤ m.weight → Moves places m (singly as_received m ps) t t' o → Moves places m (taken rule m ps) t t' o
    all_out none moves = rw (stir, taken_out m ps (rw all at none)) moves
