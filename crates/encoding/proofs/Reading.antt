-- Calls read from six numbers: what was read is the call in the numbers where its age is none that is off; the scan for
-- such ages by the calls that it has passed, and the filling of the room by the calls before.
-- Assumes nothing.
use Rattle.std.proofs.Common.{◌≡◌, refl, sym, ap, ◌∙◌, true, false, cond, List, [], ◌∷◌, ◌++◌, append_assoc, append-nil, map, ℕ, zero, suc, ◌+◌, ◌≤◌, ◌<◌, add-one, arith, length, get_or, set, take, drop, length-set, take-append-drop, drop-drop, drop-cons, drop_of_length-le, take-suc-set, drop-set-lt}
use Rattle.std.proofs.lemmas.Grind.{common_steps}
use Rattle.std.proofs.lemmas.List.Folds.{list_any_more, list_any_at}
use Rattle.std.specs.List.{list_any}
use Rattle.std.specs.Prelude.{Ok, Err}
use Rattle.std.specs.Result.{IsOk}
use Rattle.refusal.specs.declared.Refusal.{Refusal}
use Rattle.refusal.specs.Refusals.{number_of}
use Rattle.std.proofs.lemmas.Bool.{or_parts}
use Rattle.journal.specs.declared.Call.{Call}
use Rattle.encoding.specs.Encoding.{call_listed, age_off}
use Rattle.encoding.specs.Reading.{call_read}

-- what was read, where an age is off and where none is
read_off : (l : List ℕ) (why : Refusal) → call_read l ≡ Err why → (age_off l ≡ true) × (number_of why ≡ 18)
unfolding call_read
read_off l why e = grind (arith, common_steps)

read_on : (l : List ℕ) (c : Call) → call_read l ≡ Ok c → (age_off l ≡ false) × (c ≡ call_listed l)
unfolding call_read
read_on l c e = grind (arith, common_steps)

-- the groups before a call have no age that is off, and no more have those up to it
pub scan_turn : (calls : List (List ℕ)) (i : ℕ) → i < length calls → list_any age_off (take i calls) ≡ false
    → (c : Call) → call_read (get_or calls i []) ≡ Ok c
    → list_any age_off (take (i + 1) calls) ≡ false
scan_turn calls i h s c e = list_any_more age_off calls i [] h ∙ rw (s, (read_on _ c e).0) refl

pub scan_found : (calls : List (List ℕ)) (i : ℕ) → i < length calls → (why : Refusal)
    → call_read (get_or calls i []) ≡ Err why
    → number_of why ≡ cond (list_any age_off calls) 18 0
scan_found calls i h why e = let q = read_off _ why e in rw (list_any_at age_off calls i [] h q.0, q.1) refl

-- each of the calls, where none is off, is read well
pub reads_well : (calls : List (List ℕ)) → list_any age_off calls ≡ false → (i : ℕ) → i < length calls
    → IsOk (call_read (get_or calls i []))
unfolding call_read
reads_well [] h i q = absurd (omega arith)
reads_well (six ∷ calls) h zero q = rw (or_parts (age_off six) _ h).0 refl
reads_well (six ∷ calls) h (suc i) q = reads_well calls (or_parts (age_off six) _ h).1 i (omega arith)

-- Where filling stands before call i: the calls so far and those that are left make the whole.
pub record Filling (groups : List (List ℕ)) (cs₀ cs : List Call) (i : ℕ) : Type 0 where
  pub left : take i cs ++ map call_listed (drop i groups) ≡ map call_listed groups
  pub unwritten : drop i cs ≡ drop i cs₀
  pub size : length cs ≡ length cs₀

module _ {groups : List (List ℕ)} {cs₀ cs : List Call} {i : ℕ} (f : Filling groups cs₀ cs i) where
  pub filled_next : i < length groups → length groups ≤ length cs₀ → {c : Call} → call_read (get_or groups i []) ≡ Ok c
      → Filling groups cs₀ (set cs i c) (i + 1)
  filled_next q m {c = c} e =
      let long : i < length cs = rw f.size (omega arith) in
      record {
        left =
            rw (add-one, take-suc-set cs i c long, append_assoc, (read_on _ c e).1) (rw (drop-cons groups i [] q) at f.left);
        unwritten =
            drop-set-lt (i + 1) cs i c (omega arith) ∙ sym (drop-drop 1 i cs) ∙ ap (drop 1) f.unwritten ∙ drop-drop 1 i cs₀;
        size = length-set cs i c ∙ f.size;
      }

  pub filled : i ≡ length groups → cs ≡ map call_listed groups ++ drop (length groups) cs₀
  filled e =
      let all : take i cs ≡ map call_listed groups =
      sym (append-nil (take i cs)) ∙ (rw (drop_of_length-le groups {i = i} (omega (arith, e))) at f.left) in
      rw (← all, ← e, ← f.unwritten) (sym (take-append-drop i cs))
