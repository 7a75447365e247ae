-- A read goes on where the one before it ended.
use Rattle.std.proofs.Common.{◌≡◌, ℕ, ◌+◌, ◌≤◌, List, ◌++◌, rules, length, take, ap, ◌∙◌, sym, subst, length-take-le}
use Rattle.std.proofs.lemmas.List.{take-append-le}
use Rattle.std.proofs.Math.Seq.{take-append-add}
use Rattle.std.specs.Io.KnownBytes.{Consumes}
use Rattle.std.proofs.KnownBytes.{Consumes-trans}
use borrow.Rule.Slice.PartMut.{put_mid, post_of}
use Rattle.input.proofs.read_full.Goals as goal

-- the front of the room after n bytes more were put at position a
joined : (a k n : ℕ) (room part : List ℕ) → a ≤ length room → n ≤ length part → take a room ++ take n part ≡ take (a + n) (put_mid a k room part)
joined a k n room part h g =
    let front = take a room in
    let rest = part ++ post_of a k room in
    sym (ap (λ m. take (m + n) (front ++ rest)) (sym (length-take-le a room h)) ∙ take-append-add front rest n ∙ ap (λ l. front ++ l) (take-append-le n part (post_of a k room) g))

pub loop-done-preserved : goal.loop-done-preserved
loop-done-preserved g c =
    let read = c.in_ok-n.ensures in
    (search rules, subst (Consumes _ _) (joined _ _ _ _ _ c.loop-done.invariant.0 read.bound.0) (Consumes-trans _ _ _ _ _ c.loop-done.invariant.1 read.bytes.0))
