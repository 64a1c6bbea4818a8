-- `read_input` meets its contract: each read puts its bytes behind those that were read before.
use Rattle.std.proofs.Common.{◌≡◌, ℕ, ◌+◌, ◌-◌, ◌≤◌, List, ◌++◌, rules, arith, length, take, drop, slice_range}
use Rattle.std.proofs.Common.{sym, ap, ◌∙◌, subst, le_refl, drop_at, length-take-le}
use Rattle.std.proofs.lemmas.Slice.{take-put_mid_below}
use Rattle.std.specs.Io.KnownBytes.{Consumes}
use Rattle.std.proofs.KnownBytes.{Consumes-trans}
use borrow.Rule.Slice.PartMut.{put_mid, post_of}
use lib.Seq.{take-add, take-append-le}
use Rattle.rays.proofs.read_input.Goals as goal

-- The first a elements stay: with the n behind them they are the first a + n.
joined : (a n : ℕ) (old new : List ℕ) → take a new ≡ take a old
    → take a old ++ slice_range new a (a + n) ≡ take (a + n) new
joined a n old new same =
    let long : (a + n) - a ≡ n = omega arith in
    ap (λ l. l ++ slice_range new a (a + n)) (sym same)
    ∙ ap (λ m. take a new ++ take m (drop a new)) long ∙ sym (take-add a n new)

-- What stands from index a on, where ys was put there.
put : (a k n : ℕ) (xs ys : List ℕ) → a ≤ length xs → n ≤ length ys
    → slice_range (put_mid a k xs ys) a (a + n) ≡ take n ys
put a k n xs ys within fits =
    let long : (a + n) - a ≡ n = omega arith in
    let after = post_of a k xs in
    ap (take ((a + n) - a)) (drop_at (take a xs) (ys ++ after) a (length-take-le a xs within))
    ∙ ap (λ m. take m (ys ++ after)) long ∙ take-append-le n ys after fits

pub loop-end-preserved : goal.loop-end-preserved
loop-end-preserved g c =
    let end = c.loop-end.end in
    let more = c.in_ok-more.more in
    let old = c.loop-end.buffer in
    let within = c.loop-end.invariant.1 in
    let new = put_mid end (length old - end) old c.read.new.buf in
    let part : slice_range new end (end + more) ≡ take more c.read.new.buf =
    put end (length old - end) more old c.read.new.buf within c.in_ok-more.ensures.bound.0 in
    let whole : take end old ++ take more c.read.new.buf ≡ take (end + more) new =
    ap (λ l. take end old ++ l) (sym part)
    ∙ joined end more old new (take-put_mid_below _ _ _ _ _ (le_refl _) within) in (
      search rules,
      search rules,
      subst (Consumes _ _) whole (Consumes-trans _ _ _ _ _ c.loop-end.invariant.2 c.in_ok-more.ensures.bytes.0),
    )
