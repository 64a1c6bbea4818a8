-- `put_bytes` meets its contract: a part of the buffer becomes the text.
use mathlib.Core.Path.{◌≡◌, refl, sym, ◌∙◌, ap, ap₂}
use mathlib.Core.List.{List, ◌++◌}
use Prim.Native.Nat.{ℕ, ◌+◌, ◌-◌, ◌≤◌}
use native.Mathlib.Omega.{arith}
use lib.ListN.{length}
use borrow.Rule.Slice.PartMut.{put_mid}
use Rattle.std.proofs.lemmas.List.{take-append-drop}
use Rattle.std.proofs.lemmas.List.Edits.{sets, sets-eq}
use Rattle.std.proofs.lemmas.Slice.{take-put_mid, drop-put_mid}
use Rattle.listing.proofs.put_bytes.Goals as goal

part : (b x : List ℕ) (at : ℕ) → at + length x ≤ length b → put_mid at (at + length x - at) b x ≡ sets b at x
part b x at h =
    let end = at + length x in
    sym (take-append-drop end (put_mid at (end - at) b x))
    ∙ ap₂ (λ l m. l ++ m) (take-put_mid at (end - at) b x end refl (omega arith)) (drop-put_mid at (end - at) b x end (omega arith) (omega arith) (omega arith))
    ∙ sym (sets-eq x b at h)

pub returns : goal.returns
returns c =
    let at = c.args.at in
    let b = c.args.text.now in
    let x = c.args.more.now in
    record { ends = refl; holds = ap (put_mid at (at + length x - at) b) c.copy_from_slice.ensures.after ∙ part b x at c.requires }
