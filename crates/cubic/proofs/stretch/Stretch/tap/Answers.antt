-- `tap` meets its contract: column and row are clipped, and so they are inside the face.
use mathlib.Core.Path.{◌≡◌, ◌∙◌, ap}
use Prim.Native.Nat.{ℕ}
use native.Mathlib.Omega.{arith}
use Rattle.arithmetic.specs.Integers.{natural}
use Rattle.arithmetic.proofs.Held.{read_back}
use Rattle.cubemap.specs.Samplers.{clip}
use Rattle.cubemap.proofs.Taps.{tap_place-clips}
use Rattle.strides.specs.declared.Strides.{Strides}
use Rattle.strides.specs.FaceStrides.{index_by, strides_in, sample_on_face, sample_by}
use Rattle.cubic.proofs.stretch.Stretch.tap.Goals as goal

pub returns : goal.returns
returns c =
    let a = c.args in
    let p = a.self.source.plane in
    let m : ℕ = c.clip-m.result in
    let n : ℕ = c.clip-n.result in
    let s : Strides = strides_in p.strides.now a.self.face in
    let column = read_back (clip p.size) a.column c.ranges.column c.clip-m.ensures.0 in
    let row = read_back (clip p.size) a.row c.ranges.row c.clip-n.ensures.0 in
    let read : c.sample.result ≡ sample_on_face p.bytes.now s m n =
    c.sample.ensures.0 ∙ (λ i. sample_on_face (c.face.ensures.1 i).now (c.face.ensures.2 i) m n) in
    let below = (p.strided.leads a.self.face a.self.face_known).below m n c.clip-m.ensures.1 c.clip-n.ensures.1 in (
      read
          ∙ (λ i. sample_on_face p.bytes.now s (column i) (row i))
          ∙ ap (sample_by p.bytes.now p.strides.now) (tap_place-clips p.size a.self.face a.column a.row),
      omega (arith, read, a.self.source.shallow.within (natural (index_by s m n)) below),
    )
