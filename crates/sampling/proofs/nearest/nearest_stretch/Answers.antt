-- `nearest_stretch` meets its contract: the samples at the indices of the nearest places are those of the places.
use mathlib.Core.Path.{◌≡◌, sym, ◌∙◌, ap, subst}
use mathlib.Core.List.{List}
use Prim.Native.Nat.{ℕ, ◌+◌, ◌*◌, ◌<◌}
use native.Mathlib.Omega.{arith}
use lib.ListN.{length, take, get_or}
use lib.Seq.{length-take-le, get_or-take}
use Rattle.cubemap.specs.declared.Sampler.{Sampler}
use Rattle.cubemap.specs.Frames.{sample_at, framed}
use Rattle.cubemap.proofs.Framed.{framed-cong}
use Rattle.cubic.specs.declared.stretch.AlongRows.{AlongRows}
use Rattle.cubic.specs.PositionTables.{Filled}
use Rattle.cubic.specs.Stretches.{value_in}
use Rattle.cubic.proofs.Along.{along-count}
use Rattle.sampling.specs.NearestIndices.{nearest_index}
use Rattle.sampling.proofs.NearestValues.{in-plane, nearest-along}
use Rattle.sampling.proofs.nearest.nearest_stretch.Goals as goal

-- the indices that are written
module _ (r : AlongRows) (indices : List ℕ)
    (w : Filled (nearest_index r.face.size r.face.strides) r.columns.now r.rows.now (length r.columns.now)
    indices) where
  abbrev n : ℕ
  n = length r.columns.now

  written : length (take n indices) ≡ n
  written = length-take-le n indices (omega (arith, r.positions.few, w.whole))

  entry : (j : ℕ) → j < n → get_or (take n indices) j 0 ≡ get_or indices j 0
  entry j l = get_or-take n indices j 0 l

pub copy_indexed-requires : goal.copy_indexed-requires
copy_indexed-requires c =
    let r = c.along_rows-along.result in
    let w = c.nearest_indices.ensures in
    let count = written r _ w in (
      record {
        index_ok = λ j l.
            let h : j < length r.columns.now = omega (arith, count) in
            subst (λ i. 2 * i + 1 < length r.face.bytes.now) (sym (entry r _ w j h))
            (in-plane r.face.strided r.not_empty r.positions w j h);
      },
      omega (arith, c.requires, count, along-count c.along_rows-along.ensures),
    )

pub returns : goal.returns
returns c =
    let r = c.along_rows-along.result in
    let w = c.nearest_indices.ensures in
    let value = value_in Sampler.Nearest c.args.stretch in
    c.copy_indexed.ensures
    ∙ ap (framed 2 (λ j. sample_at r.face.bytes.now
    (get_or (take (length r.columns.now) c.nearest_indices.new.indices) j 0)))
    (written r _ w)
    ∙ framed-cong 2 _ value (length r.columns.now) (λ j l.
    ap (sample_at r.face.bytes.now) (entry r _ w j l ∙ w.entry-is j l) ∙ nearest-along j c.along_rows-along.ensures)
    ∙ ap (framed 2 value) (along-count c.along_rows-along.ensures)
