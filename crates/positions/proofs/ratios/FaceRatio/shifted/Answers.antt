-- `shifted` meets its contract: format by format; T + 32 is at most 64A.
use mathlib.Core.Path.{◌≡◌, ◌∙◌, ap}
use Prim.Native.Nat.{ℕ, ◌≤◌}
use native.Mathlib.Omega.{arith}
use lib.IntN.{pos, ◌-ℤ◌}
use Rattle.cubemap.specs.declared.Format.{Format}
use Rattle.cubemap.specs.RayToPlace.{position64}
use Rattle.cubemap.proofs.Positions.{position-fits}
use Rattle.positions.specs.declared.ratios.FaceRatio.{FaceRatio}
use Rattle.positions.proofs.ratios.FaceRatio.shifted.Goals as goal

shifted-is : (f : FaceRatio) (g : Format) {format : Format} {r : ℕ} → g ≡ format
    → position64 format f.size f.x f.d ≡ pos r -ℤ pos 32
    → (position64 g f.size f.x f.d ≡ pos r -ℤ pos 32) × (r ≤ 32768)
shifted-is f g {r = r} e h =
    let is = ap (λ g. position64 g f.size f.x f.d) e ∙ h in
    let most = position-fits g f.size f.x f.d r f.ratio.at-most-1 f.ratio.positive is in
    (is, omega (arith, most, f.ratio.size-most))

pub returns-in-Cmp : goal.returns-in-Cmp
returns-in-Cmp c = shifted-is c.args.self c.args.format c.in-Cmp.is c.shifted_cmp.ensures

pub returns-in-Acp : goal.returns-in-Acp
returns-in-Acp c = shifted-is c.args.self c.args.format c.in-Acp.is c.shifted_acp.ensures
