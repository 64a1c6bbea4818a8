-- `face_coordinates` meets its contract: after m columns the entries below m are there.
use mathlib.Core.Path.{◌≡◌}
use Prim.Native.Nat.{ℕ, ◌<◌}
use lib.IntN.{pos}
use lib.ListN.{length, get_or}
use Rattle.cubemap.specs.PlaceToRay.{face_coordinate}
use Rattle.geometry.proofs.face_coordinates.Given as goal

abbrev pub invariant-loop-m : goal.invariant-loop-m
invariant-loop-m l = (length l.coordinates ≡ 512) × ((j : ℕ) → j < l.m → get_or l.coordinates j (pos 0) ≡ face_coordinate l.format l.size j)
