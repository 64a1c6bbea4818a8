-- `new` meets its contract: no entry is written.
use mathlib.Core.Path.{refl}
use Prim.Native.Nat.{ℕ, zero, suc}
use lib.ListN.{replicate}
use Rattle.stretches.specs.Numbers.{Zeros}
use Rattle.stretches.proofs.tables.Tables.new.Goals as goal

zeros : (n : ℕ) → Zeros (replicate n 0)
zeros zero j = refl
zeros (suc n) zero = refl
zeros (suc n) (suc j) = zeros n j

pub returns : goal.returns
returns c = (zeros 512, zeros 512, zeros 512, zeros 512, zeros 512)
