-- The elements of a part of a list, and how many there are.
use mathlib.Core.Path.{◌≡◌, ◌∙◌}
use mathlib.Core.List.{List}
use Prim.Native.Nat.{ℕ, ◌+◌, ◌-◌, ◌≤◌, ◌<◌}
use native.Mathlib.Omega.{arith}
use lib.ListN.{length, drop, get_or, length-drop}
use lib.Seq.{length-take-le, get_or-take, get_or-drop}
use Rattle.arithmetic.specs.ListParts.{part}

pub part_length : {X : Type 0} (from to : ℕ) (xs : List X) → from ≤ to → to ≤ length xs
    → length (part from to xs) ≡ to - from
part_length from to xs h k = length-take-le (to - from) (drop from xs) (omega (arith, length-drop from xs))

pub part_at : {X : Type 0} (from to : ℕ) (xs : List X) (j : ℕ) (d : X) → j < to - from
    → get_or (part from to xs) j d ≡ get_or xs (from + j) d
part_at from to xs j d h = get_or-take (to - from) (drop from xs) j d h ∙ get_or-drop from xs j d
