-- A part of a list.
use Rattle.std.specs.Prelude.{List, ℕ, ◌-◌, take, drop}

-- the elements from `from` on and before `to`
abbrev pub part : {X : Type 0} → ℕ → ℕ → List X → List X
part from to xs = take (to - from) (drop from xs)
