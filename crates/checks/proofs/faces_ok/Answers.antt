-- `faces_ok` meets its contract: it asks each of the six faces.
use mathlib.Core.Path.{◌≡◌, refl}
use Prim.Native.Nat.{ℕ}
use borrow.Author.Tests.{tests}
use borrow.Author.Rules.{rules}
use Rattle.std.specs.Prelude.{◌≢◌, ◌==◌, count_by}
use Rattle.std.proofs.lemmas.Iterator.{cases_from_all, YieldsList-from_range}
use Rattle.checks.proofs.LayoutTests.{all-numbers}
use Rattle.checks.proofs.faces_ok.Goals as goal

pub returns : goal.returns
returns c =
    let count = λ (f : ℕ). count_by {X = ℕ} (λ held. held == f) c.args.faces.now in
    all-numbers 6 c.all.result
    (cases_from_all _ _ _ (λ f. count f ≡ 1) (λ f. count f ≢ 1) c.all.ensures.ran (YieldsList-from_range 0 6 6 refl refl)
    (λ x q k. search (rules, tests)) (λ x q k. search (rules, tests)))
