-- Lists of calls: those of a history, those that read a frame as it stands, and those that convert's definition makes.
use mathlib.Core.Path.{◌≡◌, refl, sym, ap, subst}
use mathlib.Core.Logic.{inl, inr}
use mathlib.Core.List.{List, [], ◌∷◌}
use Prim.Native.Nat.{ℕ}
use Rattle.cubemap.specs.Frames.{Frame, sample_at}
use Rattle.cubemap.specs.Checks.{ConvertSettings}
use Rattle.cubemap.specs.Promises.{ConvertCall, ConvertPromise}
use Rattle.sequences.specs.Runs.{Reads, Among, Keeping}
use Rattle.sequences.specs.Existence.{made}

-- all calls of a history
pub all_among : (cs : List ConvertCall) → Among cs cs
unfolding Among
all_among [] = tt
all_among (c ∷ cs) = inl (refl, all_among cs)

-- where each call keeps a promise, so does each of some of them
pub among-keeping : (promise : ConvertCall → Type 0) (cs history : List ConvertCall) → Among cs history → Keeping promise history → Keeping promise cs
unfolding Among Keeping
among-keeping promise [] history a k = tt
among-keeping promise (c ∷ cs) [] a k = absurd a
among-keeping promise (c ∷ cs) (h ∷ history) (inl (e, a)) (k, ks) = (subst promise (sym e) k, among-keeping promise cs history a ks)
among-keeping promise (c ∷ cs) (h ∷ history) (inr a) (k, ks) = among-keeping promise (c ∷ cs) history a ks

-- a source that holds the frame's bytes
pub reads_whole : (F : Frame) (c : ConvertCall) → c.source ≡ F.bytes → Reads F c
reads_whole F c e = record { whole = λ t. e; part = λ t i l. ap (λ b. sample_at b i) e }

-- a call as convert's definition makes it keeps the promise
pub made-keeps : (s : ConvertSettings) (source target : List ℕ) → ConvertPromise (made s source target)
made-keeps s source target = record {
  gives = record { returns = refl; holds = refl };
  source_stays = refl;
  source-layout-stays = refl;
  target-layout-stays = refl;
}
