-- What the exported calls promise a maker, on what a C call gets and gives: what it returns, and every byte of every lent
-- buffer afterwards. "No buffer that a call writes overlaps another one lent to it; the maker owes this, and a call without
-- it is outside every promise."
use Rattle.std.specs.Prelude.{◌≡◌, List, ◌++◌, ℕ, length, drop}
use Rattle.cubemap.specs.declared.Ray.{Ray}
use Rattle.cubemap.specs.declared.Rotation.{Rotation}
use Rattle.cubemap.specs.Interface.{return_code}
use Rattle.cubemap.specs.Checks.{ConvertSettings, ScoreSettings}
use Rattle.cubemap.specs.Outcomes.{Outcome, convert_outcome, score_outcome, fold_outcome, equal_outcome, look_up_outcome}
use Rattle.cubemap.specs.Listing.{listing}

-- what a call returned, and what the buffer that it writes holds then, are those of the outcome
pub record Gives (o : Outcome) (returned : ℕ) (buffer : List ℕ) : Type 0 where
  pub returns : returned ≡ return_code o.answered
  pub holds : buffer ≡ o.bytes

-- ---- convert

-- a call of convert: what it was lent, what it returned, and what every lent buffer held afterwards
pub record ConvertCall : Type 0 where
  pub settings : ConvertSettings
  pub source : List ℕ
  pub target : List ℕ
  pub returned : ℕ
  pub source_layout_after : List ℕ
  pub target_layout_after : List ℕ
  pub source_after : List ℕ
  pub target_after : List ℕ

abbrev pub convert_call : ConvertSettings → List ℕ → List ℕ → ℕ → List ℕ → List ℕ → List ℕ → List ℕ → ConvertCall
convert_call s source target returned source_layout_after target_layout_after source_after target_after = record {
  settings = s;
  source = source;
  target = target;
  returned = returned;
  source_layout_after = source_layout_after;
  target_layout_after = target_layout_after;
  source_after = source_after;
  target_after = target_after;
}

pub record ConvertPromise (c : ConvertCall) : Type 0 where
  pub gives : Gives (convert_outcome c.settings c.source c.target) c.returned c.target_after
  pub source_stays : c.source_after ≡ c.source
  pub source-layout-stays : c.source_layout_after ≡ c.settings.source_layout
  pub target-layout-stays : c.target_layout_after ≡ c.settings.target_layout

-- ---- score

-- a call of score, likewise
pub record ScoreCall : Type 0 where
  pub settings : ScoreSettings
  pub first : List ℕ
  pub second : List ℕ
  pub buffer : List ℕ
  pub returned : ℕ
  pub first_layout_after : List ℕ
  pub second_layout_after : List ℕ
  pub first_after : List ℕ
  pub second_after : List ℕ
  pub buffer_after : List ℕ

abbrev pub score_call : ScoreSettings → List ℕ → List ℕ → List ℕ → ℕ → List ℕ → List ℕ → List ℕ → List ℕ → List ℕ → ScoreCall
score_call s first second buffer returned first_layout_after second_layout_after first_after second_after buffer_after = record {
  settings = s;
  first = first;
  second = second;
  buffer = buffer;
  returned = returned;
  first_layout_after = first_layout_after;
  second_layout_after = second_layout_after;
  first_after = first_after;
  second_after = second_after;
  buffer_after = buffer_after;
}

pub record ScorePromise (c : ScoreCall) : Type 0 where
  pub gives : Gives (score_outcome c.settings c.first c.second c.buffer) c.returned c.buffer_after
  pub first-stays : c.first_after ≡ c.first
  pub second-stays : c.second_after ≡ c.second
  pub first-layout-stays : c.first_layout_after ≡ c.settings.first_layout
  pub second-layout-stays : c.second_layout_after ≡ c.settings.second_layout

-- ---- fold, equal, look_up: numbers, the answer buffer before, what was returned, the answer buffer after

abbrev pub FoldPromise : Rotation → Rotation → List ℕ → ℕ → List ℕ → Type 0
FoldPromise first later buffer returned buffer_after = Gives (fold_outcome first later buffer) returned buffer_after

abbrev pub EqualPromise : Rotation → Rotation → List ℕ → ℕ → List ℕ → Type 0
EqualPromise first second buffer returned buffer_after = Gives (equal_outcome first second buffer) returned buffer_after

abbrev pub LookUpPromise : ℕ → ℕ → Ray → List ℕ → ℕ → List ℕ → Type 0
LookUpPromise A format v buffer returned buffer_after = Gives (look_up_outcome A format v buffer) returned buffer_after

-- ---- the listing: the input and the lent buffer before, how many bytes the listing has, both after

pub record ListingPromise (input buffer : List ℕ) (written : ℕ) (input_after buffer_after : List ℕ) : Type 0 where
  pub counts : written ≡ length (listing input)
  pub holds : buffer_after ≡ listing input ++ drop written buffer
  pub input-stays : input_after ≡ input
