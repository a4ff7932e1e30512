-- The frames in a part of the window, worked one after the other.
use Rattle.std.specs.Prelude.{ℕ, ◌+◌, ◌*◌, ◌≤◌, ◌<◌, ◌≡◌, ◌≢◌, List, ◌++◌, length, take, drop}
use Rattle.std.proofs.Math.Seq.{slice}
use Rattle.std.specs.declared.option.Option.{Option}
use Rattle.std.specs.declared.option.Option.TheVariants.{None, Some}
use Rattle.plan.specs.Check.{plan_refusal}
use Rattle.rules.specs.Sheet.{length_field, frames_text, plan_text}
use Rattle.state.specs.Sizes.{state_size}
use Rattle.state.specs.State.{line_of}
use Rattle.buffer.specs.Holds.{Undamaged}
use Rattle.report.specs.Wrote.{Wrote}
use Rattle.stream.specs.declared.frames.Frames.{Frames}
use Rattle.stream.specs.Reading.{before, frames_told, loaded_told, plan_told, plan_all}
use Rattle.stream.specs.Reader.{window_size, out_size, count_most}

-- The size of the whole frame in front of some bytes, 0 if none is there.
pub record FrameSize (s : List ℕ) (r : ℕ) : Type 0 where
  pub none : r ≡ 0 → 2 ≤ length s → 5 ≤ length_field s → (length s < length_field s) × (length_field s < window_size)
  pub one : r ≢ 0 → (r ≡ length_field s) × ((5 ≤ r) × (r ≤ length s))

-- What is found in front of some bytes: no whole frame, or one of so many bytes.
abbrev pub Found : List ℕ → Option ℕ → Type 0
Found s None = FrameSize s 0
Found s (Some n) = (n ≢ 0) × FrameSize s n

-- The size of the plan in front of the bytes that are all there is.
pub record PlanSize (s : List ℕ) (r : ℕ) : Type 0 where
  pub within : r ≤ length s
  pub same : plan_text (plan_refusal (take r s)) (take r s) (drop r s) ≡ plan_all s
  pub line : (plan_told s).line ≡ (loaded_told (plan_refusal (take r s)) (take r s) (drop r s)).line

-- What loading asks: a state of a line's size, bytes in the window, and the whole output.
pub record Loadable (state window : List ℕ) (end : ℕ) (out : List ℕ) : Type 0 where
  pub sized : length state ≡ state_size
  pub inside : end ≤ length window
  pub whole : length window ≡ window_size
  pub space : length out ≡ out_size

-- What working asks: an undamaged line in the state, a part of the window, and the whole output.
pub record Workable (state window : List ℕ) (from end count : ℕ) (out : List ℕ) : Type 0 where
  pub undamaged : Undamaged state
  pub ordered : from ≤ end
  pub inside : end ≤ length window
  pub whole : length window ≡ window_size
  pub space : length out ≡ out_size
  pub few : count ≤ count_most

-- From the state s and the output o, with frame k at the place from, the frames up to a place are worked: their text is written, and what is told of the bytes from there on is what is still to be told, whether more comes or not.
pub record Going (s w : List ℕ) (from end k : ℕ) (o state out : List ℕ) (at count wrote : ℕ) : Type 0 where
  pub done : List ℕ
  pub told : frames_told (length (slice from end w)) k (line_of s) (slice from end w) ≡ before done (frames_told (length (slice at end w)) count (line_of state) (slice at end w))
  pub closing : frames_text (length (slice from end w)) k (line_of s) (slice from end w) ≡ done ++ frames_text (length (slice at end w)) count (line_of state) (slice at end w)
  pub text : Wrote out_size o 0 done out wrote
  pub undamaged : Undamaged state
  pub onward : from ≤ at
  pub inside : at ≤ end
  pub spent : 5 * wrote + 34 * from ≤ 34 * at
  pub counted : count + from ≤ k + at

-- All of them: no whole frame is left.
pub record AllWorked (s w : List ℕ) (from end k : ℕ) (o state out : List ℕ) (wrote : ℕ) (r : Frames) : Type 0 where
  pub going : Going s w from end k o state out r.at r.count wrote
  pub none : FrameSize (slice r.at end w) 0
  pub same : r.end ≡ end
