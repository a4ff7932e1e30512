use Prim.Native.Nat.{ℕ, ◌-◌}
use mathlib.Core.Path.{◌≡◌}
use mathlib.Core.List.{List}
use Rattle.report.specs.declared.text.Text.{Text}
use Rattle.stream.specs.declared.frames.Frames.{Frames}
use Rattle.stream.specs.Frames.{Going}
use Rattle.stream.proofs.frames.Frames.work.Given as goal

-- The frames up to a place are worked, in the same buffer.
pub record Working (s w : List ℕ) (f : Frames) (start : Text) (state : List ℕ) (left : Frames) (text : Text) : Type 0 where
  pub going : Going s w f.at f.end f.count start.out.now state text.out.now left.at left.count text.at
  pub same : left.end ≡ f.end
  pub lent : text.out.ghost_name ≡ start.out.ghost_name

abbrev pub invariant-loop-size : goal.invariant-loop-size
invariant-loop-size l = Working l.initial.state l.window l.initial.self l.initial.text l.state l.self l.text

abbrev pub decreases-loop-size : goal.decreases-loop-size
decreases-loop-size l = l.self.end - l.self.at
