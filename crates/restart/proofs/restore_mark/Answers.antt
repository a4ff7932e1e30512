use Prim.Native.Nat.{ℕ}
use mathlib.Core.Path.{sym, subst, ◌∙◌}
use Rattle.state.specs.Changes.{with_mark}
use Rattle.buffer.specs.Holds.{LaneNow}
use Rattle.restart.proofs.restore_mark.Goals as goal

pub returns : goal.returns
returns c =
    let a = c.args in
    record { holds = (subst (λ (t : ℕ). LaneNow a.s.now a.b (with_mark t) c.set_mark.new.s) c.taken_of-time.ensures c.set_mark.ensures).holds; on = c.set_mark.ensures.on }

pub shape_of-s : goal.shape_of-s
shape_of-s c = c.set_mark.ensures.holds.ready.long ∙ sym c.requires.holds.ready.long
