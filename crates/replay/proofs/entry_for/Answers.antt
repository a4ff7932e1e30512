use Prim.Native.Nat.{ℕ}
use mathlib.Core.Path.{sym, ap, ◌∙◌}
use Rattle.plan.specs.Plan.{Plan}
use Rattle.plan.specs.Mask.{set_of}
use Rattle.rules.specs.Line.{Held}
use Rattle.rules.specs.Replay.{entry_at}
use Rattle.state.specs.State.{line_of}
use Rattle.state.proofs.InPlace.{line-plan}
use Rattle.slots.specs.Slots.{held_is}
use Rattle.replay.proofs.entry_for.Goals as goal

pub returns : goal.returns
returns c =
    let a = c.args in
    let h : Held = held_is c.held_at-h.result in
    let set = c.set_for-set.ensures ∙ ap (λ (p : Plan). set_of p a.n h.what) (sym (line-plan a.s.now)) in
    c.logged.ensures ∙ ap (λ (k : ℕ). entry_at (λ _. k) a.x.column h) set ∙ ap (entry_at (set_of (line_of a.s.now).plan a.n) a.x.column) c.held_at-h.ensures
