use mathlib.Core.Path.{◌≡◌, ◌∙◌}
use native.Mathlib.Omega.{arith}
use Rattle.slots.specs.Slots.{time_of}
use Rattle.slots.proofs.SlotLaws.{time_none, time_some, made_written}
use Rattle.slots.proofs.MadePiece.write.Goals.{then-self-eq0, else-self-eq0}
use Rattle.slots.proofs.MadePiece.write.Goals as goal

pub returns : goal.returns
returns c =
    let a = c.args in
    let time : c.if-self-eq0.put32 ≡ time_of a.self.from a.self.time =
    elim c.if-self-eq0.branch [
      | then-self-eq0 w ↦ w.put32-is ∙ time_none a.self.from a.self.time w.if-self-eq0.true
      | else-self-eq0 w ↦ w.put32-is ∙ time_some a.self.from a.self.time (omega (arith, w.if-self-eq0.false))
    ]
    in
    rw (c.put32.ensures, time, c.put8.ensures) (made_written a.s.now a.at (omega arith) a.self.from a.self.time)
