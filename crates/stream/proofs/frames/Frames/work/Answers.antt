use Prim.Native.Nat.{◌+◌}
use mathlib.Core.Path.{refl, ◌∙◌}
use Rattle.plan.proofs.BytesLaws.{bytes_known}
use Rattle.stream.proofs.GoingLaws.{going_start, going_on}
use Rattle.stream.proofs.frames.Frames.work.Goals as goal

pub loop-size-init : goal.loop-size-init
loop-size-init c =
    let a = c.args in
    let f = a.self in
    record { going = rw c.requires.1 (going_start a.state.now a.window.now f.at f.end f.count a.text.now.out.now c.requires.0); same = refl; lent = refl }

pub loop-size-preserved : goal.loop-size-preserved
loop-size-preserved c =
    let a = c.args in
    let f = a.self in
    let v = c.loop-size in
    let size = rw v.invariant.same at c.in-Some.ensures in
    record {
      going = going_on a.state.now a.window.now f.at f.end f.count a.text.now.out.now c.requires.0 v.invariant.going c.in-Some.size (v.self.at + c.in-Some.size) size.1 size.0 refl
          (bytes_known a.window.now (λ i. (c.type_inv.window i).fits)) c.step-outcome.ensures (rw c.number.ensures at c.answer_line.ensures.wrote);
      same = v.invariant.same;
      lent = c.answer_line.ensures.lent ∙ v.invariant.lent;
    }
