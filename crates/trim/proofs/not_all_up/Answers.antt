use Prim.Native.Nat.{ℕ, ◌-◌}
use mathlib.Core.Path.{◌≡◌, refl, ap, ◌∙◌}
use mathlib.Core.Bool.{not}
use native.Mathlib.Omega.{arith}
use denote.Enum.Bare.{sameb}
use Rattle.plan.specs.Plan.{node_count}
use Rattle.rules.specs.Lists.{any_of, up_to}
use Rattle.rules.specs.Line.{node_at, is_up}
use Rattle.rules.specs.Step.{not_all_up}
use Rattle.state.specs.State.{line_of}
use Rattle.buffer.specs.Status.{status_is}
use Rattle.buffer.specs.contracts.status.Status.{the_type}
use Rattle.buffer.specs.declared.status.Status.{Status}
use Rattle.buffer.specs.declared.status.Status.TheVariants.{Up, Down, Replaying}
use Rattle.buffer.proofs.ReadyLaws.{line-nodes}
use Rattle.trim.proofs.AnswerLaws.{stopped_turn, stopped_end}
use Rattle.trim.proofs.not_all_up.Goals as goal

not_up : (s : Status) → not (sameb the_type s Up) ≡ not (is_up (status_is s))
not_up Up = refl
not_up Down = refl
not_up Replaying = refl

pub loop-n-init : goal.loop-n-init
loop-n-init c =
    let s = c.args.s.now in
    let count : c.node_count-n-end.result - 0 ≡ node_count (line_of s).plan = omega (arith, c.node_count-n-end.ensures.0, line-nodes s) in
    ap (λ (k : ℕ). any_of (λ (n : ℕ). not (is_up (node_at (line_of s) n).status)) (up_to 0 k)) count

pub loop-n-preserved : goal.loop-n-preserved
loop-n-preserved c =
    let t = c.loop-n in
    let l = line_of c.args.s.now in
    let up = rw c.status_of.ensures at (not_up c.status_of.result) in
    stopped_turn l t.n c.node_count-n-end.result t.found (not_all_up l) c.ne-found.result (omega arith) (c.ne-found.ensures ∙ up) t.invariant

pub returns : goal.returns
returns c =
    let t = c.loop-n in
    stopped_end (line_of c.args.s.now) t.n c.node_count-n-end.result t.found (not_all_up (line_of c.args.s.now)) (omega arith) t.invariant
