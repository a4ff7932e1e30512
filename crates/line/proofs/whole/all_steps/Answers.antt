use mathlib.Core.Path.{◌≡◌, ap}
use native.Mathlib.Omega.{arith}
use lib.ListN.{length}
use Rattle.state.specs.State.{line_of}
use Rattle.state.proofs.InPlace.{line-counts}
use Rattle.buffer.proofs.ReadyLaws.{counted}
use Rattle.line.proofs.CheckLaws.{counting_start, counting_more, counting_past, counting_end}
use Rattle.line.proofs.whole.all_steps.Goals as goal

pub loop-console-init : goal.loop-console-init
loop-console-init c = counting_start (line_of c.args.s.now)

pub returns-then-steps-gt-STEP_LIMIT : goal.returns-then-steps-gt-STEP_LIMIT
returns-then-steps-gt-STEP_LIMIT c =
    let s = c.args.s.now in
    let t = c.loop-console in
    let four : length (line_of s).steps ≡ 4 = ap length (line-counts s (counted c.requires)) in
    counting_past (line_of s) t.all t.console t.invariant (omega arith) (omega (arith, c.steps_from-steps.ensures))

pub overflow_add-all : goal.overflow_add-all
overflow_add-all c = let t = c.loop-console in omega (arith, t.invariant.few)

pub loop-console-preserved : goal.loop-console-preserved
loop-console-preserved c =
    let s = c.args.s.now in
    let t = c.loop-console in
    let four : length (line_of s).steps ≡ 4 = ap length (line-counts s (counted c.requires)) in
    rw c.steps_from-steps.ensures (counting_more (line_of s) t.all t.console t.invariant (omega arith) (omega (arith, c.steps_from-steps.ensures)))

pub returns : goal.returns
returns c =
    let s = c.args.s.now in
    let t = c.loop-console in
    let four : length (line_of s).steps ≡ 4 = ap length (line-counts s (counted c.requires)) in
    counting_end (line_of s) t.all t.console t.invariant (omega arith)
