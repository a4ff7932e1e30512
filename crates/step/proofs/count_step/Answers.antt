use native.Mathlib.Omega.{arith}
use Rattle.step.proofs.StepLaws.{counted-put}
use Rattle.step.proofs.count_step.Goals as goal

pub returns : goal.returns
returns c =
    counted-put {s = c.args.s.now} {t = c.put32.new.s} c.args.console c.steps_from-steps.result c.requires.0 c.requires.1 c.requires.2 c.steps_from-steps.ensures c.put32.ensures

pub steps_from-steps-requires : goal.steps_from-steps-requires
steps_from-steps-requires c = (c.requires.0.ready, c.requires.1)

pub overflow_mul-console : goal.overflow_mul-console
overflow_mul-console c = omega (arith, c.requires.1)

pub overflow_add-console : goal.overflow_add-console
overflow_add-console c = omega (arith, c.requires.1)

pub overflow_add-steps : goal.overflow_add-steps
overflow_add-steps c = omega (arith, c.steps_from-steps.ensures, c.requires.2)

pub put32-requires : goal.put32-requires
put32-requires c = omega (arith, c.requires.0.ready.long, c.requires.1)
