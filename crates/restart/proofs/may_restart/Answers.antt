use Rattle.std.proofs.Common.{refl, sym, ap, not, ◌∙◌, arith}
use Rattle.std.proofs.lemmas.Result.{err_from_is_err_and}
use Rattle.state.specs.State.{line_of}
use Rattle.buffer.proofs.ReadyLaws.{line-nodes}
use Rattle.restart.proofs.AnswerLaws.{first_here, first_past, reach_inside, reach_refused, reach_passed}
use Rattle.restart.proofs.may_restart.Goals as goal

pub returns-in_err-may_reach : goal.returns-in_err-may_reach
returns-in_err-may_reach c =
    let p = err_from_is_err_and c.from_residual.result c.from_residual.ensures.1 in
    rw (p.1, p.2) (reach_refused (line_of c.args.s.now) c.args.n _ c.in_err-may_reach.field-0.0 c.in_err-may_reach.ensures)

pub is_down-requires : goal.is_down-requires
is_down-requires c = (c.requires, omega (arith, reach_inside (line_of c.args.s.now) c.args.n c.in_ok-may_reach.ensures, line-nodes c.args.s.now))

pub returns-then-not-is_down : goal.returns-then-not-is_down
returns-then-not-is_down c =
    reach_passed (line_of c.args.s.now) c.args.n _ c.in_ok-may_reach.ensures 15 (first_here _ 15 _ (ap not (sym c.is_down.ensures) ∙ ap not c.if-not-is_down.true))

pub returns : goal.returns
returns c =
    reach_passed (line_of c.args.s.now) c.args.n _ c.in_ok-may_reach.ensures 0 (first_past _ 15 _ 0 (ap not (sym c.is_down.ensures) ∙ ap not c.if-not-is_down.false) refl)
