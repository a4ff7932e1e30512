use Rattle.std.proofs.Common.{sym, ◌∙◌}
use Rattle.std.proofs.lemmas.Result.{err_from_is_err_and}
use Rattle.restart.proofs.RecoverLaws.{logs-counted, asked_refused, restart_inside, find_full, find_none, find_some}
use Rattle.restart.proofs.find.Goals as goal

pub returns-in_err-may_restart : goal.returns-in_err-may_restart
returns-in_err-may_restart c =
    let p = err_from_is_err_and c.from_residual.result c.from_residual.ensures.1 in
    rw (p.1, p.2) (asked_refused c.args.s.now c.args.n c.requires c.in_err-may_restart.field-0.0 c.in_err-may_restart.ensures)

pub find-requires : goal.find-requires
find-requires c =
    let s = c.args.s.now in
    let n = c.args.n in
    (c.requires.holds.ready, logs-counted s n c.requires, restart_inside s n c.requires (sym c.in_ok-may_restart.ensures))

pub returns-in_err-find : goal.returns-in_err-find
returns-in_err-find c =
    let p = err_from_is_err_and c.from_residual-in_err-find.result c.from_residual-in_err-find.ensures.1 in
    rw (p.1, p.2) (find_full c.args.s.now c.args.n c.requires (sym c.in_ok-may_restart.ensures) c.in_err-find.field-0.0 c.in_err-find.ensures.told)

pub returns-then-has_no_outcome : goal.returns-then-has_no_outcome
returns-then-has_no_outcome c =
    find_none c.args.s.now c.args.n c.requires (sym c.in_ok-may_restart.ensures) c.find.new.found c.in_ok-find.ensures.told c.has_no_outcome.ensures.few (sym c.has_no_outcome.ensures.outcome ∙ c.if-has_no_outcome.true)

pub returns : goal.returns
returns c =
    find_some c.args.s.now c.args.n c.requires (sym c.in_ok-may_restart.ensures) c.find.new.found c.in_ok-find.ensures.told c.has_no_outcome.ensures.few (sym c.has_no_outcome.ensures.outcome ∙ c.if-has_no_outcome.false)
