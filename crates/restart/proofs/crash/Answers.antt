use Rattle.std.proofs.Common.{sym}
use Rattle.std.proofs.lemmas.Result.{err_from_is_err_and}
use Rattle.restart.proofs.CrashLaws.{crash_on, crash_refused, crash_done}
use Rattle.restart.proofs.crash.Goals as goal

pub returns-in_err-may_crash : goal.returns-in_err-may_crash
returns-in_err-may_crash c =
    let p = err_from_is_err_and c.from_residual.result c.from_residual.ensures.1 in
    rw (p.1, p.2) (crash_refused c.args.s.now c.args.n c.requires c.in_err-may_crash.field-0.0 c.in_err-may_crash.ensures)

pub empty_node-requires : goal.empty_node-requires
empty_node-requires c = crash_on c.args.s.now c.args.n c.requires (sym c.in_ok-may_crash.ensures)

pub returns : goal.returns
returns c =
    crash_done c.args.s.now c.args.n c.requires (sym c.in_ok-may_crash.ensures) c.empty_node.new.s c.empty_node.ensures
    c.crash_channels.new.s c.crash_channels.ensures
