use Rattle.std.proofs.Common.{sym}
use Rattle.std.proofs.lemmas.Result.{err_from_is_err_and}
use Rattle.node_fields.specs.Kept.{kept_is}
use Rattle.restart.proofs.RecoverLaws.{restart_inside, restart_on, commit_refused, commit_unkept, commit_done}
use Rattle.restart.proofs.commit.Goals as goal

pub returns-in_err-may_restart : goal.returns-in_err-may_restart
returns-in_err-may_restart c =
    let p = err_from_is_err_and c.from_residual.result c.from_residual.ensures.1 in
    rw (p.1, p.2) (commit_refused c.args.s.now c.args.n c.requires c.in_err-may_restart.field-0.0 c.in_err-may_restart.ensures)

pub kept_of-requires : goal.kept_of-requires
kept_of-requires c = (c.requires.holds.ready, restart_inside c.args.s.now c.args.n c.requires (sym c.in_ok-may_restart.ensures))

pub returns-in_default : goal.returns-in_default
returns-in_default c = commit_unkept c.args.s.now c.args.n c.requires (sym c.in_ok-may_restart.ensures) c.in_default.ensures

pub kept_entries-entries-requires : goal.kept_entries-entries-requires
kept_entries-entries-requires c = (c.requires.holds.ready, restart_inside c.args.s.now c.args.n c.requires (sym c.in_ok-may_restart.ensures))

pub settle-requires : goal.settle-requires
settle-requires c = restart_on c.args.s.now c.args.n c.requires (sym c.in_ok-may_restart.ensures)

pub returns : goal.returns
returns c =
    commit_done c.args.s.now c.args.n c.requires (sym c.in_ok-may_restart.ensures) (kept_is c.in-Some.kept) c.in-Some.ensures c.kept_entries-entries.result c.kept_entries-entries.ensures.1 c.settle.ensures c.restore_channels.ensures
