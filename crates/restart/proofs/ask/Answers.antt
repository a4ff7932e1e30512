use Rattle.std.proofs.lemmas.Result.{err_from_is_err_and}
use Rattle.buffer.proofs.HoldsLaws.{node_then}
use Rattle.restart.proofs.RecoverLaws.{ask_refused, found_on, found_inside, found_fillable, ask_done}
use Rattle.restart.proofs.ask.Goals as goal

pub returns-in_err-find : goal.returns-in_err-find
returns-in_err-find c =
    let p = err_from_is_err_and c.from_residual.result c.from_residual.ensures.1 in
    rw (p.1, p.2) (ask_refused c.args.s.now c.args.n c.requires c.in_err-find.field-0.0 c.in_err-find.ensures)

pub answer-kept-requires : goal.answer-kept-requires
answer-kept-requires c =
    (c.requires.holds.ready, found_inside c.args.s.now c.args.n c.requires c.find.new.found c.in_ok-find.ensures, c.in_ok-find.ensures.restores.finds)

pub clear_targets-requires : goal.clear_targets-requires
clear_targets-requires c = found_on c.args.s.now c.args.n c.requires c.find.new.found c.in_ok-find.ensures

pub put_targets-requires : goal.put_targets-requires
put_targets-requires c = found_fillable c.args.s.now c.args.n c.requires c.find.new.found c.in_ok-find.ensures c.all.result.now c.all.ensures.0 c.all.ensures.1 c.clear_targets.ensures

pub returns : goal.returns
returns c =
    let s = c.args.s.now in
    let n = c.args.n in
    let on = found_on s n c.requires c.find.new.found c.in_ok-find.ensures in
    ask_done s n c.requires c.find.new.found c.in_ok-find.ensures c.all.result.now c.all.ensures.0 (node_then on c.clear_targets.ensures c.put_targets.ensures) c.answer-kept.result c.answer-kept.ensures c.set_kept.ensures
