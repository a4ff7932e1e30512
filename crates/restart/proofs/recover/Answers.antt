use Rattle.buffer.proofs.HoldsLaws.{node_then}
use Rattle.restart.proofs.RecoverLaws.{found_on, found_fillable, recover_done}
use Rattle.restart.proofs.recover.Goals as goal

pub clear_targets-requires : goal.clear_targets-requires
clear_targets-requires c = found_on c.args.s.now c.args.n c.requires c.find.new.found c.in_ok-find.ensures

pub put_targets-requires : goal.put_targets-requires
put_targets-requires c = found_fillable c.args.s.now c.args.n c.requires c.find.new.found c.in_ok-find.ensures c.all.result.now c.all.ensures.0 c.all.ensures.1 c.clear_targets.ensures

pub returns : goal.returns
returns c =
    let s = c.args.s.now in
    let n = c.args.n in
    let on = found_on s n c.requires c.find.new.found c.in_ok-find.ensures in
    recover_done s n c.requires c.find.new.found c.in_ok-find.ensures c.all.result.now c.all.ensures.0 (node_then on c.clear_targets.ensures c.put_targets.ensures) c.settle.ensures c.restore_channels.ensures
