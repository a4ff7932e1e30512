use Rattle.restart.proofs.TargetLaws.{filled_start, filled_room, filled_turn}
use Rattle.restart.proofs.put_targets.Goals as goal

pub loop-g-init : goal.loop-g-init
loop-g-init c = filled_start c.requires

pub append_target-requires : goal.append_target-requires
append_target-requires c =
    let t = c.loop-g in
    (t.invariant.now.on, filled_room c.requires c.loop-g-test.true t.invariant, c.requires.parents t.g-index _ c.loop-g-test.true)

pub loop-g-preserved : goal.loop-g-preserved
loop-g-preserved c = filled_turn c.requires c.loop-g-test.true c.loop-g.invariant _ c.append_target.ensures
