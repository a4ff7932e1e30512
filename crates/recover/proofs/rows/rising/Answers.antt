use Rattle.recover.proofs.RisingLaws.{rising_turn}
use Rattle.recover.proofs.rows.rising.Goals as goal

pub loop-g-preserved : goal.loop-g-preserved
loop-g-preserved c =
    let t = c.loop-g in
    rising_turn c.args.targets.now t.rows t.time t.ok t.g-index _ c.raise-above.result c.raise-above.new.rows c.loop-g-test.true c.raise-above.ensures.0 c.raise-above.ensures.1 t.invariant
