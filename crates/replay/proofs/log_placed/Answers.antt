use Rattle.replay_items.specs.Items.{one_more}
use Rattle.slots.specs.Slots.{entry_is}
use Rattle.replay.proofs.RecordLaws.{enters_none}
use Rattle.replay.proofs.LeftLaws.{logged_start, logged_begin, logged_few, logged_next, logged_turn}
use Rattle.replay.proofs.log_placed.Goals as goal

pub leaving_from-first-requires : goal.leaving_from-first-requires
leaving_from-first-requires c = (c.requires.0.on.holds.ready, enters_none c.requires.0)

pub loop-x-init : goal.loop-x-init
loop-x-init c = logged_start c.args.s.now c.args.a.node (one_more c.args.a.last) c.args.log.now c.requires.0.on c.requires.1

pub entry_for-e-requires : goal.entry_for-e-requires
entry_for-e-requires c =
    let t = c.loop-x in
    let a = c.args in
    let (there, small) = logged_next a.s.now a.a.node (one_more a.a.last) a.log.now c.requires.0.on c.requires.1 t.s t.x-index t.invariant c.loop-x-test.true in
    (t.invariant.now.on, logged_begin a.s.now a.a.node (one_more a.a.last) a.log.now c.requires.0.on c.requires.1 t.s t.x-index t.invariant c.leaving_from-first.result c.leaving_from-first.ensures, there, small)

pub append_entry-requires : goal.append_entry-requires
append_entry-requires c =
    let t = c.loop-x in
    let a = c.args in
    (t.invariant.now.on, logged_few a.s.now a.a.node (one_more a.a.last) a.log.now c.requires.0.on c.requires.1 t.s t.x-index t.invariant c.loop-x-test.true)

pub loop-x-preserved : goal.loop-x-preserved
loop-x-preserved c =
    let t = c.loop-x in
    let a = c.args in
    logged_turn a.s.now a.a.node (one_more a.a.last) a.log.now c.requires.0.on c.requires.1 t.s t.x-index t.invariant (entry_is c.entry_for-e.result) c.append_entry.new.s c.loop-x-test.true c.entry_for-e.ensures c.append_entry.ensures
