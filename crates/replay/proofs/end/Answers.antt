use lib.ListN.{drop}
use Rattle.rules.specs.Line.{lane_at}
use Rattle.state.specs.State.{line_of}
use Rattle.slots.specs.Slots.{message_is}
use Rattle.replay_items.specs.Items.{one_more}
use Rattle.replay.proofs.LeftLaws.{taken-node, loggable_same, enters_taken, end_now}
use Rattle.replay.proofs.end.Goals as goal

pub log_placed-requires : goal.log_placed-requires
log_placed-requires c =
    let s = c.args.s.now in
    let a = c.args.a in
    let now = c.take_first.ensures (drop 1 (lane_at (line_of s) a.channel).queue) c.requires.1 in (
      enters_taken {s = s} {t = c.take_first.new.s} c.requires.0 (message_is a.message) now,
      loggable_same (line_of s) (line_of c.take_first.new.s) a.node (one_more a.last) c.args.log.now
          (taken-node {s = s} {t = c.take_first.new.s} c.requires.0.on.holds a.channel (message_is a.message) now a.node) c.requires.2,
    )

pub returns : goal.returns
returns c =
    let s = c.args.s.now in
    let a = c.args.a in
    let now = c.take_first.ensures (drop 1 (lane_at (line_of s) a.channel).queue) c.requires.1 in
    end_now {s = s} {t = c.take_first.new.s} c.requires.0 (message_is a.message) now (one_more a.last) c.args.log.now c.high_of-high.result c.log_placed.ensures
    c.clear_held.ensures c.clear_targets.ensures c.set_time.ensures c.set_status.ensures c.high_of-high.ensures c.requires.2.unasked
