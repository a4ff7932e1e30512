use Rattle.replay_items.specs.Items.{one_more}
use Rattle.replay.proofs.LeftLaws.{LoggedTo}
use Rattle.replay.proofs.log_placed.Given as goal

abbrev pub invariant-loop-x : goal.invariant-loop-x
invariant-loop-x l = LoggedTo l.initial.s l.a.node (one_more l.a.last) l.log l.s l.x-index
