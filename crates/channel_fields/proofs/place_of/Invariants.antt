use Rattle.channel_fields.proofs.PlaceLaws.{Placing}
use Rattle.channel_fields.proofs.place_of.Given as goal

abbrev pub invariant-loop-b : goal.invariant-loop-b
invariant-loop-b l = Placing l.s l.parent l.node l.place l.b
