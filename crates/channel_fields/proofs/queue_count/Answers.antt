use mathlib.Core.Path.{◌∙◌}
use Rattle.channel_fields.proofs.LaneReads.{queue_word, queue_few}
use Rattle.channel_fields.proofs.queue_count.Goals as goal

pub returns : goal.returns
returns c =
    let is = c.count.ensures ∙ queue_word c.args.s.now c.args.b c.requires in
    (is, rw is (queue_few c.args.s.now c.args.b c.requires))
