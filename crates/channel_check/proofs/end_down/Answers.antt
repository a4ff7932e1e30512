use Rattle.channel_check.proofs.end_down.Goals as goal

pub returns : goal.returns
returns c = rw (c.is_down.ensures, c.is_down-2.ensures)
