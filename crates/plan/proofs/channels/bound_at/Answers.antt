use Rattle.plan.proofs.channels.bound_at.Goals as goal

pub returns-then-windows : goal.returns-then-windows
returns-then-windows c = rw (c.if-windows.true, c.word_at.ensures)

pub returns-else-windows : goal.returns-else-windows
returns-else-windows c = rw c.if-windows.false
