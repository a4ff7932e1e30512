use Rattle.buffer.proofs.look.bound_of.Goals as goal

pub returns-then-windows : goal.returns-then-windows
returns-then-windows c = rw (c.if-windows.true, c.get16.ensures)

pub returns-else-windows : goal.returns-else-windows
returns-else-windows c = rw c.if-windows.false

pub get16-requires : goal.get16-requires
get16-requires c = c.requires
