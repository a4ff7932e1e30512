use Rattle.plan.specs.Record.{record_layout}
use Rattle.buffer.proofs.record.record_of.Goals as goal

pub returns : goal.returns
unfolding record_layout
returns c = λ i. record { piece = c.piece_of.ensures i; material = c.material_of.ensures i; mass = c.mass_of.ensures i }
