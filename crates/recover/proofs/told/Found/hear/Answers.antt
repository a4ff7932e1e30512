use Rattle.std.proofs.Common.{arith}
use Rattle.slots.specs.Slots.{target_is}
use Rattle.recover.proofs.ToldLaws.{told_raised, told_added}
use Rattle.recover.proofs.told.Found.hear.Goals as goal

pub returns-then-g-self : goal.returns-then-g-self
returns-then-g-self c = told_raised (target_is c.args.g) c.args.self.now c.requires tt c.raise.new.rows c.if-g-self.true c.raise.ensures.1

pub returns : goal.returns
returns c = told_added (target_is c.args.g) c.args.self.now c.requires c.add.result c.add.new.self (omega arith) c.add.ensures
