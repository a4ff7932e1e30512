use mathlib.Core.Path.{refl}
use Rattle.report.proofs.WroteLaws.{word_written}
use Rattle.report.proofs.text.Text.word.Goals as goal

pub returns : goal.returns
returns c = let s = c.args.self.now in record { wrote = word_written s.out.now c.args.w.now c.copy_from_slice.new.self s.at c.requires c.copy_from_slice.ensures.after; lent = refl }
