use mathlib.Core.Path.{sym, ◌∙◌}
use mathlib.Core.Bool.{◌&&◌}
use borrow.Author.Tests.{eqb-true}
use lib.Dec.{eqb}
use Rattle.basics.specs.Bools.{both_true}
use Rattle.recover.proofs.LowLaws.{no_low}
use Rattle.recover.proofs.lows.no_low.Goals as goal

pub returns : goal.returns
returns c e =
    let (some, last) = both_true (eqb c.get32.result 0 && eqb c.get32-2.result 0 && eqb c.get32-3.result 0) (eqb c.get32-4.result 0) e in
    let (two, late) = both_true (eqb c.get32.result 0 && eqb c.get32-2.result 0) (eqb c.get32-3.result 0) some in
    let (early, next) = both_true (eqb c.get32.result 0) (eqb c.get32-2.result 0) two in
    no_low c.args.s.now c.args.b c.requires
    (sym c.get32.ensures ∙ eqb-true c.get32.result 0 early)
    (sym c.get32-2.ensures ∙ eqb-true c.get32-2.result 0 next)
    (sym c.get32-3.ensures ∙ eqb-true c.get32-3.result 0 late)
    (sym c.get32-4.ensures ∙ eqb-true c.get32-4.result 0 last)
