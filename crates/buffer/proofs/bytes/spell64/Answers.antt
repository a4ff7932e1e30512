use mathlib.Core.Path.{◌∙◌}
use Rattle.buffer.proofs.WordLaws.{two_halves}
use Rattle.buffer.proofs.bytes.spell64.Goals as goal

pub returns : goal.returns
returns c =
    let x = c.args in
    rw (c.from.ensures ∙ c.spell32.ensures, c.from-2.ensures ∙ c.spell32-2.ensures) (two_halves x.a x.b x.c x.d x.e x.f x.g x.h)
