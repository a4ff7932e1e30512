use mathlib.Core.Path.{◌≡◌, refl, sym, ◌∙◌}
use mathlib.Core.Bool.{Bool, true, false, ◌||◌}
use Rattle.plan.specs.Record.{is_tick}
use Rattle.plan.specs.Channel.{takes}
use Rattle.plan.proofs.channels.takes_fields.Goals as goal

-- The code asks whether it is a tick last.
other_taken : (tick other : Bool) → other ≡ true → true ≡ (tick || other)
other_taken true other e = refl
other_taken false other e = sym e

tick_only : (tick other : Bool) → other ≡ false → tick ≡ (tick || other)
tick_only true other e = refl
tick_only false other e = sym e

pub returns-then-bit-left : goal.returns-then-bit-left
unfolding takes
returns-then-bit-left c =
    let a = c.args in
    other_taken (is_tick (record { piece = a.piece; material = a.material; mass = a.mass })) _ (rw (c.bit_set-bit.ensures, c.left_over-left.ensures, c.from.ensures) at c.if-bit-left.true)

pub returns : goal.returns
unfolding takes
returns c =
    c.is_tick.ensures ∙ tick_only _ _ (rw (c.bit_set-bit.ensures, c.left_over-left.ensures, c.from.ensures) at c.if-bit-left.false)
