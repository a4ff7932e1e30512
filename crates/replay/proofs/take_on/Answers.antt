use mathlib.Core.Path.{◌≡◌, sym, ◌∙◌}
use Rattle.std.proofs.Common.{rules}
use Rattle.std.specs.Prelude.{Err}
use Rattle.replay.proofs.AnswerLaws.{enters, held_on, not_placed, loggable, ended_take}
use Rattle.replay.proofs.take_on.Goals as goal

pub returns-then-not-rows_after : goal.returns-then-not-rows_after
returns-then-not-rows_after c =
    let o = c.requires.0 in
    held_on o.seen o.row o.space c.hold.new.s (sym c.rows_after.ensures ∙ c.if-not-rows_after.true) c.hold.ensures
