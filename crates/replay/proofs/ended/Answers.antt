use mathlib.Core.Path.{◌≡◌, sym, ◌∙◌}
use Rattle.std.proofs.Common.{rules}
use Rattle.std.specs.Prelude.{Err}
use Rattle.replay.proofs.AnswerLaws.{enters, held_on, not_placed, loggable, ended_take}
use Rattle.replay.proofs.ended.Goals as goal

pub returns-in_err-log : goal.returns-in_err-log
returns-in_err-log c =
    let o = c.requires.0 in
    let told : c.from_residual.result ≡ Err c.in_err-log.field-0.0 = search rules in
    rw (told, c.in_err-log.ensures.0) (not_placed o.seen o.row o.space c.requires.1 c.in_err-log.ensures.1)

pub end-requires : goal.end-requires
end-requires c =
    let o = c.requires.0 in
    let v = o.seen in
    (enters v, v.first, rw c.entries.ensures (loggable v o.row o.space c.requires.1 c.in_ok-log.log c.in_ok-log.ensures))

pub returns : goal.returns
returns c =
    let o = c.requires.0 in
    let v = o.seen in
    ended_take v o.row o.space c.requires.1 c.in_ok-log.log c.in_ok-log.ensures c.end.new.s (rw c.entries.ensures at c.end.ensures)
