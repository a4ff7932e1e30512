use mathlib.Core.Path.{sym, ◌∙◌}
use Rattle.std.proofs.Common.{rules}
use native.Mathlib.Omega.{arith}
use Rattle.slots.specs.Slots.{entry_is}
use Rattle.passing.proofs.SendLaws.{send_past, send_down, send_nothing, send_full, send_done}
use Rattle.passing.proofs.send.Goals as goal

pub returns-then-channel_count-b : goal.returns-then-channel_count-b
returns-then-channel_count-b c =
    let a = c.args in
    send_past a.s.now a.b c.requires.holds (omega (arith, c.channel_count.ensures.0))

pub returns-then-end_down : goal.returns-then-end_down
returns-then-end_down c =
    let a = c.args in
    send_down a.s.now a.b c.requires.holds (omega (arith, c.channel_count.ensures.0)) (sym c.end_down.ensures ∙ c.if-end_down.true)

pub returns-in_err-e : goal.returns-in_err-e
returns-in_err-e c =
    let a = c.args in
    let nothing = send_nothing a.s.now a.b c.requires.holds (omega (arith, c.channel_count.ensures.0)) (sym c.end_down.ensures ∙ c.if-end_down.false)
    (rw c.in_err-e.ensures.ok_part at c.next_of.ensures) in
    search rules

pub returns-then-queue_count-ge-QUEUE : goal.returns-then-queue_count-ge-QUEUE
returns-then-queue_count-ge-QUEUE c =
    let a = c.args in
    send_full a.s.now a.b c.requires.holds (omega (arith, c.channel_count.ensures.0)) (sym c.end_down.ensures ∙ c.if-end_down.false)
    (entry_is c.in_ok-e.e) (rw c.in_ok-e.ensures.ok_part at c.next_of.ensures)
    (omega (arith, c.queue_count.ensures.0))

pub returns : goal.returns
returns c =
    let a = c.args in
    send_done a.s.now a.b c.requires.holds (omega (arith, c.channel_count.ensures.0)) (sym c.end_down.ensures ∙ c.if-end_down.false)
    (entry_is c.in_ok-e.e) (rw c.in_ok-e.ensures.ok_part at c.next_of.ensures)
    c.put_on.new.s (omega (arith, c.queue_count.ensures.0)) c.put_on.ensures
