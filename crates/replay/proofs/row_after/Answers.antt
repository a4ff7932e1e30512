use mathlib.Core.Path.{ap, ◌∙◌}
use native.Mathlib.Omega.{arith}
use Prim.Native.Nat.{ℕ, ◌<◌, max}
use lib.ListN.{get_or}
use Rattle.buffer.specs.Rows.{rows_long}
use Rattle.replay.proofs.RowLaws.{row_else, row_here, taken_else, taken_here}
use Rattle.replay.proofs.row_after.Goals as goal

pub returns-then-receiver_of-n : goal.returns-then-receiver_of-n
returns-then-receiver_of-n c =
    let a = c.args in
    row_else a.s.now a.n a.b a.time a.c c.receiver_of.result c.receiver_of.ensures.0 c.if-receiver_of-n.true

pub returns-then-c-b : goal.returns-then-c-b
returns-then-c-b c =
    let a = c.args in
    let inside : c.sender_of.result < rows_long = omega (arith, c.sender_of.ensures.1, c.requires.0.holds.ready.nodes) in
    row_here a.s.now a.n a.b a.time a.c c.receiver_of.result c.sender_of.result (get_or a.goals.now c.sender_of.result 0) c.taken_of-taken.result
    c.receiver_of.ensures.0 c.if-receiver_of-n.false c.sender_of.ensures.0 (c.requires.1.each c.sender_of.result inside)
    (taken_else a.s.now a.n a.b a.time a.c c.taken_of-taken.result c.taken_of-taken.ensures c.if-c-b.true)

pub returns : goal.returns
returns c =
    let a = c.args in
    let inside : c.sender_of.result < rows_long = omega (arith, c.sender_of.ensures.1, c.requires.0.holds.ready.nodes) in
    row_here a.s.now a.n a.b a.time a.c c.receiver_of.result c.sender_of.result (get_or a.goals.now c.sender_of.result 0) c.max.result
    c.receiver_of.ensures.0 c.if-receiver_of-n.false c.sender_of.ensures.0 (c.requires.1.each c.sender_of.result inside)
    (taken_here a.s.now a.n a.b a.time a.c c.max.result (c.max.ensures ∙ ap (λ (t : ℕ). max t a.time) c.taken_of-taken.ensures) c.if-c-b.false)
