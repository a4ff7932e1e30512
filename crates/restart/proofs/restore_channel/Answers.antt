use Prim.Native.Nat.{ℕ}
use mathlib.Core.Path.{refl, sym, ap, subst, ◌∙◌}
use lib.ListN.{get_or}
use Rattle.plan.specs.Plan.{Plan, channel_at}
use Rattle.rules.specs.Line.{Lane}
use Rattle.state.specs.State.{line_of}
use Rattle.state.proofs.InPlace.{line-plan}
use Rattle.buffer.specs.Holds.{LaneNow}
use Rattle.restart.specs.Lanes.{with_entry, marked}
use Rattle.restart.proofs.SweepLaws.{on_enters, on_leaves, on_else}
use Rattle.restart.proofs.restore_channel.Goals as goal

pub returns-then-receiver_of-n : goal.returns-then-receiver_of-n
returns-then-receiver_of-n c =
    let to = c.receiver_of.ensures.0 in
    let from = c.sender_of-parent.ensures.0 in
    let a = c.args in
    let s = a.s.now in
    let entry : ℕ → Lane → Lane = λ b. with_entry (get_or a.entries.now (channel_at (line_of s).plan b).sender 0) in
    let same = ap (λ (q : ℕ). get_or a.entries.now q 0) (from ∙ sym (ap (λ (p : Plan). (channel_at p a.b).sender) (line-plan s))) in
    on_enters s a.n entry (λ b. marked) a.b c.restore_entry.new.s (sym to ∙ c.if-receiver_of-n.true) (subst (λ (t : ℕ). LaneNow s a.b (with_entry t) c.restore_entry.new.s) same c.restore_entry.ensures)

pub returns-then-parent-n : goal.returns-then-parent-n
returns-then-parent-n c =
    let to = c.receiver_of.ensures.0 in
    let from = c.sender_of-parent.ensures.0 in
    let a = c.args in
    let s = a.s.now in
    let entry : ℕ → Lane → Lane = λ b. with_entry (get_or a.entries.now (channel_at (line_of s).plan b).sender 0) in
    on_leaves s a.n entry (λ b. marked) a.b c.restore_mark.new.s (λ q. c.if-receiver_of-n.false (to ∙ q)) (sym from ∙ c.if-parent-n.true) c.restore_mark.ensures

pub returns-else-parent-n : goal.returns-else-parent-n
returns-else-parent-n c =
    let to = c.receiver_of.ensures.0 in
    let from = c.sender_of-parent.ensures.0 in
    let a = c.args in
    let s = a.s.now in
    let entry : ℕ → Lane → Lane = λ b. with_entry (get_or a.entries.now (channel_at (line_of s).plan b).sender 0) in
    on_else s a.n entry (λ b. marked) a.b s (λ q. c.if-receiver_of-n.false (to ∙ q)) (λ q. c.if-parent-n.false (from ∙ q)) c.requires.0.holds c.requires.0

pub shape_of-s-then-receiver_of-n : goal.shape_of-s-then-receiver_of-n
shape_of-s-then-receiver_of-n c = c.restore_entry.ensures.holds.ready.long ∙ sym c.requires.0.holds.ready.long

pub shape_of-s-then-parent-n : goal.shape_of-s-then-parent-n
shape_of-s-then-parent-n c = c.restore_mark.ensures.holds.ready.long ∙ sym c.requires.0.holds.ready.long

pub sender_of-parent-requires : goal.sender_of-parent-requires
sender_of-parent-requires c = let on = c.requires.0 in record { ready = on.holds.ready; below = on.below }

pub receiver_of-requires : goal.receiver_of-requires
receiver_of-requires c = let on = c.requires.0 in record { ready = on.holds.ready; below = on.below }

pub restore_entry-requires : goal.restore_entry-requires
restore_entry-requires c = c.requires.0

pub restore_mark-requires : goal.restore_mark-requires
restore_mark-requires c = c.requires.0

pub shape_of-s-else-parent-n : goal.shape_of-s-else-parent-n
shape_of-s-else-parent-n c = refl
