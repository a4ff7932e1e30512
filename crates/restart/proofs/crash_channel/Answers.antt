use mathlib.Core.Path.{refl, sym, ◌∙◌}
use Rattle.restart.specs.Lanes.{wiped, cleared}
use Rattle.restart.proofs.SweepLaws.{on_enters, on_leaves, on_else}
use Rattle.restart.proofs.crash_channel.Goals as goal

pub returns-then-receiver_of-n : goal.returns-then-receiver_of-n
returns-then-receiver_of-n c =
    let to = c.receiver_of.ensures.0 in
    let a = c.args in
    on_enters a.s.now a.n (λ b. wiped) (λ b. cleared) a.b c.wipe.new.s (sym to ∙ c.if-receiver_of-n.true) c.wipe.ensures

pub returns-then-sender_of-n : goal.returns-then-sender_of-n
returns-then-sender_of-n c =
    let from = c.sender_of.ensures.0 in
    let to = c.receiver_of.ensures.0 in
    let a = c.args in
    on_leaves a.s.now a.n (λ b. wiped) (λ b. cleared) a.b c.clear.new.s (λ q. c.if-receiver_of-n.false (to ∙ q)) (sym from ∙ c.if-sender_of-n.true) c.clear.ensures

pub returns-else-sender_of-n : goal.returns-else-sender_of-n
returns-else-sender_of-n c =
    let from = c.sender_of.ensures.0 in
    let to = c.receiver_of.ensures.0 in
    let a = c.args in
    on_else a.s.now a.n (λ b. wiped) (λ b. cleared) a.b a.s.now (λ q. c.if-receiver_of-n.false (to ∙ q)) (λ q. c.if-sender_of-n.false (from ∙ q)) c.requires.holds c.requires

pub shape_of-s-then-receiver_of-n : goal.shape_of-s-then-receiver_of-n
shape_of-s-then-receiver_of-n c = c.wipe.ensures.holds.ready.long ∙ sym c.requires.holds.ready.long

pub shape_of-s-then-sender_of-n : goal.shape_of-s-then-sender_of-n
shape_of-s-then-sender_of-n c = c.clear.ensures.holds.ready.long ∙ sym c.requires.holds.ready.long

pub receiver_of-requires : goal.receiver_of-requires
receiver_of-requires c = let on = c.requires in record { ready = on.holds.ready; below = on.below }

pub wipe-requires : goal.wipe-requires
wipe-requires c = c.requires

pub sender_of-requires : goal.sender_of-requires
sender_of-requires c = let on = c.requires in record { ready = on.holds.ready; below = on.below }

pub clear-requires : goal.clear-requires
clear-requires c = c.requires

pub shape_of-s-else-sender_of-n : goal.shape_of-s-else-sender_of-n
shape_of-s-else-sender_of-n c = refl
