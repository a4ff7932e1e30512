use Prim.Native.Nat.{ℕ, ◌≤◌}
use mathlib.Core.Path.{ap, subst}
use mathlib.Core.List.{List, ◌++◌}
use native.Mathlib.Omega.{arith}
use lib.ListN.{length, drop, length-append}
use Rattle.std.specs.Prelude.{Option, Some}
use Rattle.rules.specs.Line.{held_limit, Held, Node, node_at, lane_at}
use Rattle.state.specs.State.{line_of}
use Rattle.buffer.specs.Holds.{Holds}
use Rattle.buffer.proofs.HoldsLaws.{onward-node}
use Rattle.slots.specs.declared.Waiting.{Waiting}
use Rattle.slots.specs.Slots.{message_is}
use Rattle.replay_items.specs.Items.{one_more}
use Rattle.replay.specs.After.{taken_now}
use Rattle.replay.proofs.LeftLaws.{taken-onward, taken-node}
use Rattle.replay.proofs.hold.Goals as goal

pub append_held-requires : goal.append_held-requires
append_held-requires c =
    let a = c.args.a in
    let s : List ℕ = c.args.s.now in
    let t : List ℕ = c.take_first.new.s in
    let now : Holds t (taken_now (line_of s) a.channel (message_is a.message)) = c.take_first.ensures (drop 1 (lane_at (line_of s) a.channel).queue) c.requires.2 in
    let hs : List Held = (node_at (line_of s) a.node).held in
    let more : length (hs ++ one_more (Some c.in-Some.last)) ≤ held_limit = subst (λ (o : Option Waiting). length (hs ++ one_more o) ≤ held_limit) c.in-Some.is c.requires.3 in (
      onward-node (taken-onward {s = s} {t = t} c.requires.0.holds a.channel (message_is a.message) now) c.requires.0,
      rw (ap (λ (x : Node). length x.held) (taken-node {s = s} {t = t} c.requires.0.holds a.channel (message_is a.message) now a.node)) (omega (arith, more, length-append hs (one_more (Some c.in-Some.last)))),
    )
