use Prim.Native.Nat.{ℕ}
use mathlib.Core.Path.{sym, ap, ◌∙◌}
use mathlib.Core.Bool.{◌&&◌, ◌||◌}
use lib.Dec.{eqb}
use Rattle.plan.specs.Plan.{Plan, channel_at}
use Rattle.rules.specs.Line.{node_at}
use Rattle.state.specs.State.{line_of}
use Rattle.state.proofs.InPlace.{line-plan}
use Rattle.restart.proofs.beside_on.Goals as goal

pub returns : goal.returns
returns c =
    let from = c.sender_of-from.ensures.0 in
    let to = c.receiver_of-to.ensures.0 in
    let a = c.args in
    let s = a.s.now in
    let parent = c.has_crashed.ensures ∙ ap (λ (q : ℕ). (node_at (line_of s) q).crashed) from in
    let child = c.has_crashed-2.ensures ∙ ap (λ (q : ℕ). (node_at (line_of s) q).crashed) to in
    (λ j. (eqb (to j) a.n && parent j) || (eqb (from j) a.n && child j))
    ∙ ap (λ (p : Plan). (eqb (channel_at p a.b).receiver a.n && (node_at (line_of s) (channel_at p a.b).sender).crashed) || (eqb (channel_at p a.b).sender a.n && (node_at (line_of s) (channel_at p a.b).receiver).crashed)) (sym (line-plan s))
