use mathlib.Core.Path.{◌≡◌, sym, ap, subst, ◌∙◌}
use mathlib.Core.Logic.{inl, inr}
use mathlib.Core.Bool.{false, ◌&&◌}
use mathlib.Core.List.{List, map}
use native.Mathlib.Omega.{arith}
use Prim.Native.Nat.{ℕ, ◌<◌}
use lib.Dec.{eqb}
use lib.ListN.{get_or, take, get_or-map}
use lib.Seq.{get_or-take}
use Rattle.basics.specs.Bools.{below_or_not}
use Rattle.rules.specs.Line.{Target}
use Rattle.slots.specs.declared.Goal.{Goal}
use Rattle.slots.specs.Slots.{held_is, target_is}
use Rattle.buffer.specs.Nothing.{no_target}
use Rattle.replay_items.specs.Items.{is_target}
use Rattle.replay_items.proofs.Goals.position.Goals as goal

abbrev no_goal : Goal
no_goal = record { time = 0; parent = 0; sent = 0 }

there : (gs : List Goal) (count i : ℕ) → i < count → get_or (map target_is (take count gs)) i no_target ≡ target_is (get_or gs i no_goal)
there gs count i h = get_or-map target_is (take count gs) i no_goal ∙ ap target_is (get_or-take count gs i no_goal h)

pub loop-i-preserved : goal.loop-i-preserved
loop-i-preserved c =
    let t = c.loop-i in
    let a = c.args in
    let g = get_or c.self.inside.list t.i no_goal in
    let here : is_target (held_is a.h) (get_or a.self.now t.i no_target) ≡ false =
    ap (λ (ts : List Target). is_target (held_is a.h) (get_or ts t.i no_target)) (sym c.self.view_is) ∙ ap (is_target (held_is a.h)) (there c.self.inside.list c.self.inside.count t.i c.loop-i-test.true)
    ∙ ap (λ (k : ℕ). eqb g.parent k && eqb g.sent a.h.time) (sym c.from.ensures) ∙ c.if-g-from.false in
    λ j h l. elim (below_or_not j t.i) [
      | inl k ↦ t.invariant j h k
      | inr k ↦ subst (λ (i : ℕ). is_target (held_is a.h) (get_or a.self.now i no_target) ≡ false) (let same : t.i ≡ j = omega arith in same) here
    ]
