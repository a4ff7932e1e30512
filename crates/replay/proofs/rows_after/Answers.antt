use Prim.Native.Nat.{ℕ, ◌+◌, ◌<◌}
use mathlib.Core.Path.{◌≡◌, sym, ap, ◌∙◌}
use mathlib.Core.Bool.{Bool, false, ◌&&◌}
use mathlib.Core.List.{List}
use native.Mathlib.Omega.{arith}
use Rattle.plan.specs.Plan.{plan_channels, channel_count}
use Rattle.plan.proofs.PlanLaws.{channel_count_lem}
use Rattle.state.specs.State.{line_of}
use Rattle.state.proofs.InPlace.{line-plan}
use Rattle.replay.specs.After.{row_after, rows_after}
use Rattle.replay.proofs.RowLaws.{row_asked, all_from, all_turn, all_end, all_start}
use Rattle.replay.proofs.rows_after.Invariants.{RowsFrom}
use Rattle.replay.proofs.rows_after.Goals as goal

counted : (s : List ℕ) → channel_count (line_of s).plan ≡ plan_channels s
counted s = ap channel_count (line-plan s) ∙ channel_count_lem s

-- By the next row, and those behind it.
next : (s : List ℕ) (n b time c : ℕ) (r : Bool) → c < plan_channels s → r ≡ row_asked s n b time c → RowsFrom s n b time c
    → rows_after (line_of s) n b time ≡ (r && all_from (line_of s).plan n (row_after (line_of s) n b time) (c + 1))
next s n b time c r h e k =
    let f : ℕ → Bool = row_after (line_of s) n b time in
    k.now ∙ all_turn (line_of s).plan n f c (rw (counted s) h) ∙ ap (λ (t : Bool). t && all_from (line_of s).plan n f (c + 1)) (sym e)

pub loop-c-init : goal.loop-c-init
unfolding rows_after
loop-c-init c =
    let a = c.args in
    record { few = omega arith; now = sym (all_start (line_of a.s.now).plan a.n (row_after (line_of a.s.now) a.n a.b a.time)) }

pub returns-then-not-row_after : goal.returns-then-not-row_after
returns-then-not-row_after c =
    let t = c.loop-c in
    let a = c.args in
    sym (next a.s.now a.n a.b a.time t.c false (omega (arith, c.channel_count-c-end.ensures.0)) (sym c.if-not-row_after.true ∙ c.row_after.ensures) t.invariant)

pub returns : goal.returns
returns c =
    let t = c.loop-c in
    let a = c.args in
    let l = line_of a.s.now in
    sym (t.invariant.now ∙ all_end l.plan a.n (row_after l a.n a.b a.time) t.c (rw (counted a.s.now) (omega (arith, c.channel_count-c-end.ensures.0))))
