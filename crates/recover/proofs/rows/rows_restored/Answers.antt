use Prim.Native.Nat.{◌<◌}
use mathlib.Core.Path.{refl, sym, ap, ap₂, ◌∙◌}
use mathlib.Core.Bool.{Bool, not, ◌&&◌, ◌||◌}
use native.Mathlib.Omega.{arith}
use lib.Dec.{eqb}
use Rattle.plan.specs.Plan.{plan_of, plan_channels, channel_at}
use Rattle.state.specs.State.{line_of}
use Rattle.buffer.specs.Ready.{OnChannel}
use Rattle.buffer.proofs.ReadyLaws.{sender_inside}
use Rattle.buffer.specs.Rows.{rows_long}
use Rattle.recover.proofs.RowLaws.{row_same, rows_turn, rows_whole}
use Rattle.recover.proofs.rows.rows_restored.Goals as goal

pub loop-b-init : goal.loop-b-init
loop-b-init c = record { within = omega arith; now = λ ts g. refl }

pub row_restored-ok-requires : goal.row_restored-ok-requires
row_restored-ok-requires c =
    let p = c.requires in
    (record { ready = p.0; below = omega (arith, c.channel_count-b-end.ensures.0) }, p.1, p.2.long)

pub loop-b-preserved : goal.loop-b-preserved
loop-b-preserved c =
    let t = c.loop-b in
    let a = c.args in
    let s = a.s.now in
    let sender = (channel_at (plan_of s) t.b).sender in
    let other : Bool = not (eqb (channel_at (plan_of s) t.b).receiver a.n) in
    let h : t.b < plan_channels s = omega (arith, c.channel_count-b-end.ensures.0) in
    let on : OnChannel s t.b = record { ready = c.requires.0; below = h } in
    let inside : sender < rows_long = omega (arith, sender_inside s t.b on, on.ready.nodes) in
    record {
      within = omega arith;
      now = λ ts g. ap₂ ◌&&◌ (t.invariant.now ts g) (c.row_restored-ok.ensures ∙ ap (λ (r : Bool). other || r) (row_same (line_of s) a.n ts a.goals.now a.entries.now sender g c.requires.2 inside)) ∙ sym (rows_turn s a.n ts t.b h);
    }

pub returns : goal.returns
returns c ts g =
    let t = c.loop-b in
    let a = c.args in
    t.invariant.now ts g ∙ rows_whole a.s.now a.n ts t.b (omega (arith, c.channel_count-b-end.ensures.0))

pub channel_count-b-end-requires : goal.channel_count-b-end-requires
channel_count-b-end-requires c = c.requires.0
