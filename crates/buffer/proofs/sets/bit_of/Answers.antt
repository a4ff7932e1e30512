use Prim.Native.Nat.{ℕ, suc, ◌-◌}
use mathlib.Core.Path.{◌≡◌, sym, ap, ◌∙◌}
use native.Mathlib.Numerals.{add-one}
use native.Mathlib.Omega.{arith}
use Rattle.plan.specs.Plan.{plan_of, channel_at}
use Rattle.plan.proofs.PlanLaws.{node_count_lem, channel_count_lem}
use Rattle.buffer.proofs.SetLaws.{behind_start, behind_more, bit_first, bit_found}
use Rattle.buffer.proofs.sets.bit_of.Goals as goal

pub loop-k-init : goal.loop-k-init
loop-k-init c =
    behind_start (plan_of c.args.s.now) c.args.b c.requires.ready.fits (omega (arith, c.requires.below, channel_count_lem c.args.s.now))

pub sender_of-requires : goal.sender_of-requires
sender_of-requires c = record { ready = c.requires.ready; below = omega (arith, c.requires.below, c.loop-k.invariant.place) }

pub returns-then-sender_of-n : goal.returns-then-sender_of-n
returns-then-sender_of-n c =
    let a = c.args in
    let turn = c.loop-k in
    let own = c.sender_of-n.ensures in
    let (k, is) : (k : ℕ) × (turn.k ≡ suc k) = (turn.k - 1, omega arith) in
    bit_found (plan_of a.s.now) a.b c.requires.ready.fits (omega (arith, c.requires.below, channel_count_lem a.s.now)) (omega (arith, own, node_count_lem a.s.now)) k turn.bit (rw is at turn.invariant)
    (λ e. c.if-sender_of-n.true (c.sender_of.ensures.0 ∙ ap (λ (i : ℕ). (channel_at (plan_of a.s.now) i).sender) (omega (arith, is)) ∙ e ∙ sym own.0))

pub overflow_add-bit : goal.overflow_add-bit
overflow_add-bit c = omega (arith, c.loop-k.invariant.place, c.requires.below, c.requires.ready.channels)

pub loop-k-preserved : goal.loop-k-preserved
loop-k-preserved c =
    let a = c.args in
    let turn = c.loop-k in
    let own = c.sender_of-n.ensures.0 in
    let (k, is) : (k : ℕ) × (turn.k ≡ suc k) = (turn.k - 1, omega arith) in
    let less : turn.k - 1 ≡ k = omega (arith, is) in
    rw (less, add-one turn.bit) (behind_more (plan_of a.s.now) a.b c.requires.ready.fits (omega (arith, c.requires.below, channel_count_lem a.s.now)) k turn.bit (rw is at turn.invariant)
    (ap (λ (i : ℕ). (channel_at (plan_of a.s.now) i).sender) (sym less) ∙ sym c.sender_of.ensures.0 ∙ c.if-sender_of-n.false ∙ own))

pub returns : goal.returns
returns c =
    let a = c.args in
    let turn = c.loop-k in
    let none : turn.k ≡ 0 = omega (arith, c.loop-k-test.false) in
    bit_first (plan_of a.s.now) a.b c.requires.ready.fits (omega (arith, c.requires.below, channel_count_lem a.s.now)) (omega (arith, c.sender_of-n.ensures, node_count_lem a.s.now)) turn.bit (rw none at turn.invariant)

pub sender_of-n-requires : goal.sender_of-n-requires
sender_of-n-requires c = c.requires
