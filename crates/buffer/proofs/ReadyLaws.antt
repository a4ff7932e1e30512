-- What a state that can be read gives: its counts, its channels' ends, and its nodes' status by their bytes.
use Prim.Native.Nat.{ℕ, zero, suc, ◌+◌, ◌≤◌, ◌<◌}
use mathlib.Core.Path.{◌≡◌, refl, sym, ap, ◌∙◌}
use mathlib.Core.List.{List}
use native.Mathlib.Nat.{add-zero}
use native.Mathlib.Omega.{arith}
use native.Mathlib.Decide.{dec_lt}
use borrow.Author.Tests.{eq-eqb, ne_eqb, lt-ltb}
use lib.Dec.{ltb, eqb}
use lib.ListN.{length, get_or, length-map}
use Rattle.plan.specs.Plan.{plan_of, plan_nodes, plan_channels, node_count, channel_count, channel_at, entering}
use Rattle.plan.proofs.AcceptedLaws.{four_at}
use Rattle.plan.proofs.FitsLaws.{fitting}
use Rattle.plan.proofs.PlanLaws.{node_count_lem, channel_count_lem}
use Rattle.rules.specs.Line.{replay, node_at, lane_at, parents, console_count, steps_from}
use Rattle.rules.specs.Step.{is_nothing}
use Rattle.rules.proofs.Steps.PlanOrder.{ordered_channels}
use Rattle.state.specs.Sizes.{page_at, kept_at, steps_of_at}
use Rattle.state.specs.Node.{status_of, crash_of}
use Rattle.state.specs.Lane.{heard_count}
use Rattle.state.specs.State.{line_of}
use Rattle.state.proofs.InPlace.{Counted, line-plan, line-counts, counts_in}
use Rattle.state.proofs.PlanFitting.{low_long}
use Rattle.state.proofs.OffsetLaws.{line_status, line_crashed, line_kept_none, line_kept_some}
use Rattle.buffer.specs.Ready.{Ready, OnChannel}
use Rattle.state.specs.Right.{word_at}

pub counted : {s : List ℕ} → Ready s → Counted s
counted r = record { nodes = r.nodes; channels = r.channels }

-- A line's counts by the plan in front.
pub line-nodes : (s : List ℕ) → node_count (line_of s).plan ≡ plan_nodes s
line-nodes s = ap node_count (line-plan s) ∙ node_count_lem s

pub line_channels : (s : List ℕ) → channel_count (line_of s).plan ≡ plan_channels s
line_channels s = ap channel_count (line-plan s) ∙ channel_count_lem s

-- "At most 4 belts enter".
pub few_enter : {s : List ℕ} → Ready s → (n : ℕ) → n < plan_nodes s → length (entering (plan_of s) n) ≤ 4
few_enter {s} ready n inside = (four_at (plan_of s) (node_count (plan_of s)) n (fitting (plan_of s) ready.fits).degrees (rw node_count_lem inside)).0

-- Whether an answer is kept is told by its count.
pub kept_counted : (s : List ℕ) → Ready s → (n : ℕ) → n < plan_nodes s → (kept : ℕ) → kept ≡ word_at (page_at n + kept_at) s → is_nothing (node_at (line_of s) n).asked ≡ eqb kept 0
kept_counted s ready n inside kept e = elim (dec_lt 0 kept) [
  | yes h ↦ ap is_nothing (line_kept_some s (counted ready) n inside (omega (arith, e))) ∙ sym (ne_eqb kept 0 (λ z. omega arith))
  | no h ↦ ap is_nothing (line_kept_none s (counted ready) n inside (omega (arith, e, h))) ∙ sym (eq-eqb kept 0 (omega (arith, h)))
]

-- ---- a node's status

pub replaying_more : (n : ℕ) → (n ≡ 0 → ⊥) → (n ≡ 1 → ⊥) → replay ≡ status_of n
replaying_more zero h k = absurd (h refl)
replaying_more (suc zero) h k = absurd (k refl)
replaying_more (suc (suc n)) h k = refl

crash_byte : (n : ℕ) → ltb 0 n ≡ crash_of n
crash_byte zero = refl
crash_byte (suc n) = lt-ltb 0 (suc n) (omega arith)

module _ (s : List ℕ) (ready : Ready s) (n : ℕ) (inside : n < plan_nodes s) where
  pub status_byte : status_of (get_or s (page_at n) 0) ≡ (node_at (line_of s) n).status
  status_byte = ap (λ (a : ℕ). status_of (get_or s a 0)) (sym (add-zero (page_at n))) ∙ sym (line_status s (counted ready) n inside)

  pub crashed_lem : ltb 0 (get_or s (page_at n + 1) 0) ≡ (node_at (line_of s) n).crashed
  crashed_lem = crash_byte (get_or s (page_at n + 1) 0) ∙ sym (line_crashed s (counted ready) n inside)

-- ---- a channel's ends and what is heard on it

module _ (s : List ℕ) (b : ℕ) (on : OnChannel s b) where
  below_count : b < channel_count (plan_of s)
  below_count = rw (channel_count_lem s) on.below

  pub receiver_inside : (channel_at (plan_of s) b).receiver < plan_nodes s
  receiver_inside = let o = ordered_channels (plan_of s) (fitting (plan_of s) on.ready.fits).channels in omega (arith, o.inside b below_count, node_count_lem s)

  pub sender_inside : (channel_at (plan_of s) b).sender < plan_nodes s
  sender_inside = let o = ordered_channels (plan_of s) (fitting (plan_of s) on.ready.fits).channels in omega (arith, o.forward b below_count, receiver_inside)

  -- The sender's parents: one for each channel that enters it.
  pub heard_entering : length (entering (plan_of s) (channel_at (plan_of s) b).sender) ≡ heard_count (plan_of s) (channel_at (plan_of s) b)
  unfolding heard_count parents
  heard_entering = sym (length-map (entering (plan_of s) (channel_at (plan_of s) b).sender) (λ (c : ℕ). (channel_at (plan_of s) c).sender))

  -- The low clock has an entry for the sender and one for each of its parents.
  pub low_entering : length (lane_at (line_of s) b).low ≡ suc (length (entering (plan_of s) (channel_at (plan_of s) b).sender))
  low_entering = low_long s on.ready.fits b on.below ∙ ap suc (sym heard_entering)

-- Each console's count.
pub count_read : (s : List ℕ) → Ready s → (c : ℕ) → c < console_count → steps_from (line_of s) c ≡ word_at (steps_of_at c) s
count_read s h c inside = ap (λ (ks : List ℕ). get_or ks c 0) (line-counts s (counted h)) ∙ four c inside
  where
    four : (c : ℕ) → c < console_count → get_or (counts_in s) c 0 ≡ word_at (steps_of_at c) s
    four zero h = refl
    four (suc zero) h = refl
    four (suc (suc zero)) h = refl
    four (suc (suc (suc zero))) h = refl
    four (suc (suc (suc (suc c)))) h = let no : ⊥ = omega arith in absurd no
