-- The end of a replay keeps the invariant, for any columns that keep the placing's rules.
use Prim.Native.Nat.{ℕ, ◌<◌, ◌≤◌}
use mathlib.Core.Path.{◌≡◌, refl, sym, ap, subst, ◌∙◌}
use mathlib.Core.Logic.{◌≢◌, inl, inr}
use mathlib.Core.Bool.{Bool, true, ◌&&◌}
use mathlib.Core.List.{List, [], map}
use mathlib.Core.Option.{none}
use native.Mathlib.Omega.{arith}
use native.Mathlib.Decide.{ℕ_discrete}
use lib.ListN.{length-set}
use lib.Dec.{eqb, leb, ltb}
use borrow.Author.Tests.{eq-eqb, eqb-true, leb-true, ltb-true}
use Rattle.placing.specs.Rules.{KeepsRules}
use Rattle.plan.specs.Rule.{applied}
use Rattle.plan.specs.Channel.{takes}
use Rattle.plan.specs.Plan.{rule_at, channel_at, node_count, entering}
use Rattle.plan.specs.Mask.{taking}
use Rattle.basics.specs.Bools.{both_true}
use Rattle.rules.specs.Lists.{keep, all_of, joined, greatest_of}
use Rattle.rules.specs.Line.{Message, Held, Target, up, replay, Node, Line, node_at, lane_at, with_node}
use Rattle.rules.specs.Recover.{high_of, row_goal, row_complete, rows_complete}
use Rattle.rules.specs.Replay.{fixed_at, floor_of, held_by_row, items_by_row, is_held, node_placed}
use Rattle.rules.specs.Plain.{Act, Receipt}
use Rattle.rules.proofs.Lists.Rising.{until, past}
use Rattle.rules.proofs.Lists.Members.{In, in_keep, keep_in, in_map, map_in, all_in, any_in, in_greatest, greatest_in, rises_once}
use Rattle.rules.proofs.Line.LineLaws.{node_there, node_else}
use Rattle.rules.proofs.Histories.Ghost.{Event, took_at, Ghost, entry_of, put}
use Rattle.rules.proofs.Histories.Passing.{goes_on, held_of}
use Rattle.rules.proofs.Ending.Kept.{taken_each, order_kept}
use Rattle.rules.proofs.Line.Joins.{in_entering, entering_in, in_taking, some_leaves}
use Rattle.rules.proofs.Ending.Targets.{high_above}
use Rattle.rules.proofs.Ending.Ends.{EndsAs, goes_on_lem, ends_at}
use Rattle.rules.proofs.Ending.PlacedEvents.{PlacedEvents, placed_events_lem}
use Rattle.rules.proofs.Invariant.Inv.{time_of, Enters, Leaves, Reached, target_from, Replays, Inv}
use Rattle.rules.proofs.Invariant.InvLaws.{took_enters, reached_goes, replay_marked}
use Rattle.rules.proofs.Invariant.MarkedLaws.{own, one_channel, taken-put, got_rises}
use Rattle.rules.proofs.Ending.RebuildEvents.{Rebuilding}
use Rattle.rules.proofs.Ending.RebuildInv.{rebuild_inv}

module _ (l : Line) (g : Ghost) (cut base : ℕ → ℕ) (fed : List Act) (receipts : List Receipt) (crashes : List ℕ) (inv : Inv l g cut base fed receipts crashes) (n : ℕ) (replaying : (node_at l n).status ≡ replay) where
  -- What is held of an entering channel.
  abbrev pub row_of : ℕ → List Message
  row_of b = keep (goes_on l.plan n) (past time_of (base b) (until time_of (lane_at l b).taken (put l.plan g b)))

  marked : (node_at l n).crashed ≡ true
  marked = replay_marked inv.marks n replaying

  R : Replays l g cut base n
  R = inv.replays n replaying

  pub held_rows : (b : ℕ) → In b (entering l.plan n) → keep (λ (h : Held). eqb h.sender (channel_at l.plan b).sender) (node_at l n).held ≡ map (held_of l.plan n b) (row_of b)
  held_rows b i = (R.rows b (entering_in l.plan n b i)).held

  -- A message of a row: it was put on the channel, goes on, and lies between the restored entry and the entry.
  pub row_parts : (b : ℕ) (m : Message) → In m (row_of b) → In m (put l.plan g b) × (goes_on l.plan n m ≡ true) × (base b < m.time) × (m.time ≤ (lane_at l b).taken)
  row_parts b m i =
      let (j, goes) = keep_in (goes_on l.plan n) (past time_of (base b) (until time_of (lane_at l b).taken (put l.plan g b))) i in
      let (k, above) = keep_in (λ (x : Message). ltb (base b) x.time) (until time_of (lane_at l b).taken (put l.plan g b)) j in
      let (on, upto) = keep_in (λ (x : Message). leb x.time (lane_at l b).taken) (put l.plan g b) k in
      (on, goes, ltb-true (base b) m.time above, leb-true m.time (lane_at l b).taken upto)

  -- A held record that is a target is fixed, at no less than the target's time.
  pub fixed_above : (b : ℕ) (m : Message) (t : ℕ) → In (target_from l.plan b m t) (node_at l n).targets → t ≤ fixed_at (node_at l n).targets (held_of l.plan n b m)
  fixed_above b m t i =
      let A = (channel_at l.plan b).sender in
      in_greatest (in_map (λ (u : Target). u.time) (in_keep (λ (u : Target). eqb u.parent A && eqb u.parent_time m.time) i (rw (eq-eqb A A refl, eq-eqb m.time m.time refl))))

  -- Complete, a row's entry has reached its goal.
  pub row_complete_lem : rows_complete l n ≡ true → (b : ℕ) → Enters l.plan n b → row_goal (node_at l n).targets (channel_at l.plan b).sender ≤ (lane_at l b).taken
  unfolding rows_complete row_complete
  row_complete_lem complete b h = leb-true (row_goal (node_at l n).targets (channel_at l.plan b).sender) (lane_at l b).taken (all_in (row_complete l n) complete (in_entering l.plan n b h.0 h.1))

  -- A held record that is a target was an event at the target's time.
  pub fixed_event : (b : ℕ) (m : Message) → Enters l.plan n b → In m (put l.plan g b) → fixed_at (node_at l n).targets (held_of l.plan n b m) ≢ 0 → In (took_at b m (fixed_at (node_at l n).targets (held_of l.plan n b m))) (g n)
  fixed_event b m h i d =
      let A = (channel_at l.plan b).sender in
      let ts = (node_at l n).targets in
      let f : Target → Bool = λ u. eqb u.parent A && eqb u.parent_time m.time in
      elim (greatest_in (map (λ (u : Target). u.time) (keep f ts))) [
        | inl z ↦ absurd (d z)
        | inr j ↦
            (let (u, k, e) = map_in (λ (u : Target). u.time) (keep f ts) j in
            let (on, q) = keep_in f ts k in
            let (p, s) = both_true (eqb u.parent A) (eqb u.parent_time m.time) q in
            let (c, x, t, y, is, _, _) = R.target_from_lem u on in
            let same : c ≡ b = one_channel inv n marked b c x t h y (ap (λ (z : Target). z.parent) (sym is) ∙ eqb-true u.parent A p) in
            let y' : In (took_at b x t) (g n) = subst (λ (z : ℕ). In (took_at z x t) (g n)) same y in
            let mine : x ≡ m = rises_once time_of (inv.channels b h.0).rises (taken-put inv n marked b x t h y') i (ap (λ (z : Target). z.parent_time) (sym is) ∙ eqb-true u.parent_time m.time s) in
            let at : t ≡ fixed_at ts (held_of l.plan n b m) = ap (λ (z : Target). z.time) (sym is) ∙ sym e in
            subst (λ (z : ℕ). In (took_at b m z) (g n)) at (subst (λ (z : Message). In (took_at b z t) (g n)) mine y'))
      ]

  module _ (columns : List ℕ) (keeps : KeepsRules (node_at l n).time (high_of l n) (items_by_row l n 0 (held_by_row (node_at l n).held l (entering l.plan n))) columns)
      (complete : rows_complete l n ≡ true) (all_held : all_of (is_held (node_at l n).held) (node_at l n).targets ≡ true) where
    found : (fs : List Event) × PlacedEvents l n row_of columns fs
    found = placed_events_lem l n row_of columns held_rows keeps

    abbrev fs : List Event
    fs = found.0

    P : PlacedEvents l n row_of columns fs
    P = found.1

    module _ (b : ℕ) (m : Message) (t : ℕ) where
      -- An event past low that has reached a child is a target, is held, and is placed at its time.
      reached_placed : In (took_at b m t) (g n) → (node_at l n).time < t → Reached l n m t → In (took_at b m t) fs
      reached_placed i late reached =
          let (on, into) = took_enters (g n) b m t (own inv n marked) i in
          let h : Enters l.plan n b = (on, into) in
          let A = (channel_at l.plan b).sender in
          let ts = (node_at l n).targets in
          let target = R.target_of b m t i late reached in
          let (held, j, q) = any_in (λ (x : Held). eqb x.sender A && eqb x.time m.time) (node_at l n).held (all_in (is_held (node_at l n).held) all_held target) in
          let (s, u) = both_true (eqb held.sender A) (eqb held.time m.time) q in
          let (x, k, e) = map_in (held_of l.plan n b) (row_of b) (subst (λ (z : List Held). In held z) (R.rows b h).held (in_keep (λ (z : Held). eqb z.sender A) j s)) in
          let put-m = taken-put inv n marked b m t h i in
          let mine : x ≡ m = rises_once time_of (inv.channels b on).rises (row_parts b x k).0 put-m (ap (λ (z : Held). z.time) (sym e) ∙ eqb-true held.time m.time u) in
          let (v, w) = P.placed b m (in_entering l.plan n b on into) (subst (λ (z : Message). In z (row_of b)) mine k) in
          let F = fixed_at ts (held_of l.plan n b m) in
          let among : t ≤ F = fixed_above b m t target in
          let nonzero : F ≢ 0 = λ z. omega arith in
          let goes = reached_goes reached in
          let not-later : F ≤ t = order_kept l.plan n (g n) (inv.events n).rise (got_rises inv n marked b h) (fixed_event b m h put-m nonzero) i goes goes (omega arith) in
          let at : v ≡ t = P.fixed b m v w nonzero ∙ omega arith in
          subst (λ (z : ℕ). In (took_at b m z) fs) at w

      -- What was placed not past the entry of a child that takes it was an event: a free record lies above that entry.
      placed_reached : In (took_at b m t) fs → (c : ℕ) → Leaves l.plan n c → takes (channel_at l.plan c) (applied (rule_at l.plan n) m.what) ≡ true → t ≤ (lane_at l c).taken → In (took_at b m t) (g n)
      unfolding floor_of
      placed_reached w c leaves fits late =
          let F = fixed_at (node_at l n).targets (held_of l.plan n b m) in
          let (b', m', t', e, i, j) = P.took (took_at b m t) w in
          let q : b' ≡ b = cc in
          let q' : m' ≡ m = cc in
          let h : Enters l.plan n b = subst (Enters l.plan n) q (entering_in l.plan n b' i) in
          let on : In m (row_of b) = subst (λ (z : ℕ). In m (row_of z)) q (subst (λ (z : Message). In z (row_of b')) q' j) in
          elim (ℕ_discrete F 0) [
            | yes z ↦
                (let above = P.free b m t w z in
                let floor : (lane_at l c).taken ≤ greatest_of (map (λ (x : ℕ). (lane_at l x).taken) (taking l.plan n (applied (rule_at l.plan n) m.what))) =
                in_greatest (in_map (λ (x : ℕ). (lane_at l x).taken) (in_taking l.plan n (applied (rule_at l.plan n) m.what) c leaves.0 leaves.1 fits)) in
                let no : ⊥ = omega arith in absurd no)
            | no d ↦ subst (λ (z : ℕ). In (took_at b m z) (g n)) (sym (P.fixed b m t w d)) (fixed_event b m h (row_parts b m on).0 d)
          ]

    rebuilding : Rebuilding l g base n (high_of l n) fs
    rebuilding =
        let (c, out) = some_leaves l.plan n (inv.marks.between n marked).1 in
        record {
          took = taken_each l.plan n fs λ e i.
              (let (b, m, t, q, j, _) = P.took e i in
              let (on, into) = entering_in l.plan n b j in
              (b, m, t, q, on, into, omega (arith, into, inv.ordered.forward b on)));
          rises = P.rises;
          within = P.within;
          got_is = λ b h. P.got_is b (in_entering l.plan n b h.0 h.1);
          complete = row_complete_lem complete;
          low = omega (arith, R.low c out, high_above l n c out.0 out.1);
          high = λ d o. high_above l n d o.0 o.1;
          reached_placed = reached_placed;
          placed_reached = placed_reached;
        }

    abbrev placed : Node
    placed = node_placed l n (joined (held_by_row (node_at l n).held l (entering l.plan n))) columns

    node_now : n < node_count l.plan → node_at (with_node n placed l) n ≡ record { status = up; crashed = true; time = high_of l n; log = map (entry_of l.plan n) fs; held = []; targets = []; asked = none }
    unfolding node_placed
    node_now inside = node_there n placed l (rw inv.shape.nodes_long inside) ∙ (λ i. record { status = up; crashed = marked i; time = high_of l n; log = P.log_is i; held = []; targets = []; asked = none })

    pub end_inv : n < node_count l.plan → (g' : Ghost) × (cut' : ℕ → ℕ) × Inv (with_node n (node_placed l n (joined (held_by_row (node_at l n).held l (entering l.plan n))) columns) l) g' cut' base fed receipts crashes
    unfolding with_node
    end_inv inside = (_, _, rebuild_inv l g cut base fed receipts crashes inv n inside replaying (high_of l n) fs rebuilding l.steps (with_node n placed l).nodes (length-set l.nodes n placed) (node_now inside) (node_else n placed l))

-- What a replay's end leads to, as far as this proof goes.
abbrev pub Goes : Line → (ℕ → ℕ) → List Act → List Receipt → List ℕ → Type 0
Goes k base fed receipts crashes = (g : Ghost) × (cut : ℕ → ℕ) × Inv k g cut base fed receipts crashes

module _ (l : Line) (g : Ghost) (cut base : ℕ → ℕ) (fed : List Act) (receipts : List Receipt) (crashes : List ℕ) (inv : Inv l g cut base fed receipts crashes) (n : ℕ) (replaying : (node_at l n).status ≡ replay) (inside : n < node_count l.plan) where
  -- "When all rows are complete, in that same step": ended, or as it was.
  pub ended_inv : {k : Line} → EndsAs n l k → Goes k base fed receipts crashes
  ended_inv (goes_on_lem c) = (g, cut, inv)
  ended_inv (ends_at c h columns keeps few) = end_inv l g cut base fed receipts crashes inv n replaying columns keeps c h inside
