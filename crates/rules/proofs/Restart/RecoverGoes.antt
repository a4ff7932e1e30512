-- Recover of a down node goes through: its targets are few and do not conflict, and with targets its rows are not all complete at once.
use Prim.Native.Nat.{ℕ, ◌<◌, ◌≤◌}
use mathlib.Core.Path.{◌≡◌, refl, sym, ap, subst, ◌∙◌}
use mathlib.Core.Bool.{Bool, true, false}
use mathlib.Core.List.{List, [], ◌∷◌}
use mathlib.Core.Option.{Option, none, some}
use native.Mathlib.Omega.{arith}
use lib.ListN.{length}
use lib.Dec.{ltb}
use borrow.Author.Tests.{lt-ltb, ltb-true}
use Rattle.plan.specs.Plan.{node_count}
use Rattle.rules.specs.Lists.{keep, is_empty}
use Rattle.rules.specs.Line.{target_limit, Message, Target, down, replay, Line, node_at}
use Rattle.rules.specs.Recover.{low_of, child_triples, targets_of, conflict, rows_complete, recovered, status_of}
use Rattle.rules.specs.Replay.{ended_if_complete}
use Rattle.rules.specs.Step.{recovered_line}
use Rattle.rules.specs.Plain.{Act, Receipt}
use Rattle.rules.proofs.Lists.Rising.{Rises, none, rises_past}
use Rattle.rules.proofs.Lists.Members.{In, here, in_keep, keep_in, in_none}
use Rattle.rules.proofs.Lists.Counts.{rises_fewer}
use Rattle.rules.proofs.Histories.Ghost.{took_at, Ghost, sent_of}
use Rattle.rules.proofs.Invariant.Inv.{time_of, Enters, Reached, target_from, Inv}
use Rattle.rules.proofs.Invariant.InvLaws.{past_base, took_enters, up_not_down, marked_unless_up, reached_goes}
use Rattle.rules.proofs.Invariant.MarkedLaws.{own, one_channel, got_rises}
use Rattle.rules.proofs.Ending.Kept.{in_passing, order_kept}
use Rattle.rules.proofs.Ending.Targets.{targets_from}
use Rattle.rules.proofs.Ending.Children.{triples_from}
use Rattle.rules.proofs.Ending.EndInv.{row_complete_lem}
use Rattle.rules.proofs.Ending.RecoverInv.{room_low, base_after, base_now, child, took_own, restored_as, whole_is, now_replays, targets_now, taken_enters, restored_inv}
use Rattle.rules.proofs.Restart.OldTimes.{one_input}
use Rattle.rules.proofs.Restart.ReplayEnds.{goal_above}
use Rattle.rules.proofs.Restart.TargetsRise.{target_time, sort_rises, no_conflict}

module _ (l : Line) (g : Ghost) (cut base : ℕ → ℕ) (fed : List Act) (receipts : List Receipt) (crashes : List ℕ) (inv : Inv l g cut base fed receipts crashes) (n : ℕ) (inside : n < node_count l.plan) (is_down_lem : (node_at l n).status ≡ down) where
  marked : (node_at l n).crashed ≡ true
  marked = marked_unless_up inv.marks n (λ e. up_not_down (sym e ∙ is_down_lem))

  -- The event behind a triple.
  event : (u : Target) → In u (child_triples l n) → (b : ℕ) × (m : Message) × (t : ℕ) × In (took_at b m t) (g n) × (u ≡ target_from l.plan b m t) × Reached l n m t
  event = triples_from l g n inv.ordered (took_own l g cut base fed receipts crashes inv n inside is_down_lem) (child l g cut base fed receipts crashes inv n inside is_down_lem)

  one_time : (t u : Target) → In t (child_triples l n) → In u (child_triples l n) → t.time ≡ u.time → t ≡ u
  one_time t u i j q =
      let (b, m, v, on, is, reached) = event t i in
      let (c, k, w, on', is', reached') = event u j in
      let same : v ≡ w = ap (λ (x : Target). x.time) (sym is) ∙ q ∙ ap (λ (x : Target). x.time) is' in
      let (parent, time) = one_input inv n on on' (reached_goes reached) (reached_goes reached') same in
      is ∙ (λ z. record { time = same z; parent = parent z; parent_time = time z }) ∙ sym is'

  one_parent : (t u : Target) → In t (child_triples l n) → In u (child_triples l n) → t.parent ≡ u.parent → t.parent_time ≡ u.parent_time → t.time ≡ u.time
  one_parent t u i j p q =
      let (b, m, v, on, is, reached) = event t i in
      let (c, k, w, on', is', reached') = event u j in
      let h : Enters l.plan n c = took_enters (g n) c k w (own inv n marked) on' in
      let same : b ≡ c = one_channel inv n marked c b m v h on (ap (λ (x : Target). x.parent) (sym is) ∙ p ∙ ap (λ (x : Target). x.parent) is') in
      let on'' : In (took_at c m v) (g n) = subst (λ (x : ℕ). In (took_at x m v) (g n)) same on in
      let times : m.time ≡ k.time = ap (λ (x : Target). x.parent_time) (sym is) ∙ q ∙ ap (λ (x : Target). x.parent_time) is' in
      let rise = (inv.events n).rise in
      let got = got_rises inv n marked c h in
      let one = order_kept l.plan n (g n) rise got on'' on' (reached_goes reached) (reached_goes reached') (omega arith) in
      let two = order_kept l.plan n (g n) rise got on' on'' (reached_goes reached') (reached_goes reached) (omega arith) in
      let at : v ≡ w = omega arith in
      ap (λ (x : Target). x.time) is ∙ at ∙ ap (λ (x : Target). x.time) (sym is')

  targets_rise : Rises target_time (low_of l n) (targets_of l n)
  unfolding targets_of
  targets_rise =
      let late : Target → Bool = λ t. ltb (low_of l n) t.time in
      sort_rises (λ (u : Target). In u (child_triples l n)) one_time (keep (λ (t : Target). ltb (low_of l n) t.time) (child_triples l n))
      (λ t i. (let (j, e) = keep_in late (child_triples l n) i in (ltb-true (low_of l n) t.time e, j))) (λ u i. absurd (in_none i)) none

  pub targets_agree : conflict (targets_of l n) ≡ false
  targets_agree = no_conflict targets_rise (λ t u i j. one_parent t u (targets_from l n t i).0 (targets_from l n u j).0)

  -- Each target was passed on past low, and there was room for what was.
  pub targets_few : length (targets_of l n) ≤ target_limit
  targets_few =
      omega (
        arith,
        room_low l g cut base fed receipts crashes inv n inside is_down_lem,
        rises_fewer target_time time_of targets_rise (rises_past time_of (low_of l n) (inv.events n).rise) (λ u i.
            (let (j, late) = targets_from l n u i in
            let (b, m, t, on, is, reached) = event u j in
            let time = ap (λ (x : Target). x.time) is in
            (sent_of l.plan n (took_at b m t), in_keep (λ (x : Message). ltb (low_of l n) x.time) (in_passing l.plan n on (reached_goes reached)) (lt-ltb (low_of l n) t (omega (arith, late, time))), time))),
      )

  -- With a target, its row is not complete at once: it came past low, so its input past the restored entry.
  module _ (u : Target) (rest : List Target) (some-target : targets_of l n ≡ u ∷ rest) where
    abbrev r : Line
    r = restored_as l g cut base fed receipts crashes inv n inside is_down_lem replay

    now_inv : Inv r g cut (base_after l g cut base fed receipts crashes inv n inside is_down_lem) fed receipts crashes
    now_inv = restored_inv l g cut base fed receipts crashes inv n inside is_down_lem

    again : (node_at r n).status ≡ replay
    again = now_replays l g cut base fed receipts crashes inv n inside is_down_lem

    open_row : rows_complete r n ≡ false
    open_row = go (rows_complete r n) refl
      where
        never : rows_complete r n ≡ true → ⊥
        never e =
            let B = base_after l g cut base fed receipts crashes inv n inside is_down_lem in
            let i : In u (node_at r n).targets = subst (λ (x : List Target). In u x) (sym (targets_now l g cut base fed receipts crashes inv n inside is_down_lem ∙ some-target)) here in
            let (b, m, t, on, is, late, reached) = (now_inv.replays n again).target_from_lem u i in
            let h : Enters l.plan n b = took_enters (g n) b m t (own inv n marked) on in
            let above = past_base (now_inv.replays n again) on (reached_goes reached) late in
            let goal = goal_above r g cut B fed receipts crashes now_inv n again b m t (subst (λ (x : Target). In x (node_at r n).targets) is i) in
            let taken = taken_enters l g cut base fed receipts crashes inv n inside is_down_lem b h in
            let entry = base_now l g cut base fed receipts crashes inv n inside is_down_lem b h.1 in
            omega (arith, above, goal, taken, entry, row_complete_lem r g cut B fed receipts crashes now_inv n again e b h)

        go : (t : Bool) → rows_complete r n ≡ t → t ≡ false
        go false e = refl
        go true e = absurd (never e)

    replays_now : recovered n l ≡ r
    replays_now = whole_is l g cut base fed receipts crashes inv n inside is_down_lem ∙ ap (λ (x : List Target). restored_as l g cut base fed receipts crashes inv n inside is_down_lem (status_of x)) some-target

    recovers_open : ended_if_complete n (recovered n l) ≡ some (recovered n l)
    unfolding ended_if_complete
    recovers_open = rw (ap (λ (k : Line). rows_complete k n) replays_now ∙ open_row, ended_if_complete)

  pub recovers : recovered_line n l ≡ some (recovered n l)
  unfolding recovered_line
  recovers = rw (targets_agree, recovered_line) (go (targets_of l n) refl)
    where
      go : (ts : List Target) → targets_of l n ≡ ts → ◌≡◌ {A = Option Line} (elim (is_empty ts) [ true ↦ some (recovered n l) | false ↦ ended_if_complete n (recovered n l) ]) (some (recovered n l))
      go [] q = refl
      go (u ∷ us) q = recovers_open u us q
