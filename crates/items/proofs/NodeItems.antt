-- A node is damaged exactly if it is not right item by item.
use Prim.Native.Nat.{ℕ, ◌<◌}
use mathlib.Core.Path.{◌≡◌, refl, sym, ap, subst, ◌∙◌}
use mathlib.Core.Logic.{inl, inr}
use mathlib.Core.Bool.{Bool, true, false, not, ◌&&◌, ◌||◌}
use mathlib.Core.List.{[], ◌∷◌, map}
use native.Mathlib.Omega.{arith}
use lib.Dec.{leb, ltb, eqb}
use borrow.Author.Tests.{leb-true, le-ltb, not-false}
use Rattle.basics.specs.Bools.{both_true, neither_true}
use Rattle.plan.specs.Plan.{node_count, entering}
use Rattle.rules.specs.Lists.{all_of, any_of}
use Rattle.rules.specs.Line.{made, Entry, Held, Target, Node, Line, node_at, accepted_steps}
use Rattle.rules.specs.Replay.{held_entry, passed_on}
use Rattle.rules.specs.Step.{replaying}
use Rattle.rules.specs.Damaged.{worked_on, record_past_limits, is_parent, not_parent, mark_missing, mark_on_end, replay_wrong, node_holds, node_damaged}
use Rattle.rules.proofs.Lists.Members.{In, in_left, in_right, in_map, map_in, append_in, none_any, all_in}
use Rattle.items.specs.Items.{if_found, from_sender, record_right, origin_right, is_inner, log_rise, entry_right, held_right, held_rise, none_held, target_right, counts_right, set_right, entries_right, log_right, held_all_right, status_right, replay_right, node_plain, kept_right, restart_right, node_right}
use Rattle.items.proofs.Tests.{opposite, not_above, all_true, all_false, each_all, each_none}
use Rattle.items.proofs.Rises.{log_same, log_within}
use Rattle.items.proofs.NodeConditions.{past_limits, input_times, target_times, wrong_input, wrong_maker, past_entry, wrong_target, not_passed, wrong_set, Clear, node_clear, clear_node}
use Rattle.items.proofs.Origins.{Formed, Clean, parent_found, clean_right, right_clean}
use Rattle.items.proofs.HeldRows.{held_opposite}
use Rattle.items.proofs.ReplayItems.{replay_items, answer_items}

-- ---- what a node has worked on, and its targets

pub record Worked (l : Line) (n : ℕ) (e : Entry) : Type 0 where
  pub fits : record_past_limits e.what ≡ false
  pub clean : Clean l n e.origin e.before

module _ (l : Line) (line : Formed l) (n : ℕ) where
  worked_entry : (e : Entry) → Worked l n e → entry_right l n e ≡ true
  unfolding entry_right
  worked_entry e w = rw (not-false (record_right e.what) w.fits, clean_right l line n e.origin e.before w.clean)

  entry_worked : (e : Entry) → entry_right l n e ≡ true → Worked l n e
  unfolding entry_right
  entry_worked e r =
      let (fits, origin) = both_true (record_right e.what) (origin_right l n e.origin e.before) r in
      record { fits = ap not fits; clean = right_clean l line n e.origin e.before origin }

  worked_held : (h : Held) → Worked l n (held_entry h) → passed_on l.plan n h.what ≡ true → held_right l n h ≡ true
  unfolding held_right
  worked_held h w passed = rw (not-false (record_right h.what) w.fits, clean_right l line n (made h.sender h.time) h.before w.clean, passed)

  held_worked : (h : Held) → held_right l n h ≡ true → Worked l n (held_entry h) × (passed_on l.plan n h.what ≡ true)
  unfolding held_right
  held_worked h r =
      let (fits, (origin, passed)) = all_true (record_right h.what) (origin_right l n (made h.sender h.time) h.before ∷ passed_on l.plan n h.what ∷ []) r in
      (record { fits = ap not fits; clean = right_clean l line n (made h.sender h.time) h.before origin }, passed)

  -- A target's conditions.
  target_right_lem : (t : Target) → not (is_parent l.plan n t.parent) ≡ false → any_of (ltb (accepted_steps l)) (t.time ∷ t.parent_time ∷ []) ≡ false → target_right l n t ≡ true
  unfolding target_right
  target_right_lem t parent past =
      let (own, rest) = neither_true (ltb (accepted_steps l) t.time) (ltb (accepted_steps l) t.parent_time || false) past in
      let (theirs, _) = neither_true (ltb (accepted_steps l) t.parent_time) false rest in
      rw (not_above t.time (accepted_steps l), own, not_above t.parent_time (accepted_steps l), theirs) (sym (parent_found l.plan n t.parent) ∙ not-false (is_parent l.plan n t.parent) parent)

  right_target : (t : Target) → target_right l n t ≡ true → (not (is_parent l.plan n t.parent) ≡ false) × (any_of (ltb (accepted_steps l)) (t.time ∷ t.parent_time ∷ []) ≡ false)
  unfolding target_right
  right_target t r =
      let (own, (theirs, parent)) = all_true (leb t.time (accepted_steps l)) (leb t.parent_time (accepted_steps l) ∷ if_found (from_sender l.plan t.parent (entering l.plan n)) (λ (b : ℕ). true) ∷ []) r in
      (ap not (parent_found l.plan n t.parent ∙ parent), rw (le-ltb (accepted_steps l) t.time (leb-true t.time (accepted_steps l) own), le-ltb (accepted_steps l) t.parent_time (leb-true t.parent_time (accepted_steps l) theirs)))

-- ---- the node: between its conditions and its items

module _ (l : Line) (line : Formed l) (n : ℕ) (inside : n < node_count l.plan) where
  abbrev x : Node
  x = node_at l n

  record Sound : Type 0 where
    counts : counts_right x ≡ true
    time : leb x.time (accepted_steps l) ≡ true
    worked : (e : Entry) → In e (worked_on x) → Worked l n e
    log_rises_lem : log_rise (is_inner l.plan n) 0 x.time x.log ≡ true
    sets : (e : Entry) → In e x.log → set_right l.plan n e ≡ true
    passed : (h : Held) → In h x.held → passed_on l.plan n h.what ≡ true
    held-rises : held_rise none_held x.held ≡ true
    targets : (t : Target) → In t x.targets → target_right l n t ≡ true
    status : status_right l.plan n x ≡ true
    replays : (not (replaying l n) || replay_right l n) ≡ true
    kept : kept_right l n x.asked ≡ true

  held-among : (h : Held) → In h x.held → In (held_entry h) (worked_on x)
  held-among h i = in_right x.log (in_map held_entry i)

  sound_right : Sound → node_right l n ≡ true
  unfolding node_right log_right entries_right held_all_right
  sound_right s =
      rw (
        s.counts,
        s.time,
        each_all (entry_right l n) x.log (λ e i. worked_entry l line n e (s.worked e (in_left (map held_entry x.held) i))),
        s.log_rises_lem,
        each_all (set_right l.plan n) x.log s.sets,
        each_all (held_right l n) x.held (λ h i. worked_held l line n h (s.worked (held_entry h) (held-among h i)) (s.passed h i)),
        s.held-rises,
        each_all (target_right l n) x.targets s.targets,
        s.status,
        s.replays,
        s.kept,
      )

  right_sound : node_right l n ≡ true → Sound
  unfolding node_right log_right entries_right held_all_right
  right_sound e =
      let (plain, restart) = both_true (node_plain l n) (restart_right l n) e in
      let (replays, kept) = both_true (not (replaying l n) || replay_right l n) (kept_right l n x.asked) restart in
      let (counts, (time, (log, (held, (targets, status))))) =
      all_true (counts_right x) (leb x.time (accepted_steps l) ∷ log_right l n x.log ∷ held_all_right l n x.held ∷ all_of (target_right l n) x.targets ∷ status_right l.plan n x ∷ []) plain in
      let (entries, (log_rises_lem, sets)) = all_true (all_of (entry_right l n) x.log) (log_rise (is_inner l.plan n) 0 x.time x.log ∷ all_of (set_right l.plan n) x.log ∷ []) log in
      let (helds, held-rises) = both_true (all_of (held_right l n) x.held) (held_rise none_held x.held) held in
      record {
        counts = counts;
        time = time;
        worked = λ e i. elim (append_in x.log i) [
          | inl j ↦ entry_worked l line n e (all_in (entry_right l n) entries j)
          | inr j ↦ (let (h, k, is) = map_in held_entry x.held j in subst (Worked l n) (sym is) (held_worked l line n h (all_in (held_right l n) helds k)).0)
        ];
        log_rises_lem = log_rises_lem;
        sets = λ e i. all_in (set_right l.plan n) sets i;
        passed = λ h i. (held_worked l line n h (all_in (held_right l n) helds i)).1;
        held-rises = held-rises;
        targets = λ t i. all_in (target_right l n) targets i;
        status = status;
        replays = replays;
        kept = kept;
      }

  -- The held records' senders are parents.
  held-parents : ((e : Entry) → In e (worked_on x) → Worked l n e) → (h : Held) → In h x.held → is_parent l.plan n h.sender ≡ true
  held-parents worked h i = not-false (is_parent l.plan n h.sender) (neither_true (not (is_parent l.plan n h.sender)) (not_parent l.plan h.sender h.before) (worked (held_entry h) (held-among h i)).clean.parents).0

  replays_by : (t : Bool) → replaying l n ≡ t → replay_wrong l n ≡ not (not t || replay_right l n)
  unfolding replay_wrong
  replays_by true e = replay_items l line n inside e
  replays_by false e = rw e

  replays_is : replay_wrong l n ≡ not (not (replaying l n) || replay_right l n)
  replays_is = replays_by (replaying l n) refl

  status_is : (mark_missing x || mark_on_end l.plan n x || node_holds x) ≡ not (status_right l.plan n x)
  unfolding status_right
  status_is = one (mark_missing x) (mark_on_end l.plan n x) (node_holds x)
    where
      one : (a b c : Bool) → (a || b || c) ≡ not (not a && not b && not c)
      one true b c = refl
      one false true c = refl
      one false false true = refl
      one false false false = refl

  clear_sound : Clear l n → Sound
  clear_sound c =
      let worked : (e : Entry) → In e (worked_on x) → Worked l n e = λ e i. record {
        fits = none_any past_limits c.records i;
        clean = record {
          parents = none_any (wrong_input l n) c.inputs i;
          past = none_any (input_times (ltb (accepted_steps l))) c.inputs_past i;
          nought = none_any (input_times (eqb 0)) c.inputs_nought i;
          makers = none_any (wrong_maker l n) c.makers i;
          clock = none_any (past_entry l n) c.clock i;
        };
      } in
      let sets : (e : Entry) → In e x.log → set_right l.plan n e ≡ true = λ e i. not-false (set_right l.plan n e) (none_any (wrong_set l n) c.sets i) in
      record {
        counts = c.counts;
        time = not_above x.time (accepted_steps l) ∙ ap not c.time_past;
        worked = worked;
        log_rises_lem = log_same l.plan n 0 x.time x.log sets ∙ c.log_rises_lem;
        sets = sets;
        passed = λ h i. not-false (passed_on l.plan n h.what) (none_any (not_passed l n) c.passed i);
        held-rises = not-false (held_rise none_held x.held) (sym (held_opposite l line n inside (held-parents worked)) ∙ c.rows);
        targets = λ t i. target_right_lem l line n t (none_any (wrong_target l n) c.parents i) (none_any (target_times (ltb (accepted_steps l))) c.targets_past i);
        status = not-false (status_right l.plan n x) (sym status_is ∙ rw (c.missing, c.on_end, c.holds));
        replays = not-false (not (replaying l n) || replay_right l n) (sym replays_is ∙ c.again);
        kept = not-false (kept_right l n x.asked) (sym (answer_items l line n inside) ∙ c.kept);
      }

  sound_clear : Sound → Clear l n
  sound_clear s =
      let own = leb-true x.time (accepted_steps l) s.time in
      let (missing, (on_end, holds)) = all_false (mark_missing x) (mark_on_end l.plan n x ∷ node_holds x ∷ []) (status_is ∙ ap not s.status) in
      record {
        counts = s.counts;
        records = each_none past_limits (worked_on x) (λ e i. (s.worked e i).fits);
        inputs = each_none (wrong_input l n) (worked_on x) (λ e i. (s.worked e i).clean.parents);
        parents = each_none (wrong_target l n) x.targets (λ t i. (right_target l line n t (s.targets t i)).0);
        log_past = each_none (λ (e : Entry). ltb (accepted_steps l) e.time) x.log (λ e i. le-ltb (accepted_steps l) e.time (omega (arith, log_within (is_inner l.plan n) 0 x.time s.log_rises_lem i)));
        inputs_past = each_none (input_times (ltb (accepted_steps l))) (worked_on x) (λ e i. (s.worked e i).clean.past);
        time_past = le-ltb (accepted_steps l) x.time own;
        targets_past = each_none (target_times (ltb (accepted_steps l))) x.targets (λ t i. (right_target l line n t (s.targets t i)).1);
        inputs_nought = each_none (input_times (eqb 0)) (worked_on x) (λ e i. (s.worked e i).clean.nought);
        makers = each_none (wrong_maker l n) (worked_on x) (λ e i. (s.worked e i).clean.makers);
        log_rises_lem = sym (log_same l.plan n 0 x.time x.log s.sets) ∙ s.log_rises_lem;
        sets = each_none (wrong_set l n) x.log (λ e i. ap not (s.sets e i));
        clock = each_none (past_entry l n) (worked_on x) (λ e i. (s.worked e i).clean.clock);
        rows = held_opposite l line n inside (held-parents s.worked) ∙ ap not s.held-rises;
        passed = each_none (not_passed l n) x.held (λ h i. ap not (s.passed h i));
        missing = missing;
        on_end = on_end;
        again = replays_is ∙ ap not s.replays;
        kept = answer_items l line n inside ∙ ap not s.kept;
        holds = holds;
      }

  pub node_items : node_damaged l n ≡ not (node_right l n)
  node_items = opposite (node_damaged l n) (node_right l n) (λ e. sound_right (clear_sound (node_clear l n e))) (λ e. clear_node l n (sound_clear (right_sound e)))
