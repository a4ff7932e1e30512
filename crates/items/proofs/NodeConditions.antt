-- The conditions of Damaged on a node, one by one over its lists.
use Prim.Native.Nat.{ℕ}
use mathlib.Core.Path.{◌≡◌, sym, ap, ◌∙◌}
use mathlib.Core.Bool.{Bool, true, false, not, ◌&&◌, ◌||◌}
use mathlib.Core.List.{List, [], ◌∷◌, ◌++◌, map}
use lib.ListN.{length}
use lib.Dec.{leb, ltb, eqb}
use borrow.Author.Tests.{leb-true, le-ltb, not-false}
use Rattle.basics.specs.Bools.{neither_true}
use Rattle.plan.specs.Plan.{entering}
use Rattle.rules.specs.Lists.{all_of, any_of, joined}
use Rattle.rules.specs.Line.{log_limit, held_limit, target_limit, Entry, Held, Target, Node, Line, node_at, accepted_steps}
use Rattle.rules.specs.Replay.{passed_on}
use Rattle.rules.specs.Damaged.{worked_on, record_past_limits, node_past_limits, is_parent, not_parent, before_not_parent, node_wrong_parent, origin_times, node_named_times, node_other_times, node_time_past, node_time_zero, origin_wrong, before_wrong, node_maker_wrong, log_rises, log_wrong, set_wrong, past_lane, past_clock, held_wrong, held_not_passed, mark_missing, mark_on_end, replay_wrong, answer_wrong, node_holds, node_damaged}
use Rattle.items.specs.Items.{set_right, counts_right}
use Rattle.items.proofs.Tests.{not_above, all_true, all_false, false_all, any_append, any_map, any_joined}

-- On a record worked on, on the times that an input names, and on those of a target.
abbrev pub past_limits : Entry → Bool
past_limits e = record_past_limits e.what

abbrev pub input_times : (ℕ → Bool) → Entry → Bool
input_times f e = any_of f (origin_times e.origin ++ origin_times e.before)

abbrev pub target_times : (ℕ → Bool) → Target → Bool
target_times f t = any_of f (t.time ∷ t.parent_time ∷ [])

module _ (l : Line) (n : ℕ) where
  abbrev x : Node
  x = node_at l n

  -- On what an input was made from, on who made it, and on the node's clock.
  abbrev pub wrong_input : Entry → Bool
  wrong_input e = not_parent l.plan n e.origin || before_not_parent l.plan e.origin e.before

  abbrev pub wrong_maker : Entry → Bool
  wrong_maker e = origin_wrong l.plan n e.origin || before_wrong l.plan e.origin e.before

  abbrev pub past_entry : Entry → Bool
  past_entry e = any_of (λ (b : ℕ). past_lane l b e.origin e.before) (entering l.plan n)

  abbrev pub wrong_target : Target → Bool
  wrong_target t = not (is_parent l.plan n t.parent)

  abbrev pub not_passed : Held → Bool
  not_passed h = not (passed_on l.plan n h.what)

  abbrev pub wrong_set : Entry → Bool
  wrong_set e = not (set_right l.plan n e)

  -- None of them applies.
  pub record Clear : Type 0 where
    pub counts : counts_right x ≡ true
    pub records : any_of past_limits (worked_on x) ≡ false
    pub inputs : any_of wrong_input (worked_on x) ≡ false
    pub parents : any_of wrong_target x.targets ≡ false
    pub log_past : any_of (λ (e : Entry). ltb (accepted_steps l) e.time) x.log ≡ false
    pub inputs_past : any_of (input_times (ltb (accepted_steps l))) (worked_on x) ≡ false
    pub time_past : ltb (accepted_steps l) x.time ≡ false
    pub targets_past : any_of (target_times (ltb (accepted_steps l))) x.targets ≡ false
    pub inputs_nought : any_of (input_times (eqb 0)) (worked_on x) ≡ false
    pub makers : any_of wrong_maker (worked_on x) ≡ false
    pub log_rises_lem : (log_rises l.plan n 0 x.log && all_of (λ (t : ℕ). leb t x.time) (map (λ (e : Entry). e.time) x.log)) ≡ true
    pub sets : any_of wrong_set x.log ≡ false
    pub clock : any_of past_entry (worked_on x) ≡ false
    pub rows : held_wrong l n ≡ false
    pub passed : any_of not_passed x.held ≡ false
    pub missing : mark_missing x ≡ false
    pub on_end : mark_on_end l.plan n x ≡ false
    pub again : replay_wrong l n ≡ false
    pub kept : answer_wrong l n ≡ false
    pub holds : node_holds x ≡ false

-- The conditions with several parts.
module _ (x : Node) where
  limits_clear : node_past_limits x ≡ false → (counts_right x ≡ true) × (any_of past_limits (worked_on x) ≡ false)
  unfolding node_past_limits counts_right
  limits_clear e =
      let (log, (held, (targets, records))) = all_false (ltb log_limit (length x.log)) (ltb held_limit (length x.held) ∷ ltb target_limit (length x.targets) ∷ any_of past_limits (worked_on x) ∷ []) e in
      (rw (not_above (length x.log) log_limit, log, not_above (length x.held) held_limit, held, not_above (length x.targets) target_limit, targets), records)

  clear_limits : counts_right x ≡ true → any_of past_limits (worked_on x) ≡ false → node_past_limits x ≡ false
  unfolding node_past_limits counts_right
  clear_limits counts records =
      let (log, (held, targets)) = all_true (leb (length x.log) log_limit) (leb (length x.held) held_limit ∷ leb (length x.targets) target_limit ∷ []) counts in
      rw (
        le-ltb log_limit (length x.log) (leb-true (length x.log) log_limit log),
        le-ltb held_limit (length x.held) (leb-true (length x.held) held_limit held),
        le-ltb target_limit (length x.targets) (leb-true (length x.targets) target_limit targets),
        records,
      )

  zero_is : node_time_zero x ≡ any_of (input_times (eqb 0)) (worked_on x)
  unfolding node_time_zero
  zero_is = any_joined (eqb 0) (λ (e : Entry). origin_times e.origin ++ origin_times e.before) (worked_on x)

  other_times : (f : ℕ → Bool) → any_of f (node_other_times x) ≡ (f x.time || (any_of (λ (e : Entry). f e.time) x.log || any_of (target_times f) x.targets))
  other_times f =
      ap (λ (t : Bool). f x.time || t)
      (any_append f (map (λ (e : Entry). e.time) x.log) (joined (map (λ (t : Target). t.time ∷ t.parent_time ∷ []) x.targets))
      ∙ rw (any_map f (λ (e : Entry). e.time) x.log, any_joined f (λ (t : Target). t.time ∷ t.parent_time ∷ []) x.targets))

  past_is : (steps : ℕ) → node_time_past steps x ≡ (any_of (input_times (ltb steps)) (worked_on x) || (ltb steps x.time || (any_of (λ (e : Entry). ltb steps e.time) x.log || any_of (target_times (ltb steps)) x.targets)))
  unfolding node_time_past
  past_is steps =
      any_append (ltb steps) (node_named_times x) (node_other_times x)
      ∙ rw (any_joined (ltb steps) (λ (e : Entry). origin_times e.origin ++ origin_times e.before) (worked_on x), other_times (ltb steps))

module _ (l : Line) (n : ℕ) where
  abbrev others : List Bool
  others =
      node_wrong_parent l.plan n (x l n) ∷ node_time_past (accepted_steps l) (x l n) ∷ node_time_zero (x l n) ∷ node_maker_wrong l.plan n (x l n) ∷ log_wrong l.plan n (x l n) ∷ set_wrong l.plan n (x l n) ∷ past_clock l n
      ∷ held_wrong l n ∷ held_not_passed l.plan n (x l n) ∷ mark_missing (x l n) ∷ mark_on_end l.plan n (x l n) ∷ replay_wrong l n ∷ answer_wrong l n ∷ node_holds (x l n) ∷ []

  pub node_clear : node_damaged l n ≡ false → Clear l n
  unfolding node_damaged node_wrong_parent node_maker_wrong log_wrong set_wrong past_clock held_not_passed
  node_clear e =
      let y : Node = node_at l n in
      let (limits, (parents, (past, (nought, (makers, (log, (sets, (clock, (rows, (passed, (missing, (on_end, (again, (kept, holds)))))))))))))) = all_false (node_past_limits y) others e in
      let (counts, records) = limits_clear y limits in
      let (inputs, targets) = neither_true (any_of (wrong_input l n) (worked_on y)) (any_of (wrong_target l n) y.targets) parents in
      let log-beyond = any_of (λ (e : Entry). ltb (accepted_steps l) e.time) y.log in
      let targets-beyond = any_of (target_times (ltb (accepted_steps l))) y.targets in
      let (inputs_past, others-past) = neither_true (any_of (input_times (ltb (accepted_steps l))) (worked_on y)) (ltb (accepted_steps l) y.time || (log-beyond || targets-beyond)) (sym (past_is y (accepted_steps l)) ∙ past) in
      let (time_past, lists-past) = neither_true (ltb (accepted_steps l) y.time) (log-beyond || targets-beyond) others-past in
      let (log_past, targets_past) = neither_true log-beyond targets-beyond lists-past in
      record {
        counts = counts;
        records = records;
        inputs = inputs;
        parents = targets;
        log_past = log_past;
        inputs_past = inputs_past;
        time_past = time_past;
        targets_past = targets_past;
        inputs_nought = sym (zero_is y) ∙ nought;
        makers = makers;
        log_rises_lem = not-false _ log;
        sets = sets;
        clock = clock;
        rows = rows;
        passed = passed;
        missing = missing;
        on_end = on_end;
        again = again;
        kept = kept;
        holds = holds;
      }

  pub clear_node : Clear l n → node_damaged l n ≡ false
  unfolding node_damaged node_wrong_parent node_maker_wrong log_wrong set_wrong past_clock held_not_passed
  clear_node c =
      let y : Node = node_at l n in
      let limits = clear_limits y c.counts c.records in
      let parents : node_wrong_parent l.plan n y ≡ false = rw (c.inputs, c.parents) in
      let past : node_time_past (accepted_steps l) y ≡ false = past_is y (accepted_steps l) ∙ rw (c.inputs_past, c.time_past, c.log_past, c.targets_past) in
      let nought : node_time_zero y ≡ false = zero_is y ∙ c.inputs_nought in
      let log : log_wrong l.plan n y ≡ false = ap not c.log_rises_lem in
      false_all (node_past_limits y) others (limits, (parents, (past, (nought, (c.makers, (log, (c.sets, (c.clock, (c.rows, (c.passed, (c.missing, (c.on_end, (c.again, (c.kept, c.holds))))))))))))))
