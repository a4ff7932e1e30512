-- A line that is not damaged fits the layout.
use Prim.Native.Nat.{ℕ, suc, ◌+◌, ◌-◌, ◌^◌, ◌≤◌, ◌<◌}
use mathlib.Core.Path.{◌≡◌, refl, sym, ap, subst, ◌∙◌}
use mathlib.Core.Bool.{Bool, true, false, not, ◌&&◌, ◌||◌, true≢false}
use mathlib.Core.List.{List, [], ◌∷◌, ◌++◌, map}
use mathlib.Core.Option.{Option, none, some}
use native.Mathlib.Nat.{zero-add}
use native.Mathlib.Omega.{arith}
use borrow.Author.Tests.{ltb-true, ltb-false, eqb-true, not-false}
use lib.Dec.{lit<, lit≤, ltb, eqb}
use lib.ListN.{length, get_or, replicate, length-append, length-map, length-replicate, get_or-map}
use Rattle.basics.specs.Bools.{both_true, neither_true}
use Rattle.plan.specs.declared.Record.{Record}
use Rattle.plan.specs.declared.Channel.{Channel}
use Rattle.plan.specs.Lawful.{Each, FieldsFit, UpToFit}
use Rattle.plan.specs.Record.{known_record}
use Rattle.plan.proofs.TickLaws.{known_byte}
use Rattle.plan.specs.Plan.{Plan, node_count, channel_count, channel_at, entering, leaving, numbers_from, keep_if}
use Rattle.plan.specs.Mask.{set_of}
use Rattle.plan.specs.Check.{plan_fits}
use Rattle.plan.specs.Fits.{RecordFits}
use Rattle.plan.proofs.AcceptedLaws.{four_at}
use Rattle.plan.proofs.SetLaws.{set_small}
use Rattle.plan.proofs.FitsLaws.{fitting}
use Rattle.rules.specs.Lists.{any_of, joined, up_to}
use Rattle.rules.specs.Line.{log_limit, queue_limit, held_limit, target_limit, console_count, accepted_steps, Origin, fed, made, Message, Entry, Held, Target, Asked, Node, Lane, Line, node_at, lane_at, sender_of, parents, time_limit}
use Rattle.rules.specs.Recover.{low_of, high_of, restored, answer_of}
use Rattle.rules.specs.Replay.{held_entry}
use Rattle.rules.specs.Damaged.{some_node, some_channel, plan_broken, misshapen, steps_past, worked_on, record_past_limits, node_past_limits, channel_past_limits, is_parent, not_parent, before_not_parent, node_wrong_parent, channel_wrong_parent, origin_times, node_named_times, node_other_times, channel_named_times, channel_other_times, node_time_past, channel_time_past, node_time_zero, channel_time_zero, origin_wrong, before_wrong, node_maker_wrong, channel_maker_wrong, log_wrong, set_wrong, past_clock, held_wrong, held_not_passed, queue_wrong, mark_missing, mark_on_end, marks_joined, replay_wrong, answer_wrong, node_holds, channel_holds, low_past, low_wrong, node_damaged, channel_damaged, damaged}
use Rattle.rules.proofs.Steps.PlanOrder.{ordered_channels}
use Rattle.rules.proofs.Ending.Targets.{low_high}
use Rattle.rules.proofs.Undamaged.Standing.{Answers}
use Rattle.rules.proofs.Undamaged.EndSound.{high_within}
use Rattle.rules.proofs.Undamaged.RecoverSound.{restored-within}
use Rattle.rules.proofs.Undamaged.StepSound.{answered_whole}
use Rattle.state.specs.Node.{kept_list}
use Rattle.state.specs.Lane.{heard_count, heard_widths}
use Rattle.state.specs.Fits.{TimeFits, OriginFits, MessageFits, EntryFits, HeldFits, TargetFits, AskedFits, NodeFits, LaneFits, LineFits}
use Rattle.state.proofs.ListLaws.{each_map, each_imply, each_split, each_joined, each_unmap, each_both, each_append, each_replicate, found_each, none_each, none-numbered, each_known}
use Rattle.rules.proofs.Line.Consoles.{CountsFit, counts-most}
use Rattle.rules.proofs.Undamaged.Undamaged.{undamaged_sound}
use Rattle.state.specs.Sizes.{steps_widths}
use Rattle.state.proofs.BlockLaws.{four_words_fit}

-- ---- parents

numbers_within : {A : Type 0} (f : A → Bool) (k : ℕ) (xs : List A) → Each (λ (b : ℕ). b < k + length xs) (numbers_from k f xs)
numbers_within f k [] = tt
numbers_within f k (x ∷ xs) =
    one (f x) (each_imply (λ (b : ℕ). b < suc k + length xs) (λ (b : ℕ). b < k + suc (length xs)) (λ b h. omega arith) (numbers_from (suc k) f xs) (numbers_within f (suc k) xs))
  where
    one : (t : Bool) → Each (λ (b : ℕ). b < k + suc (length xs)) (numbers_from (suc k) f xs) → Each (λ (b : ℕ). b < k + suc (length xs)) (keep_if t k (numbers_from (suc k) f xs))
    one true h = (omega arith, h)
    one false h = h

module _ (p : Plan) (e : plan_fits p ≡ true) where
  -- Every parent is a node.
  parents_few : (n : ℕ) → Each (λ (q : ℕ). q < node_count p) (parents p n)
  unfolding parents entering
  parents_few n =
      let o = ordered_channels p (fitting p e).channels in
      each_map (λ (b : ℕ). b < 0 + channel_count p) (λ (q : ℕ). q < node_count p) (λ (b : ℕ). (channel_at p b).sender) (λ b h. omega (arith, o.forward b (omega arith), o.inside b (omega arith)))
      (entering p n) (numbers_within (λ (c : Channel). eqb c.receiver n) 0 p.channels)

  parent_few : (n s : ℕ) → is_parent p n s ≡ true → suc s < 256
  parent_few n s q =
      let few = (fitting p e).nodes_most in
      found_each (λ (r : ℕ). r < node_count p) (λ (r : ℕ). eqb r s) (suc s < 256) (λ r t h. omega (arith, eqb-true r s t)) (parents p n) q (parents_few n)

  -- ---- what something was made from

  module _ (steps : ℕ) (below : steps ≤ time_limit) where
    abbrev Within : ℕ → Type 0
    Within t = t ≤ steps

    time_fits : (t : ℕ) → Within t → TimeFits t
    time_fits t h = omega arith

    -- What is not past numbers within the steps is within them.
    low_each : (ks ts : List ℕ) → length ks ≡ length ts → low_past ks ts ≡ false → Each Within ts → Each Within ks
    low_each [] ts q e h = tt
    low_each (k ∷ ks) [] q e h = let no : ⊥ = omega arith in absurd no
    low_each (k ∷ ks) (t ∷ ts) q e h =
        let (a, b) = neither_true (ltb t k) (low_past ks ts) e in
        let c = ltb-false t k a in
        (omega (arith, h.0), low_each ks ts (omega arith) b h.1)

    origin_fits : (n : ℕ) (o : Origin) → not_parent p n o ≡ false → Each Within (origin_times o) → OriginFits o
    origin_fits n fed q h = (lit< tt, (lit< tt, tt))
    origin_fits n (made s t) q h = (parent_few n s (not-false (is_parent p n s) q), (time_fits t h.0, tt))

    before_fits : (o before : Origin) → before_not_parent p o before ≡ false → before_wrong p o before ≡ false → Each Within (origin_times before) → OriginFits before
    before_fits fed fed q r h = (lit< tt, (lit< tt, tt))
    before_fits fed (made s t) q r h = absurd (true≢false r)
    before_fits (made s t) before q r h = origin_fits s before q h

    record_fits : (r : Record) → record_past_limits r ≡ false → RecordFits r
    record_fits r q =
        let a = both_true (known_record r && ltb r.piece (2 ^ 32)) (ltb r.mass (2 ^ 16)) (not-false _ q) in
        let b = both_true (known_record r) (ltb r.piece (2 ^ 32)) a.0 in
        (ltb-true r.piece (2 ^ 32) b.1, (known_byte r b.0, (lit< tt, (ltb-true r.mass (2 ^ 16) a.1, tt))))

    times_within : (ts : List ℕ) → any_of (ltb steps) ts ≡ false → Each Within ts
    times_within ts q = each_imply (λ (t : ℕ). ltb steps t ≡ false) Within (λ t r. ltb-false steps t r) ts (none_each (ltb steps) ts q)

    -- ---- a node

    module _ (n : ℕ) (x : Node) where
      abbrev named : Entry → Bool
      named e = not_parent p n e.origin || before_not_parent p e.origin e.before

      abbrev maker : Entry → Bool
      maker e = origin_wrong p n e.origin || before_wrong p e.origin e.before

      abbrev times : Entry → List ℕ
      times e = origin_times e.origin ++ origin_times e.before

      abbrev wrong_set : Entry → Bool
      wrong_set e = not (eqb e.set (set_of p n e.what))

      -- An entry, its own time and its set aside.
      abbrev WorkFits : Entry → Type 0
      WorkFits e = RecordFits e.what × (OriginFits e.origin × OriginFits e.before)

      work_fits : any_of (λ (e : Entry). record_past_limits e.what) (worked_on x) ≡ false → any_of named (worked_on x) ≡ false → any_of maker (worked_on x) ≡ false
          → Each Within (joined (map times (worked_on x))) → Each WorkFits (worked_on x)
      work_fits a b c d =
          let es = worked_on x in
          let A : Entry → Type 0 = λ e. record_past_limits e.what ≡ false in
          let B : Entry → Type 0 = λ e. named e ≡ false in
          let C : Entry → Type 0 = λ e. maker e ≡ false in
          let D : Entry → Type 0 = λ e. Each Within (times e) in
          let names = each_both B C (λ e. B e × C e) (λ e r q. (r, q)) es (none_each named es b) (none_each maker es c) in
          let rest = each_both A D (λ e. A e × D e) (λ e r q. (r, q)) es (none_each (λ (e : Entry). record_past_limits e.what) es a) (each_joined Within times es d) in
          each_both (λ e. B e × C e) (λ e. A e × D e) WorkFits
          (λ e s t.
          let u = neither_true (not_parent p n e.origin) (before_not_parent p e.origin e.before) s.0 in
          let v = neither_true (origin_wrong p n e.origin) (before_wrong p e.origin e.before) s.1 in
          let w = each_split Within (origin_times e.origin) (origin_times e.before) t.1 in
          (record_fits e.what t.0, (origin_fits n e.origin u.0 w.0, before_fits e.origin e.before u.1 v.1 w.1)))
          es names rest

      target_fits : any_of (λ (t : Target). not (is_parent p n t.parent)) x.targets ≡ false → Each Within (joined (map (λ (t : Target). t.time ∷ t.parent_time ∷ []) x.targets)) → Each TargetFits x.targets
      target_fits a d =
          let P : Target → Type 0 = λ t. not (is_parent p n t.parent) ≡ false in
          let D : Target → Type 0 = λ t. Each Within (t.time ∷ t.parent_time ∷ []) in
          each_both P D TargetFits
          (λ t q h. record { time = time_fits t.time h.0; parent = omega (arith, parent_few n t.parent (not-false (is_parent p n t.parent) q)); parent_time = time_fits t.parent_time h.1.0 })
          x.targets (none_each (λ (t : Target). not (is_parent p n t.parent)) x.targets a) (each_joined Within (λ (t : Target). t.time ∷ t.parent_time ∷ []) x.targets d)

      node_fits : node_past_limits x ≡ false → node_wrong_parent p n x ≡ false → node_time_past steps x ≡ false → node_maker_wrong p n x ≡ false → set_wrong p n x ≡ false → length (leaving p n) ≤ 4 → UpToFit 1 AskedFits (kept_list x.asked) → NodeFits x
      unfolding node_past_limits node_wrong_parent node_time_past node_maker_wrong set_wrong
      node_fits limits wrong past made-wrong sets few kept =
          let long : Bool = ltb log_limit (length x.log) in
          let full : Bool = ltb held_limit (length x.held) in
          let many : Bool = ltb target_limit (length x.targets) in
          let a = neither_true (long || full || many) (any_of (λ (e : Entry). record_past_limits e.what) (worked_on x)) limits in
          let b = neither_true (long || full) many a.0 in
          let c = neither_true long full b.0 in
          let w = neither_true (any_of named (worked_on x)) (any_of (λ (t : Target). not (is_parent p n t.parent)) x.targets) wrong in
          let all = each_split Within (node_named_times x) (node_other_times x) (times_within (node_named_times x ++ node_other_times x) past) in
          let logged = each_split Within (map (λ (e : Entry). e.time) x.log) (joined (map (λ (t : Target). t.time ∷ t.parent_time ∷ []) x.targets)) all.1.1 in
          let work = each_split WorkFits x.log (map held_entry x.held) (work_fits a.1 w.0 made-wrong all.0) in
          record {
            time = time_fits x.time all.1.0;
            log = (
              ltb-false log_limit (length x.log) c.0,
              each_both WorkFits (λ (e : Entry). Within e.time × (wrong_set e ≡ false)) EntryFits
                  (λ e f t. record { what = f.0; time = time_fits e.time t.0; origin = f.1.0; before = f.1.1; set = omega (arith, eqb-true e.set (set_of p n e.what) (not-false _ t.1), set_small p n e.what few) }) x.log work.0
                  (each_both (λ (e : Entry). Within e.time) (λ (e : Entry). wrong_set e ≡ false) (λ (e : Entry). Within e.time × (wrong_set e ≡ false)) (λ e t w. (t, w)) x.log (each_unmap Within (λ (e : Entry). e.time) x.log logged.0) (none_each wrong_set x.log sets)),
            );
            held = (
              ltb-false held_limit (length x.held) c.1,
              each_imply (λ (h : Held). WorkFits (held_entry h)) HeldFits (λ h f. record { what = f.0; sender = omega (arith, f.1.0.0); time = f.1.0.1.0; before = f.1.1 }) x.held (each_unmap WorkFits held_entry x.held work.1),
            );
            targets = (ltb-false target_limit (length x.targets) b.1, target_fits w.1 logged.1);
            asked = kept;
          }

    -- ---- a lane

    module _ (b : ℕ) (x : Lane) where
      message_fits : any_of (λ (m : Message). record_past_limits m.what) x.queue ≡ false → any_of (λ (m : Message). not_parent p (channel_at p b).sender m.origin) x.queue ≡ false
          → Each Within (channel_named_times x) → Each MessageFits x.queue
      message_fits a c d =
          let A : Message → Type 0 = λ m. record_past_limits m.what ≡ false in
          let C : Message → Type 0 = λ m. not_parent p (channel_at p b).sender m.origin ≡ false in
          let D : Message → Type 0 = λ m. Each Within (m.time ∷ origin_times m.origin) in
          let tests = each_both A C (λ m. A m × C m) (λ m r q. (r, q)) x.queue (none_each (λ (m : Message). record_past_limits m.what) x.queue a)
          (none_each (λ (m : Message). not_parent p (channel_at p b).sender m.origin) x.queue c)
          in
          each_both (λ m. A m × C m) D MessageFits
          (λ m t h. record { what = record_fits m.what t.0; time = time_fits m.time h.0; origin = origin_fits (channel_at p b).sender m.origin t.1 h.1 }) x.queue tests
          (each_joined Within (λ (m : Message). m.time ∷ origin_times m.origin) x.queue d)

      lane_fits : length x.low ≡ suc (length x.heard) → low_wrong x ≡ false → channel_past_limits x ≡ false → channel_wrong_parent p b x ≡ false → channel_time_past steps x ≡ false → LaneFits x
      unfolding channel_past_limits channel_wrong_parent channel_time_past low_wrong
      lane_fits long below limits wrong past =
          let a = neither_true (ltb queue_limit (length x.queue)) (any_of (λ (m : Message). record_past_limits m.what) x.queue) limits in
          let all = each_split Within (channel_named_times x) (channel_other_times x) (times_within (channel_named_times x ++ channel_other_times x) past) in
          record {
            mark = time_fits x.mark all.1.0;
            taken = time_fits x.taken all.1.1.0;
            heard = each_imply Within TimeFits time_fits x.heard all.1.1.1;
            low = each_imply Within TimeFits time_fits x.low (low_each x.low (x.taken ∷ x.heard) long below all.1.1);
            queue = (ltb-false queue_limit (length x.queue) a.0, message_fits a.1 wrong all.0);
          }

-- ---- the line

-- The first of a node's conditions and that of its sets, and the first of a channel's.
first_seven : (a b c d e f s g h i j k m o n : Bool) → (a || b || c || d || e || f || s || g || h || i || j || k || m || o || n) ≡ false → (a ≡ false) × ((b ≡ false) × ((c ≡ false) × ((e ≡ false) × (s ≡ false))))
first_seven true b c d e f s g h i j k m o n q = absurd (true≢false q)
first_seven false true c d e f s g h i j k m o n q = absurd (true≢false q)
first_seven false false true d e f s g h i j k m o n q = absurd (true≢false q)
first_seven false false false true e f s g h i j k m o n q = absurd (true≢false q)
first_seven false false false false true f s g h i j k m o n q = absurd (true≢false q)
first_seven false false false false false true s g h i j k m o n q = absurd (true≢false q)
first_seven false false false false false false true g h i j k m o n q = absurd (true≢false q)
first_seven false false false false false false false g h i j k m o n q = (refl, (refl, (refl, (refl, refl))))

first_three : (a b c d e f g h i : Bool) → (a || b || c || d || e || f || g || h || i) ≡ false → (a ≡ false) × ((b ≡ false) × (c ≡ false))
first_three true b c d e f g h i q = absurd (true≢false q)
first_three false true c d e f g h i q = absurd (true≢false q)
first_three false false true d e f g h i q = absurd (true≢false q)
first_three false false false d e f g h i q = (refl, (refl, refl))

node_conditions : (l : Line) (n : ℕ) → node_damaged l n ≡ false
    → (node_past_limits (node_at l n) ≡ false) × ((node_wrong_parent l.plan n (node_at l n) ≡ false) × ((node_time_past (accepted_steps l) (node_at l n) ≡ false) × ((node_maker_wrong l.plan n (node_at l n) ≡ false) × (set_wrong l.plan n (node_at l n) ≡ false))))
unfolding node_damaged
node_conditions l n q =
    let x = node_at l n in
    first_seven (node_past_limits x) (node_wrong_parent l.plan n x) (node_time_past (accepted_steps l) x) (node_time_zero x) (node_maker_wrong l.plan n x) (log_wrong l.plan n x) (set_wrong l.plan n x) (past_clock l n)
    (held_wrong l n) (held_not_passed l.plan n x) (mark_missing x) (mark_on_end l.plan n x) (replay_wrong l n) (answer_wrong l n) (node_holds x) q

channel_conditions : (l : Line) (b : ℕ) → channel_damaged l b ≡ false
    → (channel_past_limits (lane_at l b) ≡ false) × ((channel_wrong_parent l.plan b (lane_at l b) ≡ false) × (channel_time_past (accepted_steps l) (lane_at l b) ≡ false))
unfolding channel_damaged
channel_conditions l b q =
    let s = lane_at l b in
    first_three (channel_past_limits s) (channel_wrong_parent l.plan b s) (channel_time_past (accepted_steps l) s) (channel_time_zero s) (channel_maker_wrong l.plan b s) (queue_wrong l b) (marks_joined l b) (channel_holds l b) (low_wrong s) q

-- What is known of a line that is not damaged.
record Whole (l : Line) : Type 0 where
  plan : plan_broken l ≡ false
  shape : misshapen l ≡ false
  node : (n : ℕ) → n < node_count l.plan → node_damaged l n ≡ false
  channel : (b : ℕ) → b < channel_count l.plan → channel_damaged l b ≡ false

by_number : (f : ℕ → Bool) (m : ℕ) → any_of f (up_to 0 m) ≡ false → (i : ℕ) → i < m → f i ≡ false
by_number f m q i h = ap f (sym (zero-add i)) ∙ none-numbered f 0 m q i h

whole : (l : Line) → damaged l ≡ false → Whole l
unfolding damaged
whole l q =
    let nodes : Bool = some_node l (node_damaged l) in
    let channels : Bool = some_channel l (channel_damaged l) in
    let a = neither_true (plan_broken l || misshapen l || steps_past l || nodes) channels q in
    let b = neither_true (plan_broken l || misshapen l || steps_past l) nodes a.0 in
    let c = neither_true (plan_broken l || misshapen l) (steps_past l) b.0 in
    let d = neither_true (plan_broken l) (misshapen l) c.0 in
    record {
      plan = d.0;
      shape = d.1;
      node = by_number (node_damaged l) (node_count l.plan) b.1;
      channel = by_number (channel_damaged l) (channel_count l.plan) a.1;
    }

plan-whole : (l : Line) → plan_broken l ≡ false → plan_fits l.plan ≡ true
unfolding plan_broken
plan-whole l q = not-false (plan_fits l.plan) q

-- Each console's count is one that its bytes can spell.
steps_fit : {ks : List ℕ} → CountsFit ks → FieldsFit steps_widths ks
steps_fit {ks} f = four_words_fit ks f.four (each_known TimeFits ks 0 (λ c h. omega (arith, f.within c)))

-- A node for each rule, a lane for each channel, an entry heard for each parent of its sender.
shaped : (l : Line) → misshapen l ≡ false
    → (length l.nodes ≡ node_count l.plan) × ((length l.lanes ≡ channel_count l.plan) × ((b : ℕ) → b < channel_count l.plan → (length (lane_at l b).heard ≡ heard_count l.plan (channel_at l.plan b)) × (length (lane_at l b).low ≡ suc (heard_count l.plan (channel_at l.plan b)))))
unfolding misshapen heard_count
shaped l q =
    let steps : Bool = eqb (length l.steps) console_count in
    let nodes : Bool = eqb (length l.nodes) (node_count l.plan) in
    let lanes : Bool = eqb (length l.lanes) (channel_count l.plan) in
    let short : ℕ → Bool = λ b. not (eqb (length (lane_at l b).heard) (length (parents l.plan (sender_of l b)))) in
    let low : ℕ → Bool = λ b. not (eqb (length (lane_at l b).low) (suc (length (parents l.plan (sender_of l b))))) in
    let z = neither_true (not steps || not nodes || not lanes || some_channel l short) (some_channel l low) q in
    let a = neither_true (not steps || not nodes || not lanes) (some_channel l short) z.0 in
    let b = neither_true (not steps || not nodes) (not lanes) a.0 in
    let c = neither_true (not steps) (not nodes) b.0 in (
      eqb-true (length l.nodes) (node_count l.plan) (not-false nodes c.1),
      (
        eqb-true (length l.lanes) (channel_count l.plan) (not-false lanes b.1),
        λ c h. (
          eqb-true (length (lane_at l c).heard) (length (parents l.plan (sender_of l c))) (not-false _ (by_number short (channel_count l.plan) a.1 c h)),
          eqb-true (length (lane_at l c).low) (suc (length (parents l.plan (sender_of l c)))) (not-false _ (by_number low (channel_count l.plan) z.1 c h)),
        ),
      ),
    )

-- A kept answer is what Recover gives, and no time in that is past the steps.
module _ (l : Line) (q : damaged l ≡ false) (n : ℕ) (h : n < node_count l.plan) where
  abbrev rows : List ℕ
  rows = entering l.plan n

  within_fits : (t : ℕ) → t ≤ accepted_steps l → TimeFits t
  within_fits t k = omega (arith, counts-most (undamaged_sound l q).standing.counts)

  entries_fit : FieldsFit heard_widths (map (λ (c : ℕ). restored l n (channel_at l.plan c).sender) rows ++ replicate (4 - length rows) 0)
  entries_fit =
      let found : ℕ → ℕ = λ c. restored l n (channel_at l.plan c).sender in
      let none_there : List ℕ = replicate (4 - length rows) 0 in
      let few = (four_at l.plan (node_count l.plan) n (fitting l.plan (plan-whole l (whole l q).plan)).degrees h).0 in
      four_words_fit (map found rows ++ none_there) (length-append (map found rows) none_there ∙ omega (arith, few, length-map rows found, length-replicate {A = ℕ} (4 - length rows) 0))
      (each_append TimeFits (map found rows) none_there
      (each_known TimeFits (map found rows) (found 0) (λ i k. subst TimeFits (sym (get_or-map found rows i 0)) (within_fits (found (get_or rows i 0)) (restored-within l (undamaged_sound l q).standing n (channel_at l.plan (get_or rows i 0)).sender))))
      (each_replicate TimeFits (4 - length rows) 0 (lit< tt)))

  kept_fits : UpToFit 1 AskedFits (kept_list (node_at l n).asked)
  unfolding answer_of
  kept_fits =
      let s = (undamaged_sound l q).standing in
      let high = high_within l s n in
      one (within_fits (low_of l n) (omega (arith, low_high l n, high)), (within_fits (high_of l n) high, entries_fit)) (node_at l n).asked (answered_whole l q n)
    where
      one : AskedFits (answer_of l n) → (o : Option Asked) → ((a : Asked) → o ≡ some a → Answers l n a) → UpToFit 1 AskedFits (kept_list o)
      one found none right = (lit≤ tt, tt)
      one found (some a) right = (lit≤ tt, (subst AskedFits (sym (right a refl).is) found, tt))

pub undamaged_fits : (l : Line) → damaged l ≡ false → LineFits l
undamaged_fits l q =
    let w = whole l q in
    let fits = plan-whole l w.plan in
    let counts = (undamaged_sound l q).standing.counts in
    let few = counts-most counts in
    let shape = shaped l w.shape in
    record {
      plan = fits;
      steps = steps_fit counts;
      nodes = shape.0;
      lanes = shape.1.0;
      node = λ n h. let c = node_conditions l n (w.node n h) in node_fits l.plan fits (accepted_steps l) few n (node_at l n) c.0 c.1.0 c.1.1.0 c.1.1.1.0 c.1.1.1.1 (four_at l.plan (node_count l.plan) n (fitting l.plan fits).degrees h).1 (kept_fits l q n h);
      lane = λ b h. let c = channel_conditions l b (w.channel b h) in (let s = ((undamaged_sound l q).standing.channels b h).fits in lane_fits l.plan fits (accepted_steps l) few b (lane_at l b) (s.low_long ∙ ap suc (sym s.heard_long)) s.low_below c.0 c.1.0 c.1.1);
      heard = λ b h. (shape.1.1 b h).0;
      low = λ b h. (shape.1.1 b h).1;
    }
