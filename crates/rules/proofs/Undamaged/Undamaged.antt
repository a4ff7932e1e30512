-- A line is not damaged exactly if it is sound: each condition of Damaged is the failure of a fact.
use Prim.Native.Nat.{ℕ, zero, suc, ◌<◌, ◌≤◌}
use mathlib.Core.Path.{◌≡◌, refl, sym, ap, subst, ◌∙◌}
use mathlib.Core.Logic.{inl, inr}
use mathlib.Core.Bool.{Bool, true, false, not, ◌&&◌, ◌||◌, true≢false}
use mathlib.Core.List.{List, [], ◌∷◌, map}
use mathlib.Core.Option.{Option, none, some}
use native.Mathlib.Omega.{arith}
use lib.ListN.{length, get_or}
use lib.Dec.{ltb, eqb}
use borrow.Author.Tests.{ltb-false, le-ltb, eqb-true, eq-eqb, not-false, not-true}
use Rattle.basics.specs.Bools.{both_true, neither_true}
use Rattle.plan.specs.Plan.{Plan, node_count, channel_count, channel_at, entering}
use Rattle.plan.specs.Check.{plan_fits}
use Rattle.plan.proofs.FitsLaws.{fitting}
use Rattle.rules.specs.Lists.{is_empty, any_of}
use Rattle.rules.specs.Line.{target_limit, step_limit, console_count, steps_from, accepted_steps, Origin, fed, made, Entry, Held, Target, Status, up, down, replay, Asked, Node, Line, node_at, lane_at, parents, sender_of, node_numbers, channel_numbers_of, is_replay}
use Rattle.rules.specs.Recover.{same_target, targets_of, conflict, answer_of, recovered, status_of, rows_complete}
use Rattle.rules.specs.Replay.{held_by_row, replay_end, ended_if_complete}
use Rattle.rules.specs.Step.{is_nothing, replaying, recovered_line, recover_gives}
use Rattle.rules.specs.Damaged.{some_node, some_channel, plan_broken, misshapen, worked_on, steps_past, node_past_limits, node_wrong_parent, node_time_past, node_time_zero, node_maker_wrong, rises, log_wrong, set_wrong, past_heard, past_lane, past_clock, held_wrong, held_not_passed, mark_missing, mark_on_end, same_targets, replays_as, replay_wrong, node_holds, node_damaged, channel_damaged, damaged, same_times, same_answer, answers_as, answer_wrong}
use Rattle.rules.proofs.Ending.Targets.{same_target_lem}
use Rattle.rules.proofs.Lists.Rising.{Rises}
use Rattle.rules.proofs.Lists.Members.{In, here, there, in_none, in_first, in_up_to, none_any}
use Rattle.rules.proofs.Line.Joins.{in_entering, entering_in}
use Rattle.rules.proofs.Invariant.Inv.{Shape, Ordered, Enters}
use Rattle.rules.proofs.Steps.PlanOrder.{ordered_channels}
use Rattle.rules.proofs.Undamaged.TestLaws.{is_replay_lem, none_by, up_to_in, all_false, unless, by_unless, rises-of, of-rises}
use Rattle.rules.proofs.Undamaged.Standing.{held_time, Covers, held_from, NodeSound, Replays, Empties, stuck, Answers, Stopped, Sound}
use Rattle.rules.proofs.Undamaged.Restored.{restored_node, recovered_is, restored-node, restored_shape, restored_complete_lem, ended_up, recovers_by, nothing_unless}
use Rattle.rules.proofs.Lists.Options.{none_some}
use Rattle.rules.proofs.Invariant.InvLaws.{up_not_down, up_not_replay}
use Rattle.rules.proofs.Undamaged.UndamagedChannel.{channel_sound, sound_channel}
use Rattle.rules.proofs.Undamaged.UndamagedNode.{node_fits, few_enough, right_parents, within-steps, above_zero, right_makers, log_right, right_sets, held_passed, mark_there, end_bare, holds-none}

-- The clock.
covers_of : (l : Line) (b : ℕ) (o before : Origin) → past_lane l b o before ≡ false → Covers l.plan b (lane_at l b) o before
covers_of l b fed before e = tt
covers_of l b (made s t) before e =
    λ q.
    (let past = past_heard (parents l.plan s) (lane_at l b).heard before in
    let (a, c) = neither_true (ltb (lane_at l b).taken t) past (unless (eqb (sender_of l b) s) (ltb (lane_at l b).taken t || past) e (eq-eqb (sender_of l b) s q)) in
    (ltb-false (lane_at l b).taken t a, c))

of_covers : (l : Line) (b : ℕ) (o before : Origin) → Covers l.plan b (lane_at l b) o before → past_lane l b o before ≡ false
of_covers l b fed before c = refl
of_covers l b (made s t) before c =
    by_unless (eqb (sender_of l b) s) (ltb (lane_at l b).taken t || past_heard (parents l.plan s) (lane_at l b).heard before)
    (λ q. (let (a, d) = c (eqb-true (sender_of l b) s q) in rw (le-ltb (lane_at l b).taken t a) d))

-- The rows of what is held.
in_rows : (hs : List Held) (l : Line) {b : ℕ} {bs : List ℕ} → In b bs → In (held_from (channel_at l.plan b).sender hs) (held_by_row hs l bs)
in_rows hs l here = here
in_rows hs l (there i) = there (in_rows hs l i)

pub rows_in : (hs : List Held) (l : Line) (bs : List ℕ) {row : List Held} → In row (held_by_row hs l bs) → (b : ℕ) × In b bs × (row ≡ held_from (channel_at l.plan b).sender hs)
rows_in hs l [] i = absurd (in_none i)
rows_in hs l (b ∷ bs) i = elim (in_first i) [ inl q ↦ (b, here, q) | inr j ↦ (let (c, k, q) = rows_in hs l bs j in (c, there k, q)) ]

module _ (l : Line) (n : ℕ) where
  clock_of : past_clock l n ≡ false → (e : Entry) → In e (worked_on (node_at l n)) → (b : ℕ) → Enters l.plan n b → Covers l.plan b (lane_at l b) e.origin e.before
  unfolding past_clock
  clock_of q e i b h =
      covers_of l b e.origin e.before
      (none_any (λ (c : ℕ). past_lane l c e.origin e.before) (none_any (λ (d : Entry). any_of (λ (c : ℕ). past_lane l c d.origin d.before) (entering l.plan n)) q i) (in_entering l.plan n b h.0 h.1))

  of_clock : ((e : Entry) → In e (worked_on (node_at l n)) → (b : ℕ) → Enters l.plan n b → Covers l.plan b (lane_at l b) e.origin e.before) → past_clock l n ≡ false
  unfolding past_clock
  of_clock f =
      none_by (λ (d : Entry). any_of (λ (c : ℕ). past_lane l c d.origin d.before) (entering l.plan n)) (worked_on (node_at l n))
      (λ e i. none_by (λ (c : ℕ). past_lane l c e.origin e.before) (entering l.plan n) (λ b j. of_covers l b e.origin e.before (f e i b (entering_in l.plan n b j))))

  rows_of : held_wrong l n ≡ false → (b : ℕ) → Enters l.plan n b → Rises held_time 0 (held_from (channel_at l.plan b).sender (node_at l n).held)
  unfolding held_wrong
  rows_of e b h =
      let row = held_from (channel_at l.plan b).sender (node_at l n).held in
      rises-of held_time 0 row (not-false (rises 0 (map held_time row)) (none_any (λ (hs : List Held). not (rises 0 (map held_time hs))) e (in_rows (node_at l n).held l (in_entering l.plan n b h.0 h.1))))

  of_rows : ((b : ℕ) → Enters l.plan n b → Rises held_time 0 (held_from (channel_at l.plan b).sender (node_at l n).held)) → held_wrong l n ≡ false
  unfolding held_wrong
  of_rows f =
      none_by (λ (hs : List Held). not (rises 0 (map held_time hs))) (held_by_row (node_at l n).held l (entering l.plan n))
      (λ row i. (let (b, j, q) = rows_in (node_at l n).held l (entering l.plan n) i in ap (λ (hs : List Held). not (rises 0 (map held_time hs))) q ∙ ap not (of-rises held_time (f b (entering_in l.plan n b j)))))

-- Targets in the same order are the same.
same_targets_lem : (ts us : List Target) → same_targets ts us ≡ true → ts ≡ us
same_targets_lem [] [] e = refl
same_targets_lem [] (u ∷ us) e = absurd (true≢false (sym e))
same_targets_lem (t ∷ ts) [] e = absurd (true≢false (sym e))
same_targets_lem (t ∷ ts) (u ∷ us) e =
    let (a, b) = both_true (same_target t u) (same_targets ts us) e in
    λ i. same_target_lem t u a i ∷ same_targets_lem ts us b i

targets_alike : (ts : List Target) → same_targets ts ts ≡ true
targets_alike [] = refl
targets_alike (t ∷ ts) = rw (eq-eqb t.time t.time refl, eq-eqb t.parent t.parent refl, eq-eqb t.parent_time t.parent_time refl) (targets_alike ts)

status_empty : (ts : List Target) → is_empty ts ≡ true → is_replay (status_of ts) ≡ false
status_empty [] e = refl
status_empty (t ∷ ts) e = absurd (true≢false (sym e))

status_some : (ts : List Target) → is_empty ts ≡ false → is_replay (status_of ts) ≡ true
status_some [] e = absurd (true≢false e)
status_some (t ∷ ts) e = refl

-- What Recover gives, by the tests that it makes.
abbrev given_by : Bool → Bool → Bool → Bool → Line → Option Line → Option Line
given_by full clash empty complete r ended = elim full [ true ↦ none | false ↦ elim clash [ true ↦ none | false ↦ elim empty [ true ↦ some r | false ↦ elim complete [ true ↦ ended | false ↦ some r ] ] ] ]

module _ (l : Line) (n : ℕ) (ordered : Ordered l.plan) (shape : Shape l) (inside : n < node_count l.plan) where
  abbrev ts : List Target
  ts = targets_of l n

  given_is : recover_gives l n ≡ given_by (ltb target_limit (length (targets_of l n))) (conflict (targets_of l n)) (is_empty (targets_of l n)) (rows_complete (recovered n l) n) (recovered n l) (replay_end n (recovered n l))
  unfolding recover_gives recovered_line ended_if_complete
  given_is = refl

  node_is : node_at (recovered n l) n ≡ restored_node l n
  node_is = ap (λ (k : Line). node_at k n) (recovered_is l n ordered shape) ∙ restored-node l n ordered shape inside

  never_up : (k : Line) → is_replay (node_at k n).status ≡ false → replays_as n (node_at l n) (some k) ≡ true → ⊥
  never_up k e q =
      let x = node_at l n in
      let (ab, c) = both_true (is_replay (node_at k n).status && eqb x.time (node_at k n).time) (same_targets x.targets (node_at k n).targets) q in
      true≢false (sym (both_true (is_replay (node_at k n).status) (eqb x.time (node_at k n).time) ab).0 ∙ e)

  never_ended : (o : Option Line) → replay_end n (recovered n l) ≡ o → replays_as n (node_at l n) o ≡ true → ⊥
  never_ended none e q = true≢false (sym q)
  never_ended (some k) e q = never_up k (ap is_replay (ended_up (recovered n l) n long k e)) q
    where
      long : n < length (recovered n l).nodes
      long = rw (recovered_is l n ordered shape, (restored_shape l n ordered shape).nodes_long) inside

  as_given : replays_as n (node_at l n) (some (recovered n l)) ≡ true → ((node_at l n).time ≡ (restored_node l n).time) × ((node_at l n).targets ≡ (restored_node l n).targets)
  as_given q =
      let x = node_at l n in
      let y = node_at (recovered n l) n in
      let (ab, c) = both_true (is_replay y.status && eqb x.time y.time) (same_targets x.targets y.targets) q in
      (eqb-true x.time y.time (both_true (is_replay y.status) (eqb x.time y.time) ab).1 ∙ ap (λ (z : Node). z.time) node_is, same_targets_lem x.targets y.targets c ∙ ap (λ (z : Node). z.targets) node_is)

  replays-of : replays_as n (node_at l n) (recover_gives l n) ≡ true → Replays l n
  replays-of q = go (ltb target_limit (length ts)) (conflict ts) (is_empty ts) (rows_complete (recovered n l) n) refl refl refl refl (ap (replays_as n (node_at l n)) (sym given_is) ∙ q)
    where
      go : (full clash empty complete : Bool) → ltb target_limit (length ts) ≡ full → conflict ts ≡ clash → is_empty ts ≡ empty → rows_complete (recovered n l) n ≡ complete
          → replays_as n (node_at l n) (given_by full clash empty complete (recovered n l) (replay_end n (recovered n l))) ≡ true → Replays l n
      go true clash empty complete f c e r z = absurd (true≢false (sym z))
      go false true empty complete f c e r z = absurd (true≢false (sym z))
      go false false true complete f c e r z = absurd (never_up (recovered n l) (ap (λ (x : Node). is_replay x.status) node_is ∙ status_empty ts e) z)
      go false false false true f c e r z = absurd (never_ended (replay_end n (recovered n l)) refl z)
      go false false false false f c e r z =
          let (time, targets) = as_given z in
          record { time = time; targets = targets; few = ltb-false target_limit (length ts) f; agreed = c; some = e; open_row = sym (restored_complete_lem l n ordered shape inside) ∙ r }

  of-replays : Replays l n → replays_as n (node_at l n) (recover_gives l n) ≡ true
  of-replays f =
      rw (
        given_is,
        le-ltb target_limit (length ts) f.few,
        f.agreed,
        f.some,
        restored_complete_lem l n ordered shape inside,
        f.open_row,
        node_is,
        status_some ts f.some,
        f.time,
        f.targets,
        eq-eqb (restored_node l n).time (restored_node l n).time refl,
        targets_alike ts,
      )

-- A kept answer.
same_times_lem : (ts us : List ℕ) → same_times ts us ≡ true → ts ≡ us
same_times_lem [] [] e = refl
same_times_lem [] (u ∷ us) e = absurd (true≢false (sym e))
same_times_lem (t ∷ ts) [] e = absurd (true≢false (sym e))
same_times_lem (t ∷ ts) (u ∷ us) e = let (a, b) = both_true (eqb t u) (same_times ts us) e in λ i. eqb-true t u a i ∷ same_times_lem ts us b i

times_alike : (ts : List ℕ) → same_times ts ts ≡ true
times_alike [] = refl
times_alike (t ∷ ts) = rw (eq-eqb t t refl) (times_alike ts)

same_answer_lem : (a b : Asked) → same_answer a b ≡ true → a ≡ b
same_answer_lem a b e =
    let (xy, z) = both_true (eqb a.low b.low && eqb a.high b.high) (same_times a.entries b.entries) e in
    let (x, y) = both_true (eqb a.low b.low) (eqb a.high b.high) xy in
    λ i. record { low = eqb-true a.low b.low x i; high = eqb-true a.high b.high y i; entries = same_times_lem a.entries b.entries z i }

answer_alike : (a : Asked) → same_answer a a ≡ true
answer_alike a = rw (eq-eqb a.low a.low refl, eq-eqb a.high a.high refl, times_alike a.entries)

module _ (l : Line) (n : ℕ) (ordered : Ordered l.plan) (shape : Shape l) (inside : n < node_count l.plan) where
  gives_by : is_nothing (recover_gives l n) ≡ (ltb target_limit (length (targets_of l n)) || stuck l n)
  unfolding recover_gives
  gives_by = one (ltb target_limit (length (targets_of l n)))
    where
      one : (t : Bool) → is_nothing {A = Line} (elim t [ true ↦ none | false ↦ recovered_line n l ]) ≡ (t || stuck l n)
      one true = refl
      one false = ap is_nothing (recovers_by l ordered shape n inside) ∙ nothing_unless (stuck l n) (recovered n l)

  answers_of : (a : Asked) → answers_as l n (some a) ≡ true → Answers l n a
  answers_of a e =
      let gives : Bool = not (is_nothing (recover_gives l n)) in
      let same : Bool = same_answer a (answer_of l n) in
      let (xy, z) = both_true (gives && same) (same_targets (node_at l n).targets (targets_of l n)) e in
      let (x, y) = both_true gives same xy in
      let (few, goes) = neither_true (ltb target_limit (length (targets_of l n))) (stuck l n) (sym gives_by ∙ not-true (is_nothing (recover_gives l n)) x) in
      record { is = same_answer_lem a (answer_of l n) y; targets = same_targets_lem (node_at l n).targets (targets_of l n) z; few = ltb-false target_limit (length (targets_of l n)) few; goes = goes }

  of-answers : (a : Asked) → Answers l n a → answers_as l n (some a) ≡ true
  of-answers a f = rw (gives_by, le-ltb target_limit (length (targets_of l n)) f.few, f.goes, f.is, answer_alike (answer_of l n), f.targets, targets_alike (targets_of l n))

-- A node with its clock, its rows and its restart.
module _ (l : Line) (n : ℕ) (ordered : Ordered l.plan) (shape : Shape l) (inside : n < node_count l.plan) where
  replaying_right : replay_wrong l n ≡ false → (node_at l n).status ≡ replay → Replays l n
  unfolding replay_wrong
  replaying_right e q = replays-of l n ordered shape inside (not-false (replays_as n (node_at l n) (recover_gives l n)) (unless (replaying l n) (not (replays_as n (node_at l n) (recover_gives l n))) e (ap is_replay q)))

  right_replaying : ((node_at l n).status ≡ replay → Replays l n) → replay_wrong l n ≡ false
  unfolding replay_wrong
  right_replaying f = by_unless (replaying l n) (not (replays_as n (node_at l n) (recover_gives l n))) (λ q. ap not (of-replays l n ordered shape inside (f (is_replay_lem (node_at l n).status q))))

  answering_right : answer_wrong l n ≡ false → (a : Asked) → (node_at l n).asked ≡ some a → Answers l n a
  unfolding answer_wrong
  answering_right e a q = answers_of l n ordered shape inside a (ap (answers_as l n) (sym q) ∙ not-false (answers_as l n (node_at l n).asked) e)

  pub right_answering : ((a : Asked) → (node_at l n).asked ≡ some a → Answers l n a) → answer_wrong l n ≡ false
  unfolding answer_wrong
  right_answering f = ap not (one (node_at l n).asked f)
    where
      one : (o : Option Asked) → ((a : Asked) → o ≡ some a → Answers l n a) → answers_as l n o ≡ true
      one none g = refl
      one (some a) g = of-answers l n ordered shape inside a (g a refl)

  node_sound : node_damaged l n ≡ false → NodeSound l n × Stopped l n
  unfolding node_damaged
  node_sound e =
      let p = l.plan in
      let x = node_at l n in
      let (few, (parent, (past, (zeros, (maker, (log, (set, (clock, (rows, (passed, (mark, (end, (again, (answer, (holds, _))))))))))))))) =
      all_false (node_past_limits x) (node_wrong_parent p n x ∷ node_time_past (accepted_steps l) x ∷ node_time_zero x ∷ node_maker_wrong p n x ∷ log_wrong p n x ∷ set_wrong p n x ∷ past_clock l n ∷ held_wrong l n ∷ held_not_passed p n x ∷ mark_missing x ∷ mark_on_end p n x ∷ replay_wrong l n ∷ answer_wrong l n ∷ node_holds x ∷ []) e in
      (record { fits = node_fits p (accepted_steps l) n x few parent past zeros maker log set passed mark end holds; clock = clock_of l n clock; rows = rows_of l n rows }, record { replays = replaying_right again; answers = answering_right answer })

  sound_node : NodeSound l n → Stopped l n → node_damaged l n ≡ false
  unfolding node_damaged
  sound_node f again =
      let p = l.plan in
      let x = node_at l n in
      rw (
        few_enough p (accepted_steps l) n x f.fits,
        right_parents p (accepted_steps l) n x f.fits,
        within-steps p (accepted_steps l) n x f.fits,
        above_zero p (accepted_steps l) n x f.fits,
        right_makers p (accepted_steps l) n x f.fits,
        log_right p (accepted_steps l) n x f.fits,
        right_sets p (accepted_steps l) n x f.fits,
        of_clock l n f.clock,
        of_rows l n f.rows,
        held_passed p (accepted_steps l) n x f.fits,
        mark_there p (accepted_steps l) n x f.fits,
        end_bare p (accepted_steps l) n x f.fits,
        right_replaying again.replays,
        right_answering again.answers,
        holds-none p (accepted_steps l) n x f.fits,
      )

-- No console's count is above the limit.
none_above : (counts : List ℕ) → any_of (ltb step_limit) counts ≡ false → (c : ℕ) → get_or counts c 0 ≤ step_limit
none_above [] e c = omega arith
none_above (k ∷ ks) e zero = ltb-false step_limit k (neither_true (ltb step_limit k) (any_of (ltb step_limit) ks) e).0
none_above (k ∷ ks) e (suc c) = none_above ks (neither_true (ltb step_limit k) (any_of (ltb step_limit) ks) e).1 c

above_none : (counts : List ℕ) → ((c : ℕ) → get_or counts c 0 ≤ step_limit) → any_of (ltb step_limit) counts ≡ false
above_none [] h = refl
above_none (k ∷ ks) h = rw (le-ltb step_limit k (h 0)) (above_none ks (λ c. h (suc c)))

-- The line.
pub ordered_fit : (p : Plan) → plan_fits p ≡ true → Ordered p
ordered_fit p e = ordered_channels p (fitting p e).channels

-- So it is of every node.
pub stopped_all : (l : Line) → Sound l → (n : ℕ) → n < node_count l.plan → Stopped l n
stopped_all l f n h = one (node_at l n).status refl
  where
    one : (s : Status) → (node_at l n).status ≡ s → Stopped l n
    one up q = record { replays = λ e. absurd (up_not_replay (sym q ∙ e)); answers = λ a e. none_some (sym (subst (λ (s : Status). Empties s (node_at l n)) q (f.standing.nodes n h).fits.empties).2 ∙ e) }
    one down q = f.stopped n h (λ z. up_not_down (sym z ∙ q))
    one replay q = f.stopped n h (λ z. up_not_replay (sym z ∙ q))

module _ (l : Line) where
  abbrev wrong_length : ℕ → Bool
  wrong_length b = not (eqb (length (lane_at l b).heard) (length (parents l.plan (sender_of l b))))

  abbrev wrong_low : ℕ → Bool
  wrong_low b = not (eqb (length (lane_at l b).low) (suc (length (parents l.plan (sender_of l b)))))

  shaped : misshapen l ≡ false → (length l.steps ≡ console_count) × Shape l
      × ((b : ℕ) → b < channel_count l.plan → (length (lane_at l b).heard ≡ length (parents l.plan (sender_of l b))) × (length (lane_at l b).low ≡ suc (length (parents l.plan (sender_of l b)))))
  unfolding misshapen
  shaped e =
      let nodes = length l.nodes in
      let lanes = length l.lanes in
      let steps = length l.steps in
      let (four, (a, (c, (d, (w, _))))) = all_false (not (eqb steps console_count)) (not (eqb nodes (node_count l.plan)) ∷ not (eqb lanes (channel_count l.plan)) ∷ some_channel l wrong_length ∷ some_channel l wrong_low ∷ []) e in (
        eqb-true steps console_count (not-false (eqb steps console_count) four),
        record { nodes_long = eqb-true nodes (node_count l.plan) (not-false (eqb nodes (node_count l.plan)) a); lanes_long = eqb-true lanes (channel_count l.plan) (not-false (eqb lanes (channel_count l.plan)) c) },
        λ b h.
            (let heard = length (lane_at l b).heard in
            let lows = length (lane_at l b).low in
            let long = length (parents l.plan (sender_of l b)) in
            let i = in_up_to 0 (channel_count l.plan) b (omega arith) (omega arith) in
            (eqb-true heard long (not-false (eqb heard long) (none_any wrong_length d i)), eqb-true lows (suc long) (not-false (eqb lows (suc long)) (none_any wrong_low w i)))),
      )

  of-shaped : length l.steps ≡ console_count → Shape l → ((b : ℕ) → b < channel_count l.plan → (length (lane_at l b).heard ≡ length (parents l.plan (sender_of l b))) × (length (lane_at l b).low ≡ suc (length (parents l.plan (sender_of l b))))) → misshapen l ≡ false
  unfolding misshapen
  of-shaped four s f =
      rw (
        eq-eqb (length l.steps) console_count four,
        eq-eqb (length l.nodes) (node_count l.plan) s.nodes_long,
        eq-eqb (length l.lanes) (channel_count l.plan) s.lanes_long,
        none_by wrong_length
            (channel_numbers_of l)
            (λ b i. ap not (eq-eqb (length (lane_at l b).heard) (length (parents l.plan (sender_of l b))) (f b (omega (arith, up_to_in 0 (channel_count l.plan) b i))).0)),
        none_by wrong_low
            (channel_numbers_of l)
            (λ b i. ap not (eq-eqb (length (lane_at l b).low) (suc (length (parents l.plan (sender_of l b)))) (f b (omega (arith, up_to_in 0 (channel_count l.plan) b i))).1)),
      )

  fits_plan : plan_broken l ≡ false → plan_fits l.plan ≡ true
  unfolding plan_broken
  fits_plan e = not-false (plan_fits l.plan) e

  plan_fits_lem : plan_fits l.plan ≡ true → plan_broken l ≡ false
  unfolding plan_broken
  plan_fits_lem e = ap not e

  steps-within : steps_past l ≡ false → (c : ℕ) → steps_from l c ≤ step_limit
  unfolding steps_past
  steps-within = none_above l.steps

  within_limit : ((c : ℕ) → steps_from l c ≤ step_limit) → steps_past l ≡ false
  unfolding steps_past
  within_limit = above_none l.steps

  pub undamaged_sound : damaged l ≡ false → Sound l
  unfolding damaged
  undamaged_sound e =
      let (plan, (shapes, (steps, (nodes, (channels, _))))) = all_false (plan_broken l) (misshapen l ∷ steps_past l ∷ some_node l (node_damaged l) ∷ some_channel l (channel_damaged l) ∷ []) e in
      let fits = fits_plan plan in
      let (four, shape, long) = shaped shapes in
      let node : (n : ℕ) (h : n < node_count l.plan) → NodeSound l n × Stopped l n =
      λ n h. node_sound l n (ordered_fit l.plan fits) shape h (none_any (node_damaged l) nodes (in_up_to 0 (node_count l.plan) n (omega arith) (omega arith))) in
      record {
        standing = record {
          plan_fits_lem = fits;
          shape = shape;
          counts = record { four = four; within = steps-within steps };
          nodes = λ n h. (node n h).0;
          channels = λ b h. channel_sound l b (long b h).0 (long b h).1 (none_any (channel_damaged l) channels (in_up_to 0 (channel_count l.plan) b (omega arith) (omega arith)));
        };
        stopped = λ n h _. (node n h).1;
      }

  pub sound_undamaged : Sound l → damaged l ≡ false
  unfolding damaged
  sound_undamaged f =
      let s = f.standing in
      rw (
        plan_fits_lem s.plan_fits_lem,
        of-shaped s.counts.four s.shape (λ b h. ((s.channels b h).fits.heard_long, (s.channels b h).fits.low_long)),
        within_limit s.counts.within,
        none_by (node_damaged l) (node_numbers l)
            (λ n i. (let h : n < node_count l.plan = omega (arith, up_to_in 0 (node_count l.plan) n i) in sound_node l n (ordered_fit l.plan s.plan_fits_lem) s.shape h (s.nodes n h) (stopped_all l f n h))),
        none_by (channel_damaged l) (channel_numbers_of l) (λ b i. (let h : b < channel_count l.plan = omega (arith, up_to_in 0 (channel_count l.plan) b i) in sound_channel l b (s.channels b h))),
      )
