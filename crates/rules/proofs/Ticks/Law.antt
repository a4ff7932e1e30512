-- Floor times rise after ticks.
use Prim.Native.Nat.{ℕ, zero, suc, ◌<◌, ◌≤◌}
use mathlib.Core.Path.{◌≡◌, refl, sym, ap, subst, ◌∙◌}
use mathlib.Core.Logic.{inl, inr}
use mathlib.Core.Bool.{Bool, true, false, true≢false, not, ◌&&◌, ◌||◌}
use mathlib.Core.List.{List, [], ◌∷◌, ◌++◌, map, nil≢cons}
use native.Mathlib.Omega.{arith}
use native.Mathlib.Decide.{ℕ_discrete}
use lib.Dec.{eqb}
use borrow.Author.Tests.{eqb-true, eq-eqb}
use Rattle.basics.specs.Bools.{both_true}
use Rattle.plan.specs.Plan.{Plan, plan_of, channel_at, node_count, channel_count, entering, leaving, is_source}
use Rattle.plan.specs.Check.{plan_refusal}
use Rattle.rules.specs.Lists.{keep_one, keep, all_of, any_of}
use Rattle.rules.specs.Line.{made, replay, Line, initial_line, node_at, lane_at, sender_of, receiver_of, parents}
use Rattle.rules.specs.Frame.{frame_of, frame_console}
use Rattle.rules.specs.Clock.{entry_for}
use Rattle.rules.specs.Trim.{entries_for, floor_time}
use Rattle.rules.specs.Step.{refusal, step}
use Rattle.rules.specs.Claim.{crash_of, start_of, story_from}
use Rattle.rules.specs.Ticks.{FollowedMessage, FollowedTake, FollowedFrames, frames_of, Trace, is_followed, new_followed, took_first, new_took, traced, trace_from, no_trace, some_followed, last_followed, from_each_source, taken_by_all, FloorsRise, NoneInReplay}
use Rattle.rules.proofs.Lists.Members.{In, in_none, in_first, some_in, keep_in, map_in, append_in, joined_in, all_in, any_in, in_any, in_up_to, greatest_in, least_above}
use Rattle.plan.specs.Lawful.{Each, Bytes}
use Rattle.rules.proofs.Undamaged.StepSound.{frame_bytes}
use Rattle.rules.proofs.Line.Joins.{in_leaving, leaving_in, entering_in}
use Rattle.rules.proofs.Invariant.Inv.{Leaves, Ordered}
use Rattle.rules.proofs.Theorem.Accepted.{Passed, passed, can_take, step-accepted, step_refused}
use Rattle.rules.proofs.Theorem.Unmoved.{step-plan}
use Rattle.rules.proofs.Order.{if_accepted, if_refused}
use Rattle.rules.proofs.Restart.Known.{Known, known_start, known_step, known_all}
use Rattle.rules.proofs.Ticks.Shaped.{Shaped, step-shaped, start_shaped, all_shaped}
use Rattle.rules.proofs.Ticks.Facts.{Holds}
use Rattle.rules.proofs.Ticks.Arise.{none-again, step-holds}

-- All that is kept along a trace.
pub record Kept (p : Plan) (t : Trace) : Type 0 where
  pub plan : t.line.plan ≡ p
  pub known : Known t.line
  pub shaped : Shaped p t.line
  pub holds : Holds p t.line t.followed t.took

none_both : {A : Type 0} (xs : List A) {ys : List A} → xs ++ ys ≡ [] → (xs ≡ []) × (ys ≡ [])
none_both [] e = (refl, e)
none_both (x ∷ xs) e = absurd (nil≢cons (sym e))

-- Without a crash at the end there was none before.
none_before : (fs : FollowedFrames) (t : Trace) → (trace_from t fs).crashes ≡ [] → t.crashes ≡ []
unfolding traced
none_before [] t e = e
none_before ((follow, f) ∷ fs) t e = (none_both t.crashes (none_before fs (traced t (follow, f)) e)).0

subst₂_back : {A B : Type 0} (P : A → B → Type 0) {x y : A} {u v : B} → x ≡ y → u ≡ v → P y v → P x u
subst₂_back P {x} {u = u} {v = v} p q h = subst (λ (z : _). P z u) (sym p) (subst (P _) (sym q) h)

traced-holds : (t : Trace) (follow : Bool) (f : List ℕ) → Known t.line → Shaped t.line.plan t.line → Holds t.line.plan t.line t.followed t.took → (traced t (follow, f)).crashes ≡ []
    → Holds t.line.plan (traced t (follow, f)).line (traced t (follow, f)).followed (traced t (follow, f)).took
unfolding traced
traced-holds t follow f known shaped holds quiet =
    let l = t.line in
    let n = (step l f).number in
    let made-now = new_followed follow l t.followed (frame_of f) in
    let took-now = new_took l t.followed (frame_of f) in
    elim (ℕ_discrete (refusal l f) 0) [
      | yes e ↦
          (let (zero_is, _) = step-accepted l f e in
          let crash-none : crash_of (frame_of f) ≡ [] = (none_both t.crashes (sym (if_accepted n (crash_of (frame_of f)) t.crashes zero_is) ∙ quiet)).1 in
          subst₂_back (Holds l.plan (step l f).line) (if_accepted n made-now t.followed zero_is) (if_accepted n took-now t.took zero_is) (step-holds l known t.followed t.took shaped holds follow f e crash-none))
      | no d ↦
          (let (not-zero, same) = step_refused l f d in
          subst₂_back (Holds l.plan (step l f).line) (if_refused n made-now t.followed not-zero) (if_refused n took-now t.took not-zero) (subst (λ (x : Line). Holds l.plan x t.followed t.took) (sym same) holds))
    ]

trace_kept : (p : Plan) (fs : FollowedFrames) (t : Trace) → Each Bytes (frames_of fs) → (trace_from t fs).crashes ≡ [] → Kept p t → Kept p (trace_from t fs)
unfolding traced
trace_kept p [] t each quiet kept = kept
trace_kept p ((follow, f) ∷ fs) t (b, each) quiet kept =
    let l = t.line in
    let q = kept.plan in
    let now = none_before fs (traced t (follow, f)) quiet in
    trace_kept p fs (traced t (follow, f)) each quiet
    (record {
      plan = step-plan l f ∙ q;
      known = known_step l f (frame_bytes f b) kept.known;
      shaped = step-shaped p l f q kept.shaped;
      holds = subst (λ (x : Plan). Holds x (traced t (follow, f)).line (traced t (follow, f)).followed (traced t (follow, f)).took) q
          (traced-holds t follow f kept.known (subst (λ (x : Plan). Shaped x l) (sym q) kept.shaped) (subst (λ (x : Plan). Holds x l t.followed t.took) (sym q) kept.holds) now);
    })

start_kept : (plan : List ℕ) (before : List (List ℕ)) → Bytes plan → Each Bytes before → plan_refusal plan ≡ 0 → Kept (plan_of plan) (no_trace (story_from (start_of (initial_line (plan_of plan))) before).line)
unfolding initial_line
start_kept plan before bytes each z =
    let (q, shaped) = all_shaped (plan_of plan) before (start_of (initial_line (plan_of plan))) refl (start_shaped (plan_of plan)) in
    record {
      plan = q;
      known = known_all before (start_of (initial_line (plan_of plan))) each (known_start plan bytes z);
      shaped = shaped;
      holds = record { made_ones = λ m i. absurd (in_none i); taken_ones = λ o i. absurd (in_none i) };
    }

-- The end: messages that are followed from each source, all taken.
module _ (t : Trace) (ordered : Ordered t.line.plan) (holds : Holds t.line.plan t.line t.followed t.took) (each : from_each_source t.line.plan t ≡ true) (all : taken_by_all t.line.plan t ≡ true) where
  abbrev l : Line
  l = t.line

  abbrev p : Plan
  p = t.line.plan

  was_taken : (m : FollowedMessage) → In m t.followed → (b : ℕ) → Leaves t.line.plan m.node b → (o : FollowedTake) × In o t.took × (o.channel ≡ b) × (o.time ≡ m.time)
  unfolding taken_by_all
  was_taken m i b (h, s) =
      let on : ℕ → Bool = λ c. any_of (λ (o : FollowedTake). eqb o.channel c && eqb o.time m.time) t.took in
      let every = all_in (λ (x : FollowedMessage). all_of (λ (c : ℕ). any_of (λ (o : FollowedTake). eqb o.channel c && eqb o.time x.time) t.took) (leaving p x.node)) all i in
      let one = all_in on every (in_leaving p m.node b h s) in
      let (o, j, q) = any_in (λ (o : FollowedTake). eqb o.channel b && eqb o.time m.time) t.took one in
      let (c, u) = both_true (eqb o.channel b) (eqb o.time m.time) q in
      (o, j, eqb-true o.channel b c, eqb-true o.time m.time u)

  -- What was taken of it: the receiver's clock, and what it made.
  pub record TakenOn (m : FollowedMessage) (b : ℕ) : Type 0 where
    pub entry : m.time ≤ (lane_at t.line b).taken
    pub next : FollowedMessage
    pub among : In next t.followed
    pub node : next.node ≡ (channel_at t.line.plan b).receiver
    pub from : next.origin ≡ made (channel_at t.line.plan b).sender m.time
    pub heard : (a v : ℕ) → m.origin ≡ made a v → v ≤ entry_for a (parents t.line.plan (channel_at t.line.plan b).sender) (lane_at t.line b).heard

  taken_on : (m : FollowedMessage) → In m t.followed → (b : ℕ) → Leaves t.line.plan m.node b → TakenOn m b
  taken_on m i b out =
      let (o, j, channel, time) = was_taken m i b out in
      let r = holds.taken_ones o j in
      let (x, k, node, from) = r.makes in
      record {
        entry = omega (arith, r.entry, time, ap (λ (c : ℕ). (lane_at l c).taken) channel);
        next = x;
        among = k;
        node = node ∙ ap (λ (c : ℕ). (channel_at p c).receiver) channel;
        from = from ∙ (λ z. made (channel_at p (channel z)).sender (time z));
        heard = λ a v q. subst (λ (c : ℕ). v ≤ entry_for a (parents p (channel_at p c).sender) (lane_at l c).heard) channel (r.heard m i (sym out.1 ∙ ap (λ (c : ℕ). (channel_at p c).sender) (sym channel)) (sym time) a v q);
      }

  -- Every node has one.
  some_enters : (n : ℕ) → is_source t.line.plan n ≡ false → (b : ℕ) × ((b < channel_count t.line.plan) × ((channel_at t.line.plan b).receiver ≡ n))
  unfolding is_source
  some_enters n e = let (b, i) = some_in (entering p n) e in (b, entering_in p n b i)

  fed_one : (n : ℕ) → n < node_count t.line.plan → is_source t.line.plan n ≡ true → some_followed t n ≡ true
  unfolding from_each_source
  fed_one n h source = go (is_source p n) (some_followed t n) (all_in (λ (x : ℕ). not (is_source p x) || some_followed t x) each (in_up_to 0 (node_count p) n (omega arith) (omega arith))) source
    where
      go : (x y : Bool) → (not x || y) ≡ true → x ≡ true → y ≡ true
      go true y e q = e
      go false y e q = absurd (true≢false (sym q))

  pub has_one : (k n : ℕ) → n < k → n < node_count t.line.plan → (m : FollowedMessage) × In m t.followed × (m.node ≡ n)
  has_one zero n below h = let no : ⊥ = omega arith in absurd no
  has_one (suc k) n below h = go (is_source p n) refl (λ a lower. has_one k a (omega (arith, lower)) (omega (arith, lower)))
    where
      go : (x : Bool) → is_source t.line.plan n ≡ x → ((a : ℕ) → a < n → (m : FollowedMessage) × In m t.followed × (m.node ≡ a)) → (m : FollowedMessage) × In m t.followed × (m.node ≡ n)
      go true q earlier = let (m, i, e) = any_in (λ (y : FollowedMessage). eqb y.node n) t.followed (fed_one n h q) in (m, i, eqb-true m.node n e)
      go false q earlier =
          let (b, (on, into)) = some_enters n q in
          let forward = ordered.forward b on in
          let (m, i, e) = earlier (channel_at p b).sender (omega (arith, forward, into)) in
          let taken = taken_on m i b (on, sym e) in
          (taken.next, taken.among, taken.node ∙ into)

  -- No clock holds a time below its own.
  reaches : (m : FollowedMessage) → In m t.followed → m.time ≤ floor_time t.line m.node
  unfolding floor_time entries_for
  reaches m i =
      let n = m.node in
      let entries : ℕ → ℕ = λ b. (lane_at l b).taken in
      let through : ℕ → List ℕ = λ b. map (λ (c : ℕ). entry_for n (parents p (channel_at p b).receiver) (lane_at l c).heard) (leaving p (channel_at p b).receiver) in
      least_above ((node_at l n).time ∷ entries_for l n) refl
      (λ x j. elim (in_first j) [
        | inl q ↦ (let own = (holds.made_ones m i).in_time in omega (arith, own, q))
        | inr k ↦ elim (append_in (map entries (leaving p n)) k) [
          | inl h ↦ (let (b, w, q) = map_in entries (leaving p n) h in let taken = taken_on m i b (leaving_in p n b w) in omega (arith, taken.entry, q))
          | inr h ↦
              (let (xs, w, y) = joined_in (map through (leaving p n)) h in
              let (b, u, q) = map_in through (leaving p n) w in
              let (c, v, z) = map_in (λ (c : ℕ). entry_for n (parents p (channel_at p b).receiver) (lane_at l c).heard) (leaving p (channel_at p b).receiver) (subst (λ (ys : List ℕ). In x ys) q y) in
              let out = leaving_in p n b u in
              let further = leaving_in p (channel_at p b).receiver c v in
              let taken = taken_on m i b out in
              let next = taken_on taken.next taken.among c (further.0, further.1 ∙ sym taken.node) in
              let above = next.heard n m.time (taken.from ∙ ap (λ (a : ℕ). made a m.time) out.1) in
              omega (arith, above, z, ap (λ (a : ℕ). entry_for n (parents p a) (lane_at l c).heard) further.1))
        ]
      ])

  pub last_reached : (n : ℕ) → last_followed t n ≤ floor_time t.line n
  last_reached n =
      elim (greatest_in (map (λ (m : FollowedMessage). m.time) (keep (λ (m : FollowedMessage). eqb m.node n) t.followed))) [
        | inl z ↦ omega (arith, z)
        | inr i ↦
            (let (m, j, q) = map_in (λ (m : FollowedMessage). m.time) (keep (λ (m : FollowedMessage). eqb m.node n) t.followed) i in
            let (k, e) = keep_in (λ (m : FollowedMessage). eqb m.node n) t.followed j in
            let reached = reaches m k in
            omega (arith, reached, q, ap (floor_time l) (eqb-true m.node n e)))
      ]

pub floors_rise : FloorsRise
floors_rise plan before frames bytes each-before each-frame z quiet each all n inside =
    let t = trace_from (no_trace (story_from (start_of (initial_line (plan_of plan))) before).line) frames in
    let kept = trace_kept (plan_of plan) frames (no_trace (story_from (start_of (initial_line (plan_of plan))) before).line) each-frame quiet (start_kept plan before bytes each-before z) in
    go t (plan_of plan) kept each all inside
  where
    go : (t : Trace) (p : Plan) → Kept p t → from_each_source p t ≡ true → taken_by_all p t ≡ true → n < node_count p → (some_followed t n ≡ true) × (last_followed t n ≤ floor_time t.line n)
    go t p kept each all inside =
        let q = sym kept.plan in
        let holds = subst (λ (x : Plan). Holds x t.line t.followed t.took) q kept.holds in
        let from_Each = subst (λ (x : Plan). from_each_source x t ≡ true) q each in
        let by_all = subst (λ (x : Plan). taken_by_all x t ≡ true) q all in
        let (m, i, e) = has_one t kept.known.inv.ordered holds from_Each by_all (suc n) n (omega arith) (subst (λ (x : Plan). n < node_count x) q inside) in
        (in_any (λ (y : FollowedMessage). eqb y.node n) i (eq-eqb m.node n e), last_reached t kept.known.inv.ordered holds from_Each by_all n)

-- No replaying node takes one of them.
pub none_in_replay : NoneInReplay
none_in_replay plan before frames bytes each-before each-frame z quiet f number b is again =
    let t = trace_from (no_trace (story_from (start_of (initial_line (plan_of plan))) before).line) frames in
    go t (plan_of plan) (trace_kept (plan_of plan) frames (no_trace (story_from (start_of (initial_line (plan_of plan))) before).line) each-frame quiet (start_kept plan before bytes each-before z)) number again
  where
    go : (t : Trace) (p : Plan) → Kept p t → (step t.line f).number ≡ 0 → (node_at t.line (receiver_of t.line b)).status ≡ replay → new_took t.line t.followed (frame_of f) ≡ []
    go t p kept number again =
        let l = t.line in
        let q = sym kept.plan in
        let can = can_take (subst (Passed l (frame_console f)) is (passed l f (accepted l number))) in
        let holds = subst (λ (x : Plan). Holds x l t.followed t.took) q kept.holds in
        let shaped = subst (λ (x : Plan). Shaped x l) q kept.shaped in
        ap (new_took l t.followed) is ∙ ap (took_first l b t.followed) can.first ∙ none (is_followed t.followed (sender_of l b) can.message.time) (record { channel = b; time = can.message.time }) (none-again l kept.known b can t.followed t.took shaped holds again)
      where
        accepted : (l : Line) → (step l f).number ≡ 0 → refusal l f ≡ 0
        accepted l e = elim (ℕ_discrete (refusal l f) 0) [ yes q ↦ q | no d ↦ absurd ((step_refused l f d).0 e) ]

        none : (x : Bool) (o : FollowedTake) → (x ≡ true → ⊥) → keep_one x o [] ≡ []
        none true o d = absurd (d refl)
        none false o d = refl
