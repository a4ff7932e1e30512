-- A node that no accepted Crash named is up, and its time counts the records of its that get one.
use Prim.Native.Nat.{ℕ, suc, ◌+◌, ◌<◌}
use mathlib.Core.Path.{◌≡◌, refl, sym, ap, subst, ◌∙◌}
use mathlib.Core.Logic.{◌≢◌, ◌⊎◌, inl, inr}
use mathlib.Core.Bool.{Bool, true, false, cond, true≢false}
use mathlib.Core.List.{List, [], ◌∷◌, ◌++◌, map}
use mathlib.Core.Option.{Option, none, some}
use native.Mathlib.Omega.{arith}
use native.Mathlib.Decide.{ℕ_discrete}
use lib.ListN.{length, length-append, length-replicate}
use lib.Dec.{eqb}
use borrow.Author.Tests.{eq-eqb, ne_eqb}
use Rattle.basics.specs.Bools.{neither_true}
use Rattle.plan.specs.declared.Record.{Record}
use Rattle.plan.specs.Record.{record_layout}
use Rattle.plan.specs.Rule.{applied}
use Rattle.plan.specs.Plan.{Plan, node_count, rule_at, plan_of}
use Rattle.plan.specs.Mask.{set_of}
use Rattle.basics.specs.Replicate.{replicate_default}
use Rattle.rules.specs.Lists.{keep, keep_one}
use Rattle.rules.specs.Line.{Message, is_replay, Node, fresh_node, Line, initial_line, node_at, lane_at, receiver_of, with_node, with_lane, counted}
use Rattle.rules.specs.Line as line
use Rattle.rules.specs.Frame.{Frame, feed, send, take, crash, recover, trim, ask, commit, frame_console, frame_of}
use Rattle.rules.specs.Clock.{logged}
use Rattle.rules.specs.Replay.{timed, time_for}
use Rattle.rules.specs.Step.{made_by, fed_line, taken_up, taken_lane, taken_first, taken_line, effect, accepted, refusal, step}
use Rattle.rules.specs.Plain.{Act, feeds, takes_from, Receipt}
use Rattle.rules.specs.Claim.{Story, start_of, told, story_from, named, received_by, first_receipt, receipt_of, feed_of, crash_of}
use Rattle.rules.specs.Times.{counts, fed_to, times_of, TimeCounts, TimesCount}
use Rattle.rules.proofs.Lists.ListLaws.{keep_append, map-append}
use Rattle.rules.proofs.Lists.Members.{in_left, in_right, none_any}
use Rattle.rules.proofs.Lists.Options.{some_same}
use Rattle.rules.proofs.Line.LineLaws.{node_there, nodes_long}
use Rattle.rules.proofs.Histories.Passing.{timed-counts}
use Rattle.rules.proofs.Invariant.Inv.{is_up}
use Rattle.rules.proofs.Invariant.InvLaws.{up_not_down}
use Rattle.rules.proofs.Invariant.Trimmed.{trimmed_is, trimmed_node}
use Rattle.rules.proofs.Undamaged.TestLaws.{none_by}
use Rattle.rules.proofs.Theorem.Accepted.{Passed, passed, can_take, can_recover, can_ask, can_commit, step-accepted, step_refused}
use Rattle.rules.proofs.Theorem.StepInv.{first_up}
use Rattle.rules.proofs.Theorem.Unmoved.{own_node, IfThere, effect-keeps, any_node, step-plan}
use Rattle.rules.proofs.Theorem.OwnNode.{effect_else}
use Rattle.rules.proofs.Order.{if_accepted, if_refused, story_plan}

-- ---- counting what comes to what was there

fed_more : (n : ℕ) (xs ys : List Act) → fed_to n (xs ++ ys) ≡ fed_to n xs ++ fed_to n ys
fed_more n [] ys = refl
fed_more n (feeds m r ∷ xs) ys = one (eqb m n) (fed_more n xs ys)
  where
    one : (t : Bool) → fed_to n (xs ++ ys) ≡ fed_to n xs ++ fed_to n ys → ◌≡◌ {A = List Record} (elim t [ true ↦ r ∷ fed_to n (xs ++ ys) | false ↦ fed_to n (xs ++ ys) ]) ((elim t [ true ↦ r ∷ fed_to n xs | false ↦ fed_to n xs ]) ++ fed_to n ys)
    one true e = ap (λ (rs : List Record). r ∷ rs) e
    one false e = e
fed_more n (takes_from b ∷ xs) ys = fed_more n xs ys

abbrev took_by : ℕ → List Receipt → List Record
took_by n receipts = map (λ (r : Receipt). r.what) (received_by n receipts)

took_more : (n : ℕ) (xs ys : List Receipt) → took_by n (xs ++ ys) ≡ took_by n xs ++ took_by n ys
took_more n xs ys =
    let what : Receipt → Record = λ r. r.what in
    ap (map what) (keep_append (λ (r : Receipt). eqb r.receiver n) xs ys) ∙ map-append what (received_by n xs) (received_by n ys)

-- How often some feeds and receipts raise a node's time.
abbrev rises : Plan → ℕ → List Act → List Receipt → ℕ
rises p n fed receipts = times_of p n (fed_to n fed) + times_of p n (took_by n receipts)

module _ (p : Plan) (n : ℕ) where
  times_more : (xs ys : List Record) → times_of p n (xs ++ ys) ≡ times_of p n xs + times_of p n ys
  times_more xs ys = ap length (keep_append (counts p n) xs ys) ∙ length-append (keep (counts p n) xs) (keep (counts p n) ys)

  rises_more : (fed more : List Act) (receipts then : List Receipt) → rises p n (fed ++ more) (receipts ++ then) ≡ rises p n fed receipts + rises p n more then
  rises_more fed more receipts then =
      (λ i. times_of p n (fed_more n fed more i) + times_of p n (took_more n receipts then i))
      ∙ omega (arith, times_more (fed_to n fed) (fed_to n more), times_more (took_by n receipts) (took_by n then))

  -- One record of the node's own.
  next_time : (r : Record) (t : ℕ) → time_for p n (applied (rule_at p n) r) t ≡ t + times_of p n (r ∷ [])
  next_time r t = one (timed p n (applied (rule_at p n) r)) ∙ ap (λ (x : Bool). t + length (keep_one x r [])) (timed-counts p n r)
    where
      one : (x : Bool) → cond x (suc t) t ≡ t + length (keep_one x r [])
      one true = omega arith
      one false = omega arith

-- ---- a step

-- How often an accepted frame raises a node's time.
abbrev rise : Line → ℕ → Frame → ℕ
rise l n f = rises l.plan n (feed_of f) (receipt_of l f)

-- Up, and so much later.
abbrev Risen : Line → ℕ → Line → ℕ → Type 0
Risen l n k t = is_up k n × ((node_at k n).time ≡ (node_at l n).time + t)

-- A frame of another node.
module _ (l : Line) (n : ℕ) where
  fed_other : (m : ℕ) (r : Record) → n ≢ m → fed_to n (feeds m r ∷ []) ≡ []
  fed_other m r d = rw (ne_eqb m n (λ e. d (sym e)), fed_to)

  took_other : (b : ℕ) (queue : List Message) → n ≢ receiver_of l b → took_by n (first_receipt l b queue) ≡ []
  took_other b [] d = refl
  took_other b (m ∷ rest) d = rw (ne_eqb (receiver_of l b) n (λ e. d (sym e)))

  no_rise : (f : Frame) → IfThere (λ (m : ℕ). n ≢ m) (own_node l f) → rise l n f ≡ 0
  no_rise (feed m r) d = ap (λ (rs : List Record). times_of l.plan n rs + 0) (fed_other m (record_layout.read r) d)
  no_rise (send b) d = refl
  no_rise (take b) d = ap (λ (rs : List Record). 0 + times_of l.plan n rs) (took_other b (lane_at l b).queue d)
  no_rise (crash m) d = refl
  no_rise (recover m) d = refl
  no_rise (trim m) d = refl
  no_rise (ask m) d = refl
  no_rise (commit m) d = refl

  else_risen : (f : Frame) {k : Line} → is_up l n → IfThere (λ (m : ℕ). n ≢ m) (own_node l f) → effect l f ≡ some k → Risen l n k (rise l n f)
  else_risen f alive d e =
      let same = effect_else n l f d e in
      (ap (λ (x : Node). x.status) same ∙ alive, ap (λ (x : Node). x.time) same ∙ omega (arith, no_rise f d))

-- A frame of the node's own.
fed_risen : (l : Line) (n : ℕ) (r : List ℕ) → n < length l.nodes → is_up l n → Risen l n (fed_line n r l) (rise l n (feed n r))
unfolding fed_line logged
fed_risen l n r there alive =
    let (stands_up, time) = one (timed l.plan n what) in
    (stands_up, time ∙ next_time l.plan n (record_layout.read r) (node_at l n).time ∙ omega (arith, ap (times_of l.plan n) own))
  where
    what : Record
    what = made_by l n (record_layout.read r)

    own : fed_to n (feeds n (record_layout.read r) ∷ []) ≡ record_layout.read r ∷ []
    own = rw (eq-eqb n n refl, fed_to)

    x : Node
    x = logged (suc (node_at l n).time) (set_of l.plan n what) what line.fed line.fed (node_at l n)

    one : (t : Bool) → (let k : Line = elim t [ true ↦ with_node n x l | false ↦ l ] in is_up k n × ((node_at k n).time ≡ cond t (suc (node_at l n).time) (node_at l n).time))
    one true = let now = node_there n x l there in (ap (λ (y : Node). y.status) now ∙ alive, ap (λ (y : Node). y.time) now)
    one false = (alive, refl)

took_risen : (l : Line) (b : ℕ) (m : Message) (rest : List Message) → (lane_at l b).queue ≡ m ∷ rest → (let n = receiver_of l b in n < length l.nodes → is_up l n → Risen l n (taken_up b m (taken_lane b m rest l)) (rise l n (take b)))
unfolding taken_up taken_lane with_lane logged
took_risen l b m rest first there alive =
    let n = receiver_of l b in
    let now = node_there n _ (taken_lane b m rest l) there in
    let own : took_by n (receipt_of l (take b)) ≡ m.what ∷ [] = ap (λ (q : List Message). took_by n (first_receipt l b q)) first ∙ rw (eq-eqb n n refl) in
    (ap (λ (x : Node). x.status) now ∙ alive, ap (λ (x : Node). x.time) now ∙ next_time l.plan n m.what (node_at l n).time ∙ omega (arith, ap (times_of l.plan n) own))

-- A node that is up, named by no Crash.
abbrev OwnRisen : Line → Line → Frame → ℕ → Type 0
OwnRisen l k f n = n < length l.nodes → is_up l n → named n (crash_of f) ≡ false → Risen l n k (rise l n f)

own_risen : (l : Line) {c : ℕ} (f : Frame) {k : Line} → Passed l c f → effect l f ≡ some k → IfThere (OwnRisen l k f) (own_node l f)
unfolding effect taken_line
own_risen l (feed n r) p e = λ there alive _. subst (λ (k : Line). Risen l n k (rise l n (feed n r))) (some_same e) (fed_risen l n r there alive)
own_risen l (send b) p e = tt
own_risen l (take b) p e =
    let can = can_take p in
    let n = receiver_of l b in
    λ there alive _.
    subst (λ (k : Line). Risen l n k (rise l n (take b))) (some_same (sym (first_up b can.message can.rest l (ap is_replay alive)) ∙ ap (λ (q : List Message). taken_first b q l) (sym can.first) ∙ e))
    (took_risen l b can.message can.rest can.first there alive)
own_risen l (crash n) p e = λ _ _ free. absurd (true≢false (sym (eq-eqb n n refl) ∙ (neither_true (eqb n n) false free).0))
own_risen l (recover n) p e = λ _ alive _. absurd (up_not_down (sym alive ∙ (can_recover p).stopped))
own_risen l (trim n) p e =
    λ there alive _.
    (let now = ap (λ (x : Line). node_at x n) (sym (some_same e) ∙ trimmed_is l n) ∙ trimmed_node l n there in
    (ap (λ (x : Node). x.status) now ∙ alive, ap (λ (x : Node). x.time) now ∙ omega arith))
own_risen l (ask n) p e = λ _ alive _. absurd (up_not_down (sym alive ∙ (can_ask p).stopped))
own_risen l (commit n) p e = λ _ alive _. absurd (up_not_down (sym alive ∙ (can_commit p).stopped))

-- The frame's own node, or another.
own_or_else : (own : ℕ → Type 0) (n : ℕ) (o : Option ℕ) → IfThere own o → own n ⊎ IfThere (λ (m : ℕ). n ≢ m) o
own_or_else own n none h = inr tt
own_or_else own n (some m) h = elim (ℕ_discrete n m) [ yes q ↦ inl (subst own (sym q) h) | no d ↦ inr d ]

effect_risen : (l : Line) (n : ℕ) {c : ℕ} (f : Frame) {k : Line} → Passed l c f → effect l f ≡ some k → OwnRisen l k f n
effect_risen l n f {k} p e there alive free = elim (own_or_else (OwnRisen l k f) n (own_node l f) (own_risen l f p e)) [ inl own ↦ own there alive free | inr d ↦ else_risen l n f alive d e ]

as_many : (l : Line) (f : Frame) {k : Line} → effect l f ≡ some k → length k.nodes ≡ length l.nodes
unfolding with_lane
as_many l f e = effect-keeps (λ k. length k.nodes) (λ n. Unit {0}) (λ n x k _. nodes_long n x k) (λ b x k. refl) l f (any_node (own_node l f)) e

-- ---- a list of frames

-- The node is there, and up with its time counted as long as no Crash names it.
abbrev Counting : ℕ → Line → List Act → List Receipt → List ℕ → Type 0
Counting n l fed receipts crashes = (n < length l.nodes) × (named n crashes ≡ false → is_up l n × ((node_at l n).time ≡ rises l.plan n fed receipts))

module _ (l : Line) (n : ℕ) (fed : List Act) (receipts : List Receipt) (crashes : List ℕ) (h : Counting n l fed receipts crashes) (f : List ℕ) where
  step_counting : refusal l f ≡ 0 → Counting n (step l f).line (fed ++ feed_of (frame_of f)) (receipts ++ receipt_of l (frame_of f)) (crashes ++ crash_of (frame_of f))
  unfolding counted
  step_counting e =
      let p = passed l f e in
      let k = p.next in
      let x = frame_of f in
      let is : (step l f).line ≡ counted (frame_console f) k = (step-accepted l f e).1 ∙ ap (accepted (frame_console f) l) p.leads in
      let long : length k.nodes ≡ length l.nodes = as_many l x p.leads in
      let plan : (step l f).line.plan ≡ l.plan = step-plan l f in (
        rw is (omega (arith, long, h.0)),
        λ free.
            (let before = h.1 (none_by (eqb n) crashes (λ m i. none_any (eqb n) free (in_left (crash_of x) i))) in
            let (stands_up, time) = effect_risen l n x p p.leads h.0 before.0 (none_by (eqb n) (crash_of x) (λ m i. none_any (eqb n) free (in_right crashes i))) in
            rw (plan, is) (stands_up, time ∙ omega (arith, before.1, rises_more l.plan n fed (feed_of x) receipts (receipt_of l x)))),
      )

told_counting : (n : ℕ) (s : Story) (f : List ℕ) → Counting n s.line s.fed_acts s.receipts s.crashes → (let t = told s f in Counting n t.line t.fed_acts t.receipts t.crashes)
unfolding told
told_counting n s f h =
    let l = s.line in
    let number = (step l f).number in
    let x = frame_of f in
    elim (ℕ_discrete (refusal l f) 0) [
      | yes e ↦ (let zero = (step-accepted l f e).0 in rw (if_accepted number (feed_of x) s.fed_acts zero, if_accepted number (receipt_of l x) s.receipts zero, if_accepted number (crash_of x) s.crashes zero) (step_counting l n s.fed_acts s.receipts s.crashes h f e))
      | no d ↦ (let (refused, same) = step_refused l f d in rw (if_refused number (feed_of x) s.fed_acts refused, if_refused number (receipt_of l x) s.receipts refused, if_refused number (crash_of x) s.crashes refused, same) h)
    ]

all_counting : (n : ℕ) (fs : List (List ℕ)) (s : Story) → Counting n s.line s.fed_acts s.receipts s.crashes → (let t = story_from s fs in Counting n t.line t.fed_acts t.receipts t.crashes)
all_counting n [] s h = h
all_counting n (f ∷ fs) s h = all_counting n fs (told s f) (told_counting n s f h)

pub times_count : TimesCount
unfolding initial_line
times_count plan frames n inside =
    let p = plan_of plan in
    let start = start_of (initial_line p) in
    let fresh : node_at (initial_line p) n ≡ fresh_node = replicate_default (node_count p) n fresh_node in
    let first : Counting n (initial_line p) [] [] [] = (omega (arith, inside, length-replicate (node_count p) fresh_node), λ _. (ap (λ (x : Node). x.status) fresh, ap (λ (x : Node). x.time) fresh)) in
    λ free. subst (λ (q : Plan). TimeCounts q n (story_from start frames)) (story_plan frames start) ((all_counting n frames start first).1 free).1
