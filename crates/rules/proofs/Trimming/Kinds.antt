-- The steps other than Trim, taken by a line and by the same with more trimmed.
use Prim.Native.Nat.{ℕ, ◌-◌, ◌<◌, ◌≤◌}
use mathlib.Core.Path.{◌≡◌, refl, sym, ap, subst, fun_ext, ◌∙◌}
use mathlib.Core.Logic.{◌≢◌, inl, inr}
use mathlib.Core.Bool.{Bool, true, false, true≢false}
use mathlib.Core.List.{List, [], ◌∷◌, ◌++◌, append_assoc, cons≢nil, map}
use mathlib.Core.Option.{Option, none, some}
use native.Mathlib.Omega.{arith}
use native.Mathlib.Decide.{ℕ_discrete}
use lib.ListN.{length, replicate}
use Rattle.basics.specs.Update.{changed, changed_there, changed_else}
use Rattle.plan.specs.declared.Record.{Record}
use Rattle.plan.specs.Plan.{channel_at, node_count, channel_count, entering, leaving, is_sink}
use Rattle.rules.specs.Lists.{is_empty}
use Rattle.rules.specs.Line.{Origin, Message, Entry, Held, Target, Asked, down, Node, Lane, Line, node_at, lane_at, parents, sender_of, receiver_of, with_node, with_lane, with_lanes, fresh_lane}
use Rattle.rules.specs.Clock.{logged, next_to_send, sent_on, taken_from}
use Rattle.rules.specs.Recover.{low_of, high_of, answer_of, targets_of, conflict, rows_complete, restored, status_of, recovered}
use Rattle.rules.specs.Replay.{passed_on, holding, replay_end, ended_if_complete}
use Rattle.rules.specs.Trim.{low_after}
use Rattle.rules.specs.Step.{made_by, sendable, taken_lane, taken_replaying, crashed_line, recovered_line, asking, asked_line}
use Rattle.rules.specs.Plain.{Act, Receipt}
use Rattle.rules.proofs.Lists.Members.{In, in_none, in_left}
use Rattle.rules.proofs.Lists.Options.{some_same, none_some}
use Rattle.rules.proofs.Histories.Ghost.{Ghost}
use Rattle.rules.proofs.Invariant.Inv.{Enters, Leaves, Shape, UnmarkedChildren, Inv}
use Rattle.rules.proofs.Invariant.InvLaws.{up_not_down, replay_not_down, marked_unless_up}
use Rattle.rules.proofs.Invariant.MarkedLaws.{at-ends, parent_unmarked, child_unmarked, own}
use Rattle.rules.proofs.Invariant.Stays.{moved}
use Rattle.rules.proofs.Undamaged.Crashed.{emptied, crashed_after, crashed_is, crashed_node, crashed_else, crashed_enters, crashed_leaves, crashed_beside}
use Rattle.rules.proofs.Undamaged.Restored.{restored_node, restored_line, recovered_is, restored-node, restored_else, restored_shape, restored_enters, restored_leaves, restored-beside}
use Rattle.rules.proofs.Trimming.Alike.{bare, thin, strip, same_node, same_lane, strip_node, strip_lanes, high_strip, complete_strip, placed_as, end_alike}
use Rattle.rules.proofs.Trimming.Restores.{Thinner, next_skips, low_alike, targets_alike, restored_alike}
use Rattle.rules.proofs.Trimming.Phases.{shape_alike, thinner_by, thinner_lane, thinner_node}

none_left : {A : Type 0} (xs ys : List A) → [] ≡ xs ++ ys → xs ≡ []
none_left [] ys e = refl
none_left (x ∷ xs) ys e = absurd (cons≢nil (sym e))

-- A replay that may end, of a node without a log.
module _ (k u : Line) (thinner : Thinner k u) (shape : Shape u) (n : ℕ) (inside : n < node_count u.plan) (bare-log : (node_at u n).log ≡ []) (stands : (node_at u n).status ≢ down) where
  pub ended_thinner : (k' u' : Line) → ended_if_complete n k ≡ some k' → ended_if_complete n u ≡ some u' → Thinner k' u'
  unfolding ended_if_complete
  ended_thinner k' u' ek eu = go (rows_complete u n) (sym (λ i. end_by k (complete i)) ∙ ek) eu
    where
      end_by : Line → Bool → Option Line
      end_by l t = elim t [ true ↦ replay_end n l | false ↦ some l ]

      complete : rows_complete k n ≡ rows_complete u n
      complete = sym (complete_strip n k) ∙ ap (λ (s : Line). rows_complete s n) thinner.alike ∙ complete_strip n u

      go : (t : Bool) → end_by k t ≡ some k' → end_by u t ≡ some u' → Thinner k' u'
      go false x y = subst (λ (l : Line). Thinner l u') (some_same x) (subst (Thinner k) (some_same y) thinner)
      go true x y =
          let e = end_alike n k u k' u' thinner.alike x y in
          let gone : thinner.gone n ≡ [] = none_left (thinner.gone n) (node_at k n).log (sym bare-log ∙ thinner.logs n) in
          subst (λ (l : Line). Thinner l u') e.left (subst (Thinner (with_node n (placed_as n k e.columns) k)) e.right
          (thinner_node k u thinner shape n (placed_as n k e.columns) (placed_as n u e.columns) inside (ap bare e.same) (ap (λ (x : Node). x.log) (sym e.same) ∙ ap (λ (x : List Entry). x ++ (placed_as n k e.columns).log) (sym gone)) refl (λ d. stands)
          (λ d i. absurd (in_none (subst (λ (x : List Entry). In d x) bare-log i)))))

module _ (u : Line) (steps : List ℕ) (nodes : List Node) (lanes : List Lane) (thinner : Thinner (moved u steps nodes lanes) u) (shape : Shape u) where
  abbrev k : Line
  k = moved u steps nodes lanes

  -- A node logs.
  pub logs_thinner : (n at chosen : ℕ) (what : Record) (origin before : Origin) → n < node_count u.plan
      → Thinner (with_node n (logged at chosen what origin before (node_at (moved u steps nodes lanes) n)) (moved u steps nodes lanes)) (with_node n (logged at chosen what origin before (node_at u n)) u)
  unfolding logged
  logs_thinner n at chosen what origin before inside =
      thinner_node k u thinner shape n (logged at chosen what origin before (node_at k n)) (logged at chosen what origin before (node_at u n)) inside (ap (λ (x : Node). bare (logged at chosen what origin before x)) same)
      (ap (λ (x : List Entry). x ++ entry ∷ []) (thinner.logs n) ∙ append_assoc (thinner.gone n) (node_at k n).log (entry ∷ []))
      refl (λ d z. d z) (λ d i. in_left (entry ∷ []) i)
    where
      same : bare (node_at k n) ≡ bare (node_at u n)
      same = same_node k u thinner.alike n

      entry : Entry
      entry = record { what = what; time = at; origin = origin; before = before; set = chosen }

  -- A message goes on a channel.
  pub sends_thinner : (b : ℕ) (e : Entry) → b < channel_count u.plan → Thinner (with_lane b (sent_on e (lane_at (moved u steps nodes lanes) b)) (moved u steps nodes lanes)) (with_lane b (sent_on e (lane_at u b)) u)
  unfolding sent_on
  sends_thinner b e inside = thinner_lane k u thinner shape b (sent_on e (lane_at k b)) (sent_on e (lane_at u b)) inside (ap (λ (s : Lane). thin (sent_on e s)) (same_lane k u thinner.alike b)) refl refl (omega arith)

  -- What a Send would send is the same, where nothing that is gone is past the mark.
  pub sendable_alike : (b : ℕ) → ((e : Entry) → In e (thinner.gone (channel_at u.plan b).sender) → e.time ≤ (lane_at u b).mark) → sendable (moved u steps nodes lanes) b ≡ sendable u b
  unfolding sendable
  sendable_alike b early =
      let s = (channel_at u.plan b).sender in
      ap (λ (t : ℕ). next_to_send (channel_at u.plan b) t (node_at k s).log) (ap (λ (x : Lane). x.mark) (same_lane k u thinner.alike b))
      ∙ sym (ap (next_to_send (channel_at u.plan b) (lane_at u b).mark) (thinner.logs s) ∙ next_skips (channel_at u.plan b) (lane_at u b).mark (thinner.gone s) (node_at k s).log early)

  -- A message is taken from its channel.
  pub takes_thinner : (b : ℕ) (m : Message) (rest : List Message) → b < channel_count u.plan → Thinner (taken_lane b m rest (moved u steps nodes lanes)) (taken_lane b m rest u)
  unfolding taken_lane taken_from
  takes_thinner b m rest inside =
      let ps = parents u.plan (sender_of u b) in
      thinner_lane k u thinner shape b (taken_from ps m rest (lane_at k b)) (taken_from ps m rest (lane_at u b)) inside (ap (λ (s : Lane). thin (taken_from ps m rest s)) (same_lane k u thinner.alike b)) refl refl (omega arith)

  -- A replaying node holds or drops it.
  pub holds_thinner : (b : ℕ) (m : Message) → receiver_of u b < node_count u.plan → Thinner (taken_replaying b m (moved u steps nodes lanes)) (taken_replaying b m u)
  unfolding taken_replaying holding
  holds_thinner b m inside = go (passed_on u.plan n (made_by u n m.what))
    where
      n : ℕ
      n = receiver_of u b

      h : Held
      h = record { what = made_by u n m.what; sender = sender_of u b; time = m.time; before = m.origin }

      go : (t : Bool) → Thinner (elim t [ true ↦ with_node n (holding h (node_at k n)) k | false ↦ k ]) (elim t [ true ↦ with_node n (holding h (node_at u n)) u | false ↦ u ])
      go true = thinner_node k u thinner shape n (holding h (node_at k n)) (holding h (node_at u n)) inside (ap (λ (x : Node). bare (holding h x)) (same_node k u thinner.alike n)) (thinner.logs n) refl (λ d z. d z) (λ d i. i)
      go false = thinner

-- A node is emptied or restored, its entering channels made fresh and its leaving ones marked.
module _ (u : Line) (steps : List ℕ) (nodes : List Node) (lanes : List Lane) (k l : Line) (thinner : Thinner k u) (n : ℕ) where
  abbrev v : Line
  v = moved u steps nodes lanes

  abbrev left : ℕ → List Entry
  left = changed thinner.gone n []

  pub swept_thinner : strip l ≡ strip (moved u steps nodes lanes) → (node_at (moved u steps nodes lanes) n).log ≡ [] → (node_at l n).log ≡ [] → (node_at (moved u steps nodes lanes) n).crashed ≡ true
      → ((m : ℕ) → m ≢ n → node_at (moved u steps nodes lanes) m ≡ node_at u m) → ((m : ℕ) → m ≢ n → node_at l m ≡ node_at k m)
      → ((c : ℕ) → Enters u.plan n c → (lane_at l c).low ≡ (lane_at (moved u steps nodes lanes) c).low)
      → ((c : ℕ) → c < channel_count u.plan → (channel_at u.plan c).receiver ≢ n → ((lane_at (moved u steps nodes lanes) c).low ≡ (lane_at u c).low) × ((lane_at (moved u steps nodes lanes) c).taken ≡ (lane_at u c).taken) × ((lane_at l c).low ≡ (lane_at k c).low))
      → ((m : ℕ) (e : Entry) → In e (thinner.gone m) → (c : ℕ) → Leaves u.plan m c → (channel_at u.plan c).receiver ≡ n → (node_at (moved u steps nodes lanes) n).status ≢ down → e.time ≤ (lane_at (moved u steps nodes lanes) c).taken)
      → Thinner l (moved u steps nodes lanes)
  swept_thinner alike empty empty-too marked other other-too fresh beside back =
      thinner_by u steps nodes lanes k l thinner left fewer
      (record {
        marks = λ m e. ap (λ (x : Node). x.crashed) (sym (other m (unmarked m e))) ∙ e;
        entries = λ c h e. omega (arith, (beside c h (unmarked (channel_at u.plan c).receiver e)).1);
        lows = λ c h e. (beside c h (unmarked (channel_at u.plan c).receiver e)).0;
        entered = λ m e d i. subst (λ (x : Node). In d x.log) (sym (other m (unmarked m e))) i;
      })
      alike
      (λ m. elim (ℕ_discrete m n) [
        | yes q ↦ subst (λ (x : ℕ). (node_at v x).log ≡ left x ++ (node_at l x).log) (sym q) (empty ∙ sym (ap (λ (x : List Entry). x ++ (node_at l n).log) (changed_there thinner.gone n [] n refl) ∙ empty-too))
        | no d ↦ ap (λ (x : Node). x.log) (other m d) ∙ thinner.logs m ∙ sym (λ i. changed_else thinner.gone n [] m d i ++ (other-too m d i).log)
      ])
      (λ b h. elim (ℕ_discrete (channel_at u.plan b).receiver n) [
        | yes q ↦ fresh b (h, q) ∙ ap (λ (x : List Entry). low_after (parents u.plan (sender_of u b)) (sender_of u b) x (lane_at v b).low) (sym (changed_there thinner.gone n [] (receiver_of u b) q))
        | no d ↦ (beside b h d).2 ∙ thinner.lows b h ∙ sym (λ i. low_after (parents u.plan (sender_of u b)) (sender_of u b) (changed_else thinner.gone n [] (receiver_of u b) d i) ((beside b h d).0 i))
      ])
      (λ m e i c h d. elim (ℕ_discrete (channel_at u.plan c).receiver n) [
        | yes q ↦ inr (back m e (fewer m e i) c h q (λ z. d (ap (λ (x : ℕ). (node_at v x).status) q ∙ z)))
        | no a ↦ inl (λ z. d (ap (λ (x : Node). x.status) (other (channel_at u.plan c).receiver a) ∙ z), omega (arith, (beside c h.0 a).1))
      ])
    where
      unmarked : (m : ℕ) → (node_at v m).crashed ≡ false → m ≢ n
      unmarked m e q = true≢false (sym (ap (λ (x : ℕ). (node_at v x).crashed) q ∙ marked) ∙ e)

      fewer : (m : ℕ) (e : Entry) → In e (left m) → In e (thinner.gone m)
      fewer m e i =
          elim (ℕ_discrete m n) [
            | yes q ↦ absurd (in_none (subst (λ (x : List Entry). In e x) (changed_there thinner.gone n [] m q) i))
            | no d ↦ subst (λ (x : List Entry). In e x) (changed_else thinner.gone n [] m d) i
          ]

-- Crash and Recover, of what is stripped.
abbrev crashed_as : ℕ → Line → Line
crashed_as n s = with_lanes (λ (b : ℕ) (x : Lane). thin (fresh_lane s.plan (channel_at s.plan b) 0)) (entering s.plan n) (with_lanes (λ (b : ℕ) (x : Lane). thin (record { mark = 0; taken = x.taken; heard = x.heard; queue = []; low = x.low })) (leaving s.plan n) (with_node n (bare emptied) s))

strip_crashed : (n : ℕ) (l : Line) → strip (crashed_line n l) ≡ crashed_as n (strip l)
unfolding crashed_line
strip_crashed n l =
    let left : ℕ → Lane → Lane = λ c s. record { mark = 0; taken = s.taken; heard = s.heard; queue = []; low = s.low } in
    strip_lanes (λ (c : ℕ) (s : Lane). fresh_lane l.plan (channel_at l.plan c) 0) (λ b s. refl) (entering l.plan n) (with_lanes left (leaving l.plan n) (with_node n emptied l))
    ∙ ap (with_lanes (λ (b : ℕ) (x : Lane). thin (fresh_lane l.plan (channel_at l.plan b) 0)) (entering l.plan n)) (strip_lanes left (λ b s. refl) (leaving l.plan n) (with_node n emptied l) ∙ ap (with_lanes (λ (b : ℕ) (x : Lane). thin (record { mark = 0; taken = x.taken; heard = x.heard; queue = []; low = x.low })) (leaving l.plan n)) (strip_node n emptied l))

abbrev restored_from : ℕ → ℕ → List Target → (ℕ → ℕ) → Line → Line
restored_from n low ts entry s =
    with_lanes (λ (b : ℕ) (x : Lane). thin (fresh_lane s.plan (channel_at s.plan b) (entry (channel_at s.plan b).sender))) (entering s.plan n)
    (with_lanes (λ (b : ℕ) (x : Lane). thin (record { mark = x.taken; taken = x.taken; heard = x.heard; queue = x.queue; low = x.low })) (leaving s.plan n)
    (with_node n (record { status = status_of ts; crashed = true; time = low; log = []; held = []; targets = ts; asked = none }) s))

strip_recovered : (n : ℕ) (l : Line) → strip (recovered n l) ≡ restored_from n (low_of l n) (targets_of l n) (restored l n) (strip l)
unfolding recovered
strip_recovered n l =
    let marked : ℕ → Lane → Lane = λ c s. record { mark = s.taken; taken = s.taken; heard = s.heard; queue = s.queue; low = s.low } in
    strip_lanes (λ (c : ℕ) (s : Lane). fresh_lane l.plan (channel_at l.plan c) (restored l n (sender_of l c))) (λ b s. refl) (entering l.plan n) (with_lanes marked (leaving l.plan n) (with_node n (restored_node l n) l))
    ∙ ap (with_lanes (λ (b : ℕ) (x : Lane). thin (fresh_lane l.plan (channel_at l.plan b) (restored l n (channel_at l.plan b).sender))) (entering l.plan n))
    (strip_lanes marked (λ b s. refl) (leaving l.plan n) (with_node n (restored_node l n) l) ∙ ap (with_lanes (λ (b : ℕ) (x : Lane). thin (record { mark = x.taken; taken = x.taken; heard = x.heard; queue = x.queue; low = x.low })) (leaving l.plan n)) (strip_node n (restored_node l n) l))

module _ (u : Line) (steps : List ℕ) (nodes : List Node) (lanes : List Lane) (thinner : Thinner (moved u steps nodes lanes) u) (g : Ghost) (cut base : ℕ → ℕ) (acts : List Act) (receipts : List Receipt) (crashes : List ℕ) (inv : Inv u g cut base acts receipts crashes) (n : ℕ) (inside : n < node_count u.plan) where
  abbrev w : Line
  w = moved u steps nodes lanes

  shape : Shape w
  shape = shape_alike w u thinner.alike inv.shape

  pub crash_thinner : Thinner (crashed_line n (moved u steps nodes lanes)) (crashed_line n u)
  unfolding fresh_lane
  crash_thinner =
      subst (Thinner (crashed_line n w)) (sym (crashed_is u n inv.ordered inv.shape)) (subst (λ (x : Line). Thinner x (crashed_after u n)) (sym (crashed_is w n inv.ordered shape))
      (swept_thinner u u.steps (crashed_after u n).nodes (crashed_after u n).lanes w (crashed_after w n) thinner n
      (ap strip (sym (crashed_is w n inv.ordered shape)) ∙ strip_crashed n w ∙ ap (crashed_as n) thinner.alike ∙ sym (strip_crashed n u) ∙ ap strip (crashed_is u n inv.ordered inv.shape))
      (ap (λ (x : Node). x.log) (crashed_node u n inv.ordered inv.shape inside)) (ap (λ (x : Node). x.log) (crashed_node w n inv.ordered shape inside)) (ap (λ (x : Node). x.crashed) (crashed_node u n inv.ordered inv.shape inside))
      (crashed_else u n inv.ordered inv.shape) (crashed_else w n inv.ordered shape)
      (λ c h. ap (λ (s : Lane). s.low) (crashed_enters w n inv.ordered shape c h) ∙ sym (ap (λ (s : Lane). s.low) (crashed_enters u n inv.ordered inv.shape c h)))
      (λ c h d. at-ends u.plan n c h (λ z. absurd (d z.1))
      (λ z. (ap (λ (s : Lane). s.low) (crashed_leaves u n inv.ordered inv.shape c z), ap (λ (s : Lane). s.taken) (crashed_leaves u n inv.ordered inv.shape c z), ap (λ (s : Lane). s.low) (crashed_leaves w n inv.ordered shape c z)))
      (λ a b. (ap (λ (s : Lane). s.low) (crashed_beside u n inv.ordered inv.shape c a b), ap (λ (s : Lane). s.taken) (crashed_beside u n inv.ordered inv.shape c a b), ap (λ (s : Lane). s.low) (crashed_beside w n inv.ordered shape c a b))))
      (λ m e i c h q d. absurd (d (ap (λ (x : Node). x.status) (crashed_node u n inv.ordered inv.shape inside))))))

  module _ (is_down_lem : (node_at u n).status ≡ down) where
    marked : (node_at u n).crashed ≡ true
    marked = marked_unless_up inv.marks n (λ e. up_not_down (sym e ∙ is_down_lem))

    children : UnmarkedChildren u n
    children = child_unmarked inv n marked

    restoring : low_of w n ≡ low_of u n
    restoring = low_alike u steps nodes lanes thinner g cut base acts receipts crashes inv n children (own inv n marked)

    targets : targets_of w n ≡ targets_of u n
    targets = targets_alike u steps nodes lanes thinner g cut base acts receipts crashes inv n children (own inv n marked)

    entries : restored w n ≡ restored u n
    entries = fun_ext (restored_alike u steps nodes lanes thinner g cut base acts receipts crashes inv n children (own inv n marked))

    pub recovered_thinner : Thinner (recovered n (moved u steps nodes lanes)) (recovered n u)
    unfolding fresh_lane
    recovered_thinner =
        subst (Thinner (recovered n w)) (sym (recovered_is u n inv.ordered inv.shape)) (subst (λ (x : Line). Thinner x (restored_line u n)) (sym (recovered_is w n inv.ordered shape))
        (swept_thinner u u.steps (restored_line u n).nodes (restored_line u n).lanes w (restored_line w n) thinner n
        (ap strip (sym (recovered_is w n inv.ordered shape)) ∙ strip_recovered n w ∙ (λ i. restored_from n (restoring i) (targets i) (entries i) (thinner.alike i)) ∙ sym (strip_recovered n u) ∙ ap strip (recovered_is u n inv.ordered inv.shape))
        (ap (λ (x : Node). x.log) (restored-node u n inv.ordered inv.shape inside)) (ap (λ (x : Node). x.log) (restored-node w n inv.ordered shape inside)) (ap (λ (x : Node). x.crashed) (restored-node u n inv.ordered inv.shape inside))
        (restored_else u n inv.ordered inv.shape) (restored_else w n inv.ordered shape)
        (λ c h. ap (λ (s : Lane). s.low) (restored_enters w n inv.ordered shape c h) ∙ sym (ap (λ (s : Lane). s.low) (restored_enters u n inv.ordered inv.shape c h)))
        (λ c h d. at-ends u.plan n c h (λ z. absurd (d z.1))
        (λ z. (ap (λ (s : Lane). s.low) (restored_leaves u n inv.ordered inv.shape c z), ap (λ (s : Lane). s.taken) (restored_leaves u n inv.ordered inv.shape c z), ap (λ (s : Lane). s.low) (restored_leaves w n inv.ordered shape c z)))
        (λ a b. (ap (λ (s : Lane). s.low) (restored-beside u n inv.ordered inv.shape c a b), ap (λ (s : Lane). s.taken) (restored-beside u n inv.ordered inv.shape c a b), ap (λ (s : Lane). s.low) (restored-beside w n inv.ordered shape c a b))))
        (λ m e i c h q d.
        (let parent : (node_at u m).crashed ≡ false = ap (λ (x : ℕ). (node_at u x).crashed) (sym h.1) ∙ parent_unmarked inv n marked c (h.0, q) in
        let past-it = thinner.restored_past m parent e i c h (ap (is_sink u.plan) q ∙ (inv.marks.between n marked).1) (λ x z. children x (z.0, z.1 ∙ q)) in
        omega (arith, past-it, ap (λ (x : ℕ). restored u x m) q, ap (λ (x : ℕ). restored u n x) h.1, ap (λ (s : Lane). s.taken) (restored_enters u n inv.ordered inv.shape c (h.0, q)))))))

    -- What Ask keeps.
    answer : answer_of w n ≡ answer_of u n
    unfolding answer_of
    answer i =
        record {
          low = restoring i;
          high = (sym (high_strip n w) ∙ ap (λ (s : Line). high_of s n) thinner.alike ∙ high_strip n u) i;
          entries = map (λ (c : ℕ). entries i (channel_at u.plan c).sender) (entering u.plan n) ++ replicate (4 - length (entering u.plan n)) 0;
        }

    pub ask_thinner : Thinner (asked_line n (moved u steps nodes lanes)) (asked_line n u)
    unfolding asked_line asking
    ask_thinner =
        thinner_node w u thinner inv.shape n (asking (answer_of w n) (targets_of w n) (node_at w n)) (asking (answer_of u n) (targets_of u n) (node_at u n)) inside
        (λ i. (let x = same_node w u thinner.alike n i in record { status = x.status; crashed = x.crashed; time = x.time; log = []; held = x.held; targets = targets i; asked = some (answer i) }))
        (thinner.logs n) refl (λ d z. d z) (λ d i. i)

    pub answers_alike : (a : Asked) → a ≡ answer_of u n → (node_at u n).targets ≡ targets_of u n → (a ≡ answer_of (moved u steps nodes lanes) n) × ((node_at (moved u steps nodes lanes) n).targets ≡ targets_of (moved u steps nodes lanes) n)
    answers_alike a is stands = (is ∙ sym answer, ap (λ (x : Node). x.targets) (same_node w u thinner.alike n) ∙ stands ∙ sym targets)

    pub recover_thinner : (k' u' : Line) → recovered_line n (moved u steps nodes lanes) ≡ some k' → recovered_line n u ≡ some u' → Thinner k' u'
    unfolding recovered_line
    recover_thinner k' u' ek eu = go (conflict (targets_of u n)) (targets_of u n) refl (sym (λ i. by w (targets i)) ∙ ek) eu
      where
        by : Line → List Target → Option Line
        by l ts = elim (conflict ts) [ true ↦ none | false ↦ elim (is_empty ts) [ true ↦ some (recovered n l) | false ↦ ended_if_complete n (recovered n l) ] ]

        now : node_at (recovered n u) n ≡ restored_node u n
        now = ap (λ (x : Line). node_at x n) (recovered_is u n inv.ordered inv.shape) ∙ restored-node u n inv.ordered inv.shape inside

        go : (clash : Bool) (ts : List Target) → targets_of u n ≡ ts
            → (elim clash [ true ↦ none | false ↦ elim (is_empty ts) [ true ↦ some (recovered n w) | false ↦ ended_if_complete n (recovered n w) ] ]) ≡ some k'
            → (elim clash [ true ↦ none | false ↦ elim (is_empty ts) [ true ↦ some (recovered n u) | false ↦ ended_if_complete n (recovered n u) ] ]) ≡ some u' → Thinner k' u'
        go true ts q x y = none_some x
        go false [] q x y = subst (λ (l : Line). Thinner l u') (some_same x) (subst (Thinner (recovered n w)) (some_same y) recovered_thinner)
        go false (t ∷ ts) q x y =
            ended_thinner (recovered n w) (recovered n u) recovered_thinner (subst Shape (sym (recovered_is u n inv.ordered inv.shape)) (restored_shape u n inv.ordered inv.shape)) n
            (rw (ap (λ (l : Line). l.plan) (recovered_is u n inv.ordered inv.shape)) inside) (ap (λ (z : Node). z.log) now) (λ z. replay_not_down (sym (ap status_of q) ∙ ap (λ (y : Node). y.status) (sym now) ∙ z)) k' u' x y
