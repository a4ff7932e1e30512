-- What a frame's effect leaves as it was. The plan and the counts are so, and so no step changes the plan.
use Prim.Native.Nat.{ℕ, suc}
use mathlib.Core.Path.{◌≡◌, refl, ap, subst, ◌∙◌}
use mathlib.Core.Bool.{Bool, true, false}
use mathlib.Core.List.{List, [], ◌∷◌}
use mathlib.Core.Option.{Option, none, some, map}
use native.Mathlib.Decide.{ℕ_discrete}
use Rattle.plan.specs.Plan.{entering, leaving, channel_at}
use Rattle.plan.specs.Record.{record_layout}
use Rattle.plan.specs.Mask.{set_of}
use Rattle.rules.specs.Lists.{all_of, joined, is_empty}
use Rattle.rules.specs.Line.{Message, Entry, Held, Asked, Node, Lane, Line, node_at, lane_at, with_node, with_lane, with_lanes, counted, receiver_of, fed, sender_of, fresh_lane, down, parents}
use Rattle.rules.specs.Frame.{Frame, feed, send, take, crash, recover, trim, ask, commit, frame_console, frame_of}
use Rattle.rules.specs.Recover.{targets_of, conflict, rows_complete, high_of, answer_of, committed, recovered, low_of, restored, status_of, beside}
use Rattle.rules.specs.Replay.{passed_on, timed, holding, is_held, held_by_row, items_by_row, placing, node_placed, replay_end, ended_if_complete}
use Rattle.rules.specs.Trim.{trimmed_line, droppable, leading, behind, low_raised, with_log}
use Rattle.rules.specs.Step.{sendable, replaying, made_by, fed_line, sent_line, taken_up, taken_replaying, taken_lane, taken_first, taken_line, crashed_line, recovered_line, asking, asked_line, committed_by, committed_line, effect, accepted, refusal, step}
use Rattle.rules.specs.Clock.{logged, sent_on}
use Rattle.rules.proofs.Theorem.Accepted.{passed, step-accepted, step_refused}

-- A frame's own node, which alone it changes: the one that it names, or the receiver of its channel.
abbrev pub own_node : Line → Frame → Option ℕ
own_node l (feed n r) = some n
own_node l (send b) = none
own_node l (take b) = some (receiver_of l b)
own_node l (crash n) = some n
own_node l (recover n) = some n
own_node l (trim n) = some n
own_node l (ask n) = some n
own_node l (commit n) = some n

abbrev pub IfThere : (ℕ → Type 0) → Option ℕ → Type 0
IfThere free none = Unit {0}
IfThere free (some n) = free n

-- What is seen of a line, where no channel and no node of some has a part in it.
module _ {A : Type 0} (view : Line → A) (free : ℕ → Type 0) (node-apart : (n : ℕ) (x : Node) (l : Line) → free n → view (with_node n x l) ≡ view l) (lane-apart : (b : ℕ) (x : Lane) (l : Line) → view (with_lane b x l) ≡ view l) where
  -- A line, if there is one, has it.
  abbrev Has : A → Option Line → Type 0
  Has v none = Unit {0}
  Has v (some k) = view k ≡ v

  lanes_kept : (f : ℕ → Lane → Lane) (bs : List ℕ) (l : Line) → view (with_lanes f bs l) ≡ view l
  lanes_kept f [] l = refl
  lanes_kept f (b ∷ bs) l = lanes_kept f bs (with_lane b (f b (lane_at l b)) l) ∙ lane-apart b (f b (lane_at l b)) l

  swept_kept : (f g : ℕ → Lane → Lane) (bs cs : List ℕ) (n : ℕ) (x : Node) (l : Line) → free n → view (with_lanes f bs (with_lanes g cs (with_node n x l))) ≡ view l
  swept_kept f g bs cs n x l d = lanes_kept f bs (with_lanes g cs (with_node n x l)) ∙ lanes_kept g cs (with_node n x l) ∙ node-apart n x l d

  end_kept : (b : ℕ) (l : Line) → free b → Has (view l) (replay_end b l)
  unfolding replay_end
  end_kept b l d = one (all_of (is_held hs) (node_at l b).targets) refl (placing (node_at l b).time (high_of l b) (items_by_row l b 0 rows)) refl
    where
      hs : List Held
      hs = (node_at l b).held

      rows : List (List Held)
      rows = held_by_row hs l (entering l.plan b)

      one : (t : Bool) → all_of (is_held hs) (node_at l b).targets ≡ t → (o : Option (List ℕ)) → placing (node_at l b).time (high_of l b) (items_by_row l b 0 rows) ≡ o → Has (view l) (replay_end b l)
      one false e o q = rw (e, replay_end) tt
      one true e none q = rw (e, replay_end, q, replay_end) tt
      one true e (some columns) q = rw (e, replay_end, q, replay_end) (node-apart b (node_placed l b (joined rows) columns) l d)

  ended_kept : (b : ℕ) (l : Line) → free b → Has (view l) (ended_if_complete b l)
  unfolding ended_if_complete
  ended_kept b l d = one (rows_complete l b) refl
    where
      one : (t : Bool) → rows_complete l b ≡ t → Has (view l) (ended_if_complete b l)
      one true e = rw (e, ended_if_complete) (end_kept b l d)
      one false e = rw (e, ended_if_complete) refl

  pub ended_keeps : (n : ℕ) (l : Line) {k : Line} → free n → ended_if_complete n l ≡ some k → view k ≡ view l
  ended_keeps n l d e = subst (Has (view l)) e (ended_kept n l d)

  sent_kept : (b : ℕ) (o : Option Entry) (l : Line) → view (sent_line b o l) ≡ view l
  sent_kept b none l = refl
  sent_kept b (some e) l = lane-apart b (sent_on e (lane_at l b)) l

  held_kept : (b : ℕ) (m : Message) (l : Line) → free (receiver_of l b) → view (taken_replaying b m l) ≡ view l
  unfolding taken_replaying
  held_kept b m l d = one (passed_on l.plan (receiver_of l b) (made_by l (receiver_of l b) m.what))
    where
      one : (t : Bool) → view (elim t [ true ↦ with_node (receiver_of l b) (holding (record { what = made_by l (receiver_of l b) m.what; sender = sender_of l b; time = m.time; before = m.origin }) (node_at l (receiver_of l b))) l | false ↦ l ]) ≡ view l
      one true = node-apart (receiver_of l b) _ l d
      one false = refl

  first_kept : (b : ℕ) (q : List Message) (l : Line) → free (receiver_of l b) → Has (view l) (taken_first b q l)
  unfolding taken_lane taken_up
  first_kept b [] l d = refl
  first_kept b (m ∷ rest) l d = one (replaying l (receiver_of l b)) refl
    where
      k : Line
      k = taken_lane b m rest l

      same : view k ≡ view l
      same = lane-apart b _ l

      one : (t : Bool) → replaying l (receiver_of l b) ≡ t → Has (view l) (taken_first b (m ∷ rest) l)
      one true e = rw (e, taken_first) (subst (λ (v : A). Has v (ended_if_complete (receiver_of l b) (taken_replaying b m k))) (held_kept b m k d ∙ same) (ended_kept (receiver_of l b) (taken_replaying b m k) d))
      one false e = rw (e, taken_first) (node-apart (receiver_of l b) _ k d ∙ same)

  restored_kept : (n : ℕ) (l : Line) → free n → view (recovered n l) ≡ view l
  unfolding recovered
  restored_kept n l d = swept_kept (λ (c : ℕ) (s : Lane). fresh_lane l.plan (channel_at l.plan c) (restored l n (sender_of l c))) (λ (c : ℕ) (s : Lane). record { mark = s.taken; taken = s.taken; heard = s.heard; queue = s.queue; low = s.low }) (entering l.plan n) (leaving l.plan n) n (record { status = status_of (targets_of l n); crashed = true; time = low_of l n; log = []; held = []; targets = targets_of l n; asked = none }) l d

  recovered_kept : (n : ℕ) (l : Line) → free n → Has (view l) (recovered_line n l)
  unfolding recovered_line
  recovered_kept n l d = one (conflict (targets_of l n)) refl (is_empty (targets_of l n)) refl
    where
      one : (t : Bool) → conflict (targets_of l n) ≡ t → (s : Bool) → is_empty (targets_of l n) ≡ s → Has (view l) (recovered_line n l)
      one true e s q = rw (e, recovered_line) tt
      one false e true q = rw (e, recovered_line, q, recovered_line) (restored_kept n l d)
      one false e false q = rw (e, recovered_line, q, recovered_line) (subst (λ (v : A). Has v (ended_if_complete n (recovered n l))) (restored_kept n l d) (ended_kept n (recovered n l) d))

  asked_kept : (n : ℕ) (l : Line) (o : Option Line) → free n → Has (view l) (map (λ (k : Line). asked_line n l) o)
  unfolding asked_line
  asked_kept n l none d = tt
  asked_kept n l (some k) d = node-apart n (asking (answer_of l n) (targets_of l n) (node_at l n)) l d

  by_kept : (n : ℕ) (o : Option Asked) (l : Line) → free n → view (committed_by n o l) ≡ view l
  unfolding committed
  by_kept n none l d = refl
  by_kept n (some a) l d = swept_kept (λ (c : ℕ) (s : Lane). fresh_lane l.plan (channel_at l.plan c) (beside (entering l.plan n) a.entries c)) (λ (c : ℕ) (s : Lane). record { mark = s.taken; taken = s.taken; heard = s.heard; queue = s.queue; low = s.low }) (entering l.plan n) (leaving l.plan n) n (record { status = status_of (node_at l n).targets; crashed = true; time = a.low; log = []; held = []; targets = (node_at l n).targets; asked = none }) l d

  fed_kept : (n : ℕ) (r : List ℕ) (l : Line) → free n → view (fed_line n r l) ≡ view l
  unfolding fed_line
  fed_kept n r l d = one (timed l.plan n (made_by l n (record_layout.read r)))
    where
      one : (t : Bool) → view (elim t [ true ↦ with_node n (logged (suc (node_at l n).time) (set_of l.plan n (made_by l n (record_layout.read r))) (made_by l n (record_layout.read r)) fed fed (node_at l n)) l | false ↦ l ]) ≡ view l
      one true = node-apart n _ l d
      one false = refl

  effect_kept : (l : Line) (f : Frame) → IfThere free (own_node l f) → Has (view l) (effect l f)
  unfolding effect taken_line crashed_line trimmed_line committed_line
  effect_kept l (feed n r) d = fed_kept n r l d
  effect_kept l (send b) d = sent_kept b (sendable l b) l
  effect_kept l (take b) d = first_kept b (lane_at l b).queue l d
  effect_kept l (crash n) d = swept_kept (λ (c : ℕ) (s : Lane). fresh_lane l.plan (channel_at l.plan c) 0) (λ (c : ℕ) (s : Lane). record { mark = 0; taken = s.taken; heard = s.heard; queue = []; low = s.low }) (entering l.plan n) (leaving l.plan n) n (record { status = down; crashed = true; time = 0; log = []; held = []; targets = []; asked = none }) l d
  effect_kept l (recover n) d = recovered_kept n l d
  effect_kept l (trim n) d =
      let run : List Entry = leading (droppable l n) (node_at l n).log in
      let x : Node = with_log (behind (droppable l n) (node_at l n).log) (node_at l n) in
      lanes_kept (λ (b : ℕ). low_raised (parents l.plan (sender_of l b)) (sender_of l b) run) (entering l.plan n) (with_node n x l) ∙ node-apart n x l d
  effect_kept l (ask n) d = asked_kept n l (recovered_line n l) d
  effect_kept l (commit n) d = by_kept n (node_at l n).asked l d

  pub effect-keeps : (l : Line) (f : Frame) {k : Line} → IfThere free (own_node l f) → effect l f ≡ some k → view k ≡ view l
  effect-keeps l f d e = subst (Has (view l)) e (effect_kept l f d)

-- The plan and the counts, of which no node has a part.
pub any_node : (o : Option ℕ) → IfThere (λ (n : ℕ). Unit {0}) o
any_node none = tt
any_node (some n) = tt

pub effect-steps : (l : Line) (f : Frame) {k : Line} → effect l f ≡ some k → k.steps ≡ l.steps
unfolding with_node with_lane
effect-steps l f e = effect-keeps (λ l. l.steps) (λ n. Unit {0}) (λ n x l d. refl) (λ b x l. refl) l f (any_node (own_node l f)) e

pub ended_steps : (l : Line) (n : ℕ) {k : Line} → ended_if_complete n l ≡ some k → k.steps ≡ l.steps
unfolding with_node with_lane
ended_steps l n e = ended_keeps (λ l. l.steps) (λ n. Unit {0}) (λ n x l d. refl) (λ b x l. refl) n l tt e

pub effect-plan : (l : Line) (f : Frame) {k : Line} → effect l f ≡ some k → k.plan ≡ l.plan
unfolding with_node with_lane
effect-plan l f e = effect-keeps (λ l. l.plan) (λ n. Unit {0}) (λ n x l d. refl) (λ b x l. refl) l f (any_node (own_node l f)) e

pub step-plan : (l : Line) (f : List ℕ) → (step l f).line.plan ≡ l.plan
unfolding counted
step-plan l f =
    elim (ℕ_discrete (refusal l f) 0) [
      | yes e ↦ (let p = passed l f e in ap (λ (k : Line). k.plan) ((step-accepted l f e).1 ∙ ap (accepted (frame_console f) l) p.leads) ∙ effect-plan l (frame_of f) p.leads)
      | no d ↦ ap (λ (k : Line). k.plan) (step_refused l f d).1
    ]
