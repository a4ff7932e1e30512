-- What a line refuses and what it does go by its rules, its channels and its nodes, and never by its counts or by the plan's version.
use Prim.Native.Nat.{ℕ, suc}
use mathlib.Core.Path.{◌≡◌, refl, ap, fun_ext, ◌∙◌}
use mathlib.Core.Bool.{Bool, true, false, ◌&&◌}
use lib.Dec.{leb}
use mathlib.Core.List.{List, [], ◌∷◌, ◌++◌, map}
use mathlib.Core.Option
use mathlib.Core.Option.{Option, none, some}
use Rattle.plan.specs.declared.Record.{Record}
use Rattle.plan.specs.Record.{record_layout}
use Rattle.plan.specs.Plan.{entering, leaving, channel_at}
use Rattle.plan.specs.Mask.{set_of}
use Rattle.placing.specs.Item.{Item}
use Rattle.rules.specs.Lists.{all_of, joined, is_empty}
use Rattle.rules.specs.Line.{Origin, fed, made, Message, Entry, Held, Target, Asked, Lane, Line, node_at, lane_at, sender_of, receiver_of, parents, with_node, with_lane, with_lanes, down, fresh_lane}
use Rattle.rules.specs.Frame.{Frame, feed, send, take, crash, recover, trim, ask, commit}
use Rattle.rules.specs.Recover.{low_of, high_of, restored, targets_of, conflict, rows_complete, restored_to, recovered, beside, committed, status_of}
use Rattle.rules.specs.Replay.{passed_on, timed, is_held, held_by_row, item_of, items_by_row, placing, node_placed, replay_end, ended_if_complete}
use Rattle.rules.specs.Trim.{floor_time, sender_below, droppable, leading, behind, low_raised, with_log, trimmed_line}
use Rattle.rules.specs.Step.{some_stopped, is_nothing, no_such, wrong_node, wrong_status, beside_crashed, no_answer, bad_record, sendable, nothing_there, queue_full, row_done, first_record, to_hold, take_lacks, no_space, replaying, made_by, sent_line, taken_up, taken_replaying, taken_lane, taken_first, crashed_line, recovered_line, asked_line, committed_by, committed_line, effect, no_placing, line_refusal, fed_line}
use Rattle.rules.proofs.Theorem.Accepted.{first_of}

-- A choice between two things, taken before a function is applied or after.
either : {A B : Type 0} (f : A → B) (t : Bool) {x y : A} {u v : B} → u ≡ f x → v ≡ f y → elim t [ true ↦ u | false ↦ v ] ≡ f (elim t [ true ↦ x | false ↦ y ])
either f true e d = e
either f false e d = d

-- A line whose plan's version is changed, with other counts.
abbrev pub reheaded : (ℕ → ℕ) → List ℕ → Line → Line
reheaded newer counts l = record { plan = record { version = newer l.plan.version; rules = l.plan.rules; channels = l.plan.channels }; steps = counts; nodes = l.nodes; lanes = l.lanes }

module _ (newer : ℕ → ℕ) (counts : List ℕ) where
  lanes_recounted : (f : ℕ → Lane → Lane) (bs : List ℕ) (l : Line) → with_lanes f bs (reheaded newer counts l) ≡ reheaded newer counts (with_lanes f bs l)
  unfolding with_lane
  lanes_recounted f [] l = refl
  lanes_recounted f (b ∷ bs) l = lanes_recounted f bs (with_lane b (f b (lane_at l b)) l)

  lanes_twice : (f g : ℕ → Lane → Lane) (bs cs : List ℕ) (l : Line) → with_lanes f bs (with_lanes g cs (reheaded newer counts l)) ≡ reheaded newer counts (with_lanes f bs (with_lanes g cs l))
  lanes_twice f g bs cs l = ap (with_lanes f bs) (lanes_recounted g cs l) ∙ lanes_recounted f bs (with_lanes g cs l)

  rows_recounted : (hs : List Held) (l : Line) (cs : List ℕ) → held_by_row hs (reheaded newer counts l) cs ≡ held_by_row hs l cs
  rows_recounted hs l [] = refl
  rows_recounted hs l (c ∷ cs) = rw (rows_recounted hs l cs)

  items_recounted : (l : Line) (b row : ℕ) (rows : List (List Held)) → items_by_row (reheaded newer counts l) b row rows ≡ items_by_row l b row rows
  unfolding item_of
  items_recounted l b row [] = refl
  items_recounted l b row (hs ∷ rest) = ap (λ (items : List Item). map (item_of l b row) hs ++ items) (items_recounted l b (suc row) rest)

  end_recounted : (b : ℕ) (l : Line) → replay_end b (reheaded newer counts l) ≡ Option.map (reheaded newer counts) (replay_end b l)
  unfolding replay_end node_placed set_of
  end_recounted b l = (λ i. ended (reheaded newer counts l) test (same_rows i) (placing (node_at l b).time (high_of l b) (same_items i))) ∙ one test (placing (node_at l b).time (high_of l b) (items_by_row l b 0 rows))
    where
      test : Bool
      test = all_of (is_held (node_at l b).held) (node_at l b).targets

      rows : List (List Held)
      rows = held_by_row (node_at l b).held l (entering l.plan b)

      same_rows : held_by_row (node_at l b).held (reheaded newer counts l) (entering l.plan b) ≡ rows
      same_rows = rows_recounted (node_at l b).held l (entering l.plan b)

      same_items : items_by_row (reheaded newer counts l) b 0 (held_by_row (node_at l b).held (reheaded newer counts l) (entering l.plan b)) ≡ items_by_row l b 0 rows
      same_items = rw same_rows (items_recounted l b 0 rows)

      ended : Line → Bool → List (List Held) → Option (List ℕ) → Option Line
      ended k t rs o = elim t [ false ↦ none | true ↦ elim o [ none ↦ none | some columns ↦ some (with_node b (node_placed k b (joined rs) columns) k) ] ]

      one : (t : Bool) (o : Option (List ℕ)) → ended (reheaded newer counts l) t rows o ≡ Option.map (reheaded newer counts) (ended l t rows o)
      one false o = refl
      one true none = refl
      one true (some columns) = refl

  ended_recounted : (b : ℕ) (l : Line) → ended_if_complete b (reheaded newer counts l) ≡ Option.map (reheaded newer counts) (ended_if_complete b l)
  unfolding ended_if_complete
  ended_recounted b l = either (Option.map (reheaded newer counts)) (rows_complete l b) (end_recounted b l) refl

  held_recounted : (b : ℕ) (m : Message) (l : Line) → taken_replaying b m (reheaded newer counts l) ≡ reheaded newer counts (taken_replaying b m l)
  unfolding taken_replaying
  held_recounted b m l = either (reheaded newer counts) (passed_on l.plan (receiver_of l b) (made_by l (receiver_of l b) m.what)) refl refl

  taken_recounted : (b : ℕ) (q : List Message) (l : Line) → taken_first b q (reheaded newer counts l) ≡ Option.map (reheaded newer counts) (taken_first b q l)
  unfolding taken_lane taken_up set_of
  taken_recounted b [] l = refl
  taken_recounted b (m ∷ rest) l =
      let k = taken_lane b m rest l in
      either (Option.map (reheaded newer counts)) (replaying l (receiver_of l b)) (ap (ended_if_complete (receiver_of l b)) (held_recounted b m k) ∙ ended_recounted (receiver_of l b) (taken_replaying b m k)) refl

  pub restored_recounted : (low : ℕ) (ts : List Target) (entry : ℕ → ℕ) (n : ℕ) (l : Line) → restored_to low ts entry n (reheaded newer counts l) ≡ reheaded newer counts (restored_to low ts entry n l)
  unfolding restored_to
  restored_recounted low ts entry n l = lanes_twice (λ (c : ℕ) (s : Lane). fresh_lane l.plan (channel_at l.plan c) (entry c)) (λ (c : ℕ) (s : Lane). record { mark = s.taken; taken = s.taken; heard = s.heard; queue = s.queue; low = s.low }) (entering l.plan n) (leaving l.plan n) (with_node n (record { status = status_of ts; crashed = true; time = low; log = []; held = []; targets = ts; asked = none }) l)

  crashed_recounted : (n : ℕ) (l : Line) → crashed_line n (reheaded newer counts l) ≡ reheaded newer counts (crashed_line n l)
  unfolding crashed_line
  crashed_recounted n l = lanes_twice (λ (c : ℕ) (s : Lane). fresh_lane l.plan (channel_at l.plan c) 0) (λ (c : ℕ) (s : Lane). record { mark = 0; taken = s.taken; heard = s.heard; queue = []; low = s.low }) (entering l.plan n) (leaving l.plan n) (with_node n (record { status = down; crashed = true; time = 0; log = []; held = []; targets = []; asked = none }) l)

  -- What a Trim drops goes by the clocks alone.
  sender_recounted : (l : Line) (o : Origin) → sender_below (reheaded newer counts l) o ≡ sender_below l o
  unfolding floor_time
  sender_recounted l fed = refl
  sender_recounted l (made s t) = refl

  drops_recounted : (l : Line) (n : ℕ) → droppable (reheaded newer counts l) n ≡ droppable l n
  unfolding droppable
  drops_recounted l n = fun_ext (λ e. ap (λ (t : Bool). leb e.time (floor_time l n) && t) (sender_recounted l e.origin))

  trimmed_recounted : (n : ℕ) (l : Line) → trimmed_line n (reheaded newer counts l) ≡ reheaded newer counts (trimmed_line n l)
  unfolding trimmed_line
  trimmed_recounted n l = ap (λ (f : Entry → Bool). by f (reheaded newer counts l)) (drops_recounted l n) ∙ lanes_recounted (lower (droppable l n)) (entering l.plan n) (with_node n (with_log (behind (droppable l n) (node_at l n).log) (node_at l n)) l)
    where
      lower : (Entry → Bool) → ℕ → Lane → Lane
      lower f b = low_raised (parents l.plan (sender_of l b)) (sender_of l b) (leading f (node_at l n).log)

      by : (Entry → Bool) → Line → Line
      by f k = with_lanes (lower f) (entering l.plan n) (with_node n (with_log (behind f (node_at l n).log) (node_at l n)) k)

  recovered_recounted : (n : ℕ) (l : Line) → recovered_line n (reheaded newer counts l) ≡ Option.map (reheaded newer counts) (recovered_line n l)
  unfolding recovered_line
  recovered_recounted n l =
      let same : recovered n (reheaded newer counts l) ≡ reheaded newer counts (recovered n l) = restored_recounted (low_of l n) (targets_of l n) (λ (c : ℕ). restored l n (sender_of l c)) n l in
      either (Option.map (reheaded newer counts)) (conflict (targets_of l n)) refl
      (either (Option.map (reheaded newer counts)) (is_empty (targets_of l n)) (ap some same) (ap (ended_if_complete n) same ∙ ended_recounted n (recovered n l)))

  asked_recounted : (n : ℕ) (l : Line) (o : Option Line) → Option.map (λ (k : Line). asked_line n (reheaded newer counts l)) (Option.map (reheaded newer counts) o) ≡ Option.map (reheaded newer counts) (Option.map (λ (k : Line). asked_line n l) o)
  unfolding asked_line
  asked_recounted n l none = refl
  asked_recounted n l (some k) = refl

  by_recounted : (n : ℕ) (o : Option Asked) (l : Line) → committed_by n o (reheaded newer counts l) ≡ reheaded newer counts (committed_by n o l)
  unfolding committed
  by_recounted n none l = refl
  by_recounted n (some a) l = restored_recounted a.low (node_at l n).targets (beside (entering l.plan n) a.entries) n l

  committed_recounted : (n : ℕ) (l : Line) → committed_line n (reheaded newer counts l) ≡ reheaded newer counts (committed_line n l)
  unfolding committed_line
  committed_recounted n l = by_recounted n (node_at l n).asked l

  sent_recounted : (b : ℕ) (o : Option Entry) (l : Line) → sent_line b o (reheaded newer counts l) ≡ reheaded newer counts (sent_line b o l)
  unfolding with_lane
  sent_recounted b none l = refl
  sent_recounted b (some e) l = refl

  fed_recounted : (n : ℕ) (r : List ℕ) (l : Line) → fed_line n r (reheaded newer counts l) ≡ reheaded newer counts (fed_line n r l)
  unfolding fed_line timed passed_on
  fed_recounted n r l = either (reheaded newer counts) (timed l.plan n (made_by l n (record_layout.read r))) refl refl

  pub effect_recounted : (l : Line) (f : Frame) → effect (reheaded newer counts l) f ≡ Option.map (reheaded newer counts) (effect l f)
  unfolding effect set_of
  effect_recounted l (feed n r) = ap some (fed_recounted n r l)
  effect_recounted l (send b) = ap some (sent_recounted b (sendable l b) l)
  effect_recounted l (take b) = taken_recounted b (lane_at l b).queue l
  effect_recounted l (crash n) = ap some (crashed_recounted n l)
  effect_recounted l (recover n) = recovered_recounted n l
  effect_recounted l (trim n) = ap some (trimmed_recounted n l)
  effect_recounted l (ask n) = ap (Option.map (λ (k : Line). asked_line n (reheaded newer counts l))) (recovered_recounted n l) ∙ asked_recounted n l (recovered_line n l)
  effect_recounted l (commit n) = ap some (committed_recounted n l)

  placing_recounted : (l : Line) (f : Frame) → no_placing (reheaded newer counts l) f ≡ no_placing l f
  unfolding no_placing
  placing_recounted l f = rw (effect_recounted l f) (same (effect l f))
    where
      same : (o : Option Line) → is_nothing (Option.map (reheaded newer counts) o) ≡ is_nothing o
      same none = refl
      same (some k) = refl

  hold_recounted : (l : Line) (n : ℕ) (o : Option Record) → to_hold (reheaded newer counts l) n o ≡ to_hold l n o
  unfolding passed_on
  hold_recounted l n none = refl
  hold_recounted l n (some r) = refl

  space_recounted : (l : Line) (f : Frame) → no_space (reheaded newer counts l) f ≡ no_space l f
  unfolding take_lacks targets_of timed passed_on
  space_recounted l (feed n r) = refl
  space_recounted l (send b) = refl
  space_recounted l (take b) = rw (hold_recounted l (receiver_of l b) (first_record (lane_at l b).queue))
  space_recounted l (crash n) = refl
  space_recounted l (recover n) = refl
  space_recounted l (trim n) = refl
  space_recounted l (ask n) = refl
  space_recounted l (commit n) = refl

  pub refusal_recounted : (l : Line) (f : Frame) → line_refusal (reheaded newer counts l) f ≡ line_refusal l f
  unfolding line_refusal
  refusal_recounted l f = (λ i. refused (reheaded newer counts l) f (space_recounted l f i) (placing_recounted l f i)) ∙ same f (no_space l f) (no_placing l f)
    where
      refused : Line → Frame → Bool → Bool → ℕ
      refused l f s t =
          first_of ((no_such l f, 12) ∷ (some_stopped l f, 25) ∷ (wrong_node l f, 13) ∷ (wrong_status l f, 14) ∷ (beside_crashed l f, 15) ∷ (no_answer l f, 26) ∷ (bad_record f, 16) ∷ (nothing_there l f, 17) ∷ (queue_full l f, 18) ∷ (row_done l f, 19) ∷ (s, 20) ∷ (t, 23) ∷ []) 0

      same : (f : Frame) (s t : Bool) → refused (reheaded newer counts l) f s t ≡ refused l f s t
      same (feed n r) s t = refl
      same (send b) s t = refl
      same (take b) s t = refl
      same (crash n) s t = refl
      same (recover n) s t = refl
      same (trim n) s t = refl
      same (ask n) s t = refl
      same (commit n) s t = refl
