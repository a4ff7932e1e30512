-- No set is read by a step: lines with and without sets are answered alike, and leave lines that are alike but for the sets.
use Prim.Native.Nat.{ℕ, suc, ◌-◌}
use mathlib.Core.Path.{◌≡◌, refl, sym, ap, fun_ext, ◌∙◌}
use mathlib.Core.Bool.{Bool, true, false, cond, not, ◌&&◌, ◌||◌}
use mathlib.Core.List.{List, [], ◌∷◌, ◌++◌, map, map-map}
use mathlib.Core.Option
use mathlib.Core.Option.{Option, none, some}
use lib.ListN.{length, replicate, length-map}
use lib.Dec.{leb, ltb, eqb}
use Rattle.plan.specs.declared.Record.{Record}
use Rattle.plan.specs.declared.Channel.{Channel}
use Rattle.plan.specs.Channel.{takes}
use Rattle.plan.specs.Record.{record_layout}
use Rattle.plan.specs.Plan.{channel_at, entering, leaving}
use Rattle.plan.specs.Mask.{set_of}
use Rattle.rules.specs.Lists.{keep, all_of, any_of, joined, is_empty, greatest_of, least_of}
use Rattle.rules.specs.Line.{log_limit, held_limit, target_limit, Origin, fed, made, Message, Entry, Held, Target, Asked, down, Node, Lane, Line, fresh_node, node_at, lane_at, node_numbers, with_node, with_lane, with_lanes, receiver_of, sender_of, parents, is_up, is_down, is_replay, counted, fresh_lane}
use Rattle.rules.specs.Frame.{Frame, feed, send, take, crash, recover, trim, ask, commit, frame_console, frame_of, frame_refusal}
use Rattle.rules.specs.Clock.{logged, next_to_send, sent_on}
use Rattle.rules.specs.Recover.{triple, triples, child_triples, child_lows, low_of, high_of, answer_of, beside, committed, targets_of, sort_targets, restored, conflict, status_of, row_goal, row_complete, rows_complete, restored_to, recovered}
use Rattle.rules.specs.Replay.{passed_on, timed, time_for, is_held, holding, replay_end, ended_if_complete}
use Rattle.rules.specs.Trim.{entries_for, floor_time, sender_below, droppable, leading, behind, low_by, low_after, low_raised, with_low, with_log, trimmed_line}
use Rattle.rules.specs.Step.{no_steps_left, asking, asked_line, committed_by, committed_line, no_such, wrong_node, end_down, node_down, neighbour_crashed, bad_record, sendable, is_nothing, queue_full, replaying, made_by, first_record, to_hold, take_lacks, fed_line, sent_line, taken_up, taken_replaying, taken_lane, taken_first, crashed_line, recovered_line, effect, no_placing, line_refusal, refusal, Answer, accepted, step}
use Rattle.rules.specs.Sets.{without_set, node_without_sets, without_sets, answer_without_sets, StepWithoutSets}
use Rattle.rules.proofs.Lists.ListLaws.{map-append}
use Rattle.rules.proofs.Lists.Members.{map_same}
use Rattle.rules.proofs.Lists.Options.{some_same, none_some}
use Rattle.rules.proofs.Theorem.Accepted.{first_of}
use Rattle.rules.proofs.Trimming.Alike.{map_get, map-set, bare, strip, complete_strip, held_all, chosen, placed_as, end_by, chosen_strip, placed_strip}

pub bare_node : (l : Line) (n : ℕ) → node_at (without_sets l) n ≡ node_without_sets (node_at l n)
bare_node l n = map_get node_without_sets l.nodes n fresh_node

pub bare_with : (l : Line) (n : ℕ) (x : Node) → without_sets (with_node n x l) ≡ with_node n (node_without_sets x) (without_sets l)
unfolding with_node
bare_with l n x = λ i. record { plan = l.plan; steps = l.steps; nodes = map-set node_without_sets l.nodes n x i; lanes = l.lanes }

pub bare_triples : (n : ℕ) (log : List Entry) → triples n (map without_set log) ≡ triples n log
bare_triples n [] = refl
bare_triples n (e ∷ log) = ap (λ (ts : List Target). triple n e.origin e.before ++ ts) (bare_triples n log)

pub bare_children : (l : Line) (n : ℕ) → child_triples (without_sets l) n ≡ child_triples l n
unfolding child_triples
bare_children l n =
    ap joined (map_same (λ (c : ℕ). triples n (node_at (without_sets l) (channel_at l.plan c).receiver).log) (λ (c : ℕ). triples n (node_at l (channel_at l.plan c).receiver).log) (leaving l.plan n)
    (λ c i. ap (λ (x : Node). triples n x.log) (bare_node l (channel_at l.plan c).receiver) ∙ bare_triples n (node_at l (channel_at l.plan c).receiver).log))

pub bare_next : (c : Channel) (mark : ℕ) (log : List Entry) → next_to_send c mark (map without_set log) ≡ Option.map without_set (next_to_send c mark log)
bare_next c mark [] = refl
bare_next c mark (e ∷ log) = one (ltb mark e.time && takes c e.what) (bare_next c mark log)
  where
    one : (t : Bool) → next_to_send c mark (map without_set log) ≡ Option.map without_set (next_to_send c mark log)
        → (elim t [ true ↦ some (without_set e) | false ↦ next_to_send c mark (map without_set log) ]) ≡ Option.map without_set (elim t [ true ↦ some e | false ↦ next_to_send c mark log ])
    one true ih = refl
    one false ih = ih

pub bare_sendable : (l : Line) (b : ℕ) → sendable (without_sets l) b ≡ Option.map without_set (sendable l b)
unfolding sendable
bare_sendable l b = ap (λ (x : Node). next_to_send (channel_at l.plan b) (lane_at l b).mark x.log) (bare_node l (channel_at l.plan b).sender) ∙ bare_next (channel_at l.plan b) (lane_at l b).mark (node_at l (channel_at l.plan b).sender).log

-- Left out twice is left out once.
bare_entries : (es : List Entry) → map without_set (map without_set es) ≡ map without_set es
bare_entries es = map-map without_set without_set es

bare_nodes : (ns : List Node) → map node_without_sets (map node_without_sets ns) ≡ map node_without_sets ns
bare_nodes [] = refl
bare_nodes (x ∷ ns) = λ i. record { status = x.status; crashed = x.crashed; time = x.time; log = bare_entries x.log i; held = x.held; targets = x.targets; asked = x.asked } ∷ bare_nodes ns i

bare_twice : (l : Line) → without_sets (without_sets l) ≡ without_sets l
bare_twice l = λ i. record { plan = l.plan; steps = l.steps; nodes = bare_nodes l.nodes i; lanes = l.lanes }

-- A node changed alike but for its sets.
alike_with : (n : ℕ) (x y : Node) (l : Line) → node_without_sets x ≡ node_without_sets y → without_sets (with_node n x (without_sets l)) ≡ without_sets (with_node n y l)
alike_with n x y l e = bare_with (without_sets l) n x ∙ (λ i. with_node n (e i) (bare_twice l i)) ∙ sym (bare_with l n y)

-- A node that logs.
logged_bare : (n at chosen : ℕ) (what : Record) (origin before : Origin) (l : Line) → without_sets (with_node n (logged at chosen what origin before (node_at (without_sets l) n)) (without_sets l)) ≡ without_sets (with_node n (logged at chosen what origin before (node_at l n)) l)
unfolding logged
logged_bare n at chosen what origin before l =
    alike_with n (logged at chosen what origin before (node_at (without_sets l) n)) (logged at chosen what origin before (node_at l n)) l
    (ap (λ (x : Node). node_without_sets (logged at chosen what origin before x)) (bare_node l n) ∙ one (node_at l n))
  where
    log : (x : Node) (e : Entry) → map without_set (map without_set x.log ++ e ∷ []) ≡ map without_set (x.log ++ e ∷ [])
    log x e = map-append without_set (map without_set x.log) (e ∷ []) ∙ ap (λ (es : List Entry). es ++ without_set e ∷ []) (bare_entries x.log) ∙ sym (map-append without_set x.log (e ∷ []))

    one : (x : Node) → node_without_sets (logged at chosen what origin before (node_without_sets x)) ≡ node_without_sets (logged at chosen what origin before x)
    one x i = record { status = x.status; crashed = x.crashed; time = at; log = log x (record { what = what; time = at; origin = origin; before = before; set = chosen }) i; held = x.held; targets = x.targets; asked = x.asked }

-- Feed.
fed_bare : (n : ℕ) (r : List ℕ) (l : Line) → without_sets (fed_line n r (without_sets l)) ≡ without_sets (fed_line n r l)
unfolding fed_line
fed_bare n r l = ap (λ (x : Node). without_sets (by (without_sets l) (timed l.plan n what) x.time)) (bare_node l n) ∙ one (timed l.plan n what)
  where
    what : Record
    what = made_by l n (record_layout.read r)

    by : Line → Bool → ℕ → Line
    by k t now = elim t [ true ↦ with_node n (logged (suc now) (set_of l.plan n what) what fed fed (node_at k n)) k | false ↦ k ]

    one : (t : Bool) → without_sets (by (without_sets l) t (node_at l n).time) ≡ without_sets (by l t (node_at l n).time)
    one true = logged_bare n (suc (node_at l n).time) (set_of l.plan n what) what fed fed l
    one false = bare_twice l

-- Channels changed.
lanes_bare : (f : ℕ → Lane → Lane) (bs : List ℕ) (l : Line) → with_lanes f bs (without_sets l) ≡ without_sets (with_lanes f bs l)
unfolding with_lane
lanes_bare f [] l = refl
lanes_bare f (b ∷ bs) l = lanes_bare f bs (with_lane b (f b (lane_at l b)) l)

-- A node without a log put in, and its channels changed.
swept_bare : (f g : ℕ → Lane → Lane) (bs cs : List ℕ) (n : ℕ) (x : Node) (l : Line) → with_lanes f bs (with_lanes g cs (with_node n (node_without_sets x) (without_sets l))) ≡ without_sets (with_lanes f bs (with_lanes g cs (with_node n x l)))
swept_bare f g bs cs n x l =
    ap (λ (k : Line). with_lanes f bs (with_lanes g cs k)) (sym (bare_with l n x))
    ∙ ap (with_lanes f bs) (lanes_bare g cs (with_node n x l)) ∙ lanes_bare f bs (with_lanes g cs (with_node n x l))

-- The end of a replay.
strip_bare : (l : Line) → strip (without_sets l) ≡ strip l
strip_bare l = λ i. record { plan = l.plan; steps = []; nodes = map-map bare node_without_sets l.nodes i; lanes = (strip l).lanes }

end_bare : (b : ℕ) (l : Line) → Option.map without_sets (replay_end b (without_sets l)) ≡ Option.map without_sets (replay_end b l)
unfolding replay_end
end_bare b l = (λ i. Option.map without_sets (end_by b (without_sets l) (tests i) (choices i))) ∙ one (held_all b l) (chosen b l)
  where
    tests : held_all b (without_sets l) ≡ held_all b l
    tests i = all_of (is_held (bare_node l b i).held) (bare_node l b i).targets

    choices : chosen b (without_sets l) ≡ chosen b l
    choices = sym (chosen_strip b (without_sets l)) ∙ ap (chosen b) (strip_bare l) ∙ chosen_strip b l

    placed : (cs : List ℕ) → placed_as b (without_sets l) cs ≡ placed_as b l cs
    placed cs = sym (placed_strip b (without_sets l) cs) ∙ ap (λ (s : Line). placed_as b s cs) (strip_bare l) ∙ placed_strip b l cs

    one : (t : Bool) (o : Option (List ℕ)) → Option.map without_sets (end_by b (without_sets l) t o) ≡ Option.map without_sets (end_by b l t o)
    one false o = refl
    one true none = refl
    one true (some cs) = ap some (alike_with b (placed_as b (without_sets l) cs) (placed_as b l cs) l (ap node_without_sets (placed cs)))

ended_bare : (b : ℕ) (l : Line) → Option.map without_sets (ended_if_complete b (without_sets l)) ≡ Option.map without_sets (ended_if_complete b l)
unfolding ended_if_complete
ended_bare b l = (λ i. Option.map without_sets (end_by (without_sets l) (complete i))) ∙ one (rows_complete l b)
  where
    end_by : Line → Bool → Option Line
    end_by k t = elim t [ true ↦ replay_end b k | false ↦ some k ]

    complete : rows_complete (without_sets l) b ≡ rows_complete l b
    complete = sym (complete_strip b (without_sets l)) ∙ ap (λ (s : Line). rows_complete s b) (strip_bare l) ∙ complete_strip b l

    one : (t : Bool) → Option.map without_sets (end_by (without_sets l) t) ≡ Option.map without_sets (end_by l t)
    one true = end_bare b l
    one false = ap some (bare_twice l)

-- Take.
held_bare : (b : ℕ) (m : Message) (l : Line) → taken_replaying b m (without_sets l) ≡ without_sets (taken_replaying b m l)
unfolding taken_replaying holding
held_bare b m l = one (passed_on l.plan n (made_by l n m.what))
  where
    n : ℕ
    n = receiver_of l b

    h : Held
    h = record { what = made_by l n m.what; sender = sender_of l b; time = m.time; before = m.origin }

    one : (t : Bool) → elim t [ true ↦ with_node n (holding h (node_at (without_sets l) n)) (without_sets l) | false ↦ without_sets l ] ≡ without_sets (elim t [ true ↦ with_node n (holding h (node_at l n)) l | false ↦ l ])
    one true = ap (λ (x : Node). with_node n (holding h x) (without_sets l)) (bare_node l n) ∙ sym (bare_with l n (holding h (node_at l n)))
    one false = refl

taken_bare : (b : ℕ) (q : List Message) (l : Line) → Option.map without_sets (taken_first b q (without_sets l)) ≡ Option.map without_sets (taken_first b q l)
unfolding taken_lane taken_up set_of with_lane
taken_bare b [] l = ap some (bare_twice l)
taken_bare b (m ∷ rest) l = (λ i. Option.map without_sets (by (without_sets l) (is_replay (bare_node l n i).status))) ∙ one (replaying l n)
  where
    n : ℕ
    n = receiver_of l b

    what : Record
    what = made_by l n m.what

    by : Line → Bool → Option Line
    by k t = elim t [ true ↦ ended_if_complete n (taken_replaying b m (taken_lane b m rest k)) | false ↦ some (taken_up b m (taken_lane b m rest k)) ]

    one : (t : Bool) → Option.map without_sets (by (without_sets l) t) ≡ Option.map without_sets (by l t)
    one true = ap (λ (k : Line). Option.map without_sets (ended_if_complete n k)) (held_bare b m (taken_lane b m rest l)) ∙ ended_bare n (taken_replaying b m (taken_lane b m rest l))
    one false =
        ap (λ (t : ℕ). some (without_sets (with_node n (logged (time_for l.plan n what t) (set_of l.plan n what) what (made (sender_of l b) m.time) m.origin (node_at (without_sets (taken_lane b m rest l)) n)) (without_sets (taken_lane b m rest l))))) (ap (λ (x : Node). x.time) (bare_node l n))
        ∙ ap some (logged_bare n (time_for l.plan n what (node_at l n).time) (set_of l.plan n what) what (made (sender_of l b) m.time) m.origin (taken_lane b m rest l))

-- Crash, Recover.
crashed_bare : (n : ℕ) (l : Line) → crashed_line n (without_sets l) ≡ without_sets (crashed_line n l)
unfolding crashed_line
crashed_bare n l = swept_bare (λ (c : ℕ) (s : Lane). fresh_lane l.plan (channel_at l.plan c) 0) (λ (c : ℕ) (s : Lane). record { mark = 0; taken = s.taken; heard = s.heard; queue = []; low = s.low }) (entering l.plan n) (leaving l.plan n) n (record { status = down; crashed = true; time = 0; log = []; held = []; targets = []; asked = none }) l

targets_bare : (l : Line) (n : ℕ) → targets_of (without_sets l) n ≡ targets_of l n
unfolding targets_of
targets_bare l n = ap (λ (ts : List Target). sort_targets [] (keep (λ (t : Target). ltb (low_of l n) t.time) ts)) (bare_children l n)

restored_bare : (l : Line) (n parent : ℕ) → restored (without_sets l) n parent ≡ restored l n parent
unfolding restored
restored_bare l n parent = ap (λ (ts : List Target). greatest_of (child_lows l n parent ++ map (λ (t : Target). t.parent_time) (keep (λ (t : Target). eqb t.parent parent && leb t.time (low_of l n)) ts))) (bare_children l n)

restored_to_bare : (low : ℕ) (ts : List Target) (entry : ℕ → ℕ) (n : ℕ) (l : Line) → restored_to low ts entry n (without_sets l) ≡ without_sets (restored_to low ts entry n l)
unfolding restored_to
restored_to_bare low ts entry n l = swept_bare (λ (c : ℕ) (s : Lane). fresh_lane l.plan (channel_at l.plan c) (entry c)) (λ (c : ℕ) (s : Lane). record { mark = s.taken; taken = s.taken; heard = s.heard; queue = s.queue; low = s.low }) (entering l.plan n) (leaving l.plan n) n (record { status = status_of ts; crashed = true; time = low; log = []; held = []; targets = ts; asked = none }) l

recovered_bare : (n : ℕ) (l : Line) → recovered n (without_sets l) ≡ without_sets (recovered n l)
unfolding recovered
recovered_bare n l =
    (λ i. restored_to (low_of l n) (targets_bare l n i) (λ (c : ℕ). restored_bare l n (sender_of l c) i) n (without_sets l))
    ∙ restored_to_bare (low_of l n) (targets_of l n) (λ (c : ℕ). restored l n (sender_of l c)) n l

recovers_bare : (n : ℕ) (l : Line) → Option.map without_sets (recovered_line n (without_sets l)) ≡ Option.map without_sets (recovered_line n l)
unfolding recovered_line
recovers_bare n l = (λ i. Option.map without_sets (by (targets_bare l n i) (recovered_bare n l i))) ∙ one (conflict (targets_of l n)) (is_empty (targets_of l n))
  where
    gives : Bool → Bool → Line → Option Line
    gives clashes none_left k = elim clashes [ true ↦ none | false ↦ elim none_left [ true ↦ some k | false ↦ ended_if_complete n k ] ]

    by : List Target → Line → Option Line
    by ts k = gives (conflict ts) (is_empty ts) k

    one : (c e : Bool) → Option.map without_sets (gives c e (without_sets (recovered n l))) ≡ Option.map without_sets (gives c e (recovered n l))
    one true e = refl
    one false true = ap some (bare_twice (recovered n l))
    one false false = ended_bare n (recovered n l)

-- Ask, Commit.
answer_bare : (l : Line) (n : ℕ) → answer_of (without_sets l) n ≡ answer_of l n
unfolding answer_of
answer_bare l n i =
    record { low = low_of l n; high = high_of l n; entries = map (λ (c : ℕ). restored_bare l n (channel_at l.plan c).sender i) (entering l.plan n) ++ replicate (4 - length (entering l.plan n)) 0 }

asked_bare : (n : ℕ) (l : Line) → asked_line n (without_sets l) ≡ without_sets (asked_line n l)
unfolding asked_line asking
asked_bare n l = (λ i. with_node n (asking (answer_bare l n i) (targets_bare l n i) (bare_node l n i)) (without_sets l)) ∙ sym (bare_with l n (asking (answer_of l n) (targets_of l n) (node_at l n)))

asks_bare : (n : ℕ) (l : Line) (o p : Option Line) → Option.map without_sets o ≡ Option.map without_sets p → Option.map without_sets (Option.map (λ (k : Line). asked_line n (without_sets l)) o) ≡ Option.map without_sets (Option.map (λ (k : Line). asked_line n l) p)
asks_bare n l none none e = refl
asks_bare n l none (some k) e = none_some e
asks_bare n l (some j) none e = none_some (sym e)
asks_bare n l (some j) (some k) e = ap some (ap without_sets (asked_bare n l) ∙ bare_twice (asked_line n l))

committed_bare : (n : ℕ) (l : Line) → committed_line n (without_sets l) ≡ without_sets (committed_line n l)
unfolding committed_line committed
committed_bare n l = ap (λ (o : Option Asked). committed_by n o (without_sets l)) (ap (λ (x : Node). x.asked) (bare_node l n)) ∙ one (node_at l n).asked
  where
    one : (o : Option Asked) → committed_by n o (without_sets l) ≡ without_sets (committed_by n o l)
    one none = refl
    one (some a) =
        let entry = beside (entering l.plan n) a.entries in
        (λ i. restored_to a.low (bare_node l n i).targets entry n (without_sets l)) ∙ restored_to_bare a.low (node_at l n).targets entry n l

-- Trim.
floor_bare : (l : Line) (n : ℕ) → floor_time (without_sets l) n ≡ floor_time l n
unfolding floor_time
floor_bare l n = ap (λ (x : Node). least_of (x.time ∷ entries_for l n)) (bare_node l n)

drops_bare : (l : Line) (n : ℕ) → droppable (without_sets l) n ≡ droppable l n
unfolding droppable
drops_bare l n = fun_ext (λ e i. leb e.time (floor_bare l n i) && sender e.origin i)
  where
    sender : (o : Origin) → sender_below (without_sets l) o ≡ sender_below l o
    sender fed = refl
    sender (made s t) = ap (leb t) (floor_bare l s)

leading_bare : (f : Entry → Bool) → ((e : Entry) → f (without_set e) ≡ f e) → (es : List Entry) → leading f (map without_set es) ≡ map without_set (leading f es)
leading_bare f same [] = refl
leading_bare f same (e ∷ es) = (λ i. elim (same e i) [ true ↦ without_set e ∷ leading f (map without_set es) | false ↦ [] ]) ∙ one (f e) (leading_bare f same es)
  where
    one : (t : Bool) → leading f (map without_set es) ≡ map without_set (leading f es) → (elim t [ true ↦ without_set e ∷ leading f (map without_set es) | false ↦ [] ]) ≡ map without_set (elim t [ true ↦ e ∷ leading f es | false ↦ [] ])
    one true ih = ap (λ (xs : List Entry). without_set e ∷ xs) ih
    one false ih = refl

behind_bare : (f : Entry → Bool) → ((e : Entry) → f (without_set e) ≡ f e) → (es : List Entry) → behind f (map without_set es) ≡ map without_set (behind f es)
behind_bare f same [] = refl
behind_bare f same (e ∷ es) = (λ i. elim (same e i) [ true ↦ behind f (map without_set es) | false ↦ without_set e ∷ map without_set es ]) ∙ one (f e) (behind_bare f same es)
  where
    one : (t : Bool) → behind f (map without_set es) ≡ map without_set (behind f es) → (elim t [ true ↦ behind f (map without_set es) | false ↦ without_set e ∷ map without_set es ]) ≡ map without_set (elim t [ true ↦ behind f es | false ↦ e ∷ es ])
    one true ih = ih
    one false ih = refl

low_bare : (ps : List ℕ) (s : ℕ) (es : List Entry) (low : List ℕ) → low_after ps s (map without_set es) low ≡ low_after ps s es low
low_bare ps s [] low = refl
low_bare ps s (e ∷ es) low = low_bare ps s es (low_by ps s e.origin e.before low)

trimmed_bare : (n : ℕ) (l : Line) → trimmed_line n (without_sets l) ≡ without_sets (trimmed_line n l)
unfolding trimmed_line droppable
trimmed_bare n l =
    (λ i. on (drops_bare l n i) (bare_node l n i))
    ∙ (λ i. with_lanes (λ (b : ℕ) (s : Lane). low_same b s i) (entering l.plan n) (with_node n (with_log (behind_bare (droppable l n) (λ e. refl) x.log i) (node_without_sets x)) (without_sets l)))
    ∙ ap (with_lanes (lower (leading (droppable l n) x.log)) (entering l.plan n)) (sym (bare_with l n (with_log (behind (droppable l n) x.log) x)))
    ∙ lanes_bare (lower (leading (droppable l n) x.log)) (entering l.plan n) (with_node n (with_log (behind (droppable l n) x.log) x) l)
  where
    x : Node
    x = node_at l n

    lower : List Entry → ℕ → Lane → Lane
    lower run b = low_raised (parents l.plan (sender_of l b)) (sender_of l b) run

    on : (Entry → Bool) → Node → Line
    on f y = with_lanes (lower (leading f y.log)) (entering l.plan n) (with_node n (with_log (behind f y.log) y) (without_sets l))

    low_same : (b : ℕ) (s : Lane) → lower (leading (droppable l n) (map without_set x.log)) b s ≡ lower (leading (droppable l n) x.log) b s
    low_same b s =
        ap (λ (run : List Entry). lower run b s) (leading_bare (droppable l n) (λ e. refl) x.log)
        ∙ ap (λ (low : List ℕ). with_low low s) (low_bare (parents l.plan (sender_of l b)) (sender_of l b) (leading (droppable l n) x.log) s.low)

-- Send.
sent_bare : (b : ℕ) (l : Line) → sent_line b (sendable (without_sets l) b) (without_sets l) ≡ without_sets (sent_line b (sendable l b) l)
unfolding sent_on with_lane
sent_bare b l = ap (λ (o : Option Entry). sent_line b o (without_sets l)) (bare_sendable l b) ∙ one (sendable l b)
  where
    one : (o : Option Entry) → sent_line b (Option.map without_set o) (without_sets l) ≡ without_sets (sent_line b o l)
    one none = refl
    one (some e) = refl

-- Every effect, and with it 24.
pub effect_bare : (l : Line) (f : Frame) → Option.map without_sets (effect (without_sets l) f) ≡ Option.map without_sets (effect l f)
unfolding effect set_of
effect_bare l (feed n r) = ap some (fed_bare n r l)
effect_bare l (send b) = ap some (ap without_sets (sent_bare b l) ∙ bare_twice (sent_line b (sendable l b) l))
effect_bare l (take b) = taken_bare b (lane_at l b).queue l
effect_bare l (crash n) = ap some (ap without_sets (crashed_bare n l) ∙ bare_twice (crashed_line n l))
effect_bare l (recover n) = recovers_bare n l
effect_bare l (trim n) = ap some (ap without_sets (trimmed_bare n l) ∙ bare_twice (trimmed_line n l))
effect_bare l (ask n) = asks_bare n l (recovered_line n (without_sets l)) (recovered_line n l) (recovers_bare n l)
effect_bare l (commit n) = ap some (ap without_sets (committed_bare n l) ∙ bare_twice (committed_line n l))

placing_bare : (l : Line) (f : Frame) → no_placing (without_sets l) f ≡ no_placing l f
unfolding no_placing
placing_bare l f = sym (same (effect (without_sets l) f)) ∙ ap is_nothing (effect_bare l f) ∙ same (effect l f)
  where
    same : (o : Option Line) → is_nothing (Option.map without_sets o) ≡ is_nothing o
    same none = refl
    same (some k) = refl

log_length : (l : Line) (n : ℕ) → length (node_at (without_sets l) n).log ≡ length (node_at l n).log
log_length l n = ap (λ (x : Node). length x.log) (bare_node l n) ∙ length-map (node_at l n).log without_set

lacks_bare : (l : Line) (b : ℕ) → take_lacks (without_sets l) b ≡ take_lacks l b
unfolding take_lacks
lacks_bare l b i =
    (let n = receiver_of l b in
    cond (is_replay (bare_node l n i).status) (holds (first_record (lane_at l b).queue) i && leb held_limit (length (bare_node l n i).held)) (leb log_limit (log_length l n i)))
  where
    holds : (o : Option Record) → to_hold (without_sets l) (receiver_of l b) o ≡ to_hold l (receiver_of l b) o
    holds none = refl
    holds (some r) = refl

-- What is refused.
pub refusal_bare : (l : Line) (f : Frame) → line_refusal (without_sets l) f ≡ line_refusal l f
unfolding line_refusal row_complete
refusal_bare l f = same f
  where
    refused : (f : Frame) (stopped status beside without nothing row space placing : Bool) → ℕ
    refused f stopped status beside without nothing row space placing =
        first_of ((no_such l f, 12) ∷ (stopped, 25) ∷ (wrong_node l f, 13) ∷ (status, 14) ∷ (beside, 15) ∷ (without, 26) ∷ (bad_record f, 16) ∷ (nothing, 17) ∷ (queue_full l f, 18) ∷ (row, 19) ∷ (space, 20) ∷ (placing, 23) ∷ []) 0

    down_same : (n : ℕ) → node_down (without_sets l) n ≡ node_down l n
    down_same n = ap (λ (x : Node). is_down x.status) (bare_node l n)

    ends : (b : ℕ) → end_down (without_sets l) b ≡ end_down l b
    ends b i = down_same (sender_of l b) i || down_same (receiver_of l b) i

    none_there : (b : ℕ) → is_nothing (sendable (without_sets l) b) ≡ is_nothing (sendable l b)
    none_there b = ap is_nothing (bare_sendable l b) ∙ one (sendable l b)
      where
        one : (o : Option Entry) → is_nothing (Option.map without_set o) ≡ is_nothing o
        one none = refl
        one (some e) = refl

    beside_same : (n : ℕ) → neighbour_crashed (without_sets l) n ≡ neighbour_crashed l n
    beside_same n i = any_of (λ (b : ℕ). (bare_node l (sender_of l b) i).crashed) (entering l.plan n) || any_of (λ (b : ℕ). (bare_node l (receiver_of l b) i).crashed) (leaving l.plan n)

    same : (f : Frame) → line_refusal (without_sets l) f ≡ line_refusal l f
    same (feed n r) = λ i. refused (feed n r) false false false false false false (timed l.plan n (made_by l n (record_layout.read r)) && leb log_limit (log_length l n i)) (placing_bare l (feed n r) i)
    same (send b) = λ i. refused (send b) false (ends b i) false false (none_there b i) false false (placing_bare l (send b) i)
    same (take b) = λ i. refused (take b) false (ends b i) false false (is_empty (lane_at l b).queue) (is_replay (bare_node l (receiver_of l b) i).status && leb (row_goal (bare_node l (receiver_of l b) i).targets (channel_at l.plan b).sender) (lane_at l b).taken) (lacks_bare l b i) (placing_bare l (take b) i)
    same (crash n) = λ i. refused (crash n) false (down_same n i) (beside_same n i) false false false false (placing_bare l (crash n) i)
    same (recover n) = λ i. refused (recover n) false (not (down_same n i)) false false false false (ltb target_limit (length (targets_bare l n i))) (placing_bare l (recover n) i)
    same (trim n) = λ i. refused (trim n) (any_of (λ (m : ℕ). not (is_up (bare_node l m i).status)) (node_numbers l)) false false false false false false (placing_bare l (trim n) i)
    same (ask n) = λ i. refused (ask n) false (not (down_same n i)) false false false false (ltb target_limit (length (targets_bare l n i))) (placing_bare l (ask n) i)
    same (commit n) = λ i. refused (commit n) false (not (down_same n i)) false (is_nothing (bare_node l n i).asked) false false false (placing_bare l (commit n) i)

pub step-without_sets : StepWithoutSets
unfolding answer_without_sets step refusal no_steps_left
step-without_sets l f =
    without (eqb (refusal (without_sets l) f) 0) (refusal (without_sets l) f) (accepted (frame_console f) (without_sets l) (effect (without_sets l) (frame_of f))) (without_sets l)
    ∙ (λ i. answer (without_sets l) (number i)) ∙ one (refusal l f)
    ∙ sym (without (eqb (refusal l f) 0) (refusal l f) (accepted (frame_console f) l (effect l (frame_of f))) l)
  where
    without : (t : Bool) (n : ℕ) (k j : Line)
        → ◌≡◌ {A = Answer} (let a : Answer = elim t [ true ↦ record { number = 0; line = k } | false ↦ record { number = n; line = j } ] in record { number = a.number; line = without_sets a.line })
        (elim t [ true ↦ record { number = 0; line = without_sets k } | false ↦ record { number = n; line = without_sets j } ])
    without true n k j = refl
    without false n k j = refl

    answer : Line → ℕ → Answer
    answer k n = elim (eqb n 0) [ true ↦ record { number = 0; line = without_sets (accepted (frame_console f) k (effect k (frame_of f))) } | false ↦ record { number = n; line = without_sets k } ]

    number : refusal (without_sets l) f ≡ refusal l f
    number i = elim (eqb (frame_refusal f) 0) [ true ↦ elim (no_steps_left l (frame_console f)) [ true ↦ 12 | false ↦ refusal_bare l (frame_of f) i ] | false ↦ frame_refusal f ]

    leads : (o p : Option Line) → Option.map without_sets o ≡ Option.map without_sets p → without_sets (accepted (frame_console f) (without_sets l) o) ≡ without_sets (accepted (frame_console f) l p)
    leads none none e = bare_twice l
    leads none (some k) e = none_some e
    leads (some j) none e = none_some (sym e)
    leads (some j) (some k) e = ap (counted (frame_console f)) (some_same e)

    chosen_by : Bool → ℕ → Line → Line → Answer
    chosen_by t n k j = elim t [ true ↦ record { number = 0; line = k } | false ↦ record { number = n; line = j } ]

    one : (n : ℕ) → answer (without_sets l) n ≡ answer l n
    one n i = chosen_by (eqb n 0) n (leads (effect (without_sets l) (frame_of f)) (effect l (frame_of f)) (effect_bare l (frame_of f)) i) (bare_twice l i)
