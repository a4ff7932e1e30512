-- 2026-08, time only for what leaves: its promises beside those that were made before, over the same step.
use Rattle.std.specs.Prelude.{ℕ, ◌+◌, ◌<◌, ◌≡◌, Bool, true, false, ◌||◌, List, [], ◌∷◌, ◌++◌, map, length, eqb}
use Rattle.plan.specs.declared.Record.{Record}
use Rattle.plan.specs.Record.{record_layout, record_fits}
use Rattle.plan.specs.Rule.{applied}
use Rattle.plan.specs.Channel.{takes}
use Rattle.plan.specs.Plan.{Plan, node_count, rule_at, channel_at, leaving, is_source, is_sink, plan_of}
use Rattle.rules.specs.Lists.{keep, any_of}
use Rattle.rules.specs.Line.{made, Message, Entry, up, Node, Line, initial_line, node_at, lane_at, sender_of, receiver_of, parents, with_node, with_lane, counted}
use Rattle.rules.specs.Frame.{feed, take, frame_console, frame_of, frame_refusal}
use Rattle.rules.specs.Clock.{taken_from}
use Rattle.rules.specs.Step.{no_steps_left, step}
use Rattle.rules.specs.Plain.{Act, feeds, takes_from, Receipt}
use Rattle.rules.specs.Claim.{Story, start_of, story_from, named, received_by}

-- Whether a record that node n is fed or takes counts: after the node's rule some leaving channel takes it; "Outfeeds log and count everything as before."
abbrev pub counts : Plan → ℕ → Record → Bool
counts p n r = is_sink p n || any_of (λ (c : ℕ). takes (channel_at p c) (applied (rule_at p n) r)) (leaving p n)

-- "On an infeed with leaving belts, a Feed that none of them takes leaves nothing but the step count, and 21 is not looked at for it." Of every line, whatever its logs hold.
abbrev pub QuietFeed : Type 0
QuietFeed =
    (l : Line) (f : List ℕ) (n : ℕ) (r : List ℕ) → frame_refusal f ≡ 0 → no_steps_left l (frame_console f) ≡ false → frame_of f ≡ feed n r
    → n < node_count l.plan → is_source l.plan n ≡ true → record_fits r ≡ true → counts l.plan n (record_layout.read r) ≡ false
    → step l f ≡ record { number = 0; line = counted (frame_console f) l }

-- A line where console c has taken the first message of channel b, and none of the receiver's channels takes the record: it "raises the clock as before but gets no time of its own"; "its log entry stays"; "it carries the node's present time and an empty set of belts". (A replaying node's Take is as it was: `taken_replaying`.)
abbrev pub taken_silently : ℕ → ℕ → Message → List Message → Line → Line
taken_silently c b m rest l =
    let n = receiver_of l b in
    let x = node_at l n in
    let e : Entry = record { what = applied (rule_at l.plan n) m.what; time = x.time; origin = made (sender_of l b) m.time; before = m.origin; set = 0 } in
    let y : Node = record { status = x.status; crashed = x.crashed; time = x.time; log = x.log ++ e ∷ []; held = x.held; targets = x.targets; asked = x.asked } in
    counted c (with_node n y (with_lane b (taken_from (parents l.plan (sender_of l b)) m rest (lane_at l b)) l))

-- "A record taken by a node that has leaving belts, when none of them takes it", the node being up.
abbrev pub SilentTake : Type 0
SilentTake =
    (l : Line) (f : List ℕ) (b : ℕ) (m : Message) (rest : List Message) → frame_of f ≡ take b → (step l f).number ≡ 0 → (lane_at l b).queue ≡ m ∷ rest
    → (node_at l (receiver_of l b)).status ≡ up → counts l.plan (receiver_of l b) m.what ≡ false → (step l f).line ≡ taken_silently (frame_console f) b m rest l

-- The records that some Feeds gave node n.
abbrev pub fed_to : ℕ → List Act → List Record
fed_to n [] = []
fed_to n (feeds m r ∷ acts) = elim (eqb m n) [ true ↦ r ∷ fed_to n acts | false ↦ fed_to n acts ]
fed_to n (takes_from b ∷ acts) = fed_to n acts

-- How many of some records count.
abbrev pub times_of : Plan → ℕ → List Record → ℕ
times_of p n rs = length (keep (counts p n) rs)

-- "The published method counts outgoing messages": a node's time is how many of the records that it was fed or took count.
abbrev pub TimeCounts : Plan → ℕ → Story → Type 0
TimeCounts p n s = (node_at s.line n).time ≡ times_of p n (fed_to n s.fed_acts) + times_of p n (map (λ (r : Receipt). r.what) (received_by n s.receipts))

-- So it is, after every list of frames, for every node that no accepted Crash named.
abbrev pub TimesCount : Type 0
TimesCount = (plan : List ℕ) (frames : List (List ℕ)) (n : ℕ) → n < node_count (plan_of plan) → (let s = story_from (start_of (initial_line (plan_of plan))) frames in named n s.crashes ≡ false → TimeCounts (plan_of plan) n s)
