-- What Recover finds of node B in its children's clocks, low clocks and logs (document 01, kind 5; document 02, 2026-04), and what Ask keeps of it (2026-07). Here b is the node B and c a channel.
use Rattle.std.specs.Prelude.{ℕ, ◌-◌, Bool, true, false, cond, ◌&&◌, ◌||◌, List, [], ◌∷◌, ◌++◌, map, drop, length, replicate, leb, ltb, eqb}
use Rattle.std.proofs.Math.Option.{none}
use Rattle.plan.specs.Plan.{channel_at, entering, leaving}
use Rattle.rules.specs.Lists.{keep, all_of, any_of, joined, greatest_of, least_of}
use Rattle.rules.specs.Line.{Origin, fed, made, Entry, Target, Status, up, replay, Lane, Asked, Line, node_at, lane_at, with_node, with_lane, with_lanes, parents, fresh_lane}
use Rattle.rules.specs.Clock.{entry_for}

-- The children's clock entries for B.
unfoldable pub child_times : Line → ℕ → List ℕ
unfolding leaving
child_times l b = map (λ (c : ℕ). (lane_at l c).taken) (leaving l.plan b)

-- "Low is the least and high the greatest clock entry for B among its children."
unfoldable pub low_of : Line → ℕ → ℕ
unfolding child_times
low_of l b = least_of (child_times l b)

unfoldable pub high_of : Line → ℕ → ℕ
unfolding child_times
high_of l b = greatest_of (child_times l b)

-- A child's log entry made from B's message at a time, whose own input was a parent's message at a time.
abbrev pub triple : ℕ → Origin → Origin → List Target
triple b fed before = []
triple b (made s t) fed = []
triple b (made s t) (made p u) = cond (eqb s b) (record { time = t; parent = p; parent_time = u } ∷ []) []

abbrev pub triples : ℕ → List Entry → List Target
triples b [] = []
triples b (e ∷ log) = triple b e.origin e.before ++ triples b log

-- All of them, over B's children.
unfoldable pub child_triples : Line → ℕ → List Target
unfolding leaving
child_triples l b = joined (map (λ (c : ℕ). triples b (node_at l (channel_at l.plan c).receiver).log) (leaving l.plan b))

-- What the children's low clocks hold for a parent of B, through B: one child's, at the end of channel c, and all.
abbrev pub low_through : Line → ℕ → ℕ → ℕ → ℕ
low_through l b parent c = entry_for parent (parents l.plan b) (drop 1 (lane_at l c).low)

unfoldable pub child_lows : Line → ℕ → ℕ → List ℕ
unfolding leaving parents
child_lows l b parent = map (low_through l b parent) (leaving l.plan b)

-- "the restored entry is the greatest A-time in children's log entries made from B's messages with B-time at most low, 0 if none". 2026-04: "Recover starts the restored entries from the children's low clocks".
unfoldable pub restored : Line → ℕ → ℕ → ℕ
unfolding child_triples low_of child_lows
restored l b parent = greatest_of (child_lows l b parent ++ map (λ (t : Target). t.parent_time) (keep (λ (t : Target). eqb t.parent parent && leb t.time (low_of l b)) (child_triples l b)))

-- Targets in their stored order: by B-time, then parent, then the parent's time.
abbrev pub same_target : Target → Target → Bool
same_target t u = eqb t.time u.time && eqb t.parent u.parent && eqb t.parent_time u.parent_time

abbrev pub target_before : Target → Target → Bool
target_before t u = ltb t.time u.time || (eqb t.time u.time && (ltb t.parent u.parent || (eqb t.parent u.parent && ltb t.parent_time u.parent_time)))

-- A target in its place, once.
abbrev pub add_target : Target → List Target → List Target
add_target t [] = t ∷ []
add_target t (u ∷ us) = elim (target_before t u) [ true ↦ t ∷ u ∷ us | false ↦ elim (same_target t u) [ true ↦ u ∷ us | false ↦ u ∷ add_target t us ] ]

-- Each of some targets added to those there are.
abbrev pub sort_targets : List Target → List Target → List Target
sort_targets sorted [] = sorted
sort_targets sorted (t ∷ ts) = sort_targets (add_target t sorted) ts

-- "Targets are the distinct triples (B-time, A, A-time) with B-time above low, over all children."
unfoldable pub targets_of : Line → ℕ → List Target
unfolding child_triples low_of
targets_of l b = sort_targets [] (keep (λ (t : Target). ltb (low_of l b) t.time) (child_triples l b))

-- "targets give one time two inputs or one input two times"
abbrev pub clash : Target → Target → Bool
clash t u = eqb t.time u.time || (eqb t.parent u.parent && eqb t.parent_time u.parent_time)

abbrev pub conflict : List Target → Bool
conflict [] = false
conflict (t ∷ ts) = any_of (clash t) ts || conflict ts

-- "the greatest A-time of its targets", 0 if the parent has none.
abbrev pub row_goal : List Target → ℕ → ℕ
row_goal ts parent = greatest_of (map (λ (t : Target). t.parent_time) (keep (λ (t : Target). eqb t.parent parent) ts))

-- "a parent's row is complete when B's entry for it reaches the greatest A-time of its targets (at once if it has none)"
unfoldable pub row_complete : Line → ℕ → ℕ → Bool
row_complete l b c = leb (row_goal (node_at l b).targets (channel_at l.plan c).sender) (lane_at l c).taken

unfoldable pub rows_complete : Line → ℕ → Bool
unfolding entering row_complete
rows_complete l b = all_of (row_complete l b) (entering l.plan b)

abbrev pub status_of : List Target → Status
status_of [] = up
status_of (t ∷ ts) = replay

-- B with a time, its targets and what its clock has for the sender of each channel that enters it: "B's time is low; each leaving belt's mark is the child's entry for B, each entering belt's mark the restored entry. No targets: B is up. Else it replays." Parents' parents get 0.
unfoldable pub restored_to : ℕ → List Target → (ℕ → ℕ) → ℕ → Line → Line
unfolding entering leaving fresh_lane with_node with_lane
restored_to low targets entry b l =
    let marked : ℕ → Lane → Lane = λ c s. record { mark = s.taken; taken = s.taken; heard = s.heard; queue = s.queue; low = s.low } in
    let entered : ℕ → Lane → Lane = λ c s. fresh_lane l.plan (channel_at l.plan c) (entry c) in
    with_lanes entered (entering l.plan b)
    (with_lanes marked (leaving l.plan b)
    (with_node b (record { status = status_of targets; crashed = true; time = low; log = []; held = []; targets = targets; asked = none }) l))

-- B restored by what Recover finds.
unfoldable pub recovered : ℕ → Line → Line
unfolding low_of targets_of restored restored_to
recovered b l = restored_to (low_of l b) (targets_of l b) (λ (c : ℕ). restored l b (channel_at l.plan c).sender) b l

-- 2026-07: "Ask, works out what Recover would": low, high, and the restored entry of each parent. The targets stand beside it.
unfoldable pub answer_of : Line → ℕ → Asked
unfolding low_of high_of restored entering
answer_of l b =
    let rows = entering l.plan b in
    record { low = low_of l b; high = high_of l b; entries = map (λ (c : ℕ). restored l b (channel_at l.plan c).sender) rows ++ replicate (4 - length rows) 0 }

-- The number that stands at a channel's place: of the first list the channels, of the second the numbers.
abbrev pub beside : List ℕ → List ℕ → ℕ → ℕ
beside bs ts c = entry_for c bs ts

-- B restored by a kept answer and the targets that stand with it.
unfoldable pub committed : ℕ → Asked → Line → Line
unfolding entering restored_to
committed b a l = restored_to a.low (node_at l b).targets (beside (entering l.plan b) a.entries) b l
