-- Trim the logs (document 02, 2026-04): floor times, the run of a log that Trim drops, and the low clock that is kept of it.
use Rattle.std.specs.Prelude.{ℕ, max, Bool, true, false, ◌&&◌, List, [], ◌∷◌, ◌++◌, map, leb, eqb}
use Rattle.plan.specs.Plan.{entering, leaving}
use Rattle.rules.specs.Lists.{joined, least_of}
use Rattle.rules.specs.Line.{Origin, fed, made, Entry, Node, Lane, Line, node_at, lane_at, sender_of, receiver_of, parents, with_node, with_lane, with_lanes}
use Rattle.rules.specs.Clock.{raise_heard, entry_for}

-- The times that the clocks of other nodes hold for node n: its children's entries, and its grandchildren's entries through each child.
unfoldable pub entries_for : Line → ℕ → List ℕ
unfolding leaving parents
entries_for l n =
    map (λ (b : ℕ). (lane_at l b).taken) (leaving l.plan n)
    ++ joined (map (λ (b : ℕ). map (λ (c : ℕ). entry_for n (parents l.plan (receiver_of l b)) (lane_at l c).heard) (leaving l.plan (receiver_of l b))) (leaving l.plan n))

-- "For each node, its floor time is the least time that any clock in the line holds for it, in whatever layer, low clocks aside." Its own time is the first layer of its own clock.
unfoldable pub floor_time : Line → ℕ → ℕ
unfolding entries_for
floor_time l n = least_of ((node_at l n).time ∷ entries_for l n)

-- "every entry's own time is at most that node's floor time and its sender's time, if it has a sender, at most the sender's floor time"
abbrev pub sender_below : Line → Origin → Bool
sender_below l fed = true
sender_below l (made s t) = leb t (floor_time l s)

unfoldable pub droppable : Line → ℕ → Entry → Bool
unfolding floor_time
droppable l n e = leb e.time (floor_time l n) && sender_below l e.origin

-- "the longest leading run", and what comes behind it.
abbrev pub leading : {A : Type 0} → (A → Bool) → List A → List A
leading f [] = []
leading f (x ∷ xs) = elim (f x) [ true ↦ x ∷ leading f xs | false ↦ [] ]

abbrev pub behind : {A : Type 0} → (A → Bool) → List A → List A
behind f [] = []
behind f (x ∷ xs) = elim (f x) [ true ↦ behind f xs | false ↦ x ∷ xs ]

-- "Dropped entries are kept as the node's low clock, the greatest time for each parent and, through it, for each of its parents": the part for one sender, whose parents are ps, raised by an entry that came from it.
abbrev pub low_by : List ℕ → ℕ → Origin → Origin → List ℕ → List ℕ
low_by ps s o before [] = []
low_by ps s fed before (k ∷ ks) = k ∷ ks
low_by ps s (made q t) before (k ∷ ks) = elim (eqb q s) [ true ↦ max k t ∷ raise_heard ps ks before | false ↦ k ∷ ks ]

abbrev pub low_after : List ℕ → ℕ → List Entry → List ℕ → List ℕ
low_after ps s [] low = low
low_after ps s (e ∷ es) low = low_after ps s es (low_by ps s e.origin e.before low)

abbrev pub with_low : List ℕ → Lane → Lane
with_low low x = record { mark = x.mark; taken = x.taken; heard = x.heard; queue = x.queue; low = low }

unfoldable pub low_raised : List ℕ → ℕ → List Entry → Lane → Lane
low_raised ps s es x = with_low (low_after ps s es x.low) x

abbrev pub with_log : List Entry → Node → Node
with_log log x = record { status = x.status; crashed = x.crashed; time = x.time; log = log; held = x.held; targets = x.targets; asked = x.asked }

-- Trim: the run is dropped from the node's log, and its low clock raised by it. "The freed entries are used by later steps."
unfoldable pub trimmed_line : ℕ → Line → Line
unfolding droppable low_raised with_node with_lane entering parents
trimmed_line n l =
    let run = leading (droppable l n) (node_at l n).log in
    with_lanes (λ (b : ℕ). low_raised (parents l.plan (sender_of l b)) (sender_of l b) run) (entering l.plan n)
    (with_node n (with_log (behind (droppable l n) (node_at l n).log) (node_at l n)) l)
