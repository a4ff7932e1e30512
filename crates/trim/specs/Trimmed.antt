-- What Trim answers, floor times found channel by channel, and the low clock raised.
use Rattle.std.specs.Prelude.{ℕ, min, Bool, true, false, cond, ◌&&◌, List, leb, eqb, get_or, take}
use Rattle.std.proofs.Math.Option.{Option, none, some}
use Rattle.plan.specs.Plan.{node_count, entering}
use Rattle.rules.specs.Line.{Origin, fed, made, Entry, Lane, Line, node_at, lane_at, sender_of, parents}
use Rattle.rules.specs.Trim.{low_raised}
use Rattle.rules.specs.Step.{not_all_up}
use Rattle.items.specs.Items.{place_from}

abbrev pub trim_answer : Line → ℕ → ℕ
trim_answer l n = elim (leb (node_count l.plan) n) [ true ↦ 13 | false ↦ elim (not_all_up l) [ true ↦ 26 | false ↦ 0 ] ]

-- A node's time so far, lowered by what channel b's receiver holds for it: through the sender, if the node is a parent of it; and as the sender.
abbrev pub lowers_at : Option ℕ → List ℕ → ℕ → ℕ
lowers_at none hs k = k
lowers_at (some i) hs k = min k (get_or hs i 0)

unfoldable pub heard_lowers : Line → ℕ → ℕ → ℕ → ℕ
unfolding entering
heard_lowers l b q k = lowers_at (place_from l.plan q 0 (entering l.plan (sender_of l b))) (lane_at l b).heard k

unfoldable pub channel_lowers : Line → ℕ → ℕ → ℕ → ℕ
unfolding heard_lowers
channel_lowers l b q k = cond (eqb (sender_of l b) q) (min (heard_lowers l b q k) (lane_at l b).taken) (heard_lowers l b q k)

-- Whether an entry may go, by the floor times.
abbrev pub sender_within : List ℕ → Origin → Bool
sender_within floors fed = true
sender_within floors (made s t) = leb t (get_or floors s 0)

abbrev pub entry_within : List ℕ → ℕ → Entry → Bool
entry_within floors n e = leb e.time (get_or floors n 0) && sender_within floors e.origin

-- The lane of channel b, its low clock raised by the first entries of node n's log, so many.
unfoldable pub raised_on : Line → ℕ → ℕ → ℕ → Lane → Lane
unfolding low_raised parents
raised_on l n count b = low_raised (parents l.plan (sender_of l b)) (sender_of l b) (take count (node_at l n).log)
