-- The numbers that Crash, Recover, Ask and Commit answer, 0 for none.
use Rattle.std.specs.Prelude.{ℕ, Bool, true, false, not, ◌&&◌, ◌||◌, leb, eqb}
use Rattle.plan.specs.Plan.{node_count, is_source, is_sink}
use Rattle.rules.specs.Line.{Line, node_at, sender_of, receiver_of}
use Rattle.rules.specs.Step.{is_nothing, node_down, neighbour_crashed}

-- The first of some numbers whose test holds.
abbrev pub first_of : Bool → ℕ → ℕ → ℕ
first_of t n rest = elim t [ true ↦ n | false ↦ rest ]

abbrev pub is_end : Line → ℕ → Bool
is_end l n = is_source l.plan n || is_sink l.plan n

-- Of 13 and 14: of a node that is to be crashed or restarted.
abbrev pub reach_answer : Line → ℕ → ℕ
reach_answer l n = first_of (leb (node_count l.plan) n) 13 (first_of (is_end l n) 14 0)

abbrev pub crash_answer : Line → ℕ → ℕ
crash_answer l n = first_of (leb (node_count l.plan) n) 13 (first_of (is_end l n) 14 (first_of (node_down l n) 15 (first_of (neighbour_crashed l n) 16 0)))

-- Of 13 to 15, by the node alone: of one that is to be restarted.
abbrev pub restart_asked : Line → ℕ → ℕ
restart_asked l n = first_of (leb (node_count l.plan) n) 13 (first_of (is_end l n) 14 (first_of (not (node_down l n)) 15 0))

-- Commit: these, and 27.
abbrev pub commit_answer : Line → ℕ → ℕ
commit_answer l n = first_of (leb (node_count l.plan) n) 13 (first_of (is_end l n) 14 (first_of (not (node_down l n)) 15 (first_of (is_nothing (node_at l n).asked) 27 0)))

-- Whether channel b joins a node to one that bears a crash mark.
abbrev pub beside_on : Line → ℕ → ℕ → Bool
beside_on l n b = (eqb (receiver_of l b) n && (node_at l (sender_of l b)).crashed) || (eqb (sender_of l b) n && (node_at l (receiver_of l b)).crashed)
