-- A node's channels changed one by one, those that enter it and those that leave it.
use Rattle.std.specs.Prelude.{ℕ, zero, suc, Bool, true, false, List, [], length, get_or, replicate, eqb}
use Rattle.plan.specs.Plan.{Plan, channel_at, channel_count}
use Rattle.rules.specs.Line.{Lane, Line, lane_at, with_lane}
use Rattle.state.specs.Changes.{with_mark, with_taken}

-- The channels before b changed.
abbrev pub swept_to : (ℕ → Lane → Lane) → ℕ → Line → Line
swept_to f zero l = l
swept_to f (suc b) l = with_lane b (f b (lane_at (swept_to f b l) b)) (swept_to f b l)

-- One change for a channel that enters, one for another that leaves.
abbrev pub by_ends : Bool → Bool → (Lane → Lane) → (Lane → Lane) → Lane → Lane
by_ends true leaves f g x = f x
by_ends false true f g x = g x
by_ends false false f g x = x

abbrev pub at_ends : Plan → ℕ → (ℕ → Lane → Lane) → (ℕ → Lane → Lane) → ℕ → Lane → Lane
at_ends p n f g b x = by_ends (eqb (channel_at p b).receiver n) (eqb (channel_at p b).sender n) (f b) (g b) x

-- Crash: the clocks of a channel that enters go with it; those of one that leaves are the child's.
abbrev pub wiped : Lane → Lane
wiped x = record { mark = 0; taken = 0; heard = replicate (length x.heard) 0; queue = []; low = replicate (length x.low) 0 }

abbrev pub cleared : Lane → Lane
cleared x = record { mark = 0; taken = x.taken; heard = x.heard; queue = []; low = x.low }

abbrev pub crashed_on : Plan → ℕ → ℕ → Lane → Lane
crashed_on p n = at_ends p n (λ b. wiped) (λ b. cleared)

-- Recover: the restored entry, of those for each parent; the child's entry.
abbrev pub with_entry : ℕ → Lane → Lane
with_entry t x = with_taken t (with_mark t x)

abbrev pub marked : Lane → Lane
marked x = with_mark x.taken x

abbrev pub restored_on : Plan → ℕ → List ℕ → ℕ → Lane → Lane
restored_on p n entries = at_ends p n (λ b. with_entry (get_or entries (channel_at p b).sender 0)) (λ b. marked)

-- All of a line's channels changed.
abbrev pub swept_all : (ℕ → Lane → Lane) → Line → Line
swept_all f l = swept_to f (channel_count l.plan) l

abbrev pub crashed_lanes : ℕ → Line → Line
crashed_lanes n l = swept_all (crashed_on l.plan n) l

abbrev pub restored_lanes : ℕ → List ℕ → Line → Line
restored_lanes n entries l = swept_all (restored_on l.plan n entries) l
