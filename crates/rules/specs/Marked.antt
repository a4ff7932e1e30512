-- The marked sheets P1 to P9 of document 01: one table, and the statement that every row of it holds.
use Rattle.std.specs.Prelude.{ℕ, suc, ◌≡◌, refl, List, [], ◌∷◌, ◌++◌, map}
use Rattle.plan.specs.declared.Rule.TheVariants.{Keep}
use Rattle.plan.specs.declared.Channel.{Channel}
use Rattle.plan.specs.Plan.{Plan, plan_bytes}
use Rattle.plan.specs.Check.{plan_refusal}
use Rattle.placing.specs.Marked.{Mark, Case, mark_of, marked as placingMarked}
use Rattle.rules.specs.Lists.{joined}
use Rattle.rules.specs.Line.{Entry, Target, node_at, lane_at, initial_line}
use Rattle.rules.specs.Recover.{low_of, high_of}
use Rattle.rules.specs.Plain.{Receipt}
use Rattle.rules.specs.Claim.{Story, start_of, story_from, told, received_by}
use Rattle.rules.specs.Sheet.{sheet}
use Rattle.rules.specs.Frame.{unnamed, frame_from}

-- A sheet's number, what the rules give and what the paper marks, in lists of numbers.
pub record Row : Type 0 where
  pub number : ℕ
  pub given : List (List ℕ)
  pub marked : List (List ℕ)

-- P1: the sheet of the paper.
unfoldable pub sheet_bytes : List ℕ
sheet_bytes =
    0 ∷ 19 ∷ 1 ∷ 2 ∷ 1 ∷ 0 ∷ 0 ∷ 0 ∷ 0 ∷ 0 ∷ 0 ∷ 0 ∷ 0 ∷ 0 ∷ 1 ∷ 255 ∷ 255 ∷ 1 ∷ 0 ∷
    0 ∷ 13 ∷ 1 ∷ 1 ∷ 0 ∷ 0 ∷ 0 ∷ 0 ∷ 7 ∷ 1 ∷ 0 ∷ 0 ∷ 250 ∷ 0 ∷ 5 ∷ 1 ∷ 2 ∷ 0 ∷ 0 ∷ 5 ∷ 1 ∷ 3 ∷ 0 ∷ 0 ∷ 5 ∷ 1 ∷ 3 ∷ 0 ∷ []

unfoldable pub sheet_text : List ℕ
sheet_text =
    76 ∷ 73 ∷ 78 ∷ 69 ∷ 32 ∷ 49 ∷ 10 ∷
    65 ∷ 32 ∷ 49 ∷ 32 ∷ 48 ∷ 10 ∷
    65 ∷ 32 ∷ 50 ∷ 32 ∷ 48 ∷ 10 ∷
    65 ∷ 32 ∷ 51 ∷ 32 ∷ 48 ∷ 10 ∷
    65 ∷ 32 ∷ 52 ∷ 32 ∷ 49 ∷ 56 ∷ 10 ∷
    78 ∷ 32 ∷ 48 ∷ 32 ∷ 117 ∷ 112 ∷ 32 ∷ 49 ∷ 10 ∷
    76 ∷ 32 ∷ 48 ∷ 32 ∷ 49 ∷ 32 ∷ 45 ∷ 32 ∷ 45 ∷ 32 ∷ 55 ∷ 32 ∷ 49 ∷ 32 ∷ 50 ∷ 53 ∷ 48 ∷ 10 ∷
    84 ∷ 32 ∷ 48 ∷ 58 ∷ 49 ∷ 10 ∷
    78 ∷ 32 ∷ 49 ∷ 32 ∷ 117 ∷ 112 ∷ 32 ∷ 49 ∷ 10 ∷
    76 ∷ 32 ∷ 49 ∷ 32 ∷ 49 ∷ 32 ∷ 48 ∷ 32 ∷ 49 ∷ 32 ∷ 55 ∷ 32 ∷ 49 ∷ 32 ∷ 50 ∷ 53 ∷ 48 ∷ 10 ∷
    84 ∷ 32 ∷ 49 ∷ 58 ∷ 49 ∷ 91 ∷ 48 ∷ 58 ∷ 49 ∷ 93 ∷ 10 ∷ []

-- P3 to P8 are the placing's own table: the number answered and the columns left.
abbrev mark_lists : Mark → List (List ℕ)
mark_lists m = (m.number ∷ []) ∷ m.columns ∷ []

abbrev placing_rows : ℕ → List Case → List Row
placing_rows k [] = []
placing_rows k (c ∷ cs) = record { number = k; given = mark_lists (mark_of c.sheet); marked = mark_lists c.mark } ∷ placing_rows (suc k) cs

-- P9: "0 and 1 feed 2; 2 sends material 1 to 3, materials 1 and 2 to 4."
abbrev pub channel : ℕ → ℕ → ℕ → Channel
channel sender receiver mask = record { sender = sender; receiver = receiver; mask = mask; modulus = 1; remainder = 0; least = 0; greatest = 65_535 }

unfoldable pub replay_plan : Plan
replay_plan = record { version = 1; rules = Keep ∷ Keep ∷ Keep ∷ Keep ∷ Keep ∷ []; channels = channel 0 2 65535 ∷ channel 1 2 65535 ∷ channel 2 3 2 ∷ channel 2 4 6 ∷ [] }

abbrev pub feed_frame : ℕ → ℕ → ℕ → List ℕ
feed_frame node piece material = 0 ∷ 13 ∷ 1 ∷ 1 ∷ node ∷ 0 ∷ 0 ∷ 0 ∷ piece ∷ material ∷ 0 ∷ 0 ∷ 0 ∷ []

abbrev pub frame : ℕ → ℕ → List ℕ
frame kind number = frame_from unnamed kind number

-- A Send and a Take on a channel.
abbrev pub moved : ℕ → List (List ℕ)
moved b = frame 2 b ∷ frame 3 b ∷ []

-- "Pieces 1 (material 1) and 2 (material 2) enter at 0, piece 3 (material 2) at 1. Node 2 takes 3, 1, 2; node 3 takes piece 1; 2 crashes and recovers."
unfoldable pub replay_frames : List (List ℕ)
replay_frames = feed_frame 0 1 1 ∷ feed_frame 0 2 2 ∷ feed_frame 1 3 2 ∷ (moved 1 ++ (moved 0 ++ (moved 0 ++ (moved 2 ++ frame 4 2 ∷ frame 5 2 ∷ []))))

unfoldable pub replay_begun : Story
unfolding replay_plan replay_frames told initial_line
replay_begun = story_from (start_of (initial_line replay_plan)) replay_frames

-- "A Take from 1, after a Send there, is 20."
unfoldable pub replay_refused : Story
unfolding replay_begun told
replay_refused = story_from replay_begun (moved 1)

-- "Taking piece 1 places it at 2; time 1 stays empty."
unfoldable pub replay_ended : Story
unfolding replay_refused told
replay_ended = story_from replay_refused (moved 0)

-- "Node 4 may then receive 1, 3, 2": piece 1 goes on; node 2 takes 3, which waits on its channel, and 2; both go on.
unfoldable pub replay_after : Story
unfolding replay_ended told
replay_after = story_from replay_ended (moved 3 ++ (frame 3 1 ∷ (moved 0 ++ (moved 3 ++ moved 3))))

abbrev target_numbers : List Target → List ℕ
target_numbers ts = joined (map (λ (t : Target). t.time ∷ t.parent ∷ t.parent_time ∷ []) ts)

abbrev pub log_numbers : List Entry → List ℕ
log_numbers es = joined (map (λ (e : Entry). e.time ∷ e.what.piece ∷ []) es)

abbrev receipt_numbers : List Receipt → List ℕ
receipt_numbers rs = joined (map (λ (r : Receipt). r.what.piece ∷ r.sender ∷ []) rs)

unfoldable pub replay_row : Row
unfolding plan_bytes plan_refusal replay_plan low_of high_of replay_begun replay_refused replay_ended replay_after
replay_row =
    record {
      number = 9;
      given =
          (plan_refusal (plan_bytes replay_plan) ∷ [])
          ∷ target_numbers (node_at replay_begun.line 2).targets
          ∷ (low_of replay_begun.line 2 ∷ high_of replay_begun.line 2 ∷ [])
          ∷ ((lane_at replay_begun.line 2).mark ∷ (lane_at replay_begun.line 3).mark ∷ [])
          ∷ replay_refused.numbers
          ∷ ((node_at replay_ended.line 2).time ∷ log_numbers (node_at replay_ended.line 2).log)
          ∷ receipt_numbers (received_by 4 replay_after.receipts)
          ∷ [];
      marked =
          -- the plan is accepted
          (0 ∷ [])
          -- "target (2, 0, 1)"
          ∷ (2 ∷ 0 ∷ 1 ∷ [])
          -- "Low 0, high 2"
          ∷ (0 ∷ 2 ∷ [])
          -- "belt marks 2 to node 3, 0 to node 4"
          ∷ (2 ∷ 0 ∷ [])
          -- every step before is answered 0, the "Take from 1" 20
          ∷ (0 ∷ 0 ∷ 0 ∷ 0 ∷ 0 ∷ 0 ∷ 0 ∷ 0 ∷ 0 ∷ 0 ∷ 0 ∷ 0 ∷ 0 ∷ 0 ∷ 20 ∷ [])
          -- node 2's time, then its log: time 2, piece 1
          ∷ (2 ∷ 2 ∷ 1 ∷ [])
          -- pieces and senders that node 4 received
          ∷ (1 ∷ 2 ∷ 3 ∷ 2 ∷ 2 ∷ 2 ∷ [])
          ∷ [];
    }

-- P1 to P9.
unfoldable pub marked_table : List Row
unfolding sheet sheet_bytes sheet_text plan_refusal mark_of placingMarked replay_row
marked_table =
    record { number = 1; given = sheet sheet_bytes ∷ []; marked = sheet_text ∷ [] }
    ∷ record { number = 2; given = (plan_refusal (0 ∷ 5 ∷ 1 ∷ []) ∷ []) ∷ []; marked = (1 ∷ []) ∷ [] }
    ∷ (placing_rows 3 placingMarked ++ replay_row ∷ [])

-- Every row holds.
pub marks_hold : map (λ (r : Row). r.given) marked_table ≡ map (λ (r : Row). r.marked) marked_table
unfolding marked_table
marks_hold = refl
