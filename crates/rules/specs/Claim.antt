-- What a list of frames did to a line: the words that the order claim is made of (document 00, demand 3; document 01, "The plain line").
use Rattle.std.specs.Prelude.{ℕ, Bool, true, false, ◌&&◌, List, [], ◌∷◌, ◌++◌, eqb}
use Rattle.plan.specs.Record.{record_layout}
use Rattle.rules.specs.Lists.{is_empty, keep, all_of, any_of}
use Rattle.rules.specs.Line.{Message, Line, node_at, lane_at, node_numbers, channel_numbers_of, sender_of, receiver_of, is_up}
use Rattle.rules.specs.Frame.{Frame, feed, send, take, crash, recover, trim, ask, commit, frame_of}
use Rattle.rules.specs.Step.{Answer, step, sendable, is_nothing}
use Rattle.rules.specs.Plain.{Act, feeds, Receipt}

-- "each Take answered 0 gives the receiver the first record on the belt in the state passed, with the belt's sender"
abbrev pub first_receipt : Line → ℕ → List Message → List Receipt
first_receipt l b [] = []
first_receipt l b (m ∷ rest) = record { receiver = receiver_of l b; what = m.what; sender = sender_of l b } ∷ []

abbrev pub receipt_of : Line → Frame → List Receipt
receipt_of l (feed n r) = []
receipt_of l (send b) = []
receipt_of l (take b) = first_receipt l b (lane_at l b).queue
receipt_of l (crash n) = []
receipt_of l (recover n) = []
receipt_of l (trim n) = []
receipt_of l (ask n) = []
receipt_of l (commit n) = []

-- An accepted Feed, as the plain line is fed.
abbrev pub feed_of : Frame → List Act
feed_of (feed n r) = feeds n (record_layout.read r) ∷ []
feed_of (send b) = []
feed_of (take b) = []
feed_of (crash n) = []
feed_of (recover n) = []
feed_of (trim n) = []
feed_of (ask n) = []
feed_of (commit n) = []

-- The node that an accepted Crash names.
abbrev pub crash_of : Frame → List ℕ
crash_of (feed n r) = []
crash_of (send b) = []
crash_of (take b) = []
crash_of (crash n) = n ∷ []
crash_of (recover n) = []
crash_of (trim n) = []
crash_of (ask n) = []
crash_of (commit n) = []

abbrev pub named : ℕ → List ℕ → Bool
named n ns = any_of (eqb n) ns

-- What a list of frames, given to Step one after the other, leaves and did.
pub record Story : Type 0 where
  pub line : Line
  pub numbers : List ℕ
  pub fed_acts : List Act
  pub receipts : List Receipt
  pub crashes : List ℕ

abbrev pub start_of : Line → Story
start_of l = record { line = l; numbers = []; fed_acts = []; receipts = []; crashes = [] }

abbrev pub if_zero : {A : Type 0} → ℕ → List A → List A
if_zero n xs = elim (eqb n 0) [ true ↦ xs | false ↦ [] ]

-- One more frame, with its answer.
abbrev pub told_by : Answer → Story → List ℕ → Story
told_by a s f =
    record {
      line = a.line;
      numbers = s.numbers ++ a.number ∷ [];
      fed_acts = s.fed_acts ++ if_zero a.number (feed_of (frame_of f));
      receipts = s.receipts ++ if_zero a.number (receipt_of s.line (frame_of f));
      crashes = s.crashes ++ if_zero a.number (crash_of (frame_of f));
    }

unfoldable pub told : Story → List ℕ → Story
unfolding step frame_of record_layout
told s f =
    let a = step s.line f in
    record {
      line = a.line;
      numbers = s.numbers ++ a.number ∷ [];
      fed_acts = s.fed_acts ++ if_zero a.number (feed_of (frame_of f));
      receipts = s.receipts ++ if_zero a.number (receipt_of s.line (frame_of f));
      crashes = s.crashes ++ if_zero a.number (crash_of (frame_of f));
    }

abbrev pub story_from : Story → List (List ℕ) → Story
story_from s [] = s
story_from s (f ∷ fs) = story_from (told s f) fs

-- What node n received, in order.
abbrev pub received_by : ℕ → List Receipt → List Receipt
received_by n rs = keep (λ (r : Receipt). eqb r.receiver n) rs

-- "no belt has anything to send or take and no node is down or replaying"
unfoldable pub quiet : Line → Bool
unfolding sendable
quiet l =
    all_of (λ (b : ℕ). is_nothing (sendable l b) && is_empty (lane_at l b).queue) (channel_numbers_of l)
    && all_of (λ (n : ℕ). is_up (node_at l n).status) (node_numbers l)
