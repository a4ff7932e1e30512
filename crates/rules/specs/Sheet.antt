-- The text of a sheet (document 01, "The sheet"): from the bytes read to the bytes written.
use Rattle.std.specs.Prelude.{ℕ, zero, suc, ◌+◌, ◌/◌, ◌%◌, Bool, true, false, ◌||◌, length, take, drop, ltb, eqb}
use mathlib.Core.List.{List, [], ◌∷◌, ◌++◌, map, zip_with}
use Rattle.std.proofs.Math.Option.{Option, none, some}
use Rattle.plan.specs.Layout.{spelled}
use Rattle.plan.specs.Plan.{plan_of, entering}
use Rattle.plan.specs.Check.{plan_refusal}
use Rattle.rules.specs.Lists.{joined}
use Rattle.rules.specs.Line.{Origin, fed, made, Entry, Target, Status, up, down, replay, Asked, Line, node_at, lane_at, node_numbers, sender_of, parents, initial_line}
use Rattle.rules.specs.Step.{step}

-- "The sheet opens with the fixed line LINE 1."
abbrev pub opening : List ℕ
opening = 76 ∷ 73 ∷ 78 ∷ 69 ∷ 32 ∷ 49 ∷ 10 ∷ []

abbrev space : List ℕ
space = 32 ∷ []

abbrev end_line : List ℕ
end_line = 10 ∷ []

-- A number in decimal digits.
abbrev pub digits : ℕ → ℕ → List ℕ → List ℕ
digits zero n text = text
digits (suc k) n text = elim (eqb (n / 10) 0) [ true ↦ (48 + n % 10) ∷ text | false ↦ digits k (n / 10) ((48 + n % 10) ∷ text) ]

unfoldable pub decimal : ℕ → List ℕ
decimal n = digits 20 n []

-- Words with one space between, and a line of them.
abbrev pub spaced : List (List ℕ) → List ℕ
spaced [] = []
spaced (w ∷ []) = w
spaced (w ∷ v ∷ ws) = w ++ space ++ spaced (v ∷ ws)

abbrev pub text_line : List (List ℕ) → List ℕ
text_line ws = spaced ws ++ end_line

-- "Each frame gives `A`, its number from 1, its answer."
unfoldable pub answer_line : ℕ → ℕ → List ℕ
answer_line k n = text_line ((65 ∷ []) ∷ decimal k ∷ decimal n ∷ [])

-- up, down, replay
abbrev pub status_word : Status → List ℕ
status_word up = 117 ∷ 112 ∷ []
status_word down = 100 ∷ 111 ∷ 119 ∷ 110 ∷ []
status_word replay = 114 ∷ 101 ∷ 112 ∷ 108 ∷ 97 ∷ 121 ∷ []

-- "sender, sender's time, or `-` twice"
abbrev pub origin_words : Origin → List (List ℕ)
origin_words fed = (45 ∷ []) ∷ (45 ∷ []) ∷ []
origin_words (made s t) = decimal s ∷ decimal t ∷ []

-- "a line `L` per log entry (node, time, sender, sender's time, or `-` twice, piece, material, mass)"
unfoldable pub entry_line : ℕ → Entry → List ℕ
entry_line n e = text_line ((76 ∷ []) ∷ decimal n ∷ decimal e.time ∷ (origin_words e.origin ++ decimal e.what.piece ∷ decimal e.what.material ∷ decimal e.what.mass ∷ []))

abbrev pub bracketed : List (List ℕ) → List ℕ
bracketed [] = []
bracketed (w ∷ ws) = 91 ∷ spaced (w ∷ ws) ++ 93 ∷ []

abbrev pub node_and_time : ℕ → ℕ → List ℕ
node_and_time n t = decimal n ++ 58 ∷ decimal t

-- "The clock is listed root first, each parent's part listed the same way inside brackets, parents rising, one space between; a node without parents, or in the third layer, has no brackets." A node, its time and its parents' times, with so many layers left below it; a parent's parents are heard through its channel.
abbrev pub listed : Line → ℕ → ℕ → ℕ → List ℕ → List ℕ
listed l zero n t ts = node_and_time n t
listed l (suc layers) n t ts = node_and_time n t ++ bracketed (zip_with (λ b u. listed l layers (sender_of l b) u (lane_at l b).heard) (entering l.plan n) ts)

unfoldable pub clock_text : Line → ℕ → List ℕ
clock_text l n = listed l 2 n (node_at l n).time (map (λ (b : ℕ). (lane_at l b).taken) (entering l.plan n))

-- 2026-07: "After a node's `T` the sheet prints a kept answer: `Q`, low, high, each parent's restored entry as `parent:time`, each target as `time[parent:time]`, parents and times rising."
abbrev pub target_word : Target → List ℕ
target_word u = decimal u.time ++ bracketed (node_and_time u.parent u.parent_time ∷ [])

abbrev pub kept_text : List ℕ → List Target → Option Asked → List ℕ
kept_text ps ts none = []
kept_text ps ts (some a) = text_line ((81 ∷ []) ∷ decimal a.low ∷ decimal a.high ∷ (zip_with node_and_time ps a.entries ++ map target_word ts))

-- "per node: `N` node, up, down or replay, time; a line `L` per log entry", "`T` and the clock"
unfoldable pub node_text : Line → ℕ → List ℕ
node_text l n =
    text_line ((78 ∷ []) ∷ decimal n ∷ status_word (node_at l n).status ∷ decimal (node_at l n).time ∷ [])
    ++ joined (map (entry_line n) (node_at l n).log)
    ++ text_line ((84 ∷ []) ∷ clock_text l n ∷ [])
    ++ kept_text (parents l.plan n) (node_at l n).targets (node_at l n).asked

unfoldable pub line_text : Line → List ℕ
line_text l = joined (map (node_text l) (node_numbers l))

-- The number that two bytes spell at the front, a plan's or a frame's length field.
abbrev pub length_field : List ℕ → ℕ
length_field s = spelled 0 (take 2 s)

-- "A frame length field cut short, under 5, or more than is left, is answered 9 and ends reading."
abbrev pub frame_cut : List ℕ → Bool
frame_cut s = ltb (length s) 2 || ltb (length_field s) 5 || ltb (length s) (length_field s)

-- The answers to the frames in some bytes, counted from k, and then the nodes. The first number bounds how many there can be.
abbrev pub frames_text : ℕ → ℕ → Line → List ℕ → List ℕ
frames_text zero k l s = line_text l
frames_text (suc fuel) k l [] = line_text l
frames_text (suc fuel) k l (b ∷ bs) =
    elim (frame_cut (b ∷ bs)) [
      | true ↦ answer_line k 9 ++ line_text l
      | false ↦
          (let n = length_field (b ∷ bs) in
          let a = step l (take n (b ∷ bs)) in
          answer_line k a.number ++ frames_text fuel (suc k) a.line (drop n (b ∷ bs)))
    ]

-- "A refused plan gives `A 0` and the number, and no more."
abbrev pub plan_text : ℕ → List ℕ → List ℕ → List ℕ
plan_text refused plan frames = elim (eqb refused 0) [ true ↦ frames_text (length frames) 1 (initial_line (plan_of plan)) frames | false ↦ answer_line 0 refused ]

-- "The plan is as long as its length field says, or all there is."
unfoldable pub sheet : List ℕ → List ℕ
unfolding plan_refusal plan_of initial_line step entering parents zip_with decimal answer_line entry_line clock_text node_text line_text
sheet input =
    let n = length_field input in
    opening ++ plan_text (plan_refusal (take n input)) (take n input) (drop n input)
