-- Frames and their refusals 9 to 11 and 25 (document 01, "Clocks and steps"; document 02, 2026-01, 2026-04 and 2026-07).
use Rattle.std.specs.Prelude.{ℕ, ◌+◌, Bool, true, false, cond, not, ◌&&◌, ◌||◌, List, [], ◌∷◌, length, get_or, drop, leb, ltb, eqb}
use Rattle.plan.specs.Layout.{Layout, fields}
use Rattle.rules.specs.Line.{console_count}

-- What a frame asks, by kind: 1 Feed (with its record's bytes), 2 Send, 3 Take, 4 Crash, 5 Recover, 6 Trim (2026-04), 7 Ask and 8 Commit (2026-07).
pub data Frame : Type 0 where
  feed : ℕ → List ℕ → Frame
  send : ℕ → Frame
  take : ℕ → Frame
  crash : ℕ → Frame
  recover : ℕ → Frame
  trim : ℕ → Frame
  ask : ℕ → Frame
  commit : ℕ → Frame

-- "A frame: length of the frame (2 bytes), version 1, kind, node number (belt number for kinds 2 and 3); kind 1 adds a record." 2026-01: "Frames of version 2 carry a console number 0..3 after the kind and are one byte longer". Frames of both versions begin alike.
unfoldable pub frame_head : Layout (List ℕ)
unfolding fields
frame_head = fields (2 ∷ 1 ∷ 1 ∷ [])

abbrev pub frame_number : ℕ → List ℕ → ℕ
frame_number k f = get_or (frame_head.read f) k 0

abbrev pub frame_version : List ℕ → ℕ
frame_version f = frame_number 1 f

abbrev pub frame_kind : List ℕ → ℕ
frame_kind f = frame_number 2 f

-- How many bytes a frame has for its console.
unfoldable pub console_bytes : List ℕ → ℕ
unfolding frame_head
console_bytes f = cond (eqb (frame_version f) 2) 1 0

-- "version 1 frames are console 0"
unfoldable pub frame_console : List ℕ → ℕ
unfolding console_bytes
frame_console f = cond (eqb (frame_version f) 2) (get_or f 4 0) 0

abbrev pub frame_of_kind : ℕ → ℕ → List ℕ → Frame
frame_of_kind kind n rest = cond (eqb kind 1) (feed n rest) (cond (eqb kind 2) (send n) (cond (eqb kind 3) (take n) (cond (eqb kind 4) (crash n) (cond (eqb kind 5) (recover n) (cond (eqb kind 6) (trim n) (cond (eqb kind 7) (ask n) (commit n)))))))

unfoldable pub frame_of : List ℕ → Frame
unfolding console_bytes
frame_of f = frame_of_kind (frame_kind f) (get_or f (4 + console_bytes f) 0) (drop (5 + console_bytes f) f)

-- 9: "frame under 5 bytes, or not its length field"
unfoldable pub bad_frame_length : List ℕ → Bool
unfolding frame_head
bad_frame_length f = ltb (length f) 5 || not (eqb (frame_number 0 f) (length f))

-- 10: "frame version"
unfoldable pub bad_frame_version : List ℕ → Bool
unfolding frame_head
bad_frame_version f = not (eqb (frame_version f) 1 || eqb (frame_version f) 2)

-- 11: "kind not 1..5, or length not the kind's": "13 bytes for kind 1, else 5", one more in version 2. 2026-04: "Kind 6, Trim, takes a node." 2026-07: "Kind 7, Ask", "kind 8, Commit".
unfoldable pub bad_kind : List ℕ → Bool
unfolding console_bytes
bad_kind f = not (leb 1 (frame_kind f) && leb (frame_kind f) 8 && eqb (length f) (cond (eqb (frame_kind f) 1) 13 5 + console_bytes f))

-- 25: "a console above 3, after 11"
unfoldable pub bad_console : List ℕ → Bool
unfolding frame_console
bad_console f = leb console_count (frame_console f)

-- The first of 9, 10, 11 and 25 that applies, 0 if none does: the frame is well formed.
unfoldable pub frame_refusal : List ℕ → ℕ
unfolding bad_frame_length bad_frame_version bad_kind bad_console
frame_refusal f =
    elim (bad_frame_length f) [
      | true ↦ 9
      | false ↦ elim (bad_frame_version f) [
        | true ↦ 10
        | false ↦ elim (bad_kind f) [
          | true ↦ 11
          | false ↦ elim (bad_console f) [ true ↦ 25 | false ↦ 0 ]
        ]
      ]
    ]

-- Who passes a frame: one who types version 1, or a console that says its number.
pub data Caller : Type 0 where
  unnamed : Caller
  console : ℕ → Caller

abbrev pub console_of : Caller → ℕ
console_of unnamed = 0
console_of (console c) = c

-- A caller's frame of a kind without a record, for a node or a channel.
abbrev pub frame_from : Caller → ℕ → ℕ → List ℕ
frame_from unnamed kind n = 0 ∷ 5 ∷ 1 ∷ kind ∷ n ∷ []
frame_from (console c) kind n = 0 ∷ 6 ∷ 2 ∷ kind ∷ c ∷ n ∷ []
