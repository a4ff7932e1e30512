-- A run: the opening, and then turns, each with the reader and the buffers that the one before it left; and why it ended.
use Rattle.std.specs.Prelude.{ℕ, ◌+◌, ◌≤◌, ◌<◌, ◌≡◌, List, [], ◌++◌, length, take, drop}
use Rattle.rules.specs.Sheet.{sheet}
use Rattle.stream.specs.declared.Phase.TheVariants.{Ended}
use Rattle.stream.specs.declared.Reader.{Reader}
use Rattle.stream.specs.Reader.{window_size, Begun}
use Rattle.sheet.specs.declared.Ending.{Ending}
use Rattle.sheet.specs.declared.Ending.TheVariants.{Whole, Unread, Unwritten, TooLong}
use Rattle.sheet.specs.Turned.{allowance, Failed, ReadBehind, Went, LastTurn}

-- Turns that took a block each, from a reader and buffers to those that the last of them left.
pub data Turns (r : Reader) (s w o : List ℕ) : Reader → List ℕ → List ℕ → List ℕ → Type 0 where
  no_turn : Turns r s w o r s w o
  more : {q next : Reader} {t v u state window out : List ℕ} → Turns r s w o q t v u → Went q t v u next state window out → Turns r s w o next state window out

-- The bytes that came, one block behind the other; and the texts that stood at the output's front behind them.
abbrev pub turns_read : {r : Reader} {s w o : List ℕ} {q : Reader} {t v u : List ℕ} → Turns r s w o q t v u → List ℕ
turns_read no_turn = []
turns_read (more {q = q} turns went) = turns_read turns ++ take went.n (drop q.have went.came)

abbrev pub turns_text : {r : Reader} {s w o : List ℕ} {q : Reader} {t v u : List ℕ} → Turns r s w o q t v u → List ℕ
turns_text no_turn = []
turns_text (more {next = next} {out = out} turns went) = turns_text turns ++ take next.wrote out

-- A run so far, from a state, a window and an output: the opening, and turns.
pub record SoFar (s w o : List ℕ) (q : Reader) (t v u : List ℕ) : Type 0 where
  pub start : Reader
  pub front : List ℕ
  pub begun : Begun o front start
  pub turns : Turns start s w front q t v u

-- What it has read, and what it has given to be written.
abbrev pub read_in : {s w o : List ℕ} {q : Reader} {t v u : List ℕ} → SoFar s w o q t v u → List ℕ
read_in run = turns_read run.turns

abbrev pub text_in : {s w o : List ℕ} {q : Reader} {t v u : List ℕ} → SoFar s w o q t v u → List ℕ
text_in run = take run.start.wrote run.front ++ turns_text run.turns

-- Why a run ended, and what it leaves of the buffers.
pub data Ran (s w o : List ℕ) : Ending → List ℕ → List ℕ → List ℕ → Type 0 where
  -- Whole: the reader ended by itself; the text is the sheet of what was read and whatever still comes.
  whole_before_the_end : {q : Reader} {state window out : List ℕ} (run : SoFar s w o q state window out) → q.phase ≡ Ended → ((rest : List ℕ) → text_in run ≡ sheet (read_in run ++ rest)) → Ran s w o Whole state window out
  -- Whole: a read told the end of the input; the text, the last text included, is the sheet of what was read.
  whole_at_the_end : {q : Reader} {t v u state window out : List ℕ} {wrote : ℕ} (run : SoFar s w o q t v u) → LastTurn q t v u wrote state window out → text_in run ++ take wrote out ≡ sheet (read_in run) → Ran s w o Whole state window out
  -- A read failed, and nothing was done behind it.
  unread_after : {q : Reader} {state v window out : List ℕ} → SoFar s w o q state v out → ReadBehind v q.have window Failed → Ran s w o Unread state window out
  -- The opening or a block's text was not written, or the last text was not: there was some.
  unwritten_after : {q : Reader} {state window out : List ℕ} → SoFar s w o q state window out → 1 ≤ q.wrote → Ran s w o Unwritten state window out
  unwritten_at_the_end : {q : Reader} {t v u state window out : List ℕ} {wrote : ℕ} → SoFar s w o q t v u → LastTurn q t v u wrote state window out → 1 ≤ wrote → Ran s w o Unwritten state window out
  -- What was read leaves less than a window of the allowance.
  allowance_used : {q : Reader} {state window out : List ℕ} (run : SoFar s w o q state window out) → allowance < length (read_in run) + window_size → Ran s w o TooLong state window out
