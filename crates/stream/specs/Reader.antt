-- What the buffers of a sheet hold between two blocks, and what a call leaves of them.
use Rattle.std.specs.Prelude.{ℕ, ◌+◌, ◌≤◌, ◌<◌, ◌^◌, ◌≡◌, List, [], take}
use Rattle.std.proofs.Math.Option.{Option, none, some}
use Rattle.basics.specs.Put.{put}
use Rattle.rules.specs.Line.{Line}
use Rattle.rules.specs.Sheet.{opening}
use Rattle.state.specs.State.{line_bytes, line_of}
use Rattle.buffer.specs.Holds.{Undamaged}
use Rattle.report.specs.Wrote.{Wrote}
use Rattle.stream.specs.declared.Phase.{Phase}
use Rattle.stream.specs.declared.Phase.TheVariants.{Planning, Framing, Ended}
use Rattle.stream.specs.declared.Reader.{Reader}
use Rattle.stream.specs.Reading.{Reading, planning, framing, ended, Told}

-- The window holds a plan or a frame of 65,535 bytes and one byte more; the output holds what a window's frames give, and the nodes.
abbrev pub window_size : ℕ
window_size = 65536

abbrev pub out_size : ℕ
out_size = 540672

-- A frame's number stays below this, so it never wraps.
abbrev pub count_most : ℕ
count_most = 2 ^ 63

abbrev pub reading_by : Phase → List ℕ → ℕ → Line → Reading
reading_by Planning kept k l = planning kept
reading_by Framing kept k l = framing kept k l
reading_by Ended kept k l = ended

-- The reading that a reader, the state and the window stand for: the bytes kept are at the window's front, the line is the state's.
abbrev pub reading_of : Reader → List ℕ → List ℕ → Reading
reading_of r state window = reading_by r.phase (take r.have window) r.count (line_of state)

-- The bytes that a reading keeps.
abbrev pub kept_of : Reading → List ℕ
kept_of (planning s) = s
kept_of (framing s k l) = s
kept_of ended = []

-- The state afterwards: the line that some bytes led to, or the state as it was.
abbrev pub state_left : Option Line → List ℕ → List ℕ
state_left none state = state
state_left (some l) state = line_bytes l

-- Before the plan is whole, the next frame is the first; behind it, the state holds an undamaged line.
abbrev pub Holding : Phase → ℕ → List ℕ → Type 0
Holding Planning k state = k ≡ 1
Holding Framing k state = Undamaged state
Holding Ended k state = Unit

-- What a call asks: n new bytes stand in the window behind those that are kept.
pub record Asked (r : Reader) (state : List ℕ) (n : ℕ) : Type 0 where
  pub holding : Holding r.phase r.count state
  pub room : r.have + n ≤ window_size
  pub few : r.count ≤ count_most

-- What a call leaves of the state s, the window w and the output o, with the reader r: the text is in the output, what is kept is at the window's front, and nothing else of either has changed. There is room for a next byte, and what a next call asks of the state holds.
pub record Gave (told : Told) (most : ℕ) (s w o state window out : List ℕ) (r : Reader) : Type 0 where
  pub text : Wrote out_size o 0 told.text out r.wrote
  pub next : reading_of r state window ≡ told.next
  pub left : window ≡ put w 0 (kept_of told.next)
  pub held : state ≡ state_left told.line s
  pub holding : Holding r.phase r.count state
  pub room : r.have < window_size
  pub counted : r.count + r.have ≤ most

-- What the end of the input leaves: the last text is in the output, and the state is left as an empty block leaves it.
pub record Finished (last : List ℕ) (told : Told) (s o state out : List ℕ) (r : ℕ) : Type 0 where
  pub text : Wrote out_size o 0 last out r
  pub held : state ≡ state_left told.line s

-- The opening is in the output, and nothing is read yet.
pub record Begun (o out : List ℕ) (r : Reader) : Type 0 where
  pub text : Wrote out_size o 0 opening out r.wrote
  pub phase : r.phase ≡ Planning
  pub have : r.have ≡ 0
  pub count : r.count ≡ 1
