-- What holds from one block of the input to the next.
use Rattle.std.specs.Prelude.{ℕ, zero, suc, ◌+◌, ◌-◌, ◌≤◌, ◌<◌, ◌^◌, ◌≡◌, List, length, take, Result, Ok, Err, IfOk}
use Rattle.std.specs.declared.io.Error.{Error}
use Rattle.stream.specs.declared.Phase.TheVariants.{Ended}
use Rattle.stream.specs.declared.Reader.{Reader}
use Rattle.stream.specs.Reader.{window_size, Holding}
use Rattle.stream.specs.Blocks.{BlockTaken, InputEnded}
use Rattle.sheet.specs.declared.Ending.{Ending}
use Rattle.sheet.specs.declared.Ending.TheVariants.{Whole, Unread, Unwritten}

-- What a read gives.
pub data Got : Type 0 where
  Bytes : ℕ → Got
  End : Got
  Failed : Got

-- A read that answers an error has failed; one that gave no byte is at the end of the input.
abbrev pub got_of : Result ℕ Error → Got
got_of (Err e) = Failed
got_of (Ok zero) = End
got_of (Ok (suc n)) = Bytes (suc n)

-- New bytes, one at least, end within the window.
abbrev pub Within : Got → ℕ → Type 0
Within (Bytes n) have = (1 ≤ n) × (have + n ≤ window_size)
Within End have = Unit
Within Failed have = Unit

-- What a read leaves of the window w: its length, and the bytes that are kept. It tells as many bytes as an answer within the call's contract says, which are no more than there is room for.
pub record ReadBehind (w : List ℕ) (have : ℕ) (window : List ℕ) (r : Got) : Type 0 where
  pub sized : length window ≡ window_size
  pub kept : take have window ≡ take have w
  pub answer : Result ℕ Error
  pub moved : IfOk answer (λ n. n ≤ window_size - have)
  pub told : r ≡ got_of answer
  pub within : Within r have

-- So many bytes are read at most.
abbrev pub allowance : ℕ
allowance = 2 ^ 62

-- What a block asks of the reader and the state holds, there is room for a byte, and no frame's number can pass the allowance of bytes.
pub record Between (r : Reader) (left : ℕ) (state : List ℕ) : Type 0 where
  pub holding : Holding r.phase r.count state
  pub room : r.have < window_size
  pub few : r.count + r.have + left ≤ allowance + 1

-- From the reader r, with a state s, a window w and an output o, a block has been taken: as many bytes as the read told, behind those that were kept. The output has their text.
pub record Went (r : Reader) (s w o : List ℕ) (next : Reader) (state window out : List ℕ) : Type 0 where
  pub came : List ℕ
  pub n : ℕ
  pub read : ReadBehind w r.have came (Bytes n)
  pub taken : BlockTaken r s w o came n next state window out

-- The input has ended, and the output has the last text.
pub record LastTurn (r : Reader) (s w o : List ℕ) (wrote : ℕ) (state window out : List ℕ) : Type 0 where
  pub read : ReadBehind w r.have window End
  pub ended : InputEnded r s w o window state out wrote

-- Another block is read: the allowance is less by the bytes that came.
pub record WentOn (r : Reader) (s w o : List ℕ) (left : ℕ) (next : Reader) (rest : ℕ) (state window out : List ℕ) : Type 0 where
  pub went : Went r s w o next state window out
  pub between : Between next rest state
  pub spent : rest + went.n ≡ left

-- No other block is read. Whole: the reader has ended by itself, or the input has. Unread: the read failed, and nothing was done. Unwritten: there was a text to write, a block's or the last.
pub data Stopped (r : Reader) (s w o : List ℕ) : Ending → List ℕ → List ℕ → List ℕ → Type 0 where
  complete : {next : Reader} {state window out : List ℕ} → Went r s w o next state window out → next.phase ≡ Ended → Stopped r s w o Whole state window out
  at_the_end : {wrote : ℕ} {state window out : List ℕ} → LastTurn r s w o wrote state window out → Stopped r s w o Whole state window out
  read_failed : {window : List ℕ} → ReadBehind w r.have window Failed → Stopped r s w o Unread s window o
  block_unwritten : {next : Reader} {state window out : List ℕ} → Went r s w o next state window out → 1 ≤ next.wrote → Stopped r s w o Unwritten state window out
  last_unwritten : {wrote : ℕ} {state window out : List ℕ} → LastTurn r s w o wrote state window out → 1 ≤ wrote → Stopped r s w o Unwritten state window out

abbrev pub Turned : Reader → List ℕ → List ℕ → List ℕ → ℕ → Result (Reader × ℕ) Ending → List ℕ → List ℕ → List ℕ → Type 0
Turned r s w o left (Ok (next, rest)) state window out = WentOn r s w o left next rest state window out
Turned r s w o left (Err why) state window out = Stopped r s w o why state window out
