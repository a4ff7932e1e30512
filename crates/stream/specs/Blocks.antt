-- The blocks make no difference: however the input is cut, what is written, one after the other, is the sheet of the whole input.
use Rattle.std.specs.Prelude.{ℕ, ◌+◌, ◌≡◌, List, [], ◌∷◌, ◌++◌, take, drop}
use Rattle.rules.specs.Lists.{joined}
use Rattle.rules.specs.Sheet.{opening, sheet}
use Rattle.stream.specs.declared.Phase.TheVariants.{Ended}
use Rattle.stream.specs.declared.Reader.{Reader}
use Rattle.stream.specs.Reading.{Reading, planning, taken, closed}
use Rattle.stream.specs.Reader.{reading_of, Asked, Gave, Finished, Begun}

-- The texts of the blocks, and that of the end of the input.
abbrev pub text_from : Reading → List (List ℕ) → List ℕ
text_from r [] = closed r
text_from r (block ∷ blocks) = (taken r block).text ++ text_from (taken r block).next blocks

-- "The sheet opens with the fixed line LINE 1", before anything is read.
abbrev pub written : List (List ℕ) → List ℕ
written blocks = opening ++ text_from (planning []) blocks

abbrev pub BlocksMakeNoDifference : Type 0
BlocksMakeNoDifference = (blocks : List (List ℕ)) → written blocks ≡ sheet (joined blocks)

-- ---- the calls

-- `take_block` with the reader r, the state s and the output o: a read made the window w into one that has the same bytes kept and n new ones behind them, and the call left what its contract says.
pub record BlockTaken (r : Reader) (s w o came : List ℕ) (n : ℕ) (next : Reader) (state window out : List ℕ) : Type 0 where
  pub kept : take r.have came ≡ take r.have w
  pub asked : Asked r s n
  pub gave : Gave (taken (reading_of r s came) (take n (drop r.have came))) (r.count + r.have + n) s came o state window out next

-- `finish`, where a read gave nothing more.
pub record InputEnded (r : Reader) (s w o came state out : List ℕ) (wrote : ℕ) : Type 0 where
  pub kept : take r.have came ≡ take r.have w
  pub asked : Asked r s 0
  pub finished : Finished (closed (reading_of r s came)) (taken (reading_of r s came) []) s o state out wrote

-- The calls that follow on a reader, for the blocks that still come, each with what the one before it left; and what is written: after each call, as many bytes from the output's front as it says. Where the reader has ended, no call need follow, whatever still comes.
pub data Calls : Reader → List ℕ → List ℕ → List ℕ → List (List ℕ) → List ℕ → Type 0 where
  one_more : {r next : Reader} {s w o came state window out text : List ℕ} {n : ℕ} {blocks : List (List ℕ)} → BlockTaken r s w o came n next state window out → Calls next state window out blocks text → Calls r s w o (take n (drop r.have came) ∷ blocks) (take next.wrote out ++ text)
  the_end : {r : Reader} {s w o came state out : List ℕ} {wrote : ℕ} → InputEnded r s w o came state out wrote → Calls r s w o [] (take wrote out)
  no_more : {r : Reader} {s w o : List ℕ} {blocks : List (List ℕ)} → r.phase ≡ Ended → Calls r s w o blocks []

-- What `begin` and the calls behind it write, one after the other, is the sheet of the blocks joined.
abbrev pub CallsWriteTheSheet : Type 0
CallsWriteTheSheet = (o out : List ℕ) (r : Reader) (s w : List ℕ) (blocks : List (List ℕ)) (text : List ℕ) → Begun o out r → Calls r s w out blocks text → take r.wrote out ++ text ≡ sheet (joined blocks)
