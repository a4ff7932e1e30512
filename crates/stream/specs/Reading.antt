-- A sheet whose input comes in blocks (document 01, "The sheet"): what is kept between two blocks, what text a block gives, and what the end of the input gives.
use Rattle.std.specs.Prelude.{ℕ, zero, suc, Bool, true, false, ◌&&◌, length, take, drop, leb, ltb, eqb}
use mathlib.Core.List.{List, [], ◌++◌, zip_with}
use Rattle.std.proofs.Math.Option.{Option, none, some}
use Rattle.plan.specs.Plan.{plan_of, entering}
use Rattle.plan.specs.Check.{plan_refusal}
use Rattle.rules.specs.Line.{Line, initial_line, parents}
use Rattle.rules.specs.Step.{step}
use Rattle.rules.specs.Sheet.{decimal, answer_line, entry_line, clock_text, node_text, line_text, length_field, frames_text, plan_text}

-- What is kept: the bytes that are no whole plan yet; then the bytes that are no whole frame yet, the next frame's number and the line; nothing once the sheet's text is complete, whatever still comes.
pub data Reading : Type 0 where
  planning : List ℕ → Reading
  framing : List ℕ → ℕ → Line → Reading
  ended : Reading

-- The text that some bytes give, what is kept behind them, and the line that they lead to, if there is one.
pub record Told : Type 0 where
  pub text : List ℕ
  pub next : Reading
  pub line : Option Line

abbrev pub before : List ℕ → Told → Told
before text t = record { text = text ++ t.text; next = t.next; line = t.line }

-- The length field is here, and as many bytes as it says.
abbrev pub whole : List ℕ → Bool
whole s = leb 2 (length s) && leb (length_field s) (length s)

-- The length field is here, and is under 5: no more bytes can make a frame of it.
abbrev pub too_short : List ℕ → Bool
too_short s = leb 2 (length s) && ltb (length_field s) 5

-- Every whole frame is answered; a length field under 5 "is answered 9 and ends reading". The first number bounds how many frames there can be.
abbrev pub frames_told : ℕ → ℕ → Line → List ℕ → Told
frames_told zero k l s = record { text = []; next = framing s k l; line = some l }
frames_told (suc fuel) k l s =
    elim (too_short s) [
      | true ↦ record { text = answer_line k 9 ++ line_text l; next = ended; line = some l }
      | false ↦
          elim (whole s) [
            | false ↦ record { text = []; next = framing s k l; line = some l }
            | true ↦
                (let n = length_field s in
                let a = step l (take n s) in
                before (answer_line k a.number) (frames_told fuel (suc k) a.line (drop n s)))
          ]
    ]

-- A whole plan is answered if it is refused; else the frames behind it are.
abbrev pub loaded_told : ℕ → List ℕ → List ℕ → Told
loaded_told refused plan frames =
    elim (eqb refused 0) [
      | true ↦ frames_told (length frames) 1 (initial_line (plan_of plan)) frames
      | false ↦ record { text = answer_line 0 refused; next = ended; line = none }
    ]

abbrev pub plan_told : List ℕ → Told
plan_told s =
    elim (whole s) [
      | false ↦ record { text = []; next = planning s; line = none }
      | true ↦
          (let n = length_field s in
          loaded_told (plan_refusal (take n s)) (take n s) (drop n s))
    ]

-- A block, behind what was kept.
unfoldable pub taken : Reading → List ℕ → Told
unfolding plan_refusal plan_of initial_line step entering parents zip_with decimal answer_line entry_line clock_text node_text line_text
taken (planning s) block = plan_told (s ++ block)
taken (framing s k l) block = frames_told (length (s ++ block)) k l (s ++ block)
taken ended block = record { text = []; next = ended; line = none }

-- "The plan is as long as its length field says, or all there is."
abbrev pub plan_all : List ℕ → List ℕ
plan_all s =
    let n = length_field s in
    plan_text (plan_refusal (take n s)) (take n s) (drop n s)

-- The end of the input: what was kept is all there is.
unfoldable pub closed : Reading → List ℕ
unfolding plan_refusal plan_of initial_line step entering parents zip_with decimal answer_line entry_line clock_text node_text line_text
closed (planning s) = plan_all s
closed (framing s k l) = frames_text (length s) k l s
closed ended = []
