-- What the line does with a step does not depend on who sent it, on bytes: the rules' statement, carried to the states that hold the lines.
use Prim.Native.Nat.{ℕ, ◌+◌}
use mathlib.Core.Path.{◌≡◌, sym, ap, ap₂, ◌∙◌}
use mathlib.Core.List.{List, ◌++◌}
use lib.ListN.{length, take, drop}
use lib.Seq.{take_at, drop_at, drop-drop}
use Rattle.plan.specs.Layout.{fields, write_fields}
use Rattle.plan.specs.Lawful.{Bytes}
use Rattle.rules.specs.Line.{Line, steps_from, with_steps}
use Rattle.rules.specs.Frame.{frame_console}
use Rattle.rules.specs.Step.{step}
use Rattle.rules.specs.Console.{SameButCounts, counts_one}
use Rattle.rules.proofs.Console.Counted.{counts_caller}
use Rattle.rules.proofs.Console.WhoeverSends.{whoever_sends}
use Rattle.state.specs.Sizes.{steps_at, steps_widths, steps_size}
use Rattle.state.specs.Fits.{LineFits}
use Rattle.state.specs.State.{line_bytes, line_of, state_answer}
use Rattle.state.proofs.LineLaws.{line_read}
use Rattle.state.proofs.SoundLaws.{fields_sound}
use Rattle.state.proofs.SpelledLaws.{Sane, state_sane}
use Rattle.state.proofs.AcceptedState.{sane_fits}
use Rattle.state.proofs.Swapped.{Swapped}
use Rattle.state.proofs.Written.{line_steps_swap, fits_steps}
use Rattle.buffer.proofs.ReadyLaws.{count_read}
use Rattle.buffer.proofs.HoldsLaws.{sane_undamaged}
use Rattle.line.specs.Step.{step_left}
use Rattle.line.specs.Console.{SameOutside, CountsCallerOnBytes, WhoeverSendsOnBytes}
use Rattle.line.proofs.StepLaws.{OneCall, one_call}

-- A line's bytes are what stands before the counts, the counts, and what stands behind them.
pub record Parts (l : Line) (front back : List ℕ) : Type 0 where
  pub whole : line_bytes l ≡ front ++ (write_fields steps_widths l.steps ++ back)
  pub before : take steps_at (line_bytes l) ≡ front
  pub behind : drop (steps_at + steps_size) (line_bytes l) ≡ back

parts-of : (l : Line) (front back : List ℕ) → length front ≡ steps_at → line_bytes l ≡ front ++ (write_fields steps_widths l.steps ++ back) → Parts l front back
unfolding fields
parts-of l front back long e =
    let counts = write_fields steps_widths l.steps in
    record {
      whole = e;
      before = ap (take steps_at) e ∙ take_at front (counts ++ back) steps_at long;
      behind =
          sym (drop-drop steps_size steps_at (line_bytes l))
          ∙ ap (drop steps_size) (ap (drop steps_at) e ∙ drop_at front (counts ++ back) steps_at long)
          ∙ drop_at counts back steps_size ((fields_sound steps_widths).sized l.steps);
    }

-- With other counts, only they differ.
module _ (l : Line) (fits : LineFits l) (ks : List ℕ) where
  over : Swapped steps_at (write_fields steps_widths l.steps) (write_fields steps_widths ks) (line_bytes l) (line_bytes (with_steps ks l))
  over = line_steps_swap l fits ks

  was : Parts l over.front over.back
  was = parts-of l over.front over.back over.place over.was

  is : Parts (with_steps ks l) over.front over.back
  is = parts-of (with_steps ks l) over.front over.back over.place over.is

  pub outside_same : SameOutside (line_bytes l) (line_bytes (with_steps ks l))
  outside_same = (was.before ∙ sym is.before, was.behind ∙ sym is.behind)

-- Lines that fit and agree outside the counts differ in their counts alone.
recounted_line : (k l : Line) → LineFits k → LineFits l → SameOutside (line_bytes k) (line_bytes l) → with_steps k.steps l ≡ k
recounted_line k l fk fl (before, behind) =
    let mine = was k fk k.steps in
    let other = is l fl k.steps in
    let old = was l fl k.steps in
    let front : (over l fl k.steps).front ≡ (over k fk k.steps).front = sym old.before ∙ sym before ∙ mine.before in
    let back : (over l fl k.steps).back ≡ (over k fk k.steps).back = sym old.behind ∙ sym behind ∙ mine.behind in
    let bytes : line_bytes (with_steps k.steps l) ≡ line_bytes k = other.whole ∙ (λ i. front i ++ (write_fields steps_widths k.steps ++ back i)) ∙ sym mine.whole in
    sym (line_read (with_steps k.steps l) (fits_steps l fl k.steps fk.steps)) ∙ ap line_of bytes ∙ line_read k fk

-- Two lines that differ in their counts alone.
outside_of : (k l : Line) → LineFits l → SameButCounts k l → SameOutside (line_bytes k) (line_bytes l)
outside_of k l fl same =
    let again : with_steps k.steps l ≡ k = λ i. record { plan = sym same.plan i; steps = k.steps; nodes = sym same.nodes i; lanes = sym same.lanes i } in
    let (before, behind) = outside_same l fl k.steps in
    (ap (λ (x : Line). take steps_at (line_bytes x)) (sym again) ∙ sym before, ap (λ (x : Line). drop (steps_at + steps_size) (line_bytes x)) (sym again) ∙ sym behind)

module _ (s f : List ℕ) (bytes : Bytes f) (z : state_answer s ≡ 0) where
  sane : Sane s
  sane = (state_sane s).0 z

  call : OneCall s f
  call = one_call s f bytes z

  next : Sane (step_left s f)
  next = (state_sane (step_left s f)).0 call.accepted

  pub counts_on_bytes : CountsCallerOnBytes s f
  counts_on_bytes c inside =
      let now = count_read (step_left s f) (sane_undamaged (step_left s f) next).holds.ready c inside in
      let was = count_read s (sane_undamaged s sane).holds.ready c inside in
      sym now ∙ ap (λ (l : Line). steps_from l c) call.line ∙ counts_caller (line_of s) f sane.undamaged c
      ∙ ap₂ (λ (a n : ℕ). a + counts_one n (frame_console f) c) was (sym call.number)

pub whoever_sends_on_bytes : WhoeverSendsOnBytes
whoever_sends_on_bytes s t f g bf bg zs zt outside asked left left_too =
    let a = call s f bf zs in
    let b = call t g bg zt in
    let k = sane s f bf zs in
    let l = sane t g bg zt in
    let fk = sane_fits s k in
    let fl = sane_fits t l in
    let again : with_steps (line_of s).steps (line_of t) ≡ line_of s =
    recounted_line (line_of s) (line_of t) fk fl
    (ap (take steps_at) k.written ∙ outside.0 ∙ sym (ap (take steps_at) l.written), ap (drop (steps_at + steps_size)) k.written ∙ outside.1 ∙ sym (ap (drop (steps_at + steps_size)) l.written)) in
    let same : SameButCounts (line_of s) (line_of t) = record { plan = ap (λ (x : Line). x.plan) (sym again); nodes = ap (λ (x : Line). x.nodes) (sym again); lanes = ap (λ (x : Line). x.lanes) (sym again) } in
    let done = whoever_sends (line_of s) (line_of t) f g k.undamaged l.undamaged same asked (λ e. left (a.number ∙ e)) (λ e. left_too (b.number ∙ e)) in
    let (before, behind) = outside_of (step (line_of s) f).line (step (line_of t) g).line (rw (sym b.line) (sane_fits (step_left t g) (next t g bg zt))) done.line in
    record {
      number = a.number ∙ done.number ∙ sym b.number;
      left = (ap (take steps_at) a.left ∙ before ∙ sym (ap (take steps_at) b.left), ap (drop (steps_at + steps_size)) a.left ∙ behind ∙ sym (ap (drop (steps_at + steps_size)) b.left));
      counts = counts_on_bytes s f bf zs;
      counts_too = counts_on_bytes t g bg zt;
    }
