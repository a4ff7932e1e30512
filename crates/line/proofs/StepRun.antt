-- Calls on bytes, one after the other, are the rules' run of lines; so demand 3 holds of the bytes.
use Prim.Native.Nat.{ℕ}
use mathlib.Core.Path.{◌≡◌, refl, sym, ap, ap₂, subst, ◌∙◌}
use mathlib.Core.Bool.{false, ◌||◌}
use mathlib.Core.List.{List, [], ◌∷◌, ◌++◌, append-nil, append_assoc}
use borrow.Author.Tests.{ne_eqb}
use lib.Dec.{eqb}
use Rattle.plan.specs.Lawful.{Each, Bytes}
use Rattle.plan.specs.Plan.{plan_of}
use Rattle.rules.specs.Lists.{any_of}
use Rattle.rules.specs.Line.{Line}
use Rattle.rules.specs.Frame.{frame_of}
use Rattle.rules.specs.Step.{step}
use Rattle.rules.specs.Claim.{Story, start_of, told, story_from, if_zero, feed_of, receipt_of, crash_of}
use Rattle.rules.specs.Order.{OneRun}
use Rattle.rules.proofs.Order.{in_order}
use Rattle.state.specs.State.{line_bytes, line_of, state_answer}
use Rattle.state.proofs.SpelledLaws.{state_sane}
use Rattle.line.specs.Load.{load_left}
use Rattle.line.specs.Step.{step_answer, step_left}
use Rattle.line.specs.Order.{state_after, story_of, AsTold, InOrderOnBytes, RunOfLines}
use Rattle.line.proofs.LoadLaws.{load_accepted, load_right}
use Rattle.line.proofs.StepLaws.{one_call, answer_undamaged, refusal_not_eight}

-- What the calls told, behind what was told before them.
abbrev behind : Story → Story → Story
behind s t = record {
  line = t.line;
  numbers = s.numbers ++ t.numbers;
  fed_acts = s.fed_acts ++ t.fed_acts;
  receipts = s.receipts ++ t.receipts;
  crashes = s.crashes ++ t.crashes;
}

joint : {A : Type 0} (xs ys zs rest : List A) → ys ≡ zs → xs ++ ys ++ rest ≡ xs ++ (zs ++ rest)
joint xs ys zs rest e = append_assoc xs ys rest ∙ ap (λ (m : List _). xs ++ (m ++ rest)) e

story_told : (frames : List (List ℕ)) (state : List ℕ) (s : Story) → Each Bytes frames → state_answer state ≡ 0 → s.line ≡ line_of state → story_from s frames ≡ behind s (story_of state frames)
unfolding story_of told
story_told [] state s bytes z same = λ i. record {
  line = same i;
  numbers = sym (append-nil s.numbers) i;
  fed_acts = sym (append-nil s.fed_acts) i;
  receipts = sym (append-nil s.receipts) i;
  crashes = sym (append-nil s.crashes) i;
}
story_told (f ∷ frames) state s (bytes, more) z same =
    let k = one_call state f bytes z in
    let n : ℕ = (step s.line f).number in
    let m : ℕ = step_answer state f in
    let answered : n ≡ m = ap (λ (l : Line). (step l f).number) same ∙ sym k.number in
    let t : Story = story_of (step_left state f) frames in
    story_told frames (step_left state f) (told s f) more k.accepted (ap (λ (l : Line). (step l f).line) same ∙ sym k.line)
    ∙ (λ i. record {
      line = t.line;
      numbers = joint s.numbers (n ∷ []) (m ∷ []) t.numbers (ap (λ (a : ℕ). a ∷ []) answered) i;
      fed_acts = joint s.fed_acts (if_zero n (feed_of (frame_of f))) (if_zero m (feed_of (frame_of f))) t.fed_acts (ap (λ (a : ℕ). if_zero a (feed_of (frame_of f))) answered) i;
      receipts = joint s.receipts (if_zero n (receipt_of s.line (frame_of f))) (if_zero m (receipt_of (line_of state) (frame_of f))) t.receipts
          (ap₂ (λ (a : ℕ) (l : Line). if_zero a (receipt_of l (frame_of f))) answered same) i;
      crashes = joint s.crashes (if_zero n (crash_of (frame_of f))) (if_zero m (crash_of (frame_of f))) t.crashes (ap (λ (a : ℕ). if_zero a (crash_of (frame_of f))) answered) i;
    })

-- Every state on the way is accepted, and 8 is never answered.
after-accepted : (frames : List (List ℕ)) (state : List ℕ) → Each Bytes frames → state_answer state ≡ 0 → state_answer (state_after state frames) ≡ 0
after-accepted [] state bytes z = z
after-accepted (f ∷ frames) state (bytes, more) z = after-accepted frames (step_left state f) more (one_call state f bytes z).accepted

after_never_damaged : (frames : List (List ℕ)) (state : List ℕ) → Each Bytes frames → state_answer state ≡ 0 → any_of (eqb 8) (story_of state frames).numbers ≡ false
unfolding story_of
after_never_damaged [] state bytes z = refl
after_never_damaged (f ∷ frames) state (bytes, more) z =
    let other : eqb 8 (step_answer state f) ≡ false = ne_eqb 8 (step_answer state f) (λ e. refusal_not_eight (line_of state) f (sym (answer_undamaged state f z) ∙ sym e)) in
    ap₂ ◌||◌ other (after_never_damaged frames (step_left state f) more (one_call state f bytes z).accepted)

pub as_told : (frames : List (List ℕ)) (state : List ℕ) → Each Bytes frames → state_answer state ≡ 0 → AsTold state frames (story_from (start_of (line_of state)) frames)
unfolding story_of
as_told frames state bytes z =
    let story = story_told frames state (start_of (line_of state)) bytes z refl in
    let end = after-accepted frames state bytes z in
    record {
      story = sym story;
      left = sym (ap (λ (s : Story). line_bytes s.line) story ∙ ((state_sane (state_after state frames)).0 end).written);
      accepted = end;
      never_damaged = after_never_damaged frames state bytes z;
    }

pub run_of_lines : RunOfLines
run_of_lines plan lent frames bytes each z =
    let right = load_right plan lent bytes z in
    subst (λ (l : Line). AsTold (load_left plan lent) frames (story_from (start_of l) frames)) right.line (as_told frames (load_left plan lent) each right.accepted)

pub in_order_on_bytes : InOrderOnBytes
in_order_on_bytes plan lent frames bytes each z =
    subst (OneRun (plan_of plan)) (sym (run_of_lines plan lent frames bytes each z).story) (in_order plan frames bytes each (load_accepted plan lent z).0)
