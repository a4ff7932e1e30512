-- No step damages a line: each accepted frame keeps it sound, and a refused one leaves it as it was.
use Prim.Native.Nat.{ℕ, ◌+◌, ◌<◌}
use mathlib.Core.Path.{◌≡◌, refl, sym, ap, subst, ◌∙◌}
use mathlib.Core.Bool.{Bool, true, false, cond}
use mathlib.Core.List.{List}
use mathlib.Core.Option.{some}
use native.Mathlib.Decide.{ℕ_discrete, dec_lt}
use lib.ListN.{get_or, drop, get_or-eq_default}
use native.Mathlib.Omega.{arith}
use Rattle.rules.proofs.Lists.Options.{none_some}
use Rattle.rules.proofs.Invariant.Inv.{Shape}
use Rattle.rules.proofs.Theorem.StepInv.{Answered}
use lib.Dec.{eqb}
use Rattle.plan.specs.Lawful.{Bytes}
use Rattle.plan.proofs.BytesLaws.{bytes_drop}
use Rattle.plan.specs.Plan.{channel_at, node_count}
use Rattle.rules.specs.Line.{Status, up, down, replay, Asked, Node, fresh_node, Line, node_at, counted}
use Rattle.rules.specs.Frame.{Frame, feed, send, take, crash, recover, trim, ask, commit, frame_kind, console_bytes, frame_console, frame_of_kind, frame_of}
use Rattle.rules.specs.Step.{effect, accepted, refusal, step}
use Rattle.rules.specs.Damaged.{damaged}
use Rattle.rules.proofs.Theorem.Accepted.{Passed, passed, CanTake, can_take, step-accepted, step_refused}
use Rattle.rules.proofs.Undamaged.Standing.{Sound}
use Rattle.rules.proofs.Undamaged.Undamaged.{undamaged_sound, sound_undamaged, stopped_all}
use Rattle.rules.proofs.Undamaged.FeedSound.{feed_sound}
use Rattle.rules.proofs.Undamaged.SendSound.{send_sound}
use Rattle.rules.proofs.Undamaged.TakeSound.{take_up_sound}
use Rattle.rules.proofs.Undamaged.HoldSound.{take_replaying_sound}
use Rattle.rules.proofs.Undamaged.CrashSound.{crash_sound}
use Rattle.rules.proofs.Undamaged.RecoverSound.{recover_sound}
use Rattle.rules.proofs.Undamaged.TrimSound.{trim_sound}
use Rattle.rules.proofs.Undamaged.AskSound.{ask_sound, commit_sound}

-- The bytes of a Feed's record.
abbrev pub FedBytes : Frame → Type 0
FedBytes (feed n r) = Bytes r
FedBytes (send b) = Unit {0}
FedBytes (take b) = Unit {0}
FedBytes (crash n) = Unit {0}
FedBytes (recover n) = Unit {0}
FedBytes (trim n) = Unit {0}
FedBytes (ask n) = Unit {0}
FedBytes (commit n) = Unit {0}

kind_bytes : (kind n : ℕ) (rest : List ℕ) → Bytes rest → FedBytes (frame_of_kind kind n rest)
kind_bytes kind n rest bytes = one (eqb kind 1) (eqb kind 2) (eqb kind 3) (eqb kind 4) (eqb kind 5) (eqb kind 6) (eqb kind 7)
  where
    one : (a b c d e f g : Bool) → FedBytes (cond a (feed n rest) (cond b (send n) (cond c (take n) (cond d (crash n) (cond e (recover n) (cond f (trim n) (cond g (ask n) (commit n))))))))
    one true b c d e f g = bytes
    one false true c d e f g = tt
    one false false true d e f g = tt
    one false false false true e f g = tt
    one false false false false true f g = tt
    one false false false false false true g = tt
    one false false false false false false true = tt
    one false false false false false false false = tt

pub frame_bytes : (f : List ℕ) → Bytes f → FedBytes (frame_of f)
unfolding frame_of
frame_bytes f bytes = kind_bytes (frame_kind f) (get_or f (4 + console_bytes f) 0) (drop (5 + console_bytes f) f) (bytes_drop (5 + console_bytes f) f bytes)

module _ (l : Line) (sound : Sound l) where
  take_sound : (b : ℕ) {who : ℕ} → Passed l who (take b) → (k : Line) → effect l (take b) ≡ some k → Sound (counted who k)
  take_sound b {who} p k e = go (node_at l (channel_at l.plan b).receiver).status refl
    where
      can : CanTake l b
      can = can_take p

      go : (s : Status) → (node_at l (channel_at l.plan b).receiver).status ≡ s → Sound (counted who k)
      go up q = take_up_sound l sound b p can q k e
      go down q = absurd (can.receiver q)
      go replay q = take_replaying_sound l sound b p can q k e

  pub effect_sound : {who : ℕ} (f : Frame) → FedBytes f → Passed l who f → (k : Line) → effect l f ≡ some k → Sound (counted who k)
  effect_sound (feed n r) bytes p = feed_sound l sound n r bytes p
  effect_sound (send b) bytes p = send_sound l sound b p
  effect_sound (take b) bytes p = take_sound b p
  effect_sound (crash n) bytes p = crash_sound l sound n p
  effect_sound (recover n) bytes p = recover_sound l sound n p
  effect_sound (trim n) bytes p = trim_sound l sound n p
  effect_sound (ask n) bytes p = ask_sound l sound n p
  effect_sound (commit n) bytes p = commit_sound l sound n p

pub step_sound : (l : Line) (f : List ℕ) → FedBytes (frame_of f) → Sound l → Sound (step l f).line
step_sound l f bytes sound =
    elim (ℕ_discrete (refusal l f) 0) [
      | yes e ↦
          (let p = passed l f e in
          subst Sound (sym ((step-accepted l f e).1 ∙ ap (accepted (frame_console f) l) p.leads)) (effect_sound l sound (frame_of f) bytes p p.next p.leads))
      | no d ↦ subst Sound (sym (step_refused l f d).1) sound
    ]

pub step_undamaged : (l : Line) (f : List ℕ) → Bytes f → damaged l ≡ false → damaged (step l f).line ≡ false
step_undamaged l f bytes e = sound_undamaged (step l f).line (step_sound l f (frame_bytes f bytes) (undamaged_sound l e))

-- Only a Feed's record need be made of bytes.
pub step-whole : (l : Line) (f : List ℕ) → FedBytes (frame_of f) → damaged l ≡ false → damaged (step l f).line ≡ false
step-whole l f bytes e = sound_undamaged (step l f).line (step_sound l f bytes (undamaged_sound l e))

-- A node with a kept answer is one of the plan's.
pub kept_inside : (l : Line) → Shape l → (n : ℕ) (a : Asked) → (node_at l n).asked ≡ some a → n < node_count l.plan
kept_inside l shape n a q = elim (dec_lt n (node_count l.plan)) [
  | yes h ↦ h
  | no h ↦ none_some (sym (ap (λ (x : Node). x.asked) (get_or-eq_default l.nodes fresh_node (omega (arith, shape.nodes_long)))) ∙ q)
]

-- Kept answers of an undamaged line are right.
pub answered_whole : (l : Line) → damaged l ≡ false → Answered l
answered_whole l e n a q = let f = undamaged_sound l e in (stopped_all l f n (kept_inside l f.standing.shape n a q)).answers a q
