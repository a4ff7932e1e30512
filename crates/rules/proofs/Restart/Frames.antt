-- What the frames of a restart ask, whoever passes them.
use Prim.Native.Nat.{ℕ, ◌<◌}
use mathlib.Core.Path.{◌≡◌, refl, ◌∙◌}
use mathlib.Core.Bool.{true, false}
use mathlib.Core.List.{List}
use lib.Dec.{leb, eqb}
use borrow.Author.Tests.{lt-leb}
use Rattle.rules.specs.Line.{console_count, Line}
use Rattle.rules.specs.Frame.{Frame, send, take, recover, ask, commit, frame_console, frame_of, frame_refusal, Caller, unnamed, console, console_of}
use Rattle.rules.specs.Step.{no_steps_left, line_refusal, refusal, effect, accepted, step}
use Rattle.rules.specs.Restart.{send_frame, take_frame, recover_frame, ask_frame, commit_frame}
use Rattle.rules.proofs.Theorem.Accepted.{step-accepted}

-- A well-formed frame of console c that asks f.
pub record Formed (frame : List ℕ) (c : ℕ) (f : Frame) : Type 0 where
  pub formed : frame_refusal frame ≡ 0
  pub from : frame_console frame ≡ c
  pub asks : frame_of frame ≡ f

console_there : (c : ℕ) → c < console_count → ◌≡◌ {A = ℕ} (elim (leb console_count c) [ true ↦ 25 | false ↦ 0 ]) 0
console_there c h = rw (lt-leb console_count c h)

pub recover_formed : (w : Caller) → console_of w < console_count → (x : ℕ) → Formed (recover_frame w x) (console_of w) (recover x)
unfolding frame_refusal frame_console frame_of
recover_formed unnamed h x = record { formed = refl; from = refl; asks = refl }
recover_formed (console c) h x = record { formed = console_there c h; from = refl; asks = refl }

pub send_formed : (w : Caller) → console_of w < console_count → (x : ℕ) → Formed (send_frame w x) (console_of w) (send x)
unfolding frame_refusal frame_console frame_of
send_formed unnamed h x = record { formed = refl; from = refl; asks = refl }
send_formed (console c) h x = record { formed = console_there c h; from = refl; asks = refl }

pub take_formed : (w : Caller) → console_of w < console_count → (x : ℕ) → Formed (take_frame w x) (console_of w) (take x)
unfolding frame_refusal frame_console frame_of
take_formed unnamed h x = record { formed = refl; from = refl; asks = refl }
take_formed (console c) h x = record { formed = console_there c h; from = refl; asks = refl }

pub ask_formed : (w : Caller) → console_of w < console_count → (x : ℕ) → Formed (ask_frame w x) (console_of w) (ask x)
unfolding frame_refusal frame_console frame_of
ask_formed unnamed h x = record { formed = refl; from = refl; asks = refl }
ask_formed (console c) h x = record { formed = console_there c h; from = refl; asks = refl }

pub commit_formed : (w : Caller) → console_of w < console_count → (x : ℕ) → Formed (commit_frame w x) (console_of w) (commit x)
unfolding frame_refusal frame_console frame_of
commit_formed unnamed h x = record { formed = refl; from = refl; asks = refl }
commit_formed (console c) h x = record { formed = console_there c h; from = refl; asks = refl }

-- Such a frame gets as far as its caller's count.
pub formed_refusal : (l : Line) {frame : List ℕ} {c : ℕ} {f : Frame} → Formed frame c f → refusal l frame ≡ (elim (no_steps_left l c) [ true ↦ 12 | false ↦ line_refusal l f ])
unfolding refusal
formed_refusal l g = λ i. elim (eqb (g.formed i) 0) [ true ↦ elim (no_steps_left l (g.from i)) [ true ↦ 12 | false ↦ line_refusal l (g.asks i) ] | false ↦ g.formed i ]

pub formed_line : (l : Line) {frame : List ℕ} {c : ℕ} {f : Frame} → Formed frame c f → refusal l frame ≡ 0 → (step l frame).line ≡ accepted c l (effect l f)
formed_line l {frame} g z = (step-accepted l frame z).1 ∙ λ i. accepted (g.from i) l (effect l (g.asks i))
