-- No frame is answered 24: each that gets so far leads to a line.
use Prim.Native.Nat.{ℕ, ◌<◌}
use mathlib.Core.Path.{◌≡◌, sym, ap, ◌∙◌}
use mathlib.Core.Logic.{◌≢◌, inl, inr}
use mathlib.Core.List.{List}
use mathlib.Core.Option.{some, map}
use Rattle.plan.specs.Plan.{channel_at}
use Rattle.rules.specs.Line.{accepted_steps, replay, Line, node_at, time_limit}
use Rattle.rules.specs.Frame.{Frame, feed, send, take, crash, recover, trim, ask, commit, frame_of}
use Rattle.rules.specs.Recover.{recovered}
use Rattle.rules.specs.Step.{asked_line, taken_lane, taken_replaying, effect, refusal}
use Rattle.rules.proofs.Lists.Options.{none_some}
use Rattle.rules.proofs.Line.Consoles.{counts_left}
use Rattle.rules.proofs.Ending.ReplayTakeInv.{Again, again}
use Rattle.rules.proofs.Theorem.Accepted.{CanTake, may_take, CanRecover, may_recover, Unplaced, unplaced}
use Rattle.rules.proofs.Theorem.StepInv.{up_or_replay, sender_gives, taken_is, again_is}
use Rattle.rules.proofs.Theorem.SteadyKept.{again_fair}
use Rattle.rules.proofs.Restart.Known.{Known}
use Rattle.rules.proofs.Restart.ReplayEnds.{goes_on_lem}
use Rattle.rules.proofs.Restart.RecoverGoes.{recovers}

module _ (l : Line) (known : Known l) where
  open known use {ghost, cut, base, fed, receipts, crashes, inv, steady, rows}

  pub recover_goes : (n : ℕ) → CanRecover l n → effect l (recover n) ≡ some (recovered n l)
  unfolding effect
  recover_goes n can = recovers l ghost cut base fed receipts crashes inv n can.here can.stopped

  -- The line before a replaying node's Take may end its replay.
  pub again_here : (b : ℕ) (can : CanTake l b) (replays : (node_at l (channel_at l.plan b).receiver).status ≡ replay)
      → Again l ghost cut base fed receipts crashes inv b can.here can.message can.rest can.first (sender_gives l ghost cut base fed receipts crashes inv b can.message can.rest can.here can.first) replays (can.below_goal replays)
      (taken_replaying b can.message (taken_lane b can.message can.rest l))
  again_here b can replays =
      again l ghost cut base fed receipts crashes inv b can.here can.message can.rest can.first (sender_gives l ghost cut base fed receipts crashes inv b can.message can.rest can.here can.first) replays (can.below_goal replays)

  take_again : (b : ℕ) (can : CanTake l b) → (node_at l (channel_at l.plan b).receiver).status ≡ replay → accepted_steps l < time_limit → (k : Line) × (effect l (take b) ≡ some k)
  take_again b can replays left =
      let n = (channel_at l.plan b).receiver in
      let r = taken_replaying b can.message (taken_lane b can.message can.rest l) in
      let a = again_here b can replays in
      let (limits, _, _) = again_fair l ghost cut base fed receipts crashes inv steady b can in
      let (k, e) = goes_on_lem r ghost cut base fed _ crashes a.kept n a.status limits (rw a.steps left) (rw a.plan (rows n (inv.ordered.inside b can.here))) in
      (k, again_is l ghost cut base fed receipts crashes inv b can replays ∙ e)

  pub take_goes : (b : ℕ) → CanTake l b → accepted_steps l < time_limit → (k : Line) × (effect l (take b) ≡ some k)
  take_goes b can left =
      elim (up_or_replay (node_at l (channel_at l.plan b).receiver).status can.receiver) [
        | inl alive ↦ (_, taken_is l ghost cut base fed receipts crashes inv b can alive)
        | inr replays ↦ take_again b can replays left
      ]

  never_unplaced : {c : ℕ} (f : Frame) → Unplaced l c f → ⊥
  unfolding effect
  never_unplaced (feed n r) u = none_some (sym u.nowhere)
  never_unplaced (send b) u = none_some (sym u.nowhere)
  never_unplaced (take b) u = none_some (sym u.nowhere ∙ (take_goes b (may_take l b u.is_there u.right_status u.something u.row_open) (counts_left steady.limits.counts u.console u.steps_left)).1)
  never_unplaced (crash n) u = none_some (sym u.nowhere)
  never_unplaced (trim n) u = none_some (sym u.nowhere)
  never_unplaced (recover n) u = none_some (sym u.nowhere ∙ recover_goes n (may_recover l n u.is_there u.right_node u.right_status))
  never_unplaced (ask n) u = none_some (sym u.nowhere ∙ ap (map (λ (k : Line). asked_line n l)) (recover_goes n (may_recover l n u.is_there u.right_node u.right_status)))
  never_unplaced (commit n) u = none_some (sym u.nowhere)

  pub placed : (f : List ℕ) → refusal l f ≢ 24
  placed f e = never_unplaced (frame_of f) (unplaced l f e)
