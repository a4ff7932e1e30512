-- What Send answers, and that sending is two writes.
use Prim.Native.Nat.{ℕ, ◌≤◌, ◌<◌}
use mathlib.Core.Path.{◌≡◌, refl, sym, ◌∙◌}
use mathlib.Core.Bool.{true, false}
use mathlib.Core.List.{List}
use mathlib.Core.Option.{none, some}
use native.Mathlib.Omega.{arith}
use borrow.Author.Tests.{le-leb, lt-leb}
use lib.ListN.{length}
use Rattle.plan.specs.Plan.{plan_channels, channel_count}
use Rattle.rules.specs.Line.{queue_limit, Entry, Lane, Line, lane_at, with_lane}
use Rattle.rules.specs.Frame.{send}
use Rattle.rules.specs.Clock.{message_of, sent_on}
use Rattle.rules.specs.Step.{end_down, sendable, effect}
use Rattle.state.specs.Changes.{with_mark, more_queued}
use Rattle.state.specs.State.{line_of}
use Rattle.buffer.specs.Holds.{Holds, LaneNow, Did}
use Rattle.buffer.proofs.HoldsLaws.{holds_channels}
use Rattle.passing.proofs.RefusalLaws.{send_number, refused, accepted}

-- The message is put on the channel and the mark set.
pub sent_twice : (e : Entry) (x : Lane) → with_mark e.time (more_queued (message_of e) x) ≡ sent_on e x
unfolding sent_on
sent_twice e x = refl

send_effect : (l : Line) (b : ℕ) (e : Entry) → sendable l b ≡ some e → effect l (send b) ≡ some (with_lane b (sent_on e (lane_at l b)) l)
unfolding effect
send_effect l b e q = rw q

module _ (s : List ℕ) (b : ℕ) (held : Holds s (line_of s)) where
  pub send_past : plan_channels s ≤ b → Did s (send b) s 13
  send_past h = refused s (send b) 13 (λ e. omega arith) (send_number (line_of s) b ∙ rw (le-leb (channel_count (line_of s).plan) b (rw (← holds_channels held) h)))

  module _ (below : b < plan_channels s) where
    pub send_down : end_down (line_of s) b ≡ true → Did s (send b) s 15
    send_down h = refused s (send b) 15 (λ e. omega arith) (send_number (line_of s) b ∙ rw (lt-leb (channel_count (line_of s).plan) b (rw (← holds_channels held) below), h))

    module _ (standing : end_down (line_of s) b ≡ false) where
      pub send_nothing : none ≡ sendable (line_of s) b → Did s (send b) s 18
      send_nothing h =
          refused s (send b) 18 (λ e. omega arith)
          (send_number (line_of s) b ∙ rw (lt-leb (channel_count (line_of s).plan) b (rw (← holds_channels held) below), standing, ← h))

      module _ (e : Entry) (next : some e ≡ sendable (line_of s) b) where
        pub send_full : queue_limit ≤ length (lane_at (line_of s) b).queue → Did s (send b) s 19
        send_full h =
            refused s (send b) 19 (λ e. omega arith)
            (send_number (line_of s) b ∙ rw (lt-leb (channel_count (line_of s).plan) b (rw (← holds_channels held) below), standing, ← next, le-leb queue_limit (length (lane_at (line_of s) b).queue) h))

        pub send_done : (t : List ℕ) → length (lane_at (line_of s) b).queue < queue_limit → LaneNow s b (sent_on e) t → Did s (send b) t 0
        send_done t h now =
            let l = line_of s in
            accepted s t (send b) (with_lane b (sent_on e (lane_at l b)) l)
            (send_number l b ∙ rw (lt-leb (channel_count l.plan) b (rw (← holds_channels held) below), standing, ← next, lt-leb queue_limit (length (lane_at l b).queue) h))
            (send_effect l b e (sym next))
            now.holds
