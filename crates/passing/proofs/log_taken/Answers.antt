use Prim.Native.Nat.{ℕ, suc}
use mathlib.Core.Path.{◌≡◌, ap, sym, ◌∙◌}
use mathlib.Core.Bool.{Bool, cond}
use Rattle.plan.specs.Plan.{Plan}
use Rattle.plan.specs.Mask.{set_of}
use Rattle.rules.specs.Line.{node_at}
use Rattle.rules.specs.Clock.{logged}
use Rattle.rules.specs.Replay.{time_for}
use Rattle.state.specs.State.{line_of}
use Rattle.state.proofs.InPlace.{line-plan}
use Rattle.slots.specs.Slots.{origin_is}
use Rattle.buffer.specs.Holds.{NodeNow}
use Rattle.passing.proofs.FeedLaws.{timed_in}
use Rattle.passing.proofs.log_taken.Goals as goal

pub returns : goal.returns
returns c =
    let a = c.args in
    let s = a.s.now in
    let now : ℕ = (node_at (line_of s) a.n).time in
    let chosen : c.of-takers.result.set ≡ set_of (line_of s).plan a.n a.what = c.of-takers.ensures.1 ∙ ap (λ (p : Plan). set_of p a.n a.what) (sym (line-plan s)) in
    let time : c.time-time.result ≡ time_for (line_of s).plan a.n a.what now = c.time-time.ensures ∙ ap (λ (t : Bool). cond t (suc now) now) (timed_in s a.n c.of-takers.result.set a.what c.of-takers.ensures.1) in
    let now-logged : NodeNow s a.n (logged c.time-time.result c.of-takers.result.set a.what (origin_is a.made) (origin_is a.before)) c.log_made.new.s = c.log_made.ensures in
    rw (time, chosen) at now-logged
