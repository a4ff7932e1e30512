-- A channel that leaves a node takes only what the node passes on.
use Prim.Native.Nat.{ℕ, ◌<◌}
use mathlib.Core.Path.{◌≡◌, sym, ap, ◌∙◌}
use mathlib.Core.List.{List, map}
use lib.Dec.{leb}
use Rattle.plan.specs.Plan.{Plan, channel_at, channel_count}
use Rattle.rules.specs.Lists.{keep}
use Rattle.rules.specs.Line.{Message}
use Rattle.rules.specs.Replay.{passed_on}
use Rattle.rules.proofs.Lists.Rising.{until}
use Rattle.rules.proofs.Line.Joins.{takes_passed}
use Rattle.rules.proofs.Lists.ListLaws.{keep_swap, keep_wider}
use Rattle.rules.proofs.Histories.Ghost.{Event, Ghost, sent_of, takes_message, put}
use Rattle.rules.proofs.Histories.Passing.{passing}
use Rattle.rules.proofs.Invariant.Inv.{time_of}

module _ (p : Plan) (n c : ℕ) (there : c < channel_count p) (leaves : (channel_at p c).sender ≡ n) where
  taken_passing : (es : List Event) → keep (takes_message p c) (map (sent_of p n) es) ≡ keep (takes_message p c) (passing p n es)
  taken_passing es = sym (keep_wider (takes_message p c) (λ (m : Message). passed_on p n m.what) (λ m e. takes_passed p n m.what c there leaves e) (map (sent_of p n) es))

  pub put_passing : (g : Ghost) → put p g c ≡ keep (takes_message p c) (passing p n (g n))
  unfolding put
  put_passing g = ap (λ (k : ℕ). keep (takes_message p c) (map (sent_of p k) (g k))) leaves ∙ taken_passing (g n)

-- What a channel takes of what lies up to a time.
pub taken_until : (p : Plan) (c k : ℕ) (ms : List Message) → keep (takes_message p c) (until time_of k ms) ≡ until time_of k (keep (takes_message p c) ms)
taken_until p c k ms = keep_swap (takes_message p c) (λ (m : Message). leb m.time k) ms
