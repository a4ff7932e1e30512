-- The place of a node among the parents of another, looked for one channel at a time.
use Prim.Native.Nat.{ℕ, ◌≤◌, ◌<◌}
use mathlib.Core.Path.{◌≡◌, refl, sym, ap, ◌∙◌}
use mathlib.Core.Bool.{true, ◌&&◌}
use mathlib.Core.List.{List}
use mathlib.Core.Option.{none, some}
use native.Mathlib.Omega.{arith}
use lib.Dec.{eqb}
use borrow.Author.Tests.{eq-eqb}
use Rattle.plan.specs.declared.Channel.{Channel}
use Rattle.plan.specs.Plan.{plan_of, plan_channels, channel_at, entering}
use Rattle.plan.proofs.PlanLaws.{channel_count_lem}
use Rattle.items.specs.Items.{place_from}
use Rattle.buffer.proofs.LookLaws.{place_on, place_found, numbers_end}

module _ (s : List ℕ) (q n : ℕ) where
  -- None of the channels before b is from the one node to the other; so many of them enter the other.
  pub record Placing (place b : ℕ) : Type 0 where
    pub within : b ≤ plan_channels s
    pub few : place ≤ b
    pub placed : place_from (plan_of s) q 0 (entering (plan_of s) n) ≡ place_on (plan_of s) q n place b

  pub placing_start : Placing 0 0
  unfolding entering
  placing_start = record { within = omega arith; few = omega arith; placed = refl }

  module _ (place b : ℕ) (now : Placing place b) (here : b < plan_channels s) where
    pub placing_found : (channel_at (plan_of s) b).receiver ≡ n → (channel_at (plan_of s) b).sender ≡ q → some place ≡ place_from (plan_of s) q 0 (entering (plan_of s) n)
    placing_found to from =
        let both : (eqb (channel_at (plan_of s) b).sender q && eqb (channel_at (plan_of s) b).receiver n) ≡ true = rw (eq-eqb (channel_at (plan_of s) b).sender q from, eq-eqb (channel_at (plan_of s) b).receiver n to) in
        sym (now.placed ∙ place_found (plan_of s) q n place b (rw channel_count_lem here) both)

  pub placing_end : (place b : ℕ) → Placing place b → plan_channels s ≤ b → none ≡ place_from (plan_of s) q 0 (entering (plan_of s) n)
  placing_end place b now past =
      sym (now.placed ∙ ap (place_from (plan_of s) q place) (numbers_end (plan_of s) (λ (c : Channel). eqb c.receiver n) b (rw channel_count_lem past)))
