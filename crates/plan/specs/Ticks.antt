-- Ticks (document 02, 2026-05): "A record with material 255, piece 0 and mass 0 is a tick: every rule leaves it as it is and every belt takes it."
use Rattle.std.specs.Prelude.{ℕ, ◌≡◌, true, List}
use Rattle.plan.specs.declared.Record.{Record}
use Rattle.plan.specs.declared.Rule.{Rule}
use Rattle.plan.specs.declared.Channel.{Channel}
use Rattle.plan.specs.Record.{is_tick}
use Rattle.plan.specs.Rule.{applied}
use Rattle.plan.specs.Channel.{takes}
use Rattle.plan.specs.Lawful.{Bytes}
use Rattle.plan.specs.Plan.{plan_of, rule_at}
use Rattle.plan.specs.Check.{rule_allowed, plan_refusal}

abbrev pub tick : Record
tick = record { piece = 0; material = 255; mass = 0 }

-- There is just one.
abbrev pub OneTick : Type 0
OneTick = (is_tick tick ≡ true) × ((r : Record) → is_tick r ≡ true → r ≡ tick)

-- Of the rules that a plan may have: a relabelled material is at most 15, and a cap at least 1.
abbrev pub RulesLeaveTicks : Type 0
RulesLeaveTicks = (rule : Rule) (r : Record) → rule_allowed rule ≡ true → is_tick r ≡ true → applied rule r ≡ r

-- So of every accepted plan, at every node.
abbrev pub PlansLeaveTicks : Type 0
PlansLeaveTicks = (s : List ℕ) → Bytes s → plan_refusal s ≡ 0 → (n : ℕ) (r : Record) → is_tick r ≡ true → applied (rule_at (plan_of s) n) r ≡ r

abbrev pub ChannelsTakeTicks : Type 0
ChannelsTakeTicks = (c : Channel) (r : Record) → is_tick r ≡ true → takes c r ≡ true

-- No rule makes a tick of another record.
abbrev pub NoTickIsMade : Type 0
NoTickIsMade = (rule : Rule) (r : Record) → rule_allowed rule ≡ true → is_tick (applied rule r) ≡ true → is_tick r ≡ true
