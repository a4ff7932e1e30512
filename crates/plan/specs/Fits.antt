-- Values whose numbers fit their layouts.
use Rattle.std.specs.Prelude.{ℕ, ◌<◌, ◌≡◌}
use Rattle.plan.specs.declared.Record.{Record}
use Rattle.plan.specs.declared.Rule.{Rule}
use Rattle.plan.specs.declared.Channel.{Channel}
use Rattle.plan.specs.Lawful.{Each, FieldsFit, SlotsFit}
use Rattle.plan.specs.Record.{record_numbers, record_widths}
use Rattle.plan.specs.Rule.{rule_numbers, rule_widths}
use Rattle.plan.specs.Channel.{channel_numbers, channel_of, channel_widths}
use Rattle.plan.specs.Plan.{Plan, node_count, channel_count}

abbrev pub RecordFits : Record → Type 0
RecordFits r = FieldsFit record_widths (record_numbers r)

abbrev pub RuleFits : Rule → Type 0
RuleFits r = FieldsFit rule_widths (rule_numbers r)

-- Its numbers give it back: in version 1 it has no window of its own.
pub record ChannelFits (version : ℕ) (c : Channel) : Type 0 where
  pub numbers : FieldsFit (channel_widths version) (channel_numbers version c)
  pub whole : channel_of (channel_numbers version c) ≡ c

-- A plan of a version and of so many rules and channels.
pub record BodyFits (version n m : ℕ) (p : Plan) : Type 0 where
  pub same : p.version ≡ version
  pub rules : SlotsFit n RuleFits p.rules
  pub channels : SlotsFit m (ChannelFits version) p.channels

pub record PlanFits (p : Plan) : Type 0 where
  pub version : p.version < 256
  pub nodes : node_count p < 256
  pub channels : channel_count p < 256
  pub rule : Each RuleFits p.rules
  pub channel : Each (ChannelFits p.version) p.channels
