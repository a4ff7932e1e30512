-- 2026-02: plans that differ in their version alone, and the plan of version 2 that reads as one of version 1 does.
use Rattle.std.specs.Prelude.{ℕ, ◌%◌, ◌≤◌, ◌≡◌, false, ◌&&◌, List, eqb}
use Rattle.plan.specs.declared.Record.{Record}
use Rattle.plan.specs.declared.Channel.{Channel}
use Rattle.plan.specs.Lawful.{Each, Bytes}
use Rattle.plan.specs.Record.{is_tick}
use Rattle.plan.specs.Channel.{bit_set, takes}
use Rattle.plan.specs.Plan.{Plan, plan_of, plan_bytes, plan_version}
use Rattle.plan.specs.Check.{plan_refusal}

pub record SameButVersion (p q : Plan) : Type 0 where
  pub rules : p.rules ≡ q.rules
  pub channels : p.channels ≡ q.channels

abbrev pub as_version : ℕ → Plan → Plan
as_version v p = record { version = v; rules = p.rules; channels = p.channels }

-- The bytes of version 2 with the same rules and channels.
unfoldable pub in_version_two : List ℕ → List ℕ
unfolding plan_of plan_bytes
in_version_two s = plan_bytes (as_version 2 (plan_of s))

-- "a version 1 belt reads as 0..65535"
abbrev pub AnyMass : Channel → Type 0
AnyMass c = (c.least ≡ 0) × (c.greatest ≡ 65_535)

-- Of records that are no ticks (2026-05) such a channel takes those that document 01 says, whatever they weigh.
abbrev pub TakesAnyMass : Type 0
TakesAnyMass = (c : Channel) (r : Record) → AnyMass c → is_tick r ≡ false → r.mass ≤ 65_535 → takes c r ≡ (bit_set c.mask r.material && eqb (r.piece % c.modulus) c.remainder)

-- A plan of version 1 beside that of version 2: which is accepted too, and its windows are 0..65535.
pub record Widened (s : List ℕ) : Type 0 where
  pub bytes : Bytes (in_version_two s)
  pub accepted : plan_refusal (in_version_two s) ≡ 0
  pub version : plan_version (in_version_two s) ≡ 2
  pub same : SameButVersion (plan_of s) (plan_of (in_version_two s))
  pub windows : Each AnyMass (plan_of (in_version_two s)).channels

-- Of every accepted plan of version 1.
abbrev pub FirstIsWidened : Type 0
FirstIsWidened = (s : List ℕ) → Bytes s → plan_refusal s ≡ 0 → plan_version s ≡ 1 → Widened s
