-- The numbers by which a plan's bytes name a version and a kind of rule.
use Rattle.std.specs.Prelude.{ℕ}
use Rattle.plan.specs.declared.Version.{Version}
use Rattle.plan.specs.declared.Version.TheVariants.{One, Two}
use Rattle.plan.specs.declared.Kind.{Kind}
use Rattle.plan.specs.declared.Kind.TheVariants.{Keep, Relabel, Cap}

abbrev pub version_number : Version → ℕ
version_number One = 1
version_number Two = 2

-- "Keep is kind 0", "Relabel is kind 1", "Cap is kind 2"
abbrev pub kind_number : Kind → ℕ
kind_number Keep = 0
kind_number Relabel = 1
kind_number Cap = 2
