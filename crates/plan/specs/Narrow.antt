-- A rule in the bytes of its type.
use Rattle.std.specs.Prelude.{◌%◌}
use Rattle.plan.specs.declared.Rule.{Rule}
use Rattle.plan.specs.declared.Rule.TheVariants.{Keep, Relabel, Cap}

-- A plan spells q in two bytes, and a material is one: of a plan that is not refused this changes no rule.
abbrev pub narrowed : Rule → Rule
narrowed Keep = Keep
narrowed (Relabel p q) = Relabel p (q % 256)
narrowed (Cap q) = Cap q
