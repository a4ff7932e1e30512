-- A node's rule (document 01, "The line": keep, relabel or cap).
use Rattle.std.specs.Prelude.{ℕ, Bool, cond, ◌&&◌, List, [], ◌∷◌, get_or, leb, ltb, eqb}
use Rattle.plan.specs.declared.Record.{Record}
use Rattle.plan.specs.declared.Rule.{Rule}
use Rattle.plan.specs.declared.Rule.TheVariants.{Keep, Relabel, Cap}
use Rattle.plan.specs.Layout.{Layout, fields, via}

-- "Relabel is kind 1: material p becomes q"; cap: "a mass above q becomes q".
abbrev pub applied : Rule → Record → Record
applied Keep r = r
applied (Relabel p q) r = record { piece = r.piece; material = cond (eqb r.material p) q r.material; mass = r.mass }
applied (Cap q) r = record { piece = r.piece; material = r.material; mass = cond (ltb q r.mass) q r.mass }

-- "Rule bytes: kind, p, q (2 bytes). Keep is kind 0, p = q = 0. Relabel is kind 1", "Cap is kind 2, p = 0"
abbrev pub rule_numbers : Rule → List ℕ
rule_numbers Keep = 0 ∷ 0 ∷ 0 ∷ []
rule_numbers (Relabel p q) = 1 ∷ p ∷ q ∷ []
rule_numbers (Cap q) = 2 ∷ 0 ∷ q ∷ []

abbrev pub rule_of_kind : ℕ → ℕ → ℕ → Rule
rule_of_kind kind p q = cond (eqb kind 1) (Relabel p q) (cond (eqb kind 2) (Cap q) Keep)

abbrev pub rule_of : List ℕ → Rule
rule_of ns = rule_of_kind (get_or ns 0 0) (get_or ns 1 0) (get_or ns 2 0)

abbrev pub rule_widths : List ℕ
rule_widths = 1 ∷ 1 ∷ 2 ∷ []

unfoldable pub rule_fields : Layout (List ℕ)
unfolding fields
rule_fields = fields rule_widths

unfoldable pub rule_layout : Layout Rule
unfolding rule_fields via
rule_layout = via rule_fields rule_numbers rule_of

-- Check 5 of one rule: "Keep is kind 0, p = q = 0"; relabel "both 0..15"; cap "p = 0", "q 1..65535".
abbrev pub rule_kind_fits : ℕ → ℕ → ℕ → Bool
rule_kind_fits kind p q = cond (eqb kind 0) (eqb p 0 && eqb q 0) (cond (eqb kind 1) (leb p 15 && leb q 15) (eqb kind 2 && eqb p 0 && leb 1 q))

abbrev pub rule_fits : List ℕ → Bool
rule_fits ns = rule_kind_fits (get_or ns 0 0) (get_or ns 1 0) (get_or ns 2 0)
