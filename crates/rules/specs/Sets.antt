-- 2026-06: "Answers to undamaged states, and all else that a step leaves in them, are unchanged."
use Rattle.std.specs.Prelude.{ℕ, ◌≡◌, List, map}
use Rattle.rules.specs.Line.{Entry, Node, Line}
use Rattle.rules.specs.Step.{Answer, step}

-- A line with its sets left out, as it was before there were any.
abbrev pub without_set : Entry → Entry
without_set e = record { what = e.what; time = e.time; origin = e.origin; before = e.before; set = 0 }

abbrev pub node_without_sets : Node → Node
node_without_sets x = record { status = x.status; crashed = x.crashed; time = x.time; log = map without_set x.log; held = x.held; targets = x.targets; asked = x.asked }

abbrev pub without_sets : Line → Line
without_sets l = record { plan = l.plan; steps = l.steps; nodes = map node_without_sets l.nodes; lanes = l.lanes }

-- A step, with the sets left out of what it leaves. That it is the step from before 2026-06, but for what later requests changed, is read off the definitions: of a step, `fed_line`, `taken_up` and `node_placed` alone ask `set_of`, for the field `set` alone.
unfoldable pub answer_without_sets : Line → List ℕ → Answer
unfolding step
answer_without_sets l f = let a = step l f in record { number = a.number; line = without_sets a.line }

-- No set is read: a line and the same line without its sets are answered the same, and left the same but for the sets.
abbrev pub StepWithoutSets : Type 0
StepWithoutSets = (l : Line) (f : List ℕ) → answer_without_sets (without_sets l) f ≡ answer_without_sets l f
