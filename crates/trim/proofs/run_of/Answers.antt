use mathlib.Core.Path.{◌≡◌, sym, ap, ◌∙◌}
use mathlib.Core.Logic.{inl, inr}
use mathlib.Core.Bool.{false}
use native.Mathlib.Omega.{arith}
use lib.ListN.{get_or}
use Rattle.basics.specs.Bools.{below_or_not}
use Rattle.rules.specs.Line.{node_at}
use Rattle.rules.specs.Trim.{droppable}
use Rattle.state.specs.State.{line_of}
use Rattle.state.proofs.InPlace.{nodes-counted}
use Rattle.slots.specs.Slots.{entry_is}
use Rattle.buffer.specs.Nothing.{no_entry}
use Rattle.buffer.proofs.ReadyLaws.{counted}
use Rattle.trim.proofs.RunLaws.{run_ends, entry_is_lem}
use Rattle.trim.proofs.run_of.Goals.{After-entry_within}
use Rattle.trim.proofs.run_of.Goals as goal

-- What is asked of entry i is whether it may go.
entry_asked : (c : goal.After-entry_within) → c.entry_within.result ≡ droppable (line_of c.args.s.now) c.args.n (get_or (node_at (line_of c.args.s.now) c.args.n).log c.loop-i.i no_entry)
entry_asked c =
    let a = c.args in
    let ready = c.requires.0.holds.ready in
    let l = line_of a.s.now in
    c.entry_within.ensures ∙ entry_is_lem l a.floors.now c.requires.1 (omega (arith, nodes-counted a.s.now (counted ready), ready.nodes)) a.n (entry_is c.entry_of.result) ∙ ap (droppable l a.n) c.entry_of.ensures

pub returns-then-not-entry_within : goal.returns-then-not-entry_within
returns-then-not-entry_within c =
    let t = c.loop-i in
    let a = c.args in
    let log = (node_at (line_of a.s.now) a.n).log in
    let many = c.log_count-count.ensures.0 in
    let stop : droppable (line_of a.s.now) a.n (get_or log t.i no_entry) ≡ false = sym (entry_asked (goal.at.returns-then-not-entry_within c).After-entry_within) ∙ c.if-not-entry_within.true in
    (run_ends (droppable (line_of a.s.now) a.n) no_entry log t.i (omega (arith, many)) t.invariant (λ h. stop), omega (arith, many))

pub loop-i-preserved : goal.loop-i-preserved
loop-i-preserved c =
    let t = c.loop-i in
    λ j h. elim (below_or_not j t.i) [
      | inl k ↦ t.invariant j k
      | inr k ↦ (let same : t.i ≡ j = omega arith in rw (← same) (sym (entry_asked (goal.at.loop-i-preserved c).After-entry_within) ∙ c.if-not-entry_within.false))
    ]

pub returns : goal.returns
returns c =
    let t = c.loop-i in
    let a = c.args in
    let log = (node_at (line_of a.s.now) a.n).log in
    let many = c.log_count-count.ensures.0 in
    let all : t.i ≡ c.log_count-count.result = omega arith in
    (rw all at (run_ends (droppable (line_of a.s.now) a.n) no_entry log t.i (omega (arith, many)) t.invariant (λ h. (let no : ⊥ = omega (arith, many) in absurd no))), omega (arith, many))
