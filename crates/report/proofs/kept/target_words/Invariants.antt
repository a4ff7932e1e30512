use Prim.Native.Nat.{◌*◌}
use lib.ListN.{drop}
use Rattle.state.specs.State.{line_of}
use Rattle.report.specs.Parts.{after, target_words}
use Rattle.report.proofs.WroteLaws.{Writing}
use Rattle.report.proofs.kept.target_words.Given as goal

abbrev pub invariant-loop-i : goal.invariant-loop-i
invariant-loop-i l =
    let words = target_words (line_of l.s) l.n in
    Writing (after words) (l.i * 34) l.initial.text l.text (after (drop l.i words))
