use native.Mathlib.Omega.{arith}
use lib.ListN.{get_or}
use Rattle.state.specs.State.{line_of}
use Rattle.trim.specs.Trimmed.{heard_lowers}
use Rattle.trim.proofs.RowLaws.{rows_set, rows_left}
use Rattle.trim.proofs.FloorLaws.{unheard, heard_place, heard_lowers_lem}
use Rattle.trim.proofs.lower_heard.Goals.{in-Some, in_default}
use Rattle.trim.proofs.lower_heard.Goals as goal

pub heard_of-heard-requires : goal.heard_of-heard-requires
heard_of-heard-requires c =
    let ready = c.args.joins.now.ready in
    (ready, c.requires.0, heard_place _ _ _ _ c.requires.1 c.in-Some.ensures ready c.requires.0)

pub loop-q-preserved : goal.loop-q-preserved
loop-q-preserved c =
    let t = c.loop-q in
    let a = c.args in
    let s = a.joins.now.state.now in
    let old = a.floors.now in
    let lowers = heard_lowers (line_of s) a.b in
    let few = c.loop-q-test.true in
    elim c.match-joined.branch [
      | in-Some w ↦ rw (w.floors-is, w.min.ensures, w.heard_of-heard.ensures, t.invariant.rest t.q (omega arith))
          (rows_set lowers old t.floors t.q t.invariant few _ (heard_lowers_lem s a.b t.q a.sender c.requires.1 w.in-Some.ensures (get_or old t.q 0)))
      | in_default w ↦ rw w.floors-is (rows_left lowers old t.floors t.q t.invariant few (unheard s a.b t.q a.sender c.requires.1 w.in_default.ensures (get_or old t.q 0)))
    ]
