use mathlib.Core.Path.{sym, ap, ◌∙◌}
use mathlib.Core.List.{[]}
use native.Mathlib.Omega.{arith}
use lib.ListN.{length-map}
use Rattle.rules.specs.Line.{node_at}
use Rattle.rules.specs.Sheet.{target_word}
use Rattle.rules.proofs.Lists.ListLaws.{map_at}
use Rattle.state.specs.State.{line_of}
use Rattle.buffer.specs.Nothing.{no_target}
use Rattle.report.specs.Parts.{after, target_words}
use Rattle.report.proofs.KeptLaws.{word_turn, word_end}
use Rattle.report.proofs.WroteLaws.{writes_most, writing_start}
use Rattle.report.proofs.kept.target_words.Goals as goal

pub loop-i-init : goal.loop-i-init
loop-i-init c =
    let a = c.args in
    writing_start (after (target_words (line_of a.s.now) a.n)) a.text.now (omega (arith, c.requires.1))

pub target_word-requires : goal.target_word-requires
target_word-requires c =
    let w = c.loop-i.invariant.writes.wrote in
    omega (arith, w.end, w.short, w.same, c.requires.1, c.target_count-i-end.ensures.1)

pub loop-i-preserved : goal.loop-i-preserved
loop-i-preserved c =
    let a = c.args in
    let v = c.loop-i in
    let targets = (node_at (line_of a.s.now) a.n).targets in
    let count = c.target_count-i-end.ensures.0 in
    let word = map_at target_word targets v.i no_target [] (omega (arith, count)) ∙ ap target_word (sym c.target_of.ensures) in
    word_turn (target_words (line_of a.s.now) a.n) v.i 34 (omega (arith, count, length-map targets target_word)) v.invariant (rw word c.target_word.ensures)

pub returns : goal.returns
returns c =
    let a = c.args in
    let v = c.loop-i in
    let count = c.target_count-i-end.ensures in
    let all = word_end (target_words (line_of a.s.now) a.n) v.i 34 (omega (arith, count.0, length-map (node_at (line_of a.s.now) a.n).targets target_word)) v.invariant in
    writes_most 2176 (omega (arith, all.wrote.short, count.0, count.1)) all
