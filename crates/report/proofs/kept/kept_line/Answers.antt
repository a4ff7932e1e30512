use mathlib.Core.Path.{refl, sym}
use native.Mathlib.Omega.{arith}
use Rattle.state.specs.State.{line_of}
use Rattle.node_fields.specs.Kept.{kept_is}
use Rattle.report.specs.Most.{kept_most}
use Rattle.report.proofs.PartsLaws.{kept_none, kept_parts}
use Rattle.report.proofs.WroteLaws.{writes_most, writing_of, writing_on, writing_end, writing_last}
use Rattle.report.proofs.kept.kept_line.Goals as goal

pub returns-in_default : goal.returns-in_default
returns-in_default c =
    let a = c.args in
    let w = writing_end (writing_of a.text.now (kept_none (line_of a.s.now) a.n (sym c.in_default.ensures)) (omega (arith, c.requires.1))) in
    writes_most kept_most (omega (arith, w.wrote.short)) w

pub restored_words-requires : goal.restored_words-requires
restored_words-requires c =
    let v = c.two_numbers.ensures.wrote in
    let w = c.byte.ensures.wrote in
    (c.requires.0, sym c.in-Some.ensures, omega (arith, c.requires.1, v.end, v.short, v.same, w.end, w.short, w.same))

pub returns : goal.returns
returns c =
    let a = c.args in
    let l = line_of a.s.now in
    writing_last
    (writing_on refl
    (writing_on refl
    (writing_on refl
    (writing_on refl (writing_of a.text.now (kept_parts l a.n (kept_is c.in-Some.kept) (sym c.in-Some.ensures)) (omega (arith, c.requires.1))) c.byte.ensures)
    c.two_numbers.ensures)
    c.restored_words.ensures)
    c.target_words.ensures)
    c.byte-2.ensures
