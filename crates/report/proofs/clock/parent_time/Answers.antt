use mathlib.Core.Path.{◌∙◌}
use native.Mathlib.Omega.{arith}
use Rattle.report.proofs.ParentLaws.{four_parents, through_at, own_time, heard_time, kept_time}
use Rattle.report.proofs.clock.parent_time.Goals as goal

pub heard_of-requires : goal.heard_of-requires
heard_of-requires c =
    let a = c.args in
    through_at a.s.now a.n c.requires.0 a.h a.place c.requires.2.inside c.in-Through.c c.in-Through.is c.requires.1

pub overflow_add-place : goal.overflow_add-place
overflow_add-place c = omega (arith, four_parents c.args.s.now c.args.n c.requires.0, c.requires.2.inside)

pub kept_number-requires : goal.kept_number-requires
kept_number-requires c =
    let node = c.requires.0 in
    (node.holds.ready, node.inside, omega (arith, four_parents c.args.s.now c.args.n node, c.requires.2.inside))

pub returns-in-Itself : goal.returns-in-Itself
returns-in-Itself c =
    let a = c.args in
    c.taken_of.ensures ∙ own_time a.s.now a.n c.requires.0 a.h a.place c.requires.2.inside a.channel c.in-Itself.is c.requires.2.is

pub returns-in-Through : goal.returns-in-Through
returns-in-Through c =
    let a = c.args in
    c.heard_of.ensures ∙ heard_time a.s.now a.n c.requires.0 a.h a.place c.requires.2.inside c.in-Through.c c.in-Through.is

pub returns-in-Kept : goal.returns-in-Kept
returns-in-Kept c =
    let a = c.args in
    kept_time a.s.now a.n c.requires.0 a.h a.place c.requires.2.inside c.in-Kept.is c.requires.1 c.kept_number.result c.kept_number.ensures
