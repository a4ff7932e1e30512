use mathlib.Core.Path.{refl, sym, ◌∙◌}
use native.Mathlib.Omega.{arith}
use Rattle.frame.proofs.FrameLaws.{by_tests, long_enough, version_one, version_two, version_unknown}
use Rattle.frame.proofs.read.Goals as goal

pub returns-then-bad_length : goal.returns-then-bad_length
returns-then-bad_length c = by_tests c.args.frame.now (sym c.bad_length.ensures ∙ c.if-bad_length.true) refl refl refl

pub version_of-requires : goal.version_of-requires
version_of-requires c = long_enough c.args.frame.now (sym c.bad_length.ensures ∙ c.if-bad_length.false)

pub read_from-requires : goal.read_from-requires
read_from-requires c =
    version_one c.args.frame.now (sym c.bad_length.ensures ∙ c.if-bad_length.false) (sym c.version_of.ensures ∙ c.in-1.is)

pub bounds-frame-4 : goal.bounds-frame-4
bounds-frame-4 c = long_enough c.args.frame.now (sym c.bad_length.ensures ∙ c.if-bad_length.false)

pub read_from-requires-in-2 : goal.read_from-requires-in-2
read_from-requires-in-2 c =
    let f = c.args.frame.now in
    version_two f c.from.result (sym c.bad_length.ensures ∙ c.if-bad_length.false) (sym c.version_of.ensures ∙ c.in-2.is) c.from.ensures

pub returns-in_default : goal.returns-in_default
returns-in_default c =
    let f = c.args.frame.now in
    by_tests f (sym c.bad_length.ensures ∙ c.if-bad_length.false) (version_unknown f (λ e. omega arith) (λ e. omega arith)) refl refl
