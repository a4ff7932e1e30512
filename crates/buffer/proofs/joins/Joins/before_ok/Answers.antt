use mathlib.Core.Path.{ap, ◌∙◌}
use mathlib.Core.Bool.{Bool, ◌&&◌}
use native.Mathlib.Omega.{arith}
use lib.Dec.{eqb}
use Rattle.buffer.proofs.OriginLaws.{before_fed, before_missing, before_there}
use Rattle.buffer.proofs.JoinLaws.{place_few}
use Rattle.buffer.proofs.joins.Joins.before_ok.Goals as goal

pub returns-then-from-eq0 : goal.returns-then-from-eq0
returns-then-from-eq0 c =
    let a = c.args in
    let j = a.self.now in
    ap (λ (v : Bool). v && eqb a.time 0) c.is_source-source.ensures ∙ before_fed j.state.now j.ready a.sender a.b c.requires.0 c.requires.1 a.from a.time c.if-from-eq0.true

pub returns-in_default : goal.returns-in_default
returns-in_default c =
    let a = c.args in
    let j = a.self.now in
    before_missing j.state.now j.ready a.sender a.b c.requires.0 c.requires.1 a.from a.time c.if-from-eq0.false c.in_default.ensures.placed

pub overflow_mul-joint : goal.overflow_mul-joint
overflow_mul-joint c = let j = c.args.self.now in omega (arith, place_few j.state.now j.ready c.in-Some.ensures)

pub overflow_add-joint : goal.overflow_add-joint
overflow_add-joint c = let j = c.args.self.now in omega (arith, place_few j.state.now j.ready c.in-Some.ensures)

pub overflow_add-b-2 : goal.overflow_add-b-2
overflow_add-b-2 c = let j = c.args.self.now in omega (arith, j.ready.channels, c.requires.0, place_few j.state.now j.ready c.in-Some.ensures)

pub get32-heard-requires : goal.get32-heard-requires
get32-heard-requires c = let j = c.args.self.now in omega (arith, j.ready.long, j.ready.channels, c.requires.0, place_few j.state.now j.ready c.in-Some.ensures)

pub returns : goal.returns
returns c =
    let a = c.args in
    let j = a.self.now in
    rw c.get32-heard.ensures
    (before_there j.state.now j.ready a.sender a.b c.requires.0 c.requires.1 a.from a.time c.if-from-eq0.false c.in-Some.joint.place c.in-Some.ensures.placed)
