use mathlib.Core.Path.{sym, subst}
use Rattle.rules.specs.Line.{Lane, with_lane}
use Rattle.state.specs.State.{line_of}
use Rattle.buffer.specs.Holds.{Holds}
use Rattle.slots.specs.Slots.{origin_is}
use Rattle.channel_fields.proofs.LaneWrites.{lane_kept}
use Rattle.channel_fields.proofs.RaisedLaws.{raised, raised_none, raised_here, raised_nowhere}
use Rattle.channel_fields.proofs.raise_heard.Goals as goal

pub returns-in_default : goal.returns-in_default
returns-in_default c =
    let a = c.args in
    let o = origin_is a.m in
    let z = c.in_default.ensures in
    record { holds = lane_kept a.s.now a.b c.requires (raised a.s.now a.b c.requires o) (raised_none a.s.now a.b c.requires o c.in_default.ensures); on = c.requires }

pub raise_at-requires : goal.raise_at-requires
raise_at-requires c =
    let a = c.args in
    let place = rw c.sender_of.ensures.0 at c.in-Some-place_of.ensures in
    (c.requires, (raised_here a.s.now a.b c.requires (origin_is a.m) c.in-Some.parent a.m.time c.in-Some.ensures.0 c.in-Some-place_of.place place).0)

pub returns-in-Some-place_of : goal.returns-in-Some-place_of
returns-in-Some-place_of c =
    let a = c.args in
    let place = rw c.sender_of.ensures.0 at c.in-Some-place_of.ensures in
    let is = (raised_here a.s.now a.b c.requires (origin_is a.m) c.in-Some.parent a.m.time c.in-Some.ensures.0 c.in-Some-place_of.place place).1 in
    let now = c.raise_at.ensures in
    record { holds = subst (λ (x : Lane). Holds c.raise_at.new.s (with_lane a.b x (line_of a.s.now))) (sym is) now.holds; on = now.on }

pub returns-in_default-place_of : goal.returns-in_default-place_of
returns-in_default-place_of c =
    let a = c.args in
    let place = rw c.sender_of.ensures.0 at c.in_default-place_of.ensures in
    record {
      holds = lane_kept a.s.now a.b c.requires (raised a.s.now a.b c.requires (origin_is a.m)) (raised_nowhere a.s.now a.b c.requires (origin_is a.m) c.in-Some.parent a.m.time c.in-Some.ensures.0 place);
      on = c.requires;
    }
