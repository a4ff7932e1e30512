use Prim.Native.Nat.{ℕ, suc, ◌+◌, ◌<◌}
use mathlib.Core.Path.{◌≡◌, sym, ap, ◌∙◌}
use mathlib.Core.Bool.{true, false}
use Rattle.std.proofs.Common.{rules, MatchOption}
use mathlib.Core.List.{List}
use native.Mathlib.Numerals.{add-one}
use native.Mathlib.Omega.{arith}
use Rattle.plan.specs.Record.{record_layout, record_fits}
use Rattle.plan.specs.Plan.{plan_of, plan_nodes, is_source}
use Rattle.plan.specs.Mask.{set_of}
use Rattle.rules.specs.Line.{fed, node_at}
use Rattle.rules.specs.Clock.{logged}
use Rattle.buffer.specs.Holds.{NodeNow}
use Rattle.rules.specs.Replay.{timed}
use Rattle.rules.specs.Step.{made_by}
use Rattle.state.specs.State.{line_of}
use Rattle.state.proofs.InPlace.{line-plan}
use Rattle.buffer.proofs.SetLaws.{leave_all}
use Rattle.passing.specs.Passing.{Loggable}
use Rattle.passing.proofs.StateLaws.{at-node, time_within}
use Rattle.passing.proofs.FeedLaws.{timed_in, is_timed, feed_past, feed_between, feed_unfit, feed_quiet, feed_full, feed_done}
use Rattle.passing.proofs.feed.Goals.{After-give_time, After-time_of}
use Rattle.passing.proofs.feed.Goals as goal

pub returns-then-node_count-n : goal.returns-then-node_count-n
returns-then-node_count-n c bytes known =
    let a = c.args in
    feed_past a.s.now a.n bytes c.requires.holds (omega (arith, c.node_count.ensures.0))

pub returns-then-not-is_source : goal.returns-then-not-is_source
returns-then-not-is_source c bytes known =
    let a = c.args in
    feed_between a.s.now a.n bytes c.requires.holds (omega (arith, c.node_count.ensures.0))
    (sym c.is_source.ensures ∙ c.if-not-is_source.true)

pub returns-in_err-fed : goal.returns-in_err-fed
returns-in_err-fed c bytes known =
    let a = c.args in
    let unfit = feed_unfit a.s.now a.n bytes c.requires.holds (omega (arith, c.node_count.ensures.0))
    (sym c.is_source.ensures ∙ c.if-not-is_source.false)
    (rw c.in_err-fed.ensures.ok_part at known) in
    search rules

pub of-takers-requires : goal.of-takers-requires
of-takers-requires c = (c.requires.holds.ready, omega (arith, c.node_count.ensures.0), leave_all (plan_of c.args.s.now) c.args.n)

-- What is known where a record's time is asked for.
record Asked (g : goal.After-give_time) (bytes : List ℕ) : Type 0 where
  inside : g.args.n < plan_nodes g.args.s.now
  source : is_source (plan_of g.args.s.now) g.args.n ≡ true
  fits : record_fits bytes ≡ true
  made : g.made_by-made.result ≡ made_by (line_of g.args.s.now) g.args.n (record_layout.read bytes)
  timed : g.give_time.result ≡ is_timed (line_of g.args.s.now) g.args.n bytes

asked : (g : goal.After-give_time) (bytes : List ℕ) → MatchOption g.args.what (record_fits bytes ≡ false) (λ r. (record_layout.read bytes ≡ r) × (record_fits bytes ≡ true)) → Asked g bytes
asked g bytes known =
    let a = g.args in
    let l = line_of a.s.now in
    let fit = rw g.in_ok-fed.ensures.ok_part at known in
    let is : g.made_by-made.result ≡ made_by l a.n (record_layout.read bytes) = g.made_by-made.ensures ∙ ap (made_by l a.n) (sym fit.0) in
    record {
      inside = omega (arith, g.node_count.ensures.0);
      source = sym g.is_source.ensures ∙ g.if-not-is_source.false;
      fits = fit.1;
      made = is;
      timed = g.give_time.ensures ∙ timed_in a.s.now a.n g.of-takers.result.set g.made_by-made.result g.of-takers.ensures.1 ∙ ap (timed l.plan a.n) is;
    }

pub returns-then-not-give_time : goal.returns-then-not-give_time
returns-then-not-give_time c bytes known =
    let a = c.args in
    let k = asked (goal.at.returns-then-not-give_time c).After-give_time bytes known in
    feed_quiet a.s.now a.n bytes c.requires.holds k.inside k.source k.fits (sym k.timed ∙ c.if-not-give_time.true)

pub returns-then-log_count-ge-LOG : goal.returns-then-log_count-ge-LOG
returns-then-log_count-ge-LOG c bytes known =
    let a = c.args in
    let k = asked (goal.at.returns-then-log_count-ge-LOG c).After-give_time bytes known in
    feed_full a.s.now a.n bytes c.requires.holds k.inside k.source k.fits (sym k.timed ∙ c.if-not-give_time.false) (omega (arith, c.log_count.ensures.0, c.if-log_count-ge-LOG.true))

loggable : (c : goal.After-time_of) → Loggable c.args.s.now c.args.n
loggable c =
    let inside : c.args.n < plan_nodes c.args.s.now = omega (arith, c.node_count.ensures.0, c.if-node_count-n.false) in
    record { at = at-node c.requires inside; room = omega (arith, c.log_count.ensures.0, c.if-log_count-ge-LOG.false); time = time_within c.requires inside }

pub overflow_add-e : goal.overflow_add-e
overflow_add-e c = omega (arith, c.time_of.ensures, (loggable c).time)

pub returns : goal.returns
returns c bytes known =
    let a = c.args in
    let s = a.s.now in
    let l = line_of s in
    let k = asked (goal.at.returns c).After-give_time bytes known in
    let time : c.time_of.result + 1 ≡ suc (node_at l a.n).time = add-one c.time_of.result ∙ ap suc c.time_of.ensures in
    let chosen : c.of-takers.result.set ≡ set_of l.plan a.n (made_by l a.n (record_layout.read bytes)) = c.of-takers.ensures.1 ∙ (λ i. set_of (sym (line-plan s) i) a.n (k.made i)) in
    let now-logged : NodeNow s a.n (logged (c.time_of.result + 1) c.of-takers.result.set c.made_by-made.result fed fed) c.log_made.new.s = rw (c.nothing.ensures, c.nothing-2.ensures) at c.log_made.ensures in
    feed_done s a.n bytes c.requires.holds k.inside k.source k.fits (sym k.timed ∙ c.if-not-give_time.false) c.log_made.new.s (omega (arith, c.log_count.ensures.0, c.if-log_count-ge-LOG.false))
    (rw (time, chosen, k.made) at now-logged)

pub log_made-requires : goal.log_made-requires
log_made-requires c = loggable (goal.at.log_made-requires c).After-time_of
