use mathlib.Core.Path.{sym, ◌∙◌}
use Rattle.std.proofs.lemmas.Result.{err_from_is_err_and}
use Rattle.trim.proofs.TrimLaws.{trim_refused, trim_on, trim_idle, trim_next, trim_done}
use Rattle.trim.proofs.trim.Goals as goal

pub returns-in_err-asked : goal.returns-in_err-asked
returns-in_err-asked c =
    let p = err_from_is_err_and c.from_residual.result c.from_residual.ensures.1 in
    rw (p.1, p.2) (trim_refused c.args.s.now c.args.n c.requires c.in_err-asked.field-0.0 c.in_err-asked.ensures)

pub of-requires : goal.of-requires
of-requires c = (c.requires.holds.ready, c.of-ends.ensures)

pub run_of-count-requires : goal.run_of-count-requires
run_of-count-requires c = (trim_on c.args.s.now c.args.n c.requires (sym c.in_ok-asked.ensures), rw c.of.ensures at c.floors_of-floors.ensures)

pub raise_channels-requires : goal.raise_channels-requires
raise_channels-requires c = (trim_on c.args.s.now c.args.n c.requires (sym c.in_ok-asked.ensures), c.of-ends.ensures, c.run_of-count.ensures.1)

pub drop_entries-requires : goal.drop_entries-requires
drop_entries-requires c =
    let a = c.args in
    trim_next a.s.now a.n c.requires c.run_of-count.result c.raise_channels.new.s c.raise_channels.ensures (trim_on a.s.now a.n c.requires (sym c.in_ok-asked.ensures)) c.run_of-count.ensures.1

pub returns-then-count-ne0 : goal.returns-then-count-ne0
returns-then-count-ne0 c =
    let a = c.args in
    trim_done a.s.now a.n c.requires (sym c.in_ok-asked.ensures) c.run_of-count.result c.run_of-count.ensures.0 c.raise_channels.new.s c.raise_channels.ensures c.drop_entries.new.s c.drop_entries.ensures

pub returns-else-count-ne0 : goal.returns-else-count-ne0
returns-else-count-ne0 c =
    let a = c.args in
    trim_idle a.s.now a.n c.requires (sym c.in_ok-asked.ensures) (sym c.if-count-ne0.false ∙ c.run_of-count.ensures.0)
