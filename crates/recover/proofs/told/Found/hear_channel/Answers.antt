use Rattle.std.proofs.Common.{ℕ, sym, subst, ◌∙◌}
use Rattle.rules.specs.Line.{node_at}
use Rattle.rules.specs.Recover.{triples}
use Rattle.state.specs.State.{line_of}
use Rattle.recover.specs.Finds.{Told}
use Rattle.recover.proofs.ToldLaws.{told_other, told_child}
use Rattle.recover.proofs.told.Found.hear_channel.Goals as goal

pub returns-then-sender_of-n : goal.returns-then-sender_of-n
returns-then-sender_of-n c =
    let a = c.args in
    told_other a.s.now a.n a.b a.self.now tt (λ e. c.if-sender_of-n.true (c.sender_of.ensures.0 ∙ e)) c.requires.3

pub returns : goal.returns
returns c =
    let a = c.args in
    told_child a.s.now a.n a.b a.self.now c.hear_log.result c.lows_on.new.rows c.hear_log.new.self
    (sym c.sender_of.ensures.0 ∙ c.if-sender_of-n.false)
    c.lows_on.ensures
    (subst (λ (k : ℕ). Told (triples a.n (node_at (line_of a.s.now) k).log) (record a.self.now { entries = c.lows_on.new.rows }) c.hear_log.result c.hear_log.new.self) c.receiver_of.ensures.0 c.hear_log.ensures)
