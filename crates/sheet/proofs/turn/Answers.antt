-- A turn's ways out, by what the read gave.
use Rattle.std.proofs.Common.{◌≡◌, sym, Err, arith, rules}
use denote.Enum.Bare.{same_true}
use Rattle.stream.specs.contracts.Phase.{the_type}
use Rattle.sheet.specs.Turned.{complete, at_the_end, read_failed, block_unwritten, last_unwritten}
use Rattle.sheet.proofs.TurnLaws.{some_got, none_got, went, ended}
use Rattle.sheet.proofs.turn.Goals as goal

pub returns-in_err-write-in-Ok : goal.returns-in_err-write-in-Ok
returns-in_err-write-in-Ok c =
    let told : c.from_residual-in_err-write-in-Ok.result ≡ Err c.in_err-write-in-Ok.field-0.0 = search rules in
    let (why, some) = c.in_err-write-in-Ok.ensures in
    rw (told, why) (block_unwritten (went c.args.reader c.in-Ok.n (some_got c.in-Ok.n c.in-Ok.n-test.1) c.in-Ok.ensures c.requires.0 c.take_block-next.ensures) some)

pub returns-then-eq : goal.returns-then-eq
returns-then-eq c =
    complete (went c.args.reader c.in-Ok.n (some_got c.in-Ok.n c.in-Ok.n-test.1) c.in-Ok.ensures c.requires.0 c.take_block-next.ensures) (same_true the_type (search rules) _ _ (sym c.if-eq.ensures))

pub returns-else-eq : goal.returns-else-eq
returns-else-eq c =
    let g = c.take_block-next.ensures in
    let all = went c.args.reader c.in-Ok.n (some_got c.in-Ok.n c.in-Ok.n-test.1) c.in-Ok.ensures c.requires.0 g in
    record {
      went = all;
      between = record { holding = g.holding; room = g.room; few = omega (arith, all.read.within, g.counted, c.requires) };
      spent = omega (arith, all.read.within, c.requires.1);
    }

pub returns-in_err-write-in-Ok-eq0 : goal.returns-in_err-write-in-Ok-eq0
returns-in_err-write-in-Ok-eq0 c =
    let told : c.from_residual.result ≡ Err c.in_err-write-in-Ok-eq0.field-0.0 = search rules in
    let (why, some) = c.in_err-write-in-Ok-eq0.ensures in
    rw (told, why) (last_unwritten (ended c.args.reader (none_got c.in-Ok-eq0.field-0-test) c.in-Ok-eq0.ensures c.requires.0 c.finish-wrote.ensures) some)

pub returns-in_ok-write-in-Ok-eq0 : goal.returns-in_ok-write-in-Ok-eq0
returns-in_ok-write-in-Ok-eq0 c = at_the_end (ended c.args.reader (none_got c.in-Ok-eq0.field-0-test) c.in-Ok-eq0.ensures c.requires.0 c.finish-wrote.ensures)

pub returns-in-Err : goal.returns-in-Err
returns-in-Err c = read_failed c.in-Err.ensures
