use Rattle.std.proofs.Common.{◌≡◌, rules}
use Rattle.rules.specs.Frame.{frame_refusal}
use Rattle.frame.proofs.FrameLaws.{unknown_kind, unknown_console, well_formed, asked_behind}
use Rattle.frame.proofs.read_from.Goals as goal

pub returns-in_err-asked : goal.returns-in_err-asked
returns-in_err-asked c =
    let unknown = rw c.in_err-asked.ensures.ok_part at c.frame_of.ensures in
    let refused : frame_refusal c.args.frame.now ≡ 11 = unknown_kind c.args.frame.now c.kind_of.result c.args.console c.args.from c.kind_of.ensures c.requires unknown in
    let z = c.from_residual.ensures in
    search rules

pub returns-then-console-ge-CONSOLES : goal.returns-then-console-ge-CONSOLES
returns-then-console-ge-CONSOLES c =
    let known = rw c.in_ok-asked.ensures.ok_part at c.frame_of.ensures in
    unknown_console c.args.frame.now c.kind_of.result c.args.console c.args.from c.kind_of.ensures c.requires known.0 c.if-console-ge-CONSOLES.true

pub returns : goal.returns
returns c =
    let f = c.args.frame.now in
    let known = rw c.in_ok-asked.ensures.ok_part at c.frame_of.ensures in
    record {
      formed = well_formed f c.kind_of.result c.args.console c.args.from c.kind_of.ensures c.requires known.0 c.if-console-ge-CONSOLES.false;
      from = c.requires.whose;
      there = c.if-console-ge-CONSOLES.false;
      asks = rw (asked_behind f c.kind_of.result c.args.console c.args.from c.kind_of.ensures c.requires) known.1;
    }
