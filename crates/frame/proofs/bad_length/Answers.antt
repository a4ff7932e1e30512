use lib.ListN.{length}
use borrow.Author.Tests.{lt-ltb, le-ltb}
use Rattle.rules.specs.Frame.{bad_frame_length}
use Rattle.frame.proofs.FrameLaws.{size_field}
use Rattle.frame.proofs.bad_length.Goals as goal

pub returns-then-frame-lt-HEAD : goal.returns-then-frame-lt-HEAD
unfolding bad_frame_length
returns-then-frame-lt-HEAD c = rw (lt-ltb (length c.args.frame.now) 5 c.if-frame-lt-HEAD.true)

pub returns-else-frame-lt-HEAD : goal.returns-else-frame-lt-HEAD
unfolding bad_frame_length
returns-else-frame-lt-HEAD c = rw (c.from.ensures, c.get16.ensures, le-ltb (length c.args.frame.now) 5 c.if-frame-lt-HEAD.false, size_field c.args.frame.now)
