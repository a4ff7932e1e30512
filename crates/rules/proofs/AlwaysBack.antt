-- A crashed node can always come back: the statements of specs/Restart, for every accepted plan and every list of frames.
use Rattle.plan.specs.Plan.{plan_of}
use Rattle.rules.specs.Line.{initial_line}
use Rattle.rules.specs.Claim.{start_of, story_from}
use Rattle.rules.specs.Restart.{AlwaysBack}
use Rattle.rules.proofs.Restart.Known.{known_start, known_all}
use Rattle.rules.proofs.Restart.NeverUnplaced.{placed}
use Rattle.rules.proofs.Restart.Answers.{recovers, replays}
use Rattle.rules.proofs.Restart.Bring.{comes_back, few_steps}
use Rattle.rules.proofs.Restart.BringAsked.{comes_back_asked}

pub always_back : AlwaysBack
always_back plan frames bytes each z =
    let start = start_of (initial_line (plan_of plan)) in
    let l = (story_from start frames).line in
    let known = known_all frames start each (known_start plan bytes z) in
    record {
      placed = placed l known;
      few_steps = few_steps l known;
      asked = λ w listed. record {
        recovers = recovers l known w listed;
        replays = λ b again open_row queued. replays l known b again open_row queued w listed;
        comes_back = comes_back l known w listed;
        comes_back_asked = comes_back_asked l known w listed;
      };
    }
