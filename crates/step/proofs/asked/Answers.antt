use mathlib.Core.Path.{subst}
use Rattle.frame.specs.declared.Frame.{Frame}
use Rattle.frame.specs.Reading.{Asks}
use Rattle.step.proofs.StepLaws.{same_asked}
use Rattle.step.proofs.asked.Goals as goal

pub returns-in-Feed : goal.returns-in-Feed
returns-in-Feed c g asks =
    let (bytes, (is, what)) = subst (λ (f : Frame). Asks f g) c.in-Feed.is asks in
    same_asked is (c.feed.ensures bytes what)

pub returns-in-Send : goal.returns-in-Send
returns-in-Send c g asks = same_asked (subst (λ (f : Frame). Asks f g) c.in-Send.is asks) c.send.ensures

pub returns-in-Take : goal.returns-in-Take
returns-in-Take c g asks = same_asked (subst (λ (f : Frame). Asks f g) c.in-Take.is asks) c.take.ensures

pub returns-in-Crash : goal.returns-in-Crash
returns-in-Crash c g asks = same_asked (subst (λ (f : Frame). Asks f g) c.in-Crash.is asks) c.crash.ensures

pub returns-in-Recover : goal.returns-in-Recover
returns-in-Recover c g asks = same_asked (subst (λ (f : Frame). Asks f g) c.in-Recover.is asks) c.recover.ensures

pub returns-in-Trim : goal.returns-in-Trim
returns-in-Trim c g asks = same_asked (subst (λ (f : Frame). Asks f g) c.in-Trim.is asks) c.trim.ensures

pub returns-in-Ask : goal.returns-in-Ask
returns-in-Ask c g asks = same_asked (subst (λ (f : Frame). Asks f g) c.in-Ask.is asks) c.ask.ensures

pub returns-in-Commit : goal.returns-in-Commit
returns-in-Commit c g asks = same_asked (subst (λ (f : Frame). Asks f g) c.in-Commit.is asks) c.commit.ensures

pub feed-requires : goal.feed-requires
feed-requires c = c.requires

pub send-requires : goal.send-requires
send-requires c = c.requires

pub take-requires : goal.take-requires
take-requires c = c.requires

pub crash-requires : goal.crash-requires
crash-requires c = c.requires

pub recover-requires : goal.recover-requires
recover-requires c = c.requires

pub trim-requires : goal.trim-requires
trim-requires c = c.requires

pub ask-requires : goal.ask-requires
ask-requires c = c.requires

pub commit-requires : goal.commit-requires
commit-requires c = c.requires
