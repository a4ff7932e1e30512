use Prim.Native.Nat.{ℕ}
use mathlib.Core.Path.{◌≡◌, refl, sym, ap₂, ◌∙◌}
use mathlib.Core.Bool.{Bool, not, ◌&&◌}
use mathlib.Core.List.{List}
use borrow.Author.Tests.{le-leb, lt-leb}
use lib.Dec.{leb}
use lib.ListN.{get_or}
use Rattle.std.specs.Prelude.{Option, None, Some}
use Rattle.std.specs.Option.{is_some}
use Rattle.rules.specs.Lists.{is_empty}
use Rattle.rules.specs.Line.{held_limit}
use Rattle.slots.specs.declared.Waiting.{Waiting}
use Rattle.replay_items.specs.Items.{one_more}
use Rattle.replay.specs.declared.Arrival.{Arrival}
use Rattle.replay.proofs.AnswerLaws.{seen, entered, row_found, row_done, lacks_space}
use Rattle.replay.proofs.take_replaying.Goals as goal

-- Whether there is one more.
some_more : (last : Option Waiting) → not (is_empty (one_more last)) ≡ is_some last
some_more None = refl
some_more (Some h) = refl

pub returns-then-goal-taken_of : goal.returns-then-goal-taken_of
returns-then-goal-taken_of c =
    let a = c.args in
    let s : List ℕ = a.s.now in
    let goals : List ℕ = c.goals_of-goals.result in
    let row = row_found s a.b c.receiver_of-n.result c.sender_of-parent.result goals c.taken_of.result c.requires.0.holds.ready c.sender_of-parent.ensures c.goals_of-goals.ensures c.taken_of.ensures in
    row_done s a.b c.receiver_of-n.result c.requires c.receiver_of-n.ensures.0 (sym row ∙ le-leb (get_or goals c.sender_of-parent.result 0) c.taken_of.result c.if-goal-taken_of.true)

pub to_be_held-last-requires : goal.to_be_held-last-requires
to_be_held-last-requires c =
    entered c.args.s.now c.args.b c.receiver_of-n.result c.requires.0.holds c.requires.1 c.receiver_of-n.ensures

-- Whether there is one more, and no space for it.
lacking : (last : Option Waiting) {goes : Bool} {full count : ℕ} → goes ≡ is_some last → full ≡ count → (not (is_empty (one_more last)) && leb held_limit count) ≡ (goes && leb held_limit full)
lacking last e f = ap₂ (λ (t : Bool) (k : ℕ). t && leb held_limit k) (some_more last ∙ sym e) (sym f)

pub returns-then-is_some-full : goal.returns-then-is_some-full
returns-then-is_some-full c =
    let a = c.args in
    let s : List ℕ = a.s.now in
    let goals : List ℕ = c.goals_of-goals.result in
    let row = row_found s a.b c.receiver_of-n.result c.sender_of-parent.result goals c.taken_of.result c.requires.0.holds.ready c.sender_of-parent.ensures c.goals_of-goals.ensures c.taken_of.ensures in
    let arrival : Arrival = record { channel = a.b; node = c.receiver_of-n.result; message = c.first_of-m.result; last = c.to_be_held-last.result } in
    lacks_space (seen s arrival c.requires c.receiver_of-n.ensures c.first_of-m.ensures c.to_be_held-last.ensures)
    (sym row ∙ lt-leb (get_or goals c.sender_of-parent.result 0) c.taken_of.result c.if-goal-taken_of.false) (lacking c.to_be_held-last.result c.is_some.ensures c.held_count-full.ensures.0 ∙ c.if-is_some-full.true)

pub take_on-requires : goal.take_on-requires
take_on-requires c =
    let a = c.args in
    let s : List ℕ = a.s.now in
    let goals : List ℕ = c.goals_of-goals.result in
    let row = row_found s a.b c.receiver_of-n.result c.sender_of-parent.result goals c.taken_of.result c.requires.0.holds.ready c.sender_of-parent.ensures c.goals_of-goals.ensures c.taken_of.ensures in
    let arrival : Arrival = record { channel = a.b; node = c.receiver_of-n.result; message = c.first_of-m.result; last = c.to_be_held-last.result } in (
      record {
        seen = seen s arrival c.requires c.receiver_of-n.ensures c.first_of-m.ensures c.to_be_held-last.ensures;
        row = sym row ∙ lt-leb (get_or goals c.sender_of-parent.result 0) c.taken_of.result c.if-goal-taken_of.false;
        space = lacking c.to_be_held-last.result c.is_some.ensures c.held_count-full.ensures.0 ∙ c.if-is_some-full.false;
      },
      c.goals_of-goals.ensures,
    )
