-- Logging and clocks (document 01, "Clocks and steps").
use Rattle.std.specs.Prelude.{ℕ, max, true, false, cond, ◌&&◌, List, [], ◌∷◌, ◌++◌, ltb, eqb}
use Rattle.std.proofs.Math.Option.{Option, none, some}
use Rattle.plan.specs.declared.Record.{Record}
use Rattle.plan.specs.declared.Channel.{Channel}
use Rattle.plan.specs.Channel.{takes}
use Rattle.rules.specs.Line.{Origin, fed, made, Message, Entry, Node, Lane}

-- A message is logged at a time, which is then the node's (2026-08: its next one, or its present one), with the set of channels that take it, written "when the entry is made" (2026-06).
unfoldable pub logged : ℕ → ℕ → Record → Origin → Origin → Node → Node
logged t set what origin before x =
    record {
      status = x.status;
      crashed = x.crashed;
      time = t;
      log = x.log ++ record { what = what; time = t; origin = origin; before = before; set = set } ∷ [];
      held = x.held;
      targets = x.targets;
      asked = x.asked;
    }

-- A log entry as a message.
abbrev pub message_of : Entry → Message
message_of e = record { what = e.what; time = e.time; origin = e.origin }

-- "the first logged message later than the belt's mark that the belt takes"
abbrev pub next_to_send : Channel → ℕ → List Entry → Option Entry
next_to_send c mark [] = none
next_to_send c mark (e ∷ log) = elim (ltb mark e.time && takes c e.what) [ true ↦ some e | false ↦ next_to_send c mark log ]

-- A message goes on the channel, and "the mark becomes its time".
unfoldable pub sent_on : Entry → Lane → Lane
sent_on e s = record { mark = e.time; taken = s.taken; heard = s.heard; queue = s.queue ++ message_of e ∷ []; low = s.low }

-- The entries for the sender's parents, raised by what a message was made from.
abbrev pub raise_heard : List ℕ → List ℕ → Origin → List ℕ
raise_heard ps [] o = []
raise_heard [] (h ∷ hs) o = h ∷ hs
raise_heard (p ∷ ps) (h ∷ hs) fed = h ∷ hs
raise_heard (p ∷ ps) (h ∷ hs) (made s t) = cond (eqb p s) (max h t) h ∷ raise_heard ps hs (made s t)

-- "the receiver removes the belt's first message, raises its clock by it": for the sender its time, for the sender's parents what the message was made from. The rest of the queue stays.
unfoldable pub taken_from : List ℕ → Message → List Message → Lane → Lane
taken_from senderParents m rest s = record { mark = s.mark; taken = max s.taken m.time; heard = raise_heard senderParents s.heard m.origin; queue = rest; low = s.low }

-- The entry for a parent of the sender, among those heard: 0 for a node that is none.
abbrev pub entry_for : ℕ → List ℕ → List ℕ → ℕ
entry_for a [] hs = 0
entry_for a (p ∷ ps) [] = 0
entry_for a (p ∷ ps) (h ∷ hs) = cond (eqb p a) h (entry_for a ps hs)
