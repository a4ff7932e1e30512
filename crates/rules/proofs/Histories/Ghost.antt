-- The ghost history of an engine's line: each node's events, and for each channel what was put on it and what was got from it.
use Prim.Native.Nat.{ℕ}
use mathlib.Core.Path.{◌≡◌, refl, sym, ap, ◌∙◌}
use mathlib.Core.Logic.{◌≢◌}
use mathlib.Core.Bool.{Bool, true, false}
use mathlib.Core.List.{List, [], ◌∷◌, ◌++◌, map, map-map, append_assoc}
use Rattle.basics.specs.Update.{changed, changed_there, changed_else}
use lib.Dec.{eqb}
use Rattle.plan.specs.declared.Record.{Record}
use Rattle.plan.specs.Rule.{applied}
use Rattle.plan.specs.Channel.{takes}
use Rattle.plan.specs.Plan.{Plan, rule_at, channel_at}
use Rattle.plan.specs.Mask.{set_of}
use Rattle.rules.specs.Lists.{keep, keep_one}
use Rattle.rules.specs.Line.{Origin, fed, made, Message, Entry, Line, node_at}
use Rattle.rules.specs.Clock.{message_of}
use Rattle.rules.proofs.Lists.ListLaws.{keep_append, keep-map, map-append}
use Rattle.rules.proofs.Histories.PlainRun.{Input, fed_in, took_in, what_in, from_channel, History, ins, outs}

-- An event of a node: a record fed, or a message taken from a channel; and the node's own time for it.
pub data Event : Type 0 where
  fed_at : Record → ℕ → Event
  took_at : ℕ → Message → ℕ → Event

abbrev pub Ghost : Type 0
Ghost = ℕ → List Event

abbrev pub event_time : Event → ℕ
event_time (fed_at r t) = t
event_time (took_at b m t) = t

abbrev pub input_of : Event → Input
input_of (fed_at r t) = fed_in r
input_of (took_at b m t) = took_in b m.what

abbrev pub event_origin : Plan → Event → Origin
event_origin p (fed_at r t) = fed
event_origin p (took_at b m t) = made (channel_at p b).sender m.time

abbrev pub event_before : Event → Origin
event_before (fed_at r t) = fed
event_before (took_at b m t) = m.origin

-- What the node makes of an event: its log entry, and the message that goes on.
abbrev pub entry_of : Plan → ℕ → Event → Entry
entry_of p n e = record { what = applied (rule_at p n) (what_in (input_of e)); time = event_time e; origin = event_origin p e; before = event_before e; set = set_of p n (applied (rule_at p n) (what_in (input_of e))) }

abbrev pub sent_of : Plan → ℕ → Event → Message
sent_of p n e = message_of (entry_of p n e)

abbrev pub takes_message : Plan → ℕ → Message → Bool
takes_message p b m = takes (channel_at p b) m.what

-- The messages put on channel b, by its sender's events.
unfoldable pub put : Plan → Ghost → ℕ → List Message
put p g b = keep (takes_message p b) (map (sent_of p (channel_at p b).sender) (g (channel_at p b).sender))

-- The messages got from channel b, by its receiver's events.
abbrev pub got_one : ℕ → Event → List Message
got_one b (fed_at r t) = []
got_one b (took_at c m t) = keep_one (eqb c b) m []

abbrev pub got_of : ℕ → List Event → List Message
got_of b [] = []
got_of b (e ∷ es) = got_one b e ++ got_of b es

unfoldable pub got : Plan → Ghost → ℕ → List Message
got p g b = got_of b (g (channel_at p b).receiver)

-- The messages in a log that channel b takes.
unfoldable pub log_put : Line → ℕ → List Message
log_put l b = keep (takes_message l.plan b) (map message_of (node_at l (channel_at l.plan b).sender).log)

-- A ghost seen as a history of the plain line.
abbrev pub history_of : Ghost → History
history_of g = λ n. map input_of (g n)

abbrev pub what_of : Message → Record
what_of m = m.what

-- What the plain line sees of a channel.
pub outs_put : (p : Plan) (g : Ghost) (b : ℕ) → outs p (history_of g) b ≡ map what_of (put p g b)
unfolding outs put
outs_put p g b =
    let n = (channel_at p b).sender in
    ap (keep (takes (channel_at p b))) (map-map (λ (i : Input). applied (rule_at p n) (what_in i)) input_of (g n) ∙ sym (map-map what_of (sent_of p n) (g n)))
    ∙ keep-map what_of (takes (channel_at p b)) (map (sent_of p n) (g n))

ins_got_of : (b : ℕ) (es : List Event) → map what_in (keep (from_channel b) (map input_of es)) ≡ map what_of (got_of b es)
ins_got_of b [] = refl
ins_got_of b (fed_at r t ∷ es) = ins_got_of b es
ins_got_of b (took_at c m t ∷ es) = one (eqb c b) (ins_got_of b es)
  where
    one : (x : Bool) → map what_in (keep (from_channel b) (map input_of es)) ≡ map what_of (got_of b es) → map what_in (keep_one x (took_in c m.what) (keep (from_channel b) (map input_of es))) ≡ map what_of (keep_one x m [] ++ got_of b es)
    one true e = ap (λ (ys : List Record). m.what ∷ ys) e
    one false e = e

pub ins_got : (p : Plan) (g : Ghost) (b : ℕ) → ins p (history_of g) b ≡ map what_of (got p g b)
unfolding ins got
ins_got p g b = ins_got_of b (g (channel_at p b).receiver)

pub got_append : (b : ℕ) (es fs : List Event) → got_of b (es ++ fs) ≡ got_of b es ++ got_of b fs
got_append b [] fs = refl
got_append b (e ∷ es) fs = ap (λ (x : List Message). got_one b e ++ x) (got_append b es fs) ∙ sym (append_assoc (got_one b e) (got_of b es) (got_of b fs))

-- A channel whose sender's events are as they were, or its receiver's.
pub put_same : (p : Plan) (g g' : Ghost) (b : ℕ) → g' (channel_at p b).sender ≡ g (channel_at p b).sender → put p g' b ≡ put p g b
unfolding put
put_same p g g' b e = ap (λ (es : List Event). keep (takes_message p b) (map (sent_of p (channel_at p b).sender) es)) e

pub got_same : (p : Plan) (g g' : Ghost) (b : ℕ) → g' (channel_at p b).receiver ≡ g (channel_at p b).receiver → got p g' b ≡ got p g b
unfolding got
got_same p g g' b e = ap (got_of b) e

-- One more event at node n.
abbrev pub later : Ghost → ℕ → Event → Ghost
later g n e = changed g n (g n ++ e ∷ [])

pub later_there : (g : Ghost) (n m : ℕ) (e : Event) → m ≡ n → later g n e m ≡ g m ++ e ∷ []
later_there g n m e q = changed_there g n (g n ++ e ∷ []) m q ∙ ap (λ (k : ℕ). g k ++ e ∷ []) (sym q)

pub later_else : (g : Ghost) (n m : ℕ) (e : Event) → m ≢ n → later g n e m ≡ g m
later_else g n m e d = changed_else g n (g n ++ e ∷ []) m d

module _ (p : Plan) (g : Ghost) (n b : ℕ) (e : Event) where
  pub put_there : (channel_at p b).sender ≡ n → put p (later g n e) b ≡ put p g b ++ keep_one (takes_message p b (sent_of p n e)) (sent_of p n e) []
  unfolding put
  put_there q =
      let s = (channel_at p b).sender in
      ap (λ (es : List Event). keep (takes_message p b) (map (sent_of p s) es)) (later_there g n s e q)
      ∙ ap (keep (takes_message p b)) (map-append (sent_of p s) (g s) (e ∷ []))
      ∙ keep_append (takes_message p b) (map (sent_of p s) (g s)) (sent_of p s e ∷ [])
      ∙ ap (λ (k : ℕ). put p g b ++ keep_one (takes_message p b (sent_of p k e)) (sent_of p k e) []) q

  pub put_else : (channel_at p b).sender ≢ n → put p (later g n e) b ≡ put p g b
  put_else d = put_same p g (later g n e) b (later_else g n (channel_at p b).sender e d)

  pub got_there : (channel_at p b).receiver ≡ n → got p (later g n e) b ≡ got p g b ++ (got_one b e ++ [])
  unfolding got
  got_there q = ap (got_of b) (later_there g n (channel_at p b).receiver e q) ∙ got_append b (g (channel_at p b).receiver) (e ∷ [])

  pub got_else : (channel_at p b).receiver ≢ n → got p (later g n e) b ≡ got p g b
  got_else d = got_same p g (later g n e) b (later_else g n (channel_at p b).receiver e d)
