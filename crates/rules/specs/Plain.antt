-- The plain line: unlimited queues, no clocks, no logs, no crashes (document 01, "The plain line"). It shares records, rules and channels with the engine's rules, and nothing else.
use Rattle.std.specs.Prelude.{ℕ, Bool, true, false, ◌&&◌, List, [], ◌∷◌, ◌++◌, map, get_or, set, eqb}
use Rattle.plan.specs.declared.Record.{Record}
use Rattle.plan.specs.declared.Channel.{Channel}
use Rattle.plan.specs.Rule.{applied}
use Rattle.plan.specs.Channel.{takes}
use Rattle.plan.specs.Plan.{Plan, rule_at, channel_at}
use Rattle.rules.specs.Lists.{keep}

-- "A run is any list of feeds and takes"
pub data Act : Type 0 where
  feeds : ℕ → Record → Act
  takes_from : ℕ → Act

-- A receipt: the receiver, the record, "with the belt's sender".
pub record Receipt : Type 0 where
  pub receiver : ℕ
  pub what : Record
  pub sender : ℕ

-- "Each belt is an unlimited queue, empty at first." What has been received stands beside, in order.
pub record PlainLine : Type 0 where
  pub queues : List (List Record)
  pub received : List Receipt

unfoldable pub plain_start : Plan → PlainLine
plain_start p = record { queues = map (λ (c : Channel). []) p.channels; received = [] }

abbrev pub join_if : Bool → Record → List Record → List Record
join_if true r q = q ++ r ∷ []
join_if false r q = q

-- "the record, after its node's rule, joins each leaving belt that takes it": r is the record after the rule.
abbrev pub join_each : ℕ → Record → List Channel → List (List Record) → List (List Record)
join_each n r [] qs = []
join_each n r (c ∷ cs) [] = []
join_each n r (c ∷ cs) (q ∷ qs) = join_if (eqb c.sender n && takes c r) r q ∷ join_each n r cs qs

unfoldable pub pass_on : Plan → ℕ → Record → List (List Record) → List (List Record)
unfolding takes
pass_on p n r qs = join_each n (applied (rule_at p n) r) p.channels qs

-- "a belt's first record leaves it; the receiver receives it with the belt's sender, then does as in Feed. A take on an empty belt does nothing."
abbrev pub take_first : Plan → ℕ → List Record → PlainLine → PlainLine
take_first p b [] l = l
take_first p b (r ∷ rest) l =
    record {
      queues = pass_on p (channel_at p b).receiver r (set l.queues b rest);
      received = l.received ++ record { receiver = (channel_at p b).receiver; what = r; sender = (channel_at p b).sender } ∷ [];
    }

unfoldable pub act : Plan → Act → PlainLine → PlainLine
unfolding pass_on
act p (feeds n r) l = record { queues = pass_on p n r l.queues; received = l.received }
act p (takes_from b) l = take_first p b (get_or l.queues b []) l

abbrev pub run_from : Plan → List Act → PlainLine → PlainLine
run_from p [] l = l
run_from p (a ∷ acts) l = run_from p acts (act p a l)

unfoldable pub plain_run : Plan → List Act → PlainLine
unfolding plain_start act
plain_run p acts = run_from p acts (plain_start p)

-- The feeds of a run, in order.
abbrev pub is_feed : Act → Bool
is_feed (feeds n r) = true
is_feed (takes_from b) = false

abbrev pub run_feeds : List Act → List Act
run_feeds acts = keep is_feed acts

-- "At rest every belt is empty."
abbrev pub at_rest : List (List Record) → Bool
at_rest [] = true
at_rest ([] ∷ qs) = at_rest qs
at_rest ((r ∷ rest) ∷ qs) = false
