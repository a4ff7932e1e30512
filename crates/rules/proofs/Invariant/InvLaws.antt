-- What follows from the invariant at once: who is up, and where a node's events came from.
use Prim.Native.Nat.{ℕ, ◌<◌}
use mathlib.Core.Path.{◌≡◌, refl, sym, ap, ◌∙◌}
use mathlib.Core.Logic.{◌≢◌}
use mathlib.Core.Bool.{Bool, true, false, true≢false}
use mathlib.Core.List.{List, ◌∷◌, map, []}
use native.Mathlib.Omega.{arith}
use native.Mathlib.Decide.{dec_le, dec_lt}
use lib.ListN.{get_or-eq_default}
use Rattle.plan.specs.Rule.{applied}
use Rattle.plan.specs.Plan.{Plan, rule_at, channel_at, node_count, is_source}
use Rattle.rules.specs.Lists.{greatest_of}
use Rattle.rules.specs.Line.{Message, up, down, replay, Node, Line, fresh_node, node_at, lane_at}
use Rattle.rules.specs.Plain.{Act, Receipt}
use Rattle.rules.proofs.Lists.Members.{In, here, there}
use Rattle.rules.proofs.Histories.Witness.{Taken, more}
use Rattle.rules.proofs.Histories.Ghost.{Event, took_at, Ghost, input_of, got, fed_at}
use Rattle.rules.proofs.Histories.Passing.{goes_on}
use Rattle.rules.proofs.Line.Joins.{takes_passed}
use Rattle.rules.proofs.Invariant.Inv.{time_of, is_up, Enters, Reached, Shape, Marks, Nodes, HeardFrom, heard_on, Ends, Replays}

pub up_not_replay : up ≡ replay → ⊥
up_not_replay e = let z : ◌≡◌ {A = ℕ} 0 1 = cc in omega arith

pub up_not_down : up ≡ down → ⊥
up_not_down e = let z : ◌≡◌ {A = ℕ} 0 1 = cc in omega arith

pub replay_not_down : replay ≡ down → ⊥
replay_not_down e = let z : ◌≡◌ {A = ℕ} 0 1 = cc in omega arith

-- A node that is not up is one of the plan's.
pub not_up_inside : {l : Line} → Shape l → (n : ℕ) → (node_at l n).status ≢ up → n < node_count l.plan
not_up_inside {l} shape n d = elim (dec_lt n (node_count l.plan)) [
  | yes h ↦ h
  | no h ↦ absurd (d (ap (λ (x : Node). x.status) (get_or-eq_default l.nodes fresh_node (omega (arith, shape.nodes_long)))))
]

-- A mark is there or not.
pub if_marked : {A : Type 0} (b : Bool) → (b ≡ true → A) → (b ≡ false → A) → A
if_marked true f g = f refl
if_marked false f g = g refl

-- What a node took came by a channel that enters it.
pub took_enters : {p : Plan} {n : ℕ} (es : List Event) (b : ℕ) (m : Message) (t : ℕ) → Taken p n (map input_of es) → In (took_at b m t) es → Enters p n b
took_enters (fed_at _ _ ∷ es) b m t i _ = elim i [ ]
took_enters [] b m t _ i = elim i [ ]
took_enters (took_at c x u ∷ es) b m t (more h q s r) here = (h, q)
took_enters (took_at c x u ∷ es) b m t (more h q s r) (there i) = took_enters es b m t r i

-- The ends of a channel whose sender is up.
pub ends_up : {l : Line} {g : Ghost} {b : ℕ} → is_up l (channel_at l.plan b).sender → ((node_at l (channel_at l.plan b).receiver).crashed ≡ false → (lane_at l b).taken ≡ greatest_of (map time_of (got l.plan g b)))
    → ((node_at l (channel_at l.plan b).receiver).crashed ≡ false → (a : ℕ) → HeardFrom a (heard_on l b a) (got l.plan g b)) → Ends l g b
ends_up alive exact through = record { exact = exact; through = through; stopped = λ d. absurd (d alive); waiting = λ e. absurd (up_not_replay (sym alive ∙ e)) }

-- What has reached a child goes on.
pub reached_goes : {l : Line} {n : ℕ} {m : Message} {t : ℕ} → Reached l n m t → goes_on l.plan n m ≡ true
reached_goes {l} {n} {m} r = takes_passed l.plan n (applied (rule_at l.plan n) m.what) r.channel r.on_plan r.leaves r.takes_it

-- What a replaying node passed on of a message past the restored entry, it did past low; and the other way round.
module _ {l : Line} {g : Ghost} {cut base : ℕ → ℕ} {n : ℕ} (r : Replays l g cut base n) {b : ℕ} {m : Message} {t : ℕ} (i : In (took_at b m t) (g n)) (goes : goes_on l.plan n m ≡ true) where
  pub past_low : base b < m.time → (node_at l n).time < t
  past_low h = elim (dec_le t (node_at l n).time) [ yes z ↦ (let no : ⊥ = omega (arith, (r.base_cuts b m t i goes).1 z) in absurd no) | no z ↦ omega arith ]

  pub past_base : (node_at l n).time < t → base b < m.time
  past_base h = elim (dec_le m.time (base b)) [ yes z ↦ (let no : ⊥ = omega (arith, (r.base_cuts b m t i goes).0 z) in absurd no) | no z ↦ omega arith ]

module _ {l : Line} {crashes : List ℕ} (marks : Marks l crashes) (n : ℕ) where
  pub marked_unless_up : (node_at l n).status ≢ up → (node_at l n).crashed ≡ true
  marked_unless_up d = if_marked (node_at l n).crashed (λ e. e) (λ e. absurd (d (marks.stopped n e)))

  pub replay_marked : (node_at l n).status ≡ replay → (node_at l n).crashed ≡ true
  replay_marked e = marked_unless_up (λ z. up_not_replay (sym z ∙ e))

  pub source_up : is_source l.plan n ≡ true → is_up l n
  source_up e = marks.stopped n (if_marked (node_at l n).crashed (λ z. absurd (true≢false (sym e ∙ (marks.between n z).0))) (λ z. z))

-- A marked node's events were taken.
pub marked_took : {l : Line} {g : Ghost} {fed : List Act} {receipts : List Receipt} {crashes : List ℕ} → Marks l crashes → Nodes l g fed receipts → (n : ℕ) → (node_at l n).crashed ≡ true → Taken l.plan n (map input_of (g n))
marked_took marks nodes n e = (nodes.others n (marks.between n e).0).1
