-- What a step that is no Crash leaves standing: up nodes stay up, their times and entries do not fall and what their logs get that a channel takes is later; and what Recover will find of a node that is not up.
use Prim.Native.Nat.{ℕ, ◌<◌, ◌≤◌}
use mathlib.Core.Path.{◌≡◌, refl, sym, ap, subst, ◌∙◌}
use mathlib.Core.Logic.{◌≢◌, ◌⊎◌, inl}
use mathlib.Core.List.{List}
use mathlib.Core.Bool.{true}
use native.Mathlib.Omega.{arith}
use native.Mathlib.Decide.{ℕ_discrete}
use Rattle.plan.specs.Channel.{takes}
use Rattle.plan.specs.Plan.{Plan, channel_at, channel_count}
use Rattle.rules.specs.Line.{made, Entry, Target, up, down, replay, Node, Lane, Line, node_at, lane_at, parents}
use Rattle.rules.specs.Clock.{entry_for}
use Rattle.rules.proofs.Lists.Members.{In}
use Rattle.rules.proofs.Invariant.Inv.{is_up, Leaves}

-- A target of node n, by the entry of a child's log that names it.
abbrev pub NamedBy : Plan → Line → ℕ → Target → Type 0
NamedBy p l n u = (c : ℕ) × (e : Entry) × Leaves p n c × In e (node_at l (channel_at p c).receiver).log × (e.origin ≡ made n u.time) × (e.before ≡ made u.parent u.parent_time)

-- A node that replays did so before with the same targets, or was down, and its targets are what its children's logs name.
abbrev pub Replaying : Plan → Line → ℕ → List Target → Type 0
Replaying p l n targets = (((node_at l n).status ≡ replay) × (targets ≡ (node_at l n).targets)) ⊎ (((node_at l n).status ≡ down) × ((u : Target) → In u targets → NamedBy p l n u))

-- What the receiver's clock holds on a channel does not fall.
abbrev pub NotLower : Plan → ℕ → Lane → Lane → Type 0
NotLower p b s t = (s.taken ≤ t.taken) × ((a : ℕ) → entry_for a (parents p (channel_at p b).sender) s.heard ≤ entry_for a (parents p (channel_at p b).sender) t.heard)

pub same_lower : (p : Plan) (b : ℕ) (s t : Lane) → t ≡ s → NotLower p b s t
same_lower p b s t q = subst (NotLower p b s) (sym q) (omega arith, λ a. omega arith)

pub record Ahead (p : Plan) (l k : Line) : Type 0 where
  pub ups : (n : ℕ) → is_up l n → is_up k n
  pub times : (n : ℕ) → is_up l n → (node_at l n).time ≤ (node_at k n).time
  pub logs : (n : ℕ) → is_up l n → (e : Entry) → In e (node_at k n).log → (b : ℕ) → Leaves p n b → takes (channel_at p b) e.what ≡ true → In e (node_at l n).log ⊎ ((node_at l n).time < e.time)
  pub lanes : (b : ℕ) → b < channel_count p → is_up l (channel_at p b).receiver → NotLower p b (lane_at l b) (lane_at k b)
  pub downs : (n : ℕ) → (node_at k n).status ≡ down → (node_at l n).status ≡ down
  pub names : (n : ℕ) → (node_at k n).status ≡ down → (c : ℕ) → Leaves p n c → (e : Entry) → In e (node_at k (channel_at p c).receiver).log → (v : ℕ) → e.origin ≡ made n v → In e (node_at l (channel_at p c).receiver).log
  pub replays : (n : ℕ) → (node_at k n).status ≡ replay → Replaying p l n (node_at k n).targets

-- A step changes one node, which it does not leave down.
pub record Change (p : Plan) (l : Line) (n : ℕ) (x : Node) : Type 0 where
  pub ups : is_up l n → x.status ≡ up
  pub times : is_up l n → (node_at l n).time ≤ x.time
  pub logs : is_up l n → (e : Entry) → In e x.log → (b : ℕ) → Leaves p n b → takes (channel_at p b) e.what ≡ true → In e (node_at l n).log ⊎ ((node_at l n).time < e.time)
  pub not_down : x.status ≢ down
  pub names : (m c : ℕ) → (node_at l m).status ≡ down → Leaves p m c → (channel_at p c).receiver ≡ n → (e : Entry) → In e x.log → (v : ℕ) → e.origin ≡ made m v → In e (node_at l n).log
  pub replays : x.status ≡ replay → Replaying p l n x.targets

pub ahead : (p : Plan) (l k : Line) (n : ℕ) (x : Node) → node_at k n ≡ x → ((m : ℕ) → m ≢ n → node_at k m ≡ node_at l m) → ((b : ℕ) → b < channel_count p → is_up l (channel_at p b).receiver → NotLower p b (lane_at l b) (lane_at k b)) → Change p l n x → Ahead p l k
ahead p l k n x there other lanes change =
    let c : Change p l n (node_at k n) = subst (Change p l n) (sym there) change in
    record {
      ups = by (λ (m : ℕ). is_up l m → is_up k m) c.ups (λ m q h. ap (λ (x : Node). x.status) q ∙ h);
      times = by (λ (m : ℕ). is_up l m → (node_at l m).time ≤ (node_at k m).time) c.times (λ m q h. omega (arith, ap (λ (x : Node). x.time) q));
      logs = by (λ (m : ℕ). is_up l m → (e : Entry) → In e (node_at k m).log → (b : ℕ) → Leaves p m b → takes (channel_at p b) e.what ≡ true → In e (node_at l m).log ⊎ ((node_at l m).time < e.time)) c.logs (λ m q h e i b out t. inl (subst (λ (x : Node). In e x.log) q i));
      lanes = lanes;
      downs = downs c;
      names = λ m h b out e i v o.
          by (λ (d : ℕ). (channel_at p b).receiver ≡ d → In e (node_at k d).log → In e (node_at l d).log) (λ q j. c.names m b (downs c m h) out q e j v o) (λ d q _ j. subst (λ (x : Node). In e x.log) q j)
          (channel_at p b).receiver refl i;
      replays = by (λ (m : ℕ). (node_at k m).status ≡ replay → Replaying p l m (node_at k m).targets) c.replays (λ m q h. inl (sym (ap (λ (x : Node). x.status) q) ∙ h, ap (λ (x : Node). x.targets) q));
    }
  where
    by : (P : ℕ → Type 0) → P n → ((m : ℕ) → node_at k m ≡ node_at l m → P m) → (m : ℕ) → P m
    by P at else m = elim (ℕ_discrete m n) [ yes q ↦ subst P (sym q) at | no d ↦ else m (other m d) ]

    downs : Change p l n (node_at k n) → (m : ℕ) → (node_at k m).status ≡ down → (node_at l m).status ≡ down
    downs c = by (λ (m : ℕ). (node_at k m).status ≡ down → (node_at l m).status ≡ down) (λ h. absurd (c.not_down h)) (λ m q h. sym (ap (λ (x : Node). x.status) q) ∙ h)

-- Nothing moves.
pub stands : (p : Plan) (l : Line) → Ahead p l l
stands p l =
    record {
      ups = λ n h. h;
      times = λ n h. omega arith;
      logs = λ n h e i b out t. inl i;
      lanes = λ b h r. same_lower p b (lane_at l b) (lane_at l b) refl;
      downs = λ n h. h;
      names = λ n h c out e i v o. i;
      replays = λ n h. inl (h, refl);
    }
