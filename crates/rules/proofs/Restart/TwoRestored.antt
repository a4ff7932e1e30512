-- Two nodes that no channel joins, restored one after the other: the same line, whichever is first.
use Prim.Native.Nat.{ℕ, ◌<◌}
use mathlib.Core.Path.{◌≡◌, sym, ap, ◌∙◌}
use mathlib.Core.Logic.{◌≢◌}
use mathlib.Core.Bool.{true}
use mathlib.Core.List.{[]}
use mathlib.Core.Option.{none}
use native.Mathlib.Omega.{arith}
use lib.ListN.{length, set}
use lib.Seq.{set_comm, ext_get_or}
use Rattle.plan.specs.Plan.{channel_at, channel_count}
use Rattle.rules.specs.Line.{Node, Lane, Line, node_at, lane_at, no_lane, fresh_lane, with_node}
use Rattle.rules.specs.Recover.{triples, low_of, restored, targets_of, recovered, status_of}
use Rattle.rules.proofs.Invariant.Inv.{Ordered, Shape, Enters, Leaves}
use Rattle.rules.proofs.Invariant.MarkedLaws.{at-ends}
use Rattle.rules.proofs.Invariant.Stays.{moved}
use Rattle.rules.proofs.Undamaged.Standing.{stuck}
use Rattle.rules.proofs.Undamaged.SoundStays.{low_kept, targets_kept, restored_kept, stuck_kept}
use Rattle.rules.proofs.Undamaged.Restored.{restored_node, restored_line, recovered_is, restored_else, restored_shape, restored_enters, restored_leaves, restored-beside}

-- Channels that leave one node do not enter another.
abbrev pub Past : Line → ℕ → ℕ → Type 0
Past l m n = (c : ℕ) → Leaves l.plan m c → (channel_at l.plan c).receiver ≢ n

module _ (l : Line) (ordered : Ordered l.plan) (shape : Shape l) (m n : ℕ) (two : m ≢ n) (past-other : Past l n m) where
  shape_now : Shape (restored_line l m)
  shape_now = restored_shape l m ordered shape

  -- What Recover finds of n once m is restored: its children have the same of it.
  lane_same : (c : ℕ) → Leaves l.plan n c → lane_at (restored_line l m) c ≡ lane_at l c
  lane_same c j = restored-beside l m ordered shape c (past-other c j) (λ q. two (sym q ∙ j.1))

  taken_same : (c : ℕ) → Leaves l.plan n c → (lane_at (restored_line l m) c).taken ≡ (lane_at l c).taken
  taken_same c j = ap (λ (s : Lane). s.taken) (lane_same c j)

  log_same : (c : ℕ) → Leaves l.plan n c → triples n (node_at (restored_line l m) (channel_at l.plan c).receiver).log ≡ triples n (node_at l (channel_at l.plan c).receiver).log
  log_same c j = ap (λ (x : Node). triples n x.log) (restored_else l m ordered shape (channel_at l.plan c).receiver (past-other c j))

  low_same : (c : ℕ) → Leaves l.plan n c → (lane_at (restored_line l m) c).low ≡ (lane_at l c).low
  low_same c j = ap (λ (s : Lane). s.low) (lane_same c j)

  low_now : low_of (restored_line l m) n ≡ low_of l n
  low_now = low_kept l l.steps (restored_line l m).nodes (restored_line l m).lanes (omega arith) n taken_same log_same low_same

  pub targets_now : targets_of (restored_line l m) n ≡ targets_of l n
  targets_now = targets_kept l l.steps (restored_line l m).nodes (restored_line l m).lanes (omega arith) n taken_same log_same low_same

  restored_now : (a : ℕ) → restored (restored_line l m) n a ≡ restored l n a
  restored_now = restored_kept l l.steps (restored_line l m).nodes (restored_line l m).lanes (omega arith) n taken_same log_same low_same

  pub stuck_now : stuck (restored_line l m) n ≡ stuck l n
  stuck_now = stuck_kept l l.steps (restored_line l m).nodes (restored_line l m).lanes (omega arith) n taken_same log_same low_same

  node_now : restored_node (restored_line l m) n ≡ restored_node l n
  node_now = λ i. record { status = status_of (targets_now i); crashed = true; time = low_now i; log = []; held = []; targets = targets_now i; asked = none }

  nodes_now : (with_node n (restored_node (restored_line l m) n) (restored_line l m)).nodes ≡ set (set l.nodes m (restored_node l m)) n (restored_node l n)
  unfolding with_node
  nodes_now = ap (set (set l.nodes m (restored_node l m)) n) node_now

  -- A channel that enters or leaves n is, once both are restored, as n's restart alone leaves it; the others are as m's leaves them.
  enters_now : (c : ℕ) → Enters l.plan n c → lane_at (restored_line (restored_line l m) n) c ≡ lane_at (restored_line l n) c
  enters_now c h =
      restored_enters (restored_line l m) n ordered shape_now c h
      ∙ ap (fresh_lane l.plan (channel_at l.plan c)) (restored_now (channel_at l.plan c).sender)
      ∙ sym (restored_enters l n ordered shape c h)

  leaves_now : (c : ℕ) → Leaves l.plan n c → lane_at (restored_line (restored_line l m) n) c ≡ lane_at (restored_line l n) c
  leaves_now c h =
      restored_leaves (restored_line l m) n ordered shape_now c h
      ∙ ap (λ (s : Lane). record { mark = s.taken; taken = s.taken; heard = s.heard; queue = s.queue; low = s.low }) (lane_same c h)
      ∙ sym (restored_leaves l n ordered shape c h)

  else_now : (c : ℕ) → (channel_at l.plan c).receiver ≢ n → (channel_at l.plan c).sender ≢ n → lane_at (restored_line (restored_line l m) n) c ≡ lane_at (restored_line l m) c
  else_now = restored-beside (restored_line l m) n ordered shape_now

  long_now : length (restored_line (restored_line l m) n).lanes ≡ channel_count l.plan
  long_now = (restored_shape (restored_line l m) n ordered shape_now).lanes_long

  twice_is : recovered n (recovered m l) ≡ restored_line (restored_line l m) n
  twice_is = ap (recovered n) (recovered_is l m ordered shape) ∙ recovered_is (restored_line l m) n ordered shape_now

module _ (l : Line) (ordered : Ordered l.plan) (shape : Shape l) (m n : ℕ) (two : m ≢ n) (past-other : Past l n m) (past_one : Past l m n) where
  abbrev mn : Line
  mn = restored_line (restored_line l m) n

  abbrev nm : Line
  nm = restored_line (restored_line l n) m

  other_two : n ≢ m
  other_two q = two (sym q)

  -- No channel enters or leaves both.
  lane_both : (c : ℕ) → c < channel_count l.plan → lane_at mn c ≡ lane_at nm c
  lane_both c h =
      at-ends l.plan n c h
      (λ j. enters_now l ordered shape m n two past-other c j ∙ sym (else_now l ordered shape n m other_two past_one c (λ q. two (sym q ∙ j.1)) (λ q. past_one c (h, q) j.1)))
      (λ j. leaves_now l ordered shape m n two past-other c j ∙ sym (else_now l ordered shape n m other_two past_one c (past-other c j) (λ q. two (sym q ∙ j.1))))
      (λ r s. else_now l ordered shape m n two past-other c r s
      ∙ at-ends l.plan m c h
      (λ j. sym (enters_now l ordered shape n m other_two past_one c j))
      (λ j. sym (leaves_now l ordered shape n m other_two past_one c j))
      (λ r' s'. restored-beside l m ordered shape c r' s' ∙ sym (else_now l ordered shape n m other_two past_one c r' s' ∙ restored-beside l n ordered shape c r s)))

  pub both_same : recovered n (recovered m l) ≡ recovered m (recovered n l)
  both_same =
      let nodes : mn.nodes ≡ nm.nodes =
      nodes_now l ordered shape m n two past-other ∙ set_comm l.nodes m n (restored_node l m) (restored_node l n) two ∙ sym (nodes_now l ordered shape n m other_two past_one) in
      let lanes : mn.lanes ≡ nm.lanes =
      ext_get_or no_lane mn.lanes nm.lanes (long_now l ordered shape m n two past-other ∙ sym (long_now l ordered shape n m other_two past_one))
      (λ c h. lane_both c (omega (arith, long_now l ordered shape m n two past-other))) in
      twice_is l ordered shape m n two past-other
      ∙ (λ i. moved l l.steps (nodes i) (lanes i))
      ∙ sym (twice_is l ordered shape n m other_two past_one)
