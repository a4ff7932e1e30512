-- The line that Recover restores, before its replay may end: node n, its channels, and whether its rows are complete.
use Prim.Native.Nat.{ℕ, ◌<◌}
use mathlib.Core.Path.{◌≡◌, refl, sym, ap, ◌∙◌}
use mathlib.Core.Logic.{◌≢◌}
use mathlib.Core.Bool.{Bool, true, false, not, ◌&&◌, ◌||◌, true≢false}
use mathlib.Core.List.{List, [], ◌∷◌}
use mathlib.Core.Option.{Option, none, some}
use lib.ListN.{length}
use lib.Dec.{leb}
use Rattle.plan.specs.Plan.{channel_at, node_count, entering}
use Rattle.rules.specs.Lists.{all_of, is_empty, joined}
use Rattle.rules.specs.Line.{Held, Target, up, Node, Lane, Line, node_at, lane_at, with_node, fresh_lane}
use Rattle.rules.specs.Recover.{low_of, high_of, targets_of, restored, conflict, recovered, status_of, row_goal, row_complete, rows_complete}
use Rattle.rules.specs.Replay.{held_by_row, is_held, items_by_row, placing, node_placed, replay_end, ended_if_complete}
use Rattle.rules.specs.Step.{is_nothing, recovered_line}
use Rattle.rules.proofs.Lists.Members.{In, here, there}
use Rattle.rules.proofs.Line.LineLaws.{node_there, node_else, nodes_long}
use Rattle.rules.proofs.Line.Joins.{entering_in}
use Rattle.rules.proofs.Invariant.Stays.{moved}
use Rattle.rules.proofs.Invariant.Swept.{swept_line, swept_long, swept_enters, swept_leaves, swept_else}
use Rattle.rules.proofs.Invariant.Inv.{Shape, Ordered, Enters, Leaves}
use Rattle.rules.proofs.Lists.Options.{some_same, none_some}
use Rattle.rules.proofs.Undamaged.Standing.{restored_complete, stuck}

pub all_same : {A : Type 0} (f g : A → Bool) (xs : List A) → ((x : A) → In x xs → f x ≡ g x) → all_of f xs ≡ all_of g xs
all_same f g [] h = refl
all_same f g (x ∷ xs) h = ap (λ (t : Bool). t && all_of f xs) (h x here) ∙ ap (λ (t : Bool). g x && t) (all_same f g xs (λ y i. h y (there i)))

module _ (l : Line) (n : ℕ) where
  abbrev pub restored_node : Node
  restored_node = record { status = status_of (targets_of l n); crashed = true; time = low_of l n; log = []; held = []; targets = targets_of l n; asked = none }

  abbrev left : ℕ → Lane → Lane
  left c s = record { mark = s.taken; taken = s.taken; heard = s.heard; queue = s.queue; low = s.low }

  abbrev entered : ℕ → Lane → Lane
  entered c s = fresh_lane l.plan (channel_at l.plan c) (restored l n (channel_at l.plan c).sender)

  abbrev pub restored_line : Line
  restored_line = moved l l.steps (with_node n restored_node l).nodes (recovered n l).lanes

module _ (l : Line) (n : ℕ) (ordered : Ordered l.plan) (shape : Shape l) where
  pub recovered_is : recovered n l ≡ restored_line l n
  unfolding with_node recovered
  recovered_is = swept_line (entered l n) (left l n) (with_node n (restored_node l n) l) n ordered shape.lanes_long

  pub restored-node : n < node_count l.plan → node_at (restored_line l n) n ≡ restored_node l n
  unfolding with_node
  restored-node inside = node_there n (restored_node l n) l (rw shape.nodes_long inside)

  pub restored_else : (m : ℕ) → m ≢ n → node_at (restored_line l n) m ≡ node_at l m
  unfolding with_node
  restored_else m d = node_else n (restored_node l n) l m d

  pub restored_shape : Shape (restored_line l n)
  unfolding with_node recovered
  restored_shape = record {
    nodes_long = nodes_long n (restored_node l n) l ∙ shape.nodes_long;
    lanes_long = swept_long (entered l n) (left l n) (with_node n (restored_node l n) l) n ordered shape.lanes_long ∙ shape.lanes_long;
  }

  pub restored_enters : (c : ℕ) → Enters l.plan n c → lane_at (restored_line l n) c ≡ fresh_lane l.plan (channel_at l.plan c) (restored l n (channel_at l.plan c).sender)
  unfolding with_node recovered
  restored_enters = swept_enters (entered l n) (left l n) (with_node n (restored_node l n) l) n ordered shape.lanes_long

  pub restored_leaves : (c : ℕ) → Leaves l.plan n c → lane_at (restored_line l n) c ≡ record { mark = (lane_at l c).taken; taken = (lane_at l c).taken; heard = (lane_at l c).heard; queue = (lane_at l c).queue; low = (lane_at l c).low }
  unfolding with_node recovered
  restored_leaves = swept_leaves (entered l n) (left l n) (with_node n (restored_node l n) l) n ordered shape.lanes_long

  pub restored-beside : (c : ℕ) → (channel_at l.plan c).receiver ≢ n → (channel_at l.plan c).sender ≢ n → lane_at (restored_line l n) c ≡ lane_at l c
  unfolding with_node recovered
  restored-beside = swept_else (entered l n) (left l n) (with_node n (restored_node l n) l) n ordered shape.lanes_long

  pub restored_complete_lem : n < node_count l.plan → rows_complete (recovered n l) n ≡ restored_complete l n
  unfolding rows_complete row_complete fresh_lane
  restored_complete_lem inside =
      ap (λ (k : Line). rows_complete k n) recovered_is
      ∙ all_same (row_complete (restored_line l n) n) (λ (c : ℕ). leb (row_goal (targets_of l n) (channel_at l.plan c).sender) (restored l n (channel_at l.plan c).sender)) (entering l.plan n)
      (λ c i. ap (λ (x : Node). leb (row_goal x.targets (channel_at l.plan c).sender) (lane_at (restored_line l n) c).taken) (restored-node inside)
      ∙ ap (λ (s : Lane). leb (row_goal (targets_of l n) (channel_at l.plan c).sender) s.taken) (restored_enters c (entering_in l.plan n c i)))

-- A replay that has ended leaves its node up.
module _ (l : Line) (n : ℕ) (inside : n < length l.nodes) where
  abbrev rows : List (List Held)
  rows = held_by_row (node_at l n).held l (entering l.plan n)

  placed_up : (columns : List ℕ) → (node_at (with_node n (node_placed l n (joined rows) columns) l) n).status ≡ up
  unfolding node_placed
  placed_up columns = ap (λ (x : Node). x.status) (node_there n (node_placed l n (joined rows) columns) l inside)

  pub ended_up : (k : Line) → replay_end n l ≡ some k → (node_at k n).status ≡ up
  unfolding replay_end
  ended_up k = go (all_of (is_held (node_at l n).held) (node_at l n).targets) (placing (node_at l n).time (high_of l n) (items_by_row l n 0 rows))
    where
      go : (held : Bool) (chosen : Option (List ℕ)) → (elim held [ false ↦ none | true ↦ elim chosen [ none ↦ none | some columns ↦ some (with_node n (node_placed l n (joined rows) columns) l) ] ]) ≡ some k → (node_at k n).status ≡ up
      go false chosen e = none_some e
      go true none e = none_some e
      go true (some columns) e = ap (λ (x : Line). (node_at x n).status) (sym (some_same e)) ∙ placed_up columns

-- A line, or nothing where a test says so.
abbrev pub unless : Bool → Line → Option Line
unless true l = none
unless false l = some l

module _ (l : Line) (ordered : Ordered l.plan) (shape : Shape l) (n : ℕ) (inside : n < node_count l.plan) where
  node_is : node_at (recovered n l) n ≡ restored_node l n
  node_is = ap (λ (x : Line). node_at x n) (recovered_is l n ordered shape) ∙ restored-node l n ordered shape inside

  end_none : is_empty (targets_of l n) ≡ false → replay_end n (recovered n l) ≡ none
  unfolding replay_end
  end_none e = rw (not_held, replay_end)
    where
      none-held : (ts : List Target) → is_empty ts ≡ false → all_of (is_held []) ts ≡ false
      none-held [] q = absurd (true≢false q)
      none-held (t ∷ ts) q = refl

      not_held : all_of (is_held (node_at (recovered n l) n).held) (node_at (recovered n l) n).targets ≡ false
      not_held = ap (λ (x : Node). all_of (is_held x.held) x.targets) node_is ∙ none-held (targets_of l n) e

  pub recovers_by : recovered_line n l ≡ unless (stuck l n) (recovered n l)
  unfolding recovered_line ended_if_complete stuck
  recovers_by = go (conflict (targets_of l n)) (is_empty (targets_of l n)) refl (rows_complete (recovered n l) n) (restored_complete_lem l n ordered shape inside)
    where
      ends : Bool → Option Line
      ends t = elim t [ true ↦ replay_end n (recovered n l) | false ↦ some (recovered n l) ]

      tried : Bool → Bool → Bool → Option Line
      tried clash empty t = elim clash [ true ↦ none | false ↦ elim empty [ true ↦ some (recovered n l) | false ↦ ends t ] ]

      ended : is_empty (targets_of l n) ≡ false → (t : Bool) → ends t ≡ unless t (recovered n l)
      ended e true = end_none e
      ended e false = refl

      go : (clash empty : Bool) → is_empty (targets_of l n) ≡ empty → (t : Bool) → t ≡ restored_complete l n → tried clash empty t ≡ unless (clash || (not empty && restored_complete l n)) (recovered n l)
      go true empty e t q = refl
      go false true e t q = refl
      go false false e t q = ended e t ∙ ap (λ (x : Bool). unless x (recovered n l)) q

pub nothing_unless : (t : Bool) (l : Line) → is_nothing (unless t l) ≡ t
nothing_unless true l = refl
nothing_unless false l = refl

unless_some : (t : Bool) (l : Line) {k : Line} → unless t l ≡ some k → (t ≡ false) × (unless t l ≡ some l)
unless_some true l e = none_some e
unless_some false l e = (refl, refl)

-- An accepted Recover is not stuck, and leads to the restored line.
pub recovers_to : (l : Line) → Ordered l.plan → Shape l → (n : ℕ) → n < node_count l.plan → {k : Line} → recovered_line n l ≡ some k → (stuck l n ≡ false) × (recovered_line n l ≡ some (recovered n l))
recovers_to l ordered shape n inside e =
    let by = recovers_by l ordered shape n inside in
    let (goes, is) = unless_some (stuck l n) (recovered n l) (sym by ∙ e) in
    (goes, by ∙ is)
