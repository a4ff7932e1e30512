-- Lines that are alike but for their counts, their logs and their low clocks: what reads neither gives alike lines.
use Prim.Native.Nat.{ℕ, zero, suc}
use mathlib.Core.Path.{◌≡◌, refl, sym, ap, ◌∙◌}
use mathlib.Core.Bool.{Bool, true, false, cond}
use mathlib.Core.List.{List, [], ◌∷◌, ◌++◌, map}
use mathlib.Core.Option.{Option, none, some}
use lib.ListN.{get_or, set}
use lib.Dec.{leb, eqb}
use Rattle.plan.specs.declared.Record.{Record}
use Rattle.plan.specs.Plan.{channel_at, entering, leaving}
use Rattle.plan.specs.Mask.{taking, set_of}
use Rattle.rules.specs.Lists.{keep, all_of, joined, greatest_of}
use Rattle.rules.specs.Line.{Held, up, Node, Lane, Line, fresh_node, no_lane, node_at, lane_at, with_node, with_lane, with_lanes}
use Rattle.rules.specs.Recover.{child_times, high_of, row_goal, row_complete, rows_complete}
use Rattle.rules.specs.Replay.{fixed_at, floor_of, item_of, held_by_row, items_by_row, is_held, placed_log, placing, node_placed, replay_end}
use Rattle.rules.proofs.Lists.Members.{map_same}
use Rattle.rules.proofs.Lists.Options.{some_same, none_some}
use Rattle.rules.proofs.Undamaged.Restored.{all_same}

-- A node without its log, a lane without the low clock's part, and a line of such without counts.
abbrev pub bare : Node → Node
bare x = record { status = x.status; crashed = x.crashed; time = x.time; log = []; held = x.held; targets = x.targets; asked = x.asked }

abbrev pub thin : Lane → Lane
thin s = record { mark = s.mark; taken = s.taken; heard = s.heard; queue = s.queue; low = [] }

abbrev pub strip : Line → Line
strip l = record { plan = l.plan; steps = []; nodes = map bare l.nodes; lanes = map thin l.lanes }

pub map_get : {A B : Type 0} (f : A → B) (xs : List A) (i : ℕ) (d : A) → get_or (map f xs) i (f d) ≡ f (get_or xs i d)
map_get f [] i d = refl
map_get f (x ∷ xs) zero d = refl
map_get f (x ∷ xs) (suc i) d = map_get f xs i d

pub map-set : {A B : Type 0} (f : A → B) (xs : List A) (i : ℕ) (y : A) → map f (set xs i y) ≡ set (map f xs) i (f y)
map-set f [] i y = refl
map-set f (x ∷ xs) zero y = refl
map-set {A} {B} f (x ∷ xs) (suc i) y = ap (λ (ys : List B). f x ∷ ys) (map-set f xs i y)

pub node_strip : (l : Line) (n : ℕ) → node_at (strip l) n ≡ bare (node_at l n)
node_strip l n = map_get bare l.nodes n fresh_node

pub lane_strip : (l : Line) (b : ℕ) → lane_at (strip l) b ≡ thin (lane_at l b)
lane_strip l b = map_get thin l.lanes b no_lane

pub strip_node : (n : ℕ) (x : Node) (l : Line) → strip (with_node n x l) ≡ with_node n (bare x) (strip l)
unfolding with_node
strip_node n x l = ap (λ (ns : List Node). record { plan = l.plan; steps = []; nodes = ns; lanes = map thin l.lanes }) (map-set bare l.nodes n x)

pub strip_lane : (b : ℕ) (x : Lane) (l : Line) → strip (with_lane b x l) ≡ with_lane b (thin x) (strip l)
unfolding with_lane
strip_lane b x l = ap (λ (ls : List Lane). record { plan = l.plan; steps = []; nodes = map bare l.nodes; lanes = ls }) (map-set thin l.lanes b x)

-- The same change for each of some channels, of a line and of what is stripped.
pub strip_lanes : (f : ℕ → Lane → Lane) → ((b : ℕ) (s : Lane) → thin (f b s) ≡ thin (f b (thin s))) → (bs : List ℕ) (l : Line) → strip (with_lanes f bs l) ≡ with_lanes (λ (b : ℕ) (s : Lane). thin (f b s)) bs (strip l)
strip_lanes f same [] l = refl
strip_lanes f same (b ∷ bs) l =
    strip_lanes f same bs (with_lane b (f b (lane_at l b)) l)
    ∙ ap (with_lanes (λ (c : ℕ) (s : Lane). thin (f c s)) bs) (strip_lane b (f b (lane_at l b)) l ∙ ap (λ (s : Lane). with_lane b s (strip l)) (same b (lane_at l b) ∙ ap (λ (s : Lane). thin (f b s)) (sym (lane_strip l b))))

-- Two lines that are alike.
module _ (k u : Line) (alike : strip k ≡ strip u) where
  pub same_node : (n : ℕ) → bare (node_at k n) ≡ bare (node_at u n)
  same_node n = sym (node_strip k n) ∙ ap (λ (s : Line). node_at s n) alike ∙ node_strip u n

  pub same_lane : (b : ℕ) → thin (lane_at k b) ≡ thin (lane_at u b)
  same_lane b = sym (lane_strip k b) ∙ ap (λ (s : Line). lane_at s b) alike ∙ lane_strip u b

  pub same_plan : k.plan ≡ u.plan
  same_plan = ap (λ (s : Line). s.plan) alike

-- The end of a replay reads no log.
module _ (b : ℕ) (l : Line) where
  pub high_strip : high_of (strip l) b ≡ high_of l b
  unfolding high_of child_times
  high_strip = ap greatest_of (map_same (λ (c : ℕ). (lane_at (strip l) c).taken) (λ (c : ℕ). (lane_at l c).taken) (leaving l.plan b) (λ c i. ap (λ (s : Lane). s.taken) (lane_strip l c)))

  pub complete_strip : rows_complete (strip l) b ≡ rows_complete l b
  unfolding rows_complete row_complete
  complete_strip =
      all_same (row_complete (strip l) b) (row_complete l b) (entering l.plan b)
      (λ c i j. leb (row_goal (node_strip l b j).targets (channel_at l.plan c).sender) (lane_strip l c j).taken)

  floor_strip : (r : Record) → floor_of (strip l) b r ≡ floor_of l b r
  unfolding floor_of
  floor_strip r = ap greatest_of (map_same (λ (c : ℕ). (lane_at (strip l) c).taken) (λ (c : ℕ). (lane_at l c).taken) (taking l.plan b r) (λ c i. ap (λ (s : Lane). s.taken) (lane_strip l c)))

  items_strip : (row : ℕ) (rows : List (List Held)) → items_by_row (strip l) b row rows ≡ items_by_row l b row rows
  unfolding item_of
  items_strip row [] = refl
  items_strip row (hs ∷ rest) = λ j.
      map_same (item_of (strip l) b row) (item_of l b row) hs
      (λ h i j. (let f : ℕ = fixed_at (node_strip l b j).targets h in record { row = row; time = h.time; fixed = f; floor = cond (eqb f 0) (floor_strip h.what j) 0 })) j
      ++ items_strip (suc row) rest j

  rows_strip : (hs : List Held) (cs : List ℕ) → held_by_row hs (strip l) cs ≡ held_by_row hs l cs
  rows_strip hs [] = refl
  rows_strip hs (c ∷ cs) = λ j. keep (λ (h : Held). eqb h.sender (channel_at l.plan c).sender) hs ∷ rows_strip hs cs j

-- What the end of a replay goes by.
module _ (b : ℕ) where
  abbrev pub held_all : Line → Bool
  held_all l = all_of (is_held (node_at l b).held) (node_at l b).targets

  abbrev pub rows_of : Line → List (List Held)
  rows_of l = held_by_row (node_at l b).held l (entering l.plan b)

  abbrev pub chosen : Line → Option (List ℕ)
  chosen l = placing (node_at l b).time (high_of l b) (items_by_row l b 0 (held_by_row (node_at l b).held l (entering l.plan b)))

  abbrev pub placed_as : Line → List ℕ → Node
  placed_as l columns = node_placed l b (joined (held_by_row (node_at l b).held l (entering l.plan b))) columns

  rows_of_strip : (l : Line) → rows_of (strip l) ≡ rows_of l
  rows_of_strip l = ap (λ (x : Node). held_by_row x.held (strip l) (entering l.plan b)) (node_strip l b) ∙ rows_strip b l (node_at l b).held (entering l.plan b)

  items_of_strip : (l : Line) → items_by_row (strip l) b 0 (rows_of (strip l)) ≡ items_by_row l b 0 (rows_of l)
  items_of_strip l = ap (items_by_row (strip l) b 0) (rows_of_strip l) ∙ items_strip b l 0 (rows_of l)

  pub chosen_strip : (l : Line) → chosen (strip l) ≡ chosen l
  chosen_strip l j = placing (node_strip l b j).time (high_strip b l j) (items_of_strip l j)

  pub placed_strip : (l : Line) (columns : List ℕ) → placed_as (strip l) columns ≡ placed_as l columns
  unfolding node_placed
  placed_strip l columns j = record { status = up; crashed = (node_strip l b j).crashed; time = high_strip b l j; log = placed_log (set_of l.plan b) (joined (rows_of_strip l j)) columns; held = []; targets = []; asked = none }

  abbrev pub end_by : Line → Bool → Option (List ℕ) → Option Line
  end_by l all columns = elim all [ false ↦ none | true ↦ elim columns [ none ↦ none | some cs ↦ some (with_node b (placed_as l cs) l) ] ]

  -- Both replays end in the same way, the node with the same log.
  pub record EndAlike (k u k' u' : Line) : Type 0 where
    pub columns : List ℕ
    pub left : with_node b (placed_as k columns) k ≡ k'
    pub right : with_node b (placed_as u columns) u ≡ u'
    pub same : placed_as k columns ≡ placed_as u columns

  pub end_alike : (k u k' u' : Line) → strip k ≡ strip u → replay_end b k ≡ some k' → replay_end b u ≡ some u' → EndAlike k u k' u'
  unfolding replay_end
  end_alike k u k' u' alike ek eu =
      go (held_all u) (chosen u)
      (sym (λ i. end_by k (tests i) (choices i)) ∙ ek) eu
    where
      tests : held_all k ≡ held_all u
      tests = sym (λ i. all_of (is_held (node_strip k b i).held) (node_strip k b i).targets) ∙ ap held_all alike ∙ (λ i. all_of (is_held (node_strip u b i).held) (node_strip u b i).targets)

      choices : chosen k ≡ chosen u
      choices = sym (chosen_strip k) ∙ ap chosen alike ∙ chosen_strip u

      go : (all : Bool) (columns : Option (List ℕ)) → end_by k all columns ≡ some k' → end_by u all columns ≡ some u' → EndAlike k u k' u'
      go false columns x y = none_some x
      go true none x y = none_some x
      go true (some cs) x y = record { columns = cs; left = some_same x; right = some_same y; same = sym (placed_strip k cs) ∙ ap (λ (s : Line). placed_as s cs) alike ∙ placed_strip u cs }
