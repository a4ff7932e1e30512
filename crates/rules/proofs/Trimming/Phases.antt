-- A line and the same with more trimmed stay so when both change in the same way: a lane, a node, a Trim.
use Prim.Native.Nat.{ℕ, ◌<◌, ◌≤◌}
use mathlib.Core.Path.{◌≡◌, refl, sym, ap, subst, ◌∙◌}
use mathlib.Core.Logic.{◌≢◌, ◌⊎◌, inl, inr}
use mathlib.Core.List.{List, ◌++◌}
use native.Mathlib.Omega.{arith}
use native.Mathlib.Decide.{ℕ_discrete}
use lib.ListN.{length, length-map}
use Rattle.plan.specs.Plan.{channel_at, node_count, channel_count}
use Rattle.rules.specs.Line.{Entry, down, Node, Lane, Line, node_at, lane_at, parents, sender_of, receiver_of, with_node, with_lane}
use Rattle.rules.specs.Trim.{low_after}
use Rattle.rules.proofs.Lists.Members.{In}
use Rattle.rules.proofs.Line.LineLaws.{node_there, node_else, lane_there, lane_else}
use Rattle.rules.proofs.Invariant.Inv.{Leaves, Shape}
use Rattle.rules.proofs.Invariant.Stays.{moved}
use Rattle.rules.proofs.Invariant.Logs.{Grows, restored_grows}
use Rattle.rules.proofs.Trimming.Alike.{bare, thin, strip, same_plan, strip_node, strip_lane}
use Rattle.rules.proofs.Trimming.Restores.{Thinner}

-- The shape of the other line.
pub shape_alike : (k u : Line) → strip k ≡ strip u → Shape u → Shape k
shape_alike k u alike s =
    record {
      nodes_long = sym (length-map k.nodes bare) ∙ ap (λ (x : Line). length x.nodes) alike ∙ length-map u.nodes bare ∙ s.nodes_long ∙ ap node_count (sym (same_plan k u alike));
      lanes_long = sym (length-map k.lanes thin) ∙ ap (λ (x : Line). length x.lanes) alike ∙ length-map u.lanes thin ∙ s.lanes_long ∙ ap channel_count (sym (same_plan k u alike));
    }

-- What stays of both, with no more gone than before.
module _ (u : Line) (steps : List ℕ) (nodes : List Node) (lanes : List Lane) where
  abbrev v : Line
  v = moved u steps nodes lanes

  pub thinner_by : (k l : Line) (thinner : Thinner k u) (gone : ℕ → List Entry) → ((n : ℕ) (e : Entry) → In e (gone n) → In e (thinner.gone n)) → Grows u v → strip l ≡ strip v
      → ((n : ℕ) → (node_at v n).log ≡ gone n ++ (node_at l n).log)
      → ((b : ℕ) → b < channel_count u.plan → (lane_at l b).low ≡ low_after (parents u.plan (sender_of u b)) (sender_of u b) (gone (receiver_of u b)) (lane_at v b).low)
      → ((n : ℕ) (e : Entry) → In e (gone n) → (c : ℕ) → Leaves u.plan n c → (node_at v (channel_at u.plan c).receiver).status ≢ down → (((node_at u (channel_at u.plan c).receiver).status ≢ down) × ((lane_at u c).taken ≤ (lane_at v c).taken)) ⊎ (e.time ≤ (lane_at v c).taken))
      → Thinner l v
  thinner_by k l thinner gone fewer grows alike logs lows entries =
      record {
        alike = alike;
        gone = gone;
        logs = logs;
        lows = lows;
        reached = λ n e i c h d. elim (entries n e i c h d) [
          | inl (was, rose) ↦ (let old = thinner.reached n e (fewer n e i) c h was in omega (arith, old, rose))
          | inr now ↦ now
        ];
        restored_past = λ n m e i c h some unmarked.
            (let old = thinner.restored_past n (grows.marks n m) e (fewer n e i) c h some (λ d j. grows.marks (channel_at u.plan d).receiver (unmarked d j)) in
            omega (arith, old, restored_grows u steps nodes lanes (channel_at u.plan c).receiver n some (λ d j. grows.entries d j.0 (unmarked d j)) (λ d j. grows.lows d j.0 (unmarked d j)) (λ d j x z. grows.entered (channel_at u.plan d).receiver (unmarked d j) x z)));
        input_reached = λ n m e i s t q c h x. (let old = thinner.input_reached n (grows.marks n m) e (fewer n e i) s t q c h (grows.marks (channel_at u.plan c).receiver x) in omega (arith, old, grows.entries c h.0 x));
      }

module _ (k u : Line) (thinner : Thinner k u) (shape : Shape u) where
  abbrev shape_too : Shape k
  shape_too = shape_alike k u thinner.alike shape

  -- A lane.
  pub thinner_lane : (b : ℕ) (x y : Lane) → b < channel_count u.plan → thin x ≡ thin y → x.low ≡ (lane_at k b).low → y.low ≡ (lane_at u b).low → (lane_at u b).taken ≤ y.taken → Thinner (with_lane b x k) (with_lane b y u)
  unfolding with_lane
  thinner_lane b x y inside same lowx lowy rose =
      thinner_by u u.steps u.nodes (with_lane b y u).lanes k (with_lane b x k) thinner thinner.gone (λ n e i. i)
      (record { marks = λ m e. e; entries = λ c h e. higher c; lows = λ c h e. low_there u y c lowy (rw shape.lanes_long inside); entered = λ m e d i. i })
      (strip_lane b x k ∙ (λ i. with_lane b (same i) (thinner.alike i)) ∙ sym (strip_lane b y u)) thinner.logs
      (λ c h. low_there k x c lowx (rw (shape_too.lanes_long, same_plan k u thinner.alike) inside) ∙ thinner.lows c h ∙ ap (low_after (parents u.plan (sender_of u c)) (sender_of u c) (thinner.gone (receiver_of u c))) (sym (low_there u y c lowy (rw shape.lanes_long inside))))
      (λ n e i c h d. inl (d, higher c))
    where
      low_there : (l : Line) (z : Lane) (c : ℕ) → z.low ≡ (lane_at l b).low → b < length l.lanes → (lane_at (with_lane b z l) c).low ≡ (lane_at l c).low
      low_there l z c q h =
          elim (ℕ_discrete c b) [
            | yes e ↦ ap (λ (i : ℕ). (lane_at (with_lane b z l) i).low) e ∙ ap (λ (s : Lane). s.low) (lane_there b z l h) ∙ q ∙ ap (λ (i : ℕ). (lane_at l i).low) (sym e)
            | no d ↦ ap (λ (s : Lane). s.low) (lane_else b z l c d)
          ]

      higher : (c : ℕ) → (lane_at u c).taken ≤ (lane_at (with_lane b y u) c).taken
      higher c =
          elim (ℕ_discrete c b) [
            | yes e ↦ subst (λ (i : ℕ). (lane_at u i).taken ≤ (lane_at (with_lane b y u) i).taken) (sym e) (omega (arith, rose, ap (λ (s : Lane). s.taken) (lane_there b y u (rw shape.lanes_long inside))))
            | no d ↦ omega (arith, ap (λ (s : Lane). s.taken) (lane_else b y u c d))
          ]

  -- A node whose log grows, or that had none.
  pub thinner_node : (n : ℕ) (x y : Node) → n < node_count u.plan → bare x ≡ bare y → y.log ≡ thinner.gone n ++ x.log → y.crashed ≡ (node_at u n).crashed → (y.status ≢ down → (node_at u n).status ≢ down) → ((d : Entry) → In d (node_at u n).log → In d y.log)
      → Thinner (with_node n x k) (with_node n y u)
  unfolding with_node
  thinner_node n x y inside same log mark status entered =
      thinner_by u u.steps (with_node n y u).nodes u.lanes k (with_node n x k) thinner thinner.gone (λ m e i. i)
      (record {
        marks = λ m e. elim (ℕ_discrete m n) [ yes q ↦ ap (λ (i : ℕ). (node_at u i).crashed) q ∙ sym mark ∙ sym (now u y m q (rw shape.nodes_long inside) (λ (z : Node). z.crashed)) ∙ e | no d ↦ ap (λ (z : Node). z.crashed) (sym (node_else n y u m d)) ∙ e ];
        entries = λ c h e. omega arith;
        lows = λ c h e. refl;
        entered = λ m e d i. elim (ℕ_discrete m n) [
          | yes q ↦ subst (λ (z : List Entry). In d z) (sym (now u y m q (rw shape.nodes_long inside) (λ (z : Node). z.log))) (entered d (subst (λ (j : ℕ). In d (node_at u j).log) q i))
          | no c ↦ subst (λ (z : Node). In d z.log) (sym (node_else n y u m c)) i
        ];
      })
      (strip_node n x k ∙ (λ i. with_node n (same i) (thinner.alike i)) ∙ sym (strip_node n y u))
      (λ m. elim (ℕ_discrete m n) [
        | yes q ↦ now u y m q (rw shape.nodes_long inside) (λ (z : Node). z.log) ∙ log ∙ ap (λ (z : List Entry). thinner.gone n ++ z) (sym (now k x m q (rw (shape_too.nodes_long, same_plan k u thinner.alike) inside) (λ (z : Node). z.log))) ∙ ap (λ (j : ℕ). thinner.gone j ++ (node_at (with_node n x k) m).log) (sym q)
        | no d ↦ ap (λ (z : Node). z.log) (node_else n y u m d) ∙ thinner.logs m ∙ ap (λ (z : Node). thinner.gone m ++ z.log) (sym (node_else n x k m d))
      ])
      thinner.lows
      (λ m e i c h d. inl (stay (channel_at u.plan c).receiver d, omega arith))
    where
      now : (l : Line) (z : Node) (m : ℕ) → m ≡ n → n < length l.nodes → {A : Type 0} (f : Node → A) → f (node_at (with_node n z l) m) ≡ f z
      now l z m q h f = ap (λ (j : ℕ). f (node_at (with_node n z l) j)) q ∙ ap f (node_there n z l h)

      stay : (m : ℕ) → (node_at (with_node n y u) m).status ≢ down → (node_at u m).status ≢ down
      stay m d =
          elim (ℕ_discrete m n) [
            | yes q ↦ λ z. status (λ w. d (now u y m q (rw shape.nodes_long inside) (λ (x : Node). x.status) ∙ w)) (ap (λ (j : ℕ). (node_at u j).status) (sym q) ∙ z)
            | no c ↦ λ z. d (ap (λ (x : Node). x.status) (node_else n y u m c) ∙ z)
          ]
