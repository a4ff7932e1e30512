-- A Trim in the line that is trimmed more, and one in the other, which drops no more than is gone already.
use Prim.Native.Nat.{ℕ, ◌<◌, ◌≤◌}
use mathlib.Core.Path.{◌≡◌, refl, sym, ap, subst, ◌∙◌}
use mathlib.Core.Logic.{◌≢◌, ◌⊎◌, inl, inr}
use mathlib.Core.Bool.{Bool, true, false, ◌&&◌}
use mathlib.Core.List.{List, [], ◌∷◌, ◌++◌, map, append_assoc, cons≢nil}
use native.Mathlib.Omega.{arith}
use native.Mathlib.Decide.{ℕ_discrete}
use lib.Seq.{set-get_or}
use lib.Dec.{leb}
use borrow.Author.Tests.{leb-true}
use Rattle.basics.specs.Bools.{both_true}
use Rattle.basics.specs.Update.{changed, changed_there, changed_else}
use Rattle.plan.specs.Plan.{channel_at, node_count, channel_count, entering, leaving}
use Rattle.rules.specs.Lists.{joined, least_of}
use Rattle.rules.specs.Line.{Origin, fed, made, Entry, up, Node, Lane, Line, no_lane, node_at, lane_at, parents, sender_of, receiver_of, with_node, with_lane, with_lanes}
use Rattle.rules.specs.Clock.{entry_for}
use Rattle.rules.specs.Recover.{restored}
use Rattle.rules.specs.Trim.{entries_for, floor_time, sender_below, droppable, leading, behind, low_by, low_after, low_raised, trimmed_line}
use Rattle.rules.specs.Plain.{Act, Receipt}
use Rattle.rules.proofs.Lists.Members.{In, map_same, in_right, append_in}
use Rattle.rules.proofs.Line.LineLaws.{node_same}
use Rattle.rules.proofs.Histories.Ghost.{Ghost}
use Rattle.rules.proofs.Invariant.Inv.{Enters, Shape, UnmarkedChildren, Inv}
use Rattle.rules.proofs.Invariant.Stays.{moved}
use Rattle.rules.proofs.Invariant.Trimmed.{leading-behind, leading_true, run, rest, lower, node_after, trimmed, trimmed_is, trimmed_node, trimmed_else, trimmed_enters, trimmed_beside}
use Rattle.rules.proofs.Steps.Floors.{floor_entry, restored_floor}
use Rattle.rules.proofs.Steps.TrimInv as TrimInv
use Rattle.rules.proofs.Trimming.Alike.{bare, thin, strip, node_strip, lane_strip, strip_node, strip_lanes, same_node, same_lane}
use Rattle.rules.proofs.Trimming.Restores.{Thinner}
use Rattle.rules.proofs.Trimming.Phases.{shape_alike}

-- A stripped line does not see a Trim.
strip_same : (lower : ℕ → Lane → Lane) → ((b : ℕ) (s : Lane) → thin (lower b s) ≡ thin s) → (bs : List ℕ) (l : Line) → with_lanes (λ (b : ℕ) (s : Lane). thin (lower b s)) bs (strip l) ≡ strip l
unfolding with_lane
strip_same lower same [] l = refl
strip_same lower same (b ∷ bs) l =
    ap (with_lanes (λ (c : ℕ) (s : Lane). thin (lower c s)) bs)
    (ap (λ (s : Lane). with_lane b s (strip l)) (same b (lane_at (strip l) b) ∙ ap thin (lane_strip l b) ∙ sym (lane_strip l b)) ∙ ap (λ (ls : List Lane). record { plan = l.plan; steps = []; nodes = map bare l.nodes; lanes = ls }) (set-get_or (map thin l.lanes) b no_lane))
    ∙ strip_same lower same bs l

pub strip_trimmed : (n : ℕ) (l : Line) → strip (trimmed_line n l) ≡ strip l
unfolding trimmed_line low_raised with_node
strip_trimmed n l =
    strip_lanes (lower l n) (λ b s. refl) (entering l.plan n) (with_node n (node_after l n) l) ∙ strip_same (lower l n) (λ b s. refl) (entering l.plan n) (with_node n (node_after l n) l)
    ∙ strip_node n (node_after l n) l ∙ ap (λ (x : Node). with_node n x (strip l)) (sym (node_strip l n)) ∙ node_same n (strip l)

-- Raised by one run and then by another.
after-append : (ps : List ℕ) (s : ℕ) (xs ys : List Entry) (low : List ℕ) → low_after ps s (xs ++ ys) low ≡ low_after ps s ys (low_after ps s xs low)
after-append ps s [] ys low = refl
after-append ps s (e ∷ xs) ys low = after-append ps s xs ys (low_by ps s e.origin e.before low)

module _ {A : Type 0} (f : A → Bool) where
  behind_stops : (xs : List A) → leading f xs ≡ [] → behind f xs ≡ xs
  behind_stops [] e = refl
  behind_stops (x ∷ xs) e = one (f x) e
    where
      one : (t : Bool) → ◌≡◌ {A = List A} (elim t [ true ↦ x ∷ leading f xs | false ↦ [] ]) [] → ◌≡◌ {A = List A} (elim t [ true ↦ behind f xs | false ↦ x ∷ xs ]) (x ∷ xs)
      one true q = absurd (cons≢nil q)
      one false q = refl

  lead_behind : (xs : List A) → leading f (behind f xs) ≡ []
  lead_behind [] = refl
  lead_behind (x ∷ xs) = one (f x) refl (lead_behind xs)
    where
      one : (t : Bool) → f x ≡ t → leading f (behind f xs) ≡ [] → leading f (elim t [ true ↦ behind f xs | false ↦ x ∷ xs ]) ≡ []
      one true q e = e
      one false q e = rw (q, leading)

  lead_append : (xs ys : List A) → leading f ys ≡ [] → (leading f (xs ++ ys) ≡ leading f xs) × (behind f (xs ++ ys) ≡ behind f xs ++ ys)
  lead_append [] ys e = (e, behind_stops ys e)
  lead_append (x ∷ xs) ys e = one (f x) (lead_append xs ys e)
    where
      one : (t : Bool) → (leading f (xs ++ ys) ≡ leading f xs) × (behind f (xs ++ ys) ≡ behind f xs ++ ys)
          → (◌≡◌ {A = List A} (elim t [ true ↦ x ∷ leading f (xs ++ ys) | false ↦ [] ]) (elim t [ true ↦ x ∷ leading f xs | false ↦ [] ])) × (◌≡◌ {A = List A} (elim t [ true ↦ behind f (xs ++ ys) | false ↦ x ∷ (xs ++ ys) ]) ((elim t [ true ↦ behind f xs | false ↦ x ∷ xs ]) ++ ys))
      one true (p, q) = (ap (λ (zs : List A). x ∷ zs) p, q)
      one false _ = (refl, refl)

  module _ (g : A → Bool) (same : (x : A) → f x ≡ g x) where
    leading_same : (xs : List A) → leading f xs ≡ leading g xs
    leading_same [] = refl
    leading_same (x ∷ xs) = λ i. elim (same x i) [ true ↦ x ∷ leading_same xs i | false ↦ [] ]

module _ (u : Line) (steps : List ℕ) (nodes : List Node) (lanes : List Lane) (thinner : Thinner (moved u steps nodes lanes) u) where
  abbrev k : Line
  k = moved u steps nodes lanes

  -- Floor times are the same.
  floors : (n : ℕ) → floor_time k n ≡ floor_time u n
  unfolding floor_time entries_for
  floors n = λ i. least_of ((same_node k u thinner.alike n i).time ∷ (firsts i ++ joined (seconds i)))
    where
      firsts : map (λ (b : ℕ). (lane_at k b).taken) (leaving u.plan n) ≡ map (λ (b : ℕ). (lane_at u b).taken) (leaving u.plan n)
      firsts = map_same (λ (b : ℕ). (lane_at k b).taken) (λ (b : ℕ). (lane_at u b).taken) (leaving u.plan n) (λ c i. ap (λ (s : Lane). s.taken) (same_lane k u thinner.alike c))

      through : Line → ℕ → List ℕ
      through l b = map (λ (c : ℕ). entry_for n (parents u.plan (receiver_of u b)) (lane_at l c).heard) (leaving u.plan (receiver_of u b))

      seconds : map (through k) (leaving u.plan n) ≡ map (through u) (leaving u.plan n)
      seconds = map_same (through k) (through u) (leaving u.plan n)
          (λ b i. map_same (λ (c : ℕ). entry_for n (parents u.plan (receiver_of u b)) (lane_at k c).heard) (λ (c : ℕ). entry_for n (parents u.plan (receiver_of u b)) (lane_at u c).heard) (leaving u.plan (receiver_of u b))
          (λ c j. ap (λ (s : Lane). entry_for n (parents u.plan (receiver_of u b)) s.heard) (same_lane k u thinner.alike c)))

  sender_same : (o : Origin) → sender_below k o ≡ sender_below u o
  sender_same fed = refl
  sender_same (made s t) = ap (leb t) (floors s)

  drops_same : (n : ℕ) (e : Entry) → droppable k n e ≡ droppable u n e
  unfolding droppable
  drops_same n e = λ i. leb e.time (floors n i) && sender_same e.origin i

  module _ (g : Ghost) (cut base : ℕ → ℕ) (acts : List Act) (receipts : List Receipt) (crashes : List ℕ) (inv : Inv u g cut base acts receipts crashes) (n : ℕ) (inside : n < node_count u.plan) where
    abbrev G : List Entry
    G = thinner.gone n

    abbrev more : List Entry
    more = thinner.gone n ++ run (moved u steps nodes lanes) n

    abbrev gone_after : ℕ → List Entry
    gone_after = changed thinner.gone n (thinner.gone n ++ run (moved u steps nodes lanes) n)

    shape : Shape k
    shape = shape_alike k u thinner.alike inv.shape

    gone_there : (m : ℕ) → m ≡ n → gone_after m ≡ more
    gone_there m q = changed_there thinner.gone n more m q

    gone_else : (m : ℕ) → m ≢ n → gone_after m ≡ thinner.gone m
    gone_else m d = changed_else thinner.gone n more m d

    -- An entry that is gone now was before, or is of the run.
    gone_now : (m : ℕ) (e : Entry) → In e (gone_after m) → In e (thinner.gone m) ⊎ ((m ≡ n) × In e (run k n))
    gone_now m e i =
        elim (ℕ_discrete m n) [
          | no d ↦ inl (subst (λ (x : List Entry). In e x) (gone_else m d) i)
          | yes q ↦ elim (append_in G (subst (λ (x : List Entry). In e x) (gone_there m q) i)) [ inl j ↦ inl (subst (λ (x : ℕ). In e (thinner.gone x)) (sym q) j) | inr j ↦ inr (q, j) ]
        ]

    run_own : (e : Entry) → In e (run k n) → e.time ≤ floor_time u n
    unfolding droppable
    run_own e i = leb-true e.time (floor_time u n) (ap (leb e.time) (sym (floors n)) ∙ (both_true (leb e.time (floor_time k n)) (sender_below k e.origin) (leading_true (droppable k n) (node_at k n).log i)).0)

    run_sender : (e : Entry) → In e (run k n) → (s t : ℕ) → e.origin ≡ made s t → t ≤ floor_time u s
    unfolding droppable
    run_sender e i s t q =
        leb-true t (floor_time u s) (ap (sender_below u) (sym q) ∙ sym (sender_same e.origin) ∙ (both_true (leb e.time (floor_time k n)) (sender_below k e.origin) (leading_true (droppable k n) (node_at k n).log i)).1)

    -- The Trim in the one line alone.
    pub trim_one : Thinner (trimmed_line n (moved u steps nodes lanes)) u
    unfolding low_raised
    trim_one =
        record {
          alike = strip_trimmed n k ∙ thinner.alike;
          gone = gone_after;
          logs = λ m. elim (ℕ_discrete m n) [
            | no d ↦ thinner.logs m ∙ sym (λ i. gone_else m d i ++ log_else m d i)
            | yes q ↦ subst (λ (x : ℕ). (node_at u x).log ≡ gone_after x ++ (node_at (trimmed_line n k) x).log) (sym q)
                (thinner.logs n ∙ ap (λ (x : List Entry). G ++ x) (leading-behind (droppable k n) (node_at k n).log) ∙ sym (append_assoc G (run k n) (rest k n)) ∙ sym (λ i. gone_there n refl i ++ log_there i))
          ];
          lows = λ b h. elim (ℕ_discrete (receiver_of u b) n) [
            | no d ↦ ap (λ (s : Lane). s.low) (lane-beside b d) ∙ thinner.lows b h ∙ ap (λ (x : List Entry). low_after (parents u.plan (sender_of u b)) (sender_of u b) x (lane_at u b).low) (sym (gone_else (receiver_of u b) d))
            | yes q ↦
                ap (λ (s : Lane). s.low) (lane_enters b (h, q)) ∙ ap (low_after (parents u.plan (sender_of u b)) (sender_of u b) (run k n)) (thinner.lows b h ∙ ap (λ (x : ℕ). low_after (parents u.plan (sender_of u b)) (sender_of u b) (thinner.gone x) (lane_at u b).low) q)
                ∙ sym (after-append (parents u.plan (sender_of u b)) (sender_of u b) G (run k n) (lane_at u b).low) ∙ ap (λ (x : List Entry). low_after (parents u.plan (sender_of u b)) (sender_of u b) x (lane_at u b).low) (sym (gone_there (receiver_of u b) q))
          ];
          reached = λ m e i c h d. elim (gone_now m e i) [
            | inl j ↦ thinner.reached m e j c h d
            | inr (q, j) ↦ (let a = run_own e j in let b = floor_entry u n c (h.0, h.1 ∙ q) in omega arith)
          ];
          restored_past = λ m x e i c h some unmarked. elim (gone_now m e i) [
            | inl j ↦ thinner.restored_past m x e j c h some unmarked
            | inr (q, j) ↦ subst (λ (y : ℕ). e.time ≤ restored_of (channel_at u.plan c).receiver y) (sym q) (let a = run_own e j in let b = restored_floor inv n c (h.0, h.1 ∙ q) some unmarked in omega arith)
          ];
          input_reached = λ m x e i s t o c h y. elim (gone_now m e i) [
            | inl j ↦ thinner.input_reached m x e j s t o c h y
            | inr (q, j) ↦ (let a = run_sender e j s t o in let b = floor_entry u s c h in omega arith)
          ];
        }
      where
        restored_of : ℕ → ℕ → ℕ
        restored_of = restored u

        log_else : (m : ℕ) → m ≢ n → (node_at (trimmed_line n k) m).log ≡ (node_at k m).log
        log_else m d = ap (λ (x : Line). (node_at x m).log) (trimmed_is k n) ∙ ap (λ (x : Node). x.log) (trimmed_else k n m d)

        log_there : (node_at (trimmed_line n k) n).log ≡ rest k n
        log_there = ap (λ (x : Line). (node_at x n).log) (trimmed_is k n) ∙ ap (λ (x : Node). x.log) (trimmed_node k n (rw shape.nodes_long inside))

        lane-beside : (b : ℕ) → (channel_at u.plan b).receiver ≢ n → lane_at (trimmed_line n k) b ≡ lane_at k b
        lane-beside b d = ap (λ (x : Line). lane_at x b) (trimmed_is k n) ∙ trimmed_beside k n b d

        lane_enters : (b : ℕ) → Enters u.plan n b → lane_at (trimmed_line n k) b ≡ lower k n b (lane_at k b)
        lane_enters b h = ap (λ (x : Line). lane_at x b) (trimmed_is k n) ∙ trimmed_enters k n b h (rw shape.lanes_long h.0)

    -- It has been trimmed as far as it goes, by the other line's floor times too.
    pub trimmed_stops : leading (droppable u n) (node_at (trimmed_line n (moved u steps nodes lanes)) n).log ≡ []
    trimmed_stops =
        sym (leading_same (droppable k n) (droppable u n) (drops_same n) (node_at (trimmed_line n k) n).log)
        ∙ ap (leading (droppable k n)) (ap (λ (x : Line). (node_at x n).log) (trimmed_is k n) ∙ ap (λ (x : Node). x.log) (trimmed_node k n (rw shape.nodes_long inside))) ∙ lead_behind (droppable k n) (node_at k n).log

-- The Trim in the other line too, where the one has been trimmed as far as it goes.
module _ (u : Line) (k : Line) (thinner : Thinner k u) (g : Ghost) (cut base : ℕ → ℕ) (acts : List Act) (receipts : List Receipt) (crashes : List ℕ) (inv : Inv u g cut base acts receipts crashes)
    (n : ℕ) (inside : n < node_count u.plan) (all_up : (m : ℕ) → m < node_count u.plan → (node_at u m).status ≡ up) (stops : leading (droppable u n) (node_at k n).log ≡ []) where
  abbrev v : Line
  v = trimmed u n

  abbrev f : Entry → Bool
  f = droppable u n

  abbrev left : ℕ → List Entry
  left = changed thinner.gone n (behind (droppable u n) (thinner.gone n))

  run_is : run u n ≡ leading f (thinner.gone n)
  run_is = ap (leading f) (thinner.logs n) ∙ (lead_append f (thinner.gone n) (node_at k n).log stops).0

  rest_is : rest u n ≡ behind f (thinner.gone n) ++ (node_at k n).log
  rest_is = ap (behind f) (thinner.logs n) ∙ (lead_append f (thinner.gone n) (node_at k n).log stops).1

  left_there : (m : ℕ) → m ≡ n → left m ≡ behind f (thinner.gone n)
  left_there m q = changed_there thinner.gone n (behind f (thinner.gone n)) m q

  left_else : (m : ℕ) → m ≢ n → left m ≡ thinner.gone m
  left_else m d = changed_else thinner.gone n (behind f (thinner.gone n)) m d

  left_gone : (m : ℕ) (e : Entry) → In e (left m) → In e (thinner.gone m)
  left_gone m e i =
      elim (ℕ_discrete m n) [
        | no d ↦ subst (λ (x : List Entry). In e x) (left_else m d) i
        | yes q ↦ subst (λ (x : ℕ). In e (thinner.gone x)) (sym q) (subst (λ (x : List Entry). In e x) (sym (leading-behind f (thinner.gone n))) (in_right (leading f (thinner.gone n)) (subst (λ (x : List Entry). In e x) (left_there m q) i)))
      ]

  takens : (c : ℕ) → c < channel_count u.plan → (lane_at (trimmed u n) c).taken ≡ (lane_at u c).taken
  takens = TrimInv.takens u g cut base acts receipts crashes inv n inside all_up

  marks : (m : ℕ) → (node_at (trimmed u n) m).crashed ≡ (node_at u m).crashed
  marks = TrimInv.marks u g cut base acts receipts crashes inv n inside all_up

  children_were : (m : ℕ) → UnmarkedChildren (trimmed u n) m → UnmarkedChildren u m
  children_were m h c i = sym (marks (channel_at u.plan c).receiver) ∙ h c i

  both : Thinner k (trimmed u n)
  both =
      record {
        alike = thinner.alike ∙ sym (strip_trimmed n u) ∙ ap strip (trimmed_is u n);
        gone = left;
        logs = λ m. elim (ℕ_discrete m n) [
          | no d ↦ ap (λ (x : Node). x.log) (trimmed_else u n m d) ∙ thinner.logs m ∙ ap (λ (x : List Entry). x ++ (node_at k m).log) (sym (left_else m d))
          | yes q ↦ subst (λ (x : ℕ). (node_at v x).log ≡ left x ++ (node_at k x).log) (sym q) (TrimInv.log_now u g cut base acts receipts crashes inv n inside all_up ∙ rest_is ∙ ap (λ (x : List Entry). x ++ (node_at k n).log) (sym (left_there n refl)))
        ];
        lows = λ b h. elim (ℕ_discrete (receiver_of u b) n) [
          | no d ↦ thinner.lows b h ∙ sym (λ i. low_after (parents u.plan (sender_of u b)) (sender_of u b) (left_else (receiver_of u b) d i) (TrimInv.low_else u g cut base acts receipts crashes inv n inside all_up b d i))
          | yes q ↦
              (let ps = parents u.plan (sender_of u b) in
              let s = sender_of u b in
              thinner.lows b h ∙ ap (λ (x : ℕ). low_after ps s (thinner.gone x) (lane_at u b).low) q ∙ ap (λ (x : List Entry). low_after ps s x (lane_at u b).low) (leading-behind f (thinner.gone n))
              ∙ after-append ps s (leading f (thinner.gone n)) (behind f (thinner.gone n)) (lane_at u b).low
              ∙ sym (λ i. low_after ps s (left_there (receiver_of u b) q i) ((TrimInv.low_now u g cut base acts receipts crashes inv n inside all_up b (h, q) ∙ ap (λ (x : List Entry). low_after ps s x (lane_at u b).low) run_is) i)))
        ];
        reached = λ m e i c h d.
            (let old = thinner.reached m e (left_gone m e i) c h (λ z. d (TrimInv.statuses u g cut base acts receipts crashes inv n inside all_up (channel_at u.plan c).receiver ∙ z)) in
            omega (arith, old, takens c h.0));
        restored_past = λ m x e i c h some unmarked.
            (let old = thinner.restored_past m (sym (marks m) ∙ x) e (left_gone m e i) c h some (children_were (channel_at u.plan c).receiver unmarked) in
            omega (arith, old, TrimInv.restored_kept u g cut base acts receipts crashes inv n inside all_up m c h some (children_were (channel_at u.plan c).receiver unmarked) m));
        input_reached = λ m x e i s t o c h y.
            (let old = thinner.input_reached m (sym (marks m) ∙ x) e (left_gone m e i) s t o c h (sym (marks (channel_at u.plan c).receiver) ∙ y) in
            omega (arith, old, takens c h.0));
      }

  pub trim_both : Thinner k (trimmed_line n u)
  trim_both = subst (Thinner k) (sym (trimmed_is u n)) both
