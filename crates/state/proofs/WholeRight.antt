-- A state is what its line is written as exactly where its parts are right.
use Prim.Native.Nat.{ℕ, zero, suc, ◌+◌, ◌*◌, ◌-◌, ◌≤◌, ◌<◌}
use mathlib.Core.Path.{◌≡◌, refl, sym, ap, subst, subst₂, ◌∙◌}
use mathlib.Core.Logic.Iff
use mathlib.Core.Logic.{◌↔◌}
use mathlib.Core.List.{List, [], ◌∷◌, ◌++◌, map}
use native.Mathlib.Nat.{suc-mul, add_comm, zero-add}
use native.Mathlib.Omega.{arith}
use lib.ListN.{length, get_or, take, drop, replicate}
use lib.Seq.{drop-drop, take_all}
use Rattle.plan.specs.declared.Channel.{Channel}
use Rattle.plan.specs.Layout.{Layout, pair, slots, padded, write_slots, read_slots, fields, read_fields, write_fields}
use Rattle.plan.specs.Lawful.{Bytes}
use Rattle.plan.specs.Plan.{Plan, plan_of, plan_bytes, plan_layout, plan_version, plan_nodes, plan_channels, plan_size, size_by_head, head_numbers, channel_at, no_channel}
use Rattle.plan.proofs.LayoutLaws.{slots_front, fields_front}
use Rattle.plan.proofs.PlanLaws.{plan_size-most, version_of, node_count_lem, channel_count_lem}
use Rattle.rules.specs.Line.{Lane, Line}
use Rattle.state.specs.Sound.{Sound}
use Rattle.state.specs.Sizes.{state_size, page_size, plan_area, steps_at, steps_rest, node_pages, page_at, lane_blocks, block_size, blocks_at, block_at, tail_at, tail_size, steps_widths, steps_size}
use Rattle.state.specs.Node.{node_layout}
use Rattle.state.specs.Lane.{lane_layout, pad_lane, cut_lane, heard_count, cut_lanes}
use Rattle.state.specs.State.{StateParts, plan_part, steps_part, nodes_part, lanes_part, state_parts, state_layout, line_bytes, line_of}
use Rattle.state.specs.Right.{ZerosAt, NodeRight, LaneRight, StateRight}
use Rattle.state.proofs.SoundLaws.{pair_sound, slots_sound, fields_sound}
use Rattle.state.proofs.BlockLaws.{node_sound, lane_sound}
use Rattle.state.proofs.LineLaws.{plan_sound, plan_part_sound, steps_part_sound, nodes_part_sound, lanes_part_sound, state_size_lem}
use Rattle.state.proofs.InPlace.{Counted, line-plan, line-steps, line-nodes, line_lanes, plan_long, steps_end, nodes_end}
use Rattle.state.proofs.RightLaws.{append_cut, zeros_same}
use Rattle.state.proofs.RightAt.{RightAt, part_long, part_first, part_second, slots_at, fields_at}
use Rattle.state.proofs.BlockRight.{lane_with, node_right, lane_right}

-- ---- written at an offset

-- The bytes at an offset are those that a value is written as.
abbrev WrittenAt : {A : Type 0} → Layout A → A → ℕ → List ℕ → Type 0
WrittenAt l x a s = l.write x ≡ take l.size (drop a s)

same_part : (b : List ℕ) {u v : List ℕ} → u ≡ v → (b ≡ u) ↔ (b ≡ v)
same_part b e = (λ q. q ∙ e, λ q. q ∙ sym e)

zeros_part : (n a : ℕ) (s : List ℕ) → a + n ≤ length s → (replicate n 0 ≡ take n (drop a s)) ↔ ZerosAt a n s
zeros_part n a s h = zeros_same n (take n (drop a s)) (part_long a n s h)

module _ {A : Type 0} {l : Layout A} {Fits : A → Type 0} (inner : Sound l Fits) (x : A) (a : ℕ) (s : List ℕ) where
  pair-written : {B : Type 0} (k : Layout B) (y : B) → WrittenAt (pair l k) (x, y) a s ↔ (WrittenAt l x a s × WrittenAt k y (a + l.size) s)
  unfolding pair
  pair-written k y =
      Iff.trans (append_cut (l.write x) (k.write y) (take (l.size + k.size) (drop a s)) l.size (inner.sized x))
      (Iff.and (same_part (l.write x) (part_first a l.size k.size s)) (same_part (k.write y) (part_second a l.size k.size s)))

  padded-written : (n : ℕ) → a + (l.size + n) ≤ length s → WrittenAt (padded n l) x a s ↔ (WrittenAt l x a s × ZerosAt (a + l.size) n s)
  unfolding padded
  padded-written n h =
      Iff.trans (append_cut (l.write x) (replicate n 0) (take (l.size + n) (drop a s)) l.size (inner.sized x))
      (Iff.and (same_part (l.write x) (part_first a l.size n s)) (Iff.trans (same_part (replicate n 0) (part_second a l.size n s)) (zeros_part n (a + l.size) s (omega arith))))

-- ---- the lanes

-- What holds of each number below one more.
below_more : (Q : ℕ → Type 0) (m : ℕ) → ((b : ℕ) → b < suc m → Q b) ↔ (Q zero × ((b : ℕ) → b < m → Q (suc b)))
below_more Q m = (λ f. (f zero (omega arith), λ b h. f (suc b) (omega arith)), λ r. all r)
  where
    all : Q zero × ((b : ℕ) → b < m → Q (suc b)) → (b : ℕ) → b < suc m → Q b
    all r zero h = r.0
    all r (suc b) h = r.1 b (omega arith)

-- The right lanes that a part of the channels asks for.
abbrev LanesRight : Plan → List Channel → ℕ → ℕ → List ℕ → Type 0
LanesRight p cs m a s = (b : ℕ) → b < m → RightAt (lane_with (heard_count p (get_or cs b no_channel))) (a + block_size * b) s

lanes_more : (p : Plan) (c : Channel) (cs : List Channel) (m a : ℕ) (s : List ℕ)
    → (RightAt (lane_with (heard_count p c)) a s × LanesRight p cs m (a + block_size) s) ↔ LanesRight p (c ∷ cs) (suc m) a s
lanes_more p c cs m a s =
    let Q : ℕ → Type 0 = λ b. RightAt (lane_with (heard_count p (get_or (c ∷ cs) b no_channel))) (a + block_size * b) s in
    let more = below_more Q m in
    let here : a + block_size * 0 ≡ a = omega arith in
    let next : (b : ℕ) → a + block_size + block_size * b ≡ a + block_size * suc b = λ b. omega arith in
    let move : (count i j : ℕ) → i ≡ j → RightAt (lane_with count) i s → RightAt (lane_with count) j s = λ count i j e r. subst (λ (o : ℕ). RightAt (lane_with count) o s) e r in (
      λ r.
          more.1 (
            move (heard_count p c) a (a + block_size * 0) (sym here) r.0,
            λ b h. move (heard_count p (get_or cs b no_channel)) (a + block_size + block_size * b) (a + block_size * suc b) (next b) (r.1 b h),
          ),
      λ f. (
        move (heard_count p c) (a + block_size * 0) a here (more.0 f).0,
        λ b h. move (heard_count p (get_or cs b no_channel)) (a + block_size * suc b) (a + block_size + block_size * b) (sym (next b)) ((more.0 f).1 b h),
      ),
    )

abbrev lanes_of : Plan → List Channel → ℕ → List ℕ → List Lane
lanes_of p cs m s = map pad_lane (cut_lanes p cs (read_slots lane_layout m s))

lanes_written : (p : Plan) (cs : List Channel) (m : ℕ) → length cs ≡ m → (a : ℕ) (s : List ℕ) → WrittenAt (slots m lane_layout) (lanes_of p cs m (drop a s)) a s ↔ LanesRight p cs m a s
unfolding slots lane_layout lane_with
lanes_written p [] zero e a s = (λ q b h. (let no : ⊥ = omega arith in absurd no), λ f. refl)
lanes_written p [] (suc m) e a s = let no : ⊥ = omega arith in absurd no
lanes_written p (c ∷ cs) zero e a s = let no : ⊥ = omega arith in absurd no
lanes_written p (c ∷ cs) (suc m) e a s =
    let first = lane_layout.write (pad_lane (cut_lane (heard_count p c) (lane_layout.read (take block_size (drop a s))))) in
    let behind = write_slots lane_layout m (lanes_of p cs m (drop (a + block_size) s)) in
    let split : suc m * block_size ≡ block_size + m * block_size = suc-mul m block_size ∙ add_comm (m * block_size) block_size in
    let rest = lanes_written p cs m (omega arith) (a + block_size) s in
    let cut = append_cut first behind (take (block_size + m * block_size) (drop a s)) block_size (lane_sound.sized (pad_lane (cut_lane (heard_count p c) (lane_layout.read (take block_size (drop a s)))))) in
    let parts = Iff.trans cut (Iff.and (same_part first (part_first a block_size (m * block_size) s)) (Iff.trans (same_part behind (part_second a block_size (m * block_size) s)) rest)) in
    let whole : first ++ write_slots lane_layout m (lanes_of p cs m (drop block_size (drop a s))) ≡ first ++ behind = ap (λ (u : List ℕ). first ++ write_slots lane_layout m (lanes_of p cs m u)) (drop-drop block_size a s) in
    let back = lanes_more p c cs m a s in (
      λ q. back.0 (parts.0 (sym whole ∙ q ∙ ap (λ (k : ℕ). take k (drop a s)) split)),
      λ f. whole ∙ parts.1 (back.1 f) ∙ ap (λ (k : ℕ). take k (drop a s)) (sym split),
    )

-- ---- the parts

zeros-moved : (s : List ℕ) (a b n m : ℕ) → a ≡ b → n ≡ m → ZerosAt a n s ↔ ZerosAt b m s
zeros-moved s a b n m e f = (subst₂ (λ (i j : ℕ). ZerosAt i j s) e f, subst₂ (λ (i j : ℕ). ZerosAt i j s) (sym e) (sym f))

written-moved : {A : Type 0} (l : Layout A) (x : A) (s : List ℕ) (a b : ℕ) → a ≡ b → WrittenAt l x a s ↔ WrittenAt l x b s
written-moved l x s a b e = (subst (λ (i : ℕ). WrittenAt l x i s) e, subst (λ (i : ℕ). WrittenAt l x i s) (sym e))

module _ {A B C D : Type 0} {a : Layout A} {b : Layout B} {c : Layout C} {d : Layout D} {FA : A → Type 0} {FB : B → Type 0} {FC : C → Type 0} {FD : D → Type 0}
    (sa : Sound a FA) (sb : Sound b FB) (sc : Sound c FC) (sd : Sound d FD) (w : A) (x : B) (y : C) (z : D) where
  four_written : (t : ℕ) (s : List ℕ) (i j k e : ℕ) → a.size ≡ i → a.size + b.size ≡ j → a.size + b.size + c.size ≡ k → a.size + b.size + c.size + d.size ≡ e → e + t ≤ length s
      → WrittenAt (padded t (pair a (pair b (pair c d)))) (w, (x, (y, z))) 0 s
      ↔ ((WrittenAt a w 0 s × (WrittenAt b x i s × (WrittenAt c y j s × WrittenAt d z k s))) × ZerosAt e t s)
  unfolding pair
  four_written t s i j k e ei ej ek ee h =
      Iff.trans (padded-written (pair_sound sa (pair_sound sb (pair_sound sc sd))) (w, (x, (y, z))) 0 s t (omega arith))
      (Iff.and
      (Iff.trans (pair-written sa w 0 s (pair b (pair c d)) (x, (y, z)))
      (Iff.and Iff.rfl
      (Iff.trans (pair-written sb x (0 + a.size) s (pair c d) (y, z))
      (Iff.and (written-moved b x s (0 + a.size) i (omega arith))
      (Iff.trans (pair-written sc y (0 + a.size + b.size) s d z)
      (Iff.and (written-moved c y s (0 + a.size + b.size) j (omega arith)) (written-moved d z s (0 + a.size + b.size + c.size) k (omega arith))))))))
      (zeros-moved s (0 + (a.size + (b.size + (c.size + d.size)))) e t t (omega arith) refl))

module _ (s : List ℕ) (long : length s ≡ state_size) (k : Bytes s) (few : Counted s) where
  abbrev v : ℕ
  v = plan_version s

  abbrev n : ℕ
  n = plan_nodes s

  abbrev m : ℕ
  m = plan_channels s

  abbrev p : Plan
  p = plan_of s

  plan-spelled : plan_bytes p ≡ (plan_layout v n m).write (head_numbers p, p)
  unfolding plan_bytes
  plan-spelled = λ i. (plan_layout (version_of s i) (node_count_lem s i) (channel_count_lem s i)).write (head_numbers p, p)

  plan_part_lem : WrittenAt (plan_part v n m) (head_numbers p, p) 0 s ↔ ((plan_bytes p ≡ take (size_by_head s) s) × ZerosAt (size_by_head s) (plan_area - size_by_head s) s)
  unfolding plan_part size_by_head
  plan_part_lem =
      let size = plan_size v n m in
      let rest = plan_area - size in
      let fits : 0 + (size + rest) ≤ length s = omega (arith, plan_size-most v n m, few.nodes, few.channels) in
      Iff.trans (padded-written (plan_sound v n m) (head_numbers p, p) 0 s rest fits)
      (Iff.and (λ q. plan-spelled ∙ q, λ q. sym plan-spelled ∙ q) (zeros-moved s (0 + size) size rest rest (zero-add size) refl))

  -- The four counts.
  abbrev counts : List ℕ
  counts = read_fields steps_widths (drop steps_at s)

  steps_part_lem : WrittenAt steps_part counts steps_at s ↔ ZerosAt (steps_at + steps_size) steps_rest s
  unfolding steps_part
  steps_part_lem =
      let whole = padded-written (fields_sound steps_widths) counts steps_at s steps_rest (omega arith) in
      let words : WrittenAt (fields steps_widths) counts steps_at s = ap (write_fields steps_widths) (sym (fields_front steps_widths (drop steps_at s))) ∙ fields_at steps_widths steps_at s (omega arith) k in
      (λ q. (whole.0 q).1, λ z. whole.1 (words, z))

  nodes_part_lem : WrittenAt (nodes_part n) (read_slots node_layout n (drop page_size s)) page_size s ↔ (((i : ℕ) → i < n → NodeRight (page_at i) s) × ZerosAt (page_at n) (page_size * (node_pages - n)) s)
  unfolding nodes_part
  nodes_part_lem =
      let rest = (node_pages - n) * page_size in
      let whole = padded-written (slots_sound node_sound n) (read_slots node_layout n (drop page_size s)) page_size s rest (omega (arith, few.nodes)) in
      let front : write_slots node_layout n (read_slots node_layout n (take (n * page_size) (drop page_size s))) ≡ write_slots node_layout n (read_slots node_layout n (drop page_size s)) =
      ap (write_slots node_layout n) (slots_front node_layout n (drop page_size s))
      in
      let each = slots_at node_sound n page_size s (omega (arith, few.nodes)) in
      let one : (i : ℕ) → i < n → RightAt node_layout (page_size + page_size * i) s ↔ NodeRight (page_at i) s =
      λ i h.
      let at : page_size + page_size * i ≡ page_at i = omega arith in
      Iff.trans (node_right s k (page_size + page_size * i) (omega (arith, few.nodes))) (subst (λ (j : ℕ). NodeRight j s) at, subst (λ (j : ℕ). NodeRight j s) (sym at))
      in
      Iff.trans whole
      (Iff.and
      (λ q i h. (one i h).0 (each.0 (front ∙ q) i h), λ f. sym front ∙ each.1 (λ i h. (one i h).1 (f i h)))
      (zeros-moved s (page_size + n * page_size) (page_at n) rest (page_size * (node_pages - n)) (omega arith) (omega arith)))

  lanes_part_lem : WrittenAt (lanes_part m) (lanes_of p p.channels m (drop blocks_at s)) blocks_at s
      ↔ (((b : ℕ) → b < m → LaneRight (heard_count p (channel_at p b)) (block_at b) s) × ZerosAt (block_at m) (block_size * (lane_blocks - m)) s)
  unfolding lanes_part
  lanes_part_lem =
      let rest = (lane_blocks - m) * block_size in
      let whole = padded-written (slots_sound lane_sound m) (lanes_of p p.channels m (drop blocks_at s)) blocks_at s rest (omega (arith, few.channels)) in
      let each = lanes_written p p.channels m (channel_count_lem s) blocks_at s in
      let one : (b : ℕ) → b < m → RightAt (lane_with (heard_count p (channel_at p b))) (block_at b) s ↔ LaneRight (heard_count p (channel_at p b)) (block_at b) s =
      λ b h. lane_right s k (block_at b) (omega (arith, few.channels)) (heard_count p (channel_at p b))
      in
      Iff.trans whole
      (Iff.and
      (λ q b h. (one b h).0 (each.0 q b h), λ f. each.1 (λ b h. (one b h).1 (f b h)))
      (zeros-moved s (blocks_at + m * block_size) (block_at m) rest (block_size * (lane_blocks - m)) (omega arith) (omega arith)))

  -- ---- the whole

  abbrev found : Line
  found = record { plan = p; steps = counts; nodes = read_slots node_layout n (drop page_size s); lanes = cut_lanes p p.channels (read_slots lane_layout m (drop blocks_at s)) }

  line_found : line_of s ≡ found
  line_found = λ i. record { plan = line-plan s i; steps = line-steps s few i; nodes = line-nodes s few i; lanes = line_lanes s few i }

  abbrev seen : StateParts
  seen = ((head_numbers p, p), (counts, (read_slots node_layout n (drop page_size s), lanes_of p p.channels m (drop blocks_at s))))

  found_bytes : line_bytes found ≡ (state_parts v n m).write seen
  unfolding line_bytes
  found_bytes = λ i. (state_parts (version_of s i) (node_count_lem s i) (channel_count_lem s i)).write seen

  whole_size : (state_parts v n m).size ≡ state_size
  unfolding state_layout
  whole_size = state_size_lem v n m few.nodes few.channels

  whole_part : take (state_parts v n m).size (drop 0 s) ≡ s
  whole_part = take_all (state_parts v n m).size s (omega (arith, whole_size))

  whole-written : (line_bytes (line_of s) ≡ s) ↔ WrittenAt (state_parts v n m) seen 0 s
  whole-written =
      let bytes = ap line_bytes line_found ∙ found_bytes in
      (λ q. sym bytes ∙ q ∙ sym whole_part, λ q. bytes ∙ q ∙ whole_part)

  lanes_end : (plan_part v n m).size + steps_part.size + (nodes_part n).size + (lanes_part m).size ≡ tail_at
  unfolding lanes_part
  lanes_end = omega (arith, nodes_end v n m few.nodes few.channels, few.channels)

  parts-written : WrittenAt (state_parts v n m) seen 0 s
      ↔ ((WrittenAt (plan_part v n m) (head_numbers p, p) 0 s
      × (WrittenAt steps_part counts steps_at s
      × (WrittenAt (nodes_part n) (read_slots node_layout n (drop page_size s)) page_size s × WrittenAt (lanes_part m) (lanes_of p p.channels m (drop blocks_at s)) blocks_at s)))
      × ZerosAt tail_at tail_size s)
  unfolding state_parts
  parts-written =
      four_written (plan_part_sound v n m) steps_part_sound (nodes_part_sound n) (lanes_part_sound m) (head_numbers p, p) counts (read_slots node_layout n (drop page_size s)) (lanes_of p p.channels m (drop blocks_at s))
      tail_size s steps_at page_size blocks_at tail_at (plan_long v n m few.nodes few.channels) (steps_end v n m few.nodes few.channels) (nodes_end v n m few.nodes few.channels) lanes_end (omega arith)

  -- The canonical form, taken apart.
  pub state_right : (line_bytes (line_of s) ≡ s) ↔ StateRight s
  state_right =
      let apart = Iff.trans whole-written parts-written in (
        λ q.
            let r = apart.0 q in
            let plan = plan_part_lem.0 r.0.0 in
            let nodes = nodes_part_lem.0 r.0.1.1.0 in
            let lanes = lanes_part_lem.0 r.0.1.1.1 in
            record {
              plan = plan.0;
              plan_rest = plan.1;
              steps_rest = steps_part_lem.0 r.0.1.0;
              node = nodes.0;
              nodes_rest = nodes.1;
              lane = lanes.0;
              lanes_rest = lanes.1;
              tail = r.1;
            },
        λ r. apart.1 ((plan_part_lem.1 (r.plan, r.plan_rest), (steps_part_lem.1 r.steps_rest, (nodes_part_lem.1 (r.node, r.nodes_rest), lanes_part_lem.1 (r.lane, r.lanes_rest)))), r.tail),
      )
