-- A node's page and a channel's block are right exactly where their parts are.
use Prim.Native.Nat.{ℕ, zero, suc, ◌+◌, ◌*◌, ◌≤◌, ◌<◌}
use mathlib.Core.Path.{◌≡◌, refl, sym, ap, subst, ◌∙◌}
use mathlib.Core.Logic.Iff
use mathlib.Core.Logic.{◌↔◌}
use mathlib.Core.List.{List, [], ◌∷◌, ◌++◌}
use native.Mathlib.Omega.{arith}
use lib.Dec.{lit<, lit≤}
use lib.ListN.{length, get_or, take, drop, replicate}
use lib.Seq.{drop-drop, take-take}
use Rattle.plan.specs.Layout.{Layout, spelled, pair, via, up_to_slots}
use Rattle.plan.specs.Lawful.{Bytes, Zeros}
use Rattle.plan.proofs.BytesLaws.{each_take}
use Rattle.rules.specs.Line.{log_limit, queue_limit, held_limit, target_limit, Lane}
use Rattle.state.specs.Sizes.{count_size, page_size, block_size, node_rest, lane_rest, node_rest_at, lane_rest_at, status_at, crashed_at, entry_size, held_at, held_size, targets_at, target_size, kept_at, kept_size, queue_at, message_size, parent_limit, low_limit, heard_at, low_at}
use Rattle.state.specs.Pieces.{message_layout, entry_layout, held_layout, target_layout, asked_layout}
use Rattle.state.specs.Node.{status_number, status_of, crash_number, crash_of, node_widths, NodeParts, node_seen, node_from, log_layout, held_list_layout, targets_layout, kept_list, first_kept, kept_layout, node_parts, node_layout}
use Rattle.rules.specs.Trim.{with_low}
use Rattle.state.specs.Lane.{lane_widths, low_widths, low_fields, queue_layout, lane_layout, with_heard, pad_lane, cut_lane}
use Rattle.state.specs.Right.{ZerosAt, word_at, ListRight, MessageRight, EntryRight, HeldRight, TargetRight, AskedRight, NodeRight, LaneRight}
use Rattle.state.proofs.SoundLaws.{fields_sound, up_to_sound}
use Rattle.state.proofs.PieceLaws.{message_sound, entry_sound, held_sound, target_sound, asked_sound}
use Rattle.state.proofs.BlockLaws.{queue_sound, log_sound, held_list_sound, targets_sound, kept_list_lem, kept_sound, node_parts_sound, node_seen_fits, node_body_sound, lane_body_sound, lane_sound}
use Rattle.state.specs.Fits.{TimeFits, LaneFits}
use Rattle.state.proofs.ListLaws.{IsZero, each_known, each_at, take-replicate}
use Rattle.state.proofs.HeardLaws.{pad_fits}
use Rattle.state.proofs.ReadLaws.{part_part}
use Rattle.state.proofs.FieldLaws.{heard_at_lem, low_at_lem}
use Rattle.state.proofs.RightLaws.{zeros_same}
use Rattle.state.proofs.RightAt.{RightAt, part_bytes, fields_at, pair-at, padded-at, via-at, list_at, list_slots}
use Rattle.state.proofs.PieceRight.{byte_in, message-at, entry_at, held-at, target_at, asked_at}

-- Bytes spell 0 where they are all 0.
spelled_none : (n : ℕ) (s : List ℕ) → spelled n s ≡ 0 → (n ≡ 0) × Zeros s
spelled_none n [] e = (e, tt)
spelled_none n (b ∷ s) e = let r = spelled_none (n * 256 + b) s e in (omega (arith, r.0), (omega (arith, r.0), r.1))

spelled-zeros : (s : List ℕ) → Zeros s → spelled 0 s ≡ 0
spelled-zeros [] z = refl
spelled-zeros (b ∷ s) z = rw z.0 (spelled-zeros s z.1)

pub spelled_zero : (s : List ℕ) → (spelled 0 s ≡ 0) ↔ Zeros s
spelled_zero s = (λ e. (spelled_none 0 s e).1, spelled-zeros s)

-- An offset, however it is added up.
at_same : {A : Type 0} (l : Layout A) (s : List ℕ) (a b : ℕ) → a ≡ b → RightAt l a s ↔ RightAt l b s
at_same l s a b e = (subst (λ (i : ℕ). RightAt l i s) e, subst (λ (i : ℕ). RightAt l i s) (sym e))

-- ---- the lists

module _ (s : List ℕ) (k : Bytes s) (a : ℕ) where
  log_right : a + 1540 ≤ length s → RightAt log_layout a s ↔ ListRight EntryRight log_limit entry_size a s
  unfolding log_layout
  log_right h = Iff.trans (list_at entry_sound log_limit a s (lit< tt) h k) (list_slots (RightAt entry_layout) EntryRight log_limit entry_size a s (λ i l. entry_at s k (a + count_size + entry_size * i) (omega arith)))

  held_list_right : a + 1284 ≤ length s → RightAt held_list_layout a s ↔ ListRight HeldRight held_limit held_size a s
  unfolding held_list_layout
  held_list_right h = Iff.trans (list_at held_sound held_limit a s (lit< tt) h k) (list_slots (RightAt held_layout) HeldRight held_limit held_size a s (λ i l. held-at s k (a + count_size + held_size * i) (omega arith)))

  targets_right : a + 772 ≤ length s → RightAt targets_layout a s ↔ ListRight TargetRight target_limit target_size a s
  unfolding targets_layout
  targets_right h =
      Iff.trans (list_at target_sound target_limit a s (lit< tt) h k) (list_slots (RightAt target_layout) TargetRight target_limit target_size a s (λ i l. target_at s k (a + count_size + target_size * i) (omega arith)))

  kept_right_lem : a + 28 ≤ length s → RightAt kept_layout a s ↔ ListRight AskedRight 1 kept_size a s
  unfolding kept_layout
  kept_right_lem h =
      let t = take 28 (drop a s) in
      let up = up_to_sound asked_sound count_size 1 (lit< tt) in
      let whole : kept_list (first_kept ((up_to_slots count_size 1 asked_layout).read t)) ≡ (up_to_slots count_size 1 asked_layout).read t = kept_list_lem ((up_to_slots count_size 1 asked_layout).read t) (up.fits t (part_bytes a 28 s k)).0 in
      let split = via-at up a s kept_list first_kept (kept_sound.fits t (part_bytes a 28 s k)) in
      let slots = Iff.trans (list_at asked_sound 1 a s (lit< tt) h k)
      (list_slots (RightAt asked_layout) AskedRight 1 kept_size a s (λ i l. (λ r. tt, λ r. asked_at s k (a + count_size + kept_size * i) (omega arith)))) in
      Iff.trans split (λ r. slots.0 r.0, λ r. (slots.1 r, whole))

  queue_right : a + 164 ≤ length s → RightAt queue_layout a s ↔ ListRight MessageRight queue_limit message_size a s
  unfolding queue_layout
  queue_right h =
      Iff.trans (list_at message_sound queue_limit a s (lit< tt) h k) (list_slots (RightAt message_layout) MessageRight queue_limit message_size a s (λ i l. message-at s k (a + count_size + message_size * i) (omega arith)))

-- ---- a node's page

status_right : (n : ℕ) → (status_number (status_of n) ≡ n) ↔ (n ≤ 2)
status_right zero = (λ e. lit≤ tt, λ h. refl)
status_right (suc zero) = (λ e. lit≤ tt, λ h. refl)
status_right (suc (suc zero)) = (λ e. lit≤ tt, λ h. refl)
status_right (suc (suc (suc n))) = (λ e. (let no : ⊥ = omega arith in absurd no), λ h. (let no : ⊥ = omega arith in absurd no))

crash_right : (n : ℕ) → (crash_number (crash_of n) ≡ n) ↔ (n ≤ 1)
crash_right zero = (λ e. lit≤ tt, λ h. refl)
crash_right (suc zero) = (λ e. lit≤ tt, λ h. refl)
crash_right (suc (suc n)) = (λ e. (let no : ⊥ = omega arith in absurd no), λ h. (let no : ⊥ = omega arith in absurd no))

node_numbers : (a b c d : ℕ) → (status_number (status_of a) ∷ crash_number (crash_of b) ∷ 0 ∷ d ∷ [] ≡ a ∷ b ∷ c ∷ d ∷ []) ↔ ((a ≤ 2) × ((b ≤ 1) × (c ≡ 0)))
node_numbers a b c d = (
  λ e. (
    (status_right a).0 (ap (λ (ns : List ℕ). get_or ns 0 0) e),
    ((crash_right b).0 (ap (λ (ns : List ℕ). get_or ns 1 0) e), sym (ap (λ (ns : List ℕ). get_or ns 2 0) e)),
  ),
  λ r. cc ((status_right a).1 r.0, (crash_right b).1 r.1.0, r.1.1),
)

module _ (s : List ℕ) (k : Bytes s) (a : ℕ) (h : a + page_size ≤ length s) where
  head_right : (node_seen (node_from (node_parts.read (take node_rest_at (drop a s)))) ≡ node_parts.read (take node_rest_at (drop a s)))
      ↔ ((get_or s (a + status_at) 0 ≤ 2) × ((get_or s (a + crashed_at) 0 ≤ 1) × ZerosAt (a + 2) 2 s))
  unfolding node_parts
  head_right =
      let x = node_parts.read (take node_rest_at (drop a s)) in
      let t = take 8 (take node_rest_at (drop a s)) in
      let front : t ≡ take 8 (drop a s) = take-take 8 node_rest_at (drop a s) (lit≤ tt) in
      let numbers = node_numbers (spelled 0 (take 1 t)) (spelled 0 (take 1 (drop 1 t))) (spelled 0 (take 2 (drop 1 (drop 1 t)))) (spelled 0 (take 4 (drop 2 (drop 1 (drop 1 t))))) in
      let status : spelled 0 (take 1 t) ≡ get_or s (a + 0) 0 = ap (λ (u : List ℕ). spelled 0 (take 1 u)) front ∙ byte_in 0 8 a s (lit< tt) in
      let crashed : spelled 0 (take 1 (drop 1 t)) ≡ get_or s (a + 1) 0 = ap (λ (u : List ℕ). spelled 0 (take 1 (drop 1 u))) front ∙ byte_in 1 8 a s (lit< tt) in
      let unused : spelled 0 (take 2 (drop 1 (drop 1 t))) ≡ spelled 0 (take 2 (drop (a + 2) s)) =
      ap (λ (u : List ℕ). spelled 0 (take 2 u)) (drop-drop 1 1 t ∙ ap (drop 2) front) ∙ ap (spelled 0) (part_part 2 2 8 a s (lit≤ tt))
      in
      let none = spelled_zero (take 2 (drop (a + 2) s)) in (
        λ e.
            let r = numbers.0 (ap (λ (y : NodeParts). y.0) e) in
            (rw status at r.0, (rw crashed at r.1.0, none.0 (sym unused ∙ r.1.1))),
        λ r. (λ i. (numbers.1 (rw status r.0, (rw crashed r.1.0, unused ∙ none.1 r.1.1)) i, x.1)),
      )

  pub node_right : RightAt node_layout a s ↔ NodeRight a s
  unfolding node_layout
  node_right =
      let whole = padded-at node_body_sound a s node_rest h in
      let t = take node_rest_at (drop a s) in
      let split = via-at node_parts_sound a s node_seen node_from (node_seen_fits (node_from (node_parts.read t)) (node_body_sound.fits t (part_bytes a node_rest_at s k))) in
      let first = pair-at (fields_sound node_widths) a s (pair log_layout (pair held_list_layout (pair targets_layout kept_layout))) in
      let second = pair-at log_sound (a + 8) s (pair held_list_layout (pair targets_layout kept_layout)) in
      let third = pair-at held_list_sound (a + 8 + 1540) s (pair targets_layout kept_layout) in
      let fourth = pair-at targets_sound (a + 8 + 1540 + 1284) s kept_layout in
      let log = log_right s k (a + 8) (omega arith) in
      let held = Iff.trans (at_same held_list_layout s (a + 8 + 1540) (a + held_at) (omega arith)) (held_list_right s k (a + held_at) (omega arith)) in
      let targets = Iff.trans (at_same targets_layout s (a + 8 + 1540 + 1284) (a + targets_at) (omega arith)) (targets_right s k (a + targets_at) (omega arith)) in
      let kept = Iff.trans (at_same kept_layout s (a + 8 + 1540 + 1284 + 772) (a + kept_at) (omega arith)) (kept_right_lem s k (a + kept_at) (omega arith)) in (
        λ r.
            let v = split.0 (whole.0 r).0 in
            let head = head_right.0 v.1 in
            let x = second.0 (first.0 v.0).1 in
            let y = third.0 x.1 in
            let z = fourth.0 y.1 in
            record {
              status = head.0;
              crashed = head.1.0;
              unused = head.1.1;
              log = log.0 x.0;
              held = held.0 y.0;
              targets = targets.0 z.0;
              kept = kept.0 z.1;
              rest = (whole.0 r).1;
            },
        λ r.
            whole.1 (
              split.1 (
                first.1 (fields_at node_widths a s (omega arith) k, second.1 (log.1 r.log, third.1 (held.1 r.held, fourth.1 (targets.1 r.targets, kept.1 r.kept)))),
                head_right.1 (r.status, (r.crashed, r.unused)),
              ),
              r.rest,
            ),
      )

-- ---- a channel's block

-- Numbers cut and padded again are the same where the last ones are 0.
pad_cut : (n m k : ℕ) (hs : List ℕ) → length hs ≡ n → n ≤ m → (take n (take k hs ++ replicate m 0) ≡ hs) ↔ ((i : ℕ) → k ≤ i → i < n → get_or hs i 0 ≡ 0)
pad_cut n m zero hs e h =
    let zeros : take {A = ℕ} n (replicate m 0) ≡ replicate n 0 = take-replicate n m 0 h in
    let same = zeros_same n hs e in (
      λ q i l k. each_at IsZero hs 0 (same.0 (sym zeros ∙ q)) i (omega arith),
      λ f. zeros ∙ same.1 (each_known IsZero hs 0 (λ i l. f i (omega arith) (omega arith))),
    )
pad_cut n m (suc k) [] e h = (λ q i l j. refl, λ f. ap (λ (c : ℕ). take {A = ℕ} c (replicate m 0)) (sym e))
pad_cut zero m (suc k) (x ∷ hs) e h = let no : ⊥ = omega arith in absurd no
pad_cut (suc n) m (suc k) (x ∷ hs) e h =
    let rest = pad_cut n m k hs (omega arith) (omega arith) in (
      λ q. heard_later (rest.0 (ap (drop 1) q)),
      λ f. ap (λ (ys : List ℕ). x ∷ ys) (rest.1 (λ i l j. f (suc i) (omega arith) (omega arith))),
    )
  where
    heard_later : ((i : ℕ) → k ≤ i → i < n → get_or hs i 0 ≡ 0) → (i : ℕ) → suc k ≤ i → i < suc n → get_or (x ∷ hs) i 0 ≡ 0
    heard_later f zero l j = let no : ⊥ = omega arith in absurd no
    heard_later f (suc i) l j = f i (omega arith) (omega arith)

-- A lane on which so many are heard.
unfoldable pub lane_with : ℕ → Layout Lane
unfolding lane_layout pad_lane cut_lane via
lane_with count = via lane_layout pad_lane (cut_lane count)

heard_same : (count : ℕ) (x : Lane) → length x.heard ≡ parent_limit → length x.low ≡ low_limit
    → (pad_lane (cut_lane count x) ≡ x) ↔ (((i : ℕ) → count ≤ i → i < parent_limit → get_or x.heard i 0 ≡ 0) × ((i : ℕ) → suc count ≤ i → i < low_limit → get_or x.low i 0 ≡ 0))
unfolding pad_lane cut_lane
heard_same count x e f =
    let same = pad_cut parent_limit parent_limit count x.heard e (omega arith) in
    let low = pad_cut low_limit low_limit (suc count) x.low f (omega arith) in
    (λ q. (same.0 (ap (λ (y : Lane). y.heard) q), low.0 (ap (λ (y : Lane). y.low) q)), λ (g, k) i. with_low (low.1 k i) (with_heard (same.1 g i) x))

cut_fits : (count : ℕ) (x : Lane) → LaneFits x → LaneFits (cut_lane count x)
unfolding cut_lane
cut_fits count x h = record { mark = h.mark; taken = h.taken; heard = each_take TimeFits count x.heard h.heard; low = each_take TimeFits (suc count) x.low h.low; queue = h.queue }

module _ (s : List ℕ) (k : Bytes s) (a : ℕ) (h : a + block_size ≤ length s) where
  block_right : RightAt lane_layout a s ↔ (ListRight MessageRight queue_limit message_size (a + queue_at) s × ZerosAt (a + lane_rest_at) lane_rest s)
  unfolding lane_layout low_fields
  block_right =
      let whole = padded-at lane_body_sound a s lane_rest h in
      let first = pair-at (fields_sound lane_widths) a s (pair queue_layout low_fields) in
      let second = pair-at queue_sound (a + queue_at) s low_fields in
      let queue = queue_right s k (a + queue_at) (omega arith) in
      let low : RightAt low_fields (a + queue_at + 164) s = fields_at low_widths (a + queue_at + 164) s (omega arith) k in
      (λ r. (queue.0 (second.0 (first.0 (whole.0 r).0).1).0, (whole.0 r).1), λ r. whole.1 (first.1 (fields_at lane_widths a s (omega arith) k, second.1 (queue.1 r.0, low)), r.1))

  heard_word : (i : ℕ) → i < parent_limit → get_or (lane_layout.read (take block_size (drop a s))).heard i 0 ≡ word_at (a + heard_at + 4 * i) s
  heard_word i l =
      heard_at_lem (take block_size (drop a s)) i l
      ∙ ap (spelled 0) (part_part 4 (heard_at + 4 * i) block_size a s (omega arith))
      ∙ ap (λ (j : ℕ). word_at j s) (let e : a + (heard_at + 4 * i) ≡ a + heard_at + 4 * i = omega arith in e)

  low_word : (i : ℕ) → i < low_limit → get_or (lane_layout.read (take block_size (drop a s))).low i 0 ≡ word_at (a + low_at + 4 * i) s
  low_word i l =
      low_at_lem (take block_size (drop a s)) i l
      ∙ ap (spelled 0) (part_part 4 (low_at + 4 * i) block_size a s (omega arith))
      ∙ ap (λ (j : ℕ). word_at j s) (let e : a + (low_at + 4 * i) ≡ a + low_at + 4 * i = omega arith in e)

  pub lane_right : (count : ℕ) → RightAt (lane_with count) a s ↔ LaneRight count a s
  unfolding lane_with
  lane_right count =
      let t = take block_size (drop a s) in
      let x = lane_layout.read t in
      let fits = lane_sound.fits t (part_bytes a block_size s k) in
      let split = via-at lane_sound a s pad_lane (cut_lane count) (pad_fits (cut_lane count x) (cut_fits count x fits.lane)) in
      let heard = heard_same count x fits.four fits.five in (
        λ r.
            let v = split.0 r in
            let b = block_right.0 v.0 in
            record { heard = λ i l j. sym (heard_word i j) ∙ (heard.0 v.1).0 i l j; queue = b.0; low = λ i l j. sym (low_word i j) ∙ (heard.0 v.1).1 i (omega arith) j; rest = b.1 },
        λ r. split.1 (block_right.1 (r.queue, r.rest), heard.1 (λ i l j. heard_word i j ∙ r.heard i l j, λ i l j. low_word i j ∙ r.low i (omega arith) j)),
      )
