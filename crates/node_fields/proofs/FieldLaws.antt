-- A node's fields in the state's bytes: what is read is the node's, and what is written is the line with that node changed.
use Prim.Native.Nat.{ℕ, ◌^◌, ◌+◌, ◌*◌, ◌-◌, ◌≤◌, ◌<◌}
use mathlib.Core.Path.{◌≡◌, refl, sym, ap, subst, ◌∙◌}
use mathlib.Core.Bool.{Bool, true, not, true≢false}
use mathlib.Core.List.{List, [], ◌∷◌, ◌++◌}
use mathlib.Core.Option.{Option, none, some}
use native.Mathlib.Omega.{arith}
use lib.Dec.{lit≤, lit<}
use native.Mathlib.Decide.{dec_lt}
use lib.ListN.{length, get_or, take, drop, replicate, length-append, length-drop, take-append-drop}
use Rattle.basics.specs.Put.{put, puts, Adjacent, joined, put-replicate, puts-joined}
use Rattle.plan.specs.Layout.{Layout, bytes_of, up_to_slots}
use Rattle.plan.specs.Lawful.{UpToFit}
use Rattle.rules.specs.Line.{log_limit, held_limit, target_limit, Entry, Held, Target, Asked, Status, Node, node_at, with_node}
use Rattle.state.specs.Sizes.{count_size, page_at, crashed_at, time_at, log_at, entry_size, held_at, held_size, targets_at, target_size, kept_at, node_rest_at}
use Rattle.state.specs.Sound.{Sound}
use Rattle.state.specs.Pieces.{entry_layout, held_layout, target_layout, asked_fields, asked_layout, asked_numbers}
use Rattle.plan.specs.Plan.{plan_nodes}
use Rattle.plan.specs.Layout.{spelled}
use Rattle.rules.specs.Step.{is_nothing}
use Rattle.state.specs.Node.{status_number, crash_number, log_layout, held_list_layout, targets_layout, kept_layout}
use Rattle.state.specs.State.{line_bytes, line_of}
use Rattle.state.specs.Fits.{TimeFits, EntryFits, HeldFits, TargetFits, AskedFits, NodeFits}
use Rattle.rules.specs.Trim.{with_log}
use Rattle.state.specs.Changes.{with_status, with_crashed, with_time, with_held, with_targets, with_asked, more_logged, more_held, more_targets}
use Rattle.state.proofs.PieceLaws.{entry_sound, held_sound, target_sound}
use Rattle.state.proofs.BlockLaws.{KeptFits, kept_sound}
use Rattle.state.proofs.ListLaws.{each_append, each_split}
use Rattle.state.proofs.Swapped.{Swapped, swap_in, counts_long, more_put, cleared-put, front_gone_put}
use Rattle.state.proofs.Written.{node_status, node_crashed, node_time, node_log, node-held, node_targets, node_kept}
use Rattle.state.proofs.OffsetLaws.{line-log_at, line-held_at, line-target_at, line_kept_none, line_kept_some}
use Rattle.buffer.specs.Ready.{Ready}
use Rattle.buffer.specs.Holds.{AtNode, NodeNow}
use Rattle.slots.specs.List.{count_in, Whole}
use Rattle.buffer.proofs.ReadyLaws.{counted}
use Rattle.buffer.proofs.HoldsLaws.{node_fits, node_over, node-holds, node-put, node_now, node_log_counted, node_held_counted, node_targets_counted}

more_fit : {A : Type 0} (Fits : A → Type 0) (limit : ℕ) (xs : List A) (y : A) → UpToFit limit Fits xs → length xs < limit → Fits y → UpToFit limit Fits (xs ++ y ∷ [])
more_fit Fits limit xs y h k f = (rw length-append (omega arith), each_append Fits xs (y ∷ []) h.1 (f, tt))

-- So t is s, with the list whose count stands at a place emptied.
abbrev pub Cleared : ℕ → ℕ → List ℕ → List ℕ → Type 0
Cleared from slot s t = let to = from + 4 + slot * count_in from s in t ≡ take from s ++ replicate (to - from) 0 ++ drop to s

-- ---- the kept answer

four_of : (xs : List ℕ) → length xs ≡ 4 → xs ≡ get_or xs 0 0 ∷ get_or xs 1 0 ∷ get_or xs 2 0 ∷ get_or xs 3 0 ∷ []
four_of (a ∷ b ∷ c ∷ d ∷ []) h = refl
four_of [] h = let none : ⊥ = omega arith in absurd none
four_of (a ∷ []) h = let none : ⊥ = omega arith in absurd none
four_of (a ∷ b ∷ []) h = let none : ⊥ = omega arith in absurd none
four_of (a ∷ b ∷ c ∷ []) h = let none : ⊥ = omega arith in absurd none
four_of (a ∷ b ∷ c ∷ d ∷ e ∷ xs) h = let none : ⊥ = omega arith in absurd none

-- Six numbers, by their places.
six_kept : (k : List ℕ) (a b c d e f : ℕ) → a ≡ get_or (asked_numbers (asked_layout.read k)) 0 0 → b ≡ get_or (asked_numbers (asked_layout.read k)) 1 0 → c ≡ get_or (asked_numbers (asked_layout.read k)) 2 0
    → d ≡ get_or (asked_numbers (asked_layout.read k)) 3 0 → e ≡ get_or (asked_numbers (asked_layout.read k)) 4 0 → f ≡ get_or (asked_numbers (asked_layout.read k)) 5 0
    → ◌≡◌ {A = Asked} (record { low = a; high = b; entries = c ∷ d ∷ e ∷ f ∷ [] }) (asked_layout.read k)
unfolding asked_layout asked_fields
six_kept k a b c d e f ha hb hc hd he hf = λ i. record { low = ha i; high = hb i; entries = hc i ∷ hd i ∷ he i ∷ hf i ∷ [] }

-- What is read as number i of a kept answer.
abbrev pub NumberIs : Option Asked → ℕ → ℕ → Type 0
NumberIs o i v = (a : Asked) → o ≡ some a → v ≡ get_or (asked_numbers a) i 0

-- An answer that is kept is the one of its six numbers.
pub kept_read : (s : List ℕ) → Ready s → (n : ℕ) → n < plan_nodes s → true ≡ not (is_nothing (node_at (line_of s) n).asked) → (a b c d e f : ℕ)
    → NumberIs (node_at (line_of s) n).asked 0 a → NumberIs (node_at (line_of s) n).asked 1 b → NumberIs (node_at (line_of s) n).asked 2 c → NumberIs (node_at (line_of s) n).asked 3 d → NumberIs (node_at (line_of s) n).asked 4 e
    → NumberIs (node_at (line_of s) n).asked 5 f → some (record { low = a; high = b; entries = c ∷ d ∷ e ∷ f ∷ [] }) ≡ (node_at (line_of s) n).asked
kept_read s ready n inside kept a b c d e f ha hb hc hd he hf = elim (dec_lt 0 (spelled 0 (take 4 (drop (page_at n + kept_at) s)))) [
  | yes some-kept ↦ let is = line_kept_some s (counted ready) n inside some-kept in ap some (six_kept _ a b c d e f (ha _ is) (hb _ is) (hc _ is) (hd _ is) (he _ is) (hf _ is)) ∙ sym is
  | no none-kept ↦ absurd (true≢false (kept ∙ ap (λ (o : Option Asked). not (is_nothing o)) (line_kept_none s (counted ready) n inside (omega (arith, none-kept)))))
]

module _ {s : List ℕ} {n : ℕ} (at : AtNode s n) where
  abbrev x : Node
  x = node_at (line_of s) n

  -- ---- what lies in a slot

  pub log_read : (i : ℕ) (d : Entry) → i < length x.log → get_or x.log i d ≡ entry_layout.read (take entry_size (drop (page_at n + log_at + count_size + entry_size * i) s))
  log_read i d h =
      let place : page_at n + (log_at + count_size + entry_size * i) ≡ page_at n + log_at + count_size + entry_size * i = omega arith in
      line-log_at s (counted at.holds.ready) n at.inside i d (rw (node_log_counted at) h) (omega (arith, (node_fits at).log.0)) ∙ ap (λ (a : ℕ). entry_layout.read (take entry_size (drop a s))) place

  pub held_read : (i : ℕ) (d : Held) → i < length x.held → get_or x.held i d ≡ held_layout.read (take held_size (drop (page_at n + held_at + count_size + held_size * i) s))
  held_read i d h =
      let place : page_at n + (held_at + count_size + held_size * i) ≡ page_at n + held_at + count_size + held_size * i = omega arith in
      line-held_at s (counted at.holds.ready) n at.inside i d (rw (node_held_counted at) h) (omega (arith, (node_fits at).held.0)) ∙ ap (λ (a : ℕ). held_layout.read (take held_size (drop a s))) place

  pub target_read : (i : ℕ) (d : Target) → i < length x.targets → get_or x.targets i d ≡ target_layout.read (take target_size (drop (page_at n + targets_at + count_size + target_size * i) s))
  target_read i d h =
      let place : page_at n + (targets_at + count_size + target_size * i) ≡ page_at n + targets_at + count_size + target_size * i = omega arith in
      line-target_at s (counted at.holds.ready) n at.inside i d (rw (node_targets_counted at) h) (omega (arith, (node_fits at).targets.0)) ∙ ap (λ (a : ℕ). target_layout.read (take target_size (drop a s))) place

  -- ---- status, crash mark, time

  pub status_written : {t : List ℕ} (v : Status) → t ≡ put s (page_at n) (bytes_of 1 (status_number v)) → NodeNow s n (with_status v) t
  status_written v e =
      let f = node_fits at in
      node_now (with_status v) at (node-put at (with_status v x) (record { time = f.time; log = f.log; held = f.held; targets = f.targets; asked = f.asked }) (node_status x v) (counts_long 1 (status_number x.status) (status_number v)) (page_at n) (omega arith) e)

  pub crash_written : {t : List ℕ} (v : Bool) → t ≡ put s (page_at n + crashed_at) (bytes_of 1 (crash_number v)) → NodeNow s n (with_crashed v) t
  crash_written v e =
      let f = node_fits at in
      node_now (with_crashed v) at (node-put at (with_crashed v x) (record { time = f.time; log = f.log; held = f.held; targets = f.targets; asked = f.asked }) (node_crashed x v) (counts_long 1 (crash_number x.crashed) (crash_number v)) (page_at n + crashed_at) refl e)

  pub time_written : {t : List ℕ} (v : ℕ) → TimeFits v → t ≡ put s (page_at n + time_at) (bytes_of 4 v) → NodeNow s n (with_time v) t
  time_written v h e =
      let f = node_fits at in
      node_now (with_time v) at (node-put at (with_time v x) (record { time = h; log = f.log; held = f.held; targets = f.targets; asked = f.asked }) (node_time x v) (counts_long 4 x.time v) (page_at n + time_at) refl e)

  -- ---- the kept answer

  pub kept_written : {t : List ℕ} (v : Option Asked) → KeptFits v → t ≡ put s (page_at n + kept_at) (kept_layout.write v) → NodeNow s n (with_asked v) t
  kept_written v h e =
      let f = node_fits at in
      node_now (with_asked v) at (node-put at (with_asked v x) (record { time = f.time; log = f.log; held = f.held; targets = f.targets; asked = h }) (node_kept x v) (kept_sound.sized x.asked ∙ sym (kept_sound.sized v)) (page_at n + kept_at) refl e)

  pub kept_cleared : {t : List ℕ} (from to : ℕ) → from ≡ page_at n + kept_at → to ≡ page_at n + node_rest_at → t ≡ take from s ++ replicate (to - from) 0 ++ drop to s → NodeNow s n (with_asked none) t
  unfolding kept_layout
  kept_cleared from to q r e = kept_written none (lit≤ tt, tt) (e ∙ put-replicate s from to 28 0 (omega arith) ∙ ap (λ (a : ℕ). put s a (replicate 28 0)) q)

  -- Its count and its six numbers, one behind the other.
  pub kept_put : {t : List ℕ} (v : Asked) → length v.entries ≡ 4 → v.low < 2 ^ 32 → v.high < 2 ^ 32 → ((i : ℕ) → i < 4 → get_or v.entries i 0 < 2 ^ 32) → (at : ℕ) → at ≡ page_at n + kept_at → at ≤ length s
      → t ≡ puts s ((at, bytes_of 4 1) ∷ (at + 4, bytes_of 4 v.low) ∷ (at + 8, bytes_of 4 v.high) ∷ (at + 12, bytes_of 4 (get_or v.entries 0 0)) ∷ (at + 16, bytes_of 4 (get_or v.entries 1 0)) ∷ (at + 20, bytes_of 4 (get_or v.entries 2 0)) ∷ (at + 24, bytes_of 4 (get_or v.entries 3 0)) ∷ [])
      → NodeNow s n (with_asked (some v)) t
  unfolding kept_layout
  kept_put v four low high each at q inside put-them =
      let e : ℕ → ℕ = λ i. get_or v.entries i 0 in
      let ps : List (ℕ × List ℕ) = (at, bytes_of 4 1) ∷ (at + 4, bytes_of 4 v.low) ∷ (at + 8, bytes_of 4 v.high) ∷ (at + 12, bytes_of 4 (e 0)) ∷ (at + 16, bytes_of 4 (e 1)) ∷ (at + 20, bytes_of 4 (e 2)) ∷ (at + 24, bytes_of 4 (e 3)) ∷ [] in
      let next : Adjacent at ps = (refl, (refl, (omega arith, (omega arith, (omega arith, (omega arith, (omega arith, tt))))))) in
      let fits : AskedFits (record { low = v.low; high = v.high; entries = e 0 ∷ e 1 ∷ e 2 ∷ e 3 ∷ [] }) = (low, (high, (each 0 (lit< tt), (each 1 (lit< tt), (each 2 (lit< tt), (each 3 (lit< tt), tt)))))) in
      let same : v ≡ record { low = v.low; high = v.high; entries = e 0 ∷ e 1 ∷ e 2 ∷ e 3 ∷ [] } = ap (λ (es : List ℕ). record { low = v.low; high = v.high; entries = es }) (four_of v.entries four) in
      kept_written (some v) (lit≤ tt, (subst AskedFits (sym same) fits, tt))
      (put-them ∙ puts-joined s at ps inside next ∙ ap (λ (o : ℕ). put s o (joined ps)) q ∙ ap (λ (a : Asked). put s (page_at n + kept_at) (kept_layout.write (some a))) (sym same))

  -- ---- lists emptied

  fits_log : (es : List Entry) → UpToFit log_limit EntryFits es → NodeFits (with_log es x)
  fits_log es h = let f = node_fits at in record { time = f.time; log = h; held = f.held; targets = f.targets; asked = f.asked }

  fits_held : (hs : List Held) → UpToFit held_limit HeldFits hs → NodeFits (with_held hs x)
  fits_held hs h = let f = node_fits at in record { time = f.time; log = f.log; held = h; targets = f.targets; asked = f.asked }

  fits_targets : (ts : List Target) → UpToFit target_limit TargetFits ts → NodeFits (with_targets ts x)
  fits_targets ts h = let f = node_fits at in record { time = f.time; log = f.log; held = f.held; targets = h; asked = f.asked }

  log_over : (es : List Entry) → Swapped (page_at n + log_at) (log_layout.write x.log) (log_layout.write es) s (line_bytes (with_node n (with_log es x) (line_of s)))
  log_over es = swap_in (node_over at (with_log es x)) (node_log x es)

  held_over : (hs : List Held) → Swapped (page_at n + held_at) (held_list_layout.write x.held) (held_list_layout.write hs) s (line_bytes (with_node n (with_held hs x) (line_of s)))
  held_over hs = swap_in (node_over at (with_held hs x)) (node-held x hs)

  targets_over : (ts : List Target) → Swapped (page_at n + targets_at) (targets_layout.write x.targets) (targets_layout.write ts) s (line_bytes (with_node n (with_targets ts x) (line_of s)))
  targets_over ts = swap_in (node_over at (with_targets ts x)) (node_targets x ts)

  -- Each list with its slots lies within the state.
  pub log_whole : Whole (record { at = log_at; slot = entry_size }) s (page_at n)
  log_whole =
      let count : count_in (page_at n + log_at) s ≡ length x.log = node_log_counted at in
      record { long = omega (arith, at.holds.ready.long); slots = omega (arith, count, (node_fits at).log.0, at.inside, at.holds.ready.nodes, at.holds.ready.long); size = lit< tt; few = omega (arith, count, (node_fits at).log.0) }

  pub held_whole : Whole (record { at = held_at; slot = held_size }) s (page_at n)
  held_whole =
      let count : count_in (page_at n + held_at) s ≡ length x.held = node_held_counted at in
      record { long = omega (arith, at.holds.ready.long); slots = omega (arith, count, (node_fits at).held.0, at.inside, at.holds.ready.nodes, at.holds.ready.long); size = lit< tt; few = omega (arith, count, (node_fits at).held.0) }

  pub targets_whole : Whole (record { at = targets_at; slot = target_size }) s (page_at n)
  targets_whole =
      let count : count_in (page_at n + targets_at) s ≡ length x.targets = node_targets_counted at in
      record { long = omega (arith, at.holds.ready.long); slots = omega (arith, count, (node_fits at).targets.0, at.inside, at.holds.ready.nodes, at.holds.ready.long); size = lit< tt; few = omega (arith, count, (node_fits at).targets.0) }

  pub log_cleared : {t : List ℕ} → Cleared (page_at n + log_at) entry_size s t → NodeNow s n (with_log []) t
  unfolding log_layout entry_layout
  log_cleared e =
      node_now (with_log []) at (node-holds at (with_log [] x) (fits_log [] (omega arith, tt)) (e ∙ sym (cleared-put entry_sound count_size log_limit x.log (log_over []) (node_fits at).log.0 (page_at n + log_at + count_size + entry_size * count_in (page_at n + log_at) s) (ap (λ k. page_at n + log_at + count_size + entry_size * k) (node_log_counted at)))))

  pub held-cleared : {t : List ℕ} → Cleared (page_at n + held_at) held_size s t → NodeNow s n (with_held []) t
  unfolding held_list_layout held_layout
  held-cleared e =
      node_now (with_held []) at (node-holds at (with_held [] x) (fits_held [] (omega arith, tt)) (e ∙ sym (cleared-put held_sound count_size held_limit x.held (held_over []) (node_fits at).held.0 (page_at n + held_at + count_size + held_size * count_in (page_at n + held_at) s) (ap (λ k. page_at n + held_at + count_size + held_size * k) (node_held_counted at)))))

  pub targets_cleared : {t : List ℕ} → Cleared (page_at n + targets_at) target_size s t → NodeNow s n (with_targets []) t
  unfolding targets_layout target_layout
  targets_cleared e =
      node_now (with_targets []) at (node-holds at (with_targets [] x) (fits_targets [] (omega arith, tt)) (e ∙ sym (cleared-put target_sound count_size target_limit x.targets (targets_over []) (node_fits at).targets.0 (page_at n + targets_at + count_size + target_size * count_in (page_at n + targets_at) s) (ap (λ k. page_at n + targets_at + count_size + target_size * k) (node_targets_counted at)))))

  -- ---- one thing more in a list: it is counted, then its slot is written

  module _ {A : Type 0} {l : Layout A} {Fits : A → Type 0} (inner : Sound l Fits) (limit o : ℕ) (xs : List A) (e : A) (few : length xs < limit) (counted : count_in (page_at n + o) s ≡ length xs) where
    more : (f : Node → Node) → NodeFits (f x) → Swapped (page_at n + o) ((up_to_slots count_size limit l).write xs) ((up_to_slots count_size limit l).write (xs ++ e ∷ [])) s (line_bytes (with_node n (f x) (line_of s)))
        → {t u : List ℕ} (a : ℕ) → u ≡ put s (page_at n + o) (bytes_of 4 (count_in (page_at n + o) s + 1)) → a ≡ page_at n + o + count_size + l.size * count_in (page_at n + o) s → t ≡ put u a (l.write e) → NodeNow s n f t
    more f fits w a first place second =
        node_now f at (node-holds at (f x) fits
        (second ∙ ap (λ (b : List ℕ). put b a (l.write e)) (rw counted at first)
        ∙ sym (more_put inner count_size limit xs e w few a (rw counted at place))))

  pub entry_more : {t u : List ℕ} (e : Entry) → EntryFits e → length x.log < log_limit → (a : ℕ) → u ≡ put s (page_at n + log_at) (bytes_of 4 (count_in (page_at n + log_at) s + 1))
      → a ≡ page_at n + log_at + count_size + entry_size * count_in (page_at n + log_at) s → t ≡ put u a (entry_layout.write e) → NodeNow s n (more_logged e) t
  unfolding log_layout entry_layout
  entry_more e f h =
      let es = x.log ++ e ∷ [] in
      more entry_sound log_limit log_at x.log e h (node_log_counted at) (more_logged e) (fits_log es (more_fit EntryFits log_limit x.log e (node_fits at).log h f)) (log_over es)

  pub held_more : {t u : List ℕ} (e : Held) → HeldFits e → length x.held < held_limit → (a : ℕ) → u ≡ put s (page_at n + held_at) (bytes_of 4 (count_in (page_at n + held_at) s + 1))
      → a ≡ page_at n + held_at + count_size + held_size * count_in (page_at n + held_at) s → t ≡ put u a (held_layout.write e) → NodeNow s n (more_held e) t
  unfolding held_list_layout held_layout
  held_more e f h =
      let hs = x.held ++ e ∷ [] in
      more held_sound held_limit held_at x.held e h (node_held_counted at) (more_held e) (fits_held hs (more_fit HeldFits held_limit x.held e (node_fits at).held h f)) (held_over hs)

  pub target_more : {t u : List ℕ} (e : Target) → TargetFits e → length x.targets < target_limit → (a : ℕ) → u ≡ put s (page_at n + targets_at) (bytes_of 4 (count_in (page_at n + targets_at) s + 1))
      → a ≡ page_at n + targets_at + count_size + target_size * count_in (page_at n + targets_at) s → t ≡ put u a (target_layout.write e) → NodeNow s n (more_targets e) t
  unfolding targets_layout target_layout
  target_more e f h =
      let ts = x.targets ++ e ∷ [] in
      more target_sound target_limit targets_at x.targets e h (node_targets_counted at) (more_targets e) (fits_targets ts (more_fit TargetFits target_limit x.targets e (node_fits at).targets h f)) (targets_over ts)

  -- ---- entries gone at the log's front: the count of those left is written, then their slots move

  pub log_gone : {t u : List ℕ} (m left : ℕ) → m ≤ length x.log → left ≡ length x.log - m → u ≡ put s (page_at n + log_at) (bytes_of 4 left)
      → t ≡ put u (page_at n + log_at + count_size) (take (entry_size * left) (drop (page_at n + log_at + count_size + entry_size * m) u) ++ replicate (entry_size * m) 0)
      → NodeNow s n (λ y. with_log (drop m y.log) y) t
  unfolding log_layout entry_layout
  log_gone {u = u} m left h q first e =
      let es = drop m x.log in
      let long : length es ≡ left = length-drop m x.log ∙ sym q in
      let f = (node_fits at).log in
      let fits = fits_log es (omega (arith, f.0), (each_split EntryFits (take m x.log) es (rw take-append-drop f.1)).1) in
      node_now (λ y. with_log (drop m y.log) y) at (node-holds at (with_log es x) fits
      (e ∙ sym (rw long at (front_gone_put entry_sound count_size log_limit x.log m (log_over es) h f.0 (entry_size * m) refl u (rw long first)))))
