-- The lists of a node's page, as the check goes over them.
use Prim.Native.Nat.{ℕ, zero, suc, ◌+◌, ◌*◌, ◌-◌, min, ◌≤◌, ◌<◌}
use mathlib.Core.Path.{◌≡◌, refl, sym, ap, ◌∙◌}
use mathlib.Core.Bool.{Bool, true, false, not, ◌&&◌, ◌||◌, and-true, and-false, and_assoc, not-not, true≢false}
use mathlib.Core.List.{List, [], ◌∷◌}
use native.Mathlib.Nat.{add-zero}
use native.Mathlib.Omega.{arith}
use borrow.Author.Tests.{ltb-true, ltb-false, le-leb, lt-leb, eq-eqb, ne_eqb}
use lib.Dec.{leb, ltb, eqb}
use lib.Bits.{bit_or}
use lib.ListN.{length, get_or, set}
use lib.Seq.{ext_get_or}
use Rattle.plan.specs.Plan.{Plan, plan_of, is_source, is_sink}
use Rattle.rules.specs.Lists.{all_of, is_empty}
use Rattle.rules.specs.Line.{log_limit, held_limit, target_limit, Entry, Held, Target, Status, up, down, replay, Node, Line, node_at, is_up, accepted_steps}
use Rattle.rules.specs.Step.{is_nothing}
use Rattle.rules.specs.Damaged.{mark_missing, mark_on_end, node_holds, holds_by_status}
use Rattle.rules.specs.Replay.{passed_on}
use Rattle.state.specs.Sizes.{page_at, count_size, time_at, log_at, entry_size, held_at, held_size, targets_at, target_size, kept_at, kept_size, node_rest_at, node_rest}
use Rattle.state.specs.Node.{status_number}
use Rattle.state.specs.State.{line_of}
use Rattle.state.specs.Right.{word_at}
use Rattle.state.proofs.InPlace.{Counted, line-plan}
use Rattle.state.proofs.OffsetLaws.{line_time, line_log_count, line-log_at, line_held_count, line-held_at, line_targets_count, line-target_at}
use Rattle.items.specs.Items.{is_inner, may_follow, log_rise, entry_right, entries_right, set_right, log_right, held_rise, none_held, held_right, held_all_right, target_right, counts_right, status_right, node_plain}
use Rattle.buffer.specs.Exact.{zero_at, entry_exact, held_exact, target_exact, asked_exact, slots_exact, list_exact, page_exact}
use Rattle.node_check.specs.NodeCheck.{PageOf, entry_in, held_in, target_in, head_exact, entry_plain, entry_made, held_plain, held_made, page_end_exact, holds_nothing, slots_pass, entry_passes, entry_next, log_pass, ListFound}
use Rattle.buffer.specs.Nothing.{no_entry, no_held, no_target}
use Rattle.buffer.specs.Check.{record_in}
use Rattle.node_check.proofs.SlotLaws.{Going, going_start, swap_middle, slots_in, passes, length-slots, slots_at, slots_pass_lem, pass_more}
use Rattle.buffer.proofs.BytesLaws.{two_zero}
use Rattle.buffer.proofs.ReadyLaws.{counted, kept_counted}
use Rattle.buffer.proofs.PieceReads.{entry_in_lem, held_in_lem}
use Rattle.node_check.proofs.PieceBytes.{entry_ordered, held_ordered}

pub page_room : {s : List ℕ} {n at : ℕ} → PageOf s n at → at + 4096 ≤ length s
page_room page = omega (arith, page.ready.long, page.ready.nodes, page.within, page.start)

-- A list in a page is what its slots hold.
module _ {A : Type 0} (item : ℕ → List ℕ → A) (d : A) (size a count : ℕ) (s : List ℕ) (xs : List A) where
  list_slots : length xs ≡ count → ((i : ℕ) → i < count → get_or xs i d ≡ item (a + size * i) s) → xs ≡ slots_in item size a count s
  list_slots long each =
      ext_get_or d xs (slots_in item size a count s) (long ∙ sym (length-slots item size s a count))
      (λ i h. let below : i < count = omega (arith, long) in each i below ∙ sym (slots_at item size s d a count i below))

-- ---- the log

log_passes : (l : Line) (n top last : ℕ) (es : List Entry) → passes (entry_passes l n top) entry_next last es ≡ (all_of (entry_right l n) es && log_rise (is_inner l.plan n) last top es)
log_passes l n top last [] = refl
log_passes l n top last (e ∷ es) =
    ap (λ (t : Bool). entry_passes l n top last e && t) (log_passes l n top e.time es)
    ∙ swap_middle (entry_right l n e) (may_follow (is_inner l.plan n) last e.time e.set && leb e.time top) (all_of (entry_right l n) es) (log_rise (is_inner l.plan n) e.time top es)

module _ (s : List ℕ) (n : ℕ) where
  abbrev pub line_in : Line
  line_in = line_of s

  abbrev pub node_in : Node
  node_in = node_at (line_of s) n

  -- One entry more.
  module _ (last a k time top : ℕ) (inner plain fits : Bool) (e : time ≡ word_at (a + 8) s) (f : top ≡ node_in.time) (at_inner : inner ≡ is_inner (plan_of s) n) (g : plain ≡ entry_plain a s) (h : fits ≡ (plain && (may_follow inner last time (get_or s (a + 22) 0) && leb time top))) where
    entries_turn : log_pass s n last a (suc k) ≡ ((fits && entry_made n a s) && log_pass s n time (a + entry_size) k)
    entries_turn =
        let same : (entry_in a s).time ≡ time = ap (λ (x : Entry). x.time) (entry_in_lem a s) ∙ sym e in
        let set : (entry_in a s).set ≡ get_or s (a + 22) 0 = ap (λ (x : Entry). x.set) (entry_in_lem a s) in
        let where-it-stands : is_inner line_in.plan n ≡ inner = ap (λ (p : Plan). is_inner p n) (line-plan s) ∙ sym at_inner in
        rw (same, set, where-it-stands, h, g, f) (ap (λ (t : Bool). t && log_pass s n time (a + entry_size) k) (entry_ordered n a s (may_follow inner last time (get_or s (a + 22) 0) && leb time node_in.time)))

    pub entry_bare : fits ≡ false → log_pass s n last a (suc k) ≡ false
    entry_bare wrong = entries_turn ∙ rw wrong refl

    module _ (made : Bool) (right : fits ≡ true) (i : made ≡ entry_made n a s) where
      pub entry_unmade : made ≡ false → log_pass s n last a (suc k) ≡ false
      entry_unmade m = entries_turn ∙ rw (right, ← i, m) refl

      pub entry_more : made ≡ true → log_pass s n last a (suc k) ≡ log_pass s n time (a + entry_size) k
      entry_more m = entries_turn ∙ rw (right, ← i, m) refl

  -- An entry that is later than the last may follow it.
  pub later_fits : (inner plain : Bool) (last time top set : ℕ) → (plain && (ltb last time && leb time top)) ≡ true → true ≡ (plain && (may_follow inner last time set && leb time top))
  later_fits inner plain last time top set e = one plain (ltb last time) (leb time top) e
    where
      one : (p a b : Bool) → (p && (a && b)) ≡ true → true ≡ (p && ((a || (inner && eqb last time && eqb set 0)) && b))
      one true true b e = sym e
      one true false b e = absurd (true≢false (sym e))
      one false a b e = absurd (true≢false (sym e))

  pub time_in : (at : ℕ) → PageOf s n at → (t : ℕ) → t ≡ word_at (at + time_at) s → t ≡ node_in.time
  time_in at page t e = e ∙ rw page.start (sym (line_time s (counted page.ready) n page.within))

  module _ (at : ℕ) (page : PageOf s n at) (count : ℕ) (is : count ≡ word_at (page_at n + log_at) s) (small : count ≤ log_limit) where
    pub log_slots : node_in.log ≡ slots_in entry_in entry_size (page_at n + log_at + count_size) count s
    log_slots =
        list_slots entry_in no_entry entry_size (page_at n + log_at + count_size) count s node_in.log
        (line_log_count s (counted page.ready) n page.within ∙ rw (← is) (omega arith))
        (λ i h.
        (let there : page_at n + (log_at + count_size + entry_size * i) ≡ page_at n + log_at + count_size + entry_size * i = omega arith in
        line-log_at s (counted page.ready) n page.within i no_entry (omega arith) (omega arith) ∙ ap (λ (a : ℕ). entry_in a s) there))

    pub log_whole : log_pass s n 0 (page_at n + log_at + count_size) count ≡ (slots_exact entry_exact entry_size (page_at n + log_at + count_size) count s && entries_right line_in n node_in.log)
    unfolding entries_right
    log_whole =
        slots_pass_lem entry_in entry_size s entry_exact (entry_passes line_in n node_in.time) entry_next 0 (page_at n + log_at + count_size) count
        ∙ ap (λ (t : Bool). slots_exact entry_exact entry_size (page_at n + log_at + count_size) count s && t) (ap (passes (entry_passes line_in n node_in.time) entry_next 0) (sym log_slots) ∙ log_passes line_in n node_in.time 0 node_in.log)

    pub log_going : Going (log_pass s n) (at + 12) entry_size count (slots_exact entry_exact entry_size (page_at n + log_at + count_size) count s && entries_right line_in n node_in.log) 0 0
    log_going =
        let there : at + 12 ≡ page_at n + log_at + count_size = omega (arith, page.start) in
        rw (there, ← log_whole) (going_start (log_pass s n) (page_at n + log_at + count_size) entry_size count 0)

-- ---- held records

module _ (l : Line) (n : ℕ) where
  abbrev pub held_passes : List ℕ → Held → Bool
  held_passes last h = held_right l n h && ltb (get_or last h.sender 0) h.time

  abbrev pub held_next : List ℕ → Held → List ℕ
  held_next last h = set last h.sender h.time

  held_passes_lem : (last : List ℕ) (hs : List Held) → passes held_passes held_next last hs ≡ (all_of (held_right l n) hs && held_rise last hs)
  held_passes_lem last [] = refl
  held_passes_lem last (h ∷ hs) =
      ap (λ (t : Bool). held_passes last h && t) (held_passes_lem (held_next last h) hs)
      ∙ swap_middle (held_right l n h) (ltb (get_or last h.sender 0) h.time) (all_of (held_right l n) hs) (held_rise (held_next last h) hs)

-- The held records from an offset on.
abbrev pub held_pass : List ℕ → ℕ → List ℕ → ℕ → ℕ → Bool
held_pass s n last a k = slots_pass held_in held_size s held_exact (held_passes (line_of s) n) (held_next (line_of s) n) last a k

module _ (s : List ℕ) (n : ℕ) where
  -- One held record more.
  module _ (last : List ℕ) (a k sender time row : ℕ) (d : sender ≡ get_or s (a + 8) 0) (e : time ≡ word_at (a + 9) s) (f : row ≡ get_or last sender 0) where
    held_turn : held_pass s n last a (suc k) ≡ (((held_plain a s && ltb row time) && (held_made n a s && passed_on (plan_of s) n (record_in a s))) && held_pass s n (set last sender time) (a + held_size) k)
    held_turn =
        let from : (held_in a s).sender ≡ sender = ap (λ (x : Held). x.sender) (held_in_lem a s) ∙ sym d in
        let same : (held_in a s).time ≡ time = ap (λ (x : Held). x.time) (held_in_lem a s) ∙ sym e in
        rw (from, same, f, ← line-plan s) (ap (λ (t : Bool). t && held_pass s n (set last sender time) (a + held_size) k) (held_ordered n a s (ltb (get_or last sender 0) time)))

    pub held_bare : (plain : Bool) → plain ≡ held_plain a s → (plain && ltb row time) ≡ false → held_pass s n last a (suc k) ≡ false
    held_bare plain g h = held_turn ∙ rw (← g, h) refl

    module _ (plain made passed : Bool) (g : plain ≡ held_plain a s) (h : (plain && ltb row time) ≡ true) (i : made ≡ held_made n a s) (j : passed ≡ passed_on (plan_of s) n (record_in a s)) where
      pub held_unmade : (made && passed) ≡ false → held_pass s n last a (suc k) ≡ false
      held_unmade m = held_turn ∙ rw (← g, h, ← i, ← j, m) refl

      pub held_more : (after : List ℕ) → after ≡ set last sender time → (made && passed) ≡ true → held_pass s n last a (suc k) ≡ held_pass s n after (a + held_size) k
      held_more after x m = held_turn ∙ rw (← g, h, ← i, ← j, m, x) refl

  module _ (at : ℕ) (page : PageOf s n at) (count : ℕ) (is : count ≡ word_at (page_at n + held_at) s) (small : count ≤ held_limit) where
    pub held-slots : (node_at (line_of s) n).held ≡ slots_in held_in held_size (page_at n + held_at + count_size) count s
    held-slots =
        list_slots held_in no_held held_size (page_at n + held_at + count_size) count s (node_at (line_of s) n).held
        (line_held_count s (counted page.ready) n page.within ∙ rw (← is) (omega arith))
        (λ i h.
        (let there : page_at n + (held_at + count_size + held_size * i) ≡ page_at n + held_at + count_size + held_size * i = omega arith in
        line-held_at s (counted page.ready) n page.within i no_held (omega arith) (omega arith) ∙ ap (λ (a : ℕ). held_in a s) there))

    pub held_whole : held_pass s n none_held (page_at n + held_at + count_size) count ≡ (slots_exact held_exact held_size (page_at n + held_at + count_size) count s && held_all_right (line_of s) n (node_at (line_of s) n).held)
    unfolding held_all_right
    held_whole =
        slots_pass_lem held_in held_size s held_exact (held_passes (line_of s) n) (held_next (line_of s) n) none_held (page_at n + held_at + count_size) count
        ∙ ap (λ (t : Bool). slots_exact held_exact held_size (page_at n + held_at + count_size) count s && t) (ap (passes (held_passes (line_of s) n) (held_next (line_of s) n) none_held) (sym held-slots) ∙ held_passes_lem (line_of s) n none_held (node_at (line_of s) n).held)

    pub held_going : Going (held_pass s n) (at + 1552) held_size count (slots_exact held_exact held_size (page_at n + held_at + count_size) count s && held_all_right (line_of s) n (node_at (line_of s) n).held) none_held 0
    held_going =
        let there : at + 1552 ≡ page_at n + held_at + count_size = omega (arith, page.start) in
        rw (there, ← held_whole) (going_start (held_pass s n) (page_at n + held_at + count_size) held_size count none_held)

-- ---- targets

module _ (l : Line) (n : ℕ) where
  abbrev pub target_passes : ℕ → Target → Bool
  target_passes u t = target_right l n t

  abbrev pub target_next : ℕ → Target → ℕ
  target_next u t = u

  target_passes_lem : (u : ℕ) (ts : List Target) → passes target_passes target_next u ts ≡ all_of (target_right l n) ts
  target_passes_lem u [] = refl
  target_passes_lem u (t ∷ ts) = ap (λ (b : Bool). target_right l n t && b) (target_passes_lem u ts)

-- The targets from an offset on.
abbrev pub target_pass : List ℕ → ℕ → ℕ → ℕ → Bool
target_pass s n a k = slots_pass target_in target_size s target_exact (target_passes (line_of s) n) (target_next (line_of s) n) 0 a k

module _ (s : List ℕ) (n : ℕ) where
  -- One target more.
  pub target_more : (one : Bool) (a k : ℕ) → one ≡ (target_exact a s && target_right (line_of s) n (target_in a s)) → target_pass s n a (suc k) ≡ (one && target_pass s n (a + target_size) k)
  target_more one a k g = pass_more target_in target_size s target_exact (target_passes (line_of s) n) (target_next (line_of s) n) true 0 a k ∙ rw g refl

  module _ (at : ℕ) (page : PageOf s n at) (count : ℕ) (is : count ≡ word_at (page_at n + targets_at) s) (small : count ≤ target_limit) where
    pub target-slots : (node_at (line_of s) n).targets ≡ slots_in target_in target_size (page_at n + targets_at + count_size) count s
    target-slots =
        list_slots target_in no_target target_size (page_at n + targets_at + count_size) count s (node_at (line_of s) n).targets
        (line_targets_count s (counted page.ready) n page.within ∙ rw (← is) (omega arith))
        (λ i h.
        (let there : page_at n + (targets_at + count_size + target_size * i) ≡ page_at n + targets_at + count_size + target_size * i = omega arith in
        line-target_at s (counted page.ready) n page.within i no_target (omega arith) (omega arith) ∙ ap (λ (a : ℕ). target_in a s) there))

    pub target-whole : target_pass s n (page_at n + targets_at + count_size) count ≡ (slots_exact target_exact target_size (page_at n + targets_at + count_size) count s && all_of (target_right (line_of s) n) (node_at (line_of s) n).targets)
    target-whole =
        slots_pass_lem target_in target_size s target_exact (target_passes (line_of s) n) (target_next (line_of s) n) 0 (page_at n + targets_at + count_size) count
        ∙ ap (λ (t : Bool). slots_exact target_exact target_size (page_at n + targets_at + count_size) count s && t) (ap (passes (target_passes (line_of s) n) (target_next (line_of s) n) 0) (sym target-slots) ∙ target_passes_lem (line_of s) n 0 (node_at (line_of s) n).targets)

-- ---- a list, its count and what stands behind it

module _ (slot : ℕ → List ℕ → Bool) (limit size a : ℕ) (s : List ℕ) (right : Bool) where
  pub list_many : limit < word_at a s → (list_exact slot limit size a s && right) ≡ false
  unfolding list_exact
  list_many h = rw (lt-leb (word_at a s) limit h)

  list_parts : (u z r : Bool) → ((u && r) && z) ≡ ((u && z) && r)
  list_parts true z true = sym (and-true z)
  list_parts true z false = sym (and-false z)
  list_parts false z r = refl

  pub list_few : (used unused : Bool) → word_at a s ≤ limit → used ≡ (slots_exact slot size (a + count_size) (word_at a s) s && right) → unused ≡ zero_at (a + count_size + size * word_at a s) (size * (limit - word_at a s)) s
      → (used && unused) ≡ (list_exact slot limit size a s && right)
  unfolding list_exact
  list_few used unused h e f = rw (e, f, le-leb (word_at a s) limit h) (list_parts (slots_exact slot size (a + count_size) (word_at a s) s) (zero_at (a + count_size + size * word_at a s) (size * (limit - word_at a s)) s) right)

  -- What was found of a list, by what its test says.
  pub list_found : {says : ℕ → Bool → Type 0} {found : Bool} → ListFound says limit size a s found
      → ((used : Bool) → word_at a s ≤ limit → says (word_at a s) used → used ≡ (slots_exact slot size (a + count_size) (word_at a s) s && right))
      → found ≡ (list_exact slot limit size a s && right)
  list_found {found = found} f is = go (ltb limit (word_at a s)) refl
    where
      go : (t : Bool) → ltb limit (word_at a s) ≡ t → found ≡ (list_exact slot limit size a s && right)
      go true e = let many = ltb-true limit (word_at a s) e in f.many many ∙ sym (list_many many)
      go false e =
          let few = ltb-false limit (word_at a s) e in
          let (used, says, found) = f.few few in
          found ∙ list_few used _ few (is used few says) refl

-- The end of a page: a kept answer has no bytes that are asked of.
asked_slots : (size a n : ℕ) (s : List ℕ) → slots_exact asked_exact size a n s ≡ true
asked_slots size a zero s = refl
asked_slots size a (suc n) s = asked_slots size (a + size) n s

pub rest_found : {says : ℕ → Bool → Type 0} {found : Bool} (s : List ℕ) (a : ℕ) → ListFound says 1 kept_size (a + kept_at) s found → ((used : Bool) → says (word_at (a + kept_at) s) used → used ≡ true)
    → (behind : Bool) → behind ≡ zero_at (a + node_rest_at) node_rest s → (found && behind) ≡ page_end_exact a s
rest_found s a f is behind e =
    let kept = list_found asked_exact 1 kept_size (a + kept_at) s true f (λ used few k. is used k ∙ sym (and-true _ ∙ asked_slots kept_size (a + kept_at + count_size) (word_at (a + kept_at) s) s)) in
    (λ i. (kept ∙ and-true (list_exact asked_exact 1 kept_size (a + kept_at) s)) i && e i)

-- A log's entries, and their sets.
pub log_both : (s : List ℕ) (n : ℕ) (slots : Bool)
    → ((slots && entries_right (line_of s) n (node_at (line_of s) n).log) && all_of (set_right (plan_of s) n) (node_at (line_of s) n).log) ≡ (slots && log_right (line_of s) n (node_at (line_of s) n).log)
unfolding log_right
log_both s n slots =
    let log = (node_at (line_of s) n).log in
    and_assoc slots (entries_right (line_of s) n log) (all_of (set_right (plan_of s) n) log) ∙ ap (λ (p : Plan). slots && (entries_right (line_of s) n log && all_of (set_right p n) log)) (sym (line-plan s))

-- ---- the head, the status

empty_count : {A : Type 0} (xs : List A) (c : ℕ) → length xs ≡ min c 64 → is_empty xs ≡ eqb c 0
empty_count [] c e = sym (eq-eqb c 0 (omega arith))
empty_count (x ∷ xs) c e = sym (ne_eqb c 0 (λ z. omega arith))

not_missing : (status : Status) (mark : Bool) → (is_up status || mark) ≡ not (not (is_up status) && not mark)
not_missing up mark = refl
not_missing down mark = sym (not-not mark)
not_missing replay mark = sym (not-not mark)

holds_not : (x : Node) (status : Status) (time log held targets kept : ℕ) → time ≡ x.time → is_empty x.log ≡ eqb log 0 → is_empty x.held ≡ eqb held 0 → is_empty x.targets ≡ eqb targets 0 → is_nothing x.asked ≡ eqb kept 0
    → holds_nothing (status_number status) time log held targets kept ≡ not (holds_by_status status x)
holds_not x up time log held targets kept t l h g k = rw (← h, ← g, ← k) (sym (not-not (is_empty x.held && is_empty x.targets && is_nothing x.asked)))
holds_not x down time log held targets kept t l h g k = rw (t, ← l, ← h, ← g, ← k) (sym (not-not (eqb x.time 0 && is_empty x.log && is_empty x.held && (is_empty x.targets || not (is_nothing x.asked)))))
holds_not x replay time log held targets kept t l h g k = rw (← l, ← k) (sym (not-not (is_empty x.log && is_nothing x.asked)))

pub head_tested : (s : List ℕ) (a steps time : ℕ) → a + 8 ≤ length s → time ≡ word_at (a + time_at) s
    → (leb (get_or s a 0) 2 && leb (get_or s (a + 1) 0) 1 && eqb (bit_or (get_or s (a + 2) 0) (get_or s (a + 3) 0)) 0 && leb time steps) ≡ (head_exact a s && leb (word_at (a + time_at) s) steps)
head_tested s a steps time long e =
    let next : a + 3 ≡ a + 2 + 1 = omega arith in
    rw (next, ← two_zero (a + 2) s (omega arith), ← e, add-zero) refl

module _ (s : List ℕ) (n at : ℕ) (page : PageOf s n at) where
  abbrev x : Node
  x = node_at (line_of s) n

  few : Counted s
  few = counted page.ready

  at_page : (k v : ℕ) → v ≡ word_at (at + k) s → v ≡ word_at (page_at n + k) s
  at_page k v e = rw page.start at e

  pub head_node : (steps : ℕ) → steps ≡ accepted_steps (line_of s) → (head_exact at s && leb (word_at (at + time_at) s) steps) ≡ (head_exact (page_at n) s && leb x.time (accepted_steps (line_of s)))
  head_node steps e = rw (← time_in s n at page (word_at (at + time_at) s) refl, ← e, ← page.start) refl

  pub status_tested : (status : Status) (is-up crashed end nothing : Bool) (time log held targets kept : ℕ)
      → status ≡ x.status → is-up ≡ is_up status → crashed ≡ x.crashed → time ≡ word_at (at + time_at) s → log ≡ word_at (at + log_at) s → held ≡ word_at (at + held_at) s → targets ≡ word_at (at + targets_at) s → kept ≡ word_at (at + kept_at) s
      → end ≡ (crashed && (is_source (plan_of s) n || is_sink (plan_of s) n)) → nothing ≡ holds_nothing (status_number status) time log held targets kept
      → ((is-up || crashed) && not end && nothing) ≡ status_right (line_of s).plan n x
  unfolding status_right mark_missing mark_on_end node_holds
  status_tested status is-up crashed end nothing time log held targets kept a u b c d e f i g h =
      let empty = holds_not x status time log held targets kept (time_in s n at page time c) (empty_count x.log log (line_log_count s few n page.within ∙ rw (at_page log_at log d) refl)) (empty_count x.held held (line_held_count s few n page.within ∙ rw (at_page held_at held e) refl)) (empty_count x.targets targets (line_targets_count s few n page.within ∙ rw (at_page targets_at targets f) refl)) (kept_counted s page.ready n page.within kept (at_page kept_at kept i)) in
      rw (u, g, h, empty, ← a, ← b, line-plan s, not_missing status crashed) refl

  counts_right_lem : counts_right x ≡ true
  unfolding counts_right
  counts_right_lem =
      rw (
        line_log_count s few n page.within,
        line_held_count s few n page.within,
        line_targets_count s few n page.within,
        le-leb (min (word_at (page_at n + log_at) s) 64) 64 (omega arith),
        le-leb (min (word_at (page_at n + held_at) s) 64) 64 (omega arith),
        le-leb (min (word_at (page_at n + targets_at) s) 64) 64 (omega arith),
      ) refl

  pub node_tested : (head log held targets rest status : Bool)
      → head ≡ (head_exact (page_at n) s && leb x.time (accepted_steps (line_of s)))
      → log ≡ (list_exact entry_exact log_limit entry_size (page_at n + log_at) s && log_right (line_of s) n x.log)
      → held ≡ (list_exact held_exact held_limit held_size (page_at n + held_at) s && held_all_right (line_of s) n x.held)
      → targets ≡ (list_exact target_exact target_limit target_size (page_at n + targets_at) s && all_of (target_right (line_of s) n) x.targets)
      → rest ≡ page_end_exact (page_at n) s
      → status ≡ status_right (line_of s).plan n x
      → (head && log && held && targets && (rest && status)) ≡ (page_exact (page_at n) s && node_plain (line_of s) n)
  unfolding page_exact node_plain
  node_tested head log held targets rest status a b c d e f =
      let L = list_exact entry_exact log_limit entry_size (page_at n + log_at) s in
      let H = list_exact held_exact held_limit held_size (page_at n + held_at) s in
      let T = list_exact target_exact target_limit target_size (page_at n + targets_at) s in
      let K = list_exact asked_exact 1 kept_size (page_at n + kept_at) s in
      let Z = zero_at (page_at n + node_rest_at) node_rest s in
      let E = head_exact (page_at n) s in
      let time = leb x.time (accepted_steps (line_of s)) in
      let lr = log_right (line_of s) n x.log in
      let hr = held_all_right (line_of s) n x.held in
      let tr = all_of (target_right (line_of s) n) x.targets in
      let sr = status_right (line_of s).plan n x in
      rw (a, b, c, d, e, f, counts_right_lem)
      (ap (λ (t : Bool). t && (H && hr) && (T && tr) && ((K && Z) && sr)) (swap_middle E time L lr)
      ∙ ap (λ (t : Bool). t && (T && tr) && ((K && Z) && sr)) (swap_middle (E && L) (time && lr) H hr)
      ∙ ap (λ (t : Bool). t && ((K && Z) && sr)) (swap_middle (E && L && H) (time && lr && hr) T tr)
      ∙ swap_middle (E && L && H && T) (time && lr && hr && tr) (K && Z) sr
      ∙ ap (λ (t : Bool). t && (time && lr && hr && tr && sr)) (sym (and_assoc (E && L && H && T) K Z)))
