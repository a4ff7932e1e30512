-- What stands in a slot, byte by byte.
use Prim.Native.Nat.{ℕ, ◌+◌, ◌-◌, ◌≤◌, ◌<◌}
use mathlib.Core.Path.{◌≡◌, refl, sym, ap, ◌∙◌}
use mathlib.Core.Bool.{Bool, true, false, not, ◌&&◌, and-true, and-false, and_assoc}
use mathlib.Core.List.{List, [], ◌∷◌}
use native.Mathlib.Omega.{arith}
use lib.Dec.{leb, eqb}
use lib.Bits.{bit_or}
use lib.ListN.{length, get_or, take, drop}
use Rattle.plan.specs.declared.Record.{Record}
use Rattle.plan.specs.Layout.{bytes_of}
use Rattle.plan.specs.Lawful.{Bytes}
use Rattle.plan.specs.Record.{record_layout}
use Rattle.plan.specs.Plan.{Plan, plan_of, plan_channels, is_none, entering, leaving}
use Rattle.plan.specs.Mask.{taking, takes_at, among}
use Rattle.plan.proofs.TakingLaws.{taking-among}
use Rattle.rules.specs.Lists.{is_empty}
use Rattle.rules.specs.Line.{Entry, Held, Line, made, accepted_steps}
use Rattle.rules.specs.Replay.{passed_on}
use Rattle.state.specs.Pieces.{origin_from}
use Rattle.state.specs.State.{line_of}
use Rattle.state.specs.Right.{word_at}
use Rattle.items.specs.Items.{if_found, from_sender, record_right, origin_right, entry_right, held_right, target_right}
use Rattle.buffer.specs.Exact.{zero_at, record_exact, time_named, origin_exact, entry_exact, held_exact, target_exact}
use Rattle.buffer.specs.Zero.{zero_bytes}
use Rattle.buffer.specs.Check.{record_in}
use Rattle.buffer.specs.Ready.{Ready}
use Rattle.buffer.specs.Words.{number64}
use Rattle.buffer.proofs.BytesLaws.{one_zero, two_zero, three_zero}
use Rattle.buffer.proofs.WordLaws.{part_written}
use Rattle.buffer.proofs.PieceReads.{entry_in_lem, held_in_lem, target_in_lem}
use Rattle.node_check.specs.NodeCheck.{entry_in, held_in, target_in, entry_plain, entry_made, held_plain, held_made}

-- ---- zero bytes

-- Bytes from a place up to another.
pub zero_part : (from to at k : ℕ) (s : List ℕ) → from ≡ at → to - from ≡ k → zero_bytes (take (to - from) (drop from s)) ≡ zero_at at k s
zero_part from to at k s e f = λ i. zero_bytes (take (f i) (drop (e i) s))

-- ---- log entries and held records

-- A record, of the number that its bytes spell.
pub record_spelled : (a : ℕ) (s : List ℕ) (number : ℕ) → Bytes s → a + 8 ≤ length s → number ≡ number64 a s → record_layout.read (bytes_of 8 number) ≡ record_in a s
record_spelled a s number bytes long e = ap (λ (x : ℕ). record_layout.read (bytes_of 8 x)) e ∙ ap record_layout.read (part_written 8 a s bytes long)

-- A log entry's record and its byte unused; a held record's and its two.
pub entry_plain_lem : (a : ℕ) (s : List ℕ) (what : Bool) → a + 23 < length s → what ≡ (record_exact a s && record_right (record_in a s)) → (what && eqb (get_or s (a + 23) 0) 0) ≡ entry_plain a s
unfolding entry_plain
entry_plain_lem a s what long e = rw (e, one_zero (a + 23) s long) refl

pub held_plain_lem : (a : ℕ) (s : List ℕ) (what : Bool) → a + 20 ≤ length s → what ≡ (record_exact a s && record_right (record_in a s)) → (what && eqb (bit_or (get_or s (a + 18) 0) (get_or s (a + 19) 0)) 0) ≡ held_plain a s
unfolding held_plain
held_plain_lem a s what long e = let next : a + 19 ≡ a + 18 + 1 = omega arith in rw (e, next, ← two_zero (a + 18) s (omega arith)) refl

module _ (n a : ℕ) (s : List ℕ) where
  pub entry_made_lem : (q t e u : ℕ) → q ≡ get_or s (a + 12) 0 → t ≡ word_at (a + 13) s → e ≡ get_or s (a + 17) 0 → u ≡ word_at (a + 18) s
      → ((time_named q t && time_named e u) && origin_right (line_of s) n (origin_from q t) (origin_from e u)) ≡ entry_made n a s
  unfolding entry_made
  entry_made_lem q t e u f g h i =
      let first : a + 13 ≡ a + 12 + 1 = omega arith in
      let second : a + 18 ≡ a + 17 + 1 = omega arith in
      rw (f, g, h, i, first, second)
      (ap (λ (x : Entry). (origin_exact (a + 12) s && origin_exact (a + 17) s) && origin_right (line_of s) n x.origin x.before) (sym (entry_in_lem a s)))

  pub held_made_lem : (q t e u : ℕ) → q ≡ get_or s (a + 8) 0 → t ≡ word_at (a + 9) s → e ≡ get_or s (a + 13) 0 → u ≡ word_at (a + 14) s
      → (time_named e u && origin_right (line_of s) n (made q t) (origin_from e u)) ≡ held_made n a s
  unfolding held_made
  held_made_lem q t e u f g h i =
      let first : a + 14 ≡ a + 13 + 1 = omega arith in
      rw (f, g, h, i, first)
      (ap (λ (x : Held). origin_exact (a + 13) s && origin_right (line_of s) n (made x.sender x.time) x.before) (sym (held_in_lem a s)))

-- What is asked of a slot, in the order in which it is tested.
entry-parts : (r o z w b t : Bool) → (((r && o) && z) && ((w && b) && t)) ≡ ((((r && w) && z) && t) && (o && b))
entry-parts true true true true true t = sym (and-true t)
entry-parts true true true true false t = sym (and-false t)
entry-parts true true true false b t = refl
entry-parts true true false true b t = refl
entry-parts true true false false b t = refl
entry-parts true false z w b t = sym (and-false ((w && z) && t))
entry-parts false o z w b t = refl

held-parts : (r o z w b p t : Bool) → (((r && o) && z) && (((w && b) && p) && t)) ≡ ((((r && w) && z) && t) && ((o && b) && p))
held-parts r o z w b p t =
    ap (λ (v : Bool). ((r && o) && z) && v) (ap (λ (v : Bool). v && t) (and_assoc w b p))
    ∙ entry-parts r o z w (b && p) t
    ∙ ap (λ (v : Bool). (((r && w) && z) && t) && v) (sym (and_assoc o b p))

pub entry_ordered : (n a : ℕ) (s : List ℕ) (rises : Bool) → (entry_exact a s && (entry_right (line_of s) n (entry_in a s) && rises)) ≡ ((entry_plain a s && rises) && entry_made n a s)
unfolding entry_exact entry_right entry_plain entry_made
entry_ordered n a s rises =
    ap (λ (x : Record). ((record_exact a s && origin_exact (a + 12) s && origin_exact (a + 17) s && zero_at (a + 23) 1 s) && ((record_right x && origin_right (line_of s) n (entry_in a s).origin (entry_in a s).before) && rises))) (ap (λ (x : Entry). x.what) (entry_in_lem a s))
    ∙ ap (λ (v : Bool). ((v && zero_at (a + 23) 1 s) && ((record_right (record_in a s) && origin_right (line_of s) n (entry_in a s).origin (entry_in a s).before) && rises))) (and_assoc (record_exact a s) (origin_exact (a + 12) s) (origin_exact (a + 17) s))
    ∙ entry-parts (record_exact a s) (origin_exact (a + 12) s && origin_exact (a + 17) s) (zero_at (a + 23) 1 s) (record_right (record_in a s)) (origin_right (line_of s) n (entry_in a s).origin (entry_in a s).before) rises

pub held_ordered : (n a : ℕ) (s : List ℕ) (rises : Bool) → (held_exact a s && (held_right (line_of s) n (held_in a s) && rises)) ≡ ((held_plain a s && rises) && (held_made n a s && passed_on (line_of s).plan n (record_in a s)))
unfolding held_exact held_right held_plain held_made
held_ordered n a s rises =
    ap (λ (x : Record). ((record_exact a s && origin_exact (a + 13) s && zero_at (a + 18) 2 s) && ((record_right x && origin_right (line_of s) n (made (held_in a s).sender (held_in a s).time) (held_in a s).before && passed_on (line_of s).plan n x) && rises))) (ap (λ (x : Held). x.what) (held_in_lem a s))
    ∙ held-parts (record_exact a s) (origin_exact (a + 13) s) (zero_at (a + 18) 2 s) (record_right (record_in a s)) (origin_right (line_of s) n (made (held_in a s).sender (held_in a s).time) (held_in a s).before) (passed_on (line_of s).plan n (record_in a s)) rises

-- Whether some channel that leaves a node takes a record.
passed_some : (p : Plan) (n : ℕ) (r : Record) → not (is_none (among (takes_at p r) (leaving p n))) ≡ passed_on p n r
unfolding passed_on
passed_some p n r = ap (λ (bs : List ℕ). not (is_none bs)) (sym (taking-among p n r)) ∙ ap not (one (taking p n r))
  where
    one : (bs : List ℕ) → is_none bs ≡ is_empty bs
    one [] = refl
    one (b ∷ bs) = refl

pub passed_by : (s : List ℕ) (n at : ℕ) → Ready s → (bs : List ℕ) → (plan_channels s ≤ 24 → bs ≡ leaving (plan_of s) n) → not (is_none (among (takes_at (plan_of s) (record_in at s)) bs)) ≡ passed_on (plan_of s) n (record_in at s)
passed_by s n at ready bs is = ap (λ (cs : List ℕ). not (is_none (among (takes_at (plan_of s) (record_in at s)) cs))) (is ready.channels) ∙ passed_some (plan_of s) n (record_in at s)

-- ---- a target

module _ (l : Line) (n a : ℕ) (s : List ℕ) (long : a + 12 ≤ length s) (t u q : ℕ) (time : t ≡ word_at a s) (other : u ≡ word_at (a + 4) s) (parent : q ≡ get_or s (a + 8) 0) where
  target_right_lem : (found : Bool) → found ≡ if_found (from_sender l.plan q (entering l.plan n)) (λ (b : ℕ). true) → target_right l n (target_in a s) ≡ (leb t (accepted_steps l) && leb u (accepted_steps l) && found)
  unfolding target_right
  target_right_lem found e = rw (time, other, e, parent) (ap (target_right l n) (target_in_lem a s))

  target_exact_lem : target_exact a s ≡ eqb (bit_or (bit_or (get_or s (a + 9) 0) (get_or s (a + 10) 0)) (get_or s (a + 11) 0)) 0
  unfolding target_exact
  target_exact_lem =
      let first : a + 10 ≡ a + 9 + 1 = omega arith in
      let second : a + 11 ≡ a + 9 + 2 = omega arith in
      rw (first, second) (three_zero (a + 9) s (omega arith))

  pub target_tested : (found : Bool) → found ≡ if_found (from_sender l.plan q (entering l.plan n)) (λ (b : ℕ). true)
      → (eqb (bit_or (bit_or (get_or s (a + 9) 0) (get_or s (a + 10) 0)) (get_or s (a + 11) 0)) 0 && (leb t (accepted_steps l) && leb u (accepted_steps l) && found)) ≡ (target_exact a s && target_right l n (target_in a s))
  target_tested found e = rw (target_right_lem found e, target_exact_lem) refl
