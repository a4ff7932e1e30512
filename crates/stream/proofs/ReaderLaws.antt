-- What a call leaves, by the reader's phase.
use Prim.Native.Nat.{ℕ, ◌+◌, ◌-◌, ◌≤◌}
use mathlib.Core.Path.{◌≡◌, refl, sym, ap, subst, ◌∙◌}
use mathlib.Core.List.{List, [], ◌++◌, append-nil}
use mathlib.Core.Option.{none}
use native.Mathlib.Omega.{arith}
use lib.ListN.{length, take, drop}
use lib.Seq.{slice, take-add}
use Rattle.basics.specs.Put.{put-none}
use Rattle.rules.specs.Sheet.{frames_text}
use Rattle.state.specs.State.{line_of}
use Rattle.stream.specs.declared.Phase.{Phase}
use Rattle.stream.specs.declared.Phase.TheVariants.{Planning, Framing, Ended}
use Rattle.stream.specs.declared.Reader.{Reader}
use Rattle.stream.specs.Reading.{Reading, planning, framing, ended, Told, frames_told, plan_told, taken, plan_all, closed}
use Rattle.stream.specs.Reader.{window_size, out_size, reading_by, reading_of, Holding, Asked, Gave, Finished}
use Rattle.stream.specs.Frames.{Workable}
use Rattle.stream.proofs.GoingLaws.{wrote_none}
use Rattle.stream.proofs.EndingLaws.{gave_of}

taken_planning : (s b : List ℕ) → taken (planning s) b ≡ plan_told (s ++ b)
unfolding taken
taken_planning s b = refl

taken_framing : (s : List ℕ) (k : ℕ) (l : _) (b : List ℕ) → taken (framing s k l) b ≡ frames_told (length (s ++ b)) k l (s ++ b)
unfolding taken
taken_framing s k l b = refl

taken-ended : (b : List ℕ) → taken ended b ≡ record { text = []; next = ended; line = none }
unfolding taken
taken-ended b = refl

closed_is : (r : Reading) → closed r ≡ elim r [ planning s ↦ plan_all s | framing s k l ↦ frames_text (length s) k l s | ended ↦ [] ]
unfolding closed
closed_is (planning s) = refl
closed_is (framing s k l) = refl
closed_is ended = refl

module _ (r : Reader) (s w : List ℕ) where
  reading : {p : Phase} → r.phase ≡ p → reading_of r s w ≡ reading_by p (take r.have w) r.count (line_of s)
  reading e = ap (λ (p : Phase). reading_by p (take r.have w) r.count (line_of s)) e

  holding : {p : Phase} → r.phase ≡ p → {n : ℕ} → Asked r s n → Holding p r.count s
  holding e can = subst (λ (p : Phase). Holding p r.count s) e can.holding

  pub framing_workable : r.phase ≡ Framing → {n : ℕ} → Asked r s n → (end : ℕ) → end ≤ window_size → {o : List ℕ} → length w ≡ window_size → length o ≡ out_size → Workable s w 0 end r.count o
  framing_workable e can end most whole space = record { undamaged = holding e can; ordered = omega arith; inside = omega arith; whole = whole; space = space; few = can.few }

  -- ---- a block

  module _ (n : ℕ) (can : Asked r s n) where
    abbrev end : ℕ
    end = r.have + n

    abbrev block : List ℕ
    block = take n (drop r.have w)

    told_by : {p : Phase} → r.phase ≡ p → taken (reading_of r s w) block ≡ taken (reading_by p (take r.have w) r.count (line_of s)) block
    told_by e = ap (λ (x : Reading). taken x block) (reading e)

    joined : take r.have w ++ block ≡ take end w
    joined = sym (take-add r.have n w)

    abbrev most : ℕ
    most = r.count + r.have + n

    module _ {o t v u : List ℕ} {q : Reader} where
      pub gave_planning : r.phase ≡ Planning → Gave (plan_told (take end w)) (1 + end) s w o t v u q → Gave (taken (reading_of r s w) block) most s w o t v u q
      gave_planning e g =
          gave_of (told_by e ∙ taken_planning (take r.have w) block ∙ ap plan_told joined)
          (record { text = g.text; next = g.next; left = g.left; held = g.held; holding = g.holding; room = g.room; counted = omega (arith, g.counted, holding e can) })

      pub gave_framing : r.phase ≡ Framing → Gave (frames_told (length (slice 0 end w)) r.count (line_of s) (slice 0 end w)) (r.count + (end - 0)) s w o t v u q → Gave (taken (reading_of r s w) block) most s w o t v u q
      gave_framing e g =
          gave_of (told_by e ∙ taken_framing (take r.have w) r.count (line_of s) block ∙ ap (λ (x : List ℕ). frames_told (length x) r.count (line_of s) x) joined)
          (record { text = g.text; next = g.next; left = g.left; held = g.held; holding = g.holding; room = g.room; counted = omega (arith, g.counted) })

    pub gave_ended : r.phase ≡ Ended → (o : List ℕ) → Gave (taken (reading_of r s w) block) most s w o s w o (record { phase = Ended; have = 0; count = r.count; wrote = 0 })
    gave_ended e o =
        gave_of (told_by e ∙ taken-ended block)
        (record { text = wrote_none out_size o; next = refl; left = sym (put-none w 0); held = refl; holding = tt; room = omega arith; counted = omega arith })

  -- ---- the end of the input

  closed_by : {p : Phase} → r.phase ≡ p → closed (reading_of r s w) ≡ closed (reading_by p (take r.have w) r.count (line_of s))
  closed_by e = ap closed (reading e)

  -- An empty block.
  empty_by : {p : Phase} → r.phase ≡ p → taken (reading_of r s w) [] ≡ taken (reading_by p (take r.have w) r.count (line_of s)) []
  empty_by e = ap (λ (x : Reading). taken x []) (reading e)

  finished_of : {last last' : List ℕ} {told told' : Told} {o t u : List ℕ} {q : ℕ} → last' ≡ last → told' ≡ told → Finished last told s o t u q → Finished last' told' s o t u q
  finished_of {o = o} {t = t} {u = u} {q = q} e d f = rw (e, d) f

  module _ {o t u : List ℕ} {q : ℕ} where
    pub finished_planning : r.phase ≡ Planning → Finished (plan_all (take r.have w)) (plan_told (take r.have w)) s o t u q → Finished (closed (reading_of r s w)) (taken (reading_of r s w) []) s o t u q
    finished_planning e f =
        finished_of (closed_by e ∙ closed_is (planning (take r.have w))) (empty_by e ∙ taken_planning (take r.have w) [] ∙ ap plan_told (append-nil (take r.have w))) f

    pub finished_framing : r.phase ≡ Framing
        → Finished (frames_text (length (slice 0 r.have w)) r.count (line_of s) (slice 0 r.have w)) (frames_told (length (slice 0 r.have w)) r.count (line_of s) (slice 0 r.have w)) s o t u q
        → Finished (closed (reading_of r s w)) (taken (reading_of r s w) []) s o t u q
    finished_framing e f =
        finished_of (closed_by e ∙ closed_is (framing (take r.have w) r.count (line_of s)))
        (empty_by e ∙ taken_framing (take r.have w) r.count (line_of s) [] ∙ ap (λ (x : List ℕ). frames_told (length x) r.count (line_of s) x) (append-nil (take r.have w))) f

  pub finished_ended : r.phase ≡ Ended → (o : List ℕ) → Finished (closed (reading_of r s w)) (taken (reading_of r s w) []) s o s o 0
  finished_ended e o = finished_of (closed_by e ∙ closed_is ended) (empty_by e ∙ taken-ended []) (record { text = wrote_none out_size o; held = refl })
