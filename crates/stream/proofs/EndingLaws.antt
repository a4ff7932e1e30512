-- Where no whole frame is left: what a block has told, what the end of the input has told, and what is kept.
use Prim.Native.Nat.{ℕ, ◌+◌, ◌-◌, ◌≤◌, ◌<◌}
use mathlib.Core.Path.{◌≡◌, refl, sym, ap, subst, ◌∙◌}
use mathlib.Core.Logic.{◌≢◌}
use mathlib.Core.Bool.{true, false, true≢false}
use mathlib.Core.List.{List, [], ◌++◌, append-nil}
use native.Mathlib.Omega.{arith}
use borrow.Author.Tests.{leb-true, ltb-true}
use mathlib.Core.Option.{Option, some}
use lib.Dec.{leb, ltb}
use lib.ListN.{length}
use lib.Seq.{slice}
use Rattle.basics.specs.Bools.{both_true}
use Rattle.basics.specs.Put.{put, put-none, put_front}
use Rattle.rules.specs.Sheet.{answer_line, line_text, length_field, frames_text}
use Rattle.rules.specs.Line.{Line}
use Rattle.state.specs.State.{line_of}
use Rattle.report.specs.Wrote.{Wrote}
use Rattle.stream.specs.declared.Phase.TheVariants.{Framing, Ended}
use Rattle.stream.specs.declared.Reader.{Reader}
use Rattle.stream.specs.Reading.{Told, before, framing, too_short, frames_told}
use Rattle.stream.specs.Reader.{window_size, out_size, state_left, Gave, Finished}
use Rattle.stream.specs.Frames.{FrameSize, Workable, Going}
use Rattle.stream.proofs.ReadingLaws.{Front, short, few, part, frame, front, is_short, told_short, told_few, told_part, text_none, text_short, text_few, text_part}
use Rattle.stream.proofs.WindowLaws.{part_long}
use Rattle.stream.proofs.GoingLaws.{wrote_behind}

-- What was told, said of another that is the same.
pub gave_of : {told told' : Told} {most : ℕ} {s w o state window out : List ℕ} {r : Reader} → told' ≡ told → Gave told most s w o state window out r → Gave told' most s w o state window out r
gave_of {most = most} {s = s} {w = w} {o = o} {state = state} {window = window} {out = out} {r = r} e g = subst (λ (t : Told). Gave t most s w o state window out r) (sym e) g

module _ (s w : List ℕ) (from end k : ℕ) (o : List ℕ) (can : Workable s w from end k o) {state out : List ℕ} {at count wrote : ℕ} (g : Going s w from end k o state out at count wrote) where
  abbrev first : List ℕ
  first = slice from end w

  abbrev rest : List ℕ
  rest = slice at end w

  rest_long : length rest ≡ end - at
  rest_long = part_long w at end can.inside

  abbrev told : Told
  told = frames_told (length first) k (line_of s) first

  out_long : length out ≤ out_size
  out_long = omega (arith, g.text.same, can.space)

  -- The nodes behind an answer 9, behind what was written.
  wrote_nodes : {u v : List ℕ} {p r a b : ℕ} → Wrote a out wrote (answer_line count 9) u p → Wrote b u p (line_text (line_of state)) v r → Wrote out_size o 0 (g.done ++ (answer_line count 9 ++ line_text (line_of state))) v r
  wrote_nodes line nodes = wrote_behind out_size g.text (wrote_behind out_size line nodes out_long) (omega (arith, can.space))

  -- A length field under 5: answered 9, and the nodes behind it.
  pub ended_short : {u v : List ℕ} {p r a b : ℕ} → too_short rest ≡ true → Wrote a out wrote (answer_line count 9) u p → Wrote b u p (line_text (line_of state)) v r
      → Gave told (k + (end - from)) s w o state w v (record { phase = Ended; have = 0; count = count; wrote = r })
  ended_short {v = v} {r = r} e line nodes =
      let (two, under) = both_true (leb 2 (length rest)) (ltb (length_field rest) 5) e in
      gave_of (g.told ∙ ap (before g.done) (told_short count (line_of state) rest (length rest) (leb-true 2 (length rest) two) (ltb-true (length_field rest) 5 under) (omega arith)))
      (record {
        text = wrote_nodes line nodes;
        next = refl;
        left = sym (put-none w 0);
        held = g.undamaged.holds.written;
        holding = tt;
        room = omega arith;
        counted = omega (arith, g.counted, g.inside, g.onward);
      })

  -- No whole frame yet: it is kept, and the output stays.
  pub kept_part : {v : List ℕ} → FrameSize rest 0 → false ≡ too_short rest → v ≡ put w 0 rest
      → Gave told (k + (end - from)) s w o state v out (record { phase = Framing; have = end - at; count = count; wrote = wrote })
  kept_part {v} size e left = by (front rest)
    where
      gave : frames_told (length rest) count (line_of state) rest ≡ record { text = []; next = framing rest count (line_of state); line = some (line_of state) } → length rest < window_size
          → Gave told (k + (end - from)) s w o state v out (record { phase = Framing; have = end - at; count = count; wrote = wrote })
      gave is less =
          gave_of (g.told ∙ ap (before g.done) is)
          (record {
            text = rw (append-nil g.done) g.text;
            next = ap (λ (x : List ℕ). framing x count (line_of state)) (rw (left, ← rest_long) (put_front w rest));
            left = left;
            held = g.undamaged.holds.written;
            holding = g.undamaged;
            room = omega (arith, rest_long);
            counted = omega (arith, g.counted, g.inside, g.onward);
          })

      by : Front rest → Gave told (k + (end - from)) s w o state v out (record { phase = Framing; have = end - at; count = count; wrote = wrote })
      by (short two under) = absurd (true≢false (sym (is_short rest two under) ∙ sym e))
      by (few less) = gave (told_few count (line_of state) rest (length rest) less) (omega arith)
      by (part two five less) = gave (told_part count (line_of state) rest (length rest) five less) (omega (arith, size.none refl two five))
      by (frame five all) = let no : ⊥ = omega (arith, size.none refl (omega arith) five) in absurd no

  -- ---- the end of the input

  abbrev ending : List ℕ
  ending = frames_text (length first) k (line_of s) first

  -- With no whole frame left, the bytes have led to the state's line.
  line_left : FrameSize rest 0 → told.line ≡ some (line_of state)
  line_left size = ap (λ (t : Told). t.line) g.told ∙ by (front rest)
    where
      by : Front rest → (frames_told (length rest) count (line_of state) rest).line ≡ some (line_of state)
      by (short two under) = ap (λ (t : Told). t.line) (told_short count (line_of state) rest (length rest) two under (omega arith))
      by (few less) = ap (λ (t : Told). t.line) (told_few count (line_of state) rest (length rest) less)
      by (part two five less) = ap (λ (t : Told). t.line) (told_part count (line_of state) rest (length rest) five less)
      by (frame five all) = let no : ⊥ = omega (arith, size.none refl (omega arith) five) in absurd no

  state_left_lem : FrameSize rest 0 → state ≡ state_left told.line s
  state_left_lem size = g.undamaged.holds.written ∙ sym (ap (λ (l : Option Line). state_left l s) (line_left size))

  -- No byte is left.
  pub closed_even : {v : List ℕ} {r b : ℕ} → FrameSize rest 0 → at ≡ end → Wrote b out wrote (line_text (line_of state)) v r → Finished ending told s o state v r
  closed_even size e nodes = record {
    text = rw (g.closing, text_none count (line_of state) rest (length rest) (omega (arith, rest_long))) (wrote_behind out_size g.text nodes (omega (arith, can.space)));
    held = state_left_lem size;
  }

  -- A frame that is cut is answered 9.
  pub closed_cut : {u v : List ℕ} {p r a b : ℕ} → FrameSize rest 0 → at ≢ end → Wrote a out wrote (answer_line count 9) u p → Wrote b u p (line_text (line_of state)) v r → Finished ending told s o state v r
  closed_cut size other line nodes = record { text = rw (g.closing, by (front rest)) (wrote_nodes line nodes); held = state_left_lem size }
    where
      full : 0 < length rest
      full = omega (arith, rest_long, g.inside, other)

      by : Front rest → frames_text (length rest) count (line_of state) rest ≡ answer_line count 9 ++ line_text (line_of state)
      by (short two under) = text_short count (line_of state) rest (length rest) full (omega arith) under
      by (few less) = text_few count (line_of state) rest (length rest) full (omega arith) less
      by (part two five less) = text_part count (line_of state) rest (length rest) full (omega arith) less
      by (frame five all) = let no : ⊥ = omega (arith, size.none refl (omega arith) five) in absurd no
