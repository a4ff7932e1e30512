-- The restored entries of a node's parents, listed channel by channel.
use Prim.Native.Nat.{ℕ, suc, ◌+◌, ◌-◌, ◌≤◌, ◌<◌}
use mathlib.Core.Path.{◌≡◌, refl, sym, ap, ◌∙◌}
use mathlib.Core.List.{List, [], ◌∷◌, ◌++◌, map, append_assoc}
use native.Mathlib.Numerals.{add-one}
use native.Mathlib.Omega.{arith}
use lib.ListN.{length, take, drop, set, replicate, length-set, length-append, length-map, length-replicate, take-append-drop}
use lib.Seq.{drop-drop, drop-set-lt, take-suc-set}
use Rattle.plan.specs.Plan.{plan_of, plan_nodes, plan_channels, channel_at, entering}
use Rattle.plan.specs.Lawful.{Each}
use Rattle.plan.proofs.MaskLaws.{entering_below}
use Rattle.rules.specs.Recover.{restored, answer_of}
use Rattle.state.specs.State.{line_of}
use Rattle.state.proofs.InPlace.{line-plan}
use Rattle.buffer.specs.Ready.{Ready, OnChannel}
use Rattle.buffer.proofs.ReadyLaws.{few_enter}

filled : (f : ℕ → ℕ) (bs : List ℕ) → length bs ≤ 4 → length (map f bs ++ replicate (4 - length bs) 0) ≡ 4
filled f bs h = rw (length-append, length-map, length-replicate) (omega arith)

module _ (s : List ℕ) (n : ℕ) where
  -- The entries of the senders of some channels, and 0 behind them up to a number.
  abbrev entries_of : ℕ → List ℕ → List ℕ
  entries_of most bs = map (λ (b : ℕ). restored (line_of s) n (channel_at (plan_of s) b).sender) bs ++ replicate (most - length bs) 0

  -- The entries before a place are listed; some channels are left, and 0 stands there.
  pub record ListedTo (channels : List ℕ) (place : ℕ) (out : List ℕ) : Type 0 where
    pub below : Each (λ (b : ℕ). b < plan_channels s) channels
    pub few : place + length channels ≤ 4
    pub long : length out ≡ 4
    pub now : take place out ++ entries_of (4 - place) channels ≡ (answer_of (line_of s) n).entries
    pub behind : drop place out ≡ replicate (4 - place) 0

  pub answer_four : Ready s → n < plan_nodes s → length (answer_of (line_of s) n).entries ≡ 4
  unfolding answer_of
  answer_four ready inside = filled (λ (b : ℕ). restored (line_of s) n (channel_at (line_of s).plan b).sender) (entering (line_of s).plan n) (rw (line-plan s) (few_enter ready n inside))

  pub listed_start : Ready s → n < plan_nodes s → ListedTo (entering (plan_of s) n) 0 (replicate 4 0)
  unfolding answer_of
  listed_start ready inside = record { below = entering_below s n; few = omega (arith, few_enter ready n inside); long = refl; now = rw (line-plan s) refl; behind = refl }

  module _ (channels rest : List ℕ) (place : ℕ) (out : List ℕ) (b : ℕ) (k : ListedTo channels place out) (first : channels ≡ b ∷ rest) where
    pub listed_on : Ready s → OnChannel s b
    listed_on ready = record { ready = ready; below = (rw first at k.below).0 }

    pub listed_there : place < 4
    listed_there = omega (arith, k.few, ap length first)

    pub listed_turn : (entry : ℕ) → entry ≡ restored (line_of s) n (channel_at (plan_of s) b).sender → ListedTo rest (place + 1) (set out place entry)
    listed_turn entry e =
        let less : 4 - place ≡ suc (4 - suc place) = omega (arith, listed_there) in
        let shorter : 4 - place - suc (length rest) ≡ 4 - suc place - length rest = omega arith in
        let next : drop (suc place) out ≡ replicate (4 - suc place) 0 = ap (λ (i : ℕ). drop i out) (sym (add-one place)) ∙ sym (drop-drop 1 place out) ∙ ap (drop 1) (k.behind ∙ ap (λ (i : ℕ). replicate i 0) less) in
        let was = rw (first, shorter, ← e) at k.now in
        rw (add-one place)
        (record {
          below = (rw first at k.below).1;
          few = omega (arith, k.few, ap length first);
          long = length-set out place entry ∙ k.long;
          now = rw (take-suc-set out place entry (omega (arith, k.long, listed_there)), append_assoc) was;
          behind = drop-set-lt (suc place) out place entry (omega arith) ∙ next;
        })

  pub listed_end : (channels : List ℕ) (place : ℕ) (out : List ℕ) → ListedTo channels place out → channels ≡ [] → out ≡ (answer_of (line_of s) n).entries
  listed_end channels place out k none =
      let whole : 4 - place - 0 ≡ 4 - place = omega arith in
      let all = rw (none, whole) at k.now in
      sym (take-append-drop place out) ∙ ap (λ (zs : List ℕ). take place out ++ zs) k.behind ∙ all
