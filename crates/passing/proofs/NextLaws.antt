-- The search for what a Send sends.
use Prim.Native.Nat.{ℕ, zero, suc, ◌+◌, ◌-◌, ◌≤◌, ◌<◌}
use mathlib.Core.Path.{◌≡◌, refl, sym, ap, subst, ◌∙◌}
use mathlib.Core.Bool.{true, false, ◌&&◌}
use mathlib.Core.List.{List, [], ◌∷◌}
use mathlib.Core.Option.{none, some}
use native.Mathlib.Numerals.{add-one}
use native.Mathlib.Omega.{arith}
use borrow.Author.Tests.{lt-ltb, le-ltb}
use lib.Dec.{ltb}
use lib.ListN.{length, get_or, take, drop}
use lib.Seq.{drop-cons, drop-length}
use Rattle.plan.specs.declared.Channel.{Channel}
use Rattle.plan.specs.Lawful.{Each}
use Rattle.plan.specs.Channel.{takes}
use Rattle.plan.specs.Plan.{Plan, plan_of, channel_at}
use Rattle.rules.specs.Line.{Entry, node_at, lane_at}
use Rattle.rules.specs.Clock.{next_to_send}
use Rattle.rules.specs.Step.{sendable}
use Rattle.rules.proofs.Undamaged.Standing.{LogRises, log_more}
use Rattle.state.specs.State.{line_of}
use Rattle.state.proofs.InPlace.{line-plan}
use Rattle.buffer.specs.Nothing.{no_entry}
use Rattle.passing.specs.Passing.{LaterFrom}

pub sendable_in : (s : List ℕ) (b n mark : ℕ) → n ≡ (channel_at (plan_of s) b).sender → mark ≡ (lane_at (line_of s) b).mark
    → sendable (line_of s) b ≡ next_to_send (channel_at (plan_of s) b) mark (node_at (line_of s) n).log
unfolding sendable
sendable_in s b n mark from marked = rw (from, marked, line-plan s)

-- The first i entries of a log are not sent.
pub record Passed (c : Channel) (mark : ℕ) (log : List Entry) (i : ℕ) : Type 0 where
  pub within : i ≤ length log
  pub same : next_to_send c mark log ≡ next_to_send c mark (drop i log)

module _ (c : Channel) (mark : ℕ) (log : List Entry) where
  none_passed : Passed c mark log 0
  none_passed = record { within = omega arith; same = refl }

  module _ (i : ℕ) (p : Passed c mark log i) where
    pub next_none : length log ≤ i → next_to_send c mark log ≡ none
    next_none h = let end : i ≡ length log = omega (arith, p.within) in p.same ∙ ap (λ (k : ℕ). next_to_send c mark (drop k log)) end ∙ ap (next_to_send c mark) (drop-length log)

    module _ (h : i < length log) where
      here : next_to_send c mark log ≡ elim (ltb mark (get_or log i no_entry).time && takes c (get_or log i no_entry).what) [ true ↦ some (get_or log i no_entry) | false ↦ next_to_send c mark (drop (suc i) log) ]
      here = p.same ∙ ap (next_to_send c mark) (drop-cons log i no_entry h)

      next_found : (e : Entry) → e ≡ get_or log i no_entry → (ltb mark e.time && takes c e.what) ≡ true → next_to_send c mark log ≡ some e
      next_found e q t = here ∙ rw (← q, t) (ap some (sym q))

      next_passed : (e : Entry) → e ≡ get_or log i no_entry → (ltb mark e.time && takes c e.what) ≡ false → Passed c mark log (i + 1)
      next_passed e q t = record { within = omega arith; same = here ∙ rw (← q, t, add-one) }

-- Times do not fall, so what stands before an entry is not later than it.
up_to : (p : Plan) (n mark above j : ℕ) (log : List Entry) → LogRises p n above log → j < length log → (get_or log j no_entry).time ≤ mark → (above ≤ (get_or log j no_entry).time) × Each (λ (e : Entry). e.time ≤ mark) (take (suc j) log)
up_to p n mark above j [] r h t = let no : ⊥ = omega arith in absurd no
up_to p n mark above zero (x ∷ xs) (log_more a later r) h t = (a, (t, tt))
up_to p n mark above (suc j) (x ∷ xs) (log_more a later r) h t = let (b, each) = up_to p n mark x.time j xs r (omega arith) t in (omega (arith, a, b), (omega (arith, b, t), each))

module _ (mark : ℕ) (log : List Entry) where
  abbrev Late : ℕ → Type 0
  Late k = Each (λ (e : Entry). mark < e.time) (drop k log)

  -- Looked at from the last entry back: one that is later, and the first that is not.
  module _ (k : ℕ) (some : 0 < k) (within : k ≤ length log) (late : Each (λ (e : Entry). mark < e.time) (drop k log)) (e : Entry) (q : e ≡ get_or log (k - 1) no_entry) where
    before : suc (k - 1) ≡ k
    before = omega arith

    pub one_later : mark < e.time → Each (λ (e : Entry). mark < e.time) (drop (k - 1) log)
    one_later t =
        subst (Each (λ (e : Entry). mark < e.time)) (sym (drop-cons log (k - 1) no_entry (omega arith)))
        (subst (λ (x : Entry). mark < x.time) q t, subst Late (sym before) late)

    pub later_from : {p : Plan} {n : ℕ} → LogRises p n 0 log → e.time ≤ mark → LaterFrom mark log (k - 1 + 1)
    later_from {p} {n} rises t =
        record {
          within = omega (arith, within);
          early = subst (λ (j : ℕ). Each (λ (e : Entry). e.time ≤ mark) (take j log)) (sym (add-one (k - 1))) (up_to p n mark 0 (k - 1) log rises (omega arith) (subst (λ (x : Entry). x.time ≤ mark) q t)).1;
          late = subst Late (sym (add-one (k - 1) ∙ before)) late;
        }

-- What is not later than the mark is passed over.
early_passed : (c : Channel) (mark : ℕ) (log : List Entry) (r : ℕ) → r ≤ length log → Each (λ (e : Entry). e.time ≤ mark) (take r log) → Passed c mark log r
early_passed c mark log zero h e = none_passed c mark log
early_passed c mark [] (suc r) h e = let no : ⊥ = omega arith in absurd no
early_passed c mark (x ∷ xs) (suc r) h (t, e) = record { within = h; same = rw (le-ltb mark x.time t, next_to_send) (early_passed c mark xs r (omega arith) e).same }

-- The first i entries are not sent, and all behind them are later than the mark.
pub record Searched (c : Channel) (mark : ℕ) (log : List Entry) (i : ℕ) : Type 0 where
  pub passed : Passed c mark log i
  pub late : Each (λ (e : Entry). mark < e.time) (drop i log)

module _ (c : Channel) (mark : ℕ) (log : List Entry) where
  pub search_from : (r : ℕ) → LaterFrom mark log r → Searched c mark log r
  search_from r h = record { passed = early_passed c mark log r h.within h.early; late = h.late }

  module _ (i : ℕ) (p : Searched c mark log i) (h : i < length log) (e : Entry) (q : e ≡ get_or log i no_entry) where
    rest : (mark < (get_or log i no_entry).time) × Each (λ (e : Entry). mark < e.time) (drop (suc i) log)
    rest = subst (Each (λ (e : Entry). mark < e.time)) (drop-cons log i no_entry h) p.late

    later : ltb mark e.time ≡ true
    later = lt-ltb mark e.time (subst (λ (x : Entry). mark < x.time) (sym q) rest.0)

    pub search_found : takes c e.what ≡ true → next_to_send c mark log ≡ some e
    search_found t = next_found c mark log i p.passed h e q (rw (later, t))

    pub search_on : takes c e.what ≡ false → Searched c mark log (i + 1)
    search_on t = record { passed = next_passed c mark log i p.passed h e q (rw (later, t)); late = subst (λ (j : ℕ). Each (λ (e : Entry). mark < e.time) (drop j log)) (sym (add-one i)) rest.1 }
