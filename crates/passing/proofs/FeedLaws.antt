-- What Feed answers, and that logging is two writes.
use Prim.Native.Nat.{ℕ, suc, ◌≤◌, ◌<◌}
use mathlib.Core.Path.{◌≡◌, refl, sym, ap, ◌∙◌}
use mathlib.Core.Bool.{Bool, true, false, not, ◌&&◌, ◌||◌}
use mathlib.Core.List.{List, [], ◌∷◌}
use mathlib.Core.Option.{some}
use native.Mathlib.Omega.{arith}
use borrow.Author.Tests.{le-leb, lt-leb}
use lib.Dec.{leb, eqb}
use lib.ListN.{length}
use Rattle.plan.specs.declared.Record.{Record}
use Rattle.plan.specs.Record.{record_layout, record_fits}
use Rattle.plan.specs.Plan.{Plan, plan_of, plan_nodes, node_count, is_source, is_sink}
use Rattle.plan.specs.Mask.{set_of}
use Rattle.rules.specs.Line.{log_limit, Origin, fed, Node, Line, node_at, with_node}
use Rattle.rules.specs.Frame.{feed}
use Rattle.rules.specs.Clock.{logged}
use Rattle.rules.specs.Replay.{timed}
use Rattle.rules.specs.Step.{made_by, fed_line, effect, line_refusal}
use Rattle.rules.proofs.Histories.Passing.{timed_by_set}
use Rattle.state.specs.Changes.{with_time, more_logged}
use Rattle.state.specs.State.{line_of}
use Rattle.state.proofs.InPlace.{line-plan}
use Rattle.buffer.specs.Holds.{Holds, NodeNow, Did}
use Rattle.buffer.proofs.HoldsLaws.{holds-nodes}
use Rattle.passing.proofs.RefusalLaws.{first_of, feed_number, refused, accepted}

-- The entry is appended and the time set.
pub logged_twice : (time chosen : ℕ) (what : Record) (origin before : Origin) (x : Node) → with_time time (more_logged (record { what = what; time = time; origin = origin; before = before; set = chosen }) x) ≡ logged time chosen what origin before x
unfolding logged
logged_twice time chosen what origin before x = refl

-- Whether a record gets a time, by its set and the plan in front.
pub timed_in : (s : List ℕ) (n set : ℕ) (what : Record) → set ≡ set_of (plan_of s) n what → (is_sink (plan_of s) n || not (eqb set 0)) ≡ timed (line_of s).plan n what
timed_in s n set what is = ap (λ (k : ℕ). is_sink (plan_of s) n || not (eqb k 0)) is ∙ sym (timed_by_set (plan_of s) n what) ∙ ap (λ (p : Plan). timed p n what) (sym (line-plan s))

-- What a source makes of what is fed, with its time and set; and whether it gets one.
abbrev pub fed_to : Line → ℕ → List ℕ → Node → Node
fed_to l n r = let what = made_by l n (record_layout.read r) in logged (suc (node_at l n).time) (set_of l.plan n what) what fed fed

abbrev pub is_timed : Line → ℕ → List ℕ → Bool
is_timed l n r = timed l.plan n (made_by l n (record_layout.read r))

feed_effect : (l : Line) (n : ℕ) (r : List ℕ) → is_timed l n r ≡ true → effect l (feed n r) ≡ some (with_node n (fed_to l n r (node_at l n)) l)
unfolding effect
feed_effect l n r e = ap some (rw (fed_line, e))

quiet_effect : (l : Line) (n : ℕ) (r : List ℕ) → is_timed l n r ≡ false → effect l (feed n r) ≡ some l
unfolding effect
quiet_effect l n r e = ap some (rw (fed_line, e))

module _ (s : List ℕ) (n : ℕ) (r : List ℕ) (held : Holds s (line_of s)) where
  pub feed_past : plan_nodes s ≤ n → Did s (feed n r) s 13
  feed_past h = refused s (feed n r) 13 (λ e. omega arith) (feed_number (line_of s) n r ∙ rw (le-leb (node_count (line_of s).plan) n (rw (← holds-nodes held) h)))

  module _ (inside : n < plan_nodes s) where
    pub feed_between : is_source (plan_of s) n ≡ false → Did s (feed n r) s 14
    feed_between h = refused s (feed n r) 14 (λ e. omega arith) (feed_number (line_of s) n r ∙ rw (lt-leb (node_count (line_of s).plan) n (rw (← holds-nodes held) inside), line-plan s, h))

    module _ (source : is_source (plan_of s) n ≡ true) where
      pub feed_unfit : record_fits r ≡ false → Did s (feed n r) s 17
      feed_unfit h = refused s (feed n r) 17 (λ e. omega arith) (feed_number (line_of s) n r ∙ rw (lt-leb (node_count (line_of s).plan) n (rw (← holds-nodes held) inside), line-plan s, source, h))

      source_here : is_source (line_of s).plan n ≡ true
      source_here = ap (λ (p : Plan). is_source p n) (line-plan s) ∙ source

      module _ (fits : record_fits r ≡ true) where
        number : (timed full : Bool) → is_timed (line_of s) n r ≡ timed → leb log_limit (length (node_at (line_of s) n).log) ≡ full → line_refusal (line_of s) (feed n r) ≡ first_of ((21, timed && full) ∷ [])
        number timed full e f = feed_number (line_of s) n r ∙ rw (lt-leb (node_count (line_of s).plan) n (rw (← holds-nodes held) inside), source_here, fits, e, f)

        pub feed_quiet : is_timed (line_of s) n r ≡ false → Did s (feed n r) s 0
        feed_quiet e = accepted s s (feed n r) (line_of s) (number false _ e refl) (quiet_effect (line_of s) n r e) held

        module _ (timed : is_timed (line_of s) n r ≡ true) where
          pub feed_full : log_limit ≤ length (node_at (line_of s) n).log → Did s (feed n r) s 21
          feed_full h = refused s (feed n r) 21 (λ e. omega arith) (number true true timed (le-leb log_limit (length (node_at (line_of s) n).log) h))

          pub feed_done : (t : List ℕ) → length (node_at (line_of s) n).log < log_limit → NodeNow s n (fed_to (line_of s) n r) t → Did s (feed n r) t 0
          feed_done t h now =
              let l = line_of s in
              accepted s t (feed n r) (with_node n (fed_to l n r (node_at l n)) l) (number true false timed (lt-leb log_limit (length (node_at l n).log) h)) (feed_effect l n r timed) now.holds
