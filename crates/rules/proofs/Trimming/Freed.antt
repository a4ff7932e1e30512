-- A Trim makes space, and later steps use it.
use Prim.Native.Nat.{ℕ, ◌<◌}
use mathlib.Core.Path.{◌≡◌, refl, sym, ap, ◌∙◌}
use mathlib.Core.Bool.{Bool, true, false, true≢false}
use mathlib.Core.List.{List}
use native.Mathlib.Omega.{arith}
use lib.Dec.{leb}
use lib.ListN.{length, get_or, get_or-eq_default, length-append}
use lib.Seq.{set_out}
use borrow.Author.Tests.{eqb-true, lt-leb, leb-true, leb-false}
use Rattle.plan.specs.Record.{record_layout}
use Rattle.rules.specs.Replay.{timed}
use Rattle.rules.specs.Line.{log_limit, up, Node, Line, fresh_node, node_at, receiver_of, counted, with_node}
use Rattle.rules.specs.Frame.{Frame, feed, send, take, crash, recover, trim, ask, commit, frame_console, frame_of}
use Rattle.rules.specs.Trim.{droppable, behind, trimmed_line}
use Rattle.rules.specs.Step.{no_space, take_lacks, accepted, effect, step, made_by}
use Rattle.rules.specs.Trimming.{logs_at, TrimFrees, FreedAreUsed}
use Rattle.rules.proofs.Undamaged.TestLaws.{by_unless}
use Rattle.rules.proofs.Invariant.Trimmed.{leading-behind, run, rest, node_after, trimmed_is, trimmed_node}
use Rattle.rules.proofs.Theorem.Accepted.{lacking, step-accepted}
use Rattle.rules.proofs.Console.Counted.{step-number}

-- What is left is behind the run; a node that the line has not has no log before or after.
trimmed_log : (l : Line) (n : ℕ) → (node_at (trimmed_line n l) n).log ≡ rest l n
unfolding with_node
trimmed_log l n = ap (λ (k : Line). (node_at k n).log) (trimmed_is l n) ∙ one (leb (length l.nodes) n) refl
  where
    one : (t : Bool) → leb (length l.nodes) n ≡ t → (node_at (with_node n (node_after l n) l) n).log ≡ rest l n
    one true e =
        let out = leb-true (length l.nodes) n e in
        let none : node_at l n ≡ fresh_node = get_or-eq_default l.nodes fresh_node out in
        ap (λ (xs : List Node). (get_or xs n fresh_node).log) (set_out l.nodes n (node_after l n) out) ∙ ap (λ (x : Node). x.log) none ∙ sym (ap (λ (x : Node). behind (droppable l n) x.log) none)
    one false e = ap (λ (x : Node). x.log) (trimmed_node l n (leb-false (length l.nodes) n e))

pub trim_frees : TrimFrees
unfolding counted effect
trim_frees l n f is z =
    let done = (step-accepted l f (sym (step-number l f) ∙ z)).1 ∙ ap (λ (g : Frame). accepted (frame_console f) l (effect l g)) is in
    let left : (node_at (step l f).line n).log ≡ rest l n = ap (λ (k : Line). (node_at k n).log) done ∙ trimmed_log l n in
    omega (arith, ap length left, ap length (leading-behind (droppable l n) (node_at l n).log) ∙ length-append (run l n) (rest l n))

module _ (l : Line) (n : ℕ) (stands_up : (node_at l n).status ≡ up) (room : length (node_at l n).log < log_limit) where
  has_space : (f : Frame) → logs_at l n f ≡ true → no_space l f ≡ true → ⊥
  unfolding take_lacks
  has_space (feed m r) at lacks = let same : m ≡ n = eqb-true m n at in true≢false (sym lacks ∙ by_unless (timed l.plan m (made_by l m (record_layout.read r))) (leb log_limit (length (node_at l m).log)) (λ e. rw same (lt-leb log_limit (length (node_at l n).log) room)))
  has_space (send b) at lacks = true≢false (sym at)
  has_space (take b) at lacks = let same : receiver_of l b ≡ n = eqb-true (receiver_of l b) n at in true≢false (sym lacks ∙ rw (same, stands_up) (lt-leb log_limit (length (node_at l n).log) room))
  has_space (crash m) at lacks = true≢false (sym at)
  has_space (recover m) at lacks = true≢false (sym at)
  has_space (trim m) at lacks = true≢false (sym at)
  has_space (ask m) at lacks = true≢false (sym at)
  has_space (commit m) at lacks = true≢false (sym at)

pub freed_are_used : FreedAreUsed
freed_are_used l n f stands_up room logs e = has_space l n stands_up room (frame_of f) logs (lacking l f (sym (step-number l f) ∙ e))
