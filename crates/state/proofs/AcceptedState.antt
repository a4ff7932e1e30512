-- States that are accepted: the bytes of a line that is not damaged; and what the check of a state has to look at.
use Prim.Native.Nat.{ℕ}
use mathlib.Core.Path.{◌≡◌, sym, ap, ◌∙◌}
use mathlib.Core.Logic.{◌↔◌}
use mathlib.Core.Bool.{true, false}
use mathlib.Core.List.{List}
use lib.ListN.{length}
use Rattle.plan.specs.Lawful.{Bytes}
use Rattle.plan.specs.Plan.{plan_of}
use Rattle.plan.specs.Check.{plan_fits, plan_refusal}
use Rattle.plan.proofs.FitsLaws.{fitting}
use Rattle.rules.specs.Line.{Line}
use Rattle.rules.specs.Damaged.{damaged}
use Rattle.state.specs.Sizes.{state_size}
use Rattle.state.specs.State.{line_bytes, line_of, state_answer}
use Rattle.state.specs.Right.{StateRight}
use Rattle.state.specs.Fits.{LineFits}
use Rattle.state.proofs.LineLaws.{line_read, line_long}
use Rattle.state.proofs.SpelledLaws.{Sane, state_sane}
use Rattle.state.proofs.InPlace.{Counted, line-plan}
use Rattle.state.proofs.PlanFitting.{fits_counted}
use Rattle.state.proofs.WholeRight.{state_right}
use Rattle.state.proofs.StoredPlan.{stored_plan, stored_accepted}
use Rattle.state.proofs.Undamaged.{undamaged_fits}

-- ---- what is written

pub undamaged_sane : (l : Line) → damaged l ≡ false → Sane (line_bytes l)
undamaged_sane l q =
    let f = undamaged_fits l q in
    let p = fitting l.plan f.plan in
    let read = line_read l f in
    record { long = line_long l p.nodes_most p.channels_most; written = ap line_bytes read; undamaged = ap damaged read ∙ q }

pub undamaged_accepted : (l : Line) → damaged l ≡ false → state_answer (line_bytes l) ≡ 0
undamaged_accepted l q = (state_sane (line_bytes l)).1 (undamaged_sane l q)

-- The bytes of a line that is not damaged.
pub record Holding (s : List ℕ) : Type 0 where
  pub line : Line
  pub undamaged : damaged line ≡ false
  pub written : line_bytes line ≡ s

-- A state is accepted exactly where its bytes are what the layout writes for an undamaged line.
pub accepted-holding : (s : List ℕ) → (state_answer s ≡ 0) ↔ Holding s
accepted-holding s = (
  λ z. let a = (state_sane s).0 z in record { line = line_of s; undamaged = a.undamaged; written = a.written },
  λ h. ap state_answer (sym h.written) ∙ undamaged_accepted h.line h.undamaged,
)

-- ---- what is read

module _ (s : List ℕ) (a : Sane s) where
  pub sane_fits : LineFits (line_of s)
  sane_fits = undamaged_fits (line_of s) a.undamaged

  pub sane_plan : plan_fits (plan_of s) ≡ true
  sane_plan = ap plan_fits (sym (line-plan s)) ∙ sane_fits.plan

  pub sane_counted : Counted s
  sane_counted = fits_counted s sane_plan

-- The check, in three: the stored plan as at Load, the bytes part by part, the line.
pub state_checked_lem : (s : List ℕ) → length s ≡ state_size → Bytes s → (state_answer s ≡ 0) ↔ ((plan_refusal (stored_plan s) ≡ 0) × (StateRight s × (damaged (line_of s) ≡ false)))
state_checked_lem s long h = (
  λ z.
      let a = (state_sane s).0 z in
      let r = (state_right s long h (sane_counted s a)).0 a.written in
      ((stored_accepted s h).1 (sane_plan s a, r.plan), (r, a.undamaged)),
  λ r.
      let few = fits_counted s ((stored_accepted s h).0 r.0).0 in
      (state_sane s).1 (record { long = long; written = (state_right s long h few).1 r.1.0; undamaged = r.1.1 }),
)
