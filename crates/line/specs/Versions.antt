-- 2026-02 on bytes: a version 1 plan, and the version 2 plan with the same channels and windows 0..65535, run alike.
use Rattle.std.specs.Prelude.{ℕ, ◌≡◌, List, take, drop}
use Rattle.plan.specs.Lawful.{Each, Bytes}
use Rattle.plan.specs.Plan.{plan_of}
use Rattle.plan.specs.Versions.{SameButVersion}
use Rattle.state.specs.Sizes.{plan_area}
use Rattle.line.specs.Load.{load_answer, load_left}
use Rattle.line.specs.Order.{state_after, story_of}

-- Each loaded, and the same frames passed to Step: the same numbers and the same state outside the plan's bytes, which stay as they were loaded.
pub record AlikeOnBytes (s t : List ℕ) (frames : List (List ℕ)) : Type 0 where
  pub numbers : (story_of s frames).numbers ≡ (story_of t frames).numbers
  pub left : drop plan_area (state_after s frames) ≡ drop plan_area (state_after t frames)
  pub plan : take plan_area (state_after s frames) ≡ take plan_area s
  pub plan_too : take plan_area (state_after t frames) ≡ take plan_area t

abbrev pub RunAlikeOnBytes : Type 0
RunAlikeOnBytes =
    (plan other lent lent-too : List ℕ) (frames : List (List ℕ)) → Bytes plan → Bytes other → Each Bytes frames → load_answer plan lent ≡ 0 → load_answer other lent-too ≡ 0
    → SameButVersion (plan_of plan) (plan_of other) → AlikeOnBytes (load_left plan lent) (load_left other lent-too) frames
