-- The plan's bytes over a run: Write gives back what was loaded, and two plans that differ in their version alone run alike, the rules' statement carried to the states that hold the lines.
use Prim.Native.Nat.{ℕ, ◌≤◌}
use mathlib.Core.Path.{◌≡◌, sym, ap, ◌∙◌}
use mathlib.Core.List.{List, ◌++◌, map, append_assoc}
use lib.ListN.{length, take, drop, replicate}
use lib.Seq.{take_at, drop_at}
use Rattle.plan.specs.Lawful.{Each, Bytes}
use Rattle.plan.specs.Plan.{Plan, node_count, channel_count, plan_of, plan_bytes, head_numbers}
use Rattle.plan.proofs.PlanLaws.{plan-written}
use Rattle.plan.proofs.FitsLaws.{fitting}
use Rattle.rules.specs.Line.{Line, initial_line}
use Rattle.rules.specs.Claim.{Story, start_of, story_from}
use Rattle.rules.specs.Versions.{LineAlike}
use Rattle.rules.proofs.Order.{story_plan}
use Rattle.rules.proofs.Versions.RunAlike.{run_alike}
use Rattle.state.specs.Sizes.{plan_area, tail_size}
use Rattle.state.specs.Lane.{pad_lane}
use Rattle.state.specs.Fits.{LineFits}
use Rattle.state.specs.State.{plan_part, steps_part, nodes_part, lanes_part, line_bytes, line_of}
use Rattle.state.proofs.SpelledLaws.{Sane, state_sane}
use Rattle.state.proofs.AcceptedState.{sane_fits}
use Rattle.state.proofs.LineLaws.{plan_part_sound}
use Rattle.state.proofs.InPlace.{plan_long}
use Rattle.line.specs.Load.{load_answer, load_left}
use Rattle.line.specs.Order.{state_after, story_of, AsTold}
use Rattle.line.specs.Write.{loaded_plan, GivenBack, GivesBack}
use Rattle.line.specs.Versions.{RunAlikeOnBytes}
use Rattle.line.proofs.LoadLaws.{load_accepted, load_right}
use Rattle.line.proofs.WriteLaws.{write_done}
use Rattle.line.proofs.StepRun.{run_of_lines}

-- A plan as its area holds it.
abbrev plan_in : Plan → List ℕ
plan_in p = (plan_part p.version (node_count p) (channel_count p)).write (head_numbers p, p)

-- What stands behind it.
abbrev behind_plan : Line → List ℕ
behind_plan l =
    steps_part.write l.steps ++ ((nodes_part (node_count l.plan)).write l.nodes ++ (lanes_part (channel_count l.plan)).write (map pad_lane l.lanes)) ++ replicate tail_size 0

plan-apart : (l : Line) → LineFits l → (take plan_area (line_bytes l) ≡ plan_in l.plan) × (drop plan_area (line_bytes l) ≡ behind_plan l)
unfolding line_bytes
plan-apart l fits =
    let p = l.plan in
    let few = fitting p fits.plan in
    let front = plan_in p in
    let rest = steps_part.write l.steps ++ ((nodes_part (node_count p)).write l.nodes ++ (lanes_part (channel_count p)).write (map pad_lane l.lanes)) in
    let split = append_assoc front rest (replicate tail_size 0) in
    let long : length front ≡ plan_area = (plan_part_sound p.version (node_count p) (channel_count p)).sized (head_numbers p, p) ∙ plan_long p.version (node_count p) (channel_count p) few.nodes_most few.channels_most in
    (ap (take plan_area) split ∙ take_at front (rest ++ replicate tail_size 0) plan_area long, ap (drop plan_area) split ∙ drop_at front (rest ++ replicate tail_size 0) plan_area long)

front_of : (s : List ℕ) → Sane s → take plan_area s ≡ plan_in (line_of s).plan
front_of s sane = ap (take plan_area) (sym sane.written) ∙ (plan-apart (line_of s) (sane_fits s sane)).0

behind-of : (s : List ℕ) → Sane s → drop plan_area s ≡ behind_plan (line_of s)
behind-of s sane = ap (drop plan_area) (sym sane.written) ∙ (plan-apart (line_of s) (sane_fits s sane)).1

-- What stands behind the plan goes by no version.
behind_alike : (k l : Line) → LineAlike k l → behind_plan k ≡ behind_plan l
behind_alike k l same = λ i.
    steps_part.write (same.steps i)
    ++ ((nodes_part (length (same.plan.rules i))).write (same.nodes i) ++ (lanes_part (length (same.plan.channels i))).write (map pad_lane (same.lanes i)))
    ++ replicate tail_size 0

-- One of the runs.
module _ (plan lent : List ℕ) (frames : List (List ℕ)) (bytes : Bytes plan) (each : Each Bytes frames) (z : load_answer plan lent ≡ 0) where
  abbrev start : List ℕ
  start = load_left plan lent

  abbrev end : List ℕ
  end = state_after start frames

  abbrev story : Story
  story = story_from (start_of (initial_line (plan_of plan))) frames

  told : AsTold start frames story
  told = run_of_lines plan lent frames bytes each z

  end_sane : Sane end
  end_sane = (state_sane end).0 told.accepted

  end_line : line_of end ≡ story.line
  unfolding story_of
  end_line = ap (λ (s : Story). s.line) told.story

  plan_kept : (line_of end).plan ≡ plan_of plan
  unfolding initial_line
  plan_kept = ap (λ (l : Line). l.plan) end_line ∙ story_plan frames (start_of (initial_line (plan_of plan)))

  plan_stays : take plan_area end ≡ take plan_area start
  unfolding initial_line
  plan_stays =
      let right = load_right plan lent bytes z in
      front_of end end_sane ∙ ap plan_in (plan_kept ∙ ap (λ (l : Line). l.plan) (sym right.line)) ∙ sym (front_of start ((state_sane start).0 right.accepted))

  -- What was loaded is written again: the same bytes, and past them what was there.
  given_back : (out : List ℕ) → length plan ≤ length out → GivenBack plan end out
  given_back out long =
      let same : loaded_plan end ≡ plan = ap plan_bytes plan_kept ∙ plan-written plan bytes (load_accepted plan lent z).0 in
      let done = write_done end out told.accepted (rw same long) in
      record { number = sym done.0; left = sym done.1 ∙ ap (λ (p : List ℕ). p ++ drop (length p) out) same }

pub gives_back : GivesBack
gives_back p lent out frames bytes each z long = given_back p lent frames bytes each z out long

pub run_alike_on_bytes : RunAlikeOnBytes
run_alike_on_bytes plan other lent lent-too frames bytes bytes-too each z z-too same =
    let alike = run_alike (plan_of plan) (plan_of other) frames same in
    let one = told plan lent frames bytes each z in
    let two = told other lent-too frames bytes-too each z-too in
    let k = end_sane plan lent frames bytes each z in
    let l = end_sane other lent-too frames bytes-too each z-too in
    let lines : LineAlike (line_of (state_after (load_left plan lent) frames)) (line_of (state_after (load_left other lent-too) frames)) =
    rw (end_line plan lent frames bytes each z, end_line other lent-too frames bytes-too each z-too) alike.line in
    record {
      numbers = ap (λ (s : Story). s.numbers) one.story ∙ alike.numbers ∙ sym (ap (λ (s : Story). s.numbers) two.story);
      left = behind-of _ k ∙ behind_alike _ _ lines ∙ sym (behind-of _ l);
      plan = plan_stays plan lent frames bytes each z;
      plan_too = plan_stays other lent-too frames bytes-too each z-too;
    }
