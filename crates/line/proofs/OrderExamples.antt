-- P9 on bytes: its plan loaded into any state of the right size, then its frames. What the calls tell is the rules' own story of P9.
use Prim.Native.Nat.{ℕ, ◌<◌}
use mathlib.Core.Path.{◌≡◌, refl, sym, ◌∙◌}
use mathlib.Core.Bool.{false}
use mathlib.Core.List.{List, ◌∷◌, ◌++◌}
use borrow.Author.Tests.{leb-false}
use lib.Dec.{leb}
use lib.ListN.{length}
use Rattle.plan.specs.Lawful.{Each, Bytes}
use Rattle.plan.specs.Plan.{plan_of, plan_bytes}
use Rattle.plan.specs.Check.{plan_refusal}
use Rattle.rules.specs.Lists.{any_of}
use Rattle.rules.specs.Line.{initial_line}
use Rattle.rules.specs.Claim.{told, story_from, start_of}
use Rattle.rules.specs.Marked.{frame, moved, replay_plan, replay_frames, replay_after}
use Rattle.state.specs.Sizes.{state_size}
use Rattle.state.proofs.ListLaws.{none_each, each_imply}
use Rattle.line.specs.Load.{load_left}
use Rattle.line.specs.Order.{story_of}
use Rattle.line.proofs.LoadLaws.{loaded}
use Rattle.line.proofs.StepRun.{run_of_lines}

byte_list : (s : List ℕ) → any_of (leb 256) s ≡ false → Bytes s
byte_list s e = each_imply (λ (b : ℕ). leb 256 b ≡ false) (λ b. b < 256) (leb-false 256) s (none_each (leb 256) s e)

byte_lists : (fs : List (List ℕ)) → any_of (any_of (leb 256)) fs ≡ false → Each Bytes fs
byte_lists fs e = each_imply (λ (f : List ℕ). any_of (leb 256) f ≡ false) Bytes byte_list fs (none_each (any_of (leb 256)) fs e)

unfoldable plan_given : List ℕ
unfolding plan_bytes replay_plan
plan_given = plan_bytes replay_plan

-- Up to the crash and Recover; the Take that is 20; the Take that ends the replay; and until node 4 has received 1, 3, 2.
unfoldable frames_given : List (List ℕ)
unfolding replay_frames
frames_given = replay_frames ++ (moved 1 ++ (moved 0 ++ (moved 3 ++ (frame 3 1 ∷ (moved 0 ++ (moved 3 ++ moved 3))))))

plan_bytes_lem : any_of (leb 256) plan_given ≡ false
unfolding plan_given
plan_bytes_lem = refl

frame_bytes : any_of (any_of (leb 256)) frames_given ≡ false
unfolding frames_given
frame_bytes = refl

plan_good : plan_refusal plan_given ≡ 0
unfolding plan_given plan_refusal
plan_good = refl

by_rules : story_from (start_of (initial_line (plan_of plan_given))) frames_given ≡ replay_after
unfolding plan_given frames_given plan_of initial_line told replay_after
by_rules = refl

replay_on_bytes : (lent : List ℕ) → length lent ≡ state_size → story_of (load_left plan_given lent) frames_given ≡ replay_after
replay_on_bytes lent sized =
    let plan = byte_list plan_given plan_bytes_lem in
    (run_of_lines plan_given lent frames_given plan (byte_lists frames_given frame_bytes) (sym (loaded plan_given lent plan plan_good sized).0)).story ∙ by_rules
