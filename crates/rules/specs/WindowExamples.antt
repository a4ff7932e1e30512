-- Channels that sort by mass (document 02, 2026-02), computed: a replay that drops and places by mass, the plain line, and the check of a held record.
use Rattle.std.specs.Prelude.{ℕ, ◌/◌, ◌%◌, ◌≡◌, refl, true, false, List, [], ◌∷◌, ◌++◌, map, replicate}
use Rattle.std.proofs.Math.Option.{none}
use Rattle.plan.specs.declared.Record.{Record}
use Rattle.plan.specs.declared.Channel.{Channel}
use Rattle.plan.specs.declared.Rule.TheVariants.{Keep, Cap}
use Rattle.plan.specs.Plan.{Plan, plan_bytes}
use Rattle.plan.specs.Check.{plan_refusal}
use Rattle.rules.specs.Line.{fed, Held, fresh_node, node_at, initial_line}
use Rattle.rules.specs.Damaged.{held_not_passed}
use Rattle.rules.specs.Plain.{feeds, takes_from, plain_run}
use Rattle.rules.specs.Claim.{Story, start_of, story_from, told}
use Rattle.rules.specs.Marked.{channel, frame, moved, log_numbers}

abbrev within : ℕ → ℕ → ℕ → ℕ → Channel
within sender receiver least greatest = record { sender = sender; receiver = receiver; mask = 65_535; modulus = 1; remainder = 0; least = least; greatest = greatest }

-- 0 and 1 feed 2, which caps masses at 120 and sends those up to 40 to 3 and those from 60 on to 4.
unfoldable pub mass_plan : Plan
mass_plan = record { version = 2; rules = Keep ∷ Keep ∷ Cap 120 ∷ Keep ∷ Keep ∷ []; channels = channel 0 2 65_535 ∷ channel 1 2 65_535 ∷ within 2 3 0 40 ∷ within 2 4 60 120 ∷ [] }

accepted : plan_refusal (plan_bytes mass_plan) ≡ 0
unfolding plan_refusal plan_bytes mass_plan
accepted = refl

-- A Feed of material 1.
abbrev feed_mass : ℕ → ℕ → ℕ → List ℕ
feed_mass node piece mass = 0 ∷ 13 ∷ 1 ∷ 1 ∷ node ∷ 0 ∷ 0 ∷ 0 ∷ piece ∷ 1 ∷ 0 ∷ mass / 256 ∷ mass % 256 ∷ []

-- Pieces of 10, 50 and 900 enter at 0, one of 40 at 1. Node 2 takes them in this order, node 4 takes piece 3; 2 crashes and recovers.
unfoldable pub mass_frames : List (List ℕ)
mass_frames =
    feed_mass 0 1 10 ∷ feed_mass 0 2 50 ∷ feed_mass 0 3 900 ∷ feed_mass 1 4 40
    ∷ (moved 0 ++ (moved 0 ++ (moved 0 ++ (moved 1 ++ (moved 3 ++ frame 4 2 ∷ frame 5 2 ∷ [])))))

-- Pieces 1 and 2 are taken again: the second is dropped, since no channel takes 50.
unfoldable pub mass_held : Story
unfolding mass_plan mass_frames told initial_line
mass_held = story_from (start_of (initial_line mass_plan)) (mass_frames ++ (moved 0 ++ moved 0))

held-by_mass : map (λ (h : Held). h.what.piece) (node_at mass_held.line 2).held ≡ 1 ∷ []
unfolding mass_held
held-by_mass = refl

-- Piece 3 ends the replay at its time 2. Piece 1 is free and comes before it: node 4, which has taken up to 2, is not a child that gets it.
unfoldable pub mass_ended : Story
unfolding mass_held told
mass_ended = story_from mass_held (moved 0)

all_accepted : mass_ended.numbers ≡ replicate 22 0
unfolding mass_ended
all_accepted = refl

placed_by_mass : log_numbers (node_at mass_ended.line 2).log ≡ 1 ∷ 1 ∷ 2 ∷ 3 ∷ []
unfolding mass_ended
placed_by_mass = refl

-- Of these a Send to 3 finds piece 1 alone; and later piece 4, whose mass is the greatest that goes there.
sent-by_mass : (story_from mass_ended (moved 2 ++ (frame 2 2 ∷ (moved 1 ++ moved 2)))).numbers ≡ replicate 24 0 ++ 18 ∷ replicate 4 0
unfolding mass_ended told
sent-by_mass = refl

-- The plain line: what joins each channel, after the rule.
abbrev piece : ℕ → ℕ → Record
piece number mass = record { piece = number; material = 1; mass = mass }

plain_by_mass : (plain_run mass_plan (feeds 0 (piece 1 40) ∷ feeds 0 (piece 2 41) ∷ feeds 0 (piece 3 59) ∷ feeds 0 (piece 4 900) ∷ takes_from 0 ∷ takes_from 0 ∷ takes_from 0 ∷ takes_from 0 ∷ [])).queues ≡ [] ∷ [] ∷ (piece 1 40 ∷ []) ∷ (piece 4 120 ∷ []) ∷ []
unfolding plain_run mass_plan
plain_by_mass = refl

-- "a held record is one that no leaving belt takes": 41 and 59, but not 40 and 60
abbrev holds_mass : ℕ → Held
holds_mass mass = record { what = piece 1 mass; sender = 0; time = 1; before = fed }

damaged-by_mass : map (λ (m : ℕ). held_not_passed mass_plan 2 (record { status = fresh_node.status; crashed = true; time = 0; log = []; held = holds_mass m ∷ []; targets = []; asked = none })) (40 ∷ 41 ∷ 59 ∷ 60 ∷ 120 ∷ []) ≡ false ∷ true ∷ true ∷ false ∷ false ∷ []
unfolding held_not_passed mass_plan
damaged-by_mass = refl
