-- The layout computed: the paper's two-node plan as a fresh line, and lines with something in them, written and read back.
use Rattle.std.specs.Prelude.{ℕ, ◌+◌, ◌*◌, true, false, ◌≡◌, refl, List, [], ◌∷◌, ◌++◌, map, take, drop, set, replicate}
use Rattle.std.proofs.Math.Option.{none, some}
use Rattle.plan.specs.declared.Rule.TheVariants.{Keep}
use Rattle.plan.specs.declared.Record.{Record}
use Rattle.rules.specs.Line.{fed, made, Entry, up, down, replay, Node, Line, fresh_node, initial_line, only_count}
use Rattle.rules.specs.Step.{step}
use Rattle.rules.specs.Marked.{channel}
use Rattle.rules.specs.DamagedLines.{fallen_asked}
use Rattle.state.specs.Node.{node_layout}
use Rattle.state.specs.State.{line_bytes, line_of, state_answer}

unfoldable pub two_nodes : Line
unfolding initial_line
two_nodes = initial_line (record { version = 1; rules = Keep ∷ Keep ∷ []; channels = record { sender = 0; receiver = 1; mask = 65535; modulus = 1; remainder = 0; least = 0; greatest = 65_535 } ∷ [] })

-- Its bytes are the plan's, and 0 behind them.
abbrev two_nodes_plan : List ℕ
two_nodes_plan = 0 ∷ 19 ∷ 1 ∷ 2 ∷ 1 ∷ 0 ∷ 0 ∷ 0 ∷ 0 ∷ 0 ∷ 0 ∷ 0 ∷ 0 ∷ 0 ∷ 1 ∷ 255 ∷ 255 ∷ 1 ∷ 0 ∷ []

pub two_nodes-written : line_bytes two_nodes ≡ two_nodes_plan ++ replicate 61_421 0
unfolding line_bytes two_nodes
two_nodes-written = refl

pub two_nodes_read : line_of (line_bytes two_nodes) ≡ two_nodes
unfolding line_bytes line_of two_nodes
two_nodes_read = refl

pub two_nodes-accepted : state_answer (line_bytes two_nodes) ≡ 0
unfolding line_bytes state_answer two_nodes
two_nodes-accepted = refl

-- One byte too few, and an unused byte that is not 0.
pub short_refused : state_answer (take 61_439 (line_bytes two_nodes)) ≡ 8
unfolding line_bytes state_answer two_nodes
short_refused = refl

pub unused_refused : state_answer (set (line_bytes two_nodes) 61_439 1) ≡ 8
unfolding line_bytes state_answer two_nodes
unused_refused = refl

-- A version that is none: the bytes are still those of their line, so it is the plan that is refused.
pub version_refused : state_answer (set (line_bytes two_nodes) 2 3) ≡ 8
unfolding line_bytes state_answer two_nodes
version_refused = refl

-- A plan of version 2 (2026-02): its own bytes stand in front, read back, and the state is accepted.
unfoldable pub by_mass : Line
unfolding initial_line
by_mass = initial_line (record { version = 2; rules = Keep ∷ Keep ∷ []; channels = record { sender = 0; receiver = 1; mask = 65535; modulus = 1; remainder = 0; least = 258; greatest = 772 } ∷ [] })

abbrev by_mass_plan : List ℕ
by_mass_plan = 0 ∷ 23 ∷ 2 ∷ 2 ∷ 1 ∷ 0 ∷ 0 ∷ 0 ∷ 0 ∷ 0 ∷ 0 ∷ 0 ∷ 0 ∷ 0 ∷ 1 ∷ 255 ∷ 255 ∷ 1 ∷ 0 ∷ 1 ∷ 2 ∷ 3 ∷ 4 ∷ []

pub by_mass-written : line_bytes by_mass ≡ by_mass_plan ++ replicate 61_417 0
unfolding line_bytes by_mass
by_mass-written = refl

pub by_mass_read : line_of (line_bytes by_mass) ≡ by_mass
unfolding line_bytes line_of by_mass
by_mass_read = refl

pub by_mass-accepted : state_answer (line_bytes by_mass) ≡ 0
unfolding line_bytes state_answer by_mass
by_mass-accepted = refl

-- The version changed to 1, and the least mass raised above the greatest.
pub by_mass_refused : map (λ (change : ℕ × ℕ). state_answer (set (line_bytes by_mass) change.0 change.1)) ((2, 1) ∷ (19, 4) ∷ []) ≡ 8 ∷ 8 ∷ []
unfolding line_bytes state_answer by_mass
by_mass_refused = refl

-- The same line after the paper's first two frames, with a message on the channel, and one that replays.
abbrev piece : Record
piece = record { piece = 7; material = 1; mass = 250 }

unfoldable pub sent : Line
unfolding two_nodes
sent = record {
  plan = two_nodes.plan;
  steps = only_count 2;
  nodes = record { status = up; crashed = false; time = 1; log = record { what = piece; time = 1; origin = fed; before = fed; set = 1 } ∷ []; held = []; targets = []; asked = none } ∷ fresh_node ∷ [];
  lanes = record { mark = 1; taken = 0; heard = []; queue = record { what = piece; time = 1; origin = fed } ∷ []; low = 0 ∷ [] } ∷ [];
}

unfoldable pub replaying : Line
unfolding two_nodes
replaying = record {
  plan = two_nodes.plan;
  steps = 9 ∷ 258 ∷ 0 ∷ 3 ∷ [];
  nodes =
      fresh_node
      ∷ record {
        status = replay;
        crashed = true;
        time = 3;
        log = record { what = piece; time = 1; origin = made 0 5; before = made 1 6; set = 10 } ∷ [];
        held = record { what = piece; sender = 0; time = 4; before = made 0 8 } ∷ [];
        targets = record { time = 5; parent = 0; parent_time = 6 } ∷ [];
        asked = some (record { low = 3; high = 9; entries = 258 ∷ 7 ∷ 0 ∷ 11 ∷ [] });
      }
      ∷ [];
  lanes = record { mark = 1; taken = 2; heard = []; queue = record { what = piece; time = 7; origin = made 2 9 } ∷ []; low = 0 ∷ [] } ∷ [];
}

pub sent_read : line_of (line_bytes sent) ≡ sent
unfolding line_bytes line_of sent
sent_read = refl

pub sent-accepted : state_answer (line_bytes sent) ≡ 0
unfolding line_bytes state_answer sent
sent-accepted = refl

pub replaying_read : line_of (line_bytes replaying) ≡ replaying
unfolding line_bytes line_of replaying
replaying_read = refl

-- The bytes of the last one where docs/LAYOUT.md has them: its second node's page with one log entry, one held record, one target and a kept answer, and the channel's block with one message.
pub replaying_page : take 36 (drop 8_192 (line_bytes replaying)) ≡ 2 ∷ 1 ∷ 0 ∷ 0 ∷ 0 ∷ 0 ∷ 0 ∷ 3 ∷ 0 ∷ 0 ∷ 0 ∷ 1 ∷ 0 ∷ 0 ∷ 0 ∷ 7 ∷ 1 ∷ 0 ∷ 0 ∷ 250 ∷ 0 ∷ 0 ∷ 0 ∷ 1 ∷ 1 ∷ 0 ∷ 0 ∷ 0 ∷ 5 ∷ 2 ∷ 0 ∷ 0 ∷ 0 ∷ 6 ∷ 10 ∷ 0 ∷ []
unfolding line_bytes replaying
replaying_page = refl

-- Each console's count, and nothing behind them.
pub replaying-steps : take 20 (drop 512 (line_bytes replaying)) ≡ 0 ∷ 0 ∷ 0 ∷ 9 ∷ 0 ∷ 0 ∷ 1 ∷ 2 ∷ 0 ∷ 0 ∷ 0 ∷ 0 ∷ 0 ∷ 0 ∷ 0 ∷ 3 ∷ 0 ∷ 0 ∷ 0 ∷ 0 ∷ []
unfolding line_bytes replaying
replaying-steps = refl

pub replaying-held : take 24 (drop 9_740 (line_bytes replaying)) ≡ 0 ∷ 0 ∷ 0 ∷ 1 ∷ 0 ∷ 0 ∷ 0 ∷ 7 ∷ 1 ∷ 0 ∷ 0 ∷ 250 ∷ 0 ∷ 0 ∷ 0 ∷ 0 ∷ 4 ∷ 1 ∷ 0 ∷ 0 ∷ 0 ∷ 8 ∷ 0 ∷ 0 ∷ []
unfolding line_bytes replaying
replaying-held = refl

pub replaying_targets : take 16 (drop 11_024 (line_bytes replaying)) ≡ 0 ∷ 0 ∷ 0 ∷ 1 ∷ 0 ∷ 0 ∷ 0 ∷ 5 ∷ 0 ∷ 0 ∷ 0 ∷ 6 ∷ 0 ∷ 0 ∷ 0 ∷ 0 ∷ []
unfolding line_bytes replaying
replaying_targets = refl

pub replaying_kept : take 32 (drop 11_796 (line_bytes replaying)) ≡ 0 ∷ 0 ∷ 0 ∷ 1 ∷ 0 ∷ 0 ∷ 0 ∷ 3 ∷ 0 ∷ 0 ∷ 0 ∷ 9 ∷ 0 ∷ 0 ∷ 1 ∷ 2 ∷ 0 ∷ 0 ∷ 0 ∷ 7 ∷ 0 ∷ 0 ∷ 0 ∷ 0 ∷ 0 ∷ 0 ∷ 0 ∷ 11 ∷ 0 ∷ 0 ∷ 0 ∷ 0 ∷ []
unfolding line_bytes replaying
replaying_kept = refl

pub replaying_block : take 48 (drop 53_248 (line_bytes replaying)) ≡ 0 ∷ 0 ∷ 0 ∷ 1 ∷ 0 ∷ 0 ∷ 0 ∷ 2 ∷ 0 ∷ 0 ∷ 0 ∷ 0 ∷ 0 ∷ 0 ∷ 0 ∷ 0 ∷ 0 ∷ 0 ∷ 0 ∷ 0 ∷ 0 ∷ 0 ∷ 0 ∷ 0 ∷ 0 ∷ 0 ∷ 0 ∷ 1 ∷ 0 ∷ 0 ∷ 0 ∷ 7 ∷ 1 ∷ 0 ∷ 0 ∷ 250 ∷ 0 ∷ 0 ∷ 0 ∷ 7 ∷ 3 ∷ 0 ∷ 0 ∷ 0 ∷ 9 ∷ 0 ∷ 0 ∷ 0 ∷ []
unfolding line_bytes replaying
replaying_block = refl

-- A low clock (2026-04): on 0 to 1 to 2 a piece has gone all the way, and node 2 has dropped it.
unfoldable pub dropped : Line
dropped =
    let logs : List Entry → Node = λ es. record { status = up; crashed = false; time = 1; log = es; held = []; targets = []; asked = none } in
    record {
      plan = record { version = 1; rules = Keep ∷ Keep ∷ Keep ∷ []; channels = channel 0 1 65535 ∷ channel 1 2 65535 ∷ [] };
      steps = only_count 6;
      nodes = logs (record { what = piece; time = 1; origin = fed; before = fed; set = 1 } ∷ []) ∷ logs (record { what = piece; time = 1; origin = made 0 1; before = fed; set = 1 } ∷ []) ∷ logs [] ∷ [];
      lanes = record { mark = 1; taken = 1; heard = []; queue = []; low = 0 ∷ [] } ∷ record { mark = 1; taken = 1; heard = 1 ∷ []; queue = []; low = 1 ∷ 1 ∷ [] } ∷ [];
    }

pub dropped_read : line_of (line_bytes dropped) ≡ dropped
unfolding line_bytes line_of dropped
dropped_read = refl

pub dropped_low : take 24 (drop 53_756 (line_bytes dropped)) ≡ 0 ∷ 0 ∷ 0 ∷ 1 ∷ 0 ∷ 0 ∷ 0 ∷ 1 ∷ replicate 16 0
unfolding line_bytes dropped
dropped_low = refl

-- As it is; with an entry above the clock's; with one for a second parent, which the sender has not; with an unused byte.
pub dropped-answers : map (λ (change : ℕ × ℕ). state_answer (set (line_bytes dropped) change.0 change.1)) ((53_763, 1) ∷ (53_763, 2) ∷ (53_767, 1) ∷ (53_776, 1) ∷ []) ≡ 0 ∷ 8 ∷ 8 ∷ 8 ∷ []
unfolding line_bytes state_answer dropped
dropped-answers = refl

-- Sets (2026-06): node 0 sends material 1 to node 1, materials 1 and 2 to node 2, material 3 to node 3, and is fed materials 1, 2, 3, 4, which none of them takes (2026-08), and a tick.
unfoldable pub sorted : Line
unfolding initial_line step
sorted =
    let feeds : ℕ → Line → Line = λ material l. (step l (0 ∷ 13 ∷ 1 ∷ 1 ∷ 0 ∷ 0 ∷ 0 ∷ 0 ∷ 0 ∷ material ∷ 0 ∷ 0 ∷ 0 ∷ [])).line in
    feeds 255 (feeds 4 (feeds 3 (feeds 2 (feeds 1 (initial_line (record { version = 1; rules = Keep ∷ Keep ∷ Keep ∷ Keep ∷ []; channels = channel 0 1 2 ∷ channel 0 2 6 ∷ channel 0 3 8 ∷ [] }))))))

-- The last two bytes of the first five slots: the set, whose lowest bit is of the first channel, and the byte unused.
pub sorted_sets : map (λ (i : ℕ). take 2 (drop (4_130 + 24 * i) (line_bytes sorted))) (0 ∷ 1 ∷ 2 ∷ 3 ∷ 4 ∷ []) ≡ (3 ∷ 0 ∷ []) ∷ (2 ∷ 0 ∷ []) ∷ (4 ∷ 0 ∷ []) ∷ (7 ∷ 0 ∷ []) ∷ (0 ∷ 0 ∷ []) ∷ []
unfolding line_bytes sorted
sorted_sets = refl

-- As it is; the first one's set without a channel, with another, with a bit for no channel; with the unused byte.
pub sorted-answers : map (λ (change : ℕ × ℕ). state_answer (set (line_bytes sorted) change.0 change.1)) ((4_130, 3) ∷ (4_130, 1) ∷ (4_130, 7) ∷ (4_130, 11) ∷ (4_131, 1) ∷ []) ≡ 0 ∷ 8 ∷ 8 ∷ 8 ∷ 8 ∷ []
unfolding line_bytes state_answer sorted
sorted-answers = refl

-- A kept answer (2026-07): of node 2, down, with two parents and one target.
pub asking_kept : take 32 (drop 15_892 (line_bytes fallen_asked)) ≡ 0 ∷ 0 ∷ 0 ∷ 1 ∷ 0 ∷ 0 ∷ 0 ∷ 0 ∷ 0 ∷ 0 ∷ 0 ∷ 2 ∷ replicate 20 0
unfolding line_bytes fallen_asked
asking_kept = refl

-- As it is; with another count; with an entry for a third parent, which it has not; with an unused byte.
pub asking-answers : map (λ (change : ℕ × ℕ). state_answer (set (line_bytes fallen_asked) change.0 change.1)) ((15_895, 1) ∷ (15_895, 2) ∷ (15_915, 1) ∷ (15_920, 1) ∷ []) ≡ 0 ∷ 8 ∷ 8 ∷ 8 ∷ []
unfolding line_bytes state_answer fallen_asked
asking-answers = refl

-- A node that is down: its status and its crash mark.
pub down_page : node_layout.write (record { status = down; crashed = true; time = 0; log = []; held = []; targets = []; asked = none }) ≡ 1 ∷ 1 ∷ replicate 4_094 0
unfolding node_layout
down_page = refl
