-- The layouts of a node's page and of a channel's block are sound.
use Prim.Native.Nat.{ℕ, ◌≤◌, ◌<◌}
use mathlib.Core.Path.{◌≡◌, refl, sym, subst}
use mathlib.Core.Bool.{Bool, true, false}
use mathlib.Core.List.{List, [], ◌∷◌}
use mathlib.Core.Option.{Option, none, some}
use native.Mathlib.Omega.{arith}
use lib.Dec.{lit<}
use lib.ListN.{length, get_or, drop}
use Rattle.plan.specs.Layout.{via}
use Rattle.plan.specs.Lawful.{Each, FieldsFit, UpToFit}
use Rattle.rules.specs.Line.{log_limit, queue_limit, held_limit, target_limit, Status, up, down, replay, Asked, Node}
use Rattle.state.specs.Sound.{Sound}
use Rattle.state.specs.Sizes.{count_size, parent_limit, low_limit, node_rest, lane_rest}
use Rattle.state.specs.Node.{status_number, status_of, crash_number, crash_of, node_widths, node_head_numbers, node_seen, node_from, log_layout, held_list_layout, targets_layout, kept_list, first_kept, kept_layout, NodeParts, node_parts, node_layout}
use Rattle.state.specs.Lane.{heard_widths, lane_widths, low_widths, low_fields, lane_seen, lane_from, queue_layout, lane_parts, lane_layout}
use Rattle.state.specs.Fits.{TimeFits, MessageFits, EntryFits, HeldFits, TargetFits, AskedFits, NodeFits, PaddedFits}
use Rattle.state.proofs.SoundLaws.{fields_sound, pair_sound, via_sound, padded_sound, up_to_sound}
use Rattle.state.proofs.PieceLaws.{message_sound, entry_sound, held_sound, target_sound, asked_sound}

-- ---- a node's page

pub log_sound : Sound log_layout (UpToFit log_limit EntryFits)
unfolding log_layout
log_sound = up_to_sound entry_sound count_size log_limit (lit< tt)

pub held_list_sound : Sound held_list_layout (UpToFit held_limit HeldFits)
unfolding held_list_layout
held_list_sound = up_to_sound held_sound count_size held_limit (lit< tt)

pub targets_sound : Sound targets_layout (UpToFit target_limit TargetFits)
unfolding targets_layout
targets_sound = up_to_sound target_sound count_size target_limit (lit< tt)

-- An answer read as a list of at most one, and a list of at most one read as an answer.
kept_seen : (o : Option Asked) → first_kept (kept_list o) ≡ o
kept_seen none = refl
kept_seen (some a) = refl

pub kept_list_lem : (xs : List Asked) → length xs ≤ 1 → kept_list (first_kept xs) ≡ xs
kept_list_lem [] h = refl
kept_list_lem (a ∷ []) h = refl
kept_list_lem (a ∷ b ∷ xs) h = let no : ⊥ = omega arith in absurd no

abbrev pub KeptFits : Option Asked → Type 0
KeptFits o = UpToFit 1 AskedFits (kept_list o)

pub kept_sound : Sound kept_layout KeptFits
unfolding kept_layout
kept_sound =
    via_sound (up_to_sound asked_sound count_size 1 (lit< tt)) kept_list first_kept (λ o h. h) (λ o h. kept_seen o)
    (λ xs h. subst (UpToFit 1 AskedFits) (sym (kept_list_lem xs h.0)) h)

status_fits : (x : Status) → status_number x < 256
status_fits up = lit< tt
status_fits down = lit< tt
status_fits replay = lit< tt

crash_fits : (b : Bool) → crash_number b < 256
crash_fits false = lit< tt
crash_fits true = lit< tt

status_known : (x : Status) → status_of (status_number x) ≡ x
status_known up = refl
status_known down = refl
status_known replay = refl

crash_known : (b : Bool) → crash_of (crash_number b) ≡ b
crash_known false = refl
crash_known true = refl

node_numbers_fit : (x : Node) → TimeFits x.time → FieldsFit node_widths (node_head_numbers x)
node_numbers_fit x h = (status_fits x.status, (crash_fits x.crashed, (lit< tt, (h, tt))))

node_known : (x : Node) → node_from (node_seen x) ≡ x
node_known x = λ i. record { status = status_known x.status i; crashed = crash_known x.crashed i; time = x.time; log = x.log; held = x.held; targets = x.targets; asked = x.asked }

node_time : (ns : List ℕ) → FieldsFit node_widths ns → TimeFits (get_or ns 3 0)
node_time [] h = absurd h
node_time (a ∷ []) h = absurd h.1
node_time (a ∷ b ∷ []) h = absurd h.1.1
node_time (a ∷ b ∷ c ∷ []) h = absurd h.1.1.1
node_time (a ∷ b ∷ c ∷ d ∷ ns) h = h.1.1.1.0

abbrev pub NodePartsFit : NodeParts → Type 0
NodePartsFit p = FieldsFit node_widths p.0 × (UpToFit log_limit EntryFits p.1.0 × (UpToFit held_limit HeldFits p.1.1.0 × (UpToFit target_limit TargetFits p.1.1.1.0 × KeptFits p.1.1.1.1)))

pub node_parts_sound : Sound node_parts NodePartsFit
unfolding node_parts
node_parts_sound = pair_sound (fields_sound node_widths) (pair_sound log_sound (pair_sound held_list_sound (pair_sound targets_sound kept_sound)))

pub node_seen_fits : (x : Node) → NodeFits x → NodePartsFit (node_seen x)
node_seen_fits x h = (node_numbers_fit x h.time, (h.log, (h.held, (h.targets, h.asked))))

pub node_body_sound : Sound (via node_parts node_seen node_from) NodeFits
node_body_sound =
    via_sound node_parts_sound node_seen node_from node_seen_fits (λ x h. node_known x)
    (λ p h. record { time = node_time p.0 h.0; log = h.1.0; held = h.1.1.0; targets = h.1.1.1.0; asked = h.1.1.1.1 })

pub node_sound : Sound node_layout NodeFits
unfolding node_layout
node_sound = padded_sound node_body_sound node_rest

-- ---- a channel's block

pub queue_sound : Sound queue_layout (UpToFit queue_limit MessageFits)
unfolding queue_layout
queue_sound = up_to_sound message_sound count_size queue_limit (lit< tt)

pub four_words_fit : (hs : List ℕ) → length hs ≡ parent_limit → Each TimeFits hs → FieldsFit heard_widths hs
four_words_fit [] e h = let no : ⊥ = omega arith in absurd no
four_words_fit (a ∷ []) e h = let no : ⊥ = omega arith in absurd no
four_words_fit (a ∷ b ∷ []) e h = let no : ⊥ = omega arith in absurd no
four_words_fit (a ∷ b ∷ c ∷ []) e h = let no : ⊥ = omega arith in absurd no
four_words_fit (a ∷ b ∷ c ∷ d ∷ []) e h = h
four_words_fit (a ∷ b ∷ c ∷ d ∷ f ∷ hs) e h = let no : ⊥ = omega arith in absurd no

pub four_words_known : (hs : List ℕ) → FieldsFit heard_widths hs → (length hs ≡ parent_limit) × Each TimeFits hs
four_words_known [] h = absurd h
four_words_known (a ∷ []) h = absurd h.1
four_words_known (a ∷ b ∷ []) h = absurd h.1.1
four_words_known (a ∷ b ∷ c ∷ []) h = absurd h.1.1.1
four_words_known (a ∷ b ∷ c ∷ d ∷ []) h = (refl, h)
four_words_known (a ∷ b ∷ c ∷ d ∷ f ∷ hs) h = absurd h.1.1.1.1

pub five_words_fit : (ks : List ℕ) → length ks ≡ low_limit → Each TimeFits ks → FieldsFit low_widths ks
five_words_fit [] e h = let no : ⊥ = omega arith in absurd no
five_words_fit (k ∷ ks) e h = (h.0, four_words_fit ks (omega arith) h.1)

pub five_words_known : (ks : List ℕ) → FieldsFit low_widths ks → (length ks ≡ low_limit) × Each TimeFits ks
five_words_known [] h = absurd h
five_words_known (k ∷ ks) h = let (e, f) = four_words_known ks h.1 in (omega arith, (h.0, f))

pub low_sound : Sound low_fields (FieldsFit low_widths)
unfolding low_fields
low_sound = fields_sound low_widths

pub lane_parts_sound : Sound lane_parts (λ p. FieldsFit lane_widths p.0 × (UpToFit queue_limit MessageFits p.1.0 × FieldsFit low_widths p.1.1))
unfolding lane_parts
lane_parts_sound = pair_sound (fields_sound lane_widths) (pair_sound queue_sound low_sound)

lane_numbers : (ns : List ℕ) → FieldsFit lane_widths ns → TimeFits (get_or ns 0 0) × (TimeFits (get_or ns 1 0) × FieldsFit heard_widths (drop 2 ns))
lane_numbers [] h = absurd h
lane_numbers (a ∷ []) h = absurd h.1
lane_numbers (a ∷ b ∷ ns) h = h

pub lane_body_sound : Sound (via lane_parts lane_seen lane_from) PaddedFits
lane_body_sound =
    via_sound lane_parts_sound lane_seen lane_from
    (λ x h. ((h.lane.mark, (h.lane.taken, four_words_fit x.heard h.four h.lane.heard)), (h.lane.queue, five_words_fit x.low h.five h.lane.low))) (λ x h. refl)
    (λ p h.
    let ns = lane_numbers p.0 h.0 in
    let hs = four_words_known (drop 2 p.0) ns.1.1 in
    let ks = five_words_known p.1.1 h.1.1 in
    record { lane = record { mark = ns.0; taken = ns.1.0; heard = hs.1; low = ks.1; queue = h.1.0 }; four = hs.0; five = ks.0 })

pub lane_sound : Sound lane_layout PaddedFits
unfolding lane_layout
lane_sound = padded_sound lane_body_sound lane_rest
