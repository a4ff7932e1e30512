-- 2026-07: what is promised of Ask and Commit (specs/Ask).
use Prim.Native.Nat.{ℕ, ◌-◌, ◌<◌, ◌≤◌}
use mathlib.Core.Path.{◌≡◌, refl, sym, ap, subst, ◌∙◌}
use mathlib.Core.Logic.{◌≢◌}
use mathlib.Core.Bool.{Bool, true, false, not, ◌||◌, true≢false}
use mathlib.Core.List.{List, [], ◌∷◌, ◌++◌}
use mathlib.Core.Option.{Option, some, map}
use native.Mathlib.Omega.{arith}
use native.Mathlib.Decide.{ℕ_discrete}
use lib.ListN.{length, replicate}
use lib.Dec.{leb, ltb, eqb}
use borrow.Author.Tests.{lt-leb, le-ltb}
use Rattle.plan.specs.Plan.{channel_at, node_count, entering, is_source, is_sink}
use Rattle.rules.specs.Line.{target_limit, Asked, Status, up, down, replay, Node, Lane, Line, node_at, lane_at, with_node, one_more, with_steps, counted, is_down, fresh_lane}
use Rattle.rules.specs.Frame.{Frame, feed, send, take, crash, recover, trim, ask, commit, frame_console, frame_of}
use Rattle.rules.specs.Recover.{child_times, low_of, high_of, restored, targets_of, restored_to, recovered, answer_of, beside, committed}
use Rattle.rules.specs.Step.{is_nothing, node_down, no_answer, no_steps_left, asking, asked_line, committed_by, committed_line, recovered_line, effect, no_placing, line_refusal, accepted, refusal, step}
use Rattle.rules.specs.Damaged.{damaged}
use Rattle.rules.specs.Ask.{OfOneConsole, AskRefused, AskKeeps, AskTells, AskAndCommit, AskAgain, NeverStale, CommitUnkept, CommitReadAsRecover, CommitAsRecover, line_after, StaysDown, AskThenCommit}
use Rattle.plan.specs.Lawful.{Each, Bytes}
use Rattle.rules.proofs.Restart.Frames.{Formed, formed_refusal, formed_line}
use Rattle.rules.proofs.Undamaged.Standing.{Empties, Answers, Standing}
use Rattle.rules.proofs.Undamaged.Undamaged.{undamaged_sound, ordered_fit, right_answering}
use Rattle.rules.proofs.Undamaged.Committed.{restored_over, answer_restores, committed_is, recover_goes}
use Rattle.rules.proofs.Undamaged.StepSound.{answered_whole, kept_inside, step_undamaged}
use Rattle.rules.proofs.Undamaged.Restored.{restored_node, restored_line, recovered_is, restored-node, restored_enters, recovers_to}
use Rattle.rules.proofs.Undamaged.RecoverSound.{status_not_down}
use Rattle.rules.proofs.Undamaged.FeedSound.{source_up}
use Rattle.rules.proofs.Lists.Members.{In, map_same}
use Rattle.rules.proofs.Line.Joins.{entering_in}
use Rattle.rules.proofs.Lists.Options.{some_same, none_some, mapped_nothing}
use Rattle.rules.proofs.Line.LineLaws.{node_there, node_same}
use Rattle.rules.proofs.Invariant.InvLaws.{up_not_down}
use Rattle.rules.proofs.Invariant.Inv.{Ordered}
use Rattle.rules.proofs.Undamaged.CrashSound.{stopped_marked}
use Rattle.rules.proofs.Theorem.Accepted.{Passed, passed, can_feed, can_take, can_crash, can_trim, can_ask, ask_leads, step-accepted, step_refused}
use Rattle.rules.proofs.Theorem.OwnNode.{effect_else}
use Rattle.rules.proofs.Theorem.Unmoved.{effect-steps}
use Rattle.rules.proofs.Console.Counted.{step-number}
use Rattle.rules.proofs.Console.Recounted.{restored_recounted}

-- The first that applies of the tests of an Ask or a Recover, and of a Commit.
abbrev pub refused_by : Bool → Bool → Bool → Bool → Bool → ℕ
refused_by a b c d e = elim a [ true ↦ 13 | false ↦ elim b [ true ↦ 14 | false ↦ elim c [ true ↦ 15 | false ↦ elim d [ true ↦ 21 | false ↦ elim e [ true ↦ 24 | false ↦ 0 ] ] ] ] ]

abbrev pub commit_refused_by : Bool → Bool → Bool → Bool → ℕ
commit_refused_by a b c d = elim a [ true ↦ 13 | false ↦ elim b [ true ↦ 14 | false ↦ elim c [ true ↦ 15 | false ↦ elim d [ true ↦ 27 | false ↦ 0 ] ] ] ]

-- What a line refuses of an Ask and of a Recover.
pub asks_as_recover : (l : Line) (n : ℕ) → line_refusal l (ask n) ≡ line_refusal l (recover n)
unfolding line_refusal no_placing effect
asks_as_recover l n =
    ap (refused_by (leb (node_count l.plan) n) (is_source l.plan n || is_sink l.plan n) (not (node_down l n)) (ltb target_limit (length (targets_of l n)))) (mapped_nothing (λ (k : Line). asked_line n l) (recovered_line n l))

-- Two well-formed frames of one console.
pub of_one_console : {f g : List ℕ} {c : ℕ} {x y : Frame} → Formed f c x → Formed g c y → OfOneConsole f x g y
of_one_console one other = record { formed = one.formed; formed_too = other.formed; who = one.from ∙ sym other.from; is = one.asks; is_too = other.asks }

-- They are refused alike where the line refuses alike what they ask.
pub refused_alike : (l : Line) {f g : List ℕ} {x y : Frame} → OfOneConsole f x g y → line_refusal l x ≡ line_refusal l y → refusal l f ≡ refusal l g
refused_alike l {f} {g} both same =
    formed_refusal l {frame = f} (record { formed = both.formed; from = both.who; asks = both.is })
    ∙ (λ i. elim (no_steps_left l (frame_console g)) [ true ↦ 12 | false ↦ same i ])
    ∙ sym (formed_refusal l {frame = g} (record { formed = both.formed_too; from = refl; asks = both.is_too }))

pub ask_refused : AskRefused
ask_refused l n f g both =
    (step-number l f ∙ refused_alike l both (asks_as_recover l n) ∙ sym (step-number l g), λ d. (step_refused l f (λ z. d (step-number l f ∙ z))).1)

pub commit_unkept : CommitUnkept
unfolding line_refusal no_placing effect
commit_unkept l n f is unkept = (
  λ z. true≢false (sym (ap is_nothing unkept) ∙ sym (ap (no_answer l) is) ∙ (passed l f (sym (step-number l f) ∙ z)).answered),
  λ formed left here source sink gone.
      step-number l f
      ∙ formed_refusal l {frame = f} (record { formed = formed; from = refl; asks = is })
      ∙ λ i. elim (left i) [ true ↦ 12 | false ↦ commit_refused_by (lt-leb (node_count l.plan) n here i) (source i || sink i) (not (is_down (gone i))) (is_nothing (unkept i)) ],
)

-- 12, or what the line refuses with. Where the tests of a Recover give 12 to 15, those of a Commit give the same.
abbrev unless_spent : Bool → ℕ → ℕ
unless_spent spent r = elim spent [ true ↦ 12 | false ↦ r ]

read_alike : (spent a b c d e unkept : Bool) → unless_spent spent (refused_by a b c d e) ≢ 0 → unless_spent spent (refused_by a b c d e) ≤ 15 → unless_spent spent (commit_refused_by a b c unkept) ≡ unless_spent spent (refused_by a b c d e)
read_alike true a b c d e unkept Some-number low = refl
read_alike false true b c d e unkept Some-number low = refl
read_alike false false true c d e unkept Some-number low = refl
read_alike false false false true d e unkept Some-number low = refl
read_alike false false false false true e unkept Some-number low = let no : ⊥ = omega (arith, low) in absurd no
read_alike false false false false false true unkept Some-number low = let no : ⊥ = omega (arith, low) in absurd no
read_alike false false false false false false unkept Some-number low = absurd (Some-number refl)

pub commit_read_as_recover : CommitReadAsRecover
unfolding line_refusal no_placing effect
commit_read_as_recover l n f g both Some-number low =
    let spent = no_steps_left l (frame_console g) in
    let recovers : (step l g).number ≡ unless_spent spent (line_refusal l (recover n)) = step-number l g ∙ formed_refusal l {frame = g} (record { formed = both.formed_too; from = refl; asks = both.is_too }) in
    let commits : (step l f).number ≡ unless_spent spent (line_refusal l (commit n)) = step-number l f ∙ formed_refusal l {frame = f} (record { formed = both.formed; from = both.who; asks = both.is }) in
    commits
    ∙ read_alike spent (leb (node_count l.plan) n) (is_source l.plan n || is_sink l.plan n) (not (node_down l n)) (ltb target_limit (length (targets_of l n))) (is_nothing (recovered_line n l)) (is_nothing (node_at l n).asked)
    (λ z. Some-number (recovers ∙ z)) (subst (λ (k : ℕ). k ≤ 15) recovers low)
    ∙ sym recovers

-- A node of an undamaged line that keeps an answer: it is down, Recover and Commit lead to one line, and Ask changes nothing.
module _ (l : Line) (whole : damaged l ≡ false) (n : ℕ) (a : Asked) (kept : (node_at l n).asked ≡ some a) where
  abbrev s : Standing l
  s = (undamaged_sound l whole).standing

  ordered : Ordered l.plan
  ordered = ordered_fit l.plan s.plan_fits_lem

  inside : n < node_count l.plan
  inside = kept_inside l s.shape n a kept

  right : Answers l n a
  right = answered_whole l whole n a kept

  gone : (node_at l n).status ≡ down
  gone = one (node_at l n).status refl
    where
      empties : (t : Status) → (node_at l n).status ≡ t → Empties t (node_at l n)
      empties t q = subst (λ (r : Status). Empties r (node_at l n)) q (s.nodes n inside).fits.empties

      one : (t : Status) → (node_at l n).status ≡ t → (node_at l n).status ≡ down
      one up q = none_some (sym (empties up q).2 ∙ kept)
      one down q = q
      one replay q = none_some (sym (empties replay q).1 ∙ kept)

  between : (is_source l.plan n || is_sink l.plan n) ≡ false
  between =
      let (source, sink) = (s.nodes n inside).fits.between (stopped_marked l s n inside (λ q. up_not_down (sym q ∙ gone))) in
      rw (source, sink)

  recovers : effect l (recover n) ≡ some (recovered n l)
  unfolding effect
  recovers = recover_goes l n a right ordered s.shape inside

  commits : effect l (commit n) ≡ some (recovered n l)
  unfolding effect committed_line
  commits = ap some (ap (λ (o : Option Asked). committed_by n o l) kept ∙ committed_is l n a right)

  asks : effect l (ask n) ≡ some l
  unfolding effect asked_line asking
  asks = ap (map (λ (k : Line). asked_line n l)) recovers ∙ ap some (ap (λ (x : Node). with_node n x l) same ∙ node_same n l)
    where
      same : asking (answer_of l n) (targets_of l n) (node_at l n) ≡ node_at l n
      same = λ i. record { status = (node_at l n).status; crashed = (node_at l n).crashed; time = (node_at l n).time; log = (node_at l n).log; held = (node_at l n).held; targets = sym right.targets i; asked = (ap some (sym right.is) ∙ sym kept) i }

  recover_passes : line_refusal l (recover n) ≡ 0
  unfolding line_refusal no_placing
  recover_passes i = refused_by (lt-leb (node_count l.plan) n inside i) (between i) (not (is_down (gone i))) (le-ltb target_limit (length (targets_of l n)) right.few i) (is_nothing (recovers i))

  commit_passes : line_refusal l (commit n) ≡ 0
  unfolding line_refusal no_placing effect
  commit_passes i = commit_refused_by (lt-leb (node_count l.plan) n inside i) (between i) (not (is_down (gone i))) (is_nothing (kept i))

  -- While it is down it is as it was.
  restored_not_down : (k : Line) → some (recovered n l) ≡ some k → (node_at k n).status ≢ down
  restored_not_down k e q =
      status_not_down (targets_of l n)
      (sym (ap (λ (x : Line). (node_at x n).status) (sym (some_same e) ∙ recovered_is l n ordered s.shape) ∙ ap (λ (x : Node). x.status) (restored-node l n ordered s.shape inside)) ∙ q)

  effect-keeps : {c : ℕ} (f : Frame) → Passed l c f → (k : Line) → effect l f ≡ some k → (node_at k n).status ≡ down → node_at k n ≡ node_at l n
  effect-keeps (feed m r) p k e q = effect_else n l (feed m r) (λ z. up_not_down (sym (source_up l (undamaged_sound l whole) m (can_feed p).here (can_feed p).source) ∙ ap (λ (x : ℕ). (node_at l x).status) (sym z) ∙ gone)) e
  effect-keeps (send b) p k e q = effect_else n l (send b) tt e
  effect-keeps (take b) p k e q = effect_else n l (take b) (λ z. (can_take p).receiver (ap (λ (x : ℕ). (node_at l x).status) (sym z) ∙ gone)) e
  effect-keeps (crash m) p k e q = effect_else n l (crash m) (λ z. (can_crash p).not_yet (ap (λ (x : ℕ). (node_at l x).status) (sym z) ∙ gone)) e
  effect-keeps (recover m) p k e q = elim (ℕ_discrete n m) [
    | yes z ↦ absurd (restored_not_down k (sym recovers ∙ ap (λ (x : ℕ). effect l (recover x)) z ∙ e) q)
    | no d ↦ effect_else n l (recover m) d e
  ]
  effect-keeps (trim m) p k e q = absurd (up_not_down (sym ((can_trim p).all_up n inside) ∙ gone))
  effect-keeps (ask m) p k e q = elim (ℕ_discrete n m) [
    | yes z ↦ ap (λ (x : Line). node_at x n) (sym (some_same (sym asks ∙ ap (λ (x : ℕ). effect l (ask x)) z ∙ e)))
    | no d ↦ effect_else n l (ask m) d e
  ]
  effect-keeps (commit m) p k e q = elim (ℕ_discrete n m) [
    | yes z ↦ absurd (restored_not_down k (sym commits ∙ ap (λ (x : ℕ). effect l (commit x)) z ∙ e) q)
    | no d ↦ effect_else n l (commit m) d e
  ]

  step_keeps : (f : List ℕ) → (node_at (step l f).line n).status ≡ down → node_at (step l f).line n ≡ node_at l n
  unfolding counted
  step_keeps f q =
      elim (ℕ_discrete (refusal l f) 0) [
        | no d ↦ ap (λ (x : Line). node_at x n) (step_refused l f d).1
        | yes z ↦
            (let p = passed l f z in
            let is : (step l f).line ≡ counted (frame_console f) p.next = (step-accepted l f z).1 ∙ ap (accepted (frame_console f) l) p.leads in
            ap (λ (x : Line). node_at x n) is ∙ effect-keeps (frame_of f) p p.next p.leads (sym (ap (λ (x : Line). (node_at x n).status) is) ∙ q))
      ]

  still_kept : (f : List ℕ) → (node_at (step l f).line n).status ≡ down → (node_at (step l f).line n).asked ≡ some a
  still_kept f q = ap (λ (x : Node). x.asked) (step_keeps f q) ∙ kept

pub ask_again : AskAgain
ask_again l n a f whole kept formed is left =
    let one : Formed f (frame_console f) (ask n) = record { formed = formed; from = refl; asks = is } in
    let z : refusal l f ≡ 0 = formed_refusal l {frame = f} one ∙ (λ i. elim (left i) [ true ↦ 12 | false ↦ (asks_as_recover l n ∙ recover_passes l whole n a kept) i ]) in
    (step-number l f ∙ z, formed_line l {frame = f} one z ∙ ap (accepted (frame_console f) l) (asks l whole n a kept))

pub commit_as_recover : CommitAsRecover
unfolding step
commit_as_recover l n a f g whole kept both =
    let number : refusal l f ≡ refusal l g = refused_alike l both (commit_passes l whole n a kept ∙ sym (recover_passes l whole n a kept)) in
    let line : accepted (frame_console f) l (effect l (frame_of f)) ≡ accepted (frame_console g) l (effect l (frame_of g)) =
    (λ i. accepted (both.who i) l (effect l (both.is i))) ∙ ap (accepted (frame_console g) l) (commits l whole n a kept ∙ sym (recovers l whole n a kept)) ∙ (λ i. accepted (frame_console g) l (effect l (sym both.is_too i))) in
    λ i. elim (eqb (number i) 0) [ true ↦ record { number = 0; line = line i } | false ↦ record { number = number i; line = l } ]

pub never_stale : NeverStale
never_stale l n a f whole bytes kept still =
    let k = (step l f).line in
    let sane = step_undamaged l f bytes whole in
    let s = (undamaged_sound k sane).standing in
    (step_keeps l whole n a kept f still, right_answering k n (ordered_fit k.plan s.plan_fits_lem) s.shape (kept_inside k s.shape n a (still_kept l whole n a kept f still)) (answered_whole k sane n))

-- So over any frames between.
stays_kept : (fs : List (List ℕ)) (l : Line) → damaged l ≡ false → (n : ℕ) (a : Asked) → (node_at l n).asked ≡ some a → Each Bytes fs → StaysDown n l fs
    → (damaged (line_after l fs) ≡ false) × ((node_at (line_after l fs) n).asked ≡ some a)
stays_kept [] l whole n a kept each stays = (whole, kept)
stays_kept (f ∷ fs) l whole n a kept (bytes, each) (still, stays) =
    stays_kept fs (step l f).line (step_undamaged l f bytes whole) n a (still_kept l whole n a kept f still) each stays

-- What an Ask leaves: the answer stands at the node, and Commit gives what Recover would have given before.
module _ (l : Line) (n : ℕ) (long : n < length l.nodes) where
  pub asked_node : node_at (asked_line n l) n ≡ asking (answer_of l n) (targets_of l n) (node_at l n)
  unfolding asked_line
  asked_node = node_there n (asking (answer_of l n) (targets_of l n) (node_at l n)) l long

  pub asked_restores : (counts : List ℕ) → committed n (answer_of l n) (with_steps counts (asked_line n l)) ≡ with_steps counts (recovered n l)
  unfolding committed asked_line asking answer_of
  asked_restores counts =
      let k = asked_line n l in
      let entry = beside (entering l.plan n) (answer_of l n).entries in
      restored_recounted (λ v. v) counts (low_of l n) (node_at k n).targets entry n k
      ∙ ap (λ (x : Node). with_steps counts (restored_to (low_of l n) x.targets entry n k)) asked_node
      ∙ ap (with_steps counts) (restored_over (low_of l n) (targets_of l n) n l (asking (answer_of l n) (targets_of l n) (node_at l n)) entry ∙ answer_restores l n)

-- An accepted Ask.
module _ (l : Line) (n : ℕ) (f : List ℕ) (is_ask : frame_of f ≡ ask n) (zero : (step l f).number ≡ 0) where
  not_refused : refusal l f ≡ 0
  not_refused = sym (step-number l f) ∙ zero

  passes : Passed l (frame_console f) (ask n)
  passes = subst (Passed l (frame_console f)) is_ask (passed l f not_refused)

  asked_line_lem : (step l f).line ≡ counted (frame_console f) (asked_line n l)
  asked_line_lem = (step-accepted l f not_refused).1 ∙ ap (λ (x : Frame). accepted (frame_console f) l (effect l x)) is_ask ∙ ap (accepted (frame_console f) l) (passes.leads ∙ ap some (sym (ask_leads l n passes.leads).1))

  module _ (whole : damaged l ≡ false) where
    abbrev standing : Standing l
    standing = (undamaged_sound l whole).standing

    long : n < length l.nodes
    long = rw standing.shape.nodes_long (can_ask passes).here

    kept_asked : (node_at (step l f).line n).asked ≡ some (answer_of l n)
    unfolding counted asking
    kept_asked = ap (λ (x : Line). (node_at x n).asked) asked_line_lem ∙ ap (λ (x : Node). x.asked) (asked_node l n long)

    -- Recover would have led to what is restored.
    would_recover : effect l (recover n) ≡ some (recovered n l)
    unfolding effect
    would_recover = (recovers_to l (ordered_fit l.plan standing.plan_fits_lem) standing.shape n (can_ask passes).here (ask_leads l n passes.leads).0.1).1

    committed_next : effect (step l f).line (commit n) ≡ some (with_steps (one_more (frame_console f) l.steps) (recovered n l))
    unfolding effect committed_line counted asked_line
    committed_next = ap some (ap (λ (o : Option Asked). committed_by n o (step l f).line) kept_asked ∙ ap (committed n (answer_of l n)) asked_line_lem ∙ asked_restores l n long (one_more (frame_console f) l.steps))

pub ask_keeps : AskKeeps
unfolding asked_line asking
ask_keeps l n f is zero = asked_line_lem l n f is zero

pub ask_tells : AskTells
unfolding counted asking answer_of high_of child_times fresh_lane
ask_tells l n a f h whole both zero kept =
    let c = frame_console h in
    let s = standing l n f both.is zero whole in
    let ordered = ordered_fit l.plan s.plan_fits_lem in
    let inside : n < node_count l.plan = (can_ask (passes l n f both.is zero)).here in
    let is : a ≡ answer_of l n = some_same (sym kept ∙ kept_asked l n f both.is zero whole) in
    let recovers-zero : refusal l h ≡ 0 = sym (refused_alike l both (asks_as_recover l n)) ∙ sym (step-number l f) ∙ zero in
    let left : (step l h).line ≡ counted c (restored_line l n) =
    formed_line l {frame = h} (record { formed = both.formed_too; from = refl; asks = both.is_too }) recovers-zero ∙ ap (accepted c l) (would_recover l n f both.is zero whole) ∙ ap (counted c) (recovered_is l n ordered s.shape) in
    let node : node_at (step l h).line n ≡ restored_node l n = ap (λ (x : Line). node_at x n) left ∙ restored-node l n ordered s.shape inside in
    let lane : (b : ℕ) → In b (entering l.plan n) → restored l n (channel_at l.plan b).sender ≡ (lane_at (step l h).line b).taken =
    λ b i. sym (ap (λ (x : Line). (lane_at x b).taken) left ∙ ap (λ (x : Lane). x.taken) (restored_enters l n ordered s.shape b (entering_in l.plan n b i))) in (
      ap (λ (x : Node). x.time) node ∙ sym (ap (λ (x : Asked). x.low) is),
      ap (λ (x : Asked). x.high) is,
      ap (λ (x : Node). x.targets) node ∙ sym (ap (λ (x : Line). (node_at x n).targets) (asked_line_lem l n f both.is zero) ∙ ap (λ (x : Node). x.targets) (asked_node l n (long l n f both.is zero whole))),
      ap (λ (x : Asked). x.entries) is
          ∙ ap (λ (ts : List ℕ). ts ++ replicate (4 - length (entering l.plan n)) 0)
          (map_same (λ (b : ℕ). restored l n (channel_at l.plan b).sender) (λ (b : ℕ). (lane_at (step l h).line b).taken) (entering l.plan n) lane),
    )

pub ask_and_commit : AskAndCommit
unfolding counted
ask_and_commit l n f g h whole both too zero zero-too =
    let k = (step l f).line in
    let asks-recovers : OfOneConsole f (ask n) h (recover n) = record { formed = both.formed; formed_too = too.formed_too; who = both.who ∙ too.who; is = both.is; is_too = too.is_too } in
    let recovers-zero : refusal l h ≡ 0 = sym (refused_alike l asks-recovers (asks_as_recover l n)) ∙ sym (step-number l f) ∙ zero in
    let restores = would_recover l n f both.is zero whole in
    let c = frame_console h in
    formed_line k {frame = g} (record { formed = both.formed_too; from = too.who; asks = both.is_too }) (sym (step-number k g) ∙ zero-too)
    ∙ ap (accepted c k) (committed_next l n f both.is zero whole)
    ∙ (λ i. with_steps (one_more c (one_more (asks-recovers.who i) (sym (effect-steps l (recover n) restores) i))) (recovered n l))
    ∙ ap (counted c) (sym (formed_line l {frame = h} (record { formed = too.formed_too; from = refl; asks = too.is_too }) recovers-zero ∙ ap (accepted c l) restores))

pub ask_then_commit : AskThenCommit
ask_then_commit l n asks between f g whole bytes each is_ask zero stays both =
    let (sane, still) = stays_kept between (step l asks).line (step_undamaged l asks bytes whole) n (answer_of l n) (kept_asked l n asks is_ask zero whole) each stays in
    commit_as_recover (line_after (step l asks).line between) n (answer_of l n) f g sane still both
