-- Feed keeps a line sound.
use Prim.Native.Nat.{ℕ, suc, ◌<◌, ◌≤◌}
use mathlib.Core.Path.{◌≡◌, refl, sym, ap, subst, ◌∙◌}
use mathlib.Core.Bool.{Bool, true, false, ◌&&◌, true≢false}
use lib.Dec.{leb}
use mathlib.Core.List.{List}
use mathlib.Core.Option.{some}
use native.Mathlib.Omega.{arith}
use lib.ListN.{length}
use borrow.Author.Tests.{leb-false, not-false}
use Rattle.plan.specs.Lawful.{Bytes}
use Rattle.plan.specs.Record.{record_layout, record_fits}
use Rattle.plan.specs.Plan.{node_count, channel_at, is_source}
use Rattle.plan.specs.Mask.{set_of}
use Rattle.rules.specs.Replay.{timed}
use Rattle.rules.specs.Line.{log_limit, accepted_steps, fed, up, Line, node_at, with_node, one_more, counted}
use Rattle.rules.specs.Frame.{feed}
use Rattle.rules.specs.Clock.{logged}
use Rattle.rules.specs.Step.{made_by, fed_line, effect}
use Rattle.rules.specs.Damaged.{may_repeat}
use Rattle.rules.proofs.Theorem.Accepted.{Passed, can_feed}
use Rattle.rules.proofs.Invariant.InvLaws.{if_marked}
use Rattle.rules.proofs.Lists.Options.{some_same}
use Rattle.rules.proofs.Line.Consoles.{more_fit, counts_rise}
use Rattle.rules.proofs.Undamaged.Standing.{EntryFits, Sound}
use Rattle.rules.proofs.Undamaged.SoundStays.{channel_stays, counted_sound}
use Rattle.rules.proofs.Undamaged.RecordsWithin.{read_within, made_within}
use Rattle.rules.proofs.Undamaged.LogSound.{after, status_same, mark_same, log_sound}

module _ (l : Line) (sound : Sound l) (n : ℕ) where
  pub source_up : n < node_count l.plan → is_source l.plan n ≡ true → (node_at l n).status ≡ up
  source_up inside source =
      let f = (sound.standing.nodes n inside).fits in
      f.unmarked (if_marked (node_at l n).crashed (λ e. absurd (true≢false (sym source ∙ (f.between e).0))) (λ e. e))

module _ (l : Line) (sound : Sound l) (n : ℕ) (r : List ℕ) (bytes : Bytes r) {who : ℕ} (p : Passed l who (feed n r)) where
  fed_sound : timed l.plan n (made_by l n (record_layout.read r)) ≡ true → Sound (counted who (with_node n (logged (suc (node_at l n).time) (set_of l.plan n (made_by l n (record_layout.read r))) (made_by l n (record_layout.read r)) fed fed (node_at l n)) l))
  unfolding counted with_node
  fed_sound times =
      let can = can_feed p in
      let counts = sound.standing.counts in
      let fits = more_fit counts p.console p.steps_left in
      let rise = counts_rise counts p.console p.steps_left in
      let stands_up = source_up l sound n can.here can.source in
      let room : length (node_at l n).log < log_limit = leb-false log_limit (length (node_at l n).log) (ap (λ (t : Bool). t && leb log_limit (length (node_at l n).log)) (sym times) ∙ p.space) in
      let at : ℕ = suc (node_at l n).time in
      let on : (node_at l n).time ≤ at = omega arith in
      let far : at ≤ suc (node_at l n).time = omega arith in
      let late : may_repeat l.plan n (made_by l n (record_layout.read r)) ≡ false → (node_at l n).time < at = λ _. omega arith in
      let what = made_by l n (record_layout.read r) in
      let chosen = set_of l.plan n what in
      let limits = made_within l.plan sound.standing.plan_fits_lem n (record_layout.read r) (read_within r bytes (not-false (record_fits r) p.record_good)) in
      let new : EntryFits l.plan (suc (accepted_steps l)) n (record { what = what; time = suc (node_at l n).time; origin = fed; before = fed; set = chosen }) = record { limits = limits; origin = can.source; before = refl } in
      let now = after l sound fits rise n can.here stands_up room at on far what late chosen refl fed fed new l.lanes in
      let status = status_same l sound fits rise n can.here stands_up room at on far what late chosen refl fed fed new l.lanes in
      let mark = mark_same l sound fits rise n can.here stands_up room at on far what late chosen refl fed fed new l.lanes in
      log_sound l sound fits rise n can.here stands_up room at on far what late chosen refl fed fed new l.lanes refl (λ b h o before c. c) (λ b h. tt)
      (λ b h. (let s = (channel_at l.plan b).sender in let t = (channel_at l.plan b).receiver in channel_stays l (one_more who l.steps) now.nodes l.lanes (omega (arith, rise)) b (status s) (status t) (mark s) (mark t) refl (sound.standing.channels b h)))
      (λ m e c h. refl) (λ m e. refl) (λ m e c h. refl)

  pub feed_sound : (k : Line) → effect l (feed n r) ≡ some k → Sound (counted who k)
  unfolding effect fed_line
  feed_sound k e = subst (λ (x : Line). Sound (counted who x)) (some_same e) (one (timed l.plan n (made_by l n (record_layout.read r))) refl)
    where
      one : (t : Bool) → timed l.plan n (made_by l n (record_layout.read r)) ≡ t → Sound (counted who (elim t [ true ↦ with_node n (logged (suc (node_at l n).time) (set_of l.plan n (made_by l n (record_layout.read r))) (made_by l n (record_layout.read r)) fed fed (node_at l n)) l | false ↦ l ]))
      one true q = fed_sound q
      one false q = counted_sound l p.console p.steps_left sound
