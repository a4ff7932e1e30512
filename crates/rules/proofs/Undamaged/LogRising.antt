-- Log times: the test and the fact, one entry more, and logs whose times rise strictly.
use Prim.Native.Nat.{ℕ, ◌<◌, ◌≤◌}
use mathlib.Core.Path.{◌≡◌, refl, sym, ◌∙◌}
use mathlib.Core.Bool.{Bool, true, false, cond, ◌&&◌, true≢false}
use mathlib.Core.List.{List, [], ◌∷◌, ◌++◌}
use native.Mathlib.Omega.{arith}
use lib.Dec.{leb, ltb}
use borrow.Author.Tests.{leb-true, le-leb, ltb-true, lt-ltb}
use Rattle.basics.specs.Bools.{both_true}
use Rattle.plan.specs.Plan.{Plan}
use Rattle.rules.specs.Line.{Entry}
use Rattle.rules.specs.Damaged.{may_repeat, log_rises}
use Rattle.rules.proofs.Lists.Rising.{Rises, none, more, Within, more_in}
use Rattle.rules.proofs.Undamaged.Standing.{entry_time, LogRises, log_none, log_more}

module _ (p : Plan) (n : ℕ) where
  pub log_of : (last : ℕ) (es : List Entry) → log_rises p n last es ≡ true → LogRises p n last es
  log_of last [] e = log_none
  log_of last (d ∷ es) e = let (a, b) = both_true (cond (may_repeat p n d.what) (leb last d.time) (ltb last d.time)) (log_rises p n d.time es) e in one (may_repeat p n d.what) refl a (log_of d.time es b)
    where
      one : (t : Bool) → may_repeat p n d.what ≡ t → cond t (leb last d.time) (ltb last d.time) ≡ true → LogRises p n d.time es → LogRises p n last (d ∷ es)
      one true q a r = log_more {last = last} {e = d} (leb-true last d.time a) (λ z. absurd (true≢false (sym q ∙ z))) r
      one false q a r = let h = ltb-true last d.time a in log_more {last = last} {e = d} (omega arith) (λ z. h) r

  pub of_log : {last : ℕ} {es : List Entry} → LogRises p n last es → log_rises p n last es ≡ true
  of_log log_none = refl
  of_log {last} (log_more {e = d} {es = es} h f r) = one (may_repeat p n d.what) refl (of_log r)
    where
      one : (t : Bool) → may_repeat p n d.what ≡ t → log_rises p n d.time es ≡ true → (cond t (leb last d.time) (ltb last d.time) && log_rises p n d.time es) ≡ true
      one true q ih = rw (le-leb last d.time h) ih
      one false q ih = rw (lt-ltb last d.time (f q)) ih

  -- One entry more, not before the last, and later if it has a time of its own.
  pub log_snoc : (d : Entry) {last top : ℕ} {es : List Entry} → last ≤ top → Within entry_time top es → top ≤ d.time → (may_repeat p n d.what ≡ false → top < d.time) → LogRises p n last es → LogRises p n last (es ++ d ∷ [])
  log_snoc d {last} low w h f log_none = log_more {last = last} {e = d} (omega arith) (λ z. (let k = f z in omega arith)) log_none
  log_snoc d {last} low (more_in k w) h f (log_more {e = c} a b r) = log_more {last = last} {e = c} a b (log_snoc d k w h f r)

  pub rising_log : {last : ℕ} {es : List Entry} → Rises entry_time last es → LogRises p n last es
  rising_log none = log_none
  rising_log {last} (more {x = d} h r) = log_more {last = last} {e = d} (omega arith) (λ z. h) (rising_log r)

  -- From a lower time on.
  pub log_lower : {low last : ℕ} {es : List Entry} → low ≤ last → LogRises p n last es → LogRises p n low es
  log_lower {low} h log_none = log_none
  log_lower {low} h (log_more {e = d} a b r) = log_more {last = low} {e = d} (omega arith) (λ z. (let k = b z in omega arith)) r
