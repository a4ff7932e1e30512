-- Which events stand behind the messages put on a channel and got from it.
use Prim.Native.Nat.{ℕ, ◌<◌}
use mathlib.Core.Path.{◌≡◌, refl, sym, subst}
use mathlib.Core.Logic.{inl, inr}
use mathlib.Core.Bool.{Bool, true, false}
use mathlib.Core.List.{List, [], ◌∷◌, map}
use lib.Dec.{eqb}
use borrow.Author.Tests.{eq-eqb, eqb-true}
use Rattle.plan.specs.Plan.{Plan, channel_at, channel_count}
use Rattle.rules.specs.Lists.{keep_one}
use Rattle.rules.specs.Line.{Message}
use Rattle.rules.proofs.Lists.Members.{In, here, there, in_none, in_first, in_keep, keep_in, in_map, map_in, in_right, append_in}
use Rattle.rules.proofs.Histories.Witness.{Taken, more}
use Rattle.rules.proofs.Histories.Ghost.{Event, fed_at, took_at, Ghost, input_of, sent_of, takes_message, put, got_one, got_of, got}

-- Put on a channel: the messages of its sender's events that it takes.
module _ (p : Plan) (g : Ghost) (b : ℕ) where
  pub in_put : (e : Event) → In e (g (channel_at p b).sender) → takes_message p b (sent_of p (channel_at p b).sender e) ≡ true → In (sent_of p (channel_at p b).sender e) (put p g b)
  unfolding put
  in_put e i t = in_keep (takes_message p b) (in_map (sent_of p (channel_at p b).sender) i) t

  pub put_in : (m : Message) → In m (put p g b) → (e : Event) × In e (g (channel_at p b).sender) × (m ≡ sent_of p (channel_at p b).sender e) × (takes_message p b m ≡ true)
  unfolding put
  put_in m i =
      let (j, t) = keep_in (takes_message p b) (map (sent_of p (channel_at p b).sender) (g (channel_at p b).sender)) i in
      let (e, k, q) = map_in (sent_of p (channel_at p b).sender) (g (channel_at p b).sender) j in
      (e, k, q, t)

-- Got from a channel: the messages that its receiver took from it.
module _ (b : ℕ) where
  pub in_got_of : {m : Message} {t : ℕ} {es : List Event} → In (took_at b m t) es → In m (got_of b es)
  in_got_of {m = m} (here {xs = es}) = rw (eq-eqb b b refl) here
  in_got_of (there {y = e} i) = in_right (got_one b e) (in_got_of i)

  one_took : (e : Event) {m : Message} → In m (got_one b e) → (t : ℕ) × (e ≡ took_at b m t)
  one_took (fed_at r t) i = absurd (in_none i)
  one_took (took_at c n t) {m} i = one (eqb c b) refl i
    where
      one : (x : Bool) → eqb c b ≡ x → In m (keep_one x n []) → (t' : ℕ) × (took_at c n t ≡ took_at b m t')
      one true q j = elim (in_first j) [ inl s ↦ (t, λ k. took_at (eqb-true c b q k) (sym s k) t) | inr k ↦ absurd (in_none k) ]
      one false q j = absurd (in_none j)

  pub got_of_in : (es : List Event) {m : Message} → In m (got_of b es) → (t : ℕ) × In (took_at b m t) es
  got_of_in [] i = absurd (in_none i)
  got_of_in (e ∷ es) i =
      elim (append_in (got_one b e) i) [
        | inl j ↦ (let (t, q) = one_took e j in (t, subst (λ (x : Event). In x (e ∷ es)) q here))
        | inr j ↦ (let (t, k) = got_of_in es j in (t, there k))
      ]

module _ (p : Plan) (g : Ghost) (b : ℕ) where
  pub in_got : (m : Message) (t : ℕ) → In (took_at b m t) (g (channel_at p b).receiver) → In m (got p g b)
  unfolding got
  in_got m t i = in_got_of b i

  pub got_in : (m : Message) → In m (got p g b) → (t : ℕ) × In (took_at b m t) (g (channel_at p b).receiver)
  unfolding got
  got_in m i = got_of_in b (g (channel_at p b).receiver) i

-- An event of a node whose inputs were all taken was taken from a channel that enters the node.
pub record TookFrom (p : Plan) (n : ℕ) (e : Event) : Type 0 where
  pub channel : ℕ
  pub message : Message
  pub time : ℕ
  pub is : e ≡ took_at channel message time
  pub on_plan : channel < channel_count p
  pub enters : (channel_at p channel).receiver ≡ n

pub taken_event : (p : Plan) (n : ℕ) (es : List Event) {e : Event} → Taken p n (map input_of es) → In e es → TookFrom p n e
taken_event p n [] k i = absurd (in_none i)
taken_event p n (fed_at _ _ ∷ es) k i = elim k [ ]
taken_event p n (took_at b m t ∷ es) (more h q s k) here = record { channel = b; message = m; time = t; is = refl; on_plan = h; enters = q }
taken_event p n (took_at b m t ∷ es) (more h q s k) (there i) = taken_event p n es k i
