-- The words of a kept answer, one behind the other.
use Prim.Native.Nat.{ℕ, zero, suc, ◌+◌, ◌*◌, ◌≤◌, ◌<◌}
use mathlib.Core.Path.{◌≡◌, refl, sym, ap, ◌∙◌}
use mathlib.Core.List.{List, [], ◌∷◌, map, zip_with}
use mathlib.Core.Option.{some}
use native.Mathlib.Omega.{arith}
use lib.ListN.{length, get_or, drop, length-map}
use Rattle.plan.specs.Plan.{Plan, plan_of, channel_at, entering}
use Rattle.rules.specs.Line.{Asked, node_at, parents}
use Rattle.rules.specs.Sheet.{node_and_time}
use Rattle.rules.proofs.Lists.ListLaws.{map_at}
use Rattle.state.specs.State.{line_of}
use Rattle.state.proofs.InPlace.{line-plan}
use Rattle.buffer.specs.Holds.{AtNode}
use Rattle.report.specs.declared.Heard.TheVariants.{Kept}
use Rattle.report.specs.declared.text.Text.{Text}
use Rattle.report.specs.Clock.{times_of}
use Rattle.report.specs.Parts.{after, restored_words}
use Rattle.report.specs.Writes.{Writes}
use Rattle.report.proofs.ParentLaws.{four_parents, times_long, Walking, walking_four, walking_end, walking_at, walking_turn}
use Rattle.report.proofs.WroteLaws.{Writing, writes_most, writes_then, writing_start, joined_turn, joined_end}

-- ---- words, each behind a space

abbrev space_before : List ℕ → List ℕ
space_before w = 32 ∷ w

module _ (ws : List (List ℕ)) {s t : Text} (i most : ℕ) where
  pub word_turn : {u : Text} → i < length ws → Writing (after ws) (i * most) s t (after (drop i ws)) → Writes most (32 ∷ get_or ws i []) t u → Writing (after ws) ((i + 1) * most) s u (after (drop (i + 1) ws))
  word_turn h w x = joined_turn space_before [] ws i most h w x

  pub word_end : length ws ≤ i → Writing (after ws) (i * most) s t (after (drop i ws)) → Writes (i * most) (after ws) s t
  word_end h w = joined_end space_before [] ws i most h w

-- ---- the parents

module _ {A B C : Type 0} (f : A → B → C) where
  zip_long : (xs : List A) (ys : List B) → length xs ≤ length ys → length (zip_with f xs ys) ≡ length xs
  unfolding zip_with
  zip_long [] ys h = refl
  zip_long (x ∷ xs) [] h = let no : ⊥ = omega arith in absurd no
  zip_long (x ∷ xs) (y ∷ ys) h = ap suc (zip_long xs ys (omega arith))

  zip_at : (xs : List A) (ys : List B) (i : ℕ) (a : A) (b : B) (c : C) → i < length xs → length xs ≤ length ys → get_or (zip_with f xs ys) i c ≡ f (get_or xs i a) (get_or ys i b)
  unfolding zip_with
  zip_at [] ys i a b c h k = let no : ⊥ = omega arith in absurd no
  zip_at (x ∷ xs) [] i a b c h k = let no : ⊥ = omega arith in absurd no
  zip_at (x ∷ xs) (y ∷ ys) zero a b c h k = refl
  zip_at (x ∷ xs) (y ∷ ys) (suc i) a b c h k = zip_at xs ys i a b c (omega arith) (omega arith)

-- Behind a place of the buffer, so many parents are written.
pub record Restoring (s : List ℕ) (n : ℕ) (start now : Text) (place : ℕ) (left : List ℕ) : Type 0 where
  pub walking : Walking s n place left
  pub writing : Writing (after (restored_words (line_of s) n)) (place * 22) start now (after (drop place (restored_words (line_of s) n)))

module _ (s : List ℕ) (n : ℕ) (node : AtNode s n) (a : Asked) (kept : (node_at (line_of s) n).asked ≡ some a) where
  abbrev those : List ℕ
  those = entering (plan_of s) n

  abbrev times : List ℕ
  times = times_of (line_of s) n Kept

  -- A parent for each channel.
  abbrev sender_in : ℕ → ℕ
  sender_in b = (channel_at (plan_of s) b).sender

  parents_are : parents (line_of s).plan n ≡ map sender_in (entering (plan_of s) n)
  unfolding parents
  parents_are = ap (λ (p : Plan). map (λ (b : ℕ). (channel_at p b).sender) (entering p n)) (line-plan s)

  parents_long : length (parents (line_of s).plan n) ≡ length (entering (plan_of s) n)
  parents_long = ap length parents_are ∙ length-map those sender_in

  enough : length (parents (line_of s).plan n) ≤ length (times_of (line_of s) n Kept)
  enough = omega (arith, parents_long, times_long s n node Kept (a, kept))

  words_long : length (restored_words (line_of s) n) ≡ length (entering (plan_of s) n)
  words_long = zip_long node_and_time (parents (line_of s).plan n) times enough ∙ parents_long

  module _ (start : Text) (room : start.at + 88 ≤ length start.out.now) where
    pub restoring_start : Restoring s n start start 0 (entering (plan_of s) n)
    restoring_start =
        record {
          walking = record { is = refl; few = omega arith };
          writing = writing_start (after (restored_words (line_of s) n)) start (omega arith);
        }

    module _ (now : Text) (place : ℕ) (left : List ℕ) (x : Restoring s n start now place left) where
      module _ {b : ℕ} {rest : List ℕ} (next : left ≡ b ∷ rest) where
        pub restoring_room : now.at + 22 ≤ length now.out.now
        restoring_room =
            let w = x.writing.writes.wrote in
            omega (arith, w.end, w.short, w.same, (walking_at x.walking next).inside, four_parents s n node)

        pub restoring_turn : (q u : ℕ) (then later : Text) → q ≡ (channel_at (plan_of s) b).sender → u ≡ get_or a.entries place 0
            → Writes 1 (32 ∷ []) now then → Writes 21 (node_and_time q u) then later → Restoring s n start later (place + 1) rest
        unfolding times_of
        restoring_turn q u then later from entry space w =
            let here = walking_at x.walking next in
            let inside : place < length (parents (line_of s).plan n) = omega (arith, parents_long, here.inside) in
            let parent : get_or (parents (line_of s).plan n) place 0 ≡ q = ap (λ (ps : List ℕ). get_or ps place 0) parents_are ∙ map_at sender_in those place 0 0 here.inside ∙ ap sender_in (sym here.is) ∙ sym from in
            let word : get_or (restored_words (line_of s) n) place [] ≡ node_and_time q u = zip_at node_and_time (parents (line_of s).plan n) times place 0 0 [] inside enough ∙ cc (parent, entry, kept) in
            record {
              walking = walking_turn x.walking next;
              writing = word_turn (restored_words (line_of s) n) place 22 (omega (arith, words_long, here.inside)) x.writing (rw word (writes_then space w));
            }

      pub restoring_end : left ≡ [] → Writes 88 (after (restored_words (line_of s) n)) start now
      restoring_end z =
          let all = word_end (restored_words (line_of s) n) place 22 (omega (arith, words_long, walking_end x.walking z)) x.writing in
          writes_most 88 (omega (arith, all.wrote.short, walking_four x.walking node)) all
