-- The parts of a sheet's lines, one behind the other.
use Prim.Native.Nat.{ℕ}
use mathlib.Core.Path.{◌≡◌, refl, sym, ap, ◌∙◌}
use mathlib.Core.List.{List, [], ◌∷◌, ◌++◌, zip_with, append_assoc}
use mathlib.Core.Option.{none, some}
use Rattle.plan.specs.declared.Record.{Record}
use Rattle.rules.specs.Line.{fed, made, Entry, Target, Asked, Line, node_at, parents}
use Rattle.rules.specs.Sheet.{decimal, spaced, text_line, answer_line, status_word, origin_words, entry_line, clock_text, node_and_time, target_word, kept_text, node_text}
use Rattle.rules.proofs.Lists.ListLaws.{nil_right}
use Rattle.report.specs.Clock.{times_of}
use Rattle.report.specs.Parts.{after, origin_after, record_after, head_line, log_text, clock_line, kept_line, restored_words, target_words}

pub spaced-after : (w : List ℕ) (ws : List (List ℕ)) → spaced (w ∷ ws) ≡ w ++ after ws
spaced-after w [] = sym (nil_right w)
spaced-after w (v ∷ ws) = append_assoc w (32 ∷ []) (spaced (v ∷ ws)) ∙ ap (λ (x : List ℕ). w ++ 32 ∷ x) (spaced-after v ws)

pub after-append : (vs ws : List (List ℕ)) → after (vs ++ ws) ≡ after vs ++ after ws
after-append [] ws = refl
after-append (v ∷ vs) ws = ap (λ (x : List ℕ). 32 ∷ v ++ x) (after-append vs ws) ∙ sym (append_assoc (32 ∷ v) (after vs) (after ws))

line_after : (w : List ℕ) (ws : List (List ℕ)) → text_line (w ∷ ws) ≡ w ++ (after ws ++ 10 ∷ [])
line_after w ws = ap (λ (x : List ℕ). x ++ 10 ∷ []) (spaced-after w ws) ∙ append_assoc w (after ws) (10 ∷ [])

-- With a text behind them.
abbrev afterwards : List (List ℕ) → List ℕ → List ℕ
afterwards [] t = t
afterwards (w ∷ ws) t = (32 ∷ w) ++ afterwards ws t

after_with : (ws : List (List ℕ)) (t : List ℕ) → after ws ++ t ≡ afterwards ws t
after_with [] t = refl
after_with (w ∷ ws) t = append_assoc (32 ∷ w) (after ws) t ∙ ap (λ (x : List ℕ). (32 ∷ w) ++ x) (after_with ws t)

pub answer-parts : (k n : ℕ) → answer_line k n ≡ (65 ∷ []) ++ ((32 ∷ []) ++ (decimal k ++ ((32 ∷ decimal n) ++ 10 ∷ [])))
unfolding answer_line
answer-parts k n = simp append_assoc

pub record_parts : (r : Record) → record_after r ≡ (32 ∷ decimal r.piece) ++ ((32 ∷ decimal r.material) ++ (32 ∷ decimal r.mass))
unfolding record_after
record_parts r = ap (λ (x : List ℕ). (32 ∷ decimal r.piece) ++ ((32 ∷ decimal r.material) ++ 32 ∷ x)) (nil_right (decimal r.mass))

pub origin_fed : origin_after fed ≡ 32 ∷ 45 ∷ 32 ∷ 45 ∷ []
unfolding origin_after
origin_fed = refl

pub origin_made : (s t : ℕ) → origin_after (made s t) ≡ (32 ∷ decimal s) ++ (32 ∷ decimal t)
unfolding origin_after
origin_made s t = ap (λ (x : List ℕ). (32 ∷ decimal s) ++ 32 ∷ x) (nil_right (decimal t))

pub entry-parts : (n : ℕ) (e : Entry) → entry_line n e ≡ (76 ∷ []) ++ ((32 ∷ decimal n) ++ ((32 ∷ decimal e.time) ++ (origin_after e.origin ++ (record_after e.what ++ 10 ∷ []))))
unfolding entry_line origin_after record_after
entry-parts n e =
    let what : List (List ℕ) = decimal e.what.piece ∷ decimal e.what.material ∷ decimal e.what.mass ∷ [] in
    line_after (76 ∷ []) (decimal n ∷ decimal e.time ∷ (origin_words e.origin ++ what))
    ∙ ap (λ (x : List ℕ). 76 ∷ x)
    (append_assoc (32 ∷ decimal n) (after (decimal e.time ∷ (origin_words e.origin ++ what))) (10 ∷ [])
    ∙ ap (λ (x : List ℕ). (32 ∷ decimal n) ++ x)
    (append_assoc (32 ∷ decimal e.time) (after (origin_words e.origin ++ what)) (10 ∷ [])
    ∙ ap (λ (x : List ℕ). (32 ∷ decimal e.time) ++ x)
    (ap (λ (x : List ℕ). x ++ 10 ∷ []) (after-append (origin_words e.origin) what) ∙ append_assoc (after (origin_words e.origin)) (after what) (10 ∷ []))))

pub head_parts : (l : Line) (n : ℕ) → head_line l n ≡ (78 ∷ []) ++ ((32 ∷ decimal n) ++ ((32 ∷ status_word (node_at l n).status) ++ ((32 ∷ decimal (node_at l n).time) ++ 10 ∷ [])))
unfolding head_line
head_parts l n =
    line_after (78 ∷ []) (decimal n ∷ status_word (node_at l n).status ∷ decimal (node_at l n).time ∷ [])
    ∙ ap (λ (x : List ℕ). 78 ∷ x) (after_with (decimal n ∷ status_word (node_at l n).status ∷ decimal (node_at l n).time ∷ []) (10 ∷ []))

pub clock_parts : (l : Line) (n : ℕ) → clock_line l n ≡ (84 ∷ 32 ∷ []) ++ (clock_text l n ++ 10 ∷ [])
unfolding clock_line
clock_parts l n = refl

pub target-parts : (u : Target) → 32 ∷ target_word u ≡ (32 ∷ decimal u.time) ++ ((91 ∷ []) ++ (node_and_time u.parent u.parent_time ++ 93 ∷ []))
target-parts u = refl

pub kept_none : (l : Line) (n : ℕ) → (node_at l n).asked ≡ none → kept_line l n ≡ []
unfolding kept_line
kept_none l n e = ap (kept_text (parents l.plan n) (node_at l n).targets) e

pub kept_parts : (l : Line) (n : ℕ) (a : Asked) → (node_at l n).asked ≡ some a
    → kept_line l n ≡ (81 ∷ []) ++ (((32 ∷ decimal a.low) ++ (32 ∷ decimal a.high)) ++ (after (restored_words l n) ++ (after (target_words l n) ++ 10 ∷ [])))
unfolding kept_line times_of
kept_parts l n a e =
    let words : List (List ℕ) = zip_with node_and_time (parents l.plan n) a.entries in
    let numbers : List ℕ = (32 ∷ decimal a.low) ++ (32 ∷ decimal a.high) in
    rw e
    (line_after (81 ∷ []) (decimal a.low ∷ decimal a.high ∷ (words ++ target_words l n))
    ∙ ap (λ (x : List ℕ). 81 ∷ x)
    (ap (λ (x : List ℕ). x ++ 10 ∷ []) (sym (append_assoc (32 ∷ decimal a.low) (32 ∷ decimal a.high) (after (words ++ target_words l n))))
    ∙ append_assoc numbers (after (words ++ target_words l n)) (10 ∷ [])
    ∙ ap (λ (x : List ℕ). numbers ++ x) (ap (λ (x : List ℕ). x ++ 10 ∷ []) (after-append words (target_words l n)) ∙ append_assoc (after words) (after (target_words l n)) (10 ∷ []))))

pub node-parts : (l : Line) (n : ℕ) → node_text l n ≡ head_line l n ++ (log_text l n ++ (clock_line l n ++ kept_line l n))
unfolding node_text head_line log_text clock_line kept_line
node-parts l n = append_assoc (head_line l n ++ log_text l n) (clock_line l n) (kept_line l n) ∙ append_assoc (head_line l n) (log_text l n) (clock_line l n ++ kept_line l n)
