-- The text of a node in the parts that it is written in.
use Rattle.std.specs.Prelude.{ℕ}
use mathlib.Core.List.{List, [], ◌∷◌, map, zip_with}
use Rattle.plan.specs.declared.Record.{Record}
use Rattle.rules.specs.Lists.{joined}
use Rattle.rules.specs.Line.{Origin, Line, node_at, parents}
use Rattle.rules.specs.Sheet.{decimal, text_line, status_word, origin_words, entry_line, clock_text, node_and_time, target_word, kept_text}
use Rattle.report.specs.declared.Heard.TheVariants.{Kept}
use Rattle.report.specs.Clock.{times_of}

-- Words, each behind a space.
abbrev pub after : List (List ℕ) → List ℕ
after ws = joined (map (λ (w : List ℕ). 32 ∷ w) ws)

unfoldable pub origin_after : Origin → List ℕ
origin_after o = after (origin_words o)

unfoldable pub record_after : Record → List ℕ
record_after r = after (decimal r.piece ∷ decimal r.material ∷ decimal r.mass ∷ [])

unfoldable pub head_line : Line → ℕ → List ℕ
head_line l n = text_line ((78 ∷ []) ∷ decimal n ∷ status_word (node_at l n).status ∷ decimal (node_at l n).time ∷ [])

unfoldable pub log_text : Line → ℕ → List ℕ
log_text l n = joined (map (entry_line n) (node_at l n).log)

unfoldable pub clock_line : Line → ℕ → List ℕ
clock_line l n = text_line ((84 ∷ []) ∷ clock_text l n ∷ [])

unfoldable pub kept_line : Line → ℕ → List ℕ
kept_line l n = kept_text (parents l.plan n) (node_at l n).targets (node_at l n).asked

-- The words behind low and high: the parents with their restored entries, and the targets.
abbrev pub restored_words : Line → ℕ → List (List ℕ)
restored_words l n = zip_with node_and_time (parents l.plan n) (times_of l n Kept)

abbrev pub target_words : Line → ℕ → List (List ℕ)
target_words l n = map target_word (node_at l n).targets
