-- A text that is being written, before and after another part of it.
use Rattle.std.specs.Prelude.{ℕ, ◌+◌, ◌≤◌, ◌≡◌, List, length}
use Rattle.report.specs.declared.text.Text.{Text}
use Rattle.report.specs.Wrote.{Wrote}

-- There is room for so many bytes more.
abbrev pub Room : ℕ → Text → Type 0
Room n s = s.at + n ≤ length s.out.now

-- Such a part is written at the place where s ends, and t ends behind it. The buffer is still the one that was lent.
pub record Writes (most : ℕ) (part : List ℕ) (s t : Text) : Type 0 where
  pub wrote : Wrote most s.out.now s.at part t.out.now t.at
  pub lent : t.out.ghost_name ≡ s.out.ghost_name
