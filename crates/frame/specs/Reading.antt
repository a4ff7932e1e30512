-- A frame as the code reads it, beside what the rules read.
use Rattle.std.specs.Prelude.{ℕ, ◌+◌, ◌≤◌, ◌<◌, ◌≡◌, Bool, true, false, cond, ◌&&◌, leb, eqb, List, length, get_or, drop, Option, Some, None, Result, Ok, Err, MatchOption}
use Rattle.answers.specs.declared.Refusal.{Refusal}
use Rattle.answers.specs.Number.{refusal_number}
use Rattle.plan.specs.Record.{record_layout, record_fits}
use Rattle.rules.specs.Line.{console_count}
use Rattle.rules.specs.Frame as rules
use Rattle.frame.specs.declared.Frame.{Frame}
use Rattle.frame.specs.declared.Frame.TheVariants.{Feed, Send, Take, Crash, Recover, Trim, Ask, Commit}
use Rattle.frame.specs.declared.Asked.{Asked}

-- What is read asks the same as the rules' frame; a Feed has the record that its bytes spell, if they are a record's.
abbrev pub Asks : Frame → rules.Frame → Type 0
Asks (Feed n what) g = (r : List ℕ) × ((g ≡ rules.feed n r) × MatchOption what (record_fits r ≡ false) (λ w. (record_layout.read r ≡ w) × (record_fits r ≡ true)))
Asks (Send b) g = g ≡ rules.send b
Asks (Take b) g = g ≡ rules.take b
Asks (Crash n) g = g ≡ rules.crash n
Asks (Recover n) g = g ≡ rules.recover n
Asks (Trim n) g = g ≡ rules.trim n
Asks (Ask n) g = g ≡ rules.ask n
Asks (Commit n) g = g ≡ rules.commit n

-- A well-formed frame of a console, and what it asks.
pub record AskedBy (frame : List ℕ) (a : Asked) : Type 0 where
  pub formed : rules.frame_refusal frame ≡ 0
  pub from : a.console ≡ rules.frame_console frame
  pub there : a.console < console_count
  pub asks : Asks a.frame (rules.frame_of frame)

abbrev pub ReadAs : Result Asked Refusal → List ℕ → Type 0
ReadAs (Ok a) frame = AskedBy frame a
ReadAs (Err r) frame = rules.frame_refusal frame ≡ refusal_number r

-- ---- on the way

-- The length and the version are right; what a frame of the kind asks stands behind so many bytes.
pub record Versioned (frame : List ℕ) (console from : ℕ) : Type 0 where
  pub sized : rules.bad_frame_length frame ≡ false
  pub known : rules.bad_frame_version frame ≡ false
  pub whose : console ≡ rules.frame_console frame
  pub behind : from ≡ 4 + rules.console_bytes frame
  pub head : 5 ≤ length frame
  pub few : from ≤ 5

-- Whether a kind is known and so many bytes stand behind its console: a number, and behind a Feed's a record.
abbrev pub kind_known : ℕ → ℕ → Bool
kind_known kind n = leb 1 kind && leb kind 8 && eqb n (cond (eqb kind 1) 9 1)

-- What a frame of a kind asks, by what stands behind its console.
abbrev pub AsksOf : Option Frame → ℕ → List ℕ → Type 0
AsksOf None kind behind = kind_known kind (length behind) ≡ false
AsksOf (Some f) kind behind = (kind_known kind (length behind) ≡ true) × Asks f (rules.frame_of_kind kind (get_or behind 0 0) (drop 1 behind))
