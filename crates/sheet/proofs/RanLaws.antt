-- The turns of a run are calls one after the other, and so write the sheet.
use Rattle.std.proofs.Common.{ℕ, ◌+◌, ◌≡◌, refl, sym, ap, ◌∙◌, List, [], ◌∷◌, ◌++◌, append_assoc, append-nil, length, take, drop, length-append, length-drop, arith}
use Rattle.std.proofs.lemmas.List.{length-take-le}
use Rattle.rules.specs.Lists.{joined}
use Rattle.rules.specs.Sheet.{sheet}
use Rattle.stream.specs.declared.Reader.{Reader}
use Rattle.stream.specs.Reader.{Begun}
use Rattle.stream.specs.Blocks.{Calls, one_more, the_end, no_more}
use Rattle.stream.proofs.CallsLaws.{calls_write_the_sheet}
use Rattle.sheet.specs.declared.Ending.{Ending}
use Rattle.sheet.specs.Turned.{Went, Stopped, complete, at_the_end, read_failed, block_unwritten, last_unwritten}
use Rattle.sheet.specs.Ran.{Turns, no_turn, more, turns_read, turns_text, SoFar, read_in, text_in, Ran, whole_before_the_end, whole_at_the_end, unread_after, unwritten_after, unwritten_at_the_end}

turns_calls : {r : Reader} {s w o : List ℕ} {q : Reader} {t v u text : List ℕ} {blocks : List (List ℕ)} (turns : Turns r s w o q t v u) → Calls q t v u blocks text
    → (all : List (List ℕ)) × (Calls r s w o all (turns_text turns ++ text) × (joined all ≡ turns_read turns ++ joined blocks))
turns_calls {blocks = blocks} no_turn calls = (blocks, (calls, refl))
turns_calls {text = text} {blocks = blocks} (more {q = q} {next = next} {out = out} turns went) calls =
    let (all, (run, same)) = turns_calls turns (one_more went.taken calls) in
    (all, (rw (append_assoc (turns_text turns) (take next.wrote out) text) run, same ∙ sym (append_assoc (turns_read turns) (take went.n (drop q.have went.came)) (joined blocks))))

-- What a run has given, and what the calls that still follow give, is the sheet of what it has read and of the blocks that still come.
run_writes : {s w o : List ℕ} {q : Reader} {t v u text : List ℕ} {blocks : List (List ℕ)} (run : SoFar s w o q t v u) → Calls q t v u blocks text → text_in run ++ text ≡ sheet (read_in run ++ joined blocks)
run_writes {s} {w} {o} {text = text} run calls =
    let (all, (behind, same)) = turns_calls run.turns calls in
    append_assoc (take run.start.wrote run.front) (turns_text run.turns) text ∙ calls_write_the_sheet o run.front run.start s w all (turns_text run.turns ++ text) run.begun behind ∙ ap sheet same

abbrev pub so_far : {s w o front : List ℕ} {start q : Reader} {t v u : List ℕ} → Begun o front start → Turns start s w front q t v u → SoFar s w o q t v u
so_far {front = front} {start = start} begun turns = record { start = start; front = front; begun = begun; turns = turns }

one_turn_more : {s w o : List ℕ} {q next : Reader} {t v u state window out : List ℕ} → SoFar s w o q t v u → Went q t v u next state window out → SoFar s w o next state window out
one_turn_more run went = so_far run.begun (more run.turns went)

pub ran_by : {s w o : List ℕ} {q : Reader} {t v u : List ℕ} {why : Ending} {state window out : List ℕ} → SoFar s w o q t v u → Stopped q t v u why state window out → Ran s w o why state window out
ran_by run (complete went e) =
    let all = one_turn_more run went in
    whole_before_the_end all e (λ rest. sym (append-nil (text_in all)) ∙ run_writes {blocks = rest ∷ []} all (no_more e) ∙ rw append-nil)
ran_by run (at_the_end last) = whole_at_the_end run last (run_writes run (the_end last.ended) ∙ rw append-nil)
ran_by run (read_failed read) = unread_after run read
ran_by run (block_unwritten went some) = unwritten_after (one_turn_more run went) some
ran_by run (last_unwritten last some) = unwritten_at_the_end run last some

-- What a turn read is as long as it was told.
pub one_turn_longer : {r q next : Reader} {s w o t v u state window out : List ℕ} (turns : Turns r s w o q t v u) (went : Went q t v u next state window out) → length (turns_read (more turns went)) ≡ length (turns_read turns) + went.n
one_turn_longer {q = q} turns went =
    rw (length-append, length-take-le went.n (drop q.have went.came) (rw length-drop (omega (arith, went.read.sized, went.read.within.1))))
