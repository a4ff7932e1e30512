-- How long the parts of a sheet's text can be: a buffer with so much space is long enough.
use Rattle.std.specs.Prelude.{ℕ, zero, suc, ◌+◌, ◌*◌}
use Rattle.rules.specs.Line.{log_limit, target_limit}

-- A number of 64 bits, and one of 32.
abbrev pub digits_most : ℕ
digits_most = 20

abbrev pub number_most : ℕ
number_most = 10

-- "LINE 1"
abbrev pub opening_most : ℕ
opening_most = 7

-- `A`, a frame's number, its answer
abbrev pub answer_most : ℕ
answer_most = 34

-- `N`, a node, its status, its time
abbrev pub head_most : ℕ
head_most = 31

-- `L` and seven numbers
abbrev pub entry_most : ℕ
entry_most = 79

-- A clock with so many layers left below its root: a node and its time, and of each of four parents a byte and its part, and a bracket.
abbrev pub clock_most : ℕ → ℕ
clock_most zero = 21
clock_most (suc layers) = 21 + 4 * (1 + clock_most layers) + 1

-- `T`, a space and the clock
abbrev pub clock_line_most : ℕ
clock_line_most = 2 + clock_most 2 + 1

-- A parent and its entry, and a target, each behind a space
abbrev pub restored_most : ℕ
restored_most = 22

abbrev pub target_most : ℕ
target_most = 34

-- `Q`, low and high, four parents, the targets
abbrev pub kept_most : ℕ
kept_most = 1 + 2 * (1 + number_most) + 4 * restored_most + target_limit * target_most + 1

-- A node: its line, its log, its clock, its kept answer.
abbrev pub node_most : ℕ
node_most = head_most + log_limit * entry_most + clock_line_most + kept_most

-- Twelve nodes.
abbrev pub text_most : ℕ
text_most = 12 * node_most
