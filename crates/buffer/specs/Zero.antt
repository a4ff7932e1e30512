-- Bytes that are all 0.
use Rattle.std.specs.Prelude.{ℕ, Bool, List, eqb}
use Rattle.rules.specs.Lists.{all_of}

abbrev pub zero_bytes : List ℕ → Bool
zero_bytes s = all_of (eqb 0) s
