-- The replay table by its five lists.
use Rattle.std.specs.Prelude.{ℕ, zero, suc, List, [], ◌∷◌, ◌++◌, get_or}
use Rattle.replay_items.specs.declared.Listed.{Listed}

-- The item whose numbers stand at a place, and the items before a place.
abbrev pub listed_at : List ℕ → List ℕ → List ℕ → List ℕ → List ℕ → ℕ → Listed
listed_at rows times fixed floors numbers i =
    record { row = get_or rows i 0; time = get_or times i 0; fixed = get_or fixed i 0; floor = get_or floors i 0; number = get_or numbers i 0 }

abbrev pub listed_to : List ℕ → List ℕ → List ℕ → List ℕ → List ℕ → ℕ → List Listed
listed_to rows times fixed floors numbers zero = []
listed_to rows times fixed floors numbers (suc i) = listed_to rows times fixed floors numbers i ++ listed_at rows times fixed floors numbers i ∷ []
