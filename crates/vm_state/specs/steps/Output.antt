-- Prints as one row of bytes, with the place at which each ends and its thread.
use Rattle.std.specs.Prelude.{◌≡◌, ℕ, zero, suc, ◌-◌, ◌≤◌, List, [], ◌∷◌, drop, take}
use Rattle.vm_state.specs.Output.{Print}

-- the bytes from one place up to another
abbrev pub between : List ℕ → ℕ → ℕ → List ℕ
between bytes from to = take (to - from) (drop from bytes)

-- the prints that end at these places and are of these threads, the first from a place on
abbrev pub prints_in : List ℕ → ℕ → List ℕ → List ℕ → List Print
prints_in bytes from [] threads = []
prints_in bytes from (end ∷ ends) [] = []
prints_in bytes from (end ∷ ends) (thread ∷ threads) =
    record { thread = thread; text = between bytes from end } ∷ prints_in bytes end ends threads

-- prints from a place on, each of which ends where it begins or behind, cover all up to another place
abbrev pub Cover : ℕ → List ℕ → List ℕ → ℕ → Type 0
Cover from [] [] to = from ≡ to
Cover from [] (thread ∷ threads) to = ⊥
Cover from (end ∷ ends) [] to = ⊥
Cover from (end ∷ ends) (thread ∷ threads) to = (from ≤ end) × Cover end ends threads to

-- the place at which the print of a number begins, where the first begins at this one
abbrev pub start_of : ℕ → List ℕ → ℕ → ℕ
start_of from ends zero = from
start_of from [] (suc number) = from
start_of from (end ∷ ends) (suc number) = start_of end ends number
