-- Tables whose elements are numbered.
use Rattle.std.specs.Prelude.{ℕ, ◌+◌, Bool, true, false, ◌&&◌, ◌||◌, List, [], ◌∷◌}

-- f done to each element and its number; the first has number i.
abbrev pub map_from : {X Y : Type 0} → (ℕ → X → Y) → ℕ → List X → List Y
map_from f i [] = []
map_from f i (x ∷ xs) = f i x ∷ map_from f (i + 1) xs

-- Some element passes a test; the first has number i.
abbrev pub some_from : {X : Type 0} → (ℕ → X → Bool) → ℕ → List X → Bool
some_from ok i [] = false
some_from ok i (x ∷ xs) = ok i x || some_from ok (i + 1) xs

-- Each element passes a test; the first has number i.
abbrev pub every_from : {X : Type 0} → (ℕ → X → Bool) → ℕ → List X → Bool
every_from ok i [] = true
every_from ok i (x ∷ xs) = ok i x && every_from ok (i + 1) xs
