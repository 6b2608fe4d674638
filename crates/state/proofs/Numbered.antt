-- Tables whose elements are numbered. Assumes nothing.
use Rattle.std.proofs.Common.{◌≡◌, ℕ, zero, suc, ◌+◌, ◌≤◌, Bool, false, ◌||◌, List, [], ◌∷◌, get_or, set, sym, refl, ap, ◌∙◌, arith}
use Rattle.std.proofs.lemmas.Bool.{or_parts, or_from}
use Rattle.std.proofs.Math.Bool.{or-false}
use Rattle.state.specs.Tables.{map_from, some_from}

-- Mapping

pub map_from_map_from : {X Y Z : Type 0} (f : ℕ → X → Y) (g : ℕ → Y → Z) (i : ℕ) (xs : List X) → map_from g i (map_from f i xs) ≡ map_from (λ n x. g n (f n x)) i xs
map_from_map_from f g i [] = refl
map_from_map_from f g i (x ∷ xs) = rw (map_from_map_from f g (i + 1) xs)

pub map_from_same : {X Y : Type 0} (f g : ℕ → X → Y) (i : ℕ) → ((n : ℕ) (x : X) → i ≤ n → f n x ≡ g n x) → (xs : List X) → map_from f i xs ≡ map_from g i xs
map_from_same f g i h [] = refl
map_from_same f g i h (x ∷ xs) = rw (h i x (omega arith), map_from_same f g (i + 1) (λ n y l. h n y (omega arith)) xs)

pub map_from_keeps : {X : Type 0} (f : ℕ → X → X) (i : ℕ) → ((n : ℕ) (x : X) → i ≤ n → f n x ≡ x) → (xs : List X) → map_from f i xs ≡ xs
map_from_keeps f i h [] = refl
map_from_keeps f i h (x ∷ xs) = rw (h i x (omega arith), map_from_keeps f (i + 1) (λ n y l. h n y (omega arith)) xs)

-- Testing

pub some_from_map_from : {X Y : Type 0} (ok : ℕ → Y → Bool) (f : ℕ → X → Y) (i : ℕ) (xs : List X) → some_from ok i (map_from f i xs) ≡ some_from (λ n x. ok n (f n x)) i xs
some_from_map_from ok f i [] = refl
some_from_map_from ok f i (x ∷ xs) = rw (some_from_map_from ok f (i + 1) xs)

or_swap : (a b c d : Bool) → ((a || b) || (c || d)) ≡ ((a || c) || (b || d))
or_swap a b c d = grind arith

pub some_from_or : {X : Type 0} (p q r : ℕ → X → Bool) → ((n : ℕ) (x : X) → (p n x || q n x) ≡ r n x) → (i : ℕ) (xs : List X) → (some_from p i xs || some_from q i xs) ≡ some_from r i xs
some_from_or p q r h i [] = refl
some_from_or p q r h i (x ∷ xs) =
    or_swap (p i x) (some_from p (i + 1) xs) (q i x) (some_from q (i + 1) xs) ∙ rw (h i x, some_from_or p q r h (i + 1) xs)

pub some_from_none : {X : Type 0} (ok : ℕ → X → Bool) (i : ℕ) → ((n : ℕ) (x : X) → i ≤ n → ok n x ≡ false) → (xs : List X) → some_from ok i xs ≡ false
some_from_none ok i h [] = refl
some_from_none ok i h (x ∷ xs) =
    or_from (ok i x) (some_from ok (i + 1) xs) (h i x (omega arith)) (some_from_none ok (i + 1) (λ n y l. h n y (omega arith)) xs)

-- where only number j can pass, its element tells
pub some_from_one : {X : Type 0} (ok : ℕ → X → Bool) (j : ℕ) (d : X) → ok j d ≡ false → ((n : ℕ) (x : X) → (n ≡ j → ⊥) → ok n x ≡ false)
    → (i k : ℕ) → j ≡ i + k → (xs : List X) → some_from ok i xs ≡ ok j (get_or xs k d)
some_from_one ok j d absent others i k e [] = sym absent
some_from_one ok j d absent others i zero e (x ∷ xs) =
    let here : i ≡ j = omega arith in
    rw (some_from_none ok (i + 1) (λ n y l. others n y (λ z. omega arith)) xs, here) (or-false (ok j x))
some_from_one ok j d absent others i (suc k) e (x ∷ xs) =
    rw (others i x (λ z. omega arith)) (some_from_one ok j d absent others (i + 1) k (omega arith) xs)

-- a map that changes only elements that pass some test keeps a table of which none does
pub map_from_none : {X : Type 0} (f : ℕ → X → X) (ok : ℕ → ℕ → X → Bool) → ((n : ℕ) (x : X) → ((l : ℕ) → 2 ≤ l → ok l n x ≡ false) → f n x ≡ x)
    → (i : ℕ) (xs : List X) → ((l : ℕ) → 2 ≤ l → some_from (ok l) i xs ≡ false) → map_from f i xs ≡ xs
map_from_none f ok h i [] none = refl
map_from_none f ok h i (x ∷ xs) none =
    rw (h i x (λ l g. (or_parts (ok l i x) (some_from (ok l) (i + 1) xs) (none l g)).0), map_from_none f ok h (i + 1) xs (λ l g. (or_parts (ok l i x) (some_from (ok l) (i + 1) xs) (none l g)).1))

-- Two changes at one place are one
pub set_twice : {X : Type 0} (f g : X → X) (xs : List X) (i : ℕ) (d : X)
    → (let ys = set xs i (f (get_or xs i d)) in set ys i (g (get_or ys i d))) ≡ set xs i (g (f (get_or xs i d)))
set_twice f g [] i d = refl
set_twice f g (x ∷ xs) zero d = refl
set_twice f g (x ∷ xs) (suc i) d = ap (λ r. x ∷ r) (set_twice f g xs i d)
