-- Whole runs of takes: what they leave and what they hand on does not hang on the marks that they pick.
use Rattle.std.specs.Prelude.{◌≡◌, ℕ, false, List, [], ◌∷◌, Some, None}
use Rattle.post.specs.Marks.{Waits, Taken, none, added, within}
use Rattle.post.specs.declared.Mark.{Mark}

-- takes of the marks ks, one after the other, lead from w to v
abbrev pub Run : ℕ → ℕ → Waits → List Mark → Waits → Type 0
Run first last w [] v = v ≡ w
Run first last w (k ∷ ks) v = (u : Waits) × Taken first last w u (Some k) × Run first last u ks v

-- a run after which a take finds nothing
abbrev pub Whole : ℕ → ℕ → Waits → List Mark → Waits → Type 0
Whole first last w ks v = Run first last w ks v × Taken first last v v None

-- the set of the marks of a list
abbrev pub handed : List Mark → Waits
handed [] = none
handed (k ∷ ks) = added k (handed ks)

-- any two whole runs from a set end in the same set, and hand on the same marks
abbrev pub AnyOrder : Type 0
AnyOrder =
    (first last : ℕ) (w v v' : Waits) (ks ks' : List Mark)
    → Whole first last w ks v → Whole first last w ks' v' → (v ≡ v') × (handed ks ≡ handed ks')

-- in a post, nothing waits for a block that is none of its own
abbrev pub StaysIn : (S : Type 0) → (S → ℕ) → (S → Waits) → Type 0
StaysIn S size waits = (p : S) (b m l : ℕ) → within 1 (size p) b ≡ false → waits p b m l ≡ false
