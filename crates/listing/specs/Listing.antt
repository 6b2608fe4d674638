use Rattle.std.specs.Prelude.{ℕ, ◌+◌, cond, List, [], ◌∷◌, ◌++◌, length, take, drop, codes, decimal, ◌==◌}
use Rattle.std.specs.List.{flat_map}
use Rattle.listing.specs.declared.Refusal.{Refusal}
use Rattle.listing.specs.declared.Refusal.TheVariants.{Short}
use Rattle.listing.specs.declared.Row.{Row}

-- a word of a line, and the number after it
abbrev pub field : List ℕ → ℕ → List ℕ
field word n = word ++ decimal n

-- the line of one area
unfoldable pub line : Row → List ℕ
line row =
    field (codes "area ") row.area
    ++ (field (codes " level ") row.level
    ++ (field (codes " used ") row.used
    ++ (field (codes " free ") row.free
    ++ codes "\n")))

-- the lines of all areas, in the order given
abbrev pub listing : List Row → List ℕ
listing rows = flat_map line rows

-- how many line feeds a text has
abbrev pub line_feeds : List ℕ → ℕ
line_feeds [] = 0
line_feeds (b ∷ bs) = cond (b == 10) 1 0 + line_feeds bs

-- the number by which a refusal is reported
abbrev pub refusal_number : Refusal → ℕ
refusal_number Short = 16

-- what `out` holds once `text` is written over it from the place `at` on
unfoldable pub written : List ℕ → ℕ → List ℕ → List ℕ
written out at text = take at out ++ (text ++ drop (at + length text) out)
