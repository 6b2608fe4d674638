-- The set that chained letters keep: a chain for each block, and a letter of its own for each mark.
use Rattle.std.specs.Prelude.{◌≡◌, ℕ, zero, suc, ◌+◌, ◌-◌, ◌*◌, ◌≤◌, min, Bool, true, false, cond, not, ◌&&◌, List, [], ◌∷◌, map, length, Some, None, Option, ◌==◌, slice_index}
use Rattle.chain.specs.Chain.{numbered, link_of, among}
use Rattle.post.specs.Marks.{Waits, is_mark, none}
use Rattle.post.specs.Table.{place}
use Rattle.post.specs.declared.Mark.{Mark}
use Rattle.post.specs.declared.letters.Letter.{Letter}

-- block b has the six letters after 6 (b - 1), one for each pair of entry level and mark level
abbrev pub letter_of : ℕ → ℕ → ℕ → ℕ
letter_of b m l = 6 * (b - 1) + min (place m l) 5 + 1

abbrev pub letter_for : Mark → ℕ
letter_for k = letter_of k.block k.entry k.level

abbrev pub links_of : List Letter → List ℕ
links_of letters = map (λ x. x.next) letters

abbrev pub entry_at : List Letter → ℕ → ℕ
entry_at letters j = slice_index (map (λ x. x.entry) letters) (j - 1)

abbrev pub level_at : List Letter → ℕ → ℕ
level_at letters j = slice_index (map (λ x. x.level) letters) (j - 1)

-- what is read as letter j
abbrev pub Read : List Letter → ℕ → Option Letter → Type 0
Read letters j None = numbered (length letters) j ≡ false
Read letters j (Some x) =
    (numbered (length letters) j ≡ true) × (x.entry ≡ entry_at letters j) × (x.level ≡ level_at letters j) × (x.next ≡ link_of (links_of letters) j)

-- the numbers that the links visit from head on, at most n
abbrev pub walk : ℕ → List ℕ → ℕ → List ℕ
walk zero links head = []
walk (suc n) links head = cond (numbered (length links) head) (head ∷ walk n links (link_of links head)) []

abbrev pub visited : List ℕ → ℕ → List ℕ
visited links head = walk (length links) links head

-- the letters that wait for block b
abbrev pub waiting : List ℕ → List Letter → ℕ → List ℕ
waiting heads letters b = visited (links_of letters) (slice_index heads (b - 1))

-- a mark waits if its letter does
unfoldable pub posted : List ℕ → List Letter → Waits
posted heads letters b m l = is_mark (length heads) b m l && among (letter_of b m l) (waiting heads letters b)

-- from head on the links visit just these letters, none twice, and then end
abbrev pub chained : List ℕ → ℕ → List ℕ → Bool
chained links head [] = head == 0
chained links head (j ∷ js) = head == j && (numbered (length links) j && (not (among j js) && chained links (link_of links j) js))

-- the letter j of block b has the levels of the mark whose letter it is
abbrev pub bears : List Letter → ℕ → ℕ → ℕ → Bool
bears letters n b j =
    is_mark n b (entry_at letters j) (level_at letters j) && letter_of b (entry_at letters j) (level_at letters j) == j

abbrev pub every : (ℕ → Bool) → List ℕ → Bool
every f [] = true
every f (j ∷ js) = f j && every f js

-- the letters of block b are in order
unfoldable pub tidy : List ℕ → List Letter → ℕ → Bool
tidy heads letters b =
    chained (links_of letters) (slice_index heads (b - 1)) (waiting heads letters b)
    && every (bears letters (length heads) b) (waiting heads letters b)

-- and so are those of all blocks
abbrev pub Tidy : List ℕ → List Letter → Type 0
Tidy heads letters = (b : ℕ) → 1 ≤ b → b ≤ length heads → tidy heads letters b ≡ true

-- no letter waits, whatever the letters hold
abbrev pub NoLetters : List ℕ → Type 0
NoLetters heads = ((letters : List Letter) → Tidy heads letters) × ((letters : List Letter) → posted heads letters ≡ none)
