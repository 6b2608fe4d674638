-- The set that a table of bytes keeps: a byte for each block, a bit for each pair of entry level and mark level.
use Rattle.std.specs.Prelude.{ℕ, ◌+◌, ◌-◌, ◌*◌, ◌/◌, ◌%◌, ◌^◌, Bool, ◌&&◌, List, length, ◌==◌, slice_index}
use Rattle.post.specs.Marks.{Waits, is_mark}

-- the bit of a pair: 0, 1, 2, 3, 4 and 6
abbrev pub place : ℕ → ℕ → ℕ
place m l = 2 * m + l - 6

-- bit k of the number x is set
abbrev pub bit_on : ℕ → ℕ → Bool
bit_on x k = x / 2 ^ k % 2 == 1

-- a mark is kept if its bit is set in the byte of its block
unfoldable pub kept : List ℕ → Waits
kept t b m l = is_mark (length t) b m l && bit_on (slice_index t (b - 1)) (place m l)
