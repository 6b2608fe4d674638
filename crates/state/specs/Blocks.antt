-- Blocks: words, colours, inward entries and their marks.
use Rattle.std.specs.Prelude.{ℕ, ◌-◌, Bool, true, false, cond, not, ◌&&◌, ◌||◌, List, take, replicate, is_some, Some, None, Option, ◌==◌, nat_lt, slice_index_or, slice_set}
use Rattle.state.specs.declared.word.Word.{Word}
use Rattle.state.specs.declared.word.Word.TheVariants.{Number, Pointer}
use Rattle.state.specs.declared.block.Block.{Block}
use Rattle.state.specs.declared.block.Entry.{Entry}
use Rattle.state.specs.declared.block.Colour.{Colour}
use Rattle.state.specs.declared.block.Colour.TheVariants.{White, Grey, Black}
use Rattle.state.specs.Tables.{map_from, some_from}

-- Tables by level begin with level 2.
abbrev pub level_place : ℕ → ℕ
level_place l = l - 2

-- A new block: grey, all words the number 0, no entry, no hold.
abbrev pub new_block : ℕ → Block
new_block n = record { size = n; words = replicate 8 (Number 0); colour = Grey; entries = replicate 3 None; holds = 0 }

-- Words

abbrev pub word_at : Block → ℕ → Word
word_at k i = slice_index_or k.words i (Number 0)

abbrev pub with_word : ℕ → Word → Block → Block
with_word i w k = record { size = k.size; words = slice_set k.words i w; colour = k.colour; entries = k.entries; holds = k.holds }

abbrev pub is_pointer_to : ℕ → Word → Bool
is_pointer_to b (Number n) = false
is_pointer_to b (Pointer c) = c == b

-- Some word of the block is a pointer to b.
abbrev pub points_to : Block → ℕ → Bool
points_to k b = some_from (λ i w. is_pointer_to b w) 0 (take k.size k.words)

-- Colours

abbrev pub coloured : Colour → Block → Block
coloured c k = record { size = k.size; words = k.words; colour = c; entries = k.entries; holds = k.holds }

abbrev pub shaded_to : Colour → Colour
shaded_to White = Grey
shaded_to Grey = Grey
shaded_to Black = Black

-- To shade is to make a white block grey.
abbrev pub shade : Block → Block
shade k = coloured (shaded_to k.colour) k

abbrev pub is_white : Colour → Bool
is_white White = true
is_white Grey = false
is_white Black = false

abbrev pub is_grey : Colour → Bool
is_grey White = false
is_grey Grey = true
is_grey Black = false

-- Entries and marks

abbrev pub with_entries : List (Option Entry) → Block → Block
with_entries es k = record { size = k.size; words = k.words; colour = k.colour; entries = es; holds = k.holds }

abbrev pub entry_at : Block → ℕ → Option Entry
entry_at k m = slice_index_or k.entries (level_place m) None

abbrev pub has_entry : Block → ℕ → Bool
has_entry k m = is_some (entry_at k m)

abbrev pub mark_in : Option Entry → ℕ → Bool
mark_in None l = false
mark_in (Some e) l = slice_index_or e.marks (level_place l) false

-- The mark of level l of the entry of level m.
abbrev pub marked : Block → ℕ → ℕ → Bool
marked k m l = mark_in (entry_at k m) l

abbrev pub entered : Option Entry → Option Entry
entered None = Some (record { marks = replicate 3 false })
entered (Some e) = Some e

-- A missing entry of level m is made, with all marks clear.
abbrev pub with_entry : ℕ → Block → Block
with_entry m k = with_entries (slice_set k.entries (level_place m) (entered (entry_at k m))) k

abbrev pub marked_by : (ℕ → Bool) → Option Entry → Option Entry
marked_by taken None = None
marked_by taken (Some e) = Some (record { marks = map_from (λ l x. x || taken l) 2 e.marks })

-- The marks that were taken, by entry level and mark level, are set where the entry is there.
abbrev pub with_marks : (ℕ → ℕ → Bool) → Block → Block
with_marks taken k = with_entries (map_from (λ m e. marked_by (taken m) e) 2 k.entries) k

abbrev pub recovered_entry : (ℕ → Bool) → ℕ → Option Entry → Option Entry
recovered_entry at m None = None
recovered_entry at m (Some e) =
    cond (at m && not (mark_in (Some e) m)) None (Some (record { marks = map_from (λ l x. x && not (at l)) 2 e.marks }))

-- At each of these levels l: an entry of level l whose mark l is clear is lost, and mark l of the others is cleared.
abbrev pub with_recovered : (ℕ → Bool) → Block → Block
with_recovered at k = with_entries (map_from (recovered_entry at) 2 k.entries) k

-- The block has an entry above level L, or a mark of level L.
abbrev pub entered_at : ℕ → Block → Bool
entered_at L k = some_from (λ m e. is_some e && (nat_lt L m || mark_in e L)) 2 k.entries
