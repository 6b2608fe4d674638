-- How a row of bytes is read as a plan: the records' areas, or the first refusal that applies.
use Rattle.std.specs.Prelude.{ℕ, zero, suc, ◌+◌, ◌*◌, ◌/◌, ◌%◌, Bool, cond, ◌&&◌, List, map, length, Some, None, Ok, Err, Option, Result, ◌==◌, nat_le, slice_index}
use Rattle.std.specs.List.{range_with_len}
use Rattle.chain.specs.Chain.{place}
use Rattle.plan.specs.declared.area.Area.{Area}
use Rattle.plan.specs.declared.refusal.Refusal.{Refusal}
use Rattle.plan.specs.declared.refusal.Refusal.TheVariants.{Length, Record, NotATree, Slots, TooManySlots}
use Rattle.plan.specs.Walk.{area_at, slots_in, walk_of}
use Rattle.plan.specs.Tree.{is_tree}

-- Byte j of record i.
abbrev pub byte_of : List ℕ → ℕ → ℕ → ℕ
byte_of bytes i j = slice_index bytes (6 * place i + j)

-- The area that record i describes: level, child, next, a zero byte, slots with the low byte first.
abbrev pub area_of : List ℕ → ℕ → Area
area_of bytes i =
    record { level = byte_of bytes i 0; child = byte_of bytes i 1; next = byte_of bytes i 2; slots = byte_of bytes i 4 + 256 * byte_of bytes i 5 }

-- A row of one to 64 whole records.
abbrev pub good_length : ℕ → Bool
good_length n = n % 6 == 0 && (nat_le 6 n && nat_le n 384)

-- A level is 1 to 4, that of record 1 at least 2; child and next are 0 or the number of one of n records.
abbrev pub area_in_range : ℕ → ℕ → Area → Bool
area_in_range n i a = nat_le (cond (i == 1) 2 1) a.level && (nat_le a.level 4 && (nat_le a.child n && nat_le a.next n))

abbrev pub record_in_range : List ℕ → ℕ → ℕ → Bool
record_in_range bytes n i = byte_of bytes i 3 == 0 && area_in_range n i (area_of bytes i)

-- A lowest area has 1 to 1,024 slots of its own, another none.
abbrev pub slots_right : Area → Bool
slots_right a = cond (a.level == 1) (nat_le 1 a.slots && nat_le a.slots 1024) (a.slots == 0)

-- The first of the k numbers from i on that fails a test.
abbrev pub first_wrong : (ℕ → Bool) → ℕ → ℕ → Option ℕ
first_wrong ok i zero = None
first_wrong ok i (suc k) = cond (ok i) (first_wrong ok (i + 1) k) (Some i)

-- The areas of the first n records.
abbrev pub areas_of : List ℕ → ℕ → List Area
areas_of bytes n = map (area_of bytes) (range_with_len 1 n)

abbrev pub records_read : List ℕ → ℕ → Option ℕ → Result (List Area) Refusal
records_read bytes n None = Ok (areas_of bytes n)
records_read bytes n (Some i) = Err (Record i)

-- The records' areas, or the first record that is out of range.
abbrev pub read_records : List ℕ → ℕ → Result (List Area) Refusal
read_records bytes n = records_read bytes n (first_wrong (record_in_range bytes n) 1 n)

-- The areas of a row of 1 to 64 whole records, or why there are none.
abbrev pub areas_read : List ℕ → Result (List Area) Refusal
areas_read bytes = cond (good_length (length bytes)) (read_records bytes (length bytes / 6)) (Err Length)

abbrev pub slots_checked : List Area → Option ℕ → Result (List Area) Refusal
slots_checked areas (Some i) = Err (Slots i)
slots_checked areas None = cond (nat_le (slots_in areas (walk_of areas)) 1024) (Ok areas) (Err TooManySlots)

-- The slots of each area are right, and together they are at most 1,024.
abbrev pub check_slots : List Area → Result (List Area) Refusal
check_slots areas = slots_checked areas (first_wrong (λ i. slots_right (area_at areas i)) 1 (length areas))

abbrev pub check_tree : List Area → Result (List Area) Refusal
check_tree areas = cond (is_tree areas) (check_slots areas) (Err NotATree)

abbrev pub and_then : Result (List Area) Refusal → (List Area → Result (List Area) Refusal) → Result (List Area) Refusal
and_then (Ok areas) f = f areas
and_then (Err e) f = Err e

-- The whole reading, refusals in their order.
unfoldable pub read_plan : List ℕ → Result (List Area) Refusal
read_plan bytes = cond (good_length (length bytes)) (and_then (read_records bytes (length bytes / 6)) check_tree) (Err Length)
