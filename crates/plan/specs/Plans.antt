-- Accepted plans, and what is asked of them: levels, slots and the areas over an area.
use Rattle.std.specs.Prelude.{ℕ, zero, suc, ◌+◌, ◌-◌, Bool, cond, ◌&&◌, List, map, length, Ok, Err, Result, ◌==◌, nat_le, slice_index}
use Rattle.std.specs.List.{range_with_len}
use Rattle.chain.specs.Chain.{place, numbered}
use Rattle.plan.specs.declared.area.Area.{Area}
use Rattle.plan.specs.declared.area.Place.{Place}
use Rattle.plan.specs.declared.area.Slots.{Slots}
use Rattle.plan.specs.declared.refusal.Refusal.{Refusal}
use Rattle.plan.specs.Walk.{area_at, walk_of, slots_in}
use Rattle.plan.specs.Tree.{every, is_tree, place_in, homes_in}
use Rattle.plan.specs.Reading.{area_in_range, slots_right, check_tree}

-- The level of the top area.
abbrev pub top_level : List Area → ℕ
top_level areas = (area_at areas 1).level

-- How many slots a plan has.
abbrev pub slot_count : List Area → ℕ
slot_count areas = slots_in areas (walk_of areas)

-- The rules of a plan: 1 to 64 records, each in range, that are a tree of areas with the right slots, at most 1,024 in all.
unfoldable pub is_plan : List Area → Bool
is_plan areas =
    numbered 64 (length areas) &&
    (every (λ i. area_in_range (length areas) i (area_at areas i)) (range_with_len 1 (length areas)) &&
    (is_tree areas &&
    (every (λ i. slots_right (area_at areas i)) (range_with_len 1 (length areas)) &&
    nat_le (slot_count areas) 1024)))

-- Where the walk meets area i.
abbrev pub place_of : List Area → ℕ → Place
place_of areas i = place_in (walk_of areas) i

-- The places of all areas, by number.
abbrev pub places_of : List Area → List Place
places_of areas = map (place_of areas) (range_with_len 1 (length areas))

-- The lowest area of each slot, by number.
abbrev pub homes_of : List Area → List ℕ
homes_of areas = homes_in areas (walk_of areas)

abbrev pub tables_if : List Area → Result (List Area) Refusal → Result (List Place × List ℕ) Refusal
tables_if areas (Ok _) = Ok (places_of areas, homes_of areas)
tables_if areas (Err e) = Err e

-- Both tables of a plan, or why there is none.
abbrev pub tables_of : List Area → Result (List Place × List ℕ) Refusal
tables_of areas = tables_if areas (check_tree areas)

-- Whether area i is one of the lowest.
abbrev pub is_lowest : List Area → ℕ → Bool
is_lowest areas i = numbered (length areas) i && (area_at areas i).level == 1

-- The slots of area i, from the first to the last.
abbrev pub slots_of : List Area → ℕ → Slots
slots_of areas i = record { first = (place_of areas i).before + 1; last = (place_of areas i).after }

-- How many slots area i has.
abbrev pub slots_held : List Area → ℕ → ℕ
slots_held areas i = (slots_of areas i).last + 1 - (slots_of areas i).first

-- The lowest area of a slot.
abbrev pub home_of : List Area → ℕ → ℕ
home_of areas slot = slice_index (homes_of areas) (place slot)

-- The area under whose child area i stands; 0 for the top area.
abbrev pub parent_of : List Area → ℕ → ℕ
parent_of areas i = (place_of areas i).parent

-- The area k levels over area i, where `parent` leads one level up.
unfoldable pub climb : (ℕ → ℕ) → ℕ → ℕ → ℕ
climb parent zero i = i
climb parent (suc k) i = parent (climb parent k i)

-- The area over lowest area i at a level; itself at level 1.
abbrev pub area_over : List Area → ℕ → ℕ → ℕ
area_over areas level i = climb (parent_of areas) (level - 1) i

-- From level l on, at most k levels higher, the lowest level at which the areas over x and y are one.
unfoldable pub meet_from : (ℕ → ℕ) → ℕ → ℕ → ℕ → ℕ → ℕ
meet_from parent zero l x y = l
meet_from parent (suc k) l x y = cond (x == y) l (meet_from parent k (l + 1) (parent x) (parent y))

-- The lowest level at which one area contains lowest areas x and y.
abbrev pub common_level : List Area → ℕ → ℕ → ℕ
common_level areas x y = meet_from (parent_of areas) (top_level areas - 1) 1 x y
