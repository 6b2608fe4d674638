-- What the rules need to know of a plan.
use Rattle.std.specs.Prelude.{ℕ, ◌+◌, ◌-◌, Bool, ◌&&◌, List, length, ◌==◌, nat_le, slice_index, slice_index_or}
use Rattle.chain.specs.Chain.{place, numbered}
use Rattle.plan.specs.declared.area.Area.{Area}
use Rattle.plan.specs.declared.area.Place.{Place}
use Rattle.plan.specs.Plans.{places_of, homes_of, climb, meet_from}
use Rattle.plan.specs.Tree.{nowhere}
use Rattle.plan.specs.Walk.{area_at}

-- A plan with its tables: the areas' records, where the walk meets each area, the lowest area of each slot.
pub record Layout : Type 0 where
  pub areas : List Area
  pub places : List Place
  pub homes : List ℕ

abbrev pub layout_of : List Area → Layout
layout_of areas = record { areas = areas; places = places_of areas; homes = homes_of areas }

-- The top level, H.
abbrev pub top : Layout → ℕ
top plan = (area_at plan.areas 1).level

-- How many slots there are.
abbrev pub slot_count : Layout → ℕ
slot_count plan = length plan.homes

-- Area a is one of the lowest.
abbrev pub lowest : Layout → ℕ → Bool
lowest plan a = numbered (length plan.areas) a && (area_at plan.areas a).level == 1

-- The first and the last slot of an area.
abbrev pub first_in : Layout → ℕ → ℕ
first_in plan a = (slice_index_or plan.places (place a) nowhere).before + 1

abbrev pub last_of : Layout → ℕ → ℕ
last_of plan a = (slice_index_or plan.places (place a) nowhere).after

-- How many slots an area has.
abbrev pub area_size : Layout → ℕ → ℕ
area_size plan a = last_of plan a + 1 - first_in plan a

-- Slot b lies in area a.
abbrev pub within : Layout → ℕ → ℕ → Bool
within plan a b = nat_le (first_in plan a) b && nat_le b (last_of plan a)

-- The lowest area of a slot.
abbrev pub home : Layout → ℕ → ℕ
home plan b = slice_index plan.homes (place b)

-- The area over lowest area a at a level.
abbrev pub above : Layout → ℕ → ℕ → ℕ
above plan a l = climb (λ x. (slice_index_or plan.places (place x) nowhere).parent) (l - 1) a

-- The level of a pointer from block p to block b: the lowest at which one area contains both.
abbrev pub level_of : Layout → ℕ → ℕ → ℕ
level_of plan p b = meet_from (λ x. (slice_index_or plan.places (place x) nowhere).parent) (top plan - 1) 1 (home plan p) (home plan b)
