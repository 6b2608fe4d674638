-- The rows of a plan in which no slot is used yet.
use Rattle.std.specs.Prelude.{ℕ, List, map, length}
use Rattle.std.specs.List.{range_with_len}
use Rattle.listing.specs.declared.Row.{Row}
use Rattle.plan.specs.declared.area.Area.{Area}
use Rattle.plan.specs.Plans.{slots_held}
use Rattle.plan.specs.Walk.{area_at}

abbrev pub fresh_row : List Area → ℕ → Row
fresh_row areas i = record { area = i; level = (area_at areas i).level; used = 0; free = slots_held areas i }

abbrev pub fresh_rows : List Area → List Row
fresh_rows areas = map (fresh_row areas) (range_with_len 1 (length areas))
