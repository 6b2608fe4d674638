-- When the records are a tree of areas, and where in it each area stands.
use Rattle.std.specs.Prelude.{ℕ, Bool, true, false, cond, ◌&&◌, List, [], ◌∷◌, length, replicate, is_some, Some, None, Ok, Err, Option, Result, ◌==◌, nat_le}
use Rattle.std.specs.List.{range_with_len, flat_map}
use Rattle.std.specs.Option.{unwrap_or}
use Rattle.plan.specs.declared.refusal.Refusal.{Refusal}
use Rattle.plan.specs.declared.refusal.Refusal.TheVariants.{NotATree}
use Rattle.plan.specs.declared.area.Area.{Area}
use Rattle.plan.specs.declared.area.Node.{Node}
use Rattle.plan.specs.declared.area.Place.{Place}
use Rattle.plan.specs.Walk.{area_at, walk_of, slots_in}

-- Each element passes a test.
abbrev pub every : {X : Type 0} → (X → Bool) → List X → Bool
every ok [] = true
every ok (x ∷ xs) = ok x && every ok xs

-- The area has the level at which the walk meets it; just the lowest areas have no child.
abbrev pub node_fits : Node → Bool
node_fits n = (n.area.level == n.place.level) && cond (n.place.level == 1) (n.area.child == 0) (nat_le 1 n.area.child)

-- The same of the area that stands at a place.
abbrev pub fits : List Area → Place → Bool
fits areas p = node_fits (record { area = area_at areas p.area; place = p })

-- The walk does not meet area i.
abbrev pub unmet : List Place → ℕ → Bool
unmet ps i = every (λ p. cond (p.area == i) false true) ps

-- The one place where the walk meets area i; none where it does not meet it, or meets it twice.
abbrev pub only_place : List Place → ℕ → Option Place
only_place [] i = None
only_place (p ∷ ps) i = cond (p.area == i) (cond (unmet ps i) (Some p) None) (only_place ps i)

abbrev pub nowhere : Place
nowhere = record { area = 0; level = 0; parent = 0; before = 0; after = 0 }

-- The place where the walk meets area i.
abbrev pub place_in : List Place → ℕ → Place
place_in ps i = unwrap_or (only_place ps i) nowhere

-- The walk meets no more areas than there are, each at its own level, and the top area has no next.
abbrev pub well_placed : List Area → Bool
well_placed areas = (area_at areas 1).next == 0 && (nat_le (length (walk_of areas)) (length areas) && every (fits areas) (walk_of areas))

-- The records are a tree of areas: the walk meets each just once, at its own level.
unfoldable pub is_tree : List Area → Bool
is_tree areas = well_placed areas && every (λ i. is_some (only_place (walk_of areas) i)) (range_with_len 1 (length areas))

-- The walk of a plan with the number of its slots.
abbrev pub order_of : List Area → Result (List Place × ℕ) Refusal
order_of areas = cond (well_placed areas) (Ok (walk_of areas, slots_in areas (walk_of areas))) (Err NotATree)

-- The lowest area of each slot: slots are numbered in the order of the walk.
abbrev pub homes_in : List Area → List Place → List ℕ
homes_in areas ps = flat_map (λ p. replicate (area_at areas p.area).slots p.area) ps
