-- The walk of the area tree: it takes an area, then all that stands below its child, then its next.
use Rattle.std.specs.Prelude.{◌≡◌, ℕ, zero, suc, ◌+◌, ◌*◌, ◌<◌, ◌≤◌, cond, List, [], ◌∷◌, ◌++◌, length, sum_by, slice_index_or}
use Rattle.chain.specs.Chain.{place, numbered}
use Rattle.plan.specs.declared.area.Area.{Area}
use Rattle.plan.specs.declared.area.Place.{Place}

-- The area with number i.
abbrev pub area_at : List Area → ℕ → Area
area_at areas i = slice_index_or areas (place i) (record { level = 0; child = 0; next = 0; slots = 0 })

-- How many slots the areas at these places have.
abbrev pub slots_in : List Area → List Place → ℕ
slots_in areas ps = sum_by (λ p. (area_at areas p.area).slots) ps

-- The place of area i, with what stands below it.
abbrev pub entered : List Area → ℕ → ℕ → ℕ → ℕ → List Place → List Place
entered areas level parent i before below =
    record { area = i; level = level; parent = parent; before = before; after = before + (area_at areas i).slots + slots_in areas below } ∷ below

-- The chain of areas from number i on, at most n of them; `below i c b` is what stands below area i from its child c on, after b slots.
unfoldable pub along : List Area → (ℕ → ℕ → ℕ → List Place) → ℕ → ℕ → ℕ → ℕ → ℕ → List Place
along areas below level parent zero i before = []
along areas below level parent (suc n) i before =
    let a = area_at areas i in
    let inner = below i a.child (before + a.slots) in
    cond (numbered (length areas) i)
    (entered areas level parent i before inner ++ along areas below level parent n a.next (before + a.slots + slots_in areas inner))
    []

-- The chain of areas of a level from number i on, with all that stands below them, after `before` slots.
unfoldable pub walk_from : List Area → ℕ → ℕ → ℕ → ℕ → List Place
walk_from areas zero parent i before = []
walk_from areas (suc l) parent i before = along areas (walk_from areas l) (suc l) parent (length areas + 1) i before

-- The walk of the whole plan, from the top area, record 1.
abbrev pub walk_of : List Area → List Place
walk_of areas = walk_from areas (area_at areas 1).level 0 1 0

-- How far a walk has come that is to add the places `goal` to `seen`: it has `seen'` and has come to `after` slots, and `rest` is
-- still to come. Where the goal passes the number of areas it may add other places, as long as they pass it too.
pub record Walked (areas : List Area) (goal : List Place) (before : ℕ) (seen : List Place) (rest : List Place) (after : ℕ) (seen' : List Place) : Type 0 where
  pub whole : length seen + length goal ≤ length areas → (seen' ++ rest ≡ seen ++ goal) × (after + slots_in areas rest ≡ before + slots_in areas goal)
  pub many : length areas < length seen + length goal → length areas < length seen' + length rest
  pub room : length seen' ≤ length areas + 1
  pub more : length seen ≤ length seen'
  pub small : after ≤ 65535 * length seen'
