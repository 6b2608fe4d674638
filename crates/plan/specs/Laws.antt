-- What the tree says of slots and of the areas over an area.
use Rattle.std.specs.Prelude.{◌≡◌, ℕ, ◌+◌, ◌<◌, ◌≤◌, true, List, [], ◌∷◌, map, length, ◌≢◌}
use Rattle.chain.specs.Chain.{numbered, Chain, among}
use Rattle.plan.specs.declared.area.Area.{Area}
use Rattle.plan.specs.Walk.{area_at}
use Rattle.plan.specs.Plans.{top_level, slot_count, is_lowest, slots_of, home_of, parent_of, area_over, common_level}

-- Area x contains a slot.
abbrev pub Contains : List Area → ℕ → ℕ → Type 0
Contains areas x slot = ((slots_of areas x).first ≤ slot) × (slot ≤ (slots_of areas x).last)

-- Areas i and what follows lie side by side: the first begins where `from` says, each begins where the one before it ends, and the last ends with `to`.
abbrev pub SideBySide : List Area → ℕ → List ℕ → ℕ → Type 0
SideBySide areas from [] to = from ≡ to + 1
SideBySide areas from (i ∷ is) to = ((slots_of areas i).first ≡ from) × SideBySide areas ((slots_of areas i).last + 1) is to

-- The areas under x: the chain that starts at its child. Each is one level lower, x is the area over it, and their slots, side by side, are the slots of x.
pub record Under (areas : List Area) (x : ℕ) : Type 0 where
  pub children : List ℕ
  pub chain : Chain (map (λ a. a.next) areas) (area_at areas x).child children
  pub levels : (i : ℕ) → among i children ≡ true → (area_at areas i).level + 1 ≡ (area_at areas x).level
  pub parents : (i : ℕ) → among i children ≡ true → parent_of areas i ≡ x
  pub slots : SideBySide areas (slots_of areas x).first children (slots_of areas x).last

-- The laws of an accepted plan.
pub record TreeLaws (areas : List Area) : Type 0 where
  -- a lowest area has as many slots as its record says
  pub own : (i : ℕ) → is_lowest areas i ≡ true → (slots_of areas i).last + 1 ≡ (slots_of areas i).first + (area_at areas i).slots
  -- an area that is not lowest has just the slots of the areas under it
  pub under : (x : ℕ) → numbered (length areas) x ≡ true → 1 < (area_at areas x).level → Under areas x
  -- the top area has all the slots
  pub whole : ((slots_of areas 1).first ≡ 1) × ((slots_of areas 1).last ≡ slot_count areas)
  -- a slot lies in its lowest area
  pub home : (slot : ℕ) → numbered (slot_count areas) slot ≡ true → (is_lowest areas (home_of areas slot) ≡ true) × Contains areas (home_of areas slot) slot
  -- the area over a lowest area at a level is an area of that level
  pub over : (a level : ℕ) → is_lowest areas a ≡ true → 1 ≤ level → level ≤ top_level areas → (numbered (length areas) (area_over areas level a) ≡ true) × ((area_at areas (area_over areas level a)).level ≡ level)
  -- an area contains just the slots of the lowest areas that it is over
  pub contains : (x slot : ℕ) → numbered (length areas) x ≡ true → numbered (slot_count areas) slot ≡ true → (Contains areas x slot → area_over areas (area_at areas x).level (home_of areas slot) ≡ x) × (area_over areas (area_at areas x).level (home_of areas slot) ≡ x → Contains areas x slot)
  -- what is together at one level is together at the next
  pub nested : (a b level : ℕ) → 1 ≤ level → area_over areas level a ≡ area_over areas level b → area_over areas (level + 1) a ≡ area_over areas (level + 1) b
  -- at the top everything is together
  pub top : (a : ℕ) → is_lowest areas a ≡ true → area_over areas (top_level areas) a ≡ 1
  -- the common level of two lowest areas is the lowest at which they are together
  pub common : (a b : ℕ) → is_lowest areas a ≡ true → is_lowest areas b ≡ true → (1 ≤ common_level areas a b) × (common_level areas a b ≤ top_level areas) × (area_over areas (common_level areas a b) a ≡ area_over areas (common_level areas a b) b)
  pub apart_below : (a b level : ℕ) → is_lowest areas a ≡ true → is_lowest areas b ≡ true → 1 ≤ level → level < common_level areas a b → area_over areas level a ≢ area_over areas level b
