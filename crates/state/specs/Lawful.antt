-- What the rules may count on of a plan: slots and their lowest areas, the areas above, the level of a pointer.
use Rattle.std.specs.Prelude.{◌≡◌, ℕ, ◌≤◌, true, List, length}
use Rattle.chain.specs.Chain.{numbered}
use Rattle.plan.specs.declared.area.Area.{Area}
use Rattle.plan.specs.Plans.{is_plan}
use Rattle.plan.specs.Walk.{area_at}
use Rattle.state.specs.Layout.{Layout, layout_of, top, slot_count, lowest, first_in, last_of, within, home, above, level_of}

-- Lowest areas a and b lie in one area of level l.
abbrev pub Together : Layout → ℕ → ℕ → ℕ → Type 0
Together plan l a b = above plan a l ≡ above plan b l

pub record Lawful (plan : Layout) : Type 0 where
  -- two to four levels
  pub high : (2 ≤ top plan) × (top plan ≤ 4)
  -- a lowest area has a first slot and a last one, all of them slots of the plan
  pub slots_inside : (a : ℕ) → lowest plan a ≡ true → (1 ≤ first_in plan a) × (first_in plan a ≤ last_of plan a) × (last_of plan a ≤ slot_count plan)
  -- a slot lies in its home, and in no other lowest area
  pub at_home : (b : ℕ) → numbered (slot_count plan) b ≡ true → (lowest plan (home plan b) ≡ true) × (within plan (home plan b) b ≡ true)
  pub only_home : (a b : ℕ) → lowest plan a ≡ true → within plan a b ≡ true → home plan b ≡ a
  -- the area above at a level, and which slots it has
  pub above_area : (a l : ℕ) → lowest plan a ≡ true → 1 ≤ l → l ≤ top plan → (numbered (length plan.areas) (above plan a l) ≡ true) × ((area_at plan.areas (above plan a l)).level ≡ l)
  pub above_within : (x b : ℕ) → numbered (length plan.areas) x ≡ true → numbered (slot_count plan) b ≡ true → (within plan x b ≡ true → above plan (home plan b) (area_at plan.areas x).level ≡ x) × (above plan (home plan b) (area_at plan.areas x).level ≡ x → within plan x b ≡ true)
  pub above_one : (a : ℕ) → above plan a 1 ≡ a
  -- nesting
  pub nested : (a b l m : ℕ) → 1 ≤ l → l ≤ m → Together plan l a b → Together plan m a b
  pub top_together : (a b : ℕ) → lowest plan a ≡ true → lowest plan b ≡ true → Together plan (top plan) a b
  -- the level of a pointer is the lowest at which both blocks are together
  pub level_within : (p b : ℕ) → numbered (slot_count plan) p ≡ true → numbered (slot_count plan) b ≡ true → (1 ≤ level_of plan p b) × (level_of plan p b ≤ top plan) × Together plan (level_of plan p b) (home plan p) (home plan b)
  pub level_lowest : (p b l : ℕ) → numbered (slot_count plan) p ≡ true → numbered (slot_count plan) b ≡ true → 1 ≤ l → Together plan l (home plan p) (home plan b) → level_of plan p b ≤ l

-- The layout of every accepted plan is lawful.
abbrev pub LayoutsAreLawful : Type 0
LayoutsAreLawful = (areas : List Area) → is_plan areas ≡ true → Lawful (layout_of areas)
