-- What a plan is a picture of: a tree of areas.
use Rattle.std.specs.Prelude.{◌≡◌, ℕ, suc, ◌*◌, ◌≤◌, true, List, [], ◌∷◌, ◌++◌, length, Ok, sum_by, count_by, nat_eq}
use Rattle.chain.specs.Chain.{numbered}
use Rattle.plan.specs.declared.area.Area.{Area}
use Rattle.plan.specs.Walk.{area_at}
use Rattle.plan.specs.Reading.{byte_of, area_of, read_plan}

mutual
  -- A tree of areas of a level: a lowest area with its slots, or an area over areas of the level below.
  pub data Tree : ℕ → Type 0 where
    lowest : (slots : ℕ) → Tree 1
    region : {l : ℕ} → Row l → Tree (suc l)

  -- One or more trees of one level, in their order.
  pub data Row : ℕ → Type 0 where
    last : {l : ℕ} → Tree l → Row l
    then : {l : ℕ} → Tree l → Row l → Row l

mutual
  -- Record i stands for the top area of a tree of level l; `numbers` are the records of all its areas, each before those below it.
  pub data Stands (areas : List Area) : (l : ℕ) → Tree l → ℕ → List ℕ → Type 0 where
    as_lowest : (i : ℕ) → numbered (length areas) i ≡ true → (area_at areas i).level ≡ 1 → (area_at areas i).child ≡ 0 → 1 ≤ (area_at areas i).slots → (area_at areas i).slots ≤ 1024 → Stands areas 1 (lowest (area_at areas i).slots) i (i ∷ [])
    as_region : {l : ℕ} {row : Row l} {numbers : List ℕ} (i : ℕ) → numbered (length areas) i ≡ true → (area_at areas i).level ≡ suc l → (area_at areas i).slots ≡ 0 → Chained areas l row (area_at areas i).child numbers → Stands areas (suc l) (region row) i (i ∷ numbers)

  -- The chain of records from i on, joined by next and ended by 0, stands for the trees of a row.
  pub data Chained (areas : List Area) : (l : ℕ) → Row l → ℕ → List ℕ → Type 0 where
    ends : {l : ℕ} {tree : Tree l} {numbers : List ℕ} (i : ℕ) → Stands areas l tree i numbers → (area_at areas i).next ≡ 0 → Chained areas l (last tree) i numbers
    goes_on : {l : ℕ} {tree : Tree l} {row : Row l} {numbers others : List ℕ} (i : ℕ) → Stands areas l tree i numbers → Chained areas l row (area_at areas i).next others → Chained areas l (then tree row) i (numbers ++ others)

-- The records are the picture of a tree: record 1 stands for the whole of it and has no next, each record stands for just one area,
-- the tree has two to four levels, and all the slots together are at most 1,024.
pub record Pictured (areas : List Area) : Type 0 where
  pub level : ℕ
  pub tree : Tree level
  pub numbers : List ℕ
  pub stands : Stands areas level tree 1 numbers
  pub alone : (area_at areas 1).next ≡ 0
  pub all : length numbers ≡ length areas
  pub once : (i : ℕ) → numbered (length areas) i ≡ true → count_by (λ j. nat_eq j i) numbers ≡ 1
  pub high : (2 ≤ level) × (level ≤ 4)
  pub slots : sum_by (λ i. (area_at areas i).slots) numbers ≤ 1024

-- The bytes are the records of these areas, 1 to 64 of them.
pub record Written (bytes : List ℕ) (areas : List Area) : Type 0 where
  pub few : numbered 64 (length areas) ≡ true
  pub long : length bytes ≡ 6 * length areas
  pub fields : (i : ℕ) → numbered (length areas) i ≡ true → area_of bytes i ≡ area_at areas i
  pub zeros : (i : ℕ) → numbered (length areas) i ≡ true → byte_of bytes i 3 ≡ 0

-- A plan is accepted exactly if there is a tree of areas of which its records are the picture.
abbrev pub AcceptedExactlyTrees : List ℕ → Type 0
AcceptedExactlyTrees bytes =
    ((areas : List Area) → read_plan bytes ≡ Ok areas → Written bytes areas × Pictured areas)
    × ((areas : List Area) → Written bytes areas → Pictured areas → read_plan bytes ≡ Ok areas)
