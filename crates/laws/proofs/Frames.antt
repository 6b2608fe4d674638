-- What each change of a memory does to a block, a collector and a phase, and what it leaves.
use Rattle.std.proofs.Common.{◌≡◌, ℕ, zero, suc, ◌+◌, ◌<◌, ◌≤◌, Bool, true, cond, eqb, ◌⊎◌, List, [], ◌∷◌, map, length, get_or, set, replicate, None, Option, sym, refl, ap, subst, inl, inr, arith}
use Rattle.std.proofs.lemmas.List.{get_or-set_same, get_or-set_other}
use Rattle.chain.specs.Chain.{place, numbered}
use Rattle.chain.proofs.Chains.{place_within, place_apart}
use Rattle.state.specs.declared.block.Block.{Block}
use Rattle.state.specs.declared.slot.Slot.{Slot}
use Rattle.state.specs.declared.collector.AtLevel.{AtLevel}
use Rattle.state.specs.declared.collector.Collector.{Collector}
use Rattle.state.specs.declared.collector.Status.{Status}
use Rattle.state.specs.declared.collector.Phase.{Phase}
use Rattle.state.specs.Tables.{map_from}
use Rattle.state.specs.Blocks.{level_place}
use Rattle.state.specs.Layout.{Layout, within}
use Rattle.state.specs.Memory.{Memory, free_slot, unstarted_level, new_collector, block_in, block_at, collector_at, phase_at, status_at, sends_at, with_collector, with_phase, changed_block, each_block, on_block, on_area}
use Rattle.state.specs.Turns.{on_status, with_sends, reset_at}
use Rattle.state.specs.declared.collector.Phase.TheVariants.{Marking}

-- Tables

pub length_map_from : {X Y : Type 0} (f : ℕ → X → Y) (i : ℕ) (xs : List X) → length (map_from f i xs) ≡ length xs
length_map_from f i [] = refl
length_map_from f i (x ∷ xs) = ap suc (length_map_from f (i + 1) xs)

-- a table of one value, which is also the value past its end
pub get_or_filled : {X : Type 0} (n i : ℕ) (d : X) → get_or (replicate n d) i d ≡ d
get_or_filled zero i d = refl
get_or_filled (suc n) zero d = refl
get_or_filled (suc n) (suc i) d = get_or_filled n i d

-- an element of a table in which one was written
pub set_either : {X : Type 0} (xs : List X) (p i : ℕ) (v d : X) → (get_or (set xs p v) i d ≡ v) ⊎ (get_or (set xs p v) i d ≡ get_or xs i d)
set_either [] p i v d = inr refl
set_either (x ∷ xs) zero zero v d = inl refl
set_either (x ∷ xs) zero (suc i) v d = inr refl
set_either (x ∷ xs) (suc p) zero v d = inr refl
set_either (x ∷ xs) (suc p) (suc i) v d = set_either xs p i v d

-- an element of a mapped table
pub get_or_map_from : {X Y : Type 0} (f : ℕ → X → Y) (i : ℕ) (xs : List X) (n : ℕ) (d : X) (e : Y) → n < length xs → get_or (map_from f i xs) n e ≡ f (i + n) (get_or xs n d)
get_or_map_from f i [] n d e h = absurd (omega (arith, h))
get_or_map_from f i (x ∷ xs) zero d e h = let z : i + 0 ≡ i = omega arith in rw z
get_or_map_from f i (x ∷ xs) (suc n) d e h =
    let z : (i + 1) + n ≡ i + suc n = omega arith in
    subst (λ k. get_or (map_from f (i + 1) xs) n e ≡ f k (get_or xs n d)) z (get_or_map_from f (i + 1) xs n d e (omega (arith, h)))

-- a part of each element that the map keeps
pub part_map_from : {X Y : Type 0} (part : X → Y) (f : ℕ → X → X) → ((n : ℕ) (x : X) → part (f n x) ≡ part x) → (i : ℕ) (xs : List X) (n : ℕ) (d : X) → part (get_or (map_from f i xs) n d) ≡ part (get_or xs n d)
part_map_from part f h i [] n d = refl
part_map_from part f h i (x ∷ xs) zero d = h i x
part_map_from part f h i (x ∷ xs) (suc n) d = part_map_from part f h (i + 1) xs n d

-- Blocks

block_mapped : (f : ℕ → Block → Block) (i : ℕ) (xs : List Slot) (n : ℕ) (d : Slot) → d.block ≡ None →
    (get_or (map_from (λ b s. record { block = changed_block (f b) s.block; next = s.next }) i xs) n d).block ≡ changed_block (f (i + n)) (get_or xs n d).block
block_mapped f i [] n d z = rw z
block_mapped f i (x ∷ xs) zero d z = let e : i + 0 ≡ i = omega arith in rw e
block_mapped f i (x ∷ xs) (suc n) d z =
    let e : (i + 1) + n ≡ i + suc n = omega arith in
    subst (λ k. (get_or (map_from (λ b s. record { block = changed_block (f b) s.block; next = s.next }) (i + 1) xs) n d).block ≡ changed_block (f k) (get_or xs n d).block) e (block_mapped f (i + 1) xs n d z)

-- a change of every block, at any number: slot 0 reads as slot 1
pub block_each_any : (f : ℕ → Block → Block) (xs : List Slot) (b : ℕ) → block_in (each_block f xs) b ≡ changed_block (f (1 + place b)) (block_in xs b)
block_each_any f xs b = block_mapped f 1 xs (place b) (free_slot 0) refl

pub block_each : (f : ℕ → Block → Block) (xs : List Slot) (b : ℕ) → 1 ≤ b → block_in (each_block f xs) b ≡ changed_block (f b) (block_in xs b)
block_each f xs b h =
    let e : 1 + place b ≡ b = omega (arith, h) in
    subst (λ n. block_in (each_block f xs) b ≡ changed_block (f n) (block_in xs b)) e (block_each_any f xs b)

pub block_on : (c : ℕ) (f : Block → Block) (s : Memory) (b : ℕ) → 1 ≤ b → block_at (on_block c f s) b ≡ changed_block (λ k. cond (eqb b c) (f k) k) (block_at s b)
block_on c f s b h = block_each (λ x k. cond (eqb x c) (f k) k) s.slots b h

pub block_area : (plan : Layout) (a : ℕ) (f : ℕ → Block → Block) (s : Memory) (b : ℕ) → 1 ≤ b → block_at (on_area plan a f s) b ≡ changed_block (λ k. cond (within plan a b) (f b k) k) (block_at s b)
block_area plan a f s b h = block_each (λ x k. cond (within plan a x) (f x k) k) s.slots b h

-- a change of blocks leaves the links and the number of slots
pub links_each : (f : ℕ → Block → Block) (i : ℕ) (xs : List Slot) → map (λ (x : Slot). x.next) (map_from (λ b s. record { block = changed_block (f b) s.block; next = s.next }) i xs) ≡ map (λ (x : Slot). x.next) xs
links_each f i [] = refl
links_each f i (x ∷ xs) = ap (λ r. x.next ∷ r) (links_each f (i + 1) xs)

-- a slot that is written
pub slot_set : (xs : List Slot) (c : ℕ) (x : Slot) → numbered (length xs) c ≡ true → block_in (set xs (place c) x) c ≡ x.block
slot_set xs c x t = ap (λ (y : Slot). y.block) (get_or-set_same xs (place c) x (free_slot 0) (place_within (length xs) c t))

pub slot_set_other : (xs : List Slot) (c b : ℕ) (x : Slot) → 1 ≤ c → 1 ≤ b → (b ≡ c → ⊥) → block_in (set xs (place c) x) b ≡ block_in xs b
slot_set_other xs c b x hc hb ne = ap (λ (y : Slot). y.block) (get_or-set_other xs (place c) (place b) x (free_slot 0) (place_apart b c hb hc ne))

-- whatever is put into a slot, what it has and what the slots had, each slot has
pub slot_any : (P : Option Block → Type 0) (xs : List Slot) (c : ℕ) (x : Slot) → P x.block → (b : ℕ) → P (block_in xs b) → P (block_in (set xs (place c) x) b)
slot_any P xs c x new b old =
    elim (set_either xs (place c) (place b) x (free_slot 0)) [
      | inl e ↦ subst (λ (y : Slot). P y.block) (sym e) new
      | inr e ↦ subst (λ (y : Slot). P y.block) (sym e) old
    ]

-- Collectors

pub collector_same : (s t : Memory) → t.collectors ≡ s.collectors → (e : ℕ) → collector_at t e ≡ collector_at s e
collector_same s t same e = ap (λ cs. get_or cs (place e) (new_collector 0)) same

pub collector_at_lem : (s : Memory) (a : ℕ) (c : Collector) → numbered (length s.collectors) a ≡ true → collector_at (with_collector a c s) a ≡ c
collector_at_lem s a c t = get_or-set_same s.collectors (place a) c _ (place_within (length s.collectors) a t)

pub collector_other : (s : Memory) (a e : ℕ) (c : Collector) → 1 ≤ a → 1 ≤ e → (e ≡ a → ⊥) → collector_at (with_collector a c s) e ≡ collector_at s e
collector_other s a e c ha he ne = get_or-set_other s.collectors (place a) (place e) c _ (place_apart e a he ha ne)

-- whatever collector is put, one that has a property keeps it at every number
pub collector_any : (P : Collector → Type 0) (s : Memory) (a : ℕ) (c : Collector) → P c → ((e : ℕ) → P (collector_at s e)) → (e : ℕ) → P (collector_at (with_collector a c s) e)
collector_any P s a c pc ps e =
    elim (set_either s.collectors (place a) (place e) c (new_collector 0)) [
      | inl new ↦ subst P (sym new) pc
      | inr old ↦ subst P (sym old) (ps e)
    ]

-- a change of each level's record, read at a level from 2 to 4
level_changed : (f : ℕ → AtLevel → AtLevel) (xs : List AtLevel) (l : ℕ) → length xs ≡ 3 → 2 ≤ l → l ≤ 4 → get_or (map_from f 2 xs) (level_place l) unstarted_level ≡ f l (get_or xs (level_place l) unstarted_level)
level_changed f xs l three lo hi =
    let e : 2 + level_place l ≡ l = omega (arith, lo) in
    subst (λ k. get_or (map_from f 2 xs) (level_place l) unstarted_level ≡ f k (get_or xs (level_place l) unstarted_level)) e
    (get_or_map_from f 2 xs (level_place l) unstarted_level unstarted_level (omega (arith, three, hi, lo)))

-- the status and the sending of a level
pub status_on : (f : ℕ → Status → Status) (c : Collector) (l : ℕ) → length c.levels ≡ 3 → 2 ≤ l → l ≤ 4 → status_at (on_status f c) l ≡ f l (status_at c l)
status_on f c l three lo hi = ap (λ (x : AtLevel). x.status) (level_changed _ c.levels l three lo hi)

pub sends_with : (f : ℕ → Bool) (c : Collector) (l : ℕ) → length c.levels ≡ 3 → 2 ≤ l → l ≤ 4 → sends_at (with_sends f c) l ≡ f l
sends_with f c l three lo hi = ap (λ (x : AtLevel). x.sends) (level_changed _ c.levels l three lo hi)

-- a change of the one keeps the other
pub sends_on : (f : ℕ → Status → Status) (c : Collector) (l : ℕ) → sends_at (on_status f c) l ≡ sends_at c l
sends_on f c l = part_map_from (λ (x : AtLevel). x.sends) _ (λ n x. refl) 2 c.levels (level_place l) unstarted_level

pub status_with : (f : ℕ → Bool) (c : Collector) (l : ℕ) → status_at (with_sends f c) l ≡ status_at c l
status_with f c l = part_map_from (λ (x : AtLevel). x.status) _ (λ n x. refl) 2 c.levels (level_place l) unstarted_level

-- what a reset leaves at its level and at others
pub reset_same : (l : ℕ) (c : Collector) → length c.levels ≡ 3 → 2 ≤ l → l ≤ 4 → get_or (reset_at l c).levels (level_place l) unstarted_level ≡ unstarted_level
reset_same l c three lo hi = get_or-set_same c.levels (level_place l) unstarted_level unstarted_level (omega (arith, three, hi, lo))

pub reset_other : (l k : ℕ) (c : Collector) → 2 ≤ l → 2 ≤ k → (k ≡ l → ⊥) → get_or (reset_at l c).levels (level_place k) unstarted_level ≡ get_or c.levels (level_place k) unstarted_level
reset_other l k c hl hk ne = get_or-set_other c.levels (level_place l) (level_place k) unstarted_level unstarted_level (λ e. ne (omega (arith, e, hl, hk)))

-- Phases

pub phase_same : (s t : Memory) → t.phases ≡ s.phases → (x : ℕ) → phase_at t x ≡ phase_at s x
phase_same s t same x = ap (λ ps. get_or ps (place x) Marking) same

pub phase_at_lem : (s : Memory) (x : ℕ) (p : Phase) → numbered (length s.phases) x ≡ true → phase_at (with_phase x p s) x ≡ p
phase_at_lem s x p t = get_or-set_same s.phases (place x) p _ (place_within (length s.phases) x t)

pub phase_other : (s : Memory) (x y : ℕ) (p : Phase) → 1 ≤ x → 1 ≤ y → (y ≡ x → ⊥) → phase_at (with_phase x p s) y ≡ phase_at s y
phase_other s x y p hx hy ne = get_or-set_other s.phases (place x) (place y) p _ (place_apart y x hy hx ne)
