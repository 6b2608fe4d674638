-- What the clauses of safety are made of: local cover and what an area has covered go back to the world before, and what has been told and can be set stays so.
use Rattle.std.proofs.Common.{◌≡◌, ℕ, ◌<◌, ◌≤◌, true, false, is_some, sym, ◌∙◌, inl, inr}
use Rattle.std.proofs.lemmas.Bool.{or_cases, or_left, or_right}
use Rattle.state.specs.Layout.{Layout, top, within, slot_count, level_of}
use Rattle.state.specs.Memory.{Memory, World, block_at}
use Rattle.state.specs.Pasts.{Points}
use Rattle.laws.specs.Roots.{Root}
use Rattle.laws.specs.Views.{entry, mark, mark_or_waits, stage, status}
use Rattle.laws.specs.Invariant.{PassedBelow, lower_pass, sweeping, HasCovered, has_ended_round, pass_over, Told}
use Rattle.laws.specs.Inductive.{LocallyCovered, from_root, from_entry, from_mark, inward, Sound}
use Rattle.laws.proofs.Plans.{within_first, numbered_first}
use Rattle.laws.proofs.Graphs.{SameGraph, used_back, points_back, root_back}
use Rattle.chain.specs.Chain.{numbered}

-- local cover stays in the area
pub local_inside : (plan : Layout) (s : Memory) (a l b : ℕ) → LocallyCovered plan s a l b → within plan a b ≡ true
local_inside plan s a l b (from_root inside r) = inside
local_inside plan s a l b (from_entry m inside lm hm e) = inside
local_inside plan s a l b (from_mark m inside lm hm e) = inside
local_inside plan s a l b (inward q e inside u) = inside

pub local_first : (plan : Layout) (s : Memory) (a l b : ℕ) → LocallyCovered plan s a l b → 1 ≤ b
local_first plan s a l b h = within_first plan a b (local_inside plan s a l b h)

-- LocallyCovered cover goes back where roots, pointers, blocks, entries and marks do.
pub local_back : (plan : Layout) (s t : Memory) (a l : ℕ) →
    ((b : ℕ) → within plan a b ≡ true → Root t b → LocallyCovered plan s a l b) → ((p b : ℕ) → Points t p b → Points s p b) →
    ((b : ℕ) → within plan a b ≡ true → is_some (block_at t b) ≡ true → is_some (block_at s b) ≡ true) →
    ((b m : ℕ) → within plan a b ≡ true → l < m → m ≤ top plan → entry t b m ≡ true → entry s b m ≡ true) →
    ((b m : ℕ) → within plan a b ≡ true → 2 ≤ m → m ≤ l → mark t b m l ≡ true → mark s b m l ≡ true) →
    (b : ℕ) → LocallyCovered plan t a l b → LocallyCovered plan s a l b
local_back plan s t a l roots points used entries marks b (from_root inside r) = roots b inside r
local_back plan s t a l roots points used entries marks b (from_entry m inside lm hm e) = from_entry m inside lm hm (entries b m inside lm hm e)
local_back plan s t a l roots points used entries marks b (from_mark m inside lm hm e) = from_mark m inside lm hm (marks b m inside lm hm e)
local_back plan s t a l roots points used entries marks b (inward {b = p} q e inside u) =
    inward (local_back plan s t a l roots points used entries marks p q) (points p b e) inside (used b inside u)

-- so where registers, words and holds stay, entries and marks are left to show
pub local_graph : (plan : Layout) (s t : Memory) (a l : ℕ) → SameGraph s t →
    ((b m : ℕ) → within plan a b ≡ true → l < m → m ≤ top plan → entry t b m ≡ true → entry s b m ≡ true) →
    ((b m : ℕ) → within plan a b ≡ true → 2 ≤ m → m ≤ l → mark t b m l ≡ true → mark s b m l ≡ true) →
    (b : ℕ) → LocallyCovered plan t a l b → LocallyCovered plan s a l b
local_graph plan s t a l g =
    local_back plan s t a l (λ b inside r. from_root inside (root_back s t g b r)) (points_back s t g) (λ b _ u. sym (used_back s t g b) ∙ u)

-- What an area has covered is told by its stage and status.
pub passed_same : (s t : Memory) (a l : ℕ) → stage t a ≡ stage s a → PassedBelow t a l → PassedBelow s a l
passed_same s t a l same (lower_pass L e below) = lower_pass L (sym same ∙ e) below
passed_same s t a l same (sweeping k e) = sweeping k (sym same ∙ e)

pub covered_same : (s t : Memory) (a l : ℕ) → stage t a ≡ stage s a → status t a l ≡ status s a l → HasCovered t a l → HasCovered s a l
covered_same s t a l same_stage same-status (has_ended_round e) = has_ended_round (sym same-status ∙ e)
covered_same s t a l same_stage same-status (pass_over e below) = pass_over (sym same-status ∙ e) (passed_same s t a l same_stage below)

-- a mark that was set or waited is set or waits, where each does
pub mark_or_waits_lem : (w v : World) (b m l : ℕ) → (mark w.memory b m l ≡ true → mark v.memory b m l ≡ true) → (w.waits b m l ≡ true → v.waits b m l ≡ true) →
    mark_or_waits w b m l ≡ true → mark_or_waits v b m l ≡ true
mark_or_waits_lem w v b m l set waits h =
    elim (or_cases (mark w.memory b m l) (w.waits b m l) h) [
      | inl e ↦ or_left (mark v.memory b m l) (v.waits b m l) (set e)
      | inr e ↦ or_right (mark v.memory b m l) (v.waits b m l) (waits e)
    ]

-- What was told of is told of still, where pointers and entries go back and a mark that was set or waited is set or waits.
pub told_same : (plan : Layout) (w v : World) → Sound plan w.memory → ((p b : ℕ) → Points v.memory p b → Points w.memory p b) →
    ((b m : ℕ) → 1 ≤ b → entry v.memory b m ≡ entry w.memory b m) → (l : ℕ) → ((b m : ℕ) → 1 ≤ b → 2 ≤ m → m ≤ l → mark_or_waits w b m l ≡ true → mark_or_waits v b m l ≡ true) →
    (P Q : ℕ → Type 0) → ((b : ℕ) → Q b → P b) → Told plan w l P → Told plan v l Q
told_same plan w v sound points entries l marks P Q back told b c q e lo hi there =
    let was = points b c e in
    let first = numbered_first (slot_count plan) c (sound.pointed_slots b c was) in
    marks c (level_of plan b c) first lo hi (told b c (back b q) was lo hi (sym (entries c (level_of plan b c) first) ∙ there))

-- A mark that waits for this block can be set.
abbrev pub CanBeSet : Layout → Memory → ℕ → ℕ → ℕ → Type 0
CanBeSet plan s b m l = (numbered (slot_count plan) b ≡ true) × (2 ≤ m) × (m ≤ l) × (l ≤ top plan) × (entry s b m ≡ true) × (mark s b m l ≡ false)

pub settable_same : (plan : Layout) (s t : Memory) (b m l : ℕ) → (1 ≤ b → entry t b m ≡ entry s b m) → (1 ≤ b → mark t b m l ≡ mark s b m l) → CanBeSet plan s b m l → CanBeSet plan t b m l
settable_same plan s t b m l entries marks (n, lm, ml, hl, there, clear) =
    let first = numbered_first (slot_count plan) b n in
    (n, lm, ml, hl, entries first ∙ there, marks first ∙ clear)
