-- Which slots have a block after a change.
use Rattle.std.proofs.Common.{◌≡◌, ℕ, zero, suc, ◌+◌, ◌-◌, Bool, true, cond, not, ◌&&◌, ◌||◌, eqb, ltb, List, set, is_some, Some, None, Option, refl, ap, ◌∙◌}
use Rattle.std.proofs.lemmas.List.{get_or-set_other}
use Rattle.std.proofs.lemmas.Bool.{cond_both}
use Rattle.chain.specs.Chain.{place}
use Rattle.state.specs.declared.block.Block.{Block}
use Rattle.state.specs.declared.slot.Slot.{Slot}
use Rattle.state.specs.declared.block.Colour.TheVariants.{Black}
use Rattle.state.specs.declared.collector.Phase.{Phase}
use Rattle.state.specs.declared.collector.Phase.TheVariants.{Marking, Recovering}
use Rattle.state.specs.Layout.{Layout, top, within, above}
use Rattle.state.specs.Blocks.{points_to, coloured, shade, with_marks, with_recovered, entered_at}
use Rattle.state.specs.Memory.{Memory, World, block_in, block_at, phase_at, in_register, changed_block, each_block, on_block, on_area}
use Rattle.state.specs.Turns.{on_memory, settable, drained, recovers_at, entries_recovered, roots_shaded, pass_begun, round_started, scanned, all_ended, some_waits, phase_test, phase_tests, round_over, round_ended}
use Rattle.laws.proofs.Frames.{block_each_any, slot_any}

-- slot b has a block
abbrev pub used : Memory → ℕ → Bool
used s b = is_some (block_at s b)

used_changed : (f : Block → Block) (o : Option Block) → is_some (changed_block f o) ≡ is_some o
used_changed f None = refl
used_changed f (Some k) = refl

-- a change of blocks leaves which slots have one
pub used_each : (f : ℕ → Block → Block) (xs : List Slot) (b : ℕ) → is_some (block_in (each_block f xs) b) ≡ is_some (block_in xs b)
used_each f xs b = ap is_some (block_each_any f xs b) ∙ used_changed (f (1 + place b)) (block_in xs b)

pub used_on : (c : ℕ) (f : Block → Block) (s : Memory) (b : ℕ) → used (on_block c f s) b ≡ used s b
used_on c f s b = used_each (λ x k. cond (eqb x c) (f k) k) s.slots b

pub used_area : (plan : Layout) (a : ℕ) (f : ℕ → Block → Block) (s : Memory) (b : ℕ) → used (on_area plan a f s) b ≡ used s b
used_area plan a f s b = used_each (λ x k. cond (within plan a x) (f x k) k) s.slots b

-- a slot that is written: the others stay
pub used_set : (xs : List Slot) (c b : ℕ) (x : Slot) → (place b ≡ place c → ⊥) → is_some (block_in (set xs (place c) x) b) ≡ is_some (block_in xs b)
used_set xs c b x ne = ap (λ y. is_some y.block) (get_or-set_other xs (place c) (place b) x _ ne)

-- a slot that gets a block: none is lost
pub used_filled : (xs : List Slot) (c b : ℕ) (k : Block) (n : ℕ) → is_some (block_in xs b) ≡ true → is_some (block_in (set xs (place c) (record { block = Some k; next = n })) b) ≡ true
used_filled xs c b k n = slot_any (λ o. is_some o ≡ true) xs c (record { block = Some k; next = n }) refl b

-- a round that starts, a pass that begins, the tests of the phases
pub used_started : (plan : Layout) (a : ℕ) (w : World) (b : ℕ) → used (round_started plan a w).memory b ≡ used w.memory b
used_started plan a w b =
    let d = (drained plan a w).memory in
    let e = entries_recovered plan a d in
    let r = roots_shaded plan a e in
    used_each (λ x k. cond (within plan a x) (cond (entered_at (top plan) k) (shade k) k) k) r.slots b
    ∙ used_each (λ x k. cond (within plan a x) (cond (in_register e x || ltb 0 k.holds) (shade k) k) k) e.slots b
    ∙ used_each (λ x k. cond (within plan a x) (with_recovered (recovers_at plan d a) k) k) d.slots b
    ∙ used_each (λ x k. cond (within plan a x) (with_marks (λ m l. settable plan a w.waits x m l) k) k) w.memory.slots b

pub used_begun : (plan : Layout) (a L : ℕ) (s : Memory) (b : ℕ) → used (pass_begun plan a L s) b ≡ used s b
used_begun plan a L s b = used_each (λ x k. cond (within plan a x) (cond (entered_at L k) (shade k) k) k) s.slots b

pub used_scanned : (plan : Layout) (a L c : ℕ) (k : Block) (w : World) (b : ℕ) → used (scanned plan a L c k w).memory b ≡ used w.memory b
used_scanned plan a L c k w b =
    let s = on_area plan a (λ y x. cond (points_to k y) (shade x) x) w.memory in
    used_on c (coloured Black) s b ∙ used_area plan a (λ y x. cond (points_to k y) (shade x) x) w.memory b

used_tested : (plan : Layout) (x l : ℕ) (p : Phase) (w : World) (b : ℕ) → used (phase_test plan x l p w).memory b ≡ used w.memory b
used_tested plan x l Marking w b = cond_both (all_ended plan x l w.memory && not (some_waits plan x l w)) _ _ (λ (v : World). used v.memory b ≡ used w.memory b) (λ _. refl) (λ _. refl)
used_tested plan x l Recovering w b = cond_both (all_ended plan x l w.memory) _ _ (λ (v : World). used v.memory b ≡ used w.memory b) (λ _. refl) (λ _. refl)

used_tests : (plan : Layout) (a n l : ℕ) (w : World) (b : ℕ) → used (phase_tests plan a n l w).memory b ≡ used w.memory b
used_tests plan a zero l w b = refl
used_tests plan a (suc n) l w b =
    used_tests plan a n (l + 1) (phase_test plan (above plan a l) l (phase_at w.memory (above plan a l)) w) b ∙ used_tested plan (above plan a l) l (phase_at w.memory (above plan a l)) w b

pub used_ended : (plan : Layout) (a : ℕ) (w : World) (b : ℕ) → used (round_ended plan a w).memory b ≡ used w.memory b
used_ended plan a w b = used_tests plan a (top plan - 1) 2 (on_memory (round_over a) w) b
