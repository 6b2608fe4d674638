-- Under a turn the reachable blocks stay just those, and no entry and no block appears.
use Rattle.std.proofs.Common.{◌≡◌, ℕ, ◌<◌, ◌≤◌, true, false, leb, ◌⊎◌, is_some, sym, ap, ◌∙◌, subst, inl, inr, arith}
use Rattle.std.proofs.lemmas.Bool.{and_parts, or_cases, true≢false}
use Rattle.chain.specs.Chain.{numbered}
use Rattle.state.specs.declared.collector.Stage.TheVariants.{Sweep}
use Rattle.state.specs.Layout.{Layout, top, slot_count, lowest, within}
use Rattle.state.specs.Lawful.{Lawful}
use Rattle.state.specs.Memory.{Memory, World, block_in, block_at}
use Rattle.laws.specs.Roots.{Reach, root, step}
use Rattle.laws.specs.Views.{white, entry, entry_in, mark, mark_in, mark_or_waits, stage}
use Rattle.laws.specs.Inductive.{Inductive}
use Rattle.laws.proofs.Plans.{numbered_first}
use Rattle.laws.proofs.Graphs.{Alike, SameGraph, graph_trans, graph_sym, graph_same, used_back, reach_back, alike_sym, points_alike, root_alike}
use Rattle.laws.proofs.Parts.{Drains, Sweeps}
use Rattle.laws.proofs.TurnKinds.{Turn, starts, scan, next_pass, to_sweep, sweep_slot, ends}
use Rattle.laws.proofs.Flags.{is_false}
use Rattle.laws.proofs.Swept.{dark_stays, swept_used, swept_entry, swept_mark, swept_reach}
use Rattle.laws.proofs.Reached.{reached_first}

-- Every entry of level l of a block of area x is that of a reachable block.
abbrev pub LiveEntries : Layout → World → ℕ → ℕ → Type 0
LiveEntries plan w x l = (b : ℕ) → numbered (slot_count plan) b ≡ true → within plan x b ≡ true → entry w.memory b l ≡ true → Reach w.memory b

-- Every mark of level l, set or waiting, of a block of area x is that of a reachable block.
abbrev pub LiveMarks : Layout → World → ℕ → ℕ → Type 0
LiveMarks plan w x l = (b m : ℕ) → numbered (slot_count plan) b ≡ true → within plan x b ≡ true → 2 ≤ m → m ≤ l → mark_or_waits w b m l ≡ true → Reach w.memory b

-- Both hold for all areas of all levels above l.
abbrev pub LiveAbove : Layout → World → ℕ → Type 0
LiveAbove plan w l =
    (b j : ℕ) → numbered (slot_count plan) b ≡ true → l < j → j ≤ top plan →
    (entry w.memory b j ≡ true → Reach w.memory b) × ((m : ℕ) → 2 ≤ m → m ≤ j → mark_or_waits w b m j ≡ true → Reach w.memory b)

-- There is no entry of a level above the top.
abbrev pub NoneAboveTop : Layout → Memory → Type 0
NoneAboveTop plan s = (b m : ℕ) → numbered (slot_count plan) b ≡ true → top plan < m → m ≤ 4 → entry s b m ≡ false

module _ (plan : Layout) (law : Lawful plan) (a : ℕ) (low : lowest plan a ≡ true) where
  -- every part of a turn but the sweep of a slot leaves registers, words and holds
  pub turn_graph : (w v : World) → Turn plan law a low w v →
      SameGraph w.memory v.memory ⊎ ((k : ℕ) × ((stage w.memory a ≡ Sweep k) × ((within plan a k ≡ true) × Sweeps plan law a low k w.memory v.memory)))
  turn_graph w v (starts at u d b o) = inl (graph_trans w.memory u.memory v.memory d.graph b.graph)
  turn_graph w v (scan L p k at n inside there is_grey_lem s) = inl s.graph
  turn_graph w v (next_pass L at more s o) = inl s.shades.graph
  turn_graph w v (to_sweep L at s is st se o) = inl (graph_same w.memory v.memory s.slots s.registers)
  turn_graph w v (sweep_slot k at inside s o) = inr (k, (at, (inside, s)))
  turn_graph w v (ends k at past s) = inl (graph_same w.memory v.memory s.slots s.registers)

  -- a reachable block is not white where a sweep stands
  swept_dark : (w : World) → Inductive plan w → (k : ℕ) → stage w.memory a ≡ Sweep k → within plan a k ≡ true → (b : ℕ) → Reach w.memory b → b ≡ k → white w.memory b ≡ false
  swept_dark w inv k at inside b r e =
      inv.safe.swept_reached a b k low at (subst (λ n. within plan a n ≡ true) (sym e) inside) (omega (arith, e)) r

  -- What was reachable is reachable still: the block that the sweep frees is white, so it was not.
  pub reach_forth : (w v : World) → Inductive plan w → Turn plan law a low w v → (b : ℕ) → Reach w.memory b → Reach v.memory b
  reach_forth w v inv turn b r =
      elim (turn_graph w v turn) [
        | inl g ↦ reach_back v.memory w.memory (graph_sym w.memory v.memory g) b r
        | inr h ↦ forth h.0 h.1.0 h.1.1.0 h.1.1.1 b r
      ]
    where
      still : (k : ℕ) → stage w.memory a ≡ Sweep k → within plan a k ≡ true → Sweeps plan law a low k w.memory v.memory → (b : ℕ) → 1 ≤ b → Reach w.memory b → Alike (block_at v.memory b) (block_at w.memory b)
      still k at inside sw b first r = alike_sym (block_at w.memory b) (block_at v.memory b) (dark_stays plan law a low w.memory v.memory k sw b first (swept_dark w inv k at inside b r)).alike

      forth : (k : ℕ) → stage w.memory a ≡ Sweep k → within plan a k ≡ true → Sweeps plan law a low k w.memory v.memory → (b : ℕ) → Reach w.memory b → Reach v.memory b
      forth k at inside sw b (root r) = root (root_alike v.memory w.memory (sym sw.registers) b (λ first _. still k at inside sw b first (root r)) r)
      forth k at inside sw b (step {p} r q) = step (forth k at inside sw p r) (points_alike v.memory w.memory p b (λ _. still k at inside sw p (reached_first plan w.memory inv.sound p r) r) q)

  -- A turn makes nothing reachable.
  pub reach_back_turn : (w v : World) → Inductive plan w → Turn plan law a low w v → (b : ℕ) → Reach v.memory b → Reach w.memory b
  reach_back_turn w v inv turn b r =
      elim (turn_graph w v turn) [
        | inl g ↦ reach_back w.memory v.memory g b r
        | inr h ↦ swept_reach plan law a low w.memory v.memory h.0 h.1.1.1 b r
      ]

  -- No block appears.
  pub used_before : (w v : World) → Turn plan law a low w v → (b : ℕ) → 1 ≤ b → is_some (block_at v.memory b) ≡ true → is_some (block_at w.memory b) ≡ true
  used_before w v turn b one u =
      elim (turn_graph w v turn) [
        | inl g ↦ sym (used_back w.memory v.memory g b) ∙ u
        | inr h ↦ swept_used plan law a low w.memory v.memory h.0 h.1.1.1 b u
      ]

  -- No entry appears.
  pub entry_before : (w v : World) → Turn plan law a low w v → (b m : ℕ) → 1 ≤ b → 2 ≤ m → m ≤ 4 → entry v.memory b m ≡ true → entry w.memory b m ≡ true
  entry_before w v (starts at u d g o) b m one lm hm h = sym (d.entry_is b m one) ∙ (and_parts (entry u.memory b m) _ (sym (g.entry_is b m one lm hm) ∙ h)).0
  entry_before w v (scan L p k at n inside there is_grey_lem s) b m one lm hm h = sym (s.marks.entry_is b m one) ∙ h
  entry_before w v (next_pass L at more s o) b m one lm hm h = sym (s.shades.marks.entry_is b m one) ∙ h
  entry_before w v (to_sweep L at s is st se o) b m one lm hm h = ap (λ xs. entry_in (block_in xs b) m) (sym s.slots) ∙ h
  entry_before w v (sweep_slot k at inside s o) b m one lm hm h = swept_entry plan law a low w.memory v.memory k s b m h
  entry_before w v (ends k at past s) b m one lm hm h = ap (λ xs. entry_in (block_in xs b) m) (sym s.slots) ∙ h

  -- A mark is set only where it was set or has waited.
  pub drained_mark : (w u : World) → Drains plan law a low w u → (b m l : ℕ) → 1 ≤ b → 2 ≤ m → m ≤ 4 → 2 ≤ l → l ≤ 4 → mark u.memory b m l ≡ true → (mark w.memory b m l ≡ true) ⊎ (w.waits b m l ≡ true)
  drained_mark w u d b m l one lm hm ll hl h =
      elim (or_cases (mark w.memory b m l) _ (sym (d.mark_is b m l one lm hm ll hl) ∙ h)) [
        | inl was ↦ inl was
        | inr taken ↦
            let waited = (and_parts (entry w.memory b m) _ taken).1 in
            inr (and_parts (leb l (top plan)) (w.waits b m l) (and_parts (within plan a b) _ waited).1).1
      ]

  pub mark_before : (w v : World) → Turn plan law a low w v → (b m l : ℕ) → 1 ≤ b → 2 ≤ m → m ≤ 4 → 2 ≤ l → l ≤ 4 → mark v.memory b m l ≡ true →
      (mark w.memory b m l ≡ true) ⊎ (w.waits b m l ≡ true)
  mark_before w v (starts at u d g o) b m l one lm hm ll hl h =
      let before = (and_parts (entry v.memory b m) _ (sym (g.mark_is b m l one lm hm ll hl) ∙ h)).1 in
      drained_mark w u d b m l one lm hm ll hl (and_parts (mark u.memory b m l) _ before).0
  mark_before w v (scan L p k at n inside there is_grey_lem s) b m l one lm hm ll hl h = inl (sym (s.marks.mark_is b m l one) ∙ h)
  mark_before w v (next_pass L at more s o) b m l one lm hm ll hl h = inl (sym (s.shades.marks.mark_is b m l one) ∙ h)
  mark_before w v (to_sweep L at s is st se o) b m l one lm hm ll hl h = inl (ap (λ xs. mark_in (block_in xs b) m l) (sym s.slots) ∙ h)
  mark_before w v (sweep_slot k at inside s o) b m l one lm hm ll hl h = inl (swept_mark plan law a low w.memory v.memory k s b m l h)
  mark_before w v (ends k at past s) b m l one lm hm ll hl h = inl (ap (λ xs. mark_in (block_in xs b) m l) (sym s.slots) ∙ h)

  -- So live entries stay live, and none of a level above the top comes.
  pub live_entries : (w v : World) → Inductive plan w → Turn plan law a low w v → (x l : ℕ) → 2 ≤ l → l ≤ 4 → LiveEntries plan w x l → LiveEntries plan v x l
  live_entries w v inv turn x l ll hl live b n inside h =
      reach_forth w v inv turn b (live b n inside (entry_before w v turn b l (numbered_first _ b n) ll hl h))

  pub none_above_top : (w v : World) → Turn plan law a low w v → NoneAboveTop plan w.memory → NoneAboveTop plan v.memory
  none_above_top w v turn none b m n lm hm =
      is_false (entry v.memory b m) (λ h. true≢false (sym (entry_before w v turn b m (numbered_first _ b n) (omega (arith, lm, law.high.0)) hm h) ∙ none b m n lm hm))
