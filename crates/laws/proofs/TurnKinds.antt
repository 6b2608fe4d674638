-- The kinds of a turn, with what each does: the start of a round, a scan, the next pass, the step into the sweep, the sweep of a slot, the end of a round.
use Rattle.std.proofs.Common.{◌≡◌, ℕ, ◌+◌, ◌-◌, ◌<◌, ◌≤◌, true, ltb, leb, ◌⊎◌, length, Some, None, Option, sym, refl, ap, ◌∙◌, subst, inl, inr, arith}
use Rattle.std.proofs.lemmas.Bool.{cond_both, and_from, le-leb, leb-false, ltb-true, cases_eq, true≢false}
use Rattle.chain.specs.Chain.{numbered}
use Rattle.plan.specs.Walk.{area_at}
use Rattle.state.specs.declared.block.Block.{Block}
use Rattle.state.specs.declared.collector.Stage.{Stage}
use Rattle.state.specs.declared.collector.Stage.TheVariants.{Resting, Pass, Sweep}
use Rattle.state.specs.Layout.{Layout, top, slot_count, lowest, within, first_in, last_of}
use Rattle.state.specs.Lawful.{Lawful}
use Rattle.state.specs.Memory.{Memory, World, block_at, collector_at, with_collector, at_stage}
use Rattle.state.specs.Turns.{on_memory, drained, pass_begun, lowest_grey, scanned_at, pass_turn, slot_swept, swept_on, ended, round_over, round_ended, turn_at, turned}
use Rattle.laws.specs.Views.{Shape, stage, status, sends}
use Rattle.laws.specs.Inductive.{Sound}
use Rattle.laws.proofs.Frames.{collector_same}
use Rattle.laws.proofs.Parts.{grey, Drains, drains, Begins, begins, PassBegins, pass_begins, Scans, scans, grey_found, Sweeps, sweeps, Moves, sweep_begins, round_over_lem, OnlyArea, only_trans}
use Rattle.laws.proofs.SoundTurns.{sound_drained, sound_round_over}
use Rattle.laws.proofs.Tests.{Tested, all_tested}
use Rattle.state.specs.declared.collector.Collector.{Collector}
use Rattle.state.specs.Pasts.{is_resting, resting, round_ends}
use Rattle.laws.proofs.Flags.{rises}
use Rattle.laws.proofs.Stages.{rest_pass, rest_sweep}
use Rattle.laws.proofs.Elsewhere.{only_stage, same_only}

-- The end of a round of area a, then the tests of the phases.
pub record Ends (plan : Layout) (law : Lawful plan) (a : ℕ) (low : lowest plan a ≡ true) (w v : World) : Type 0 where
  pub over : Memory
  pub moves : Moves plan law a low w.memory over
  pub over_status : (l : ℕ) → 2 ≤ l → l ≤ 4 → status over a l ≡ ended (status w.memory a l)
  pub slots : v.memory.slots ≡ w.memory.slots
  pub registers : v.memory.registers ≡ w.memory.registers
  pub waits : v.waits ≡ w.waits
  pub stage_is : stage v.memory a ≡ Resting
  pub stage_others : (e : ℕ) → lowest plan e ≡ true → stage v.memory e ≡ stage over e
  pub tested : (x l : ℕ) → numbered (length plan.areas) x ≡ true → (area_at plan.areas x).level ≡ l → 2 ≤ l → l ≤ top plan → Tested plan w.waits a x l over v.memory

module _ (plan : Layout) (law : Lawful plan) (a : ℕ) (low : lowest plan a ≡ true) where
  -- What a turn of area a is.
  pub data Turn (w v : World) : Type 0 where
    starts : stage w.memory a ≡ Resting → (u : World) → Drains plan law a low w u → Begins plan law a low u.memory v.memory → v.waits ≡ u.waits → Turn w v
    scan : (L p : ℕ) (k : Block) → stage w.memory a ≡ Pass L → numbered (slot_count plan) p ≡ true → within plan a p ≡ true → block_at w.memory p ≡ Some k → grey w.memory p → Scans plan law a low L p k w v → Turn w v
    next_pass : (L : ℕ) → stage w.memory a ≡ Pass L → 1 < L → PassBegins plan law a low (L - 1) w.memory v.memory → v.waits ≡ w.waits → Turn w v
    to_sweep : (L : ℕ) → stage w.memory a ≡ Pass L → Moves plan law a low w.memory v.memory → stage v.memory a ≡ Sweep (first_in plan a) →
        ((l : ℕ) → status v.memory a l ≡ status w.memory a l) → ((l : ℕ) → sends v.memory a l ≡ sends w.memory a l) → v.waits ≡ w.waits → Turn w v
    sweep_slot : (k : ℕ) → stage w.memory a ≡ Sweep k → within plan a k ≡ true → Sweeps plan law a low k w.memory v.memory → v.waits ≡ w.waits → Turn w v
    ends : (k : ℕ) → stage w.memory a ≡ Sweep k → last_of plan a < k → Ends plan law a low w v → Turn w v

  round_ends_lem : (w : World) → Sound plan w.memory → Ends plan law a low w (round_ended plan a w)
  round_ends_lem w sound =
      let o = round_over_lem plan law a low w.memory sound.shape in
      let high = law.high.0 in
      let t = all_tested plan law a low (top plan - 1) 2 (omega arith) (omega (arith, high)) (on_memory (round_over a) w) (sound_round_over plan law a low w.memory sound) in
      record {
        over = round_over a w.memory;
        moves = o.0;
        over_status = o.1.1.0;
        slots = t.slots ∙ o.0.slots;
        registers = t.registers ∙ o.0.registers;
        waits = t.waits;
        stage_is = t.stage_is a low ∙ o.1.0;
        stage_others = t.stage_is;
        tested = t.tested;
      }

  pass_kind : (w : World) → Shape plan w.memory → (L : ℕ) → stage w.memory a ≡ Pass L → (o : Option ℕ) → lowest_grey plan a 1 w.memory.slots ≡ o → Turn w (pass_turn plan a L o w)
  pass_kind w shape L at (Some p) found =
      let (n, (inside, (k, (there, is_grey_lem)))) = grey_found plan law a low w.memory shape p found in
      subst (λ o. Turn w (scanned_at plan a L p o w)) (sym there)
      (scan L p k at n inside there is_grey_lem (scans plan law a low w shape L p k n there))
  pass_kind w shape L at None none =
      cond_both (ltb 1 L) (pass_begun plan a (L - 1) w.memory) (with_collector a (at_stage (Sweep (first_in plan a)) (collector_at w.memory a)) w.memory)
      (λ (s : Memory). Turn w (on_memory (λ _. s) w))
      (λ more. next_pass L at (ltb-true _ _ more) (pass_begins plan law a low w.memory shape (L - 1)) refl)
      (λ _. let o = sweep_begins plan law a low w.memory shape (first_in plan a) in to_sweep L at o.0 o.1.0 o.1.1.0 o.1.1.1 refl)

  kind_at : (w : World) → Sound plan w.memory → (t : Stage) → stage w.memory a ≡ t → Turn w (turn_at plan a t w)
  kind_at w sound Resting at =
      let u = drained plan a w in
      starts at u (drains plan law a low w sound.shape) (begins plan law a low u.memory (sound_drained plan law a low w sound).shape) refl
  kind_at w sound (Pass L) at = pass_kind w sound.shape L at (lowest_grey plan a 1 w.memory.slots) refl
  kind_at w sound (Sweep k) at =
      cond_both (leb k (last_of plan a)) (on_memory (λ s. swept_on a k (slot_swept a k (block_at s k) s)) w) (round_ended plan a w) (Turn w)
      (λ last. let inside = and_from _ _ (le-leb _ _ (sound.sweeps_inside a k low at)) last in sweep_slot k at inside (sweeps plan law a low w.memory sound.shape k inside) refl)
      (λ past. ends k at (leb-false _ _ past) (round_ends_lem w sound))

  -- every turn is of one of these kinds
  pub turn_kind : (w : World) → Sound plan w.memory → Turn w (turned plan a w)
  turn_kind w sound = kind_at w sound (stage w.memory a) refl

  -- But for the end of a round, a turn changes the collector of its own area alone.
  pub turn_only : (w v : World) → Turn w v → OnlyArea a w.memory v.memory ⊎ ((k : ℕ) × ((stage w.memory a ≡ Sweep k) × ((last_of plan a < k) × Ends plan law a low w v)))
  turn_only w v (starts at u d g o) = inl (only_trans w.memory u.memory v.memory d.only g.only)
  turn_only w v (scan L p k at n inside there is_grey_lem s) = inl (same_only a w.memory v.memory s.collectors s.phases)
  turn_only w v (next_pass L at more s o) = inl s.only
  turn_only w v (to_sweep L at s is st se o) = inl s.only
  turn_only w v (sweep_slot k at inside s o) = inl s.only
  turn_only w v (ends k at past s) = inr (k, (at, (past, s)))

  -- The stages of the other areas stay, so a round that ends is that of the area whose turn it is.
  pub stage_elsewhere : (w v : World) → Turn w v → (e : ℕ) → lowest plan e ≡ true → (e ≡ a → ⊥) → stage v.memory e ≡ stage w.memory e
  stage_elsewhere w v turn e le ne =
      elim (turn_only w v turn) [
        | inl only ↦ only_stage plan a w.memory v.memory only e le ne
        | inr h ↦ let s = h.1.1.1 in s.stage_others e le ∙ only_stage plan a w.memory s.over s.moves.only e le ne
      ]

  pub ends_own : (w v : World) → Turn w v → (e : ℕ) → lowest plan e ≡ true → round_ends e w v ≡ true → e ≡ a
  ends_own w v turn e le h =
      let (was, is) = rises (resting w e) (resting v e) h in
      elim (cases_eq e a) [
        | inl same ↦ same
        | inr ne ↦ absurd (true≢false (sym is ∙ ap is_resting (stage_elsewhere w v turn e le ne) ∙ was))
      ]

  -- a scan leaves the stage
  pub scan_stage : (L p : ℕ) (k : Block) (w v : World) → Scans plan law a low L p k w v → stage v.memory a ≡ stage w.memory a
  scan_stage L p k w v s = ap (λ (c : Collector). c.stage) (collector_same w.memory v.memory s.collectors a)

  -- The only turn that brings an area to rest is the end of its round.
  pub to_rest : (w v : World) → Turn w v → stage v.memory a ≡ Resting → (k : ℕ) × ((stage w.memory a ≡ Sweep k) × ((last_of plan a < k) × Ends plan law a low w v))
  to_rest w v (starts at u d g o) is = absurd (rest_pass _ (top plan) is g.stage_is)
  to_rest w v (scan L p x at n here there is_grey_lem s) is = absurd (rest_pass _ L is (scan_stage L p x w v s ∙ at))
  to_rest w v (next_pass L at more s o) is = absurd (rest_pass _ (L - 1) is s.stage_is)
  to_rest w v (to_sweep L at s first st se o) is = absurd (rest_sweep _ (first_in plan a) is first)
  to_rest w v (sweep_slot k at here s o) is = absurd (rest_sweep _ (k + 1) is s.stage_is)
  to_rest w v (ends k at past s) is = (k, (at, (past, s)))
