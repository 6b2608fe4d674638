-- Every part of a turn keeps the tables of a memory sound.
use Rattle.std.proofs.Common.{◌≡◌, ℕ, zero, suc, ◌+◌, ◌-◌, ◌≤◌, Bool, true, false, cond, not, ◌&&◌, ◌||◌, ltb, leb, List, [], ◌∷◌, length, get_or, is_some, Some, None, Option, sym, refl, ap, ◌∙◌, arith, length-set}
use Rattle.std.proofs.lemmas.Bool.{cond_both, and_from, le-leb, ltb-true}
use Rattle.chain.specs.Chain.{place}
use Rattle.state.specs.declared.block.Block.{Block}
use Rattle.state.specs.declared.block.Colour.TheVariants.{White, Black}
use Rattle.state.specs.declared.collector.Collector.{Collector}
use Rattle.state.specs.declared.collector.Stage.{Stage}
use Rattle.state.specs.declared.collector.Stage.TheVariants.{Resting, Pass, Sweep}
use Rattle.state.specs.declared.collector.Status.{Status}
use Rattle.state.specs.declared.collector.Phase.{Phase}
use Rattle.state.specs.declared.collector.Phase.TheVariants.{Marking, Recovering}
use Rattle.state.specs.Tables.{map_from}
use Rattle.state.specs.Blocks.{coloured, shade, with_marks, with_recovered, entered_at, points_to, is_white}
use Rattle.state.specs.Layout.{Layout, top, lowest, within, first_in, last_of, above}
use Rattle.state.specs.Lawful.{Lawful}
use Rattle.state.specs.Memory.{Memory, World, block_at, collector_at, phase_at, in_register, with_collector, on_area, at_stage}
use Rattle.state.specs.Turns.{on_status, with_sends, settable, drained, recovers_at, entries_recovered, roots_shaded, pass_begun, round_started, lowest_grey, scanned, scanned_at, pass_ended, pass_turn, slot_swept, swept_on, round_over, under, all_ended, some_waits, reset_at, phase_changed, phase_test, phase_tests, round_ended, sweep_turn, turn_at, turned}
use Rattle.laws.specs.Views.{stage}
use Rattle.laws.specs.Inductive.{Sound}
use Rattle.laws.proofs.Frames.{length_map_from}
use Rattle.laws.proofs.Graphs.{SameGraph, graph_same, points_back, root_back}
use Rattle.laws.proofs.Sound.{keeps_coloured, keeps_marks, keeps_recovered, keeps_if, Fit, fit_at, sound_area, sound_on, sound_collector, shape_from, shaped_at, chain_stays}
use Rattle.laws.proofs.SoundSlots.{sound_recovered}

module _ (plan : Layout) (law : Lawful plan) where
  -- a change of the status and of what the round sends keeps a collector fit
  fit_status : (a : ℕ) (f : ℕ → Status → Status) (c : Collector) → Fit plan a c → Fit plan a (on_status f c)
  fit_status a f c h = record { levels = length_map_from _ 2 c.levels ∙ h.levels; sweeps = h.sweeps; passes = h.passes }

  fit_sends : (a : ℕ) (f : ℕ → Bool) (c : Collector) → Fit plan a c → Fit plan a (with_sends f c)
  fit_sends a f c h = record { levels = length_map_from _ 2 c.levels ∙ h.levels; sweeps = h.sweeps; passes = h.passes }

  -- The drain
  pub sound_drained : (a : ℕ) → lowest plan a ≡ true → (w : World) → Sound plan w.memory → Sound plan (drained plan a w).memory
  sound_drained a low w sound =
      sound_collector plan a low _ _
      (sound_area plan a (λ b k. with_marks (λ m l. settable plan a w.waits b m l) k) (λ b k. keeps_marks plan _ k) w.memory sound)
      refl
      (fit_status a _ _ (fit_at plan w.memory sound a low))

  fit_stage : (a : ℕ) (g : Stage) (c : Collector) → ((k : ℕ) → g ≡ Sweep k → first_in plan a ≤ k) → ((L : ℕ) → g ≡ Pass L → (1 ≤ L) × (L ≤ top plan)) → Fit plan a c → Fit plan a (at_stage g c)
  fit_stage a g c sweeps passes h = record { levels = h.levels; sweeps = sweeps; passes = passes }

  fit_resting : (a : ℕ) (c : Collector) → Fit plan a c → Fit plan a (at_stage Resting c)
  fit_resting a c h = fit_stage a Resting c (λ k e. absurd (grind (arith, e))) (λ L e. absurd (grind (arith, e))) h

  fit_pass : (a L : ℕ) (c : Collector) → 1 ≤ L → L ≤ top plan → Fit plan a c → Fit plan a (at_stage (Pass L) c)
  fit_pass a L c lo hi h = fit_stage a (Pass L) c (λ k e. absurd (grind (arith, e))) (λ M e. grind (arith, e)) h

  fit_sweep : (a k : ℕ) (c : Collector) → first_in plan a ≤ k → Fit plan a c → Fit plan a (at_stage (Sweep k) c)
  fit_sweep a k c lo h = fit_stage a (Sweep k) c (λ n e. grind (arith, e)) (λ L e. absurd (grind (arith, e))) h

  -- The rest of the start of a round
  pub sound_entries : (a : ℕ) → lowest plan a ≡ true → (s : Memory) → Sound plan s → Sound plan (entries_recovered plan a s)
  sound_entries a low s sound =
      sound_collector plan a low _ _
      (sound_area plan a (λ b k. with_recovered (recovers_at plan s a) k) (λ b k. keeps_recovered plan _ k) s sound)
      refl
      (fit_sends a _ _ (fit_status a _ _ (fit_at plan s sound a low)))

  -- blocks of the area that pass a test are shaded
  pub sound_shaded : (a : ℕ) (test : ℕ → Block → Bool) (s : Memory) → Sound plan s → Sound plan (on_area plan a (λ b k. cond (test b k) (shade k) k) s)
  sound_shaded a test s sound =
      sound_area plan a (λ b k. cond (test b k) (shade k) k) (λ b k. keeps_if plan (test b k) k (shade k) (keeps_coloured plan _ k)) s sound

  pub sound_roots : (a : ℕ) (s : Memory) → Sound plan s → Sound plan (roots_shaded plan a s)
  sound_roots a s sound = sound_shaded a (λ b k. in_register s b || ltb 0 k.holds) s sound

  pub sound_pass : (a L : ℕ) → lowest plan a ≡ true → 1 ≤ L → L ≤ top plan → (s : Memory) → Sound plan s → Sound plan (pass_begun plan a L s)
  sound_pass a L low lo hi s sound =
      sound_collector plan a low _ _ (sound_shaded a (λ b k. entered_at L k) s sound) refl (fit_pass a L _ lo hi (fit_at plan s sound a low))

  pub sound_started : (a : ℕ) → lowest plan a ≡ true → (w : World) → Sound plan w.memory → Sound plan (round_started plan a w).memory
  sound_started a low w sound =
      sound_pass a (top plan) low (omega (arith, law.high.0)) (omega arith) _ (sound_roots a _ (sound_entries a low _ (sound_drained a low w sound)))

  -- A scan
  pub sound_scanned : (a L b : ℕ) (k : Block) (w : World) → Sound plan w.memory → Sound plan (scanned plan a L b k w).memory
  sound_scanned a L b k w sound =
      sound_on plan b (coloured Black) (keeps_coloured plan Black) _ (sound_shaded a (λ c x. points_to k c) w.memory sound)

  sound_scanned_at : (a L b : ℕ) (o : Option Block) (w : World) → Sound plan w.memory → Sound plan (scanned_at plan a L b o w).memory
  sound_scanned_at a L b None w sound = sound
  sound_scanned_at a L b (Some k) w sound = sound_scanned a L b k w sound

  -- The end of a pass
  pub sound_sweep_begun : (a k : ℕ) → lowest plan a ≡ true → first_in plan a ≤ k → (s : Memory) → Sound plan s → Sound plan (with_collector a (at_stage (Sweep k) (collector_at s a)) s)
  sound_sweep_begun a k low lo s sound = sound_collector plan a low _ s sound refl (fit_sweep a k _ lo (fit_at plan s sound a low))

  pub sound_pass_ended : (a L : ℕ) → lowest plan a ≡ true → L ≤ top plan → (s : Memory) → Sound plan s → Sound plan (pass_ended plan a L s)
  sound_pass_ended a L low hi s sound =
      cond_both (ltb 1 L) _ _ (Sound plan)
      (λ t. let l = ltb-true 1 L t in sound_pass a (L - 1) low (omega (arith, l)) (omega arith) s sound)
      (λ _. sound_sweep_begun a (first_in plan a) low (omega arith) s sound)

  sound_pass_turn : (a L : ℕ) → lowest plan a ≡ true → L ≤ top plan → (o : Option ℕ) (w : World) → Sound plan w.memory → Sound plan (pass_turn plan a L o w).memory
  sound_pass_turn a L low hi (Some b) w sound = sound_scanned_at a L b (block_at w.memory b) w sound
  sound_pass_turn a L low hi None w sound = sound_pass_ended a L low hi w.memory sound

  -- The end of a round
  pub sound_round_over : (a : ℕ) → lowest plan a ≡ true → (s : Memory) → Sound plan s → Sound plan (round_over a s)
  sound_round_over a low s sound =
      sound_collector plan a low _ s sound refl (fit_resting a _ (fit_sends a _ _ (fit_status a _ _ (fit_at plan s sound a low))))

  -- Phases

  -- what a change of phases leaves of a collector
  record Resets (c d : Collector) : Type 0 where
    stage : d.stage ≡ c.stage
    free : d.free ≡ c.free
    levels : length d.levels ≡ length c.levels

  resets_cond : (t : Bool) (l : ℕ) (c : Collector) → Resets c (cond t (reset_at l c) c)
  resets_cond true l c = record { stage = refl; free = refl; levels = length-set c.levels _ _ }
  resets_cond false l c = record { stage = refl; free = refl; levels = refl }

  resets_mapped : (test : ℕ → Bool) (l i : ℕ) (cs : List Collector) (n : ℕ) (d : Collector) → Resets (get_or cs n d) (get_or (map_from (λ a c. cond (test a) (reset_at l c) c) i cs) n d)
  resets_mapped test l i [] n d = record { stage = refl; free = refl; levels = refl }
  resets_mapped test l i (c ∷ cs) zero d = resets_cond (test i) l c
  resets_mapped test l i (c ∷ cs) (suc n) d = resets_mapped test l (i + 1) cs n d

  pub sound_changed : (x l : ℕ) (p : Phase) (s : Memory) → Sound plan s → Sound plan (phase_changed plan x l p s)
  sound_changed x l p s sound =
      record {
        shape = shape_from plan s t sound.shape refl refl (length_map_from _ 1 s.collectors) (length-set s.phases _ p) (shaped_at plan s sound.shape)
            (λ a. (same a).levels ∙ sound.shape.statuses a);
        chained = λ a low. chain_stays plan s t a refl (same a).free (λ b. refl) (sound.chained a low);
        rooted_slots = λ b r. sound.rooted_slots b (root_back s t graph b r);
        pointed_slots = λ q b e. sound.pointed_slots q b (points_back s t graph q b e);
        sweeps_inside = λ a k low at. sound.sweeps_inside a k low (sym (same a).stage ∙ at);
        passes_inside = λ a L low at. sound.passes_inside a L low (sym (same a).stage ∙ at);
      }
    where
      t : Memory
      t = phase_changed plan x l p s

      graph : SameGraph s (phase_changed plan x l p s)
      graph = graph_same s _ refl refl

      same : (a : ℕ) → Resets (collector_at s a) (collector_at (phase_changed plan x l p s) a)
      same a = resets_mapped (under plan x l) l 1 s.collectors (place a) _

  pub sound_tested : (x l : ℕ) (p : Phase) (w : World) → Sound plan w.memory → Sound plan (phase_test plan x l p w).memory
  sound_tested x l Marking w sound =
      cond_both (all_ended plan x l w.memory && not (some_waits plan x l w)) _ _ (λ (v : World). Sound plan v.memory) (λ _. sound_changed x l Recovering w.memory sound) (λ _. sound)
  sound_tested x l Recovering w sound =
      cond_both (all_ended plan x l w.memory) _ _ (λ (v : World). Sound plan v.memory) (λ _. sound_changed x l Marking w.memory sound) (λ _. sound)

  pub sound_tests : (a n l : ℕ) (w : World) → Sound plan w.memory → Sound plan (phase_tests plan a n l w).memory
  sound_tests a zero l w sound = sound
  sound_tests a (suc n) l w sound = sound_tests a n (l + 1) _ (sound_tested (above plan a l) l (phase_at w.memory (above plan a l)) w sound)

  pub sound_round_ended : (a : ℕ) → lowest plan a ≡ true → (w : World) → Sound plan w.memory → Sound plan (round_ended plan a w).memory
  sound_round_ended a low w sound = sound_tests a (top plan - 1) 2 _ (sound_round_over a low w.memory sound)

  -- The sweep of one slot
  pub sound_slot_swept : (a b : ℕ) → lowest plan a ≡ true → within plan a b ≡ true → (s : Memory) → Sound plan s → (o : Option Block) → block_at s b ≡ o → Sound plan (slot_swept a b o s)
  sound_slot_swept a b low inside s sound None found = sound
  sound_slot_swept a b low inside s sound (Some k) found =
      cond_both (is_white k.colour) _ _ (Sound plan)
      (λ _. sound_recovered plan law a low s sound b inside (ap is_some found))
      (λ _. sound_on plan b (coloured White) (keeps_coloured plan White) s sound)

  pub sound_swept_on : (a b : ℕ) → lowest plan a ≡ true → first_in plan a ≤ b → (s : Memory) → Sound plan s → Sound plan (swept_on a b s)
  sound_swept_on a b low lo s sound = sound_sweep_begun a (b + 1) low (omega arith) s sound

  sound_sweep_turn : (a b : ℕ) → lowest plan a ≡ true → first_in plan a ≤ b → (w : World) → Sound plan w.memory → Sound plan (sweep_turn plan a b w).memory
  sound_sweep_turn a b low lo w sound =
      cond_both (leb b (last_of plan a)) _ _ (λ (v : World). Sound plan v.memory)
      (λ t. sound_swept_on a b low lo _ (sound_slot_swept a b low (and_from (leb (first_in plan a) b) (leb b (last_of plan a)) (le-leb (first_in plan a) b lo) t) w.memory sound (block_at w.memory b) refl))
      (λ _. sound_round_ended a low w sound)

  sound_turn_at : (a : ℕ) → lowest plan a ≡ true → (w : World) → Sound plan w.memory → (g : Stage) → stage w.memory a ≡ g → Sound plan (turn_at plan a g w).memory
  sound_turn_at a low w sound Resting at = sound_started a low w sound
  sound_turn_at a low w sound (Pass L) at = sound_pass_turn a L low (sound.passes_inside a L low at).1 (lowest_grey plan a 1 w.memory.slots) w sound
  sound_turn_at a low w sound (Sweep b) at = sound_sweep_turn a b low (sound.sweeps_inside a b low at) w sound

  -- A turn
  pub sound_turned : (a : ℕ) → lowest plan a ≡ true → (w : World) → Sound plan w.memory → Sound plan (turned plan a w).memory
  sound_turned a low w sound = sound_turn_at a low w sound (stage w.memory a) refl
