-- A turn in a pass keeps what keeps reachable blocks from being swept: with no grey block left the next pass begins, or the sweep.
use Rattle.std.proofs.Common.{◌≡◌, ℕ, ◌-◌, ◌<◌, ◌≤◌, true, false, ltb, ◌⊎◌, is_some, Some, None, Option, sym, refl, ap, ◌∙◌, subst, inl, inr, arith}
use Rattle.std.proofs.lemmas.Bool.{cases_lt, cond_both, ltb-true, ltb-false, false≢true}
use Rattle.chain.specs.Chain.{numbered}
use Rattle.state.specs.declared.block.Block.{Block}
use Rattle.state.specs.declared.collector.Stage.TheVariants.{Pass, Sweep}
use Rattle.state.specs.declared.collector.Status.TheVariants.{Begun}
use Rattle.state.specs.Layout.{Layout, top, slot_count, lowest, within, first_in, level_of, home}
use Rattle.state.specs.Lawful.{Lawful}
use Rattle.state.specs.Memory.{Memory, World, block_in, block_at, collector_at, with_collector, at_stage}
use Rattle.state.specs.Turns.{on_memory, pass_begun, lowest_grey, scanned_at, pass_turn}
use Rattle.laws.specs.Roots.{Reach, root, step}
use Rattle.laws.specs.Views.{white_in, black_in, entry_in, mark_in, white, black, entry, mark, stage, status, sends, marks_above}
use Rattle.laws.specs.Invariant.{Told, PassedBelow, lower_pass, sweeping, HasCovered, has_ended_round, pass_over, SomeWaits}
use Rattle.laws.specs.Inductive.{LocallyCovered, from_root, from_entry, from_mark, inward, Sound, Safe}
use Rattle.laws.proofs.Plans.{within_bounds, within_first, within_numbered, pointer_together}
use Rattle.laws.proofs.Graphs.{graph_same, points_back, reach_back}
use Rattle.laws.proofs.Parts.{by_entry, by_mark, PassBegins, pass_begins, grey_found, no_grey, Moves, sweep_begins}
use Rattle.laws.proofs.OneArea.{PassStep, AreaSafe, step_keeps, dark_stays, told_back, marking_is, covered_stays, entry_dark, mark_dark}
use Rattle.laws.proofs.ScanKeeps.{scan_keeps}
use Rattle.laws.proofs.Stages.{rest_pass, rest_sweep, pass_sweep, pass_is, sweep_is}
use Rattle.laws.proofs.Reached.{reached_slot}

-- an entry or a mark is that of a block
entry_used : (o : Option Block) (m : ℕ) → entry_in o m ≡ true → is_some o ≡ true
entry_used None m there = absurd (false≢true there)
entry_used (Some k) m there = refl

mark_used : (o : Option Block) (m l : ℕ) → mark_in o m l ≡ true → is_some o ≡ true
mark_used None m l there = absurd (false≢true there)
mark_used (Some k) m l there = refl

module _ (plan : Layout) (law : Lawful plan) (a : ℕ) (low : lowest plan a ≡ true) where
  -- the source of a pointer of level 1 lies in the area of its target
  source_inside : (p b : ℕ) → numbered (slot_count plan) p ≡ true → within plan a b ≡ true → level_of plan p b ≤ 1 → within plan a p ≡ true
  source_inside p b n inside h =
      let (lowest-home, at_home) = law.at_home p n in
      let met = pointer_together plan law (home plan p) a p b 1 lowest-home low at_home inside h in
      subst (λ x. within plan x p ≡ true) (sym (law.above_one (home plan p)) ∙ met ∙ law.above_one a) at_home

  -- Area a is in pass L, and none of its blocks is grey.
  module _ (w : World) (sound : Sound plan w.memory) (safe : Safe plan w) (L : ℕ) (was : stage w.memory a ≡ Pass L) (none : lowest_grey plan a 1 w.memory.slots ≡ None) where
    dark_black : (b : ℕ) → within plan a b ≡ true → is_some (block_at w.memory b) ≡ true → white w.memory b ≡ false → black w.memory b ≡ true
    dark_black = no_grey plan law a low w.memory sound.shape none

    -- local cover at the level of the pass stays inside the black blocks
    local_black : (b : ℕ) → LocallyCovered plan w.memory a L b → (within plan a b ≡ true) × (black w.memory b ≡ true)
    local_black b (from_root inside r) = (inside, dark_black b inside (safe.alive b (root r)) (safe.rooted a b L low was inside r))
    local_black b (from_entry m inside more most there) =
        (inside, dark_black b inside (entry_used (block_at w.memory b) m there) (safe.shaded_by_entry a b m L low was inside more most there))
    local_black b (from_mark m inside two upto set) =
        let bounds = sound.passes_inside a L low was in
        (inside, dark_black b inside (mark_used (block_at w.memory b) m L set) (safe.shaded_by_mark a b m L L low was inside two upto bounds.1 (omega arith) set))
    local_black b (inward {b = p} from points inside there) =
        let (home, is-black) = local_black p from in
        (inside, dark_black b inside there (safe.inner a p b L low was home inside is-black points))

    -- at the level of the pass, all that is covered has told of its pointers; at the levels above it has done so before
    covered_now : (l : ℕ) → 2 ≤ l → l ≤ top plan → marks_above plan w.memory a l ≡ true → status w.memory a l ≡ Begun → L ≤ l →
        SomeWaits plan w a l ⊎ Told plan w l (LocallyCovered plan w.memory a l)
    covered_now l two most marking is least =
        elim (cases_lt L l) [
          | inl more ↦ safe.covered a l low two most marking (pass_over is (lower_pass L was more))
          | inr upto ↦ inr (λ b c here. safe.scanned a l L low two most marking is was upto b c (local_black b (subst (λ n. LocallyCovered plan w.memory a n b) (omega (arith, upto, least)) here)))
        ]

    -- in pass 1 no reachable block of the area is white: it is a root, or has an entry, or a reachable block of the area, black by now, points to it
    reach_dark : L ≤ 1 → (b : ℕ) → Reach w.memory b → within plan a b ≡ true → white w.memory b ≡ false
    reach_dark last b (root r) inside = safe.rooted a b L low was inside r
    reach_dark last b (step {p} r points) inside =
        elim (cases_lt 1 (level_of plan p b)) [
          | inl crossing ↦
              safe.shaded_by_entry a b (level_of plan p b) L low was inside (omega (arith, last, crossing))
              (law.level_within p b (reached_slot plan w.memory sound p r) (within_numbered plan law a b low inside)).1 (safe.entered p b r points crossing)
          | inr upto ↦
              let home = source_inside p b (reached_slot plan w.memory sound p r) inside upto in
              safe.inner a p b L low was home inside (dark_black p home (safe.alive p r) (reach_dark last p r home)) points
        ]

    -- what the area has covered when it has left the pass
    covered_left : (v : World) (d : PassStep plan a L w v) → ((l : ℕ) → 2 ≤ l → PassedBelow v.memory a l → L ≤ l) →
        (l : ℕ) → 2 ≤ l → l ≤ top plan → marks_above plan v.memory a l ≡ true → HasCovered v.memory a l → SomeWaits plan v a l ⊎ Told plan v l (LocallyCovered plan v.memory a l)
    covered_left v d left l two most marking has = covered_stays plan law a low L w v sound safe d a l (before has)
      where
        was_marking : marks_above plan w.memory a l ≡ true
        was_marking = sym (marking_is plan law a low L w v sound safe d a l) ∙ marking

        before : HasCovered v.memory a l → SomeWaits plan w a l ⊎ Told plan w l (LocallyCovered plan w.memory a l)
        before (has_ended_round is) = safe.covered a l low two most was_marking (has_ended_round (sym (d.status_is l) ∙ is))
        before (pass_over is passed) = covered_now l two most was_marking (sym (d.status_is l) ∙ is) (left l two passed)

    -- The next pass begins.
    module _ (t : Memory) (did : PassBegins plan law a low (L - 1) w.memory t) (more : 1 < L) where
      abbrev next_world : World
      next_world = record { memory = t; waits = w.waits }

      next_step : PassStep plan a L w next_world
      next_step =
          record {
            graph = did.shades.graph;
            marks = did.shades.marks;
            only = did.only;
            was = was;
            runs = λ e. rest_pass (stage t a) (L - 1) e did.stage_is;
            status_is = did.status_is;
            sends_is = did.sends_is;
            white_back = did.shades.white_back;
            black_outside = λ b one out. did.shades.black_is b one;
            waits_stay = λ b m l waits. waits;
            waits_settable = safe.settable;
          }

      next_shaded_by_entry : (b m M : ℕ) → stage t a ≡ Pass M → within plan a b ≡ true → M < m → m ≤ top plan → entry t b m ≡ true → white t b ≡ false
      next_shaded_by_entry b m M at inside higher most there =
          let one = within_first plan a b inside in
          let same = pass_is (stage t a) M (L - 1) at did.stage_is in
          let bound = law.high.1 in
          did.shades.shaded b one (inside, by_entry m (omega (arith, same, higher, more)) (omega (arith, bound, most)) (omega (arith, same, higher)) (sym (did.shades.marks.entry_is b m one) ∙ there))

      -- marks of the levels above were seen to before
      next_shaded_by_mark : (b m j M : ℕ) → stage t a ≡ Pass M → within plan a b ≡ true → 2 ≤ m → m ≤ j → j ≤ top plan → M ≤ j → mark t b m j ≡ true → white t b ≡ false
      next_shaded_by_mark b m j M at inside two upto most least set =
          elim (cases_lt j L) [
            | inl below ↦
                let this : j ≡ L - 1 = omega (arith, below, least, pass_is (stage t a) M (L - 1) at did.stage_is) in
                let bound = law.high.1 in
                did.shades.shaded b one (inside, by_mark m two (omega (arith, bound, most, upto)) (subst (λ n. mark w.memory b m n ≡ true) this (sym (did.shades.marks.mark_is b m j one) ∙ set)))
            | inr over ↦ mark_dark plan law a low L w next_world sound safe next_step a b m j L low was inside two upto most over set
          ]
        where
          one : 1 ≤ b
          one = within_first plan a b inside

      next_area : AreaSafe plan next_world a
      next_area =
          record {
            no_black_behind = λ b k at. absurd (pass_sweep (stage t a) (L - 1) k did.stage_is at);
            inner = λ b c M at inside within-c is-black points.
                dark_stays plan law a low L w next_world sound safe next_step c (within_first plan a c within-c)
                (safe.inner a b c L low was inside within-c (sym (did.shades.black_is b (within_first plan a b inside)) ∙ is-black) (points_back w.memory t did.shades.graph b c points));
            shaded_by_entry = next_shaded_by_entry;
            shaded_by_mark = next_shaded_by_mark;
            swept_reached = λ b k at. absurd (pass_sweep (stage t a) (L - 1) k did.stage_is at);
            swept_entered = λ b k m at. absurd (pass_sweep (stage t a) (L - 1) k did.stage_is at);
            scanned = λ l M two most marking is at upto.
                told_back plan law a low L w next_world sound safe next_step l (λ b. (within plan a b ≡ true) × (black w.memory b ≡ true)) (λ b. (within plan a b ≡ true) × (black t b ≡ true))
                (λ b q. (q.0, sym (did.shades.black_is b (within_first plan a b q.0)) ∙ q.1))
                (safe.scanned a l L low two most (sym (marking_is plan law a low L w next_world sound safe next_step a l) ∙ marking) (sym (did.status_is l) ∙ is) was
                (omega (arith, upto, pass_is (stage t a) M (L - 1) at did.stage_is)));
            covered = covered_left next_world next_step left;
          }
        where
          left : (l : ℕ) → 2 ≤ l → PassedBelow t a l → L ≤ l
          left l two (lower_pass M at below) = omega (arith, below, pass_is (stage t a) M (L - 1) at did.stage_is)
          left l two (sweeping k at) = absurd (pass_sweep (stage t a) (L - 1) k did.stage_is at)

      next_kept : Safe plan next_world
      next_kept = step_keeps plan law a low L w next_world sound safe next_step next_area

    -- The sweep begins, from the first slot on.
    module _ (t : Memory) (did : Moves plan law a low w.memory t) (stage_is : stage t a ≡ Sweep (first_in plan a)) (status_is : (l : ℕ) → status t a l ≡ status w.memory a l)
        (sends_is : (l : ℕ) → sends t a l ≡ sends w.memory a l) (last : L ≤ 1) where
      abbrev sweep_world : World
      sweep_world = record { memory = t; waits = w.waits }

      sweep_step : PassStep plan a L w sweep_world
      sweep_step =
          record {
            graph = graph_same w.memory t did.slots did.registers;
            marks = record { entry_is = λ b m one. ap (λ xs. entry_in (block_in xs b) m) did.slots; mark_is = λ b m l one. ap (λ xs. mark_in (block_in xs b) m l) did.slots };
            only = did.only;
            was = was;
            runs = λ e. rest_sweep (stage t a) (first_in plan a) e stage_is;
            status_is = status_is;
            sends_is = sends_is;
            white_back = λ b one e. sym (ap (λ xs. white_in (block_in xs b)) did.slots) ∙ e;
            black_outside = λ b one out. ap (λ xs. black_in (block_in xs b)) did.slots;
            waits_stay = λ b m l waits. waits;
            waits_settable = safe.settable;
          }

      not_in_pass : (M : ℕ) → stage t a ≡ Pass M → ⊥
      not_in_pass M at = pass_sweep (stage t a) M (first_in plan a) at stage_is

      sweep_area : AreaSafe plan sweep_world a
      sweep_area =
          record {
            no_black_behind = λ b k at inside before.
                let bounds = within_bounds plan a b inside in
                absurd (omega (arith, bounds.0, before, sweep_is (stage t a) k (first_in plan a) at stage_is));
            inner = λ b c M at. absurd (not_in_pass M at);
            shaded_by_entry = λ b m M at. absurd (not_in_pass M at);
            shaded_by_mark = λ b m j M at. absurd (not_in_pass M at);
            swept_reached = λ b k at inside ahead r.
                dark_stays plan law a low L w sweep_world sound safe sweep_step b (within_first plan a b inside) (reach_dark last b (reach_back w.memory t sweep_step.graph b r) inside);
            swept_entered = λ b k m at inside ahead two most there. entry_dark plan law a low L w sweep_world sound safe sweep_step a b m L low was inside (omega (arith, last, two)) most there;
            scanned = λ l M two most marking is at. absurd (not_in_pass M at);
            covered = covered_left sweep_world sweep_step (λ l two passed. omega (arith, last, two));
          }

      sweep_kept : Safe plan sweep_world
      sweep_kept = step_keeps plan law a low L w sweep_world sound safe sweep_step sweep_area

  pub next_pass_keeps : (w : World) → Sound plan w.memory → Safe plan w → (L : ℕ) → stage w.memory a ≡ Pass L → 1 < L → lowest_grey plan a 1 w.memory.slots ≡ None →
      Safe plan (on_memory (pass_begun plan a (L - 1)) w)
  next_pass_keeps w sound safe L was more none =
      next_kept w sound safe L was none (pass_begun plan a (L - 1) w.memory) (pass_begins plan law a low w.memory sound.shape (L - 1)) more

  pub sweep_begins_keeps : (w : World) → Sound plan w.memory → Safe plan w → (L : ℕ) → stage w.memory a ≡ Pass L → L ≤ 1 → lowest_grey plan a 1 w.memory.slots ≡ None →
      Safe plan (on_memory (λ s. with_collector a (at_stage (Sweep (first_in plan a)) (collector_at s a)) s) w)
  sweep_begins_keeps w sound safe L was last none =
      let (moves, (stage_is, (status_is, sends_is))) = sweep_begins plan law a low w.memory sound.shape (first_in plan a) in
      sweep_kept w sound safe L was none (with_collector a (at_stage (Sweep (first_in plan a)) (collector_at w.memory a)) w.memory) moves stage_is status_is sends_is last

  -- A turn in a pass: a scan if there is a grey block, else the next pass or the sweep.
  pub pass_turn_keeps : (w : World) → Sound plan w.memory → Safe plan w → (L : ℕ) → stage w.memory a ≡ Pass L → Safe plan (pass_turn plan a L (lowest_grey plan a 1 w.memory.slots) w)
  pass_turn_keeps w sound safe L was = found (lowest_grey plan a 1 w.memory.slots) refl
    where
      scan : (p : ℕ) → within plan a p ≡ true → (o : Option Block) → block_at w.memory p ≡ o → Safe plan (scanned_at plan a L p o w)
      scan p inside None there = safe
      scan p inside (Some k) there = scan_keeps plan law a low w sound safe L p k was inside there

      found : (o : Option ℕ) → lowest_grey plan a 1 w.memory.slots ≡ o → Safe plan (pass_turn plan a L o w)
      found (Some p) grey = scan p (grey_found plan law a low w.memory sound.shape p grey).1.0 (block_at w.memory p) refl
      found None none =
          cond_both (ltb 1 L) _ _ (λ (s : Memory). Safe plan (on_memory (λ _. s) w)) (λ more. next_pass_keeps w sound safe L was (ltb-true 1 L more) none)
          (λ last. sweep_begins_keeps w sound safe L was (ltb-false 1 L last) none)
