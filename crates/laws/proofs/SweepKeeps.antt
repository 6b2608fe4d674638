-- A turn in the sweep keeps what the invariant says of blocks, marks and rounds.
use Rattle.std.proofs.Common.{◌≡◌, ℕ, ◌+◌, ◌<◌, ◌≤◌, true, false, ◌||◌, leb, Some, None, Option, sym, refl, ap, ◌∙◌, subst, inl, inr, ⊎_elim, arith}
use Rattle.std.proofs.lemmas.Bool.{cases_Bool, cases_eq, cases_lt, and_from, le-leb, leb-false, cond_both}
use Rattle.state.specs.declared.block.Block.{Block}
use Rattle.state.specs.declared.collector.Stage.TheVariants.{Resting, Pass, Sweep}
use Rattle.state.specs.Layout.{Layout, top, lowest, within, last_of, level_of}
use Rattle.state.specs.Lawful.{Lawful}
use Rattle.state.specs.Memory.{Memory, World, block_at, collector_at, status_at, sends_at}
use Rattle.state.specs.Turns.{on_memory, slot_swept, swept_on, sweep_turn}
use Rattle.state.specs.Pasts.{Points}
use Rattle.laws.specs.Roots.{Reach, step}
use Rattle.laws.specs.Views.{white_in, black_in, black, entry, stage, status, sends, marks_above, white}
use Rattle.laws.specs.Invariant.{Told, sweeping, HasCovered, has_ended_round, pass_over, SomeWaits}
use Rattle.laws.specs.Inductive.{LocallyCovered, from_root, Sound, Safe}
use Rattle.laws.proofs.Plans.{numbered_first, within_first, one_home, by_area}
use Rattle.laws.proofs.Parts.{Sweeps, sweeps}
use Rattle.laws.proofs.PhaseKeeps.{ended_keeps}
use Rattle.laws.proofs.Reached.{reached_first}
use Rattle.laws.proofs.Stages.{rest_sweep, pass_sweep, sweep_is}
use Rattle.laws.proofs.Covers.{local_back, covered_same}
use Rattle.laws.proofs.Elsewhere.{collector_is, marks_above_is}
use Rattle.laws.proofs.Swept.{Stays, dark_stays, swept_used, swept_entry, swept_mark, swept_points, swept_root, swept_reach}

module _ (plan : Layout) (law : Lawful plan) (a : ℕ) (low : lowest plan a ≡ true) (s t : Memory) (k : ℕ) (inside : within plan a k ≡ true) (sw : Sweeps plan law a low k s t) where
  local_was : (e l b : ℕ) → LocallyCovered plan t e l b → LocallyCovered plan s e l b
  local_was e l =
      local_back plan s t e l (λ b i r. from_root i (swept_root plan law a low s t k sw b r)) (swept_points plan law a low s t k sw) (λ b _. swept_used plan law a low s t k sw b)
      (λ b m _ _ _. swept_entry plan law a low s t k sw b m) (λ b m _ _ _. swept_mark plan law a low s t k sw b m l)

  -- what holds of area a, and of each whose collector and slots are as they were, holds of all
  of_each : (P : ℕ → Type 0) → P a → ((e : ℕ) → lowest plan e ≡ true → collector_at t e ≡ collector_at s e → ((b : ℕ) → within plan e b ≡ true → block_at t b ≡ block_at s b) → P e) → (e : ℕ) → lowest plan e ≡ true → P e
  of_each P here there e le =
      by_area P a e here
      (λ ne. there e le (collector_is plan a s t sw.only e le ne)
      (λ b i. sw.others b (within_first plan e b i) (λ at. ne (one_home plan law e a k le low (subst (λ c. within plan e c ≡ true) at i) inside))))

  status_same : (e l : ℕ) → lowest plan e ≡ true → status t e l ≡ status s e l
  status_same e l = of_each (λ x. status t x l ≡ status s x l) (sw.status_is l) (λ x _ same _. ap (λ c. status_at c l) same) e

  sends_same : (e l : ℕ) → lowest plan e ≡ true → sends t e l ≡ sends s e l
  sends_same e l = of_each (λ x. sends t x l ≡ sends s x l) (sw.sends_is l) (λ x _ same _. ap (λ c. sends_at c l) same) e

  -- An area rests, or is in a pass: it is none that sweeps, so nothing changes in it.
  resting_same : (e : ℕ) → lowest plan e ≡ true → stage t e ≡ Resting → (stage s e ≡ Resting) × ((b : ℕ) → within plan e b ≡ true → block_at t b ≡ block_at s b)
  resting_same = of_each (λ x. stage t x ≡ Resting → (stage s x ≡ Resting) × ((b : ℕ) → within plan x b ≡ true → block_at t b ≡ block_at s b))
      (λ h. absurd (rest_sweep _ (k + 1) h sw.stage_is)) (λ x _ same slots h. (sym (ap (λ c. c.stage) same) ∙ h, slots))

  passing_same : (e L : ℕ) → lowest plan e ≡ true → stage t e ≡ Pass L → (stage s e ≡ Pass L) × ((b : ℕ) → within plan e b ≡ true → block_at t b ≡ block_at s b)
  passing_same e L = of_each (λ x. stage t x ≡ Pass L → (stage s x ≡ Pass L) × ((b : ℕ) → within plan x b ≡ true → block_at t b ≡ block_at s b))
      (λ h. absurd (pass_sweep _ L (k + 1) h sw.stage_is)) (λ x _ same slots h. (sym (ap (λ c. c.stage) same) ∙ h, slots)) e

  next_slot : (j : ℕ) → stage t a ≡ Sweep j → j ≡ k + 1
  next_slot j h = sweep_is _ j (k + 1) h sw.stage_is

  -- A slot that a sweep has still before it is as it was.
  ahead_same : (b e j : ℕ) → lowest plan e ≡ true → stage t e ≡ Sweep j → within plan e b ≡ true → j ≤ b → stage s a ≡ Sweep k → (i : ℕ) × ((stage s e ≡ Sweep i) × ((i ≤ b) × (block_at t b ≡ block_at s b)))
  ahead_same b e j le h inb lt at =
      of_each (λ x. stage t x ≡ Sweep j → within plan x b ≡ true → (i : ℕ) × ((stage s x ≡ Sweep i) × ((i ≤ b) × (block_at t b ≡ block_at s b))))
      (λ h i. let now = next_slot j h in (k, (at, (omega (arith, now, lt), sw.others b (within_first plan a b i) (λ e. omega (arith, now, lt, e))))))
      (λ x _ same slots h i. (j, (sym (ap (λ c. c.stage) same) ∙ h, (lt, slots b i)))) e le h inb

module _ (plan : Layout) (law : Lawful plan) (a : ℕ) (low : lowest plan a ≡ true) (w : World) (sound : Sound plan w.memory) (safe : Safe plan w) (k : ℕ) (at : stage w.memory a ≡ Sweep k) where
  module _ (t : Memory) (inside : within plan a k ≡ true) (sw : Sweeps plan law a low k w.memory t) where
    -- a slot whose block is known not to be white where the sweep stands
    stays : (b : ℕ) → 1 ≤ b → (within plan a b ≡ true → k ≤ b → white w.memory b ≡ false) → Stays (block_at w.memory b) (block_at t b)
    stays b h dark = dark_stays plan law a low w.memory t k sw b h (λ here. dark (subst (λ c. within plan a c ≡ true) (sym here) inside) (omega (arith, here)))

    -- a reachable block stays, and so does one that has an entry
    reached_stays : (b : ℕ) → Reach w.memory b → Stays (block_at w.memory b) (block_at t b)
    reached_stays b r = stays b (reached_first plan w.memory sound b r) (λ i ahead. safe.swept_reached a b k low at i ahead r)

    entered_stays : (b m : ℕ) → 1 ≤ b → 2 ≤ m → m ≤ top plan → entry w.memory b m ≡ true → Stays (block_at w.memory b) (block_at t b)
    entered_stays b m h lo hi there = stays b h (λ i ahead. safe.swept_entered a b k m low at i ahead lo hi there)

    reach : (b : ℕ) → Reach t b → Reach w.memory b
    reach = swept_reach plan law a low w.memory t k sw

    points : (p b : ℕ) → Points t p b → Points w.memory p b
    points = swept_points plan law a low w.memory t k sw

    told : (l : ℕ) (P Q : ℕ → Type 0) → l ≤ top plan → ((b : ℕ) → Q b → P b) → Told plan w l P → Told plan (record { memory = t; waits = w.waits }) l Q
    told l P Q hl back h b c q pointer lo hi there =
        let was = points b c pointer in
        let entered = swept_entry plan law a low w.memory t k sw c (level_of plan b c) there in
        let same = (entered_stays c (level_of plan b c) (numbered_first _ c (sound.pointed_slots b c was)) lo (omega (arith, hi, hl)) entered).mark_same (level_of plan b c) l in
        ap (λ x. x || w.waits c (level_of plan b c) l) same ∙ h b c (back b q) was lo hi entered

    passing : (e L : ℕ) → lowest plan e ≡ true → stage t e ≡ Pass L → (stage w.memory e ≡ Pass L) × ((b : ℕ) → within plan e b ≡ true → block_at t b ≡ block_at w.memory b)
    passing = passing_same plan law a low w.memory t k inside sw

    status_was : (e l : ℕ) → lowest plan e ≡ true → status t e l ≡ status w.memory e l
    status_was = status_same plan law a low w.memory t k inside sw

    marking_was : (e l : ℕ) → marks_above plan t e l ≡ marks_above plan w.memory e l
    marking_was = marks_above_is plan a w.memory t sw.only

    -- the slot behind which the sweep now stands has no black block
    black_here : black t k ≡ false
    black_here = of (block_at w.memory k) refl
      where
        of : (o : Option Block) → block_at w.memory k ≡ o → black t k ≡ false
        of None e = ap black_in (sw.free e)
        of (Some x) e =
            ⊎_elim (λ (is : white w.memory k ≡ true). ap black_in (sw.freed is)) (λ (dark : white w.memory k ≡ false). ap black_in (sw.whitened x e dark)) (cases_Bool (white w.memory k))

    black_behind : (e b j : ℕ) → lowest plan e ≡ true → stage t e ≡ Sweep j → within plan e b ≡ true → b < j → black t b ≡ false
    black_behind e b j le h i lt =
        of_each plan law a low w.memory t k inside sw (λ x. stage t x ≡ Sweep j → within plan x b ≡ true → black t b ≡ false)
        (λ now inb.
        ⊎_elim (λ (here : b ≡ k). subst (λ c. black t c ≡ false) (sym here) black_here)
        (λ (ne : b ≡ k → ⊥).
        let next = next_slot plan law a low w.memory t k inside sw j now in
        let earlier : b < k = before ne next in
        ap black_in (sw.others b (within_first plan a b inb) ne) ∙ safe.no_black_behind a b k low at inb earlier)
        (cases_eq b k))
        (λ x lx same slots now inb. ap black_in (slots b inb) ∙ safe.no_black_behind x b j lx (sym (ap (λ c. c.stage) same) ∙ now) inb lt) e le h i
      where
        before : (b ≡ k → ⊥) → j ≡ k + 1 → b < k
        before ne next = ⊎_elim (λ (l : b < k). l) (λ (g : k ≤ b). absurd (ne (omega (arith, g, next, lt)))) (cases_lt b k)

    covering : (e l : ℕ) → lowest plan e ≡ true → HasCovered t e l → HasCovered w.memory e l
    covering e l = of_each plan law a low w.memory t k inside sw (λ x. HasCovered t x l → HasCovered w.memory x l) here
        (λ x lx same _. covered_same w.memory t x l (ap (λ c. c.stage) same) (status_was x l lx)) e
      where
        here : HasCovered t a l → HasCovered w.memory a l
        here (has_ended_round h) = has_ended_round (sym (status_was a l low) ∙ h)
        here (pass_over h _) = pass_over (sym (status_was a l low) ∙ h) (sweeping k at)

    swept_safe : Safe plan (record { memory = t; waits = w.waits })
    swept_safe =
        record {
          alive = λ b r. (reached_stays b (reach b r)).used_same ∙ safe.alive b (reach b r);
          entered = λ p b r q lo. (reached_stays b (step (reach p r) (points p b q))).entry_same (level_of plan p b) ∙ safe.entered p b (reach p r) (points p b q) lo;
          settable = λ b m l h.
              let can = safe.settable b m l h in
              let same = entered_stays b m (numbered_first _ b can.0) can.1 (omega (arith, can.2, can.3)) can.4 in
              (can.0, can.1, can.2, can.3, same.entry_same m ∙ can.4, same.mark_same m l ∙ can.5);
          no_black_at_rest = λ e b le h i.
              let was = resting_same plan law a low w.memory t k inside sw e le h in
              ap black_in (was.1 b i) ∙ safe.no_black_at_rest e b le was.0 i;
          no_black_behind = λ e b j le h i lt. black_behind e b j le h i lt;
          rooted = λ e b L le h i r.
              let was = passing e L le h in
              ap white_in (was.1 b i) ∙ safe.rooted e b L le was.0 i (swept_root plan law a low w.memory t k sw b r);
          inner = λ e b c L le h i j dark q.
              let was = passing e L le h in
              ap white_in (was.1 c j) ∙ safe.inner e b c L le was.0 i j (sym (ap black_in (was.1 b i)) ∙ dark) (points b c q);
          shaded_by_entry = λ e b m L le h i lo hi there.
              let was = passing e L le h in
              ap white_in (was.1 b i) ∙ safe.shaded_by_entry e b m L le was.0 i lo hi (swept_entry plan law a low w.memory t k sw b m there);
          shaded_by_mark = λ e b m j L le h i lo mj hi lj set.
              let was = passing e L le h in
              ap white_in (was.1 b i) ∙ safe.shaded_by_mark e b m j L le was.0 i lo mj hi lj (swept_mark plan law a low w.memory t k sw b m j set);
          swept_reached = λ e b j le h i ahead r.
              let was = ahead_same plan law a low w.memory t k inside sw b e j le h i ahead at in
              ap white_in was.1.1.1 ∙ safe.swept_reached e b was.0 le was.1.0 i was.1.1.0 (reach b r);
          swept_entered = λ e b j m le h i ahead lo hi there.
              let was = ahead_same plan law a low w.memory t k inside sw b e j le h i ahead at in
              ap white_in was.1.1.1 ∙ safe.swept_entered e b was.0 m le was.1.0 i was.1.1.0 lo hi (swept_entry plan law a low w.memory t k sw b m there);
          begun_runs = λ e l le lo hi h r. safe.begun_runs e l le lo hi (sym (status_was e l le) ∙ h) (resting_same plan law a low w.memory t k inside sw e le r).0;
          begun_sends = λ e l le lo hi h m.
              sends_same plan law a low w.memory t k inside sw e l le ∙ safe.begun_sends e l le lo hi (sym (status_was e l le) ∙ h) (sym (marking_was e l) ∙ m);
          sends_marking = λ e l le lo hi h. marking_was e l ∙ safe.sends_marking e l le lo hi (sym (sends_same plan law a low w.memory t k inside sw e l le) ∙ h);
          scanned = λ e l L le lo hi m h p ll.
              let was = passing e L le p in
              told l (λ b. (within plan e b ≡ true) × (black w.memory b ≡ true)) (λ b. (within plan e b ≡ true) × (black t b ≡ true)) hi (λ b q. (q.0, sym (ap black_in (was.1 b q.0)) ∙ q.1))
              (safe.scanned e l L le lo hi (sym (marking_was e l) ∙ m) (sym (status_was e l le) ∙ h) was.0 ll);
          covered = λ e l le lo hi m h.
              ⊎_elim (λ (waiting : SomeWaits plan w e l). inl waiting)
              (λ (all : Told plan w l (LocallyCovered plan w.memory e l)). inr (told l (LocallyCovered plan w.memory e l) (LocallyCovered plan t e l) hi (local_was plan law a low w.memory t k inside sw e l) all))
              (safe.covered e l le lo hi (sym (marking_was e l) ∙ m) (covering e l le h));
          kept = λ e p b l le lo hi m h i r q level.
              let same = (reached_stays b (step (reach p r) (points p b q))).mark_same l l in
              ap (λ x. x || w.waits b l l) same ∙ safe.kept e p b l le lo hi (sym (marking_was e l) ∙ m) (sym (status_was e l le) ∙ h) i (reach p r) (points p b q) level;
        }

  -- The sweep of one slot.
  pub sweep_keeps : leb k (last_of plan a) ≡ true → Safe plan (on_memory (λ s. swept_on a k (slot_swept a k (block_at s k) s)) w)
  sweep_keeps ahead =
      let inside : within plan a k ≡ true = and_from _ _ (le-leb _ _ (sound.sweeps_inside a k low at)) ahead in
      swept_safe (swept_on a k (slot_swept a k (block_at w.memory k) w.memory)) inside (sweeps plan law a low w.memory sound.shape k inside)

  -- A turn in the sweep: of one slot, or behind the last one the end of the round.
  pub sweep_turn_keeps : Safe plan (sweep_turn plan a k w)
  sweep_turn_keeps =
      cond_both (leb k (last_of plan a)) _ _ (Safe plan) sweep_keeps (λ past. ended_keeps plan law a low w sound safe k at (leb-false _ _ past))
