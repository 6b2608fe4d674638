-- The end of a round and the tests of the phases keep the invariant.
use Rattle.std.proofs.Common.{◌≡◌, ℕ, zero, suc, ◌+◌, ◌-◌, ◌<◌, ◌≤◌, true, false, not, ◌&&◌, ◌⊎◌, length, sym, refl, ap, ◌∙◌, subst, inl, inr, ⊎_elim, arith}
use Rattle.std.proofs.lemmas.Bool.{cases_eq, cases_lt, and_parts, or_cases, cond_both, not-true, false≢true, true≢false}
use Rattle.chain.specs.Chain.{numbered}
use Rattle.plan.specs.Walk.{area_at}
use Rattle.state.specs.declared.collector.Stage.TheVariants.{Resting, Pass, Sweep}
use Rattle.state.specs.declared.collector.Status.TheVariants.{Unstarted, Begun, Ended}
use Rattle.state.specs.declared.collector.Phase.{Phase}
use Rattle.state.specs.declared.collector.Phase.TheVariants.{Marking, Recovering}
use Rattle.state.specs.Layout.{Layout, top, lowest, within, last_of, home, above, level_of}
use Rattle.state.specs.Lawful.{Lawful}
use Rattle.state.specs.Memory.{Memory, World, collector_at, phase_at, status_at, sends_at, is_marking}
use Rattle.state.specs.Turns.{on_memory, ended, round_over, all_ended, some_waits, phase_changed, phase_test, phase_tests, round_ended}
use Rattle.state.specs.Pasts.{Points}
use Rattle.laws.specs.Roots.{Reach, root, step}
use Rattle.laws.specs.Views.{black, mark_or_waits, stage, sends, marks_above, mark, status}
use Rattle.laws.specs.Invariant.{Told, sweeping, HasCovered, has_ended_round, pass_over, SomeWaits}
use Rattle.laws.specs.Inductive.{LocallyCovered, from_root, from_entry, from_mark, inward, Sound, Safe}
use Rattle.laws.proofs.Plans.{numbered_first, within_bounds, within_numbered, inside_level, one_home, pointer_together, by_area, within_over}
use Rattle.laws.proofs.Graphs.{SameGraph, graph_same, points_back, root_back, reach_back}
use Rattle.laws.proofs.Parts.{round_over_lem, Changes, changes, all_ended_lem, none_waits}
use Rattle.laws.proofs.Reached.{reached_slot}
use Rattle.laws.proofs.SoundTurns.{sound_tested, sound_round_over}
use Rattle.laws.proofs.Stages.{rest_pass, rest_sweep, unstarted_begun, unstarted_ended, never_begun, still_unstarted, ended_from}
use Rattle.laws.proofs.Covers.{local_graph, covered_same}
use Rattle.laws.proofs.Elsewhere.{collector_is}

-- Only collectors and phases change, so that no clause asks for more than it did; what was not asked before is given.
record Quiet (plan : Layout) (w : World) (t : Memory) : Type 0 where
  slots : t.slots ≡ w.memory.slots
  registers : t.registers ≡ w.memory.registers
  passes : (e L : ℕ) → lowest plan e ≡ true → stage t e ≡ Pass L → stage w.memory e ≡ Pass L
  sweeps : (e k : ℕ) → lowest plan e ≡ true → stage t e ≡ Sweep k → stage w.memory e ≡ Sweep k
  rests : (e b : ℕ) → lowest plan e ≡ true → stage t e ≡ Resting → within plan e b ≡ true → black w.memory b ≡ false
  runs : (e l : ℕ) → lowest plan e ≡ true → 2 ≤ l → l ≤ top plan → status t e l ≡ Begun → stage t e ≡ Resting → ⊥
  begun_sends : (e l : ℕ) → lowest plan e ≡ true → 2 ≤ l → l ≤ top plan → status t e l ≡ Begun → marks_above plan t e l ≡ true → sends t e l ≡ true
  sends_marking : (e l : ℕ) → lowest plan e ≡ true → 2 ≤ l → l ≤ top plan → sends t e l ≡ true → marks_above plan t e l ≡ true
  scanning : (e l L : ℕ) → lowest plan e ≡ true → 2 ≤ l → l ≤ top plan → marks_above plan t e l ≡ true → status t e l ≡ Begun → stage t e ≡ Pass L →
      (marks_above plan w.memory e l ≡ true) × (status w.memory e l ≡ Begun)
  covering : (e l : ℕ) → lowest plan e ≡ true → 2 ≤ l → l ≤ top plan → marks_above plan t e l ≡ true → HasCovered t e l → (marks_above plan w.memory e l ≡ true) × HasCovered w.memory e l
  keeping : (e p b l : ℕ) → lowest plan e ≡ true → 2 ≤ l → l ≤ top plan → marks_above plan t e l ≡ false → status t e l ≡ Unstarted → within plan e b ≡ true →
      Reach w.memory p → Points w.memory p b → level_of plan p b ≡ l → mark_or_waits w b l l ≡ true

module _ (plan : Layout) (w : World) (safe : Safe plan w) (t : Memory) (quiet : Quiet plan w t) where
  same_graph : SameGraph w.memory t
  same_graph = graph_same w.memory t quiet.slots quiet.registers

  local_was : (e l b : ℕ) → LocallyCovered plan t e l b → LocallyCovered plan w.memory e l b
  local_was e l = local_graph plan w.memory t e l same_graph (λ b m _ _ _ there. rw quiet.slots at there) (λ b m _ _ _ set. rw quiet.slots at set)

  told : (l : ℕ) (P Q : ℕ → Type 0) → ((b : ℕ) → Q b → P b) → Told plan w l P → Told plan (record { memory = t; waits = w.waits }) l Q
  told l P Q back h b c q points lo hi there = rw quiet.slots (h b c (back b q) (points_back w.memory t same_graph b c points) lo hi (rw quiet.slots at there))

  quiet_keeps : Safe plan (record { memory = t; waits = w.waits })
  quiet_keeps =
      record {
        alive = λ b r. rw quiet.slots (safe.alive b (reach b r));
        entered = λ p b r q lo. rw quiet.slots (safe.entered p b (reach p r) (points p b q) lo);
        settable = λ b m l h. rw quiet.slots (safe.settable b m l h);
        no_black_at_rest = λ e b low at i. rw quiet.slots (quiet.rests e b low at i);
        no_black_behind = λ e b k low at i lt. rw quiet.slots (safe.no_black_behind e b k low (quiet.sweeps e k low at) i lt);
        rooted = λ e b L low at i r. rw quiet.slots (safe.rooted e b L low (quiet.passes e L low at) i (root_back w.memory t same_graph b r));
        inner = λ e b c L low at i j dark q. rw quiet.slots (safe.inner e b c L low (quiet.passes e L low at) i j (rw quiet.slots at dark) (points b c q));
        shaded_by_entry = λ e b m L low at i lo hi there. rw quiet.slots (safe.shaded_by_entry e b m L low (quiet.passes e L low at) i lo hi (rw quiet.slots at there));
        shaded_by_mark = λ e b m j L low at i lo mj hi lj set. rw quiet.slots (safe.shaded_by_mark e b m j L low (quiet.passes e L low at) i lo mj hi lj (rw quiet.slots at set));
        swept_reached = λ e b k low at i h r. rw quiet.slots (safe.swept_reached e b k low (quiet.sweeps e k low at) i h (reach b r));
        swept_entered = λ e b k m low at i h lo hi there. rw quiet.slots (safe.swept_entered e b k m low (quiet.sweeps e k low at) i h lo hi (rw quiet.slots at there));
        begun_runs = quiet.runs;
        begun_sends = quiet.begun_sends;
        sends_marking = quiet.sends_marking;
        scanned = λ e l L low lo hi marking begun at ll.
            let was = quiet.scanning e l L low lo hi marking begun at in
            told l (λ b. (within plan e b ≡ true) × (black w.memory b ≡ true)) (λ b. (within plan e b ≡ true) × (black t b ≡ true)) (λ b h. (h.0, rw quiet.slots at h.1))
            (safe.scanned e l L low lo hi was.0 was.1 (quiet.passes e L low at) ll);
        covered = λ e l low lo hi marking has.
            let was = quiet.covering e l low lo hi marking has in
            ⊎_elim (λ (h : SomeWaits plan w e l). inl h) (λ (h : Told plan w l (LocallyCovered plan w.memory e l)). inr (told l (LocallyCovered plan w.memory e l) (LocallyCovered plan t e l) (local_was e l) h))
            (safe.covered e l low lo hi was.0 was.1);
        kept = λ e p b l low lo hi recovering unstarted i r q at. rw quiet.slots (quiet.keeping e p b l low lo hi recovering unstarted i (reach p r) (points p b q) at);
      }
    where
      reach : (b : ℕ) → Reach t b → Reach w.memory b
      reach = reach_back w.memory t same_graph

      points : (p b : ℕ) → Points t p b → Points w.memory p b
      points = points_back w.memory t same_graph

-- The end of a round

module _ (plan : Layout) (law : Lawful plan) (a : ℕ) (low : lowest plan a ≡ true) (w : World) (sound : Sound plan w.memory) where
  abbrev over : Memory
  over = round_over a w.memory

  rests_now : stage over a ≡ Resting
  rests_now = (round_over_lem plan law a low w.memory sound.shape).1.0

  status_now : (l : ℕ) → 2 ≤ l → l ≤ top plan → status over a l ≡ ended (status w.memory a l)
  status_now l lo hi = (round_over_lem plan law a low w.memory sound.shape).1.1.0 l lo (omega (arith, hi, law.high.1))

  sends_now : (l : ℕ) → 2 ≤ l → l ≤ top plan → sends over a l ≡ false
  sends_now l lo hi = (round_over_lem plan law a low w.memory sound.shape).1.1.1 l lo (omega (arith, hi, law.high.1))

  -- what holds of area a, and of each whose collector is as it was, holds of all
  of_each : (P : ℕ → Type 0) → P a → ((e : ℕ) → lowest plan e ≡ true → collector_at over e ≡ collector_at w.memory e → P e) → (e : ℕ) → lowest plan e ≡ true → P e
  of_each P here there e le = by_area P a e here (λ ne. there e le (collector_is plan a w.memory over (round_over_lem plan law a low w.memory sound.shape).0.only e le ne))

  over_passes : (e L : ℕ) → lowest plan e ≡ true → stage over e ≡ Pass L → stage w.memory e ≡ Pass L
  over_passes e L = of_each (λ x. stage over x ≡ Pass L → stage w.memory x ≡ Pass L) (λ h. absurd (rest_pass _ L rests_now h)) (λ x _ same h. sym (ap (λ c. c.stage) same) ∙ h) e

  over_sweeps : (e k : ℕ) → lowest plan e ≡ true → stage over e ≡ Sweep k → stage w.memory e ≡ Sweep k
  over_sweeps e k = of_each (λ x. stage over x ≡ Sweep k → stage w.memory x ≡ Sweep k) (λ h. absurd (rest_sweep _ k rests_now h)) (λ x _ same h. sym (ap (λ c. c.stage) same) ∙ h) e

  module _ (safe : Safe plan w) (k : ℕ) (at : stage w.memory a ≡ Sweep k) (past : last_of plan a < k) where
    covering_over : (l : ℕ) → 2 ≤ l → l ≤ top plan → HasCovered over a l → HasCovered w.memory a l
    covering_over l lo hi (has_ended_round e) =
        ⊎_elim (λ (begun : status w.memory a l ≡ Begun). pass_over begun (sweeping k at)) (λ (done : status w.memory a l ≡ Ended). has_ended_round done)
        (ended_from (status w.memory a l) (sym (status_now l lo hi) ∙ e))
    covering_over l lo hi (pass_over e _) = absurd (never_begun (status w.memory a l) (sym (status_now l lo hi) ∙ e))

    over_quiet : Quiet plan w over
    over_quiet =
        record {
          slots = refl;
          registers = refl;
          passes = over_passes;
          sweeps = over_sweeps;
          rests = λ e b. of_each (λ x. stage over x ≡ Resting → within plan x b ≡ true → black w.memory b ≡ false)
              (λ _ i. let ends = within_bounds plan a b i in safe.no_black_behind a b k low at i (omega (arith, ends.1, past)))
              (λ x lx same h i. safe.no_black_at_rest x b lx (sym (ap (λ c. c.stage) same) ∙ h) i) e;
          runs = λ e l le lo hi. of_each (λ x. status over x l ≡ Begun → stage over x ≡ Resting → ⊥)
              (λ h _. never_begun _ (sym (status_now l lo hi) ∙ h))
              (λ x lx same h r. safe.begun_runs x l lx lo hi (sym (ap (λ c. status_at c l) same) ∙ h) (sym (ap (λ c. c.stage) same) ∙ r)) e le;
          begun_sends = λ e l le lo hi. of_each (λ x. status over x l ≡ Begun → marks_above plan over x l ≡ true → sends over x l ≡ true)
              (λ h _. absurd (never_begun _ (sym (status_now l lo hi) ∙ h)))
              (λ x lx same h m. ap (λ c. sends_at c l) same ∙ safe.begun_sends x l lx lo hi (sym (ap (λ c. status_at c l) same) ∙ h) m) e le;
          sends_marking = λ e l le lo hi. of_each (λ x. sends over x l ≡ true → marks_above plan over x l ≡ true)
              (λ h. absurd (false≢true (sym (sends_now l lo hi) ∙ h)))
              (λ x lx same h. safe.sends_marking x l lx lo hi (sym (ap (λ c. sends_at c l) same) ∙ h)) e le;
          scanning = λ e l L le lo hi marking. of_each (λ x. marks_above plan over x l ≡ true → status over x l ≡ Begun → stage over x ≡ Pass L → (marks_above plan w.memory x l ≡ true) × (status w.memory x l ≡ Begun))
              (λ _ h _. absurd (never_begun _ (sym (status_now l lo hi) ∙ h)))
              (λ x lx same m h _. (m, sym (ap (λ c. status_at c l) same) ∙ h)) e le marking;
          covering = λ e l le lo hi marking. of_each (λ x. marks_above plan over x l ≡ true → HasCovered over x l → (marks_above plan w.memory x l ≡ true) × HasCovered w.memory x l)
              (λ m h. (m, covering_over l lo hi h))
              (λ x lx same m h. (m, covered_same w.memory over x l (ap (λ c. c.stage) same) (ap (λ c. status_at c l) same) h)) e le marking;
          keeping = λ e p b l le lo hi recovering unstarted.
              safe.kept e p b l le lo hi recovering
              (of_each (λ x. status over x l ≡ Unstarted → status w.memory x l ≡ Unstarted) (λ h. still_unstarted _ (sym (status_now l lo hi) ∙ h)) (λ x _ same h. sym (ap (λ c. status_at c l) same) ∙ h) e le unstarted);
        }

    pub over_keeps : Safe plan (on_memory (round_over a) w)
    over_keeps = quiet_keeps plan w safe over over_quiet

-- A phase changes

module _ (plan : Layout) (law : Lawful plan) (x l : ℕ) (n : numbered (length plan.areas) x ≡ true) (level : (area_at plan.areas x).level ≡ l) (lo : 2 ≤ l) (hi : l ≤ top plan)
    (w : World) (sound : Sound plan w.memory) (safe : Safe plan w) where
  -- All rounds have ended under a marking area and no mark of its level waits there.
  module _ (marking : phase_at w.memory x ≡ Marking) (all : all_ended plan x l w.memory ≡ true) (none : some_waits plan x l w ≡ false) where
    none_here : (e b m : ℕ) → lowest plan e ≡ true → above plan e l ≡ x → within plan e b ≡ true → 2 ≤ m → m ≤ 4 → w.waits b m l ≡ false
    none_here e b m le under i lm hm = none_waits plan law w sound.shape x l none b m (within_numbered plan law e b le i) (within_over plan law x l n level e b le under i) lm hm

    -- so each area there has told of all that it has covered
    all_told : (e : ℕ) → lowest plan e ≡ true → above plan e l ≡ x → Told plan w l (LocallyCovered plan w.memory e l)
    all_told e le under =
        ⊎_elim
        (λ (h : SomeWaits plan w e l).
        let m = h.1.0 in
        let can = safe.settable h.0 m l h.1.1.1 in
        absurd (false≢true (sym (none_here e h.0 m le under h.1.1.0 can.1 (omega (arith, can.2, can.3, law.high.1))) ∙ h.1.1.1)))
        (λ (h : Told plan w l (LocallyCovered plan w.memory e l)). h)
        (safe.covered e l le lo hi (ap is_marking (ap (phase_at w.memory) under ∙ marking)) (has_ended_round (all_ended_lem plan law w.memory sound.shape x l all e le under)))

    mark_set : (e b m : ℕ) → lowest plan e ≡ true → above plan e l ≡ x → within plan e b ≡ true → 2 ≤ m → m ≤ 4 → mark_or_waits w b m l ≡ true → mark w.memory b m l ≡ true
    mark_set e b m le under i lm hm h =
        ⊎_elim (λ (set : mark w.memory b m l ≡ true). set) (λ (waits : w.waits b m l ≡ true). absurd (false≢true (sym (none_here e b m le under i lm hm) ∙ waits))) (or_cases _ _ h)

    -- and every reachable block there is covered
    reached_local : (b : ℕ) → Reach w.memory b → (e : ℕ) → lowest plan e ≡ true → above plan e l ≡ x → within plan e b ≡ true → LocallyCovered plan w.memory e l b
    reached_local b (root r) e le under i = from_root i r
    reached_local b (step {p} r q) e le under i =
        let np = reached_slot plan w.memory sound p r in
        let nb = sound.pointed_slots p b q in
        let lp = (law.at_home p np).0 in
        let ip = (law.at_home p np).1 in
        let m = level_of plan p b in
        let ends = law.level_within p b np nb in
        ⊎_elim
        (λ (inner : m < 2).
        let same : home plan p ≡ e = one_home plan law (home plan p) e b lp le (inside_level plan law (home plan p) p b lp ip nb (omega (arith, inner))) i in
        inward (reached_local p r e le under (subst (λ y. within plan y p ≡ true) same ip)) q i (safe.alive b (step r q)))
        (λ (crossing : 2 ≤ m).
        let there = safe.entered p b r q crossing in
        ⊎_elim
        (λ (outer : l < m). from_entry m i outer ends.1 there)
        (λ (below : m ≤ l).
        let up = pointer_together plan law (home plan p) e p b l lp le ip i below ∙ under in
        let told = all_told (home plan p) lp up p b (reached_local p r (home plan p) lp up ip) q crossing below there in
        from_mark m i crossing below (mark_set e b m le under i crossing (omega (arith, ends.1, law.high.1)) told))
        (cases_lt l m))
        (cases_lt m 2)

    kept_at_end : (e p b : ℕ) → lowest plan e ≡ true → above plan e l ≡ x → within plan e b ≡ true → Reach w.memory p → Points w.memory p b → level_of plan p b ≡ l → mark_or_waits w b l l ≡ true
    kept_at_end e p b le under i r q at =
        let np = reached_slot plan w.memory sound p r in
        let lp = (law.at_home p np).0 in
        let ip = (law.at_home p np).1 in
        let up = pointer_together plan law (home plan p) e p b l lp le ip i (omega (arith, at)) ∙ under in
        let crossing : 2 ≤ level_of plan p b = omega (arith, at, lo) in
        subst (λ m. mark_or_waits w b m l ≡ true) at (all_told (home plan p) lp up p b (reached_local p r (home plan p) lp up ip) q crossing (omega (arith, at)) (safe.entered p b r q crossing))

  -- The new phase is q; where it is recovering, the marks of the level are there.
  module _ (q : Phase)
      (new : is_marking q ≡ false → (e p b : ℕ) → lowest plan e ≡ true → above plan e l ≡ x → within plan e b ≡ true → Reach w.memory p → Points w.memory p b → level_of plan p b ≡ l → mark_or_waits w b l l ≡ true) where
    abbrev changed : Memory
    changed = phase_changed plan x l q w.memory

    change : Changes plan x l q w.memory changed
    change = changes plan law w.memory sound.shape x l q n lo (omega (arith, hi, law.high.1))

    -- At level k lowest area e is as it was.
    record Same (e k : ℕ) : Type 0 where
      status_same : status changed e k ≡ status w.memory e k
      sends_same : sends changed e k ≡ sends w.memory e k
      phase_same : marks_above plan changed e k ≡ marks_above plan w.memory e k

    -- Level k of lowest area e is the one that changes.
    record Reset (e k : ℕ) : Type 0 where
      is_level : k ≡ l
      is_under : above plan e l ≡ x
      status_reset : status changed e k ≡ Unstarted
      sends_reset : sends changed e k ≡ false
      phase_reset : marks_above plan changed e k ≡ is_marking q

    reset_at_lem : (e k : ℕ) → lowest plan e ≡ true → k ≡ l → above plan e k ≡ x → Reset e k
    reset_at_lem e k le same up =
        let up-l : above plan e l ≡ x = ap (above plan e) (sym same) ∙ up in
        record {
          is_level = same;
          is_under = up-l;
          status_reset = ap (status changed e) same ∙ change.status_under e le up-l;
          sends_reset = ap (sends changed e) same ∙ change.sends_under e le up-l;
          phase_reset = ap (λ y. is_marking (phase_at changed y)) up ∙ ap is_marking change.phase;
        }

    same_at : (e k : ℕ) → lowest plan e ≡ true → 2 ≤ k → k ≤ top plan → (above plan e k ≡ x → ⊥) → Same e k
    same_at e k le lk hk ne =
        let other : k ≡ l → above plan e l ≡ x → ⊥ = λ same up. ne (ap (above plan e) same ∙ up) in
        let four : k ≤ 4 = omega (arith, hk, law.high.1) in
        record {
          status_same = change.status_others e k le lk four other;
          sends_same = change.sends_others e k le lk four other;
          phase_same = ap is_marking (change.phase_others (above plan e k) (numbered_first _ _ (law.above_area e k le (omega (arith, lk)) hk).0) ne);
        }

    -- the area above has one level, so only its own changes
    same_or_reset : (e k : ℕ) → lowest plan e ≡ true → 2 ≤ k → k ≤ top plan → Same e k ⊎ Reset e k
    same_or_reset e k le lk hk =
        ⊎_elim
        (λ (up : above plan e k ≡ x). inr (reset_at_lem e k le (sym (law.above_area e k le (omega (arith, lk)) hk).1 ∙ ap (λ y. (area_at plan.areas y).level) up ∙ level) up))
        (λ (ne : above plan e k ≡ x → ⊥). inl (same_at e k le lk hk ne))
        (cases_eq (above plan e k) x)

    covering_unstarted : (e k : ℕ) → status changed e k ≡ Unstarted → HasCovered changed e k → ⊥
    covering_unstarted e k u (has_ended_round h) = unstarted_ended _ u h
    covering_unstarted e k u (pass_over h _) = unstarted_begun _ u h

    stage_same : (e : ℕ) → lowest plan e ≡ true → stage changed e ≡ stage w.memory e
    stage_same e le = change.stage_is e le

    begun_same : (e k : ℕ) → lowest plan e ≡ true → 2 ≤ k → k ≤ top plan → status changed e k ≡ Begun → Same e k
    begun_same e k le lk hk h =
        ⊎_elim (λ (same : Same e k). same) (λ (reset : Reset e k). absurd (unstarted_begun _ reset.status_reset h)) (same_or_reset e k le lk hk)

    change_quiet : Quiet plan w changed
    change_quiet =
        record {
          slots = refl;
          registers = refl;
          passes = λ e L le h. sym (stage_same e le) ∙ h;
          sweeps = λ e k le h. sym (stage_same e le) ∙ h;
          rests = λ e b le h i. safe.no_black_at_rest e b le (sym (stage_same e le) ∙ h) i;
          runs = λ e k le lk hk h r. safe.begun_runs e k le lk hk (sym (begun_same e k le lk hk h).status_same ∙ h) (sym (stage_same e le) ∙ r);
          begun_sends = λ e k le lk hk h m.
              let same = begun_same e k le lk hk h in
              same.sends_same ∙ safe.begun_sends e k le lk hk (sym same.status_same ∙ h) (sym same.phase_same ∙ m);
          sends_marking = λ e k le lk hk h.
              ⊎_elim (λ (same : Same e k). same.phase_same ∙ safe.sends_marking e k le lk hk (sym same.sends_same ∙ h)) (λ (reset : Reset e k). absurd (false≢true (sym reset.sends_reset ∙ h)))
              (same_or_reset e k le lk hk);
          scanning = λ e k L le lk hk m h _.
              let same = begun_same e k le lk hk h in
              (sym same.phase_same ∙ m, sym same.status_same ∙ h);
          covering = λ e k le lk hk m h.
              ⊎_elim (λ (same : Same e k). (sym same.phase_same ∙ m, covered_same w.memory changed e k (stage_same e le) same.status_same h))
              (λ (reset : Reset e k). absurd (covering_unstarted e k reset.status_reset h))
              (same_or_reset e k le lk hk);
          keeping = λ e p b k le lk hk m h i r points at.
              ⊎_elim (λ (same : Same e k). safe.kept e p b k le lk hk (sym same.phase_same ∙ m) (sym same.status_same ∙ h) i r points at)
              (λ (reset : Reset e k). subst (λ y. mark_or_waits w b y y ≡ true) (sym reset.is_level) (new (sym reset.phase_reset ∙ m) e p b le reset.is_under i r points (at ∙ reset.is_level)))
              (same_or_reset e k le lk hk);
        }

    changed_keeps : Safe plan (on_memory (phase_changed plan x l q) w)
    changed_keeps = quiet_keeps plan w safe changed change_quiet

  -- The test of area x.
  pub change_keeps : (p : Phase) → phase_at w.memory x ≡ p → Safe plan (phase_test plan x l p w)
  change_keeps Marking at =
      cond_both (all_ended plan x l w.memory && not (some_waits plan x l w)) _ _ (Safe plan)
      (λ passed.
      let parts = and_parts (all_ended plan x l w.memory) (not (some_waits plan x l w)) passed in
      changed_keeps Recovering (λ _. kept_at_end at parts.0 (not-true _ parts.1)))
      (λ _. safe)
  change_keeps Recovering at = cond_both (all_ended plan x l w.memory) _ _ (Safe plan) (λ _. changed_keeps Marking (λ h. absurd (true≢false h))) (λ _. safe)

-- The tests, and the end of a round with them

module _ (plan : Layout) (law : Lawful plan) (a : ℕ) (low : lowest plan a ≡ true) where
  pub tests_keep : (n l : ℕ) → 2 ≤ l → l + n ≤ top plan + 1 → (w : World) → Sound plan w.memory → Safe plan w → Safe plan (phase_tests plan a n l w)
  tests_keep zero l lo hi w sound safe = safe
  tests_keep (suc n) l lo hi w sound safe =
      let x = above plan a l in
      let p = phase_at w.memory x in
      let at = law.above_area a l low (omega (arith, lo)) (omega (arith, hi)) in
      tests_keep n (l + 1) (omega (arith, lo)) (omega (arith, hi)) (phase_test plan x l p w) (sound_tested plan law x l p w sound)
      (change_keeps plan law x l at.0 at.1 lo (omega (arith, hi)) w sound safe p refl)

  pub ended_keeps : (w : World) → Sound plan w.memory → Safe plan w → (k : ℕ) → stage w.memory a ≡ Sweep k → last_of plan a < k → Safe plan (round_ended plan a w)
  ended_keeps w sound safe k at past =
      tests_keep (top plan - 1) 2 (omega arith) (omega (arith, law.high.0)) (on_memory (round_over a) w) (sound_round_over plan law a low w.memory sound) (over_keeps plan law a low w sound safe k at past)
