-- The start of a round keeps what keeps reachable blocks from being swept.
use Rattle.std.proofs.Common.{◌≡◌, ℕ, ◌<◌, ◌≤◌, Bool, true, false, not, ◌&&◌, leb, ◌⊎◌, sym, refl, ap, ◌∙◌, subst, inl, inr, ⊎_elim, arith}
use Rattle.std.proofs.lemmas.Bool.{cases_Bool, and_parts, and_from, and_left, and_right, or_cases, or_left, or_right, le-leb, false≢true, not-true, not_from_true, not_from_false}
use Rattle.state.specs.declared.collector.Stage.{Stage}
use Rattle.state.specs.declared.collector.Stage.TheVariants.{Resting, Pass, Sweep}
use Rattle.state.specs.declared.collector.Status.{Status}
use Rattle.state.specs.declared.collector.Status.TheVariants.{Unstarted, Begun}
use Rattle.state.specs.Layout.{Layout, top, lowest, within, level_of}
use Rattle.state.specs.Lawful.{Lawful}
use Rattle.state.specs.Memory.{Memory, World, phase_at, is_marking}
use Rattle.state.specs.Turns.{recovers_at, begun, drained, round_started}
use Rattle.state.specs.Pasts.{Points}
use Rattle.laws.specs.Roots.{Root, Reach}
use Rattle.laws.specs.Views.{white, black, entry, mark, mark_or_waits, stage, status, sends, marks_above}
use Rattle.laws.specs.Invariant.{Told, lower_pass, sweeping, HasCovered, has_ended_round, pass_over, SomeWaits}
use Rattle.laws.specs.Inductive.{LocallyCovered, Sound, Safe}
use Rattle.laws.proofs.Plans.{within_first, numbered_first, pointer_together, outside, by_area}
use Rattle.laws.proofs.Graphs.{SameGraph, used_back, points_back, root_back, reach_back}
use Rattle.laws.proofs.Parts.{by_mark, Drains, drains, Begins, begins}
use Rattle.laws.proofs.DrainKeeps.{drain_keeps, none_waits_after}
use Rattle.laws.proofs.Reached.{reached_slot}
use Rattle.laws.proofs.Stages.{rest_pass, pass_sweep, pass_is, is_unstarted_lem, begun_started, begun_ended}
use Rattle.laws.proofs.Flags.{stays_false}
use Rattle.laws.proofs.Covers.{local_inside, local_graph, covered_same, CanBeSet}
use Rattle.laws.proofs.Elsewhere.{marks_above_is, only_stage, only_status, only_sends}

-- Tests

spared : (i r : Bool) → (i ≡ true → r ≡ false) → (i && r) ≡ false
spared true r h = h refl
spared false r h = refl

-- The rest of the start, where no mark waits in the area.
module _ (plan : Layout) (law : Lawful plan) (a : ℕ) (low : lowest plan a ≡ true) (w v : World) (sound : Sound plan w.memory) (safe : Safe plan w)
    (rests : stage w.memory a ≡ Resting) (none : (b m l : ℕ) → within plan a b ≡ true → w.waits b m l ≡ false) (begins : Begins plan law a low w.memory v.memory)
    (same-waits : (b m l : ℕ) → v.waits b m l ≡ w.waits b m l) where
  abbrev was : Memory
  was = w.memory

  abbrev is : Memory
  is = v.memory

  entry_is : (b m : ℕ) → 1 ≤ b → 2 ≤ m → m ≤ top plan → entry is b m ≡ (entry was b m && not (within plan a b && (recovers_at plan was a m && not (mark was b m m))))
  entry_is b m hb lm hm = let high = law.high.1 in begins.entry_is b m hb lm (omega (arith, high))

  mark_is : (b m l : ℕ) → 1 ≤ b → 2 ≤ m → m ≤ l → l ≤ top plan → mark is b m l ≡ (entry is b m && (mark was b m l && not (within plan a b && recovers_at plan was a l)))
  mark_is b m l hb lm ml hl = let high = law.high.1 in begins.mark_is b m l hb lm (omega (arith, high)) (omega arith) (omega (arith, high))

  -- no entry and no mark is made
  entry_back : (b m : ℕ) → 1 ≤ b → 2 ≤ m → m ≤ top plan → entry is b m ≡ true → entry was b m ≡ true
  entry_back b m hb lm hm there = (and_parts (entry was b m) _ (sym (entry_is b m hb lm hm) ∙ there)).0

  mark_back : (b m l : ℕ) → 1 ≤ b → 2 ≤ m → m ≤ l → l ≤ top plan → mark is b m l ≡ true → mark was b m l ≡ true
  mark_back b m l hb lm ml hl set = (and_parts (mark was b m l) _ (and_parts (entry is b m) _ (sym (mark_is b m l hb lm ml hl) ∙ set)).1).0

  -- what is neither in the area nor recovered stays
  mark_kept : (b m l : ℕ) → 1 ≤ b → 2 ≤ m → m ≤ l → l ≤ top plan → (within plan a b ≡ true → recovers_at plan was a l ≡ false) → entry is b m ≡ true →
      mark_or_waits w b m l ≡ true → mark_or_waits v b m l ≡ true
  mark_kept b m l hb lm ml hl unless there h =
      ⊎_elim
      (λ (set : mark was b m l ≡ true). or_left _ _ (mark_is b m l hb lm ml hl ∙ and_from _ _ there (and_from _ _ set (not_from_false _ (spared (within plan a b) _ unless)))))
      (λ (waits : w.waits b m l ≡ true). or_right _ _ (same-waits b m l ∙ waits))
      (or_cases _ _ h)

  above_is : (e l : ℕ) → marks_above plan is e l ≡ marks_above plan was e l
  above_is = marks_above_is plan a was is begins.only

  recovers_when : (l : ℕ) → recovers_at plan was a l ≡ true → (marks_above plan was a l ≡ false) × (status was a l ≡ Unstarted)
  recovers_when l h =
      let p = and_parts (leb l (top plan) && not (marks_above plan was a l)) _ h in
      (not-true _ (and_parts (leb l (top plan)) _ p.0).1, is_unstarted_lem _ p.1)

  -- An entry that a reachable pointer needs has its mark where it could be lost, as none waits.
  needed_kept : (p b m : ℕ) → Reach was p → Points was p b → level_of plan p b ≡ m → 2 ≤ m → m ≤ top plan → within plan a b ≡ true → (recovers_at plan was a m && not (mark was b m m)) ≡ false
  needed_kept p b m r q level lm hm inside =
      elim (cases_Bool (recovers_at plan was a m)) [
        | inl h ↦
            let c = recovers_when m h in
            and_right _ _
            (not_from_true _
            (⊎_elim
            (λ (set : mark was b m m ≡ true). set)
            (λ (waits : w.waits b m m ≡ true). absurd (false≢true (sym (none b m m inside) ∙ waits)))
            (or_cases _ _ (safe.kept a p b m low lm hm c.0 c.1 inside r q level))))
        | inr h ↦ and_left _ _ h
      ]

  entered_after : (p b : ℕ) → Reach was p → Points was p b → 2 ≤ level_of plan p b → entry is b (level_of plan p b) ≡ true
  entered_after p b r q lm =
      let nb = sound.pointed_slots p b q in
      let hm = (law.level_within p b (reached_slot plan was sound p r) nb).1 in
      entry_is b (level_of plan p b) (numbered_first _ b nb) lm hm ∙
      and_from _ _ (safe.entered p b r q lm) (not_from_false _ (spared (within plan a b) _ (needed_kept p b (level_of plan p b) r q refl lm hm)))

  -- a pointer's mark of a level at which the area above its source is marking is not cleared
  told_kept : (e b c l : ℕ) → lowest plan e ≡ true → within plan e b ≡ true → l ≤ top plan → marks_above plan was e l ≡ true → Points was b c → 2 ≤ level_of plan b c → level_of plan b c ≤ l →
      entry is c (level_of plan b c) ≡ true → mark_or_waits w c (level_of plan b c) l ≡ true → mark_or_waits v c (level_of plan b c) l ≡ true
  told_kept e b c l le inside hl above q lm ml there h =
      mark_kept c (level_of plan b c) l (numbered_first _ c (sound.pointed_slots b c q)) lm ml hl marking there h
    where
      marking : within plan a c ≡ true → recovers_at plan was a l ≡ false
      marking here =
          let together = pointer_together plan law e a b c l le low inside here ml in
          and_left _ _ (and_right (leb l (top plan)) _ (not_from_true _ (sym (ap (λ x. is_marking (phase_at was x)) together) ∙ above)))

  told_after : (e l : ℕ) → lowest plan e ≡ true → l ≤ top plan → marks_above plan was e l ≡ true → (P Q : ℕ → Type 0) → ((b : ℕ) → Q b → P b) →
      ((b : ℕ) → P b → within plan e b ≡ true) → Told plan w l P → Told plan v l Q
  told_after e l le hl above P Q back inside told b c q points lm ml there =
      let points-was = points_back was is begins.graph b c points in
      let hc = numbered_first _ c (sound.pointed_slots b c points-was) in
      told_kept e b c l le (inside b (back b q)) hl above points-was lm ml there
      (told b c (back b q) points-was lm ml (entry_back c (level_of plan b c) hc lm (omega (arith, ml, hl)) there))

  status_here : (l : ℕ) → 2 ≤ l → l ≤ top plan → status is a l ≡ begun true (status was a l)
  status_here l ll hl = let high = law.high.1 in begins.status_is l ll (omega (arith, high)) ∙ ap (λ t. begun t (status was a l)) (le-leb _ _ hl)

  sends_here : (l : ℕ) → 2 ≤ l → l ≤ top plan → sends is a l ≡ marks_above plan is a l
  sends_here l ll hl =
      let high = law.high.1 in
      begins.sends_is l ll (omega (arith, high)) ∙ ap (λ t. t && marks_above plan was a l) (le-leb _ _ hl) ∙ sym (above_is a l)

  -- the area has passed no level yet
  covered_here_back : (l : ℕ) → 2 ≤ l → l ≤ top plan → HasCovered is a l → HasCovered was a l
  covered_here_back l ll hl (has_ended_round q) = has_ended_round (begun_ended true _ (sym (status_here l ll hl) ∙ q))
  covered_here_back l ll hl (pass_over q (lower_pass L at h)) = let same = pass_is (stage is a) (top plan) L begins.stage_is at in absurd (omega (arith, same, h, hl))
  covered_here_back l ll hl (pass_over q (sweeping k at)) = absurd (pass_sweep (stage is a) (top plan) k begins.stage_is at)

  stage_was : {x : Stage} (e : ℕ) → lowest plan e ≡ true → (e ≡ a → ⊥) → stage is e ≡ x → stage was e ≡ x
  stage_was e le ne at = sym (only_stage plan a was is begins.only e le ne) ∙ at

  status_was : {x : Status} (e l : ℕ) → lowest plan e ≡ true → (e ≡ a → ⊥) → status is e l ≡ x → status was e l ≡ x
  status_was e l le ne at = sym (only_status plan a was is begins.only e l le ne) ∙ at

  covered_back : (e l : ℕ) → lowest plan e ≡ true → 2 ≤ l → l ≤ top plan → HasCovered is e l → HasCovered was e l
  covered_back e l le ll hl = by_area (λ x. HasCovered is x l → HasCovered was x l) a e (covered_here_back l ll hl)
      (λ ne. covered_same was is e l (only_stage plan a was is begins.only e le ne) (only_status plan a was is begins.only e l le ne))

  locally_back : (e l : ℕ) → 2 ≤ l → l ≤ top plan → (b : ℕ) → LocallyCovered plan is e l b → LocallyCovered plan was e l b
  locally_back e l ll hl =
      local_graph plan was is e l begins.graph
      (λ b m inside lm hm there. entry_back b m (within_first plan e b inside) (omega arith) hm there)
      (λ b m inside lm ml set. mark_back b m l (within_first plan e b inside) lm ml hl set)

  covered_after : (e l : ℕ) → lowest plan e ≡ true → 2 ≤ l → l ≤ top plan → marks_above plan was e l ≡ true → HasCovered is e l → SomeWaits plan v e l ⊎ Told plan v l (LocallyCovered plan is e l)
  covered_after e l le ll hl above over =
      ⊎_elim
      (λ (some : SomeWaits plan w e l). inl (some.0, (some.1.0, (some.1.1.0, same-waits some.0 some.1.0 l ∙ some.1.1.1))))
      (λ (told : Told plan w l (LocallyCovered plan was e l)). inr (told_after e l le hl above (LocallyCovered plan was e l) (LocallyCovered plan is e l) (locally_back e l ll hl) (local_inside plan was e l) told))
      (safe.covered e l le ll hl above (covered_back e l le ll hl over))

  -- what was not white is not
  white_after : (e b : ℕ) → within plan e b ≡ true → white was b ≡ false → white is b ≡ false
  white_after e b inside = stays_false (begins.white_back b (within_first plan e b inside))

  black_is : (e b : ℕ) → within plan e b ≡ true → black is b ≡ black was b
  black_is e b inside = begins.black_is b (within_first plan e b inside)

  -- no block of the area is black
  none_black : (b : ℕ) → within plan a b ≡ true → black is b ≡ true → ⊥
  none_black b inside dark = false≢true (sym (safe.no_black_at_rest a b low rests inside) ∙ sym (black_is a b inside) ∙ dark)

  -- an area that rests or sweeps is another
  rests_elsewhere : (e : ℕ) → stage is e ≡ Resting → e ≡ a → ⊥
  rests_elsewhere e at q = rest_pass (stage is a) (top plan) (subst (λ x. stage is x ≡ Resting) q at) begins.stage_is

  sweeps_elsewhere : (e k : ℕ) → stage is e ≡ Sweep k → e ≡ a → ⊥
  sweeps_elsewhere e k at q = pass_sweep (stage is a) (top plan) k begins.stage_is (subst (λ x. stage is x ≡ Sweep k) q at)

  top_pass : (L : ℕ) → stage is a ≡ Pass L → top plan ≡ L
  top_pass L at = pass_is (stage is a) (top plan) L begins.stage_is at

  settable_after : (b m l : ℕ) → v.waits b m l ≡ true → CanBeSet plan is b m l
  settable_after b m l waits =
      let waited = sym (same-waits b m l) ∙ waits in
      let (n, lm, ml, hl, there, clear) = safe.settable b m l waited in
      let hb = numbered_first _ b n in
      let elsewhere : within plan a b ≡ true → (recovers_at plan was a m && not (mark was b m m)) ≡ false = λ inside. absurd (false≢true (sym (none b m l inside) ∙ waited)) in (
        n,
        lm,
        ml,
        hl,
        entry_is b m hb lm (omega (arith, ml, hl)) ∙ and_from _ _ there (not_from_false _ (spared (within plan a b) _ elsewhere)),
        mark_is b m l hb lm ml hl ∙ and_right (entry is b m) _ (and_left _ _ clear),
      )

  rooted_after : (e b L : ℕ) → lowest plan e ≡ true → stage is e ≡ Pass L → within plan e b ≡ true → Root was b → white is b ≡ false
  rooted_after e b L le at inside r =
      by_area (λ x. within plan x b ≡ true → white is b ≡ false) a e
      (λ here. begins.rooted b here r)
      (λ ne here. white_after e b here (safe.rooted e b L le (stage_was e le ne at) here r))
      inside

  inner_after : (e b c L : ℕ) → lowest plan e ≡ true → stage is e ≡ Pass L → within plan e b ≡ true → within plan e c ≡ true → black is b ≡ true → Points was b c → white is c ≡ false
  inner_after e b c L le at ib ic dark q =
      by_area (λ x. within plan x b ≡ true → white is c ≡ false) a e
      (λ here. absurd (none_black b here dark))
      (λ ne here. white_after e c ic (safe.inner e b c L le (stage_was e le ne at) here ic (sym (black_is e b here) ∙ dark) q))
      ib

  -- pass H shades the area's blocks with an entry above H, of which there is none, or with a mark of level H
  shaded_entry : (e b m L : ℕ) → lowest plan e ≡ true → stage is e ≡ Pass L → within plan e b ≡ true → L < m → m ≤ top plan → entry is b m ≡ true → white is b ≡ false
  shaded_entry e b m L le at inside lm hm there =
      by_area (λ x. stage is x ≡ Pass L → white is b ≡ false) a e
      (λ here. let same = top_pass L here in absurd (omega (arith, same, lm, hm)))
      (λ ne h.
      let from = (sound.passes_inside e L le (stage_was e le ne h)).0 in
      white_after e b inside (safe.shaded_by_entry e b m L le (stage_was e le ne h) inside lm hm (entry_back b m (within_first plan e b inside) (omega (arith, from, lm)) hm there)))
      at

  shaded_mark : (e b m j L : ℕ) → lowest plan e ≡ true → stage is e ≡ Pass L → within plan e b ≡ true → 2 ≤ m → m ≤ j → j ≤ top plan → L ≤ j → mark is b m j ≡ true → white is b ≡ false
  shaded_mark e b m j L le at inside lm mj hj h set =
      by_area (λ x. stage is x ≡ Pass L → within plan x b ≡ true → white is b ≡ false) a e
      (λ here ib.
      let same = top_pass L here in
      let level : j ≡ top plan = omega (arith, same, h, hj) in
      let high = law.high.1 in
      begins.entered b ib (by_mark m lm (omega (arith, mj, hj, high)) (subst (λ x. mark is b m x ≡ true) level set)))
      (λ ne _ ib. white_after e b ib (safe.shaded_by_mark e b m j L le (stage_was e le ne at) ib lm mj hj h (mark_back b m j (within_first plan e b ib) lm mj hj set)))
      at inside

  begun_sends_after : (e l : ℕ) → lowest plan e ≡ true → 2 ≤ l → l ≤ top plan → status is e l ≡ Begun → marks_above plan is e l ≡ true → sends is e l ≡ true
  begun_sends_after e l le ll hl b above =
      by_area (λ x. marks_above plan is x l ≡ true → sends is x l ≡ true) a e
      (λ up. sends_here l ll hl ∙ up)
      (λ ne up. only_sends plan a was is begins.only e l le ne ∙ safe.begun_sends e l le ll hl (status_was e l le ne b) (sym (above_is e l) ∙ up))
      above

  sends_marking_after : (e l : ℕ) → lowest plan e ≡ true → 2 ≤ l → l ≤ top plan → sends is e l ≡ true → marks_above plan is e l ≡ true
  sends_marking_after e l le ll hl sent =
      by_area (λ x. sends is x l ≡ true → marks_above plan is x l ≡ true) a e
      (λ h. sym (sends_here l ll hl) ∙ h)
      (λ ne h. above_is e l ∙ safe.sends_marking e l le ll hl (sym (only_sends plan a was is begins.only e l le ne) ∙ h))
      sent

  scanned_after : (e l L : ℕ) → lowest plan e ≡ true → 2 ≤ l → l ≤ top plan → marks_above plan was e l ≡ true → status is e l ≡ Begun → stage is e ≡ Pass L → l ≤ L →
      Told plan v l (λ b. (within plan e b ≡ true) × (black is b ≡ true))
  scanned_after e l L le ll hl above b at h =
      by_area (λ x. Told plan v l (λ y. (within plan x y ≡ true) × (black is y ≡ true))) a e
      (λ x c d. absurd (none_black x d.0 d.1))
      (λ ne.
      told_after e l le hl above (λ y. (within plan e y ≡ true) × (black was y ≡ true)) (λ y. (within plan e y ≡ true) × (black is y ≡ true))
      (λ y d. (d.0, sym (black_is e y d.0) ∙ d.1)) (λ y d. d.0)
      (safe.scanned e l L le ll hl above (status_was e l le ne b) (stage_was e le ne at) h))

  kept_after : (e p b l : ℕ) → lowest plan e ≡ true → 2 ≤ l → l ≤ top plan → marks_above plan was e l ≡ false → status is e l ≡ Unstarted → within plan e b ≡ true →
      Reach was p → Points was p b → level_of plan p b ≡ l → mark_or_waits v b l l ≡ true
  kept_after e p b l le ll hl above unstarted inside r q level =
      by_area (λ x. status is x l ≡ Unstarted → mark_or_waits v b l l ≡ true) a e
      (λ h. absurd (begun_started _ (sym (status_here l ll hl) ∙ h)))
      (λ ne h.
      let out = outside plan law a e b low le ne inside in
      let there = subst (λ m. 2 ≤ m → entry is b m ≡ true) level (entered_after p b r q) ll in
      mark_kept b l l (within_first plan e b inside) ll (omega arith) hl (λ here. absurd (false≢true (sym out ∙ here))) there
      (safe.kept e p b l le ll hl above (status_was e l le ne h) inside r q level))
      unstarted

  pub begin_keeps : Safe plan v
  begin_keeps =
      record {
        alive = λ b r. used_back was is g b ∙ safe.alive b (reach_back was is g b r);
        entered = λ p b r q lm. entered_after p b (reach_back was is g p r) (points_back was is g p b q) lm;
        settable = settable_after;
        no_black_at_rest = λ e b le at inside. black_is e b inside ∙ safe.no_black_at_rest e b le (stage_was e le (rests_elsewhere e at) at) inside;
        no_black_behind = λ e b k le at inside h. black_is e b inside ∙ safe.no_black_behind e b k le (sweep_was e k le at) inside h;
        rooted = λ e b L le at inside r. rooted_after e b L le at inside (root_back was is g b r);
        inner = λ e b c L le at ib ic dark q. inner_after e b c L le at ib ic dark (points_back was is g b c q);
        shaded_by_entry = shaded_entry;
        shaded_by_mark = shaded_mark;
        swept_reached = λ e b k le at inside h r. white_after e b inside (safe.swept_reached e b k le (sweep_was e k le at) inside h (reach_back was is g b r));
        swept_entered = λ e b k m le at inside h lm hm there.
            white_after e b inside (safe.swept_entered e b k m le (sweep_was e k le at) inside h lm hm (entry_back b m (within_first plan e b inside) lm hm there));
        begun_runs = λ e l le ll hl b at. let ne = rests_elsewhere e at in safe.begun_runs e l le ll hl (status_was e l le ne b) (stage_was e le ne at);
        begun_sends = begun_sends_after;
        sends_marking = sends_marking_after;
        scanned = λ e l L le ll hl above b at h. scanned_after e l L le ll hl (sym (above_is e l) ∙ above) b at h;
        covered = λ e l le ll hl above over. covered_after e l le ll hl (sym (above_is e l) ∙ above) over;
        kept = λ e p b l le ll hl above unstarted inside r q level.
            kept_after e p b l le ll hl (sym (above_is e l) ∙ above) unstarted inside (reach_back was is g p r) (points_back was is g p b q) level;
      }
    where
      g : SameGraph was is
      g = begins.graph

      sweep_was : (e k : ℕ) → lowest plan e ≡ true → stage is e ≡ Sweep k → stage was e ≡ Sweep k
      sweep_was e k le at = stage_was e le (sweeps_elsewhere e k at) at

-- The start of a round: the drain, then the rest.
pub start_keeps : (plan : Layout) (law : Lawful plan) (a : ℕ) (low : lowest plan a ≡ true) (w : World) → Sound plan w.memory → Sound plan (drained plan a w).memory → Safe plan w →
    stage w.memory a ≡ Resting → Safe plan (round_started plan a w)
start_keeps plan law a low w sound sound_drained safe rests =
    begin_keeps plan law a low v (round_started plan a w) sound_drained (drain_keeps plan law a low w v sound safe rests drain) (drain.stage_is ∙ rests)
    (none_waits_after plan law a low w v drain) (begins plan law a low v.memory sound_drained.shape) (λ b m l. refl)
  where
    v : World
    v = drained plan a w

    drain : Drains plan law a low w v
    drain = drains plan law a low w sound.shape
