-- The drain of a lowest area at rest keeps what keeps reachable blocks from being swept.
use Rattle.std.proofs.Common.{◌≡◌, ℕ, ◌≤◌, Bool, true, false, not, ◌&&◌, ◌||◌, leb, ◌⊎◌, sym, refl, ap, ◌∙◌, subst, inl, inr, ⊎_elim, arith}
use Rattle.std.proofs.lemmas.Bool.{and_parts, and_from, and_left, and_right, or_cases, or_left, or_right, le-leb, false≢true, not-true, not_from_true, not_from_false}
use Rattle.state.specs.declared.collector.Stage.{Stage}
use Rattle.state.specs.declared.collector.Stage.TheVariants.{Resting, Pass}
use Rattle.state.specs.declared.collector.Status.{Status}
use Rattle.state.specs.declared.collector.Status.TheVariants.{Unstarted, Begun, Ended}
use Rattle.state.specs.Layout.{Layout, top, lowest, within, level_of}
use Rattle.state.specs.Lawful.{Lawful}
use Rattle.state.specs.Memory.{Memory, World}
use Rattle.state.specs.Turns.{marking_above, settable, newly_marked, restarted}
use Rattle.laws.specs.Views.{white, black, entry, mark, mark_or_waits, stage, status, sends, marks_above}
use Rattle.laws.specs.Invariant.{Told, HasCovered, has_ended_round, pass_over, SomeWaits}
use Rattle.laws.specs.Inductive.{LocallyCovered, Sound, Safe}
use Rattle.laws.proofs.Plans.{within_first, numbered_first, outside, by_area}
use Rattle.laws.proofs.Graphs.{SameGraph, used_back, points_back, root_back, reach_back}
use Rattle.laws.proofs.Parts.{Drains, newly_marked_lem}
use Rattle.laws.proofs.Stages.{rest_pass, restarted_not, unstarted_begun, unstarted_ended}
use Rattle.laws.proofs.Covers.{local_graph, passed_same, CanBeSet, told_same}
use Rattle.laws.proofs.Elsewhere.{marks_above_is, only_stage, only_status, only_sends}

-- Tests of a mark that is set (x), has an entry (e), lies inside (i), has a level (h), waits (t).

unset : (x e i t : Bool) → i ≡ false → (x || (e && (i && t))) ≡ x
unset true e i t h = refl
unset false true i t h = and_left i t h
unset false false i t h = refl

came : (x e i h t : Bool) → (x || (e && (i && (h && t)))) ≡ true → (x ≡ true) ⊎ ((i ≡ true) × (t ≡ true))
came x e i h t s =
    ⊎_elim
    (λ (q : x ≡ true). inl q)
    (λ (q : (e && (i && (h && t))) ≡ true). let r = and_parts i (h && t) (and_parts e _ q).1 in inr (r.0, (and_parts h t r.1).1))
    (or_cases x _ s)

taken : (x e i h t : Bool) → (t ≡ true → e ≡ true) → h ≡ true → (x || t) ≡ true → ((x || (e && (i && (h && t)))) || (t && not i)) ≡ true
taken true e i h t there level s = refl
taken false e true h t there level s = or_left _ _ (and_from e _ (there s) (and_from h t level s))
taken false e false h t there level s = or_right _ _ (and_from t true s refl)

-- A drain: every mark that waits in the area is set, as its entry is there.
module _ (plan : Layout) (law : Lawful plan) (a : ℕ) (low : lowest plan a ≡ true) (w v : World) (sound : Sound plan w.memory) (safe : Safe plan w)
    (rests : stage w.memory a ≡ Resting) (drain : Drains plan law a low w v) where
  abbrev was : Memory
  was = w.memory

  abbrev is : Memory
  is = v.memory

  -- a mark that waits in the area can be set, and then a mark is newly set at its level
  waits_new : (b m l : ℕ) → within plan a b ≡ true → w.waits b m l ≡ true → newly_marked (settable plan a w.waits) l w.memory.slots ≡ true
  waits_new b m l inside waits =
      let (n, lm, ml, hl, there, clear) = safe.settable b m l waits in
      let high = law.high.1 in
      newly_marked_lem plan law a low w sound.shape b m l n inside lm (omega (arith, high)) (omega arith) hl waits there clear

  mark_is : (b m l : ℕ) → 1 ≤ b → 2 ≤ m → m ≤ l → l ≤ top plan → mark is b m l ≡ (mark was b m l || (entry was b m && settable plan a w.waits b m l))
  mark_is b m l hb lm ml hl = let high = law.high.1 in drain.mark_is b m l hb lm (omega (arith, high)) (omega arith) (omega (arith, high))

  mark_outside : (b m l : ℕ) → 1 ≤ b → 2 ≤ m → m ≤ l → l ≤ top plan → within plan a b ≡ false → mark is b m l ≡ mark was b m l
  mark_outside b m l hb lm ml hl out = mark_is b m l hb lm ml hl ∙ unset (mark was b m l) (entry was b m) (within plan a b) (leb l (top plan) && w.waits b m l) out

  -- a mark that is set was set, or waited in the area
  mark_back : (b m l : ℕ) → 1 ≤ b → 2 ≤ m → m ≤ l → l ≤ top plan → mark is b m l ≡ true → (mark was b m l ≡ true) ⊎ ((within plan a b ≡ true) × (w.waits b m l ≡ true))
  mark_back b m l hb lm ml hl set = came (mark was b m l) (entry was b m) (within plan a b) (leb l (top plan)) (w.waits b m l) (sym (mark_is b m l hb lm ml hl) ∙ set)

  -- what was set or waited is set or waits still
  mark_after : (b m l : ℕ) → 1 ≤ b → 2 ≤ m → m ≤ l → l ≤ top plan → mark_or_waits w b m l ≡ true → mark_or_waits v b m l ≡ true
  mark_after b m l hb lm ml hl h =
      ap (λ x. x || v.waits b m l) (mark_is b m l hb lm ml hl) ∙ ap (λ x. (mark was b m l || (entry was b m && settable plan a w.waits b m l)) || x) (drain.waits_is b m l) ∙
      taken (mark was b m l) (entry was b m) (within plan a b) (leb l (top plan)) (w.waits b m l) (λ waits. (safe.settable b m l waits).4) (le-leb _ _ hl) h

  above_is : (e l : ℕ) → marks_above plan is e l ≡ marks_above plan was e l
  above_is = marks_above_is plan a was is drain.only

  stage_is : (e : ℕ) → lowest plan e ≡ true → stage is e ≡ stage was e
  stage_is e le = by_area (λ x. stage is x ≡ stage was x) a e drain.stage_is (only_stage plan a was is drain.only e le)

  sends_is : (e l : ℕ) → lowest plan e ≡ true → sends is e l ≡ sends was e l
  sends_is e l le = by_area (λ x. sends is x l ≡ sends was x l) a e (drain.sends_is l) (only_sends plan a was is drain.only e l le)

  status_here : (l : ℕ) → 2 ≤ l → l ≤ top plan → status is a l ≡ restarted (newly_marked (settable plan a w.waits) l w.memory.slots && marking_above plan was a l) (status was a l)
  status_here l ll hl = let high = law.high.1 in drain.status_is l ll (omega (arith, high))

  -- a status that is not 0 was the same
  status_back : (x : Status) → (Unstarted ≡ x → ⊥) → (e l : ℕ) → lowest plan e ≡ true → 2 ≤ l → l ≤ top plan → status is e l ≡ x → status was e l ≡ x
  status_back x started e l le ll hl =
      by_area (λ f. status is f l ≡ x → status was f l ≡ x) a e
      (λ h. (restarted_not _ _ x started (sym (status_here l ll hl) ∙ h)).1)
      (λ ne h. sym (only_status plan a was is drain.only e l le ne) ∙ h)

  -- where the area above does not mark, all statuses stay
  status_unmarked : (e l : ℕ) → lowest plan e ≡ true → 2 ≤ l → l ≤ top plan → marks_above plan was e l ≡ false → status is e l ≡ status was e l
  status_unmarked e l le ll hl =
      by_area (λ f. marks_above plan was f l ≡ false → status is f l ≡ status was f l) a e
      (λ above. status_here l ll hl ∙ ap (λ n. restarted n (status was a l)) (and_right _ _ (and_right (leb l (top plan)) _ above)))
      (λ ne above. only_status plan a was is drain.only e l le ne)

  -- where the area has told of all that it covered and its status stays, none of its marks was waiting
  ended_none : (l : ℕ) → 2 ≤ l → l ≤ top plan → marks_above plan was a l ≡ true → status is a l ≡ Ended → (b m : ℕ) → within plan a b ≡ true → w.waits b m l ≡ true → ⊥
  ended_none l ll hl above done b m inside waits =
      let quiet = (restarted_not _ _ Ended (unstarted_ended Unstarted refl) (sym (status_here l ll hl) ∙ done)).0 in
      false≢true (sym quiet ∙ and_from _ _ (waits_new b m l inside waits) (and_from _ _ (le-leb _ _ hl) above))

  covered_back : (e l : ℕ) → lowest plan e ≡ true → 2 ≤ l → l ≤ top plan → HasCovered is e l → HasCovered was e l
  covered_back e l le ll hl (has_ended_round q) = has_ended_round (status_back Ended (unstarted_ended Unstarted refl) e l le ll hl q)
  covered_back e l le ll hl (pass_over q p) = pass_over (status_back Begun (unstarted_begun Unstarted refl) e l le ll hl q) (passed_same was is e l (stage_is e le) p)

  covered_ended : (l : ℕ) → 2 ≤ l → l ≤ top plan → HasCovered is a l → status is a l ≡ Ended
  covered_ended l ll hl (has_ended_round q) = q
  covered_ended l ll hl (pass_over q p) = absurd (safe.begun_runs a l low ll hl (status_back Begun (unstarted_begun Unstarted refl) a l low ll hl q) rests)

  entry_is : (b m : ℕ) → 1 ≤ b → entry is b m ≡ entry was b m
  entry_is = drain.entry_is

  -- blocks that had told of their pointers have told of them still
  told_after : (l : ℕ) → l ≤ top plan → (P Q : ℕ → Type 0) → ((b : ℕ) → Q b → P b) → Told plan w l P → Told plan v l Q
  told_after l hl = told_same plan w v sound (points_back was is drain.graph) entry_is l (λ b m hb lm ml. mark_after b m l hb lm ml hl)

  locally_back : (e l : ℕ) → ((b m : ℕ) → within plan e b ≡ true → 2 ≤ m → m ≤ l → mark is b m l ≡ true → mark was b m l ≡ true) → (b : ℕ) → LocallyCovered plan is e l b → LocallyCovered plan was e l b
  locally_back e l marks = local_graph plan was is e l drain.graph (λ b m inside lm hm there. sym (entry_is b m (within_first plan e b inside)) ∙ there) marks

  -- In the area itself no mark of the level was waiting; elsewhere nothing changed.
  covered_here : (l : ℕ) → 2 ≤ l → l ≤ top plan → marks_above plan was a l ≡ true → HasCovered is a l → SomeWaits plan v a l ⊎ Told plan v l (LocallyCovered plan is a l)
  covered_here l ll hl above over =
      ⊎_elim
      (λ (some : SomeWaits plan w a l). absurd (none some.0 some.1.0 some.1.1.0 some.1.1.1))
      (λ (told : Told plan w l (LocallyCovered plan was a l)). inr (told_after l hl (LocallyCovered plan was a l) (LocallyCovered plan is a l) (locally_back a l marks) told))
      (safe.covered a l low ll hl above (covered_back a l low ll hl over))
    where
      none : (b m : ℕ) → within plan a b ≡ true → w.waits b m l ≡ true → ⊥
      none = ended_none l ll hl above (covered_ended l ll hl over)

      marks : (b m : ℕ) → within plan a b ≡ true → 2 ≤ m → m ≤ l → mark is b m l ≡ true → mark was b m l ≡ true
      marks b m inside lm ml set =
          ⊎_elim
          (λ (h : mark was b m l ≡ true). h)
          (λ (h : (within plan a b ≡ true) × (w.waits b m l ≡ true)). absurd (none b m inside h.1))
          (mark_back b m l (within_first plan a b inside) lm ml hl set)

  covered_elsewhere : (e l : ℕ) → lowest plan e ≡ true → 2 ≤ l → l ≤ top plan → marks_above plan was e l ≡ true → HasCovered is e l → (e ≡ a → ⊥) →
      SomeWaits plan v e l ⊎ Told plan v l (LocallyCovered plan is e l)
  covered_elsewhere e l le ll hl above over ne =
      ⊎_elim
      (λ (some : SomeWaits plan w e l). inl (some.0, (some.1.0, (some.1.1.0, still some.0 some.1.0 some.1.1.0 some.1.1.1))))
      (λ (told : Told plan w l (LocallyCovered plan was e l)). inr (told_after l hl (LocallyCovered plan was e l) (LocallyCovered plan is e l) (locally_back e l marks) told))
      (safe.covered e l le ll hl above (covered_back e l le ll hl over))
    where
      still : (b m : ℕ) → within plan e b ≡ true → w.waits b m l ≡ true → v.waits b m l ≡ true
      still b m inside waits = drain.waits_is b m l ∙ and_from _ _ waits (not_from_false _ (outside plan law a e b low le ne inside))

      marks : (b m : ℕ) → within plan e b ≡ true → 2 ≤ m → m ≤ l → mark is b m l ≡ true → mark was b m l ≡ true
      marks b m inside lm ml set = sym (mark_outside b m l (within_first plan e b inside) lm ml hl (outside plan law a e b low le ne inside)) ∙ set

  -- a mark that waits still lies elsewhere
  waits_back : (b m l : ℕ) → v.waits b m l ≡ true → (w.waits b m l ≡ true) × (within plan a b ≡ false)
  waits_back b m l waits = let p = and_parts (w.waits b m l) (not (within plan a b)) (sym (drain.waits_is b m l) ∙ waits) in (p.0, not-true (within plan a b) p.1)

  white_is : (e b : ℕ) → within plan e b ≡ true → white was b ≡ false → white is b ≡ false
  white_is e b inside h = drain.colours.white_is b (within_first plan e b inside) ∙ h

  black_is : (e b : ℕ) → within plan e b ≡ true → black is b ≡ black was b
  black_is e b inside = drain.colours.black_is b (within_first plan e b inside)

  settable_after : (b m l : ℕ) → v.waits b m l ≡ true → CanBeSet plan is b m l
  settable_after b m l waits =
      let h = waits_back b m l waits in
      let (n, lm, ml, hl, there, clear) = safe.settable b m l h.0 in
      let hb = numbered_first _ b n in
      (n, lm, ml, hl, entry_is b m hb ∙ there, mark_outside b m l hb lm ml hl h.1 ∙ clear)

  pub drain_keeps : Safe plan v
  drain_keeps =
      record {
        alive = λ b r. used_back was is g b ∙ safe.alive b (reach_back was is g b r);
        entered = λ p b r q lm.
            let q-was = points_back was is g p b q in
            entry_is b (level_of plan p b) (numbered_first _ b (sound.pointed_slots p b q-was)) ∙ safe.entered p b (reach_back was is g p r) q-was lm;
        settable = settable_after;
        no_black_at_rest = λ e b le at inside. black_is e b inside ∙ safe.no_black_at_rest e b le (stage_was e le at) inside;
        no_black_behind = λ e b k le at inside h. black_is e b inside ∙ safe.no_black_behind e b k le (stage_was e le at) inside h;
        rooted = λ e b L le at inside r. white_is e b inside (safe.rooted e b L le (stage_was e le at) inside (root_back was is g b r));
        inner = λ e b c L le at ib ic dark q. white_is e c ic (safe.inner e b c L le (stage_was e le at) ib ic (sym (black_is e b ib) ∙ dark) (points_back was is g b c q));
        shaded_by_entry = λ e b m L le at inside lm hm there. white_is e b inside (safe.shaded_by_entry e b m L le (stage_was e le at) inside lm hm (entry_was e b m inside there));
        shaded_by_mark = λ e b m j L le at inside lm mj hj h set.
            let other : e ≡ a → ⊥ = λ q. rest_pass (stage was a) L rests (subst (λ x. stage was x ≡ Pass L) q (stage_was e le at)) in
            white_is e b inside
            (safe.shaded_by_mark e b m j L le (stage_was e le at) inside lm mj hj h
            (sym (mark_outside b m j (within_first plan e b inside) lm mj hj (outside plan law a e b low le other inside)) ∙ set));
        swept_reached = λ e b k le at inside h r. white_is e b inside (safe.swept_reached e b k le (stage_was e le at) inside h (reach_back was is g b r));
        swept_entered = λ e b k m le at inside h lm hm there. white_is e b inside (safe.swept_entered e b k m le (stage_was e le at) inside h lm hm (entry_was e b m inside there));
        begun_runs = λ e l le ll hl b at. safe.begun_runs e l le ll hl (status_back Begun (unstarted_begun Unstarted refl) e l le ll hl b) (stage_was e le at);
        begun_sends = λ e l le ll hl b above. sends_is e l le ∙ safe.begun_sends e l le ll hl (status_back Begun (unstarted_begun Unstarted refl) e l le ll hl b) (sym (above_is e l) ∙ above);
        sends_marking = λ e l le ll hl sent. above_is e l ∙ safe.sends_marking e l le ll hl (sym (sends_is e l le) ∙ sent);
        scanned = λ e l L le ll hl above b at h.
            told_after l hl (λ x. (within plan e x ≡ true) × (black was x ≡ true)) (λ x. (within plan e x ≡ true) × (black is x ≡ true))
            (λ x d. (d.0, sym (black_is e x d.0) ∙ d.1))
            (safe.scanned e l L le ll hl (sym (above_is e l) ∙ above) (status_back Begun (unstarted_begun Unstarted refl) e l le ll hl b) (stage_was e le at) h);
        covered = λ e l le ll hl above over.
            by_area (λ x. lowest plan x ≡ true → marks_above plan was x l ≡ true → HasCovered is x l → SomeWaits plan v x l ⊎ Told plan v l (LocallyCovered plan is x l)) a e
            (λ _ up done. covered_here l ll hl up done)
            (λ ne lx up done. covered_elsewhere e l lx ll hl up done ne)
            le (sym (above_is e l) ∙ above) over;
        kept = λ e p b l le ll hl above unstarted inside r q level.
            let above-was = sym (above_is e l) ∙ above in
            mark_after b l l (within_first plan e b inside) ll (omega arith) hl
            (safe.kept e p b l le ll hl above-was (sym (status_unmarked e l le ll hl above-was) ∙ unstarted) inside (reach_back was is g p r) (points_back was is g p b q) level);
      }
    where
      g : SameGraph was is
      g = drain.graph

      stage_was : {x : Stage} (e : ℕ) → lowest plan e ≡ true → stage is e ≡ x → stage was e ≡ x
      stage_was e le at = sym (stage_is e le) ∙ at

      entry_was : (e b m : ℕ) → within plan e b ≡ true → entry is b m ≡ true → entry was b m ≡ true
      entry_was e b m inside there = sym (entry_is b m (within_first plan e b inside)) ∙ there

-- After a drain no mark waits in the area.
pub none_waits_after : (plan : Layout) (law : Lawful plan) (a : ℕ) (low : lowest plan a ≡ true) (w v : World) → Drains plan law a low w v → (b m l : ℕ) → within plan a b ≡ true → v.waits b m l ≡ false
none_waits_after plan law a low w v drain b m l inside = drain.waits_is b m l ∙ and_right _ _ (not_from_true _ inside)
