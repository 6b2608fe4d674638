-- What the tests of the phases at the end of a round do: of each area above, nothing, or its phase changes.
use Rattle.std.proofs.Common.{◌≡◌, ℕ, zero, suc, ◌+◌, ◌<◌, ◌≤◌, true, false, not, ◌&&◌, length, sym, refl, ap, ◌∙◌, subst, inl, inr, arith}
use Rattle.std.proofs.lemmas.Bool.{cond_both, cases_eq, and_parts, and_cases, not-true, not-false}
use Rattle.chain.specs.Chain.{numbered}
use Rattle.plan.specs.Walk.{area_at}
use Rattle.post.specs.Marks.{Waits}
use Rattle.state.specs.declared.collector.Status.TheVariants.{Unstarted, Ended}
use Rattle.state.specs.declared.collector.Phase.{Phase}
use Rattle.state.specs.declared.collector.Phase.TheVariants.{Marking, Recovering}
use Rattle.state.specs.Layout.{Layout, top, slot_count, lowest, within, above}
use Rattle.state.specs.Lawful.{Lawful}
use Rattle.state.specs.Memory.{Memory, World, phase_at, is_marking}
use Rattle.state.specs.Turns.{on_memory, is_ended, all_ended, some_waits, phase_changed, phase_test, phase_tests}
use Rattle.laws.specs.Views.{Shape, stage, status, sends}
use Rattle.laws.proofs.Plans.{numbered_first}
use Rattle.laws.proofs.Parts.{Changes, changes, all_ended_lem, one_not_ended, none_waits, one_waits}
use Rattle.laws.proofs.SoundTurns.{sound_tested}
use Rattle.laws.specs.Inductive.{Sound}

-- Area x of level l, and what lies under it, is as it was.
pub record Stays (plan : Layout) (x l : ℕ) (s t : Memory) : Type 0 where
  pub phase_is : phase_at t x ≡ phase_at s x
  pub status_is : (e : ℕ) → lowest plan e ≡ true → above plan e l ≡ x → status t e l ≡ status s e l
  pub sends_is : (e : ℕ) → lowest plan e ≡ true → above plan e l ≡ x → sends t e l ≡ sends s e l

-- All under area x of level l had ended a round; all are unstarted and none sends.
pub record Resets (plan : Layout) (x l : ℕ) (s t : Memory) : Type 0 where
  pub were_ended : (e : ℕ) → lowest plan e ≡ true → above plan e l ≡ x → status s e l ≡ Ended
  pub status_is : (e : ℕ) → lowest plan e ≡ true → above plan e l ≡ x → status t e l ≡ Unstarted
  pub sends_is : (e : ℕ) → lowest plan e ≡ true → above plan e l ≡ x → sends t e l ≡ false

-- No mark of level l waits for a block of area x.
abbrev pub NoneWaits : Layout → Waits → ℕ → ℕ → Type 0
NoneWaits plan o x l = (b m : ℕ) → numbered (slot_count plan) b ≡ true → within plan x b ≡ true → 2 ≤ m → m ≤ 4 → o b m l ≡ false

-- What the test of area x of level l misses, where these marks wait: a lowest area in x has not ended a round, or x marks and a mark waits in it.
pub data Missing (plan : Layout) (o : Waits) (x l : ℕ) (s : Memory) : Type 0 where
  not_ended : (e : ℕ) → lowest plan e ≡ true → above plan e l ≡ x → is_ended (status s e l) ≡ false → Missing plan o x l s
  mark_waits : is_marking (phase_at s x) ≡ true → (b m : ℕ) → numbered (slot_count plan) b ≡ true → within plan x b ≡ true → o b m l ≡ true → Missing plan o x l s

-- What the tests of the areas over a do to area x of level l, where these marks wait: if it is tested and stays, something was missing.
pub data Tested (plan : Layout) (o : Waits) (a x l : ℕ) (s t : Memory) : Type 0 where
  unchanged : Stays plan x l s t → (above plan a l ≡ x → Missing plan o x l t) → Tested plan o a x l s t
  recovery_begins : phase_at s x ≡ Marking → phase_at t x ≡ Recovering → Resets plan x l s t → NoneWaits plan o x l → Tested plan o a x l s t
  recovery_ends_lem : phase_at s x ≡ Recovering → phase_at t x ≡ Marking → Resets plan x l s t → Tested plan o a x l s t

stays_refl : (plan : Layout) (x l : ℕ) (s : Memory) → Stays plan x l s s
stays_refl plan x l s = record { phase_is = refl; status_is = λ e _ _. refl; sends_is = λ e _ _. refl }

stays_stays : (plan : Layout) (x l : ℕ) (s t u : Memory) → Stays plan x l s t → Stays plan x l t u → Stays plan x l s u
stays_stays plan x l s t u f g =
    record {
      phase_is = g.phase_is ∙ f.phase_is;
      status_is = λ e low here. g.status_is e low here ∙ f.status_is e low here;
      sends_is = λ e low here. g.sends_is e low here ∙ f.sends_is e low here;
    }

resets_stays : (plan : Layout) (x l : ℕ) (s t u : Memory) → Resets plan x l s t → Stays plan x l t u → Resets plan x l s u
resets_stays plan x l s t u f g =
    record {
      were_ended = f.were_ended;
      status_is = λ e low here. g.status_is e low here ∙ f.status_is e low here;
      sends_is = λ e low here. g.sends_is e low here ∙ f.sends_is e low here;
    }

stays_resets : (plan : Layout) (x l : ℕ) (s t u : Memory) → Stays plan x l s t → Resets plan x l t u → Resets plan x l s u
stays_resets plan x l s t u f g =
    record {
      were_ended = λ e low here. sym (f.status_is e low here) ∙ g.were_ended e low here;
      status_is = g.status_is;
      sends_is = g.sends_is;
    }

missing_stays : (plan : Layout) (o : Waits) (x l : ℕ) (s t : Memory) → Stays plan x l s t → Missing plan o x l s → Missing plan o x l t
missing_stays plan o x l s t f (not_ended e low here no_end) = not_ended e low here (ap is_ended (f.status_is e low here) ∙ no_end)
missing_stays plan o x l s t f (mark_waits marks b m n inside waits) = mark_waits (ap is_marking f.phase_is ∙ marks) b m n inside waits

tested_stays : (plan : Layout) (o : Waits) (a x l : ℕ) (s t u : Memory) → Tested plan o a x l s t → Stays plan x l t u → Tested plan o a x l s u
tested_stays plan o a x l s t u (unchanged f missing) g = unchanged (stays_stays plan x l s t u f g) (λ here. missing_stays plan o x l t u g (missing here))
tested_stays plan o a x l s t u (recovery_begins was is f none) g = recovery_begins was (g.phase_is ∙ is) (resets_stays plan x l s t u f g) none
tested_stays plan o a x l s t u (recovery_ends_lem was is f) g = recovery_ends_lem was (g.phase_is ∙ is) (resets_stays plan x l s t u f g)

stays_tested : (plan : Layout) (o : Waits) (a x l : ℕ) (s t u : Memory) → Stays plan x l s t → Tested plan o a x l t u → Tested plan o a x l s u
stays_tested plan o a x l s t u f (unchanged g missing) = unchanged (stays_stays plan x l s t u f g) missing
stays_tested plan o a x l s t u f (recovery_begins was is g none) = recovery_begins (sym f.phase_is ∙ was) is (stays_resets plan x l s t u f g) none
stays_tested plan o a x l s t u f (recovery_ends_lem was is g) = recovery_ends_lem (sym f.phase_is ∙ was) is (stays_resets plan x l s t u f g)

-- Tests of the areas over a, of levels from l to the top.
pub record AllTested (plan : Layout) (a l : ℕ) (w v : World) : Type 0 where
  pub slots : v.memory.slots ≡ w.memory.slots
  pub registers : v.memory.registers ≡ w.memory.registers
  pub waits : v.waits ≡ w.waits
  pub stage_is : (e : ℕ) → lowest plan e ≡ true → stage v.memory e ≡ stage w.memory e
  pub tested : (x j : ℕ) → numbered (length plan.areas) x ≡ true → (area_at plan.areas x).level ≡ j → l ≤ j → j ≤ top plan → Tested plan w.waits a x j w.memory v.memory
  pub below : (x j : ℕ) → numbered (length plan.areas) x ≡ true → (area_at plan.areas x).level ≡ j → 2 ≤ j → j ≤ top plan → j < l → Stays plan x j w.memory v.memory

-- another area is left by a change
other_stays : (plan : Layout) (x l : ℕ) (p : Phase) (s t : Memory) → Changes plan x l p s t → (y j : ℕ) → 1 ≤ y → 2 ≤ j → j ≤ 4 → (y ≡ x → ⊥) → Stays plan y j s t
other_stays plan x l p s t c y j n lj hj ne =
    record {
      phase_is = c.phase_others y n ne;
      status_is = λ e low here. c.status_others e j low lj hj (apart e here);
      sends_is = λ e low here. c.sends_others e j low lj hj (apart e here);
    }
  where
    apart : (e : ℕ) → above plan e j ≡ y → j ≡ l → above plan e l ≡ x → ⊥
    apart e here same there = ne (sym here ∙ ap (above plan e) same ∙ there)

module _ (plan : Layout) (law : Lawful plan) (a : ℕ) (low : lowest plan a ≡ true) where
  -- What one test of area x of level l does.
  record Test (x l : ℕ) (w v : World) : Type 0 where
    slots : v.memory.slots ≡ w.memory.slots
    registers : v.memory.registers ≡ w.memory.registers
    waits : v.waits ≡ w.waits
    stage_is : (e : ℕ) → lowest plan e ≡ true → stage v.memory e ≡ stage w.memory e
    here : Tested plan w.waits a x l w.memory v.memory
    others : (y j : ℕ) → 1 ≤ y → 2 ≤ j → j ≤ 4 → (y ≡ x → ⊥) → Stays plan y j w.memory v.memory

  no_change : (x l : ℕ) (w : World) → Missing plan w.waits x l w.memory → Test x l w w
  no_change x l w missing =
      record {
        slots = refl;
        registers = refl;
        waits = refl;
        stage_is = λ e _. refl;
        here = unchanged (stays_refl plan x l w.memory) (λ _. missing);
        others = λ y j _ _ _ _. stays_refl plan y j w.memory;
      }

  not_all_ended : (x l : ℕ) (w : World) → all_ended plan x l w.memory ≡ false → Missing plan w.waits x l w.memory
  not_all_ended x l w fails = let (e, (low-e, (here, no_end))) = one_not_ended plan law w.memory x l fails in not_ended e low-e here no_end

  resets : (x l : ℕ) (p : Phase) (s t : Memory) → Shape plan s → Changes plan x l p s t → all_ended plan x l s ≡ true → Resets plan x l s t
  resets x l p s t shape c all = record { were_ended = all_ended_lem plan law s shape x l all; status_is = c.status_under; sends_is = c.sends_under }

  change_test : (x l : ℕ) (p : Phase) (w : World) → Shape plan w.memory → numbered (length plan.areas) x ≡ true → 2 ≤ l → l ≤ 4 →
      (Changes plan x l p w.memory (phase_changed plan x l p w.memory) → Tested plan w.waits a x l w.memory (phase_changed plan x l p w.memory)) →
      Test x l w (on_memory (phase_changed plan x l p) w)
  change_test x l p w shape n ll hl told =
      let c = changes plan law w.memory shape x l p n ll hl in
      record {
        slots = c.slots;
        registers = c.registers;
        waits = refl;
        stage_is = c.stage_is;
        here = told c;
        others = other_stays plan x l p w.memory _ c;
      }

  one_test : (x l : ℕ) → numbered (length plan.areas) x ≡ true → 2 ≤ l → l ≤ 4 → (w : World) → Shape plan w.memory → (p : Phase) → phase_at w.memory x ≡ p → Test x l w (phase_test plan x l p w)
  one_test x l n ll hl w shape Marking was =
      cond_both (all_ended plan x l w.memory && not (some_waits plan x l w)) (on_memory (phase_changed plan x l Recovering) w) w (Test x l w)
      (λ t. let p = and_parts (all_ended plan x l w.memory) (not (some_waits plan x l w)) t in
      change_test x l Recovering w shape n ll hl (λ c.
      recovery_begins was c.phase (resets x l Recovering w.memory _ shape c p.0) (none_waits plan law w shape x l (not-true (some_waits plan x l w) p.1))))
      (λ fails. no_change x l w (elim (and_cases (all_ended plan x l w.memory) (not (some_waits plan x l w)) fails) [
        | inl none ↦ not_all_ended x l w none
        | inr some ↦ let (b, (m, (nb, (inside, (_, (_, waits)))))) = one_waits plan law w shape x l (not-false _ some) in mark_waits (ap is_marking was) b m nb inside waits
      ]))
  one_test x l n ll hl w shape Recovering was =
      cond_both (all_ended plan x l w.memory) (on_memory (phase_changed plan x l Marking) w) w (Test x l w)
      (λ t. change_test x l Marking w shape n ll hl (λ c. recovery_ends_lem was c.phase (resets x l Marking w.memory _ shape c t)))
      (λ fails. no_change x l w (not_all_ended x l w fails))

  -- a test, and then the tests of higher levels
  joined : (l x : ℕ) (w v u : World) → above plan a l ≡ x → (area_at plan.areas x).level ≡ l → 2 ≤ l → top plan ≤ 4 → Test x l w v → AllTested plan a (l + 1) v u → AllTested plan a l w u
  joined l x w v u over at ll high t r =
      record {
        slots = r.slots ∙ t.slots;
        registers = r.registers ∙ t.registers;
        waits = r.waits ∙ t.waits;
        stage_is = λ e low. r.stage_is e low ∙ t.stage_is e low;
        tested = λ y j n level lj hj. elim (cases_eq y x) [
          | inl e ↦
              let same : j ≡ l = sym level ∙ ap (λ z. (area_at plan.areas z).level) e ∙ at in
              tested_stays plan w.waits a y j w.memory v.memory u.memory
              (subst (λ z. Tested plan w.waits a z j w.memory v.memory) (sym e) (subst (λ i. Tested plan w.waits a x i w.memory v.memory) (sym same) t.here))
              (r.below y j n level (omega (arith, ll, lj)) hj (omega (arith, same)))
          | inr ne ↦
              let first = t.others y j (numbered_first _ y n) (omega (arith, ll, lj)) (omega (arith, hj, high)) ne in
              elim (cases_eq j l) [
                | inl same ↦
                    unchanged (stays_stays plan y j w.memory v.memory u.memory first (r.below y j n level (omega (arith, ll, lj)) hj (omega (arith, same))))
                    (λ here. absurd (ne (sym here ∙ ap (above plan a) same ∙ over)))
                | inr other ↦
                    stays_tested plan w.waits a y j w.memory v.memory u.memory first
                    (subst (λ o. Tested plan o a y j v.memory u.memory) t.waits (r.tested y j n level (omega (arith, lj, other)) hj))
              ]
        ];
        below = λ y j n level lj hj h.
            stays_stays plan y j w.memory v.memory u.memory
            (t.others y j (numbered_first _ y n) lj (omega (arith, hj, high)) (λ e. apart y j level h e))
            (r.below y j n level lj hj (omega (arith, h)));
      }
    where
      apart : (y j : ℕ) → (area_at plan.areas y).level ≡ j → j < l → y ≡ x → ⊥
      apart y j level h e = let same : j ≡ l = sym level ∙ ap (λ z. (area_at plan.areas z).level) e ∙ at in omega (arith, same, h)

  -- all of them
  pub all_tested : (n l : ℕ) → 2 ≤ l → l + n ≡ top plan + 1 → (w : World) → Sound plan w.memory → AllTested plan a l w (phase_tests plan a n l w)
  all_tested zero l ll hl w sound =
      record {
        slots = refl;
        registers = refl;
        waits = refl;
        stage_is = λ e _. refl;
        tested = λ x j _ _ lj hj. absurd (omega (arith, hl, lj, hj));
        below = λ x j _ _ _ _ _. stays_refl plan x j w.memory;
      }
  all_tested (suc n) l ll hl w sound =
      let x = above plan a l in
      let at = law.above_area a l low (omega (arith, ll)) (omega (arith, hl)) in
      let high = law.high.1 in
      let t = one_test x l at.0 ll (omega (arith, hl, high)) w sound.shape (phase_at w.memory x) refl in
      let v = phase_test plan x l (phase_at w.memory x) w in
      joined l x w v (phase_tests plan a n (l + 1) v) refl at.1 ll high t (all_tested n (l + 1) (omega (arith, ll)) (omega (arith, hl)) v (sound_tested plan law x l (phase_at w.memory x) w sound))
