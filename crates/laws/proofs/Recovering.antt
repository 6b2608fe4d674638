-- While an area recovers no mark of its level is sent in it, and each area under it that begins a round clears its marks and loses the entries without one.
use Rattle.std.proofs.Common.{◌≡◌, ℕ, ◌≤◌, true, false, not, length, sym, ap, ◌∙◌, inl, inr, arith}
use Rattle.std.proofs.lemmas.Bool.{cases_Bool, and_parts, and_from, or_cases, or_left, or_right, le-leb, false≢true, true≢false}
use Rattle.chain.specs.Chain.{numbered}
use Rattle.plan.specs.Walk.{area_at}
use Rattle.state.specs.declared.collector.Status.TheVariants.{Unstarted}
use Rattle.state.specs.declared.collector.Phase.TheVariants.{Marking, Recovering}
use Rattle.state.specs.Layout.{Layout, top, lowest, within, home, above}
use Rattle.state.specs.Lawful.{Lawful}
use Rattle.state.specs.Memory.{Memory, World, phase_at, is_marking}
use Rattle.state.specs.Turns.{is_unstarted, recovers_at, ended}
use Rattle.laws.specs.Roots.{Reach}
use Rattle.laws.specs.Views.{entry, mark, mark_or_waits, status, sends}
use Rattle.laws.specs.Inductive.{Inductive}
use Rattle.laws.proofs.Plans.{within_first, within_numbered, numbered_first, home_under, within_over}
use Rattle.laws.proofs.Tests.{NoneWaits, Resets}
use Rattle.laws.proofs.TurnKinds.{Turn}
use Rattle.laws.proofs.Live.{LiveEntries, LiveMarks, reach_forth, entry_before, drained_mark, mark_before}
use Rattle.laws.proofs.LiveMarks.{waits_before, sender_under}
use Rattle.laws.proofs.Stages.{cases_status, restarted_unstarted}
use Rattle.laws.proofs.Flags.{is_false}
use Rattle.laws.proofs.Phases.{EachUnder, Starts, Moved, stands, begins, finishes, ended_moved, PhaseMove, stays, changes, phase_move}
use Rattle.laws.proofs.Frames.{phase_same}

-- Each area under x that has begun a round has its marks of level l clear.
abbrev pub ClearMarks : Layout → World → ℕ → ℕ → Type 0
ClearMarks plan w x l =
    (e : ℕ) → lowest plan e ≡ true → above plan e l ≡ x → (status w.memory e l ≡ Unstarted → ⊥) → (b m : ℕ) → within plan e b ≡ true → 2 ≤ m → m ≤ 4 → mark w.memory b m l ≡ false

-- In each area under x that has begun a round the entries of level l are those of reachable blocks.
abbrev pub EntriesKept : Layout → World → ℕ → ℕ → Type 0
EntriesKept plan w x l =
    (e : ℕ) → lowest plan e ≡ true → above plan e l ≡ x → (status w.memory e l ≡ Unstarted → ⊥) → (b : ℕ) → within plan e b ≡ true → entry w.memory b l ≡ true → Reach w.memory b

module _ (plan : Layout) (law : Lawful plan) (a : ℕ) (low : lowest plan a ≡ true) where
  module _ (x l : ℕ) (nx : numbered (length plan.areas) x ≡ true) (level : (area_at plan.areas x).level ≡ l) (ll : 2 ≤ l) (hl : l ≤ top plan) where
    four : l ≤ 4
    four = omega (arith, hl, law.high.1)

    -- only the start of its own round takes an area out of status 0
    newly_started : (w v : World) → PhaseMove plan law a x l w v → (e : ℕ) → lowest plan e ≡ true → above plan e l ≡ x → status w.memory e l ≡ Unstarted → (status v.memory e l ≡ Unstarted → ⊥) → Starts plan law e w v
    newly_started w v (stays _ moves _) e le under was is = started (moves e le under)
      where
        started : Moved plan law a l w v v.memory e → Starts plan law e w v
        started (stands _ same) = absurd (is (same ∙ was))
        started (begins s _) = s
        started (finishes _ _ _ done) = absurd (is (done ∙ ap ended was))
    newly_started w v (changes _ _ _ r _) e le under was is = absurd (is (r.status_is e le under))

    moved : (w v : World) → Turn plan law a low w v → PhaseMove plan law a x l w v
    moved w v turn = phase_move plan law a low w v turn x l nx level ll hl

    -- Nobody under an area that recovers sends for its level.
    pub none_sends : (w : World) → Inductive plan w → phase_at w.memory x ≡ Recovering → (e : ℕ) → lowest plan e ≡ true → above plan e l ≡ x → sends w.memory e l ≡ false
    none_sends w inv phase e le under =
        is_false (sends w.memory e l) (λ h.
        false≢true (sym (ap is_marking (ap (phase_at w.memory) under ∙ phase)) ∙ inv.safe.sends_marking e l le ll hl h))

    -- So if none waits, none comes to wait.
    pub none_waits_kept : (w v : World) → Inductive plan w → Turn plan law a low w v → phase_at w.memory x ≡ Recovering → NoneWaits plan w.waits x l → NoneWaits plan v.waits x l
    none_waits_kept w v inv turn phase none b m n inside lm hm =
        is_false (v.waits b m l) (λ h.
        elim (waits_before plan law a low w v inv turn b m l h) [
          | inl was ↦ true≢false (sym was ∙ none b m n inside lm hm)
          | inr s ↦ false≢true (sym (none_sends w inv phase a low (sender_under plan law a low x l nx level ll hl w b m n inside s)) ∙ s.sent.sending)
        ])

    -- a round that starts under an area that recovers, for the first time since, recovers at that level
    recovers_here : (w v : World) (e : ℕ) → phase_at w.memory x ≡ Recovering → above plan e l ≡ x → status w.memory e l ≡ Unstarted → (s : Starts plan law e w v) → recovers_at plan s.between.memory e l ≡ true
    recovers_here w v e phase under was s =
        let recovering : is_marking (phase_at s.between.memory (above plan e l)) ≡ false = ap is_marking (phase_same w.memory s.between.memory s.drain.only.phases (above plan e l) ∙ ap (phase_at w.memory) under ∙ phase) in
        and_from _ _ (and_from _ _ (le-leb l (top plan) hl) (ap not recovering)) (ap is_unstarted (s.drain.status_is l ll four ∙ restarted_unstarted _ (status w.memory e l) was))

    -- Marks that were cleared stay clear.
    pub clear_marks_kept : (w v : World) → Inductive plan w → Turn plan law a low w v → phase_at w.memory x ≡ Recovering → NoneWaits plan w.waits x l → ClearMarks plan w x l → ClearMarks plan v x l
    clear_marks_kept w v inv turn phase none clear e le under begun b m inside lm hm =
        is_false (mark v.memory b m l) (λ h.
        elim (cases_status (status w.memory e l)) [
          | inl was ↦ cleared was (newly_started w v (moved w v turn) e le under was begun) h
          | inr was ↦ elim (mark_before plan law a low w v turn b m l one lm hm ll four h) [
            | inl set ↦ true≢false (sym set ∙ clear e le under was b m inside lm hm)
            | inr waits ↦ true≢false (sym waits ∙ none b m (within_numbered plan law e b le inside) (within_over plan law x l nx level e b le under inside) lm hm)
          ]
        ])
      where
        one : 1 ≤ b
        one = within_first plan e b inside

        cleared : status w.memory e l ≡ Unstarted → Starts plan law e w v → mark v.memory b m l ≡ true → ⊥
        cleared was s h =
            let before = (and_parts (entry v.memory b m) _ (sym (s.begin.mark_is b m l one lm hm ll four) ∙ h)).1 in
            let spared = (and_parts (mark s.between.memory b m l) _ before).1 in
            false≢true (sym (ap not (and_from (within plan e b) _ inside (recovers_here w v e phase under was s))) ∙ spared)

    -- Entries without a mark are lost, and the marks are those of reachable blocks: what is kept is reachable.
    pub entries_still_kept : (w v : World) → Inductive plan w → Turn plan law a low w v → phase_at w.memory x ≡ Recovering → LiveMarks plan w x l → EntriesKept plan w x l → EntriesKept plan v x l
    entries_still_kept w v inv turn phase live kept e le under begun b inside h =
        reach_forth plan law a low w v inv turn b
        (elim (cases_status (status w.memory e l)) [
          | inl was ↦ marked was (newly_started w v (moved w v turn) e le under was begun)
          | inr was ↦ kept e le under was b inside (entry_before plan law a low w v turn b l one ll four h)
        ])
      where
        one : 1 ≤ b
        one = within_first plan e b inside

        marked : status w.memory e l ≡ Unstarted → Starts plan law e w v → Reach w.memory b
        marked was s =
            let spared = (and_parts (entry s.between.memory b l) _ (sym (s.begin.entry_is b l one ll four) ∙ h)).1 in
            elim (cases_Bool (mark s.between.memory b l l)) [
              | inl set ↦ elim (drained_mark plan law e s.low w s.between s.drain b l l one ll four ll four set) [
                | inl q ↦ is_live (or_left (mark w.memory b l l) _ q)
                | inr q ↦ is_live (or_right (mark w.memory b l l) _ q)
              ]
              | inr clear ↦ absurd (false≢true (sym (ap not (and_from (within plan e b) _ inside (and_from _ _ (recovers_here w v e phase under was s) (ap not clear)))) ∙ spared))
            ]
          where
            is_live : mark_or_waits w b l l ≡ true → Reach w.memory b
            is_live set = live b l (within_numbered plan law e b le inside) (within_over plan law x l nx level e b le under inside) ll (omega arith) set

    -- Changes of the phase

    -- When it ends there is no mark of the level in the area, and its entries of the level are those of reachable blocks.
    pub recovery_over : (w v : World) → Inductive plan w → Turn plan law a low w v → phase_at w.memory x ≡ Recovering → phase_at v.memory x ≡ Marking → NoneWaits plan w.waits x l →
        (ClearMarks plan w x l → LiveMarks plan v x l) × (EntriesKept plan w x l → LiveEntries plan v x l)
    recovery_over w v inv turn was is none = over (moved w v turn)
      where
        were_started : (before : Memory) → EachUnder plan x l (Moved plan law a l w v before) → Resets plan x l before v.memory → EachUnder plan x l (λ e. status w.memory e l ≡ Unstarted → ⊥)
        were_started before moves r e le under = ended_moved plan law a l w v before e (moves e le under) (r.were_ended e le under)

        over : PhaseMove plan law a x l w v → (ClearMarks plan w x l → LiveMarks plan v x l) × (EntriesKept plan w x l → LiveEntries plan v x l)
        over (stays same _ _) = absurd (true≢false (sym (ap is_marking is) ∙ same ∙ ap is_marking was))
        over (changes _ before moves r _) = (
          λ clear b m n inside lm hm h. absurd (elim (or_cases (mark v.memory b m l) _ h) [
            | inl set ↦ elim (mark_before plan law a low w v turn b m l (numbered_first _ b n) lm (omega (arith, hm, four)) ll four set) [
              | inl q ↦
                  let under = home_under plan law x l nx level b n inside in
                  let at = law.at_home b n in
                  true≢false (sym q ∙ clear (home plan b) at.0 under (were_started before moves r (home plan b) at.0 under) b m at.1 lm (omega (arith, hm, four)))
              | inr q ↦ true≢false (sym q ∙ none b m n inside lm (omega (arith, hm, four)))
            ]
            | inr waits ↦ true≢false (sym waits ∙ none_waits_kept w v inv turn was none b m n inside lm (omega (arith, hm, four)))
          ]),
          λ kept b n inside h. reach_forth plan law a low w v inv turn b
              (kept (home plan b) (law.at_home b n).0 (home_under plan law x l nx level b n inside) (were_started before moves r (home plan b) (law.at_home b n).0 (home_under plan law x l nx level b n inside)) b (law.at_home b n).1
              (entry_before plan law a low w v turn b l (numbered_first _ b n) ll four h)),
        )
