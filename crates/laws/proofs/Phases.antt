-- What a turn does to an area above: to its phase, and to the statuses of the lowest areas in it.
use Rattle.std.proofs.Common.{◌≡◌, ℕ, ◌≤◌, Bool, true, false, not, ◌&&◌, length, sym, refl, ap, ◌∙◌, subst, arith}
use Rattle.std.proofs.lemmas.Bool.{le-leb, false≢true, true≢false}
use Rattle.chain.specs.Chain.{numbered}
use Rattle.plan.specs.Walk.{area_at}
use Rattle.state.specs.declared.collector.Collector.{Collector}
use Rattle.state.specs.declared.collector.Stage.TheVariants.{Resting}
use Rattle.state.specs.declared.collector.Status.TheVariants.{Unstarted, Ended}
use Rattle.state.specs.Layout.{Layout, top, lowest, above}
use Rattle.state.specs.Lawful.{Lawful}
use Rattle.state.specs.Memory.{Memory, World, phase_at, status_at, is_marking}
use Rattle.state.specs.Turns.{marking_above, settable, newly_marked, restarted, begun, ended, turned}
use Rattle.state.specs.Pasts.{is_resting, resting, marking, round_ends, round_begins}
use Rattle.laws.specs.Views.{stage, status}
use Rattle.laws.proofs.Flags.{rises, falls, never_rises}
use Rattle.laws.proofs.Stages.{unstarted_ended, begun_ended, restarted_not, ended_started}
use Rattle.laws.proofs.Frames.{collector_same, phase_same}
use Rattle.laws.proofs.Parts.{OnlyArea, only_trans, Drains, Begins}
use Rattle.laws.proofs.Elsewhere.{only_status, same_only}
use Rattle.laws.proofs.Tests.{NoneWaits, Resets, Missing, Tested, unchanged, recovery_begins, recovery_ends_lem}
use Rattle.laws.proofs.TurnKinds.{Turn, starts, scan, next_pass, to_sweep, sweep_slot, ends, Ends, stage_elsewhere, ends_own, turn_kind}
use Rattle.state.specs.Calls.{turns}
use Rattle.laws.specs.Inductive.{Sound}
use Rattle.laws.proofs.Counting.{turn_or_refusal}
use Rattle.laws.proofs.Plans.{by_area}

-- P holds of every lowest area in area x of level l.
abbrev pub EachUnder : Layout → ℕ → ℕ → (ℕ → Type 0) → Type 0
EachUnder plan x l P = (e : ℕ) → lowest plan e ≡ true → above plan e l ≡ x → P e

-- A mark of level l is set anew when area e begins a round, and the area above is marking.
abbrev pub new_at : Layout → World → ℕ → ℕ → Bool
new_at plan w e l = newly_marked (settable plan e w.waits) l w.memory.slots && marking_above plan w.memory e l

module _ (plan : Layout) (law : Lawful plan) where
  -- A round of area e starts.
  pub record Starts (e : ℕ) (w v : World) : Type 0 where
    pub low : lowest plan e ≡ true
    pub rests : stage w.memory e ≡ Resting
    pub between : World
    pub drain : Drains plan law e low w between
    pub begin : Begins plan law e low between.memory v.memory

  pub started_status : (e l : ℕ) (w v : World) → Starts e w v → 2 ≤ l → l ≤ top plan → status v.memory e l ≡ begun true (restarted (new_at plan w e l) (status w.memory e l))
  started_status e l w v s lo hi =
      let most : l ≤ 4 = omega (arith, hi, law.high.1) in
      s.begin.status_is l lo most ∙ ap (λ t. begun t (status s.between.memory e l)) (le-leb l (top plan) hi) ∙ ap (begun true) (s.drain.status_is l lo most)

  -- What a turn of area a does to the status of lowest area e at level l, read in memory t.
  pub data Moved (a l : ℕ) (w v : World) (t : Memory) (e : ℕ) : Type 0 where
    stands : resting v e ≡ resting w e → status t e l ≡ status w.memory e l → Moved a l w v t e
    begins : Starts e w v → status t e l ≡ begun true (restarted (new_at plan w e l) (status w.memory e l)) → Moved a l w v t e
    finishes : e ≡ a → resting w e ≡ false → stage v.memory e ≡ Resting → status t e l ≡ ended (status w.memory e l) → Moved a l w v t e

  -- who has ended a round had begun it
  pub ended_moved : (a l : ℕ) (w v : World) (t : Memory) (e : ℕ) → Moved a l w v t e → status t e l ≡ Ended → status w.memory e l ≡ Unstarted → ⊥
  ended_moved a l w v t e (stands _ same) is was = unstarted_ended _ (same ∙ was) is
  ended_moved a l w v t e (begins _ is-now) is was = unstarted_ended _ was (restarted_not _ _ Ended (unstarted_ended Unstarted refl) (begun_ended true _ (sym is-now ∙ is))).1
  ended_moved a l w v t e (finishes _ _ _ is-now) is was = ended_started _ (sym is-now ∙ is) was

  -- a round that begins starts in this turn
  pub begins_starts : (a l : ℕ) (w v : World) (t : Memory) (e : ℕ) → Moved a l w v t e → round_begins e w v ≡ true → Starts e w v
  begins_starts a l w v t e (stands same _) h = let (was, is) = falls (resting w e) (resting v e) h in absurd (false≢true (sym is ∙ same ∙ was))
  begins_starts a l w v t e (begins s _) h = s
  begins_starts a l w v t e (finishes _ runs _ _) h = absurd (false≢true (sym runs ∙ (falls (resting w e) (resting v e) h).0))

  -- What a turn of area a does to area x of level l: its phase stays, and if a round in it ended, something was missing; or the phase changes.
  pub data PhaseMove (a x l : ℕ) (w v : World) : Type 0 where
    stays : marking v x ≡ marking w x → EachUnder plan x l (Moved a l w v v.memory) → EachUnder plan x l (λ e. round_ends e w v ≡ true → Missing plan v.waits x l v.memory) → PhaseMove a x l w v
    changes : marking v x ≡ not (marking w x) → (over : Memory) → EachUnder plan x l (Moved a l w v over) → Resets plan x l over v.memory → (marking w x ≡ true → NoneWaits plan v.waits x l) → PhaseMove a x l w v

  -- a turn that is refused
  pub none_moves : (a x l : ℕ) (w : World) → PhaseMove a x l w w
  none_moves a x l w = stays refl (λ e _ _. stands refl refl) (λ e _ _ h. absurd (never_rises (resting w e) h))

  module _ (a : ℕ) (low : lowest plan a ≡ true) (w v : World) (turn : Turn plan law a low w v)
      (x l : ℕ) (named : numbered (length plan.areas) x ≡ true) (level : (area_at plan.areas x).level ≡ l) (lo : 2 ≤ l) (hi : l ≤ top plan) where
    -- the area whose turn it is, and the others
    each_moved : (t : Memory) → OnlyArea a w.memory t → Moved a l w v t a → (e : ℕ) → lowest plan e ≡ true → Moved a l w v t e
    each_moved t only own e le =
        by_area (Moved a l w v t) a e own (λ ne. stands (ap is_resting (stage_elsewhere plan law a low w v turn e le ne)) (only_status plan a w.memory t only e l le ne))

    -- a turn that ends no round
    goes_on : OnlyArea a w.memory v.memory → resting v a ≡ false → Moved a l w v v.memory a → PhaseMove a x l w v
    goes_on only runs own =
        stays (ap is_marking (phase_same w.memory v.memory only.phases x)) (λ e le _. each_moved v.memory only own e le)
        (λ e le _ h. absurd (false≢true (sym runs ∙ ap (resting v) (sym (ends_own plan law a low w v turn e le h)) ∙ (rises (resting w e) (resting v e) h).1)))

    -- a turn inside a round
    runs_on : OnlyArea a w.memory v.memory → resting w a ≡ false → resting v a ≡ false → status v.memory a l ≡ status w.memory a l → PhaseMove a x l w v
    runs_on only was is same = goes_on only is (stands (is ∙ sym was) same)

    -- the end of a round
    module _ (s : Ends plan law a low w v) (was : resting w a ≡ false) where
      over_moved : (e : ℕ) → lowest plan e ≡ true → Moved a l w v s.over e
      over_moved = each_moved s.over s.moves.only (finishes refl was s.stage_is (s.over_status l lo (omega (arith, hi, law.high.1))))

      after_tests : (e : ℕ) → status v.memory e l ≡ status s.over e l → Moved a l w v s.over e → Moved a l w v v.memory e
      after_tests e same (stands r h) = stands r (same ∙ h)
      after_tests e same (begins r h) = begins r (same ∙ h)
      after_tests e same (finishes own r at h) = finishes own r at (same ∙ h)

      over_phase : marking w x ≡ is_marking (phase_at s.over x)
      over_phase = ap is_marking (sym (phase_same w.memory s.over s.moves.only.phases x))

      tests : Tested plan w.waits a x l s.over v.memory → PhaseMove a x l w v
      tests (unchanged f missing) =
          stays (ap is_marking f.phase_is ∙ sym over_phase) (λ e le here. after_tests e (f.status_is e le here) (over_moved e le))
          (λ e le here h. subst (λ o. Missing plan o x l v.memory) (sym s.waits) (missing (subst (λ i. above plan i l ≡ x) (ends_own plan law a low w v turn e le h) here)))
      tests (recovery_begins p q f none) =
          changes (ap is_marking q ∙ sym (ap not (over_phase ∙ ap is_marking p))) s.over (λ e le _. over_moved e le) f (λ _. subst (λ o. NoneWaits plan o x l) (sym s.waits) none)
      tests (recovery_ends_lem p q f) =
          changes (ap is_marking q ∙ sym (ap not (over_phase ∙ ap is_marking p))) s.over (λ e le _. over_moved e le) f (λ marks. absurd (true≢false (sym marks ∙ over_phase ∙ ap is_marking p)))

    moved_by : Turn plan law a low w v → PhaseMove a x l w v
    moved_by (starts at u d g o) =
        let s : Starts a w v = record { low = low; rests = at; between = u; drain = d; begin = g } in
        goes_on (only_trans w.memory u.memory v.memory d.only g.only) (ap is_resting g.stage_is) (begins s (started_status a l w v s lo hi))
    moved_by (scan L p k at n inside there is_grey_lem s) =
        let same = collector_same w.memory v.memory s.collectors a in
        runs_on (same_only a w.memory v.memory s.collectors s.phases) (ap is_resting at) (ap (λ (c : Collector). is_resting c.stage) same ∙ ap is_resting at) (ap (λ c. status_at c l) same)
    moved_by (next_pass L at more s o) = runs_on s.only (ap is_resting at) (ap is_resting s.stage_is) (s.status_is l)
    moved_by (to_sweep L at s is st se o) = runs_on s.only (ap is_resting at) (ap is_resting is) (st l)
    moved_by (sweep_slot k at inside s o) = runs_on s.only (ap is_resting at) (ap is_resting s.stage_is) (s.status_is l)
    moved_by (ends k at past s) = tests s (ap is_resting at) (s.tested x l named level lo hi)

    pub phase_move : PhaseMove a x l w v
    phase_move = moved_by turn

  -- every call of a turn
  pub phase_turn : (x l : ℕ) → numbered (length plan.areas) x ≡ true → (area_at plan.areas x).level ≡ l → 2 ≤ l → l ≤ top plan → (e : ℕ) (w : World) → Sound plan w.memory → PhaseMove e x l w (turns plan e w).world
  phase_turn x l named level lo hi e w sound =
      turn_or_refusal plan (PhaseMove e x l w) e w (λ low. phase_move e low w (turned plan e w) (turn_kind plan law e low w sound) x l named level lo hi) (none_moves e x l w)
