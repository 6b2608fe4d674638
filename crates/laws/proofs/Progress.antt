-- How far one area above has come towards live entries and marks, and what a turn does to that.
use Rattle.std.proofs.Common.{◌≡◌, ℕ, zero, suc, ◌≤◌, true, false, not, ◌⊎◌, length, sym, refl, ap, ◌∙◌, subst, inl, inr, arith}
use Rattle.std.proofs.lemmas.Bool.{false≢true}
use Rattle.chain.specs.Chain.{numbered}
use Rattle.plan.specs.Walk.{area_at}
use Rattle.state.specs.declared.collector.Stage.TheVariants.{Resting}
use Rattle.state.specs.declared.collector.Status.TheVariants.{Unstarted, Ended}
use Rattle.state.specs.Layout.{Layout, top, lowest, above}
use Rattle.state.specs.Lawful.{Lawful}
use Rattle.state.specs.Memory.{Memory, World}
use Rattle.state.specs.Pasts.{marking, recovery_ends}
use Rattle.laws.specs.Views.{stage, status, sends}
use Rattle.laws.specs.Inductive.{Inductive}
use Rattle.laws.proofs.Tests.{NoneWaits, Resets}
use Rattle.laws.proofs.TurnKinds.{Turn}
use Rattle.laws.proofs.Live.{LiveEntries, LiveMarks, LiveAbove, NoneAboveTop, live_entries}
use Rattle.laws.proofs.Tidy.{TidyAbove, Tidy, Cleaned, cleaned_kept, cleaned_resting, cleaned_passing, tidy_comes, tidy_above_kept}
use Rattle.laws.proofs.LiveMarks.{live_marks_kept, tidy_kept}
use Rattle.laws.proofs.Recovering.{ClearMarks, EntriesKept, none_waits_kept, clear_marks_kept, entries_still_kept, recovery_over}
use Rattle.laws.proofs.Stages.{unstarted_ended, ended_started, begun_ended, restarted_not, is_marking_lem, is_recovering}
use Rattle.laws.proofs.Flags.{rises, not_rises}
use Rattle.laws.proofs.Phases.{EachUnder, Moved, stands, begins, finishes, PhaseMove, stays, changes, phase_move}

-- The first marking: what sweeps in it from its start on leaves white blocks behind, and an area that has ended a round is tidy above l.
pub record FirstMarking (plan : Layout) (w : World) (x l : ℕ) : Type 0 where
  pub marks : marking w x ≡ true
  pub cleaned : EachUnder plan x l (λ e. (status w.memory e l ≡ Unstarted → ⊥) → Cleaned plan w e)
  pub tidy : EachUnder plan x l (λ e. status w.memory e l ≡ Ended → TidyAbove plan w e l)

-- The recovery after it: all areas are tidy above l, and marks of level l go.
pub record FirstRecovery (plan : Layout) (w : World) (x l : ℕ) : Type 0 where
  pub recovers : marking w x ≡ false
  pub cleaned : EachUnder plan x l (Cleaned plan w)
  pub tidy : EachUnder plan x l (λ e. TidyAbove plan w e l)
  pub none_wait : NoneWaits plan w.waits x l
  pub clear : ClearMarks plan w x l

-- The second marking: all marks of level l are live.
pub record SecondMarking (plan : Layout) (w : World) (x l : ℕ) : Type 0 where
  pub marks : marking w x ≡ true
  pub cleaned : EachUnder plan x l (Cleaned plan w)
  pub tidy : EachUnder plan x l (λ e. Tidy plan w e l)
  pub live : LiveMarks plan w x l

-- The recovery after it: entries of level l that are not live go.
pub record SecondRecovery (plan : Layout) (w : World) (x l : ℕ) : Type 0 where
  pub recovers : marking w x ≡ false
  pub cleaned : EachUnder plan x l (Cleaned plan w)
  pub tidy : EachUnder plan x l (λ e. Tidy plan w e l)
  pub live : LiveMarks plan w x l
  pub none_wait : NoneWaits plan w.waits x l
  pub kept : EntriesKept plan w x l

-- From then on entries and marks of level l are live.
pub record AllOfLevelLive (plan : Layout) (w : World) (x l : ℕ) : Type 0 where
  pub cleaned : EachUnder plan x l (Cleaned plan w)
  pub tidy : EachUnder plan x l (λ e. Tidy plan w e l)
  pub live : LiveMarks plan w x l
  pub entries : LiveEntries plan w x l

-- What holds after so many recoveries of area x of level l have ended.
abbrev pub Progress : Layout → World → ℕ → ℕ → ℕ → Type 0
Progress plan w x l zero = Unit {0}
Progress plan w x l (suc zero) = FirstMarking plan w x l ⊎ FirstRecovery plan w x l
Progress plan w x l (suc (suc zero)) = SecondMarking plan w x l ⊎ SecondRecovery plan w x l
Progress plan w x l (suc (suc (suc n))) = AllOfLevelLive plan w x l

module _ (plan : Layout) (law : Lawful plan) (a : ℕ) (low : lowest plan a ≡ true) (w v : World) (inv : Inductive plan w) (none : NoneAboveTop plan w.memory) (turn : Turn plan law a low w v)
    (x l : ℕ) (nx : numbered (length plan.areas) x ≡ true) (level : (area_at plan.areas x).level ≡ l) (ll : 2 ≤ l) (hl : l ≤ top plan) where
  low_level : l ≤ 4
  low_level = omega (arith, hl, law.high.1)

  all_cleaned : EachUnder plan x l (Cleaned plan w) → EachUnder plan x l (Cleaned plan v)
  all_cleaned c e le here = cleaned_kept plan law a low w v turn e le (c e le here)

  module _ (above-live : LiveAbove plan w l) where
    tidy_stays : (e : ℕ) → lowest plan e ≡ true → TidyAbove plan w e l → TidyAbove plan v e l
    tidy_stays e le t = tidy_above_kept plan law a low w v inv none turn l above-live e le t

    -- In the first marking: who has begun a round is clean, and who has ended one is tidy.
    first_cleaned : FirstMarking plan w x l → (t : Memory) (e : ℕ) → lowest plan e ≡ true → above plan e l ≡ x → Moved plan law a l w v t e → (status t e l ≡ Unstarted → ⊥) → Cleaned plan v e
    first_cleaned p t e le here (stands _ same) h = cleaned_kept plan law a low w v turn e le (p.cleaned e le here (λ u. h (same ∙ u)))
    first_cleaned p t e le here (begins s _) h = cleaned_passing plan law a low v e (top plan) s.begin.stage_is
    first_cleaned p t e le here (finishes own _ at is) h = cleaned_resting plan law a low v e at

    first_tidy : FirstMarking plan w x l → (t : Memory) (e : ℕ) → lowest plan e ≡ true → above plan e l ≡ x → Moved plan law a l w v t e → status t e l ≡ Ended → TidyAbove plan v e l
    first_tidy p t e le here (stands _ same) h = tidy_stays e le (p.tidy e le here (sym same ∙ h))
    first_tidy p t e le here (begins s is) h = tidy_stays e le (p.tidy e le here (restarted_not _ _ Ended (unstarted_ended Unstarted refl) (begun_ended true _ (sym is ∙ h))).1)
    first_tidy p t e le here (finishes own _ at is) h =
        let clean = p.cleaned e le here (ended_started _ (sym is ∙ h)) in
        subst (λ i. TidyAbove plan v i l) (sym own)
        (tidy_comes plan law a low w v turn (subst (λ i. stage v.memory i ≡ Resting) own at) (subst (Cleaned plan w) own clean) l).above

    first_stays : FirstMarking plan w x l → marking v x ≡ marking w x → EachUnder plan x l (Moved plan law a l w v v.memory) → FirstMarking plan v x l
    first_stays p same moves =
        record {
          marks = same ∙ p.marks;
          cleaned = λ e le here. first_cleaned p v.memory e le here (moves e le here);
          tidy = λ e le here. first_tidy p v.memory e le here (moves e le here);
        }

    first_recovers : FirstMarking plan w x l → marking v x ≡ false → (over : Memory) → EachUnder plan x l (Moved plan law a l w v over) → Resets plan x l over v.memory → NoneWaits plan v.waits x l → FirstRecovery plan v x l
    first_recovers p is over moves f waits =
        record {
          recovers = is;
          cleaned = λ e le here. first_cleaned p over e le here (moves e le here) (λ u. unstarted_ended _ u (f.were_ended e le here));
          tidy = λ e le here. first_tidy p over e le here (moves e le here) (f.were_ended e le here);
          none_wait = waits;
          clear = λ e le here begun. absurd (begun (f.status_is e le here));
        }

    -- When the first recovery ends, no mark of level l is left, and none sends.
    second_marks : FirstRecovery plan w x l → marking v x ≡ true → EachUnder plan x l (λ e. sends v.memory e l ≡ false) → SecondMarking plan v x l
    second_marks p is silent =
        record {
          marks = is;
          cleaned = all_cleaned p.cleaned;
          tidy = λ e le here. record { above = tidy_stays e le (p.tidy e le here); at_level = λ _ sending. absurd (false≢true (sym (silent e le here) ∙ sending)) };
          live = (recovery_over plan law a low x l nx level ll hl w v inv turn (is_recovering _ p.recovers) (is_marking_lem _ is) p.none_wait).0 p.clear;
        }

    -- Live marks and tidy areas stay so.
    marks_stay : LiveMarks plan w x l → EachUnder plan x l (λ e. Tidy plan w e l) → LiveMarks plan v x l
    marks_stay live tidy = live_marks_kept plan law a low x l nx level ll hl w v inv turn live (λ here. tidy a low here)

    areas_stay : LiveMarks plan w x l → EachUnder plan x l (λ e. Tidy plan w e l) → EachUnder plan x l (λ e. Tidy plan v e l)
    areas_stay live tidy e le here = tidy_kept plan law a low w v inv none turn x l nx level ll hl above-live live e le here (tidy e le here)

    second_recovers : SecondMarking plan w x l → marking v x ≡ false → (over : Memory) → Resets plan x l over v.memory → NoneWaits plan v.waits x l → SecondRecovery plan v x l
    second_recovers p is over f waits =
        record {
          recovers = is;
          cleaned = all_cleaned p.cleaned;
          tidy = areas_stay p.live p.tidy;
          live = marks_stay p.live p.tidy;
          none_wait = waits;
          kept = λ e le here begun. absurd (begun (f.status_is e le here));
        }

    -- When the second recovery ends, the entries of level l that are left are live.
    all_live : SecondRecovery plan w x l → marking v x ≡ true → AllOfLevelLive plan v x l
    all_live p is =
        record {
          cleaned = all_cleaned p.cleaned;
          tidy = areas_stay p.live p.tidy;
          live = marks_stay p.live p.tidy;
          entries = (recovery_over plan law a low x l nx level ll hl w v inv turn (is_recovering _ p.recovers) (is_marking_lem _ is) p.none_wait).1 p.kept;
        }

    pub live_stays : AllOfLevelLive plan w x l → AllOfLevelLive plan v x l
    live_stays p =
        record {
          cleaned = all_cleaned p.cleaned;
          tidy = areas_stay p.live p.tidy;
          live = marks_stay p.live p.tidy;
          entries = live_entries plan law a low w v inv turn x l ll low_level p.entries;
        }

    on : PhaseMove plan law a x l w v → (n : ℕ) → Progress plan w x l n → marking w x ≡ false → marking v x ≡ true → Progress plan v x l (suc n)
    on (stays same _ _) n p was is = absurd (false≢true (sym was ∙ sym same ∙ is))
    on (changes _ _ _ f _) zero p was is =
        inl (record {
          marks = is;
          cleaned = λ e le here begun. absurd (begun (f.status_is e le here));
          tidy = λ e le here h. absurd (unstarted_ended _ (f.status_is e le here) h);
        })
    on (changes _ _ _ f _) (suc zero) (inl p) was is = absurd (false≢true (sym was ∙ p.marks))
    on (changes _ _ _ f _) (suc zero) (inr p) was is = inl (second_marks p is f.sends_is)
    on (changes _ _ _ f _) (suc (suc zero)) (inl p) was is = absurd (false≢true (sym was ∙ p.marks))
    on (changes _ _ _ f _) (suc (suc zero)) (inr p) was is = all_live p is
    on (changes _ _ _ f _) (suc (suc (suc n))) p was is = live_stays p

    -- A recovery of area x that ends brings it one step further.
    pub progress_on : (n : ℕ) → Progress plan w x l n → recovery_ends x w v ≡ true → Progress plan v x l (suc n)
    progress_on n p h = let (was, is) = rises (marking w x) (marking v x) h in on (phase_move plan law a low w v turn x l nx level ll hl) n p was is

    still : PhaseMove plan law a x l w v → (n : ℕ) → Progress plan w x l n → (marking w x ≡ false → marking v x ≡ true → ⊥) → Progress plan v x l n
    still o zero p h = tt
    still (stays same moves _) (suc zero) (inl p) h = inl (first_stays p same moves)
    still (stays same moves _) (suc zero) (inr p) h =
        inr (record {
          recovers = same ∙ p.recovers;
          cleaned = all_cleaned p.cleaned;
          tidy = λ e le here. tidy_stays e le (p.tidy e le here);
          none_wait = none_waits_kept plan law a low x l nx level ll hl w v inv turn (is_recovering _ p.recovers) p.none_wait;
          clear = clear_marks_kept plan law a low x l nx level ll hl w v inv turn (is_recovering _ p.recovers) p.none_wait p.clear;
        })
    still (stays same moves _) (suc (suc zero)) (inl p) h =
        inl (record { marks = same ∙ p.marks; cleaned = all_cleaned p.cleaned; tidy = areas_stay p.live p.tidy; live = marks_stay p.live p.tidy })
    still (stays same moves _) (suc (suc zero)) (inr p) h =
        inr (record {
          recovers = same ∙ p.recovers;
          cleaned = all_cleaned p.cleaned;
          tidy = areas_stay p.live p.tidy;
          live = marks_stay p.live p.tidy;
          none_wait = none_waits_kept plan law a low x l nx level ll hl w v inv turn (is_recovering _ p.recovers) p.none_wait;
          kept = entries_still_kept plan law a low x l nx level ll hl w v inv turn (is_recovering _ p.recovers) p.live p.kept;
        })
    still (changes c over moves f none) (suc zero) (inl p) h = inr (first_recovers p (c ∙ ap not p.marks) over moves f (none p.marks))
    still (changes c over moves f none) (suc zero) (inr p) h = absurd (h p.recovers (c ∙ ap not p.recovers))
    still (changes c over moves f none) (suc (suc zero)) (inl p) h = inr (second_recovers p (c ∙ ap not p.marks) over f (none p.marks))
    still (changes c over moves f none) (suc (suc zero)) (inr p) h = absurd (h p.recovers (c ∙ ap not p.recovers))
    still o (suc (suc (suc n))) p h = live_stays p

    -- Any other turn keeps what is there.
    pub progress_still : (n : ℕ) → Progress plan w x l n → recovery_ends x w v ≡ false → Progress plan v x l n
    progress_still n p h = still (phase_move plan law a low w v turn x l nx level ll hl) n p (λ was is. not_rises (marking w x) (marking v x) was is h)
