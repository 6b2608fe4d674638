-- Where all entries and marks are live, an area that ends two rounds has reachable blocks alone.
use Rattle.std.proofs.Common.{◌≡◌, ℕ, zero, suc, ◌+◌, ◌-◌, ◌<◌, ◌≤◌, true, false, is_some, sym, ap, ◌∙◌, subst, inl, inr, arith}
use Rattle.std.proofs.lemmas.Bool.{cases_Bool, cases_eq, false≢true}
use Rattle.state.specs.declared.collector.Stage.TheVariants.{Resting, Sweep}
use Rattle.state.specs.Layout.{Layout, top, lowest, within, first_in}
use Rattle.state.specs.Lawful.{Lawful}
use Rattle.state.specs.Memory.{World, block_in, block_at}
use Rattle.state.specs.Pasts.{resting, round_ends}
use Rattle.laws.specs.Roots.{Reach}
use Rattle.laws.specs.Views.{white, white_in, stage}
use Rattle.laws.specs.Inductive.{Inductive}
use Rattle.laws.proofs.Plans.{within_bounds, within_first, by_area}
use Rattle.laws.proofs.TurnKinds.{Turn, starts, scan, next_pass, to_sweep, sweep_slot, ends, stage_elsewhere, to_rest, ends_own, scan_stage}
use Rattle.laws.proofs.Live.{LiveAbove, NoneAboveTop, reach_forth, used_before}
use Rattle.laws.proofs.Tidy.{TidyAbove, Cleaned, dark_elsewhere, tidy_comes, tidy_above_kept}
use Rattle.laws.proofs.Stages.{rest_sweep, pass_sweep, sweep_is, at_rest}
use Rattle.laws.proofs.Flags.{rises}

-- After one round: the area is tidy in all passes, and a sweep leaves reachable blocks alone behind it.
pub record OneRound (plan : Layout) (w : World) (a : ℕ) : Type 0 where
  pub tidy : TidyAbove plan w a 0
  pub ahead : (k : ℕ) → stage w.memory a ≡ Sweep k → (b : ℕ) → within plan a b ≡ true → k ≤ b → is_some (block_at w.memory b) ≡ true → white w.memory b ≡ false → Reach w.memory b
  pub behind : (k : ℕ) → stage w.memory a ≡ Sweep k → (b : ℕ) → within plan a b ≡ true → b < k → is_some (block_at w.memory b) ≡ true → Reach w.memory b

-- Every block of the area is reachable.
abbrev pub AllReached : Layout → World → ℕ → Type 0
AllReached plan w a = (b : ℕ) → within plan a b ≡ true → is_some (block_at w.memory b) ≡ true → Reach w.memory b

-- What holds after so many rounds of area a have ended.
abbrev pub Rounds : Layout → World → ℕ → ℕ → Type 0
Rounds plan w a zero = Unit {0}
Rounds plan w a (suc zero) = OneRound plan w a
Rounds plan w a (suc (suc n)) = AllReached plan w a

module _ (plan : Layout) (law : Lawful plan) (a : ℕ) (low : lowest plan a ≡ true) (w v : World) (inv : Inductive plan w) (none : NoneAboveTop plan w.memory) (turn : Turn plan law a low w v) where
  all_reached_kept : (e : ℕ) → AllReached plan w e → AllReached plan v e
  all_reached_kept e all b inside used =
      reach_forth plan law a low w v inv turn b (all b inside (used_before plan law a low w v turn b (within_first plan e b inside) used))

  -- the sweep of the area whose turn it is
  ahead_own : OneRound plan w a → Turn plan law a low w v → (k : ℕ) → stage v.memory a ≡ Sweep k → (b : ℕ) → within plan a b ≡ true → k ≤ b → is_some (block_at v.memory b) ≡ true → white v.memory b ≡ false → Reach w.memory b
  ahead_own r (starts at u d g o) k is b inside more used dark = absurd (pass_sweep _ (top plan) k g.stage_is is)
  ahead_own r (scan L p x at n here there is_grey_lem s) k is b inside more used dark = absurd (pass_sweep _ L k (scan_stage plan law a low L p x w v s ∙ at) is)
  ahead_own r (next_pass L at m s o) k is b inside more used dark = absurd (pass_sweep _ (L - 1) k s.stage_is is)
  ahead_own r (to_sweep L at s first st se o) k is b inside more used dark =
      r.tidy.passing L at (inv.sound.passes_inside a L low at).0 b inside (ap (λ xs. is_some (block_in xs b)) (sym s.slots) ∙ used) (ap (λ xs. white_in (block_in xs b)) (sym s.slots) ∙ dark)
  ahead_own r (sweep_slot j at here s o) k is b inside more used dark =
      let next = sweep_is _ (j + 1) k s.stage_is is in
      let same = s.others b (within_first plan a b inside) (λ e. omega (arith, next, more, e)) in
      r.ahead j at b inside (omega (arith, next, more)) (ap is_some (sym same) ∙ used) (ap white_in (sym same) ∙ dark)
  ahead_own r (ends j at past s) k is b inside more used dark = absurd (rest_sweep _ k s.stage_is is)

  behind_own : OneRound plan w a → Turn plan law a low w v → (k : ℕ) → stage v.memory a ≡ Sweep k → (b : ℕ) → within plan a b ≡ true → b < k → is_some (block_at v.memory b) ≡ true → Reach w.memory b
  behind_own r (starts at u d g o) k is b inside less used = absurd (pass_sweep _ (top plan) k g.stage_is is)
  behind_own r (scan L p x at n here there is_grey_lem s) k is b inside less used = absurd (pass_sweep _ L k (scan_stage plan law a low L p x w v s ∙ at) is)
  behind_own r (next_pass L at m s o) k is b inside less used = absurd (pass_sweep _ (L - 1) k s.stage_is is)
  behind_own r (to_sweep L at s first st se o) k is b inside less used =
      let same = sweep_is _ (first_in plan a) k first is in
      absurd (omega (arith, (within_bounds plan a b inside).0, same, less))
  behind_own r (sweep_slot j at here s o) k is b inside less used =
      elim (cases_eq b j) [
        | inl e ↦ elim (cases_Bool (white w.memory j)) [
          | inl pale ↦ absurd (false≢true (sym (ap is_some (s.freed pale)) ∙ subst (λ n. is_some (block_at v.memory n) ≡ true) e used))
          | inr dark ↦
              r.ahead j at b inside (omega (arith, e)) (used_before plan law a low w v turn b (within_first plan a b inside) used) (subst (λ n. white w.memory n ≡ false) (sym e) dark)
        ]
        | inr ne ↦
            let next = sweep_is _ (j + 1) k s.stage_is is in
            r.behind j at b inside (omega (arith, next, less, ne)) (used_before plan law a low w v turn b (within_first plan a b inside) used)
      ]
  behind_own r (ends j at past s) k is b inside less used = absurd (rest_sweep _ k s.stage_is is)

  module _ (live : LiveAbove plan w 0) where
    one_round_own : OneRound plan w a → OneRound plan v a
    one_round_own r =
        record {
          tidy = tidy_above_kept plan law a low w v inv none turn 0 live a low r.tidy;
          ahead = λ k is b inside more used dark. reach_forth plan law a low w v inv turn b (ahead_own r turn k is b inside more used dark);
          behind = λ k is b inside less used. reach_forth plan law a low w v inv turn b (behind_own r turn k is b inside less used);
        }

    one_round_elsewhere : (e : ℕ) → lowest plan e ≡ true → (e ≡ a → ⊥) → OneRound plan w e → OneRound plan v e
    one_round_elsewhere e le ne r =
        let stands = sym (stage_elsewhere plan law a low w v turn e le ne) in
        record {
          tidy = tidy_above_kept plan law a low w v inv none turn 0 live e le r.tidy;
          ahead = λ k is b inside more used dark.
              reach_forth plan law a low w v inv turn b
              (r.ahead k (stands ∙ is) b inside more (used_before plan law a low w v turn b (within_first plan e b inside) used) (dark_elsewhere plan law a low w v turn e le ne b inside dark));
          behind = λ k is b inside less used.
              reach_forth plan law a low w v inv turn b (r.behind k (stands ∙ is) b inside less (used_before plan law a low w v turn b (within_first plan e b inside) used));
        }

    one_round_kept : (e : ℕ) → lowest plan e ≡ true → OneRound plan w e → OneRound plan v e
    one_round_kept e le = by_area (λ n. OneRound plan w n → OneRound plan v n) a e one_round_own (one_round_elsewhere e le)

    -- A round that ends with a clean sweep leaves white blocks alone; the end of the next one, reachable blocks alone.
    own_ends : Cleaned plan w a → stage v.memory a ≡ Resting → (n : ℕ) → Rounds plan w a n → Rounds plan v a (suc n)
    own_ends cleaned is zero r =
        record {
          tidy = (tidy_comes plan law a low w v turn is cleaned 0).above;
          ahead = λ k at b inside more used dark. absurd (rest_sweep _ k is at);
          behind = λ k at b inside less used. absurd (rest_sweep _ k is at);
        }
    own_ends cleaned is (suc zero) r = λ b inside used.
        let (k, (at, (past, s))) = to_rest plan law a low w v turn is in
        reach_forth plan law a low w v inv turn b
        (r.behind k at b inside (omega (arith, (within_bounds plan a b inside).1, past)) (used_before plan law a low w v turn b (within_first plan a b inside) used))
    own_ends cleaned is (suc (suc n)) r = all_reached_kept a r

    module _ (e : ℕ) (le : lowest plan e ≡ true) (cleaned : Cleaned plan w e) where
      pub rounds_on : (n : ℕ) → Rounds plan w e n → round_ends e w v ≡ true → Rounds plan v e (suc n)
      rounds_on n r h =
          let same = ends_own plan law a low w v turn e le h in
          let is = at_rest (stage v.memory e) (rises (resting w e) (resting v e) h).1 in
          subst (λ i. Rounds plan v i (suc n)) (sym same)
          (own_ends (subst (Cleaned plan w) same cleaned) (subst (λ i. stage v.memory i ≡ Resting) same is) n (subst (λ i. Rounds plan w i n) same r))

      pub rounds_still : (n : ℕ) → Rounds plan w e n → round_ends e w v ≡ false → Rounds plan v e n
      rounds_still zero r h = tt
      rounds_still (suc zero) r h = one_round_kept e le r
      rounds_still (suc (suc n)) r h = all_reached_kept e r
