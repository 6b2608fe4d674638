-- Turns alone recover all garbage: level by level all entries and marks become live, and then two rounds of each area free what is not reachable.
use Rattle.std.proofs.Common.{◌≡◌, ℕ, zero, suc, ◌+◌, ◌-◌, ◌<◌, ◌≤◌, true, false, List, length, get_or, is_some, Some, None, Option, sym, refl, ap, ◌∙◌, subst, inl, inr, arith}
use Rattle.std.proofs.lemmas.Bool.{cases_eq}
use Rattle.chain.specs.Chain.{numbered}
use Rattle.plan.specs.Walk.{area_at}
use Rattle.state.specs.declared.block.Block.{Block}
use Rattle.state.specs.Layout.{Layout, top, slot_count, lowest, home, above}
use Rattle.state.specs.Lawful.{Lawful}
use Rattle.state.specs.Memory.{World, block_at}
use Rattle.state.specs.Turns.{turned}
use Rattle.state.specs.Calls.{turns}
use Rattle.state.specs.Pasts.{Free, turns_done, resting, recovery_ends, round_ends, times, marking}
use Rattle.laws.specs.Roots.{Reach}
use Rattle.laws.specs.Promises.{RecoveriesEnd, Downward, down_to_one, level_part}
use Rattle.laws.specs.Views.{entry, entry_in}
use Rattle.laws.specs.Inductive.{Inductive}
use Rattle.laws.proofs.TurnKinds.{Turn, turn_kind}
use Rattle.laws.proofs.Counting.{turn_or_refusal, along, carried}
use Rattle.laws.proofs.Live.{LiveAbove, NoneAboveTop, reach_back_turn, none_above_top}
use Rattle.laws.proofs.Tidy.{Cleaned}
use Rattle.laws.proofs.Progress.{AllOfLevelLive, Progress, live_stays, progress_on, progress_still}
use Rattle.laws.proofs.TwoRounds.{Rounds, AllReached, rounds_on, rounds_still}
use Rattle.laws.proofs.Changed.{no_block}
use Rattle.laws.proofs.Flags.{is_false, never_rises}
use Rattle.laws.proofs.Kept.{invariant_turned}

-- Entries and marks of all areas of all levels above l are live.
abbrev AllLive : Layout → World → ℕ → Type 0
AllLive plan w l = (x j : ℕ) → numbered (length plan.areas) x ≡ true → (area_at plan.areas x).level ≡ j → l < j → j ≤ top plan → AllOfLevelLive plan w x j

-- What holds from a world on: the invariant, no entry above the top, and nothing is reachable that was not.
record Since (plan : Layout) (from w : World) : Type 0 where
  invariant : Inductive plan w
  none_above : NoneAboveTop plan w.memory
  reached : (b : ℕ) → Reach w.memory b → Reach from.memory b

-- an entry of level 1 reads as that of level 2
entry_one : (o : Option Block) → entry_in o 1 ≡ entry_in o 2
entry_one None = refl
entry_one (Some k) = let e : 1 - 2 ≡ 2 - 2 = omega arith in ap (λ i. is_some (get_or k.entries i None)) e

-- three recoveries are enough, and two rounds
third : (plan : Layout) (w : World) (x l n : ℕ) → 3 ≤ n → Progress plan w x l n → AllOfLevelLive plan w x l
third plan w x l zero h p = absurd (omega (arith, h))
third plan w x l (suc zero) h p = absurd (omega (arith, h))
third plan w x l (suc (suc zero)) h p = absurd (omega (arith, h))
third plan w x l (suc (suc (suc n))) h p = p

second : (plan : Layout) (w : World) (a n : ℕ) → 2 ≤ n → Rounds plan w a n → AllReached plan w a
second plan w a zero h p = absurd (omega (arith, h))
second plan w a (suc zero) h p = absurd (omega (arith, h))
second plan w a (suc (suc n)) h p = p

module _ (plan : Layout) (law : Lawful plan) where
  kind : (a : ℕ) (low : lowest plan a ≡ true) (w : World) → Inductive plan w → Turn plan law a low w (turned plan a w)
  kind a low w inv = turn_kind plan law a low w inv.sound

  since_kept : (from : World) (a : ℕ) (w : World) → Since plan from w → Since plan from (turns plan a w).world
  since_kept from a w s =
      turn_or_refusal plan (Since plan from) a w
      (λ low.
      let t = kind a low w s.invariant in
      record {
        invariant = invariant_turned plan law a low w s.invariant;
        none_above = none_above_top plan law a low w (turned plan a w) t s.none_above;
        reached = λ b r. s.reached b (reach_back_turn plan law a low w (turned plan a w) s.invariant t b r);
      })
      s

  -- every slot lies in an area of each level
  live_above : (w : World) (l : ℕ) → 1 ≤ l → AllLive plan w l → LiveAbove plan w l
  live_above w l one all b j n lj hj =
      let at = law.above_area (home plan b) j (law.at_home b n).0 (omega (arith, lj)) hj in
      let x = above plan (home plan b) j in
      let inside = (law.above_within x b at.0 n).1 (ap (above plan (home plan b)) at.1) in
      let p = all x j at.0 at.1 lj hj in
      (p.entries b n inside, λ m lm hm h. p.live b m n inside lm hm h)

  -- no mark is of level 1
  live_all : (w : World) → LiveAbove plan w 1 → LiveAbove plan w 0
  live_all w live b j n lj hj =
      elim (cases_eq j 1) [
        | inl one ↦
            let high = law.high.0 in
            (λ h. (live b 2 n (omega arith) high).0 (sym (entry_one (block_at w.memory b)) ∙ subst (λ i. entry w.memory b i ≡ true) one h), λ m lm hm h. absurd (omega (arith, one, lm, hm)))
        | inr other ↦ live b j n (omega (arith, lj, other)) hj
      ]

  all_live_kept : (from : World) (l : ℕ) → 1 ≤ l → (a : ℕ) (w : World) → Since plan from w → AllLive plan w l → AllLive plan (turns plan a w).world l
  all_live_kept from l one a w s all =
      turn_or_refusal plan (λ v. AllLive plan v l) a w
      (λ low x j n level lj hj.
      live_stays plan law a low w (turned plan a w) s.invariant s.none_above (kind a low w s.invariant) x j n level (omega (arith, one, lj)) hj
      (live_above w j (omega (arith, lj)) (λ y i ny at ji hi. all y i ny at (omega (arith, lj, ji)) hi))
      (all x j n level lj hj))
      all

  module _ (from : World) where
    -- all is live above level l
    abbrev Held : ℕ → World → Type 0
    Held l w = Since plan from w × AllLive plan w l

    held_kept : (l : ℕ) → 1 ≤ l → (a : ℕ) (w : World) → Held l w → Held l (turns plan a w).world
    held_kept l one a w h = (since_kept from a w h.0, all_live_kept from l one a w h.0 h.1)

    module _ (l : ℕ) (one : 1 ≤ l) (high : l ≤ top plan) (x : ℕ) (nx : numbered (length plan.areas) x ≡ true) (level : (area_at plan.areas x).level ≡ l) (two : 2 ≤ l) where
      level_on : (a : ℕ) (w : World) → Held l w → (n : ℕ) → Progress plan w x l n → recovery_ends x w (turns plan a w).world ≡ true → Progress plan (turns plan a w).world x l (suc n)
      level_on a w h n p =
          turn_or_refusal plan (λ v. recovery_ends x w v ≡ true → Progress plan v x l (suc n)) a w
          (λ low. progress_on plan law a low w (turned plan a w) h.0.invariant h.0.none_above (kind a low w h.0.invariant) x l nx level two high (live_above w l one h.1) n p)
          (λ h. absurd (never_rises (marking w x) h))

      level_still : (a : ℕ) (w : World) → Held l w → (n : ℕ) → Progress plan w x l n → recovery_ends x w (turns plan a w).world ≡ false → Progress plan (turns plan a w).world x l n
      level_still a w h n p =
          turn_or_refusal plan (λ v. recovery_ends x w v ≡ false → Progress plan v x l n) a w
          (λ low. progress_still plan law a low w (turned plan a w) h.0.invariant h.0.none_above (kind a low w h.0.invariant) x l nx level two high (live_above w l one h.1) n p)
          (λ _. p)

      level_done : (part : List ℕ) (w : World) → Held l w → 3 ≤ times plan (recovery_ends x) part w → AllOfLevelLive plan (turns_done plan part w) x l
      level_done part w h three =
          third plan (turns_done plan part w) x l (0 + times plan (recovery_ends x) part w) (omega (arith, three))
          (carried plan (Held l) (held_kept l one) (recovery_ends x) (λ n v. Progress plan v x l n) level_on level_still part w h 0 tt)

    -- Three recoveries of each area of level l + 1, and all is live above level l.
    level_live : (l : ℕ) → 1 ≤ l → suc l ≤ top plan → (part : List ℕ) (w : World) → Held (suc l) w → RecoveriesEnd plan 3 (suc l) part w → Held l (turns_done plan part w)
    level_live l one high part w h three =
        let o = along plan (Held (suc l)) (held_kept (suc l) (omega arith)) part w h in (
          o.0,
          λ x j nx level lj hj. elim (cases_eq j (suc l)) [
            | inl same ↦
                subst (AllOfLevelLive plan (turns_done plan part w) x) (sym same)
                (level_done (suc l) (omega arith) high x nx (level ∙ same) (omega (arith, one)) part w h (three x nx (level ∙ same)))
            | inr other ↦ o.1 x j nx level (omega (arith, lj, other)) hj
          ],
        )

    down_first : {l : ℕ} {w v : World} → Downward plan 3 l w v → 1 ≤ l
    down_first down_to_one = omega arith
    down_first (level_part part three rest) = omega arith

    -- So downward, level by level.
    all_live : {l : ℕ} {w v : World} → Downward plan 3 l w v → l ≤ top plan → Held l w → Held 1 v
    all_live down_to_one high h = h
    all_live (level_part {l} {w} {v} part three rest) high h = all_live rest (omega (arith, high)) (level_live l (down_first rest) high part w h three)

    -- the top area lies over every lowest area
    cleaned_area : (w : World) → Held 1 w → (e : ℕ) → lowest plan e ≡ true → Cleaned plan w e
    cleaned_area w h e le =
        let high = law.high.0 in
        let at = law.above_area e (top plan) le (omega (arith, high)) (omega arith) in
        (h.1 (above plan e (top plan)) (top plan) at.0 at.1 (omega (arith, high)) (omega arith)).cleaned e le refl

    module _ (e : ℕ) (le : lowest plan e ≡ true) where
      round_on_lem : (a : ℕ) (w : World) → Held 1 w → (n : ℕ) → Rounds plan w e n → round_ends e w (turns plan a w).world ≡ true → Rounds plan (turns plan a w).world e (suc n)
      round_on_lem a w h n p =
          turn_or_refusal plan (λ v. round_ends e w v ≡ true → Rounds plan v e (suc n)) a w
          (λ low. rounds_on plan law a low w (turned plan a w) h.0.invariant h.0.none_above (kind a low w h.0.invariant) (live_all w (live_above w 1 (omega arith) h.1)) e le (cleaned_area w h e le) n p)
          (λ h. absurd (never_rises (resting w e) h))

      round_still : (a : ℕ) (w : World) → Held 1 w → (n : ℕ) → Rounds plan w e n → round_ends e w (turns plan a w).world ≡ false → Rounds plan (turns plan a w).world e n
      round_still a w h n p =
          turn_or_refusal plan (λ v. round_ends e w v ≡ false → Rounds plan v e n) a w
          (λ low. rounds_still plan law a low w (turned plan a w) h.0.invariant h.0.none_above (kind a low w h.0.invariant) (live_all w (live_above w 1 (omega arith) h.1)) e le (cleaned_area w h e le) n p)
          (λ _. p)

      -- Two rounds, and every block of the area is reachable.
      two_rounds : (last : List ℕ) (w : World) → Held 1 w → 2 ≤ times plan (round_ends e) last w → AllReached plan (turns_done plan last w) e
      two_rounds last w h two =
          second plan (turns_done plan last w) e (0 + times plan (round_ends e) last w) (omega (arith, two))
          (carried plan (Held 1) (held_kept 1 (omega arith)) (round_ends e) (λ n v. Rounds plan v e n) round_on_lem round_still last w h 0 tt)

  -- Every block that was not reachable when the turns began is free in the end.
  pub garbage_freed : (w : World) → Inductive plan w → NoneAboveTop plan w.memory → (v : World) → Downward plan 3 (top plan) w v → (last : List ℕ) → ((a : ℕ) → lowest plan a ≡ true → 2 ≤ times plan (round_ends a) last v) →
      (b : ℕ) → numbered (slot_count plan) b ≡ true → (Reach w.memory b → ⊥) → Free (turns_done plan last v).memory b
  garbage_freed w inv none v down last rounds b n garbage =
      let start : Held w (top plan) w = (record { invariant = inv; none_above = none; reached = λ _ r. r }, λ x j nx level lj hj. absurd (omega (arith, lj, hj))) in
      let held = all_live w down (omega arith) start in
      let end = along plan (Held w 1) (held_kept w 1 (omega arith)) last v held in
      let home-low = law.at_home b n in
      no_block (block_at (turns_done plan last v).memory b)
      (is_false (is_some (block_at (turns_done plan last v).memory b)) (λ used. garbage (end.0.reached b (two_rounds w (home plan b) home-low.0 last v held (rounds (home plan b) home-low.0) b home-low.1 used))))
