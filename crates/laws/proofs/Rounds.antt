-- A round ends soon: an area of n slots that has had 2n + H + 2 accepted turns has ended a round.
use Rattle.std.proofs.Common.{◌≡◌, ℕ, ◌+◌, ◌-◌, ◌*◌, ◌<◌, ◌≤◌, Bool, true, false, cond, not, ◌&&◌, eqb, ◌⊎◌, List, [], ◌∷◌, is_some, sym, refl, ap, ◌∙◌, subst, inl, inr, arith}
use Rattle.std.proofs.lemmas.Bool.{cases_eq, and_from, ne_eqb, and_right, cond_both, cond-false, true≢false}
use Rattle.state.specs.declared.collector.Stage.{Stage}
use Rattle.state.specs.declared.collector.Stage.TheVariants.{Resting, Pass, Sweep}
use Rattle.state.specs.declared.block.Block.{Block}
use Rattle.state.specs.Layout.{Layout, top, lowest, within, first_in, last_of, area_size}
use Rattle.state.specs.Lawful.{Lawful}
use Rattle.state.specs.Memory.{Memory, World, block_at, block_in}
use Rattle.state.specs.Calls.{turns}
use Rattle.state.specs.Pasts.{is_resting, resting, round_ends, times, turns_of}
use Rattle.laws.specs.Views.{black, black_in, stage}
use Rattle.laws.specs.Inductive.{Inductive}
use Rattle.laws.proofs.Plans.{within_bounds, within_first, one_home, within_from}
use Rattle.laws.proofs.Graphs.{used_back}
use Rattle.laws.proofs.Parts.{grey, Scans}
use Rattle.laws.proofs.TurnKinds.{Turn, starts, scan, next_pass, to_sweep, sweep_slot, ends, turn_kind, stage_elsewhere, scan_stage}
use Rattle.laws.proofs.Counting.{turn_cases, turns_of_more, times_first, times_rest}
use Rattle.laws.proofs.Kept.{invariant_turns}
use Rattle.laws.proofs.Sums.{bit, bit_most, bit_less, sum_over, sum_most, sum_less, bit_falls, sum_falls}
use Rattle.state.specs.Turns.{turned}

-- a block that is not black
abbrev pale : Memory → ℕ → Bool
pale s b = is_some (block_at s b) && not (black s b)

-- a block that stays, and was not black if it is not
pale_back : (s t : Memory) (b : ℕ) → is_some (block_at t b) ≡ is_some (block_at s b) → black t b ≡ black s b → pale t b ≡ true → pale s b ≡ true
pale_back s t b used same h = subst (λ u. (u && not (black s b)) ≡ true) used (subst (λ c. (is_some (block_at t b) && not c) ≡ true) same h)

-- the slots from the first of an area on are within it
pub inside_from : (plan : Layout) (a b : ℕ) → first_in plan a ≤ b → b < first_in plan a + area_size plan a → within plan a b ≡ true
inside_from plan a b lo hi = within_from plan a b lo (omega (arith, lo, hi))

module _ (plan : Layout) (a : ℕ) where
  -- how many blocks of the area are not black
  abbrev pales : Memory → ℕ
  pales s = sum_over (λ b. bit (pale s b)) (first_in plan a) (area_size plan a)

  pales_most : (s : Memory) → pales s ≤ area_size plan a
  pales_most s = let most = sum_most (λ b. bit (pale s b)) 1 (λ b. bit_most (pale s b)) (first_in plan a) (area_size plan a) in omega (arith, most)

  -- How many turns are left at most until a round ends.
  abbrev left_at : Stage → Memory → ℕ
  left_at Resting s = 2 * area_size plan a + top plan + 2
  left_at (Pass L) s = pales s + L + area_size plan a + 1
  left_at (Sweep k) s = last_of plan a + 1 - k + 1

  abbrev left : World → ℕ
  left w = left_at (stage w.memory a) w.memory

  left_is : (w : World) (t : Stage) → stage w.memory a ≡ t → left w ≡ left_at t w.memory
  left_is w t at = ap (λ x. left_at x w.memory) at

  left_least : (w : World) (t : Stage) → stage w.memory a ≡ t → 1 ≤ left w
  left_least w Resting at = let e = left_is w Resting at in omega (arith, e)
  left_least w (Pass L) at = let e = left_is w (Pass L) at in omega (arith, e)
  left_least w (Sweep k) at = let e = left_is w (Sweep k) at in omega (arith, e)

module _ (plan : Layout) (law : Lawful plan) (a : ℕ) (low : lowest plan a ≡ true) where
  left_most : (w : World) → Inductive plan w → (t : Stage) → stage w.memory a ≡ t → left plan a w ≤ 2 * area_size plan a + top plan + 2
  left_most w inv Resting at = let e = left_is plan a w Resting at in omega (arith, e)
  left_most w inv (Pass L) at =
      let e = left_is plan a w (Pass L) at in
      let inside = inv.sound.passes_inside a L low at in
      omega (arith, e, inside.1, pales_most plan a w.memory)
  left_most w inv (Sweep k) at =
      let e = left_is plan a w (Sweep k) at in
      let inside = inv.sound.sweeps_inside a k low at in
      omega (arith, e, inside)

  -- where blocks stay and none loses its black, no more of them are not black
  pales_kept : (s t : Memory) → ((b : ℕ) → within plan a b ≡ true → pale t b ≡ true → pale s b ≡ true) → pales plan a t ≤ pales plan a s
  pales_kept s t back =
      sum_less (λ b. bit (pale s b)) (λ b. bit (pale t b)) (first_in plan a) (area_size plan a) (λ b lo hi. bit_less (pale s b) (pale t b) (back b (inside_from plan a b lo hi)))

  -- a scan makes one of them black
  pales_scanned : (w v : World) (L p : ℕ) (k : Block) → within plan a p ≡ true → grey w.memory p → Scans plan law a low L p k w v → pales plan a v.memory < pales plan a w.memory
  pales_scanned w v L p k inside is_grey_lem sc =
      let bounds = within_bounds plan a p inside in
      sum_falls (λ b. bit (pale w.memory b)) (λ b. bit (pale v.memory b)) (first_in plan a) (area_size plan a)
      (λ b lo hi. bit_less (pale w.memory b) (pale v.memory b) (back b (inside_from plan a b lo hi)))
      p bounds.0 (omega (arith, bounds.0, bounds.1))
      (bit_falls (pale w.memory p) (pale v.memory p) pale_before pale_after)
    where
      pale_before : pale w.memory p ≡ true
      pale_before = and_from (is_some (block_at w.memory p)) (not (black w.memory p)) is_grey_lem.0 (ap not is_grey_lem.1.1)

      pale_after : pale v.memory p ≡ false
      pale_after = and_right (is_some (block_at v.memory p)) (not (black v.memory p)) (ap not sc.black_here)

      back : (b : ℕ) → within plan a b ≡ true → pale v.memory b ≡ true → pale w.memory b ≡ true
      back b within_b h =
          elim (cases_eq b p) [
            | inl same ↦ subst (λ c. pale w.memory c ≡ true) (sym same) pale_before
            | inr other ↦ pale_back w.memory v.memory b (used_back _ _ sc.graph b) (sc.black_others b (within_first plan a b within_b) other) h
          ]

  -- An accepted turn of the area ends a round, or one turn less is left.
  own : (w v : World) → Inductive plan w → Turn plan law a low w v → (round_ends a w v ≡ true) ⊎ (left plan a v < left plan a w)
  own w v inv (starts at u drain begin same) =
      let was = left_is plan a w Resting at in
      let is = left_is plan a v (Pass (top plan)) begin.stage_is in
      inr (omega (arith, was, is, pales_most plan a v.memory))
  own w v inv (scan L p k at n inside there is_grey_lem sc) =
      let was = left_is plan a w (Pass L) at in
      let is = left_is plan a v (Pass L) (scan_stage plan law a low L p k w v sc ∙ at) in
      inr (omega (arith, was, is, pales_scanned w v L p k inside is_grey_lem sc))
  own w v inv (next_pass L at more begin same) =
      let was = left_is plan a w (Pass L) at in
      let is = left_is plan a v (Pass (L - 1)) begin.stage_is in
      let kept = pales_kept w.memory v.memory
      (λ b inside. pale_back w.memory v.memory b (used_back _ _ begin.shades.graph b) (begin.shades.black_is b (within_first plan a b inside))) in
      inr (omega (arith, was, is, kept, more))
  own w v inv (to_sweep L at moves now _ _ same) =
      let was = left_is plan a w (Pass L) at in
      let is = left_is plan a v (Sweep (first_in plan a)) now in
      let bounds = inv.sound.passes_inside a L low at in
      inr (omega (arith, was, is, bounds.0))
  own w v inv (sweep_slot k at inside sweep same) =
      let was = left_is plan a w (Sweep k) at in
      let is = left_is plan a v (Sweep (k + 1)) sweep.stage_is in
      let bounds = within_bounds plan a k inside in
      inr (omega (arith, was, is, bounds.1))
  own w v inv (ends k at past s) = inl (and_from (not (resting w a)) (resting v a) (ap (λ t. not (is_resting t)) at) (ap is_resting s.stage_is))

  -- where the stage stays and no block loses its black, no more turns are left
  left_kept : (w v : World) → stage v.memory a ≡ stage w.memory a → ((b : ℕ) → within plan a b ≡ true → pale v.memory b ≡ true → pale w.memory b ≡ true) → left plan a v ≤ left plan a w
  left_kept w v same back = by_stage (stage w.memory a) refl
    where
      by_stage : (t : Stage) → stage w.memory a ≡ t → left plan a v ≤ left plan a w
      by_stage Resting at = let was = left_is plan a w Resting at in let is = left_is plan a v Resting (same ∙ at) in omega (arith, was, is)
      by_stage (Pass L) at = let was = left_is plan a w (Pass L) at in let is = left_is plan a v (Pass L) (same ∙ at) in omega (arith, was, is, pales_kept w.memory v.memory back)
      by_stage (Sweep k) at = let was = left_is plan a w (Sweep k) at in let is = left_is plan a v (Sweep k) (same ∙ at) in omega (arith, was, is)

  -- the same blocks
  same_slots : (s t : Memory) → t.slots ≡ s.slots → (b : ℕ) → pale t b ≡ true → pale s b ≡ true
  same_slots s t e b h = subst (λ xs. (is_some (block_in xs b) && not (black_in (block_in xs b))) ≡ true) e h

  -- A turn of another area leaves the turns that are left.
  others : (e : ℕ) (low-e : lowest plan e ≡ true) → (e ≡ a → ⊥) → (w v : World) → Turn plan law e low-e w v → left plan a v ≤ left plan a w
  others e low-e ne w v k = by_kinds k
    where
      stage_is : stage v.memory a ≡ stage w.memory a
      stage_is = stage_elsewhere plan law e low-e w v k a low (λ q. ne (sym q))

      apart : (b p : ℕ) → within plan a b ≡ true → within plan e p ≡ true → b ≡ p → ⊥
      apart b p inside there same = ne (one_home plan law e a b low-e low (subst (λ c. within plan e c ≡ true) (sym same) there) inside)

      by_kinds : Turn plan law e low-e w v → left plan a v ≤ left plan a w
      by_kinds (starts at u drain begin same) =
          left_kept w v stage_is
          (λ b inside. pale_back w.memory v.memory b (used_back _ _ begin.graph b ∙ used_back _ _ drain.graph b)
          (begin.black_is b (within_first plan a b inside) ∙ drain.colours.black_is b (within_first plan a b inside)))
      by_kinds (scan L p k at n there _ is_grey_lem sc) =
          left_kept w v stage_is
          (λ b inside. pale_back w.memory v.memory b (used_back _ _ sc.graph b) (sc.black_others b (within_first plan a b inside) (apart b p inside there)))
      by_kinds (next_pass L at more begin same) =
          left_kept w v stage_is
          (λ b inside. pale_back w.memory v.memory b (used_back _ _ begin.shades.graph b) (begin.shades.black_is b (within_first plan a b inside)))
      by_kinds (to_sweep L at moves now _ _ same) =
          left_kept w v stage_is (λ b inside. same_slots w.memory v.memory moves.slots b)
      by_kinds (sweep_slot k at there sweep same) =
          left_kept w v stage_is
          (λ b inside h. subst (λ o. (is_some o && not (black_in o)) ≡ true) (sweep.others b (within_first plan a b inside) (apart b k inside there)) h)
      by_kinds (ends k at past s) = left_kept w v stage_is (λ b inside. same_slots w.memory v.memory s.slots b)

module _ (plan : Layout) (law : Lawful plan) (a : ℕ) (low : lowest plan a ≡ true) where
  -- A turn ends a round, or the turns that are left become fewer by those that are of the area.
  each_turn : (e : ℕ) (w : World) → Inductive plan w → (round_ends a w (turns plan e w).world ≡ true) ⊎ (left plan a (turns plan e w).world + cond (eqb e a) 1 0 ≤ left plan a w)
  each_turn e w inv =
      turn_cases plan (λ v. (round_ends a w v ≡ true) ⊎ (left plan a v + cond (eqb e a) 1 0 ≤ left plan a w)) e w (λ low-e. accepted_turn low-e (turned plan e w) (turn_kind plan law e low-e w inv.sound)) refused_turn
    where
      one : cond (eqb e a) 1 0 ≤ 1
      one = cond_both (eqb e a) 1 0 (λ n. n ≤ 1) (λ _. omega arith) (λ _. omega arith)

      none : (e ≡ a → ⊥) → ◌≡◌ {A = ℕ} (cond (eqb e a) 1 0) 0
      none ne = cond-false {A = ℕ} (eqb e a) 1 0 (ne_eqb e a ne)

      own_turn : (low-e : lowest plan e ≡ true) (v : World) → Turn plan law e low-e w v → e ≡ a → (round_ends a w v ≡ true) ⊎ (left plan a v + cond (eqb e a) 1 0 ≤ left plan a w)
      own_turn low-e v k same =
          elim (subst (λ x. (round_ends x w v ≡ true) ⊎ (left plan x v < left plan x w)) same (own plan law e low-e w v inv k)) [
            | inl now ↦ inl now
            | inr fewer ↦ inr (omega (arith, fewer, one))
          ]

      accepted_turn : (low-e : lowest plan e ≡ true) (v : World) → Turn plan law e low-e w v → (round_ends a w v ≡ true) ⊎ (left plan a v + cond (eqb e a) 1 0 ≤ left plan a w)
      accepted_turn low-e v k =
          elim (cases_eq e a) [
            | inl same ↦ own_turn low-e v k same
            | inr ne ↦ inr (let z = none ne in omega (arith, z, others plan law a low e low-e ne w v k))
          ]

      refused_turn : lowest plan e ≡ false → (round_ends a w w ≡ true) ⊎ (left plan a w + cond (eqb e a) 1 0 ≤ left plan a w)
      refused_turn high = inr (let z = none (λ same. true≢false (sym (subst (λ x. lowest plan x ≡ true) (sym same) low) ∙ high)) in omega (arith, z))

  -- With so many turns as are left at most, a round ends.
  ends_within : (areas : List ℕ) (w : World) → Inductive plan w → left plan a w ≤ turns_of a areas → 1 ≤ times plan (round_ends a) areas w
  ends_within [] w inv enough = absurd (let least = left_least plan a w (stage w.memory a) refl in omega (arith, enough, least))
  ends_within (e ∷ areas) w inv enough =
      let more = turns_of_more a e areas in
      elim (each_turn e w inv) [
        | inl now ↦ times_first plan (round_ends a) e areas w now
        | inr fewer ↦ times_rest plan (round_ends a) e areas w (ends_within areas (turns plan e w).world (invariant_turns plan law e w inv) (omega (arith, more, fewer, enough)))
      ]

pub rounds_end : (plan : Layout) (law : Lawful plan) (w : World) → Inductive plan w → (a : ℕ) → lowest plan a ≡ true → (areas : List ℕ) →
    2 * area_size plan a + top plan + 2 ≤ turns_of a areas → 1 ≤ times plan (round_ends a) areas w
rounds_end plan law w inv a low areas enough =
    let most = left_most plan law a low w inv (stage w.memory a) refl in
    ends_within plan law a low areas w inv (omega (arith, most, enough))
