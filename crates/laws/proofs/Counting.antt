-- Counting along turns alone: what each turn that counts carries one step further, many turns carry as often as they count.
use Rattle.std.proofs.Common.{◌≡◌, ℕ, suc, ◌+◌, ◌≤◌, Bool, true, false, cond, eqb, List, [], ◌∷◌, ◌++◌, sym, subst, inl, inr, arith}
use Rattle.std.proofs.lemmas.Bool.{cases_Bool, cond_both, cond-false}
use Rattle.state.specs.declared.refusal.Refusal.TheVariants.{NotLowest}
use Rattle.state.specs.Layout.{Layout, lowest}
use Rattle.state.specs.Memory.{World}
use Rattle.state.specs.Calls.{Outcome, accepted, refused, turns}
use Rattle.state.specs.Turns.{turned}
use Rattle.state.specs.Pasts.{turns_done, times, turns_of}
use Rattle.std.proofs.lemmas.List.Sums.{sum_by-cons}

-- How often one of the turns is that of an area.
pub turns_of_more : (a e : ℕ) (areas : List ℕ) → turns_of a (e ∷ areas) ≡ cond (eqb e a) 1 0 + turns_of a areas
turns_of_more a e areas = sum_by-cons (λ x. cond (eqb x a) 1 0) e areas

module _ (plan : Layout) where
  -- a turn of a lowest area is done, any other is refused and leaves the world
  pub turn_cases : (P : World → Type 0) (a : ℕ) (w : World) → (lowest plan a ≡ true → P (turned plan a w)) → (lowest plan a ≡ false → P w) → P (turns plan a w).world
  turn_cases P a w done same = cond_both (lowest plan a) (accepted (turned plan a w)) (refused NotLowest w) (λ (o : Outcome). P o.world) done same

  pub turn_or_refusal : (P : World → Type 0) (a : ℕ) (w : World) → (lowest plan a ≡ true → P (turned plan a w)) → P w → P (turns plan a w).world
  turn_or_refusal P a w done same = turn_cases P a w done (λ _. same)

  module _ (happens : World → World → Bool) where
    -- what happens in turns of some areas and then of others
    pub times-append : (areas others : List ℕ) (w : World) → times plan happens (areas ++ others) w ≡ times plan happens areas w + times plan happens others (turns_done plan areas w)
    times-append [] others w = omega arith
    times-append (a ∷ areas) others w = let rest = times-append areas others (turns plan a w).world in omega (arith, rest)

    -- what happens in the first turn, or in the others
    pub times_first : (e : ℕ) (areas : List ℕ) (w : World) → happens w (turns plan e w).world ≡ true → 1 ≤ times plan happens (e ∷ areas) w
    times_first e areas w h = rw h (omega arith)

    pub times_rest : (e : ℕ) (areas : List ℕ) (w : World) → 1 ≤ times plan happens areas (turns plan e w).world → 1 ≤ times plan happens (e ∷ areas) w
    times_rest e areas w h = omega arith

    pub times_after : (e : ℕ) (areas : List ℕ) (w : World) → happens w (turns plan e w).world ≡ false → 1 ≤ times plan happens (e ∷ areas) w → 1 ≤ times plan happens areas (turns plan e w).world
    times_after e areas w h more =
        let none = cond-false {A = ℕ} (happens w (turns plan e w).world) 1 0 h in
        omega (arith, none, more)

  module _ (Holds : World → Type 0) (keeps : (a : ℕ) (w : World) → Holds w → Holds (turns plan a w).world) where
    -- what each turn keeps, turns keep
    pub along : (areas : List ℕ) (w : World) → Holds w → Holds (turns_done plan areas w)
    along [] w h = h
    along (a ∷ areas) w h = along areas (turns plan a w).world (keeps a w h)

    module _ (happens : World → World → Bool) (Done : ℕ → World → Type 0)
        (on : (a : ℕ) (w : World) → Holds w → (n : ℕ) → Done n w → happens w (turns plan a w).world ≡ true → Done (suc n) (turns plan a w).world)
        (still : (a : ℕ) (w : World) → Holds w → (n : ℕ) → Done n w → happens w (turns plan a w).world ≡ false → Done n (turns plan a w).world) where
      pub carried : (areas : List ℕ) (w : World) → Holds w → (n : ℕ) → Done n w → Done (n + times plan happens areas w) (turns_done plan areas w)
      carried [] w h n d = let e : n + 0 ≡ n = omega arith in subst (λ k. Done k w) (sym e) d
      carried (a ∷ areas) w h n d =
          elim (cases_Bool (happens w (turns plan a w).world)) [
            | inl now ↦
                let e : suc n + times plan happens areas (turns plan a w).world ≡ n + (1 + times plan happens areas (turns plan a w).world) = omega arith in
                subst (λ t. Done (n + (cond t 1 0 + times plan happens areas (turns plan a w).world)) (turns_done plan areas (turns plan a w).world)) (sym now)
                (subst (λ k. Done k (turns_done plan areas (turns plan a w).world)) e (carried areas (turns plan a w).world (keeps a w h) (suc n) (on a w h n d now)))
            | inr other ↦
                let e : n + times plan happens areas (turns plan a w).world ≡ n + (0 + times plan happens areas (turns plan a w).world) = omega arith in
                subst (λ t. Done (n + (cond t 1 0 + times plan happens areas (turns plan a w).world)) (turns_done plan areas (turns plan a w).world)) (sym other)
                (subst (λ k. Done k (turns_done plan areas (turns plan a w).world)) e (carried areas (turns plan a w).world (keeps a w h) n (still a w h n d other)))
          ]
