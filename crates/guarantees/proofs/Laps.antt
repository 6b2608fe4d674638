-- A stretch of turns in which every lowest area begins a round and ends it is a lap where an area's round ends only with the last turn.
use Rattle.std.proofs.Common.{◌≡◌, ℕ, ◌<◌, ◌≤◌, Bool, true, false, ltb, List, [], ◌∷◌, ◌++◌, length, refl, ap, subst, inl, inr, arith, length-append}
use Rattle.std.proofs.lemmas.Bool.{and_parts, and_from, or_cases, or_left, or_right, ltb-true, lt-ltb, false≢true}
use Rattle.state.specs.Layout.{Layout, lowest}
use Rattle.state.specs.Memory.{World}
use Rattle.state.specs.Calls.{turns}
use Rattle.state.specs.Pasts.{times, round_ends, round_begins, round_within, AllRound, Lap}

times_longer : (plan : Layout) (happens : World → World → Bool) (front more : List ℕ) (w : World) → times plan happens front w ≤ times plan happens (front ++ more) w
times_longer plan happens [] more w = omega arith
times_longer plan happens (a ∷ front) more w = omega (arith, times_longer plan happens front more (turns plan a w).world)

within_longer : (plan : Layout) (a : ℕ) (front more : List ℕ) (w : World) → round_within plan a front w ≡ true → round_within plan a (front ++ more) w ≡ true
within_longer plan a [] more w h = absurd (false≢true h)
within_longer plan a (x ∷ front) more w h =
    let v = (turns plan x w).world in
    elim (or_cases _ _ h) [
      | inl here ↦
          let p = and_parts (round_begins a w v) (ltb 0 (times plan (round_ends a) front v)) here in
          let later : 0 < times plan (round_ends a) (front ++ more) v = omega (arith, times_longer plan (round_ends a) front more v, ltb-true 0 (times plan (round_ends a) front v) p.1) in
          or_left _ _ (and_from _ _ p.0 (lt-ltb _ _ later))
      | inr later ↦ or_right _ _ (within_longer plan a front more v later)
    ]

-- what is a front but not the whole is a front of all turns but the last
rest_of_front : (front rest short : List ℕ) (e : ℕ) → 0 < length rest → short ++ (e ∷ []) ≡ front ++ rest → (more : List ℕ) × (front ++ more ≡ short)
rest_of_front [] rest short e l p = (short, refl)
rest_of_front (f ∷ front) rest [] e l p =
    let t : [] ≡ front ++ rest = cc in
    absurd (omega (arith, ap length t, length-append front rest))
rest_of_front (f ∷ front) rest (x ∷ short) e l p =
    let t : short ++ (e ∷ []) ≡ front ++ rest = cc in
    let r = rest_of_front front rest short e l t in
    let h : x ≡ f = cc in
    (r.0, cc r.1)

pub lap_by_last : (plan : Layout) (a : ℕ) (short : List ℕ) (e : ℕ) (w : World) → lowest plan a ≡ true → round_within plan a short w ≡ false → AllRound plan (short ++ (e ∷ [])) w → Lap plan (short ++ (e ∷ [])) w
lap_by_last plan a short e w low not_yet full = record {
  full = full;
  shortest = λ front rest p l all.
      let r = rest_of_front front rest short e l p in
      false≢true (subst (λ b. b ≡ true) not_yet (subst (λ xs. round_within plan a xs w ≡ true) r.1 (within_longer plan a front r.0 w (all a low))));
}
