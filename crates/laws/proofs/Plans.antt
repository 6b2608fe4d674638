-- What the proofs use of a lawful plan.
use Rattle.std.proofs.Common.{◌≡◌, ℕ, ◌≤◌, true, false, leb, length, sym, ap, ◌∙◌, subst, inl, inr, arith}
use Rattle.std.proofs.lemmas.Bool.{and_parts, leb-true, and_from, le-leb, cases_eq}
use Rattle.chain.specs.Chain.{numbered}
use Rattle.chain.proofs.Chains.{numbered_parts, numbered_from}
use Rattle.state.specs.Layout.{Layout, slot_count, lowest, first_in, last_of, within, home, above, level_of}
use Rattle.state.specs.Lawful.{Lawful, Together}
use Rattle.laws.proofs.Flags.{is_false}
use Rattle.plan.specs.Walk.{area_at}

-- a lowest area has a number
pub low_numbered : (plan : Layout) (a : ℕ) → lowest plan a ≡ true → numbered (length plan.areas) a ≡ true
low_numbered plan a low = (and_parts (numbered (length plan.areas) a) _ low).0

pub low_first : (plan : Layout) (a : ℕ) → lowest plan a ≡ true → 1 ≤ a
low_first plan a low = (numbered_parts _ a (low_numbered plan a low)).0

-- the bounds of an area's slots
pub within_bounds : (plan : Layout) (a b : ℕ) → within plan a b ≡ true → (first_in plan a ≤ b) × (b ≤ last_of plan a)
within_bounds plan a b w =
    let p = and_parts (leb (first_in plan a) b) (leb b (last_of plan a)) w in
    (leb-true _ _ p.0, leb-true _ _ p.1)

pub within_from : (plan : Layout) (a b : ℕ) → first_in plan a ≤ b → b ≤ last_of plan a → within plan a b ≡ true
within_from plan a b lo hi = and_from (leb (first_in plan a) b) (leb b (last_of plan a)) (le-leb _ _ lo) (le-leb _ _ hi)

-- a slot of an area is no slot 0
pub within_first : (plan : Layout) (a b : ℕ) → within plan a b ≡ true → 1 ≤ b
within_first plan a b w = let p = within_bounds plan a b w in omega (arith, p.0)

pub numbered_first : (n b : ℕ) → numbered n b ≡ true → 1 ≤ b
numbered_first n b t = (numbered_parts n b t).0

-- An area is this one or another.
pub by_area : (P : ℕ → Type 0) (a e : ℕ) → P a → ((e ≡ a → ⊥) → P e) → P e
by_area P a e here there = elim (cases_eq e a) [ inl q ↦ subst P (sym q) here | inr n ↦ there n ]

module _ (plan : Layout) (law : Lawful plan) where
  pub within_numbered : (a b : ℕ) → lowest plan a ≡ true → within plan a b ≡ true → numbered (slot_count plan) b ≡ true
  within_numbered a b low w =
      let p = within_bounds plan a b w in
      let s = law.slots_inside a low in
      numbered_from (slot_count plan) b (omega (arith, p.0, s.0)) (omega (arith, p.1, s.2))

  pub inside_level : (a b c : ℕ) → lowest plan a ≡ true → within plan a b ≡ true → numbered (slot_count plan) c ≡ true → level_of plan b c ≤ 1 → within plan a c ≡ true
  inside_level a b c low wb nc h =
      let nb = within_numbered a b low wb in
      let q = law.level_within b c nb nc in
      let one : level_of plan b c ≡ 1 = omega (arith, q.0, h) in
      let met = subst (λ l. Together plan l (home plan b) (home plan c)) one q.2 in
      let same : home plan c ≡ a = sym (law.above_one (home plan c)) ∙ sym met ∙ law.above_one (home plan b) ∙ law.only_home a b low wb in
      subst (λ x. within plan x c ≡ true) same (law.at_home c nc).1

  -- two lowest areas that have one slot are one
  pub one_home : (a e b : ℕ) → lowest plan a ≡ true → lowest plan e ≡ true → within plan a b ≡ true → within plan e b ≡ true → a ≡ e
  one_home a e b la le wa we = sym (law.only_home a b la wa) ∙ law.only_home e b le we

  -- a slot of another lowest area is none of a's
  pub outside : (a e b : ℕ) → lowest plan a ≡ true → lowest plan e ≡ true → (e ≡ a → ⊥) → within plan e b ≡ true → within plan a b ≡ false
  outside a e b low le ne inside = is_false (within plan a b) (λ here. ne (one_home e a b le low inside here))

  -- the ends of a pointer of level at most l lie in one area of level l
  pub pointer_together : (a e b c l : ℕ) → lowest plan a ≡ true → lowest plan e ≡ true → within plan a b ≡ true → within plan e c ≡ true → level_of plan b c ≤ l → above plan a l ≡ above plan e l
  pointer_together a e b c l la le wb wc h =
      let nb = within_numbered a b la wb in
      let nc = within_numbered e c le wc in
      let q = law.level_within b c nb nc in
      let met = law.nested (home plan b) (home plan c) (level_of plan b c) l q.0 h q.2 in
      ap (λ x. above plan x l) (sym (law.only_home a b la wb)) ∙ met ∙ ap (λ x. above plan x l) (law.only_home e c le wc)

-- where a lowest area under x has a slot, x has it, and where x has it, its home lies under x
module _ (plan : Layout) (law : Lawful plan) (x l : ℕ) (nx : numbered (length plan.areas) x ≡ true) (level : (area_at plan.areas x).level ≡ l) where
  pub home_under : (b : ℕ) → numbered (slot_count plan) b ≡ true → within plan x b ≡ true → above plan (home plan b) l ≡ x
  home_under b n inside = subst (λ j. above plan (home plan b) j ≡ x) level ((law.above_within x b nx n).0 inside)

  pub within_over : (e b : ℕ) → lowest plan e ≡ true → above plan e l ≡ x → within plan e b ≡ true → within plan x b ≡ true
  within_over e b le under inside =
      (law.above_within x b nx (within_numbered plan law e b le inside)).1
      (subst (λ j. above plan (home plan b) j ≡ x) (sym level) (ap (λ h. above plan h l) (law.only_home e b le inside) ∙ under))
