-- The walk, a step at a time.
use Rattle.std.proofs.Common.{◌≡◌, ℕ, zero, suc, ◌+◌, ◌-◌, ◌*◌, ◌<◌, ◌≤◌, true, false, leb, List, [], ◌∷◌, ◌++◌, map, length, get_or, set, sym, refl, ap, ◌∙◌, ⊎_elim, add-one, arith}
use Rattle.std.specs.List.{AllByRecursion}
use Rattle.std.proofs.ByRecursion.{All-append}
use Rattle.std.proofs.lemmas.List.{append-nil, append_assoc, length-append, length_push, length-set, length-map, set_at, get_or_at, get_or-map}
use Rattle.std.proofs.lemmas.Bool.{cases_lt, cond_both, both_ways, le-leb, lt-leb}
use Rattle.std.proofs.lemmas.List.Sums.{sum_by-cons, sum_by-append}
use Rattle.chain.specs.Chain.{place, numbered, rest_of}
use Rattle.chain.proofs.Chains.{numbered_from, place_within}
use Rattle.plan.specs.declared.area.Area.{Area}
use Rattle.plan.specs.declared.area.Place.{Place}
use Rattle.plan.specs.Walk.{area_at, slots_in, entered, along, walk_from, Walked}

module _ (areas : List Area) (below : ℕ → ℕ → ℕ → List Place) (level parent : ℕ) where
  pub along_none : (i before : ℕ) → along areas below level parent 0 i before ≡ []
  unfolding along
  along_none i before = refl

  pub along_end : (n i before : ℕ) → numbered (length areas) i ≡ false → along areas below level parent n i before ≡ []
  unfolding along
  along_end zero i before e = refl
  along_end (suc n) i before e = rw e

  pub along_more : (n m i before : ℕ) → n ≡ m + 1 → numbered (length areas) i ≡ true →
      along areas below level parent n i before ≡
      entered areas level parent i before (below i (area_at areas i).child (before + (area_at areas i).slots)) ++
      along areas below level parent m (area_at areas i).next (before + (area_at areas i).slots + slots_in areas (below i (area_at areas i).child (before + (area_at areas i).slots)))
  unfolding along
  along_more n m i before e t = rw (e, add-one, t)

pub walk_none : (areas : List Area) (level parent i before : ℕ) → level ≡ 0 → walk_from areas level parent i before ≡ []
unfolding walk_from
walk_none areas level parent i before e = rw e

pub walk_level : (areas : List Area) (level parent i before : ℕ) → (level ≡ 0 → ⊥) → walk_from areas level parent i before ≡ along areas (walk_from areas (level - 1)) level parent (length areas + 1) i before
unfolding walk_from
walk_level areas zero parent i before ne = absurd (ne refl)
walk_level areas (suc l) parent i before ne = let e : suc l - 1 ≡ l = omega arith in rw e

-- a walk that has nothing left is done
pub walked_done : (areas : List Area) (goal : List Place) (before : ℕ) (seen rest : List Place) (after : ℕ) (seen' : List Place) → rest ≡ [] → Walked areas goal before seen rest after seen' → Walked areas goal before seen [] after seen'
walked_done areas goal before seen rest after seen' e w = rw e at w

-- a walk that has met too many areas may stop
pub walked_full : (areas : List Area) (goal : List Place) (before : ℕ) (seen rest : List Place) (after : ℕ) (seen' : List Place) → length areas < length seen' → Walked areas goal before seen rest after seen' → Walked areas goal before seen [] after seen'
walked_full areas goal before seen rest after seen' l w =
    record {
      whole = λ h. absurd (omega (arith, simp length-append at (ap length (w.whole h).0)));
      many = λ h. omega (arith, l);
      room = w.room;
      more = w.more;
      small = w.small;
    }

-- nothing is walked yet
pub walked_start : (areas : List Area) (goal : List Place) (before : ℕ) (seen : List Place) → length seen ≤ length areas + 1 → before ≤ 65535 * length seen → Walked areas goal before seen goal before seen
walked_start areas goal before seen r s =
    record { whole = λ _. (refl, refl); many = λ h. h; room = r; more = omega arith; small = s }

-- one turn: area p is noted after `seen`, what stands below it is walked, and then its last slot is known
module _ (areas : List Area) (goal : List Place) (before₀ : ℕ) (seen₀ left inner : List Place) (rest : ℕ → List Place) (p : ℕ → Place) (s b after : ℕ) (seen pushed seen₂ seen₃ : List Place) (q new : Place)
    (splits : left ≡ (p (b + s + slots_in areas inner) ∷ inner) ++ rest (b + s + slots_in areas inner))
    (own : (e : ℕ) → (area_at areas (p e).area).slots ≡ s)
    (w : Walked areas goal before₀ seen₀ left b seen)
    (push : pushed ≡ seen ++ (p b ∷ []))
    (v : Walked areas inner (b + s) pushed [] after seen₂)
    (read : q ≡ get_or seen₂ (length seen) q)
    (write : seen₃ ≡ set seen₂ (length seen) new)
    (fills : q ≡ p b → new ≡ p after)
  where
    long_pushed : length pushed ≡ length seen + 1
    long_pushed = ap length push ∙ length_push seen (p b)

    long_left : length left ≡ 1 + length inner + length (rest (b + s + slots_in areas inner))
    long_left = ap length splits ∙ simp length-append (omega arith)

    slots_left : slots_in areas left ≡ s + slots_in areas inner + slots_in areas (rest (b + s + slots_in areas inner))
    slots_left =
        ap (slots_in areas) splits ∙ sum_by-append (λ x. (area_at areas x.area).slots) (p _ ∷ inner) (rest _)
        ∙ ap (λ x. x + slots_in areas (rest (b + s + slots_in areas inner))) (sum_by-cons (λ x. (area_at areas x.area).slots) (p _) inner ∙ ap (λ x. x + slots_in areas inner) (own _))

    fits_below : length seen₀ + length goal ≤ length areas → length pushed + length inner ≤ length areas
    fits_below h = omega (arith, simp length-append at (ap length (w.whole h).0), long_pushed, long_left)

    below_slots : length pushed + length inner ≤ length areas → after ≡ b + s + slots_in areas inner
    below_slots h = omega (arith, (v.whole h).1)

    below_seen : length pushed + length inner ≤ length areas → seen₃ ≡ seen ++ (p after ∷ inner)
    below_seen h =
        let e : seen₂ ≡ seen ++ (p b ∷ inner) = sym (append-nil seen₂) ∙ (v.whole h).0 ∙ ap (λ x. x ++ inner) push ∙ append_assoc seen (p b ∷ []) inner in
        let here : q ≡ p b = read ∙ ap (λ x. get_or x (length seen) q) e ∙ get_or_at seen (p b) inner q (length seen) refl in
        write ∙ ap (λ x. set x (length seen) new) e ∙ set_at seen (p b) inner new (length seen) refl ∙ ap (λ x. seen ++ (x ∷ inner)) (fills here)

    long₃ : length seen₃ ≡ length seen₂
    long₃ = ap length write ∙ length-set seen₂ (length seen) new

    whole_turn : length seen₀ + length goal ≤ length areas → (seen₃ ++ rest after ≡ seen₀ ++ goal) × (after + slots_in areas (rest after) ≡ before₀ + slots_in areas goal)
    whole_turn h =
        let k = fits_below h in
        let e = below_slots k in
        let here : seen₃ ++ rest after ≡ seen ++ left = ap (λ x. x ++ rest after) (below_seen k) ∙ append_assoc seen (p after ∷ inner) (rest after) ∙ ap (λ x. seen ++ ((p x ∷ inner) ++ rest x)) e ∙ ap (λ x. seen ++ x) (sym splits) in
        let same : slots_in areas (rest after) ≡ slots_in areas (rest (b + s + slots_in areas inner)) = ap (λ x. slots_in areas (rest x)) e in
        (here ∙ (w.whole h).0, omega (arith, (w.whole h).1, slots_left, same, e))

    many_turn : length areas < length seen₀ + length goal → length areas < length seen₃ + length (rest after)
    many_turn h =
        ⊎_elim
        (λ (k : length areas < length pushed + length inner). omega (arith, v.many k, long₃))
        (λ (k : length pushed + length inner ≤ length areas).
        omega (arith, w.many h, long_left, ap (λ x. length (rest x)) (below_slots k), simp length-append at (ap length (below_seen k))))
        (cases_lt (length areas) (length pushed + length inner))

    pub walked_turn : Walked areas goal before₀ seen₀ (rest after) after seen₃
    walked_turn =
        record {
          whole = whole_turn;
          many = many_turn;
          room = omega (arith, v.room, long₃);
          more = omega (arith, w.more, v.more, long₃, long_pushed);
          small = rw long₃ v.small;
        }

-- a link that names no area is 0
pub unnumbered : (n i : ℕ) → numbered n i ≡ false → i ≤ n → i ≡ 0
unnumbered n zero f l = refl
unnumbered n (suc i) f l = absurd (both_ways _ f (numbered_from n (suc i) (omega arith) l))

-- what `take_first` leaves as the chain's head
pub next_area : (areas : List Area) (at head : ℕ) → numbered (length areas) at ≡ true → head ≡ rest_of (map (λ (a : Area). a.next) areas) at → head ≡ (area_at areas at).next
next_area areas at head t e =
    let inside : place at < length areas = place_within (length areas) at t in
    e ∙ simp (length-map, t) (get_or-map (λ (a : Area). a.next) areas (place at) _ 0 inside)

pub splits_at : (areas : List Area) (below : ℕ → ℕ → ℕ → List Place) (level parent f m at i b head : ℕ) → f ≡ m + 1 → numbered (length areas) at ≡ true → i ≡ at → head ≡ (area_at areas at).next →
    along areas below level parent f at b ≡
    entered areas level parent i b (below i (area_at areas i).child (b + (area_at areas i).slots)) ++
    along areas below level parent m head (b + (area_at areas i).slots + slots_in areas (below i (area_at areas i).child (b + (area_at areas i).slots)))
splits_at areas below level parent f m at i b head fm t ia h = rw (h, ia) (along_more areas below level parent f m at b fm t)

-- what holds of the place that is noted for each area holds of all the walk's places
module _ (areas : List Area) (P : Place → Type 0) (noted : (level parent i before after : ℕ) → numbered (length areas) i ≡ true → P (record { area = i; level = level; parent = parent; before = before; after = after })) where
  along_all : (below : ℕ → ℕ → ℕ → List Place) (level parent : ℕ) → ((i c b : ℕ) → AllByRecursion P (below i c b)) → (n i before : ℕ) → AllByRecursion P (along areas below level parent n i before)
  unfolding along
  along_all below level parent h zero i before = tt
  along_all below level parent h (suc n) i before =
      cond_both (numbered (length areas) i) _ _ (AllByRecursion P)
      (λ t. (noted level parent i before _ t, All-append P (below i (area_at areas i).child (before + (area_at areas i).slots)) _ (h _ _ _) (along_all below level parent h n _ _)))
      (λ _. tt)

  pub walk_all : (level parent i before : ℕ) → AllByRecursion P (walk_from areas level parent i before)
  unfolding walk_from
  walk_all zero parent i before = tt
  walk_all (suc l) parent i before = along_all (walk_from areas l) (suc l) parent (walk_all l) (length areas + 1) i before

pub walk_numbered : (areas : List Area) (level parent i before : ℕ) → AllByRecursion (λ p. numbered (length areas) p.area ≡ true) (walk_from areas level parent i before)
walk_numbered areas = walk_all areas (λ p. numbered (length areas) p.area ≡ true) (λ level parent i before after t. t)

-- a walk from nothing that has not met too many areas is the whole walk
pub walked_all : (areas : List Area) (goal order : List Place) (slots : ℕ) → Walked areas goal 0 [] [] slots order → length order ≤ length areas → (order ≡ goal) × (slots ≡ slots_in areas goal) × (leb (length goal) (length areas) ≡ true)
walked_all areas goal order slots w l =
    ⊎_elim
    (λ (k : length areas < length goal). absurd (omega (arith, w.many (omega arith))))
    (λ (k : length goal ≤ length areas). let v = w.whole (omega arith) in (sym (append-nil order) ∙ v.0, omega (arith, v.1), le-leb _ _ k))
    (cases_lt (length areas) (length goal))

pub walked_over : (areas : List Area) (goal order : List Place) (slots : ℕ) → Walked areas goal 0 [] [] slots order → length areas < length order → leb (length goal) (length areas) ≡ false
walked_over areas goal order slots w l =
    ⊎_elim
    (λ (k : length areas < length goal). lt-leb _ _ k)
    (λ (k : length goal ≤ length areas). absurd (omega (arith, ap length (sym (append-nil order) ∙ (w.whole (omega arith)).0))))
    (cases_lt (length areas) (length goal))
