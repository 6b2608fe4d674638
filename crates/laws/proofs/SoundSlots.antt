-- A slot that gets a new block, and one whose block is recovered: the tables of the memory stay sound.
use Rattle.std.proofs.Common.{◌≡◌, ℕ, ◌-◌, ◌<◌, ◌≤◌, true, false, eqb, ◌⊎◌, List, [], ◌∷◌, map, length, get_or, set, is_some, Some, None, Option, sym, refl, ap, ◌∙◌, subst, inl, inr, arith, length-set}
use Rattle.std.proofs.lemmas.Bool.{cond_both, cond-true, cond-false, eq-eqb, ne_eqb, cases_eq, false≢true, true≢false}
use Rattle.std.proofs.lemmas.List.{get_or-set_same, get_or-set_other, map-set, get_or-map, length-map}
use Rattle.chain.specs.Chain.{place, numbered, link_of, Chain, Absent, among}
use Rattle.chain.proofs.Chains.{place_within, chain_set}
use Rattle.state.specs.declared.word.Word.TheVariants.{Number, Pointer}
use Rattle.state.specs.declared.block.Block.{Block}
use Rattle.state.specs.declared.slot.Slot.{Slot}
use Rattle.state.specs.Blocks.{new_block, word_at}
use Rattle.state.specs.Layout.{Layout, lowest, within}
use Rattle.state.specs.Lawful.{Lawful}
use Rattle.state.specs.Memory.{Memory, free_slot, block_at, link_at, collector_at, with_slots, with_collector}
use Rattle.state.specs.Turns.{with_free, block_recovered}
use Rattle.state.specs.Pasts.{Points}
use Rattle.laws.specs.Roots.{Root, from_register, on_hold}
use Rattle.laws.specs.Invariant.{FreeChain}
use Rattle.laws.specs.Inductive.{Sound}
use Rattle.laws.proofs.Plans.{within_first, within_numbered, one_home, by_area}
use Rattle.laws.proofs.Frames.{slot_set, slot_set_other, get_or_filled}
use Rattle.laws.proofs.Sound.{Shaped, ShapedIn, Fit, fit_at, fit_put, shape_from, shape_put, shaped_at, collector_there, collector_elsewhere}
use Rattle.laws.proofs.Changed.{number_pointer, none-some}

-- Members of a list

pub among_first : (i j : ℕ) (js : List ℕ) → i ≡ j → among i (j ∷ js) ≡ true
among_first i j js e = cond-true (eqb i j) true (among i js) (eq-eqb i j e)

pub among_later : (i j : ℕ) (js : List ℕ) → among i js ≡ true → among i (j ∷ js) ≡ true
among_later i j js t = cond_both (eqb i j) true (among i js) (λ x. x ≡ true) (λ _. refl) (λ _. t)

pub among_rest : (i j : ℕ) (js : List ℕ) → (i ≡ j → ⊥) → among i (j ∷ js) ≡ true → among i js ≡ true
among_rest i j js ne t = sym (cond-false (eqb i j) true (among i js) (ne_eqb i j ne)) ∙ t

pub absent_unless : (i : ℕ) (js : List ℕ) → (among i js ≡ true → ⊥) → Absent i js
absent_unless i [] never = tt
absent_unless i (j ∷ js) never = (λ e. never (among_first i j js e), absent_unless i js (λ t. never (among_later i j js t)))

pub absent_among : (i : ℕ) (js : List ℕ) → Absent i js → among i js ≡ true → ⊥
absent_among i [] a t = false≢true t
absent_among i (j ∷ js) a t = absent_among i js a.1 (among_rest i j js a.0 t)

-- A block without a hold and without a pointer, if there is one.
pub record Bare (o : Option Block) : Type 0 where
  pub no_hold : (k : Block) → o ≡ Some k → 0 < k.holds → ⊥
  pub no_pointer : (k : Block) (i b : ℕ) → o ≡ Some k → word_at k i ≡ Pointer b → ⊥

module _ (plan : Layout) (law : Lawful plan) (a : ℕ) (low : lowest plan a ≡ true) (b : ℕ) (inside : within plan a b ≡ true) (x : Slot) (h : ℕ) (s : Memory) (sound : Sound plan s) where
  -- Slot b of area a becomes x, and the area's first free slot is h.
  abbrev pub put : Memory
  put = with_collector a (with_free h (collector_at s a)) (with_slots (set s.slots (place b) x) s)

  there : numbered (length s.slots) b ≡ true
  there = subst (λ n. numbered n b ≡ true) (sym sound.shape.slots) (within_numbered plan law a b low inside)

  pub put_here : block_at put b ≡ x.block
  put_here = slot_set s.slots b x there

  pub put_other : (c : ℕ) → 1 ≤ c → (c ≡ b → ⊥) → block_at put c ≡ block_at s c
  put_other c first ne = slot_set_other s.slots b c x (within_first plan a b inside) first ne

  -- the slot at any number is x, or what it was
  put_either : (c : ℕ) → (block_at put c ≡ x.block) ⊎ (block_at put c ≡ block_at s c)
  put_either c = elim (cases_eq (place c) (place b)) [
    | inl same ↦ inl (subst (λ i. (get_or (set s.slots (place b) x) i (free_slot 0)).block ≡ x.block) (sym same) put_here)
    | inr ne ↦ inr (ap (λ (y : Slot). y.block) (get_or-set_other s.slots (place b) (place c) x (free_slot 0) ne))
  ]

  pub put_links : map (λ (y : Slot). y.next) put.slots ≡ set (map (λ (y : Slot). y.next) s.slots) (place b) x.next
  put_links = map-set (λ (y : Slot). y.next) s.slots (place b) x

  pub put_free : (collector_at put a).free ≡ h
  put_free = ap (λ c. c.free) (collector_there plan s sound.shape a low (with_free h (collector_at s a)))

  fit : Fit plan a (with_free h (collector_at s a))
  fit = let was = fit_at plan s sound a low in record { levels = was.levels; sweeps = was.sweeps; passes = was.passes }

  -- the chains of other areas do not pass the slot
  elsewhere : (e : ℕ) → lowest plan e ≡ true → (e ≡ a → ⊥) → FreeChain plan put e
  elsewhere e lowe ne =
      record {
        numbers = c.numbers;
        chain = subst (λ (ls : List ℕ). Chain ls (collector_at put e).free c.numbers) (sym put_links)
            (chain_set links b x.next (collector_at put e).free c.numbers (within_first plan a b inside)
            (absent_unless b c.numbers (λ t. apart b (c.free b t).0 refl))
            (subst (λ (n : ℕ). Chain links n c.numbers) (sym head) c.chain));
        free = λ k t. ((c.free k t).0, ap is_some (same k (c.free k t).0) ∙ (c.free k t).1);
        all = λ k w none. c.all k w (sym (ap is_some (same k w)) ∙ none);
      }
    where
      c : FreeChain plan s e
      c = sound.chained e lowe

      links : List ℕ
      links = map (λ (y : Slot). y.next) s.slots

      head : (collector_at put e).free ≡ (collector_at s e).free
      head = ap (λ c. c.free) (collector_elsewhere plan s a low (with_free h (collector_at s a)) e lowe ne)

      apart : (k : ℕ) → within plan e k ≡ true → k ≡ b → ⊥
      apart k w same = ne (one_home plan law e a b lowe low (subst (λ n. within plan e n ≡ true) same w) inside)

      same : (k : ℕ) → within plan e k ≡ true → block_at put k ≡ block_at s k
      same k w = put_other k (within_first plan e k w) (apart k w)

  pub sound_put : ShapedIn x.block → Bare x.block → FreeChain plan put a → Sound plan put
  sound_put shaped bare chain =
      record {
        shape = shape_from plan (with_collector a (with_free h (collector_at s a)) s) put (shape_put plan s sound.shape a _ fit) (length-set s.slots (place b) x) refl refl refl blocks
            (shape_put plan s sound.shape a _ fit).statuses;
        chained = λ e lowe. by_area (FreeChain plan put) a e chain (elsewhere e lowe);
        rooted_slots = λ c r. sound.rooted_slots c (root c r);
        pointed_slots = λ p c e. sound.pointed_slots p c (points p c e);
        sweeps_inside = λ e k lowe at. (fit_put plan s sound a low _ fit e lowe).sweeps k at;
        passes_inside = λ e L lowe at. (fit_put plan s sound a low _ fit e lowe).passes L at;
      }
    where
      blocks : (c : ℕ) → ShapedIn (block_at put c)
      blocks c = elim (put_either c) [ inl new ↦ subst ShapedIn (sym new) shaped | inr old ↦ subst ShapedIn (sym old) (shaped_at plan s sound.shape c) ]

      root : (c : ℕ) → Root put c → Root s c
      root c (from_register r ok e) = from_register r ok e
      root c (on_hold k pos e held) = elim (put_either c) [ inl new ↦ absurd (bare.no_hold k (sym new ∙ e) held) | inr old ↦ on_hold k pos (sym old ∙ e) held ]

      points : (p c : ℕ) → Points put p c → Points s p c
      points p c e = elim (put_either p) [
        | inl new ↦ absurd (bare.no_pointer e.block e.word c (sym new ∙ e.there) e.pointer)
        | inr old ↦ record { block = e.block; there = sym old ∙ e.there; word = e.word; inside = e.inside; pointer = e.pointer }
      ]

bare_none : Bare None
bare_none = record { no_hold = λ k e held. none-some e; no_pointer = λ k i b e p. none-some e }

bare_new : (n : ℕ) → Bare (Some (new_block n))
bare_new n =
    record {
      no_hold = λ k e held. absurd (grind (arith, e, held));
      no_pointer = λ k i b e p.
          let same : new_block n ≡ k = cc in
          number_pointer (sym (get_or_filled 8 i (Number 0)) ∙ (ap (λ y. word_at y i) same ∙ p));
    }

shaped_new : (n : ℕ) → n ≤ 8 → Shaped (new_block n)
shaped_new n small =
    record {
      block = record { words = refl; size = small; entries = refl };
      marks = λ m e found. let none : None ≡ Some e = sym (get_or_filled 3 (m - 2) None) ∙ found in absurd (grind (arith, none));
    }

module _ (plan : Layout) (law : Lawful plan) (a : ℕ) (low : lowest plan a ≡ true) (s : Memory) (sound : Sound plan s) where
  -- A block is recovered: its slot becomes the first free slot of the area.
  pub sound_recovered : (b : ℕ) → within plan a b ≡ true → is_some (block_at s b) ≡ true → Sound plan (block_recovered a b s)
  sound_recovered b inside used = sound_put plan law a low b inside x b s sound tt bare_none chain
    where
      c : FreeChain plan s a
      c = sound.chained a low

      x : Slot
      x = free_slot (collector_at s a).free

      links : List ℕ
      links = map (λ (y : Slot). y.next) s.slots

      numbered_here : numbered (length links) b ≡ true
      numbered_here = subst (λ n. numbered n b ≡ true) (sym (length-map s.slots (λ (y : Slot). y.next) ∙ sound.shape.slots)) (within_numbered plan law a b low inside)

      absent : Absent b c.numbers
      absent = absent_unless b c.numbers (λ t. true≢false (sym used ∙ (c.free b t).1))

      next : link_of (set links (place b) (collector_at s a).free) b ≡ (collector_at s a).free
      next = get_or-set_same links (place b) (collector_at s a).free 0 (place_within (length links) b numbered_here)

      chained : Chain (set links (place b) (collector_at s a).free) b (b ∷ c.numbers)
      chained = (
        refl,
        subst (λ n. numbered n b ≡ true) (sym (length-set links (place b) (collector_at s a).free)) numbered_here,
        absent,
        subst (λ (n : ℕ). Chain (set links (place b) (collector_at s a).free) n c.numbers) (sym next) (chain_set links b _ _ c.numbers (within_first plan a b inside) absent c.chain),
      )

      other : (k : ℕ) → within plan a k ≡ true → (k ≡ b → ⊥) → is_some (block_at (block_recovered a b s) k) ≡ is_some (block_at s k)
      other k w ne = ap is_some (put_other plan law a low b inside x b s sound k (within_first plan a k w) ne)

      here : is_some (block_at (block_recovered a b s) b) ≡ false
      here = ap is_some (put_here plan law a low b inside x b s sound)

      chain : FreeChain plan (block_recovered a b s) a
      chain =
          record {
            numbers = b ∷ c.numbers;
            chain = subst (λ (ls : List ℕ). Chain ls (collector_at (block_recovered a b s) a).free (b ∷ c.numbers)) (sym (put_links plan law a low b inside x b s sound))
                (subst (λ (n : ℕ). Chain (set links (place b) (collector_at s a).free) n (b ∷ c.numbers)) (sym (put_free plan law a low b inside x b s sound)) chained);
            free = λ k t. elim (cases_eq k b) [
              | inl same ↦ (subst (λ n. within plan a n ≡ true) (sym same) inside, subst (λ n. is_some (block_at (block_recovered a b s) n) ≡ false) (sym same) here)
              | inr ne ↦ let was = c.free k (among_rest k b c.numbers ne t) in (was.0, other k was.0 ne ∙ was.1)
            ];
            all = λ k w none. elim (cases_eq k b) [
              | inl same ↦ among_first k b c.numbers same
              | inr ne ↦ among_later k b c.numbers (c.all k w (sym (other k w ne) ∙ none))
            ];
          }

  -- The first free slot, where there is one, lies in the area and is free; the rest of the chain begins at its link.
  pub record FirstFree (b : ℕ) : Type 0 where
    pub inside : within plan a b ≡ true
    pub free : is_some (block_at s b) ≡ false
    pub rest : List ℕ
    pub chain : Chain (map (λ (y : Slot). y.next) s.slots) (link_at s b) rest
    pub absent : Absent b rest
    pub rest_free : (k : ℕ) → among k rest ≡ true → (within plan a k ≡ true) × (is_some (block_at s k) ≡ false)
    pub rest_all : (k : ℕ) → within plan a k ≡ true → is_some (block_at s k) ≡ false → (k ≡ b → ⊥) → among k rest ≡ true

  first_in : (b : ℕ) (is : List ℕ) → 0 < b → Chain (map (λ (y : Slot). y.next) s.slots) b is →
      ((k : ℕ) → among k is ≡ true → (within plan a k ≡ true) × (is_some (block_at s k) ≡ false)) → ((k : ℕ) → within plan a k ≡ true → is_some (block_at s k) ≡ false → among k is ≡ true) → FirstFree b
  first_in b [] pos c free all = absurd (omega (arith, pos, c))
  first_in b (i ∷ is) pos c free all =
      let first = free b (among_first b i is c.0) in
      let long : place b < length s.slots = place_within (length s.slots) b (subst (λ n. numbered n b ≡ true) (sym sound.shape.slots) (within_numbered plan law a b low first.0)) in
      let link : link_of (map (λ (y : Slot). y.next) s.slots) i ≡ link_at s b = ap (link_of (map (λ (y : Slot). y.next) s.slots)) (sym c.0) ∙ get_or-map (λ (y : Slot). y.next) s.slots (place b) (free_slot 0) 0 long in
      record {
        inside = first.0;
        free = first.1;
        rest = is;
        chain = subst (λ (n : ℕ). Chain (map (λ (y : Slot). y.next) s.slots) n is) link c.3;
        absent = subst (λ (n : ℕ). Absent n is) (sym c.0) c.2;
        rest_free = λ k t. free k (among_later k i is t);
        rest_all = λ k w none ne. among_rest k i is (λ e. ne (e ∙ sym c.0)) (all k w none);
      }

  pub first_free : 0 < (collector_at s a).free → FirstFree (collector_at s a).free
  first_free pos = let c = sound.chained a low in first_in (collector_at s a).free c.numbers pos c.chain c.free c.all

  -- The first free slot gets a new block.
  abbrev pub filled : ℕ → Memory
  filled n =
      let b = (collector_at s a).free in
      with_collector a (with_free (link_at s b) (collector_at s a)) (with_slots (set s.slots (place b) (record { block = Some (new_block n); next = link_at s b })) s)

  pub sound_filled : (n : ℕ) → n ≤ 8 → 0 < (collector_at s a).free → Sound plan (filled n)
  sound_filled n small pos = sound_put plan law a low b f.inside x (link_at s b) s sound (shaped_new n small) (bare_new n) chain
    where
      b : ℕ
      b = (collector_at s a).free

      f : FirstFree b
      f = first_free pos

      x : Slot
      x = record { block = Some (new_block n); next = link_at s b }

      here : is_some (block_at (filled n) b) ≡ true
      here = ap is_some (put_here plan law a low b f.inside x (link_at s b) s sound)

      other : (k : ℕ) → within plan a k ≡ true → (k ≡ b → ⊥) → is_some (block_at (filled n) k) ≡ is_some (block_at s k)
      other k w ne = ap is_some (put_other plan law a low b f.inside x (link_at s b) s sound k (within_first plan a k w) ne)

      apart : (k : ℕ) → among k f.rest ≡ true → k ≡ b → ⊥
      apart k t same = absent_among b f.rest f.absent (subst (λ n. among n f.rest ≡ true) same t)

      chain : FreeChain plan (filled n) a
      chain =
          record {
            numbers = f.rest;
            chain = subst (λ (ls : List ℕ). Chain ls (collector_at (filled n) a).free f.rest) (sym (put_links plan law a low b f.inside x (link_at s b) s sound))
                (subst (λ (m : ℕ). Chain (set (map (λ (y : Slot). y.next) s.slots) (place b) (link_at s b)) m f.rest) (sym (put_free plan law a low b f.inside x (link_at s b) s sound))
                (chain_set _ b (link_at s b) (link_at s b) f.rest pos f.absent f.chain));
            free = λ k t. let was = f.rest_free k t in (was.0, other k was.0 (apart k t) ∙ was.1);
            all = λ k w none.
                let ne : k ≡ b → ⊥ = λ same. true≢false (sym here ∙ subst (λ m. is_some (block_at (filled n) m) ≡ false) same none) in
                f.rest_all k w (sym (other k w ne) ∙ none) ne;
          }
