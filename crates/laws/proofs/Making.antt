-- The invariant holds at the making.
use Rattle.std.proofs.Common.{◌≡◌, ℕ, zero, suc, ◌+◌, ◌-◌, ◌<◌, ◌≤◌, Bool, true, false, cond, not, ◌&&◌, ◌||◌, ltb, leb, List, [], ◌∷◌, map, length, get_or, is_some, Some, None, Ok, Err, Result, sym, refl, ap, ◌∙◌, subst, inl, inr, arith}
use Rattle.std.specs.List.{range_with_len}
use Rattle.std.proofs.lemmas.Bool.{cond-true, cond-false, cases_Bool, cases_eq, and_parts, or_parts, not-true, leb-true, lt-ltb, le-ltb, true≢false, false≢true}
use Rattle.std.proofs.lemmas.List.{get_or-map, length-map}
use Rattle.std.proofs.lemmas.List.FromFn.{length-range_with_len}
use Rattle.chain.specs.Chain.{place, numbered, link_of, Chain, Absent, among}
use Rattle.chain.proofs.Chains.{place_within}
use Rattle.plan.specs.declared.area.Area.{Area}
use Rattle.plan.specs.Walk.{area_at}
use Rattle.post.specs.Marks.{Waits}
use Rattle.state.specs.declared.word.Word.TheVariants.{Number}
use Rattle.state.specs.declared.block.Block.{Block}
use Rattle.state.specs.declared.slot.Slot.{Slot}
use Rattle.state.specs.declared.collector.AtLevel.{AtLevel}
use Rattle.state.specs.declared.collector.Collector.{Collector}
use Rattle.state.specs.declared.collector.Stage.TheVariants.{Resting}
use Rattle.state.specs.declared.collector.Status.TheVariants.{Unstarted, Begun, Ended}
use Rattle.state.specs.declared.collector.Phase.TheVariants.{Marking}
use Rattle.state.specs.declared.refusal.Refusal.{Refusal}
use Rattle.state.specs.declared.refusal.Refusal.TheVariants.{PostUnfit}
use Rattle.state.specs.Tables.{map_from, some_from}
use Rattle.state.specs.Layout.{Layout, slot_count, lowest, within, first_in, last_of, home, above}
use Rattle.state.specs.Lawful.{Lawful}
use Rattle.state.specs.Memory.{World, free_slot, unstarted_level, new_collector, block_at, collector_at, phase_at, status_at, is_marking}
use Rattle.state.specs.Calls.{fresh, any_waits, made}
use Rattle.state.specs.Pasts.{Points, MarksOf}
use Rattle.laws.specs.Roots.{Root, from_register, on_hold, Reach, root, step}
use Rattle.laws.specs.Views.{Shape, white_in, black_in, white, stage, status}
use Rattle.laws.specs.Invariant.{FreeChain, HasCovered, has_ended_round, pass_over}
use Rattle.laws.specs.Inductive.{Sound, Safe, Inductive}
use Rattle.laws.proofs.Plans.{low_numbered, low_first, within_bounds, within_first, within_numbered, within_from}
use Rattle.laws.proofs.Frames.{length_map_from, get_or_map_from, get_or_filled}
use Rattle.laws.proofs.SoundSlots.{among_first, among_later, among_rest, absent_unless}
use Rattle.laws.proofs.Stages.{rest_pass, rest_sweep, unstarted_begun, unstarted_ended}
use Rattle.laws.proofs.Changed.{none-some, number_pointer, some_from_lem}
use Rattle.laws.proofs.Flags.{is_false}

-- Nothing waits

-- a test that no element of a table passes, at one of them
none_at : {X : Type 0} (ok : ℕ → X → Bool) (i : ℕ) (xs : List X) (n : ℕ) (d : X) → n < length xs → some_from ok i xs ≡ false → ok (i + n) (get_or xs n d) ≡ false
none_at ok i xs n d l none = is_false (ok (i + n) (get_or xs n d)) (λ t. false≢true (sym none ∙ some_from_lem ok i xs d n l t))

-- the pairs of levels that the making tests are all there are
all_levels : (f : ℕ → ℕ → Bool) → ((f 2 2 || (f 2 3 || f 2 4)) || (f 3 3 || (f 3 4 || f 4 4))) ≡ false → (m l : ℕ) → 2 ≤ m → m ≤ l → l ≤ 4 → f m l ≡ false
all_levels f e m l lo mid hi =
    let two = or_parts (f 2 2 || (f 2 3 || f 2 4)) (f 3 3 || (f 3 4 || f 4 4)) e in
    let low = or_parts (f 2 2) (f 2 3 || f 2 4) two.0 in
    let low' = or_parts (f 2 3) (f 2 4) low.1 in
    let high = or_parts (f 3 3) (f 3 4 || f 4 4) two.1 in
    let high' = or_parts (f 3 4) (f 4 4) high.1 in
    elim (cases_eq m 2) [
      | inl m2 ↦ elim (cases_eq l 2) [
        | inl l2 ↦ at 2 2 m2 l2 low.0
        | inr n2 ↦ elim (cases_eq l 3) [ inl l3 ↦ at 2 3 m2 l3 low'.0 | inr n3 ↦ at 2 4 m2 (four l n2 n3 (omega arith) hi) low'.1 ]
      ]
      | inr o2 ↦ elim (cases_eq m 3) [
        | inl m3 ↦ elim (cases_eq l 3) [ inl l3 ↦ at 3 3 m3 l3 high.0 | inr n3 ↦ at 3 4 m3 (four l (λ z. omega (arith, z, m3, mid)) n3 (omega arith) hi) high'.0 ]
        | inr o3 ↦ let m4 : m ≡ 4 = four m o2 o3 lo (omega arith) in at 4 4 m4 (omega (arith, m4)) high'.1
      ]
    ]
  where
    at : (c d : ℕ) → m ≡ c → l ≡ d → f c d ≡ false → f m l ≡ false
    at c d mc ld e = rw (mc, ld) e

    four : (n : ℕ) → (n ≡ 2 → ⊥) → (n ≡ 3 → ⊥) → 2 ≤ n → n ≤ 4 → n ≡ 4
    four n n2 n3 lo hi = omega arith

pub nothing_waits : (size : ℕ) (w : Waits) → MarksOf size w → any_waits size w ≡ false → (b m l : ℕ) → w b m l ≡ true → ⊥
nothing_waits size w marks none b m l waits =
    let is = marks b m l waits in
    let p = and_parts (leb 1 b) (leb b size && (leb 2 m && (leb m l && leb l 4))) is in
    let q = and_parts (leb b size) (leb 2 m && (leb m l && leb l 4)) p.1 in
    let r = and_parts (leb 2 m) (leb m l && leb l 4) q.1 in
    let t = and_parts (leb m l) (leb l 4) r.1 in
    let first : 1 ≤ b = leb-true 1 b p.0 in
    let last : b ≤ size = leb-true b size q.0 in
    let z : 1 + (b - 1) ≡ b = omega arith in
    let none_here = none_at (λ c _. (w c 2 2 || (w c 2 3 || w c 2 4)) || (w c 3 3 || (w c 3 4 || w c 4 4))) 1 (range_with_len 1 size) (b - 1) 0 (omega (arith, length-range_with_len 1 size)) none in
    let here = subst (λ c. ((w c 2 2 || (w c 2 3 || w c 2 4)) || (w c 3 3 || (w c 3 4 || w c 4 4))) ≡ false) z none_here in
    true≢false (sym waits ∙ all_levels (w b) here m l (leb-true 2 m r.0) (leb-true m l t.0) (leb-true l 4 t.1))

-- The fresh memory

fresh_slot : (g : ℕ → ℕ → ℕ) (i : ℕ) (hs : List ℕ) (n : ℕ) → (get_or (map_from (λ b a. free_slot (g b a)) i hs) n (free_slot 0)).block ≡ None
fresh_slot g i [] n = refl
fresh_slot g i (h ∷ hs) zero = refl
fresh_slot g i (h ∷ hs) (suc n) = fresh_slot g (i + 1) hs n

fresh_collector : {X : Type 0} (P : Collector → Type 0) → ((b : ℕ) → P (new_collector b)) → (g : ℕ → ℕ) (i : ℕ) (xs : List X) (n : ℕ) → P (get_or (map_from (λ a _. new_collector (g a)) i xs) n (new_collector 0))
fresh_collector P h g i [] n = h 0
fresh_collector P h g i (x ∷ xs) zero = h (g i)
fresh_collector P h g i (x ∷ xs) (suc n) = fresh_collector P h g (i + 1) xs n

fresh_phase : {X : Type 0} (i : ℕ) (xs : List X) (n : ℕ) → get_or (map_from (λ _ _. Marking) i xs) n Marking ≡ Marking
fresh_phase i [] n = refl
fresh_phase i (x ∷ xs) zero = refl
fresh_phase i (x ∷ xs) (suc n) = fresh_phase (i + 1) xs n

-- numbers that are counted
among_counting : (b i n : ℕ) → i ≤ b → b < i + n → among b (range_with_len i n) ≡ true
among_counting b i zero lo hi = absurd (omega arith)
among_counting b i (suc n) lo hi = elim (cases_eq b i) [
  | inl same ↦ among_first b i (range_with_len (i + 1) n) same
  | inr ne ↦ among_later b i (range_with_len (i + 1) n) (among_counting b (i + 1) n (omega arith) (omega arith))
]

counting_among : (b i n : ℕ) → among b (range_with_len i n) ≡ true → (i ≤ b) × (b < i + n)
counting_among b i zero t = absurd (false≢true t)
counting_among b i (suc n) t = elim (cases_eq b i) [
  | inl same ↦ (omega arith, omega arith)
  | inr ne ↦ let later = counting_among b (i + 1) n (among_rest b i (range_with_len (i + 1) n) ne t) in (omega (arith, later.0), omega (arith, later.1))
]

module _ (plan : Layout) where
  pub none_used : (b : ℕ) → block_at (fresh plan) b ≡ None
  none_used b = fresh_slot (λ c a. cond (ltb c (last_of plan a)) (c + 1) 0) 1 plan.homes (place b)

  none_there : (b : ℕ) (k : Block) → block_at (fresh plan) b ≡ Some k → ⊥
  none_there b k e = none-some (sym (none_used b) ∙ e)

  each_collector : (P : Collector → Type 0) → ((b : ℕ) → P (new_collector b)) → (a : ℕ) → P (collector_at (fresh plan) a)
  each_collector P h a = fresh_collector P h (λ e. cond (lowest plan e) (first_in plan e) 0) 1 plan.areas (place a)

  rests : (a : ℕ) → stage (fresh plan) a ≡ Resting
  rests = each_collector (λ c. c.stage ≡ Resting) (λ b. refl)

  unstarted : (a l : ℕ) → status (fresh plan) a l ≡ Unstarted
  unstarted a l = each_collector (λ c. status_at c l ≡ Unstarted) (λ b. ap (λ (x : AtLevel). x.status) (get_or_filled 3 (l - 2) unstarted_level)) a

  all_mark : (x : ℕ) → phase_at (fresh plan) x ≡ Marking
  all_mark x = fresh_phase 1 plan.areas (place x)

  no_root : (b : ℕ) → Root (fresh plan) b → ⊥
  no_root b (from_register r ok e) = number_pointer (sym (get_or_filled 16 r (Number 0)) ∙ e)
  no_root b (on_hold k pos e h) = none_there b k e

  no_points : (p b : ℕ) → Points (fresh plan) p b → ⊥
  no_points p b e = none_there p e.block e.there

  no_reach : (b : ℕ) → Reach (fresh plan) b → ⊥
  no_reach b (root r) = no_root b r
  no_reach b (step {p} r e) = no_points p b e

  fresh_shape : Shape plan (fresh plan)
  fresh_shape =
      record {
        slots = length_map_from _ 1 plan.homes;
        registers = refl;
        collectors = length_map_from _ 1 plan.areas;
        phases = length_map_from _ 1 plan.areas;
        blocks = λ b k e. absurd (none_there b k e);
        marks = λ b m k x e found. absurd (none_there b k e);
        statuses = each_collector (λ c. length c.levels ≡ 3) (λ b. refl);
        sending = each_collector (λ c. length c.levels ≡ 3) (λ b. refl);
      }

module _ (plan : Layout) (law : Lawful plan) where
  links : List ℕ
  links = map (λ (x : Slot). x.next) (fresh plan).slots

  -- a slot links to the next one of its area, the last to none
  fresh_link : (a i : ℕ) → lowest plan a ≡ true → within plan a i ≡ true → link_of links i ≡ cond (ltb i (last_of plan a)) (i + 1) 0
  unfolding links
  fresh_link a i low inside =
      let n : numbered (slot_count plan) i ≡ true = within_numbered plan law a i low inside in
      let l : place i < length plan.homes = place_within (length plan.homes) i n in
      let long : place i < length (fresh plan).slots = subst (λ m. place i < m) (sym (length_map_from _ 1 plan.homes)) l in
      let pos : 1 ≤ i = within_first plan a i inside in
      let back : 1 + place i ≡ i = omega arith in
      get_or-map (λ (x : Slot). x.next) (fresh plan).slots (place i) (free_slot 0) 0 long
      ∙ ap (λ (x : Slot). x.next) (get_or_map_from (λ b e. free_slot (cond (ltb b (last_of plan e)) (b + 1) 0)) 1 plan.homes (place i) 0 (free_slot 0) l)
      ∙ ap (λ b. cond (ltb b (last_of plan (home plan i))) (b + 1) 0) back
      ∙ ap (λ e. cond (ltb i (last_of plan e)) (i + 1) 0) (law.only_home a i low inside)

  fresh_long : length links ≡ slot_count plan
  unfolding links
  fresh_long = length-map (fresh plan).slots (λ (x : Slot). x.next) ∙ length_map_from _ 1 plan.homes

  fresh_numbered : (a i : ℕ) → lowest plan a ≡ true → within plan a i ≡ true → numbered (length links) i ≡ true
  fresh_numbered a i low inside = subst (λ n. numbered n i ≡ true) (sym fresh_long) (within_numbered plan law a i low inside)

  counting_absent : (i n : ℕ) → Absent i (range_with_len (i + 1) n)
  counting_absent i n = absent_unless i (range_with_len (i + 1) n) (λ t. omega (arith, (counting_among i (i + 1) n t).0))

  -- from slot i of an area the links lead through the rest of the area
  fresh_chain : (a i n : ℕ) → lowest plan a ≡ true → first_in plan a ≤ i → i + n ≡ last_of plan a → Chain links i (range_with_len i (suc n))
  fresh_chain a i zero low lo hi =
      let inside : within plan a i ≡ true = within_from plan a i lo (omega (arith, hi)) in
      (refl, fresh_numbered a i low inside, tt, fresh_link a i low inside ∙ cond-false (ltb i (last_of plan a)) (i + 1) 0 (le-ltb i (last_of plan a) (omega (arith, hi))))
  fresh_chain a i (suc n) low lo hi =
      let inside : within plan a i ≡ true = within_from plan a i lo (omega (arith, hi)) in
      let on : link_of links i ≡ i + 1 = fresh_link a i low inside ∙ cond-true (ltb i (last_of plan a)) (i + 1) 0 (lt-ltb i (last_of plan a) (omega (arith, hi))) in (
        refl,
        fresh_numbered a i low inside,
        counting_absent i (suc n),
        subst (λ (h : ℕ). Chain links h (range_with_len (i + 1) (suc n))) (sym on) (fresh_chain a (i + 1) n low (omega arith) (omega (arith, hi))),
      )

  fresh_head : (a : ℕ) → lowest plan a ≡ true → (collector_at (fresh plan) a).free ≡ first_in plan a
  fresh_head a low =
      let l : place a < length plan.areas = place_within (length plan.areas) a (low_numbered plan a low) in
      let pos : 1 ≤ a = low_first plan a low in
      let back : 1 + place a ≡ a = omega arith in
      ap (λ (c : Collector). c.free) (get_or_map_from (λ e _. new_collector (cond (lowest plan e) (first_in plan e) 0)) 1 plan.areas (place a) nothing (new_collector 0) l)
      ∙ ap (λ e. cond (lowest plan e) (first_in plan e) 0) back
      ∙ cond-true (lowest plan a) (first_in plan a) 0 low
    where
      nothing : Area
      nothing = area_at plan.areas 1

  fresh_free : (a : ℕ) → lowest plan a ≡ true → FreeChain plan (fresh plan) a
  unfolding links
  fresh_free a low =
      let n : ℕ = last_of plan a - first_in plan a in
      let bounds = law.slots_inside a low in
      let ends : first_in plan a + n ≡ last_of plan a = omega (arith, bounds.1) in
      record {
        numbers = range_with_len (first_in plan a) (suc n);
        chain = subst (λ (h : ℕ). Chain links h (range_with_len (first_in plan a) (suc n))) (sym (fresh_head a low)) (fresh_chain a (first_in plan a) n low (omega arith) ends);
        free = λ b t. let c = counting_among b (first_in plan a) (suc n) t in (within_from plan a b c.0 (omega (arith, c.1, ends)), ap is_some (none_used plan b));
        all = λ b inside _. let c = within_bounds plan a b inside in among_counting b (first_in plan a) (suc n) c.0 (omega (arith, c.1, ends));
      }

  pub fresh_sound : Sound plan (fresh plan)
  fresh_sound =
      record {
        shape = fresh_shape plan;
        chained = fresh_free;
        rooted_slots = λ b r. absurd (no_root plan b r);
        pointed_slots = λ p b e. absurd (no_points plan p b e);
        sweeps_inside = λ a k low at. absurd (rest_sweep _ k (rests plan a) at);
        passes_inside = λ a L low at. absurd (rest_pass _ L (rests plan a) at);
      }

  -- where nothing waits
  pub fresh_safe : (w : Waits) → ((b m l : ℕ) → w b m l ≡ true → ⊥) → Safe plan (record { memory = fresh plan; waits = w })
  fresh_safe w none =
      record {
        alive = λ b r. absurd (no_reach plan b r);
        entered = λ p b r _ _. absurd (no_reach plan p r);
        settable = λ b m l t. absurd (none b m l t);
        no_black_at_rest = λ a b _ _ _. ap black_in (none_used plan b);
        no_black_behind = λ a b k _ _ _ _. ap black_in (none_used plan b);
        rooted = λ a b L _ _ _ _. no_white b;
        inner = λ a b c L _ _ _ _ _ _. no_white c;
        shaded_by_entry = λ a b m L _ _ _ _ _ _. no_white b;
        shaded_by_mark = λ a b m j L _ _ _ _ _ _ _ _. no_white b;
        swept_reached = λ a b k _ _ _ _ _. no_white b;
        swept_entered = λ a b k m _ _ _ _ _ _ _. no_white b;
        begun_runs = λ a l _ _ _ begun _. never_begun a l begun;
        begun_sends = λ a l _ _ _ begun _. absurd (never_begun a l begun);
        sends_marking = λ a l _ _ _ _. ap is_marking (all_mark plan (above plan a l));
        scanned = λ a l L _ _ _ _ begun _ _. absurd (never_begun a l begun);
        covered = λ a l _ _ _ _ covered. absurd (never_covered a l covered);
        kept = λ a p b l _ _ _ _ _ _ r _ _. absurd (no_reach plan p r);
      }
    where
      no_white : (b : ℕ) → white (fresh plan) b ≡ false
      no_white b = ap white_in (none_used plan b)

      never_begun : (a l : ℕ) → status (fresh plan) a l ≡ Begun → ⊥
      never_begun a l = unstarted_begun _ (unstarted plan a l)

      never_ended : (a l : ℕ) → status (fresh plan) a l ≡ Ended → ⊥
      never_ended a l = unstarted_ended _ (unstarted plan a l)

      never_covered : (a l : ℕ) → HasCovered (fresh plan) a l → ⊥
      never_covered a l (has_ended_round e) = never_ended a l e
      never_covered a l (pass_over e _) = never_begun a l e

  -- The making is accepted only if nothing waits.
  pub fresh_invariant : (size : ℕ) (w : Waits) → MarksOf size w → (v : World) → made plan size w ≡ Ok v → Inductive plan v
  fresh_invariant size w marks v accepted = elim (cases_Bool (leb (slot_count plan) size && not (any_waits size w))) [
    | inl t ↦
        let is : Ok (record { memory = fresh plan; waits = w }) ≡ Ok v = sym (cond-true (leb (slot_count plan) size && not (any_waits size w)) _ _ t) ∙ accepted in
        let none : any_waits size w ≡ false = not-true (any_waits size w) (and_parts (leb (slot_count plan) size) (not (any_waits size w)) t).1 in
        subst (Inductive plan) (ok_is _ v is) (record { sound = fresh_sound; safe = fresh_safe w (nothing_waits size w marks none) })
    | inr f ↦
        let is : Err PostUnfit ≡ Ok v = sym (cond-false (leb (slot_count plan) size && not (any_waits size w)) _ _ f) ∙ accepted in
        absurd (grind (arith, is))
  ]
    where
      ok_is : (x y : World) → ◌≡◌ {A = Result World Refusal} (Ok x) (Ok y) → x ≡ y
      ok_is x y e = cc
