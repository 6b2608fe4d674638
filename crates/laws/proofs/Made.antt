-- A block that is made in a free slot keeps the clauses of safety.
use Rattle.std.proofs.Common.{◌≡◌, ℕ, ◌≤◌, true, false, ◌||◌, ltb, leb, ◌⊎◌, set, is_some, Some, None, Option, sym, refl, ap, ◌∙◌, subst, inl, inr}
use Rattle.std.proofs.lemmas.Bool.{cases_eq, ltb-true}
use Rattle.chain.specs.Chain.{numbered}
use Rattle.state.specs.declared.word.Word.TheVariants.{Number, Pointer}
use Rattle.state.specs.declared.block.Block.{Block}
use Rattle.state.specs.declared.collector.Collector.{Collector}
use Rattle.state.specs.declared.collector.Stage.{Stage}
use Rattle.state.specs.Registers.{is_register, held}
use Rattle.state.specs.Layout.{Layout, slot_count, lowest, within, level_of}
use Rattle.state.specs.Lawful.{Lawful}
use Rattle.state.specs.Blocks.{level_place, new_block}
use Rattle.state.specs.Memory.{Memory, World, block_at, link_at, collector_at, status_at, sends_at}
use Rattle.state.specs.Turns.{on_memory, with_free}
use Rattle.state.specs.Calls.{word_of, block_made}
use Rattle.state.specs.Pasts.{Points}
use Rattle.laws.specs.Roots.{Root, from_register, on_hold, Reach, root, step}
use Rattle.laws.specs.Views.{white_in, black_in, entry_in, mark_in, white, black, entry, mark, mark_or_waits, stage, status, sends, marks_above}
use Rattle.laws.specs.Invariant.{Told}
use Rattle.laws.specs.Inductive.{LocallyCovered, from_root, from_entry, from_mark, inward, Sound, Safe}
use Rattle.laws.proofs.Plans.{low_first, low_numbered, within_first, numbered_first, within_numbered, by_area}
use Rattle.laws.proofs.Frames.{slot_set, slot_set_other, collector_at_lem, collector_other, get_or_filled}
use Rattle.laws.proofs.Reached.{reached_first}
use Rattle.laws.proofs.Covers.{local_first, covered_same, CanBeSet, settable_same}
use Rattle.laws.proofs.Elsewhere.{marks_above_same}
use Rattle.laws.proofs.Changed.{no_block, number_pointer, pointer_same, pointer_set}
use Rattle.laws.proofs.SoundSlots.{first_free}

-- Slot b was free and has a new block of n words, which is a root; all else of the slots stays.
record Makes (plan : Layout) (n b : ℕ) (s t : Memory) : Type 0 where
  free_before : is_some (block_at s b) ≡ false
  here : block_at t b ≡ Some (new_block n)
  others : (x : ℕ) → 1 ≤ x → (x ≡ b → ⊥) → block_at t x ≡ block_at s x
  roots : (x : ℕ) → Root t x → Root s x ⊎ (x ≡ b)
  stage_is : (a : ℕ) → lowest plan a ≡ true → stage t a ≡ stage s a
  status_is : (a l : ℕ) → lowest plan a ≡ true → status t a l ≡ status s a l
  sends_is : (a l : ℕ) → lowest plan a ≡ true → sends t a l ≡ sends s a l
  phases : t.phases ≡ s.phases

module _ (plan : Layout) (n b : ℕ) (s t : Memory) (h : Makes plan n b s t) where
  -- what is told alike of a free slot and of a new block is the same of every slot
  view_is : {X : Type 0} (view : Option Block → X) → view (Some (new_block n)) ≡ view None → (x : ℕ) → 1 ≤ x → view (block_at t x) ≡ view (block_at s x)
  view_is view new x first =
      by_area (λ y. view (block_at t y) ≡ view (block_at s y)) b x (ap view h.here ∙ new ∙ ap view (sym (no_block (block_at s b) h.free_before))) (λ other. ap view (h.others x first other))

  white_is : (x : ℕ) → 1 ≤ x → white t x ≡ white s x
  white_is = view_is white_in refl

  black_is : (x : ℕ) → 1 ≤ x → black t x ≡ black s x
  black_is = view_is black_in refl

  entry_is : (x m : ℕ) → 1 ≤ x → entry t x m ≡ entry s x m
  entry_is x m = view_is (λ o. entry_in o m) (ap is_some (get_or_filled 3 (level_place m) None)) x

  mark_is : (x m l : ℕ) → 1 ≤ x → mark t x m l ≡ mark s x m l
  mark_is x m l = view_is (λ o. mark_in o m l) (ap (λ e. Rattle.state.specs.Blocks.mark_in e l) (get_or_filled 3 (level_place m) None)) x

  used_here : is_some (block_at t b) ≡ true
  used_here = ap is_some h.here

  white_here : white t b ≡ false
  white_here = ap white_in h.here

  used_back : (x : ℕ) → 1 ≤ x → is_some (block_at t x) ≡ true → (is_some (block_at s x) ≡ true) ⊎ (x ≡ b)
  used_back x first u = elim (cases_eq x b) [ inl e ↦ inr e | inr other ↦ inl (sym (ap is_some (h.others x first other)) ∙ u) ]

  used_on : (x : ℕ) → 1 ≤ x → is_some (block_at s x) ≡ true → is_some (block_at t x) ≡ true
  used_on x first u = by_area (λ y. is_some (block_at t y) ≡ true) b x used_here (λ other. ap is_some (h.others x first other) ∙ u)

  -- the new block points nowhere
  no_pointer : (y : ℕ) → Points t b y → ⊥
  no_pointer y e =
      number_pointer (sym (get_or_filled 8 e.word (Number 0)) ∙ sym (ap (λ o. word_of o e.word) h.here) ∙ ap (λ o. word_of o e.word) e.there ∙ e.pointer)

  points_back : (x y : ℕ) → 1 ≤ x → Points t x y → Points s x y
  points_back x y first e = elim (cases_eq x b) [
    | inl here ↦ absurd (no_pointer y (subst (λ z. Points t z y) here e))
    | inr other ↦ record { block = e.block; there = sym (h.others x first other) ∙ e.there; word = e.word; inside = e.inside; pointer = e.pointer }
  ]

-- The new block is grey and points nowhere, so all clauses are kept.
module _ (plan : Layout) (n b : ℕ) (w v : World) (sound : Sound plan w.memory) (safe : Safe plan w) (h : Makes plan n b w.memory v.memory) (same : v.waits ≡ w.waits) where
  abbrev s : Memory
  s = w.memory

  abbrev t : Memory
  t = v.memory

  reach_was : (x : ℕ) → Reach t x → Reach s x ⊎ (x ≡ b)
  reach_was x (root r) = elim (h.roots x r) [ inl old ↦ inl (root old) | inr new ↦ inr new ]
  reach_was x (step {p = y} r e) = elim (reach_was y r) [
    | inl old ↦ inl (step old (points_back plan n b s t h y x (reached_first plan s sound y old) e))
    | inr new ↦ absurd (no_pointer plan n b s t h x (subst (λ z. Points t z x) new e))
  ]

  -- a reachable block that points somewhere was reachable, and did
  pointing_was : (x y : ℕ) → Reach t x → Points t x y → Reach s x × Points s x y
  pointing_was x y r e = elim (reach_was x r) [
    | inl old ↦ (old, points_back plan n b s t h x y (reached_first plan s sound x old) e)
    | inr new ↦ absurd (no_pointer plan n b s t h y (subst (λ z. Points t z y) new e))
  ]

  told_is : (x m l : ℕ) → 1 ≤ x → mark_or_waits v x m l ≡ mark_or_waits w x m l
  told_is x m l first = ap (λ e. e || v.waits x m l) (mark_is plan n b s t h x m l first) ∙ ap (λ waits. mark s x m l || waits x m l) same

  pointed_first : (x y : ℕ) → Points s x y → 1 ≤ y
  pointed_first x y e = numbered_first (slot_count plan) y (sound.pointed_slots x y e)

  told_on : (l : ℕ) (P Q : ℕ → Type 0) → ((x y : ℕ) → Q x → Points t x y → P x × Points s x y) → Told plan w l P → Told plan v l Q
  told_on l P Q was told x y q e two low there =
      let (p, old) = was x y q e in
      told_is y (level_of plan x y) l (pointed_first x y old) ∙ told x y p old two low (sym (entry_is plan n b s t h y (level_of plan x y) (pointed_first x y old)) ∙ there)

  -- the new block alone is locally covered and was not
  local_was : (a l x : ℕ) → LocallyCovered plan t a l x → LocallyCovered plan s a l x ⊎ (x ≡ b)
  local_was a l x (from_root i r) = elim (h.roots x r) [ inl old ↦ inl (from_root i old) | inr new ↦ inr new ]
  local_was a l x (from_entry m i lm mt e) = inl (from_entry m i lm mt (sym (entry_is plan n b s t h x m (within_first plan a x i)) ∙ e))
  local_was a l x (from_mark m i lm ml e) = inl (from_mark m i lm ml (sym (mark_is plan n b s t h x m l (within_first plan a x i)) ∙ e))
  local_was a l x (inward {b = y} d e i u) = elim (used_back plan n b s t h x (within_first plan a x i) u) [
    | inl there ↦ elim (local_was a l y d) [
      | inl old ↦ inl (inward old (points_back plan n b s t h y x (local_first plan t a l y d) e) i there)
      | inr new ↦ absurd (no_pointer plan n b s t h x (subst (λ z. Points t z x) new e))
    ]
    | inr new ↦ inr new
  ]

  marking_is : (a l : ℕ) → marks_above plan t a l ≡ marks_above plan s a l
  marking_is = marks_above_same plan s t h.phases

  alive_still : (x : ℕ) → Reach t x → is_some (block_at t x) ≡ true
  alive_still x r = elim (reach_was x r) [
    | inl old ↦ used_on plan n b s t h x (reached_first plan s sound x old) (safe.alive x old)
    | inr new ↦ subst (λ z. is_some (block_at t z) ≡ true) (sym new) (used_here plan n b s t h)
  ]

  -- not white: as before, or the new block
  dark_still : (x : ℕ) → 1 ≤ x → (white s x ≡ false) ⊎ (x ≡ b) → white t x ≡ false
  dark_still x first (inl old) = white_is plan n b s t h x first ∙ old
  dark_still x first (inr new) = subst (λ z. white t z ≡ false) (sym new) (white_here plan n b s t h)

  entered_still : (x y : ℕ) → Reach t x → Points t x y → 2 ≤ level_of plan x y → entry t y (level_of plan x y) ≡ true
  entered_still x y r e two =
      let (reached, old) = pointing_was x y r e in
      entry_is plan n b s t h y (level_of plan x y) (pointed_first x y old) ∙ safe.entered x y reached old two

  settable_still : (x m l : ℕ) → v.waits x m l ≡ true → CanBeSet plan t x m l
  settable_still x m l waits = settable_same plan s t x m l (entry_is plan n b s t h x m) (mark_is plan n b s t h x m l) (safe.settable x m l (sym (ap (λ f. f x m l) same) ∙ waits))

  makes_keep : Safe plan v
  makes_keep = record {
    alive = alive_still;
    entered = entered_still;
    settable = settable_still;
    no_black_at_rest = λ a x low e i. black_is plan n b s t h x (within_first plan a x i) ∙ safe.no_black_at_rest a x low (was a low e) i;
    no_black_behind = λ a x k low e i below. black_is plan n b s t h x (within_first plan a x i) ∙ safe.no_black_behind a x k low (was a low e) i below;
    rooted = λ a x L low e i r. dark_still x (within_first plan a x i) (elim (h.roots x r) [ inl old ↦ inl (safe.rooted a x L low (was a low e) i old) | inr new ↦ inr new ]);
    inner = λ a x y L low e ix iy dark q. white_is plan n b s t h y (within_first plan a y iy) ∙ safe.inner a x y L low (was a low e) ix iy
        (sym (black_is plan n b s t h x (within_first plan a x ix)) ∙ dark) (points_back plan n b s t h x y (within_first plan a x ix) q);
    shaded_by_entry = λ a x m L low e i Lm mt there. white_is plan n b s t h x (within_first plan a x i)
        ∙ safe.shaded_by_entry a x m L low (was a low e) i Lm mt (sym (entry_is plan n b s t h x m (within_first plan a x i)) ∙ there);
    shaded_by_mark = λ a x m j L low e i two mj jt Lj set. white_is plan n b s t h x (within_first plan a x i)
        ∙ safe.shaded_by_mark a x m j L low (was a low e) i two mj jt Lj (sym (mark_is plan n b s t h x m j (within_first plan a x i)) ∙ set);
    swept_reached = λ a x k low e i from r. dark_still x (within_first plan a x i) (elim (reach_was x r) [ inl old ↦ inl (safe.swept_reached a x k low (was a low e) i from old) | inr new ↦ inr new ]);
    swept_entered = λ a x k m low e i from two mt there. white_is plan n b s t h x (within_first plan a x i)
        ∙ safe.swept_entered a x k m low (was a low e) i from two mt (sym (entry_is plan n b s t h x m (within_first plan a x i)) ∙ there);
    begun_runs = λ a l low two lt begun e. safe.begun_runs a l low two lt (sym (h.status_is a l low) ∙ begun) (was a low e);
    begun_sends = λ a l low two lt begun marking. h.sends_is a l low ∙ safe.begun_sends a l low two lt (sym (h.status_is a l low) ∙ begun) (sym (marking_is a l) ∙ marking);
    sends_marking = λ a l low two lt sending. marking_is a l ∙ safe.sends_marking a l low two lt (sym (h.sends_is a l low) ∙ sending);
    scanned = λ a l L low two lt marking begun e lL.
        told_on l (λ x. (within plan a x ≡ true) × (black s x ≡ true)) (λ x. (within plan a x ≡ true) × (black t x ≡ true))
        (λ x y q r. ((q.0, sym (black_is plan n b s t h x (within_first plan a x q.0)) ∙ q.1), points_back plan n b s t h x y (within_first plan a x q.0) r))
        (safe.scanned a l L low two lt (sym (marking_is a l) ∙ marking) (sym (h.status_is a l low) ∙ begun) (was a low e) lL);
    covered = λ a l low two lt marking over. elim (safe.covered a l low two lt (sym (marking_is a l) ∙ marking) (covered_same s t a l (h.stage_is a low) (h.status_is a l low) over)) [
      | inl some ↦ inl (some.0, (some.1.0, (some.1.1.0, ap (λ f. f some.0 some.1.0 l) same ∙ some.1.1.1)))
      | inr told ↦ inr (told_on l (LocallyCovered plan s a l) (LocallyCovered plan t a l) (local_pointing a l) told)
    ];
    kept = λ a x y l low two lt recovering unstarted i r q level.
        let (reached, old) = pointing_was x y r q in
        told_is y l l (within_first plan a y i) ∙ safe.kept a x y l low two lt (sym (marking_is a l) ∙ recovering) (sym (h.status_is a l low) ∙ unstarted) i reached old level;
  }
    where
      was : {g : Stage} (a : ℕ) → lowest plan a ≡ true → stage t a ≡ g → stage s a ≡ g
      was a low e = sym (h.stage_is a low) ∙ e

      local_pointing : (a l x y : ℕ) → LocallyCovered plan t a l x → Points t x y → LocallyCovered plan s a l x × Points s x y
      local_pointing a l x y d e = elim (local_was a l x d) [
        | inl old ↦ (old, points_back plan n b s t h x y (local_first plan t a l x d) e)
        | inr new ↦ absurd (no_pointer plan n b s t h y (subst (λ z. Points t z y) new e))
      ]

-- Roots after a register was given a pointer to b, whose slot has a new block.
root_made : (s t : Memory) (p b n : ℕ) → t.registers ≡ set s.registers p (Pointer b) → block_at t b ≡ Some (new_block n) →
    ((x : ℕ) → 1 ≤ x → (x ≡ b → ⊥) → block_at t x ≡ block_at s x) → (x : ℕ) → Root t x → Root s x ⊎ (x ≡ b)
root_made s t p b n regs here others x (from_register r ok e) = elim (pointer_set s.registers p r (Pointer b) x (subst (λ rs. held rs r ≡ Pointer x) regs e)) [
  | inl old ↦ inl (from_register r ok old)
  | inr new ↦ inr (sym (pointer_same new))
]
root_made s t p b n regs here others x (on_hold k first e some) = elim (cases_eq x b) [
  | inl new ↦ inr new
  | inr other ↦ inl (on_hold k first (sym (others x first other) ∙ e) some)
]

module _ (plan : Layout) (law : Lawful plan) where
  block_makes : (s : Memory) → Sound plan s → (p q n : ℕ) → lowest plan q ≡ true → ltb 0 (collector_at s q).free ≡ true → Makes plan n (collector_at s q).free s (block_made p q n s)
  block_makes s sound p q n low some = record {
    free_before = chosen.1;
    here = here;
    others = others;
    roots = root_made s (block_made p q n s) p (collector_at s q).free n refl here others;
    stage_is = field_is (λ c. c.stage) refl;
    status_is = λ a l. field_is (λ c. status_at c l) refl a;
    sends_is = λ a l. field_is (λ c. sends_at c l) refl a;
    phases = refl;
  }
    where
      chosen : (within plan q (collector_at s q).free ≡ true) × (is_some (block_at s (collector_at s q).free) ≡ false)
      chosen = let f = first_free plan law q low s sound (ltb-true 0 (collector_at s q).free some) in (f.inside, f.free)

      inside : numbered (slot_count plan) (collector_at s q).free ≡ true
      inside = within_numbered plan law q (collector_at s q).free low chosen.0

      here : block_at (block_made p q n s) (collector_at s q).free ≡ Some (new_block n)
      here = slot_set s.slots (collector_at s q).free _ (subst (λ k. numbered k (collector_at s q).free ≡ true) (sym sound.shape.slots) inside)

      others : (x : ℕ) → 1 ≤ x → (x ≡ (collector_at s q).free → ⊥) → block_at (block_made p q n s) x ≡ block_at s x
      others x first other = slot_set_other s.slots (collector_at s q).free x _ (numbered_first (slot_count plan) (collector_at s q).free inside) first other

      -- of the collectors just the chosen area's free slot changes
      field_is : {X : Type 0} (field : Collector → X) → field (with_free (link_at s (collector_at s q).free) (collector_at s q)) ≡ field (collector_at s q) →
          (a : ℕ) → lowest plan a ≡ true → field (collector_at (block_made p q n s) a) ≡ field (collector_at s a)
      field_is field kept a la =
          by_area (λ x. field (collector_at (block_made p q n s) x) ≡ field (collector_at s x)) q a
          (ap field (collector_at_lem s q (with_free (link_at s (collector_at s q).free) (collector_at s q)) (subst (λ k. numbered k q ≡ true) (sym sound.shape.collectors) (low_numbered plan q low))) ∙ kept)
          (λ other. ap field (collector_other s q a (with_free (link_at s (collector_at s q).free) (collector_at s q)) (low_first plan q low) (low_first plan a la) other))

  -- A block that is made keeps the clauses of safety.
  pub make_keeps : (w : World) → Sound plan w.memory → Safe plan w → (p q n : ℕ) → is_register p ≡ true → lowest plan q ≡ true → leb n 8 ≡ true → ltb 0 (collector_at w.memory q).free ≡ true →
      Safe plan (on_memory (block_made p q n) w)
  make_keeps w sound safe p q n register low sized some =
      makes_keep plan n (collector_at w.memory q).free w (on_memory (block_made p q n) w) sound safe (block_makes w.memory sound p q n low some) refl
