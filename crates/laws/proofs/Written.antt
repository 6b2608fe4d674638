-- A word that is written into a block keeps the clauses of safety.
use Rattle.std.proofs.Common.{◌≡◌, ℕ, zero, suc, ◌+◌, ◌<◌, ◌≤◌, true, false, cond, ◌&&◌, ◌||◌, eqb, leb, ◌⊎◌, List, [], ◌∷◌, length, get_or, set, is_some, Some, None, Option, sym, refl, ap, ◌∙◌, subst, inl, inr, arith}
use Rattle.std.proofs.lemmas.List.{get_or-set_same}
use Rattle.std.proofs.lemmas.Bool.{cases_Bool, cond_both, cond-true, or_cases, or_left, or_right, and_parts, and_from, leb-true, le-leb, leb-false, eqb-true, eq-eqb}
use Rattle.chain.specs.Chain.{place}
use Rattle.post.specs.Marks.{Waits}
use Rattle.state.specs.declared.word.Word.{Word}
use Rattle.state.specs.declared.word.Word.TheVariants.{Number, Pointer}
use Rattle.state.specs.declared.block.Block.{Block}
use Rattle.state.specs.declared.block.Entry.{Entry}
use Rattle.state.specs.declared.slot.Slot.{Slot}
use Rattle.state.specs.Registers.{held}
use Rattle.state.specs.Layout.{Layout, top, slot_count, within, level_of}
use Rattle.state.specs.Lawful.{Lawful}
use Rattle.state.specs.Blocks.{level_place, word_at, with_word, is_white, entry_at, has_entry, marked, entered, with_entry}
use Rattle.state.specs.Memory.{Memory, World, block_in, block_at, with_slots, changed_block, on_block}
use Rattle.state.specs.Turns.{clear_at}
use Rattle.state.specs.Calls.{word_written}
use Rattle.state.specs.Pasts.{Points}
use Rattle.laws.specs.Roots.{Root, from_register, on_hold, Reach, root, step}
use Rattle.laws.specs.Views.{is_black, white_in, black_in, entry_in, mark_in, white, black, entry, mark, mark_or_waits}
use Rattle.laws.specs.Invariant.{Told}
use Rattle.laws.specs.Inductive.{LocallyCovered, from_root, from_entry, from_mark, inward, Sound, Safe}
use Rattle.laws.proofs.Plans.{within_first, numbered_first}
use Rattle.laws.proofs.Frames.{block_each_any, get_or_filled}
use Rattle.laws.proofs.Graphs.{reach_inside}
use Rattle.laws.proofs.Reached.{reached_first}
use Rattle.laws.proofs.Covers.{local_first, covered_same, mark_or_waits_lem, CanBeSet}
use Rattle.laws.proofs.Changed.{some_block, changed_some, pointer_same, number_pointer, pointer_set, clear_from, clear_parts}

-- What the writing of word v into block p does, where the slots become xs and the waiting marks become sent: at most a pointer to v's block is new,
-- with its entry and its marks.
pub record Writes (plan : Layout) (w : World) (p : ℕ) (v : Word) (xs : List Slot) (sent : Waits) : Type 0 where
  pub used_is : (b : ℕ) → is_some (block_in xs b) ≡ is_some (block_at w.memory b)
  pub white_is : (b : ℕ) → white (with_slots xs w.memory) b ≡ white w.memory b
  pub black_is : (b : ℕ) → black (with_slots xs w.memory) b ≡ black w.memory b
  pub mark_is : (b m l : ℕ) → mark (with_slots xs w.memory) b m l ≡ mark w.memory b m l
  pub root_back : (b : ℕ) → Root (with_slots xs w.memory) b → Root w.memory b
  pub points_back : (x y : ℕ) → 1 ≤ x → Points (with_slots xs w.memory) x y → Points w.memory x y ⊎ ((x ≡ p) × (v ≡ Pointer y))
  pub entry_on : (b m : ℕ) → entry w.memory b m ≡ true → entry (with_slots xs w.memory) b m ≡ true
  pub entry_back : (b m : ℕ) → 1 ≤ b → 2 ≤ m → entry (with_slots xs w.memory) b m ≡ true → (entry w.memory b m ≡ true) ⊎ ((v ≡ Pointer b) × (m ≡ level_of plan p b))
  pub waits_on : (b m l : ℕ) → w.waits b m l ≡ true → sent b m l ≡ true
  pub waits_back : (b m l : ℕ) → sent b m l ≡ true → (w.waits b m l ≡ true)
      ⊎ ((v ≡ Pointer b) × ((2 ≤ m) × ((m ≤ l) × ((l ≤ top plan) × ((entry (with_slots xs w.memory) b m ≡ true) × (mark w.memory b m l ≡ false))))))
  pub entry_there : (c : ℕ) → v ≡ Pointer c → 2 ≤ level_of plan p c → entry (with_slots xs w.memory) c (level_of plan p c) ≡ true
  pub marks_told : (c l : ℕ) → v ≡ Pointer c → 2 ≤ level_of plan p c → level_of plan p c ≤ l → l ≤ top plan →
      mark_or_waits (record { memory = with_slots xs w.memory; waits = sent }) c (level_of plan p c) l ≡ true

-- The new pointer leads to a root: then all clauses are kept.
module _ (plan : Layout) (w : World) (sound : Sound plan w.memory) (safe : Safe plan w) (p : ℕ) (v : Word)
    (target : (c : ℕ) → v ≡ Pointer c → Root w.memory c) (xs : List Slot) (sent : Waits) (h : Writes plan w p v xs sent) where
  abbrev after : World
  after = record { memory = with_slots xs w.memory; waits = sent }

  reach_was : (b : ℕ) → Reach after.memory b → Reach w.memory b
  reach_was =
      reach_inside w.memory after.memory (λ b r. root (h.root_back b r))
      (λ x y r e. elim (h.points_back x y (reached_first plan w.memory sound x r) e) [ inl old ↦ step r old | inr new ↦ root (target y new.1) ])

  -- what a slot of the plan points to is one
  pointed_slot : (x y : ℕ) → 1 ≤ x → Points after.memory x y → 1 ≤ y
  pointed_slot x y first e = elim (h.points_back x y first e) [
    | inl old ↦ numbered_first (slot_count plan) y (sound.pointed_slots x y old)
    | inr new ↦ numbered_first (slot_count plan) y (sound.rooted_slots y (target y new.1))
  ]

  told_still : (b m l : ℕ) → mark_or_waits w b m l ≡ true → mark_or_waits after b m l ≡ true
  told_still b m l = mark_or_waits_lem w after b m l (λ set. h.mark_is b m l ∙ set) (h.waits_on b m l)

  -- an old pointer whose entry is new has its marks told of too
  told_on : (l : ℕ) (P Q : ℕ → Type 0) → ((b : ℕ) → Q b → 1 ≤ b) → ((b : ℕ) → Q b → P b) → l ≤ top plan → Told plan w l P → Told plan after l Q
  told_on l P Q first was high told b c q e two low there =
      elim (h.points_back b c (first b q) e) [
        | inl old ↦ elim (h.entry_back c (level_of plan b c) (pointed_slot b c (first b q) e) two there) [
          | inl before ↦ told_still c (level_of plan b c) l (told b c (was b q) old two low before)
          | inr new ↦ subst (λ m. mark_or_waits after c m l ≡ true) (sym new.1)
              (h.marks_told c l new.0 (subst (λ m. 2 ≤ m) new.1 two) (subst (λ m. m ≤ l) new.1 low) high)
        ]
        | inr new ↦ subst (λ x. mark_or_waits after c (level_of plan x c) l ≡ true) (sym new.0)
            (h.marks_told c l new.1 (subst (λ x. 2 ≤ level_of plan x c) new.0 two) (subst (λ x. level_of plan x c ≤ l) new.0 low) high)
      ]

  -- no block is locally covered that was not: the new pointer and the new entry lead to a root
  local_was : (a l b : ℕ) → 2 ≤ l → LocallyCovered plan after.memory a l b → LocallyCovered plan w.memory a l b
  local_was a l b two (from_root i r) = from_root i (h.root_back b r)
  local_was a l b two (from_entry m i lm mt e) = elim (h.entry_back b m (within_first plan a b i) (omega (arith, two, lm)) e) [
    | inl old ↦ from_entry m i lm mt old
    | inr new ↦ from_root i (target b new.0)
  ]
  local_was a l b two (from_mark m i lm ml e) = from_mark m i lm ml (sym (h.mark_is b m l) ∙ e)
  local_was a l b two (inward {b = x} d e i u) = elim (h.points_back x b (local_first plan after.memory a l x d) e) [
    | inl old ↦ inward (local_was a l x two d) old i (sym (h.used_is b) ∙ u)
    | inr new ↦ from_root i (target b new.1)
  ]

  entered_still : (x y : ℕ) → Reach after.memory x → Points after.memory x y → 2 ≤ level_of plan x y → entry after.memory y (level_of plan x y) ≡ true
  entered_still x y r e two = elim (h.points_back x y (reached_first plan w.memory sound x (reach_was x r)) e) [
    | inl old ↦ h.entry_on y (level_of plan x y) (safe.entered x y (reach_was x r) old two)
    | inr new ↦ subst (λ n. entry after.memory y (level_of plan n y) ≡ true) (sym new.0) (h.entry_there y new.1 (subst (λ n. 2 ≤ level_of plan n y) new.0 two))
  ]

  settable_still : (b m l : ℕ) → sent b m l ≡ true → CanBeSet plan after.memory b m l
  settable_still b m l waits = elim (h.waits_back b m l waits) [
    | inl old ↦ let s = safe.settable b m l old in (s.0, s.1, s.2, s.3, h.entry_on b m s.4, h.mark_is b m l ∙ s.5)
    | inr new ↦ (sound.rooted_slots b (target b new.0), new.1.0, new.1.1.0, new.1.1.1.0, new.1.1.1.1.0, h.mark_is b m l ∙ new.1.1.1.1.1)
  ]

  writes_keep : Safe plan after
  writes_keep = record {
    alive = λ b r. h.used_is b ∙ safe.alive b (reach_was b r);
    entered = entered_still;
    settable = settable_still;
    no_black_at_rest = λ a b low e i. h.black_is b ∙ safe.no_black_at_rest a b low e i;
    no_black_behind = λ a b k low e i below. h.black_is b ∙ safe.no_black_behind a b k low e i below;
    rooted = λ a b L low e i r. h.white_is b ∙ safe.rooted a b L low e i (h.root_back b r);
    inner = λ a b c L low e ib ic dark q. h.white_is c ∙ (elim (h.points_back b c (within_first plan a b ib) q) [
      | inl old ↦ safe.inner a b c L low e ib ic (sym (h.black_is b) ∙ dark) old
      | inr new ↦ safe.rooted a c L low e ic (target c new.1)
    ]);
    shaded_by_entry = λ a b m L low e i Lm mt there. h.white_is b ∙ (elim (h.entry_back b m (within_first plan a b i) (omega (arith, (sound.passes_inside a L low e).0, Lm)) there) [
      | inl old ↦ safe.shaded_by_entry a b m L low e i Lm mt old
      | inr new ↦ safe.rooted a b L low e i (target b new.0)
    ]);
    shaded_by_mark = λ a b m j L low e i two mj jt Lj set. h.white_is b ∙ safe.shaded_by_mark a b m j L low e i two mj jt Lj (sym (h.mark_is b m j) ∙ set);
    swept_reached = λ a b k low e i from r. h.white_is b ∙ safe.swept_reached a b k low e i from (reach_was b r);
    swept_entered = λ a b k m low e i from two mt there. h.white_is b ∙ (elim (h.entry_back b m (within_first plan a b i) two there) [
      | inl old ↦ safe.swept_entered a b k m low e i from two mt old
      | inr new ↦ safe.swept_reached a b k low e i from (root (target b new.0))
    ]);
    begun_runs = safe.begun_runs;
    begun_sends = safe.begun_sends;
    sends_marking = safe.sends_marking;
    scanned = λ a l L low two lt marking begun e lL.
        told_on l (λ b. (within plan a b ≡ true) × (black w.memory b ≡ true)) (λ b. (within plan a b ≡ true) × (black after.memory b ≡ true))
        (λ b q. within_first plan a b q.0) (λ b q. (q.0, sym (h.black_is b) ∙ q.1)) lt (safe.scanned a l L low two lt marking begun e lL);
    covered = λ a l low two lt marking over. elim (safe.covered a l low two lt marking (covered_same w.memory after.memory a l refl refl over)) [
      | inl some ↦ inl (some.0, (some.1.0, (some.1.1.0, h.waits_on some.0 some.1.0 l some.1.1.1)))
      | inr told ↦ inr (told_on l (LocallyCovered plan w.memory a l) (LocallyCovered plan after.memory a l) (local_first plan after.memory a l) (λ b. local_was a l b two) lt told)
    ];
    kept = λ a x b l low two lt recovering unstarted i r q level. elim (h.points_back x b (reached_first plan w.memory sound x (reach_was x r)) q) [
      | inl old ↦ told_still b l l (safe.kept a x b l low two lt recovering unstarted i (reach_was x r) old level)
      | inr new ↦
          let here : level_of plan p b ≡ l = subst (λ n. level_of plan n b ≡ l) new.0 level in
          subst (λ m. mark_or_waits after b m l ≡ true) here (h.marks_told b l new.1 (omega (arith, here, two)) (omega (arith, here)) lt)
    ];
  }

-- Words and entries of one block

-- a made entry is at its place, and the others stay
entry_set : (es : List (Option Entry)) (j i : ℕ) → let made = get_or (set es j (entered (get_or es j None))) i None in (made ≡ get_or es i None) ⊎ ((i ≡ j) × (made ≡ entered (get_or es i None)))
entry_set [] j i = inl refl
entry_set (x ∷ es) zero zero = inr (refl, refl)
entry_set (x ∷ es) zero (suc i) = inl refl
entry_set (x ∷ es) (suc j) zero = inl refl
entry_set (x ∷ es) (suc j) (suc i) = elim (entry_set es j i) [ inl e ↦ inl e | inr e ↦ inr (ap suc e.0, e.1) ]

entered_mark : (o : Option Entry) (l : ℕ) → Rattle.state.specs.Blocks.mark_in (entered o) l ≡ Rattle.state.specs.Blocks.mark_in o l
entered_mark None l = get_or_filled 3 (level_place l) false
entered_mark (Some e) l = refl

entered_there : (o : Option Entry) → is_some (entered o) ≡ true
entered_there None = refl
entered_there (Some e) = refl

-- Block x in slot n is what block k becomes.
record BlockWritten (plan : Layout) (p : ℕ) (v : Word) (n : ℕ) (k x : Block) : Type 0 where
  colour : x.colour ≡ k.colour
  size : x.size ≡ k.size
  holds : x.holds ≡ k.holds
  words : (i y : ℕ) → word_at x i ≡ Pointer y → (word_at k i ≡ Pointer y) ⊎ ((n ≡ p) × (v ≡ Pointer y))
  marks : (m l : ℕ) → marked x m l ≡ marked k m l
  entry_on : (m : ℕ) → has_entry k m ≡ true → has_entry x m ≡ true
  entry_back : (m : ℕ) → 2 ≤ m → has_entry x m ≡ true → (has_entry k m ≡ true) ⊎ ((v ≡ Pointer n) × (m ≡ level_of plan p n))

module _ (plan : Layout) (p : ℕ) (v : Word) where
  block_same : (n : ℕ) (k : Block) → BlockWritten plan p v n k k
  block_same n k = record { colour = refl; size = refl; holds = refl; words = λ i y e. inl e; marks = λ m l. refl; entry_on = λ m e. e; entry_back = λ m two e. inl e }

  block_then : (n : ℕ) (k x y : Block) → BlockWritten plan p v n k x → BlockWritten plan p v n x y → BlockWritten plan p v n k y
  block_then n k x y f g = record {
    colour = g.colour ∙ f.colour;
    size = g.size ∙ f.size;
    holds = g.holds ∙ f.holds;
    words = λ i c e. elim (g.words i c e) [ inl was ↦ f.words i c was | inr new ↦ inr new ];
    marks = λ m l. g.marks m l ∙ f.marks m l;
    entry_on = λ m e. g.entry_on m (f.entry_on m e);
    entry_back = λ m two e. elim (g.entry_back m two e) [ inl was ↦ f.entry_back m two was | inr new ↦ inr new ];
  }

  block_word : (i n : ℕ) (k : Block) → BlockWritten plan p v n k (cond (eqb n p) (with_word i v k) k)
  block_word i n k =
      cond_both (eqb n p) _ _ (BlockWritten plan p v n k)
      (λ here. record {
        colour = refl;
        size = refl;
        holds = refl;
        words = λ j y e. elim (pointer_set k.words i j v y e) [ inl was ↦ inl was | inr new ↦ inr (eqb-true n p here, new) ];
        marks = λ m l. refl;
        entry_on = λ m e. e;
        entry_back = λ m two e. inl e;
      })
      (λ _. block_same n k)

  block_entry : (c n : ℕ) (k : Block) → v ≡ Pointer c → 2 ≤ level_of plan p c → BlockWritten plan p v n k (cond (eqb n c) (with_entry (level_of plan p c) k) k)
  block_entry c n k new cross =
      cond_both (eqb n c) _ _ (BlockWritten plan p v n k)
      (λ here. record {
        colour = refl;
        size = refl;
        holds = refl;
        words = λ j y e. inl e;
        marks = λ m l. elim (entry_set k.entries (level_place (level_of plan p c)) (level_place m)) [
          | inl same ↦ ap (λ e. Rattle.state.specs.Blocks.mark_in e l) same
          | inr made ↦ ap (λ e. Rattle.state.specs.Blocks.mark_in e l) made.1 ∙ entered_mark (entry_at k m) l
        ];
        entry_on = λ m e. elim (entry_set k.entries (level_place (level_of plan p c)) (level_place m)) [
          | inl same ↦ ap is_some same ∙ e
          | inr made ↦ ap is_some made.1 ∙ entered_there (entry_at k m)
        ];
        entry_back = λ m two e. elim (entry_set k.entries (level_place (level_of plan p c)) (level_place m)) [
          | inl same ↦ inl (sym (ap is_some same) ∙ e)
          | inr made ↦
              let level : m ≡ level_of plan p c = omega (arith, made.0, two, cross) in
              inr (new ∙ ap Pointer (sym (eqb-true n c here)), level ∙ ap (level_of plan p) (sym (eqb-true n c here)))
        ];
      })
      (λ _. block_same n k)

-- Slots

changed_view : {X : Type 0} (view : Option Block → X) (f : Block → Block) → ((k : Block) → view (Some (f k)) ≡ view (Some k)) → (o : Option Block) → view (changed_block f o) ≡ view o
changed_view view f same None = refl
changed_view view f same (Some k) = same k

changed_twice : (f g : Block → Block) (o : Option Block) → changed_block g (changed_block f o) ≡ changed_block (λ k. g (f k)) o
changed_twice f g None = refl
changed_twice f g (Some k) = refl

entry_kept : (f : Block → Block) (m : ℕ) → ((k : Block) → has_entry k m ≡ true → has_entry (f k) m ≡ true) → (o : Option Block) → entry_in o m ≡ true → entry_in (changed_block f o) m ≡ true
entry_kept f m h None e = e
entry_kept f m h (Some k) e = h k e

entry_from : (f : Block → Block) (m : ℕ) (New : Type 0) → ((k : Block) → has_entry (f k) m ≡ true → (has_entry k m ≡ true) ⊎ New) →
    (o : Option Block) → entry_in (changed_block f o) m ≡ true → (entry_in o m ≡ true) ⊎ New
entry_from f m New h None e = inl e
entry_from f m New h (Some k) e = h k e

-- registers and holds stay
root_from : (s t : Memory) → t.registers ≡ s.registers → ((b : ℕ) (x : Block) → block_at t b ≡ Some x → (k : Block) × ((block_at s b ≡ Some k) × (x.holds ≡ k.holds))) → (b : ℕ) → Root t b → Root s b
root_from s t same back b (from_register r ok e) = from_register r ok (subst (λ rs. held rs r ≡ Pointer b) same e)
root_from s t same back b (on_hold x first e some) = let (k, (was, is)) = back b x e in on_hold k first was (subst (λ n. 0 < n) is some)

-- slots that change block by block
module _ (plan : Layout) (p : ℕ) (v : Word) (s : Memory) (xs : List Slot) (f : ℕ → Block → Block)
    (each : (b : ℕ) → block_in xs b ≡ changed_block (f (1 + place b)) (block_at s b)) (written : (n : ℕ) (k : Block) → BlockWritten plan p v n k (f n k)) where
  view_is : {X : Type 0} (view : Option Block → X) → ((n : ℕ) (k : Block) → view (Some (f n k)) ≡ view (Some k)) → (b : ℕ) → view (block_in xs b) ≡ view (block_at s b)
  view_is view same b = ap view (each b) ∙ changed_view view (f (1 + place b)) (same (1 + place b)) (block_at s b)

  block_from : (b : ℕ) (x : Block) → block_in xs b ≡ Some x → (k : Block) × ((block_at s b ≡ Some k) × (f (1 + place b) k ≡ x))
  block_from b x e = changed_some (f (1 + place b)) (block_at s b) x (sym (each b) ∙ e)

  slots_root : (b : ℕ) → Root (with_slots xs s) b → Root s b
  slots_root = root_from s (with_slots xs s) refl (λ b x e.
      let (k, (was, is)) = block_from b x e in
      (k, (was, ap (λ (y : Block). y.holds) (sym is) ∙ (written (1 + place b) k).holds)))

  slots_points : (x y : ℕ) → 1 ≤ x → Points (with_slots xs s) x y → Points s x y ⊎ ((x ≡ p) × (v ≡ Pointer y))
  slots_points x y first e =
      let (k, (was, is)) = block_from x e.block e.there in
      let here : 1 + place x ≡ x = omega (arith, first) in
      let inside : e.word < k.size = subst (λ n. e.word < n) (ap (λ (z : Block). z.size) (sym is) ∙ (written (1 + place x) k).size) e.inside in
      elim ((written (1 + place x) k).words e.word y (ap (λ (z : Block). word_at z e.word) is ∙ e.pointer)) [
        | inl old ↦ inl (record { block = k; there = was; word = e.word; inside = inside; pointer = old })
        | inr new ↦ inr (sym here ∙ new.0, new.1)
      ]

  slots_entry_on : (b m : ℕ) → entry s b m ≡ true → entry (with_slots xs s) b m ≡ true
  slots_entry_on b m e = ap (λ o. entry_in o m) (each b) ∙ entry_kept (f (1 + place b)) m (λ k. (written (1 + place b) k).entry_on m) (block_at s b) e

  slots_entry_back : (b m : ℕ) → 1 ≤ b → 2 ≤ m → entry (with_slots xs s) b m ≡ true → (entry s b m ≡ true) ⊎ ((v ≡ Pointer b) × (m ≡ level_of plan p b))
  slots_entry_back b m first two e =
      let here : 1 + place b ≡ b = omega (arith, first) in
      subst (λ n. (entry s b m ≡ true) ⊎ ((v ≡ Pointer n) × (m ≡ level_of plan p n))) here
      (entry_from (f (1 + place b)) m ((v ≡ Pointer (1 + place b)) × (m ≡ level_of plan p (1 + place b))) (λ k. (written (1 + place b) k).entry_back m two) (block_at s b) (sym (ap (λ o. entry_in o m) (each b)) ∙ e))

-- what the writing is, where the new entry and the marks to send are known
writes_slots : (plan : Layout) (w : World) (p : ℕ) (v : Word) (xs : List Slot) (sent : Waits) (f : ℕ → Block → Block) →
    ((b : ℕ) → block_in xs b ≡ changed_block (f (1 + place b)) (block_at w.memory b)) → ((n : ℕ) (k : Block) → BlockWritten plan p v n k (f n k)) →
    ((b m l : ℕ) → w.waits b m l ≡ true → sent b m l ≡ true) →
    ((b m l : ℕ) → sent b m l ≡ true → (w.waits b m l ≡ true)
    ⊎ ((v ≡ Pointer b) × ((2 ≤ m) × ((m ≤ l) × ((l ≤ top plan) × ((entry (with_slots xs w.memory) b m ≡ true) × (mark (with_slots xs w.memory) b m l ≡ false))))))) →
    ((c : ℕ) → v ≡ Pointer c → 2 ≤ level_of plan p c → entry (with_slots xs w.memory) c (level_of plan p c) ≡ true) →
    ((c l : ℕ) → v ≡ Pointer c → 2 ≤ level_of plan p c → level_of plan p c ≤ l → l ≤ top plan →
    mark_or_waits (record { memory = with_slots xs w.memory; waits = sent }) c (level_of plan p c) l ≡ true) →
    Writes plan w p v xs sent
writes_slots plan w p v xs sent f each written waits_on waits_back entry_there marks_told = record {
  used_is = view_is plan p v w.memory xs f each written is_some (λ n k. refl);
  white_is = view_is plan p v w.memory xs f each written white_in (λ n k. ap is_white (written n k).colour);
  black_is = view_is plan p v w.memory xs f each written black_in (λ n k. ap is_black (written n k).colour);
  mark_is = mark_same;
  root_back = slots_root plan p v w.memory xs f each written;
  points_back = slots_points plan p v w.memory xs f each written;
  entry_on = slots_entry_on plan p v w.memory xs f each written;
  entry_back = slots_entry_back plan p v w.memory xs f each written;
  waits_on = waits_on;
  waits_back = λ b m l e. elim (waits_back b m l e) [
    | inl old ↦ inl old
    | inr new ↦ inr (new.0, (new.1.0, (new.1.1.0, (new.1.1.1.0, (new.1.1.1.1.0, sym (mark_same b m l) ∙ new.1.1.1.1.1)))))
  ];
  entry_there = entry_there;
  marks_told = marks_told;
}
  where
    mark_same : (b m l : ℕ) → mark (with_slots xs w.memory) b m l ≡ mark w.memory b m l
    mark_same b m l = view_is plan p v w.memory xs f each written (λ o. mark_in o m l) (λ n k. (written n k).marks m l) b

module _ (plan : Layout) (law : Lawful plan) where
  -- a word that crosses no border of areas: a number, or a pointer inside an area
  inside_writes : (w : World) (p i : ℕ) (v : Word) → ((c : ℕ) → v ≡ Pointer c → 2 ≤ level_of plan p c → ⊥) → Writes plan w p v (on_block p (with_word i v) w.memory).slots w.waits
  inside_writes w p i v near =
      writes_slots plan w p v (on_block p (with_word i v) w.memory).slots w.waits (λ n k. cond (eqb n p) (with_word i v k) k)
      (block_each_any (λ n k. cond (eqb n p) (with_word i v k) k) w.memory.slots) (block_word plan p v i)
      (λ b m l e. e) (λ b m l e. inl e) (λ c e cross. absurd (near c e cross)) (λ c l e cross. absurd (near c e cross))

  -- a pointer to block c that crosses areas: the entry is made after the word is written
  module _ (w : World) (sound : Sound plan w.memory) (p i c : ℕ) (source : Root w.memory p) (target : Root w.memory c) (there : is_some (block_at w.memory c) ≡ true) (cross : 2 ≤ level_of plan p c) where
    abbrev level : ℕ
    level = level_of plan p c

    abbrev worded : ℕ → Block → Block
    worded n k = cond (eqb n p) (with_word i (Pointer c) k) k

    abbrev entering : ℕ → Block → Block
    entering n k = cond (eqb n c) (with_entry level k) k

    abbrev crossed : Memory
    crossed = on_block c (with_entry level) (on_block p (with_word i (Pointer c)) w.memory)

    crossing_each : (b : ℕ) → block_in crossed.slots b ≡ changed_block (λ k. entering (1 + place b) (worded (1 + place b) k)) (block_at w.memory b)
    crossing_each b =
        block_each_any entering (on_block p (with_word i (Pointer c)) w.memory).slots b
        ∙ ap (changed_block (entering (1 + place b))) (block_each_any worded w.memory.slots b)
        ∙ changed_twice (worded (1 + place b)) (entering (1 + place b)) (block_at w.memory b)

    crossing_block : (n : ℕ) (k : Block) → BlockWritten plan p (Pointer c) n k (entering n (worded n k))
    crossing_block n k = block_then plan p (Pointer c) n k (worded n k) (entering n (worded n k)) (block_word plan p (Pointer c) i n k) (block_entry plan p (Pointer c) c n (worded n k) refl cross)

    level_top : level ≤ top plan
    level_top = (law.level_within p c (sound.rooted_slots p source) (sound.rooted_slots c target)).1

    worded_entries : (n : ℕ) (k : Block) → (worded n k).entries ≡ k.entries
    worded_entries n k = cond_both (eqb n p) _ _ (λ (x : Block). x.entries ≡ k.entries) (λ _. refl) (λ _. refl)

    crossing_entry : entry crossed c level ≡ true
    crossing_entry =
        let (k, is) = some_block (block_at w.memory c) there in
        let here : 1 + place c ≡ c = omega (arith, numbered_first (slot_count plan) c (sound.rooted_slots c target)) in
        let now : block_at crossed c ≡ Some (with_entry level (worded (1 + place c) k)) =
        crossing_each c ∙ ap (changed_block (λ y. entering (1 + place c) (worded (1 + place c) y))) is ∙ ap Some (cond-true (eqb (1 + place c) c) _ _ (eq-eqb _ _ here)) in
        let three : length (worded (1 + place c) k).entries ≡ 3 = ap length (worded_entries (1 + place c) k) ∙ (sound.shape.blocks c k is).entries in
        ap (λ o. entry_in o level) now
        ∙ ap is_some (get_or-set_same (worded (1 + place c) k).entries (level_place level) (entered (entry_at (worded (1 + place c) k) level)) None (omega (arith, three, level_top, law.high.1, cross)))
        ∙ entered_there (entry_at (worded (1 + place c) k) level)

    abbrev sending : Waits
    sending b m l = w.waits b m l || (eqb b c && (eqb m level && (leb level l && (leb l (top plan) && clear_at crossed c level l))))

    sending_back : (b m l : ℕ) → sending b m l ≡ true → (w.waits b m l ≡ true)
        ⊎ ((Pointer c ≡ Pointer b) × ((2 ≤ m) × ((m ≤ l) × ((l ≤ top plan) × ((entry crossed b m ≡ true) × (mark crossed b m l ≡ false))))))
    sending_back b m l e = elim (or_cases (w.waits b m l) _ e) [
      | inl old ↦ inl old
      | inr new ↦
          let q = and_parts (eqb b c) _ new in
          let r = and_parts (eqb m level) _ q.1 in
          let u = and_parts (leb level l) _ r.1 in
          let x = and_parts (leb l (top plan)) _ u.1 in
          let block : b ≡ c = eqb-true b c q.0 in
          let here : m ≡ level = eqb-true m level r.0 in
          let clear = clear_parts (block_at crossed c) level l x.1 in
          inr (
            ap Pointer (sym block),
            (
              omega (arith, here, cross),
              (
                omega (arith, here, leb-true level l u.0),
                (
                  leb-true l (top plan) x.0,
                  (ap (λ n. entry crossed n m) block ∙ ap (entry crossed c) here ∙ clear.0, ap (λ n. mark crossed n m l) block ∙ ap (λ n. mark crossed c n l) here ∙ clear.1),
                ),
              ),
            ),
          )
    ]

    crossing_told : (l : ℕ) → level ≤ l → l ≤ top plan → (mark crossed c level l || sending c level l) ≡ true
    crossing_told l low high = elim (cases_Bool (mark crossed c level l)) [
      | inl set ↦ or_left (mark crossed c level l) (sending c level l) set
      | inr clear ↦ or_right (mark crossed c level l) (sending c level l) (or_right (w.waits c level l) _
          (and_from (eqb c c) _ (eq-eqb c c refl) (and_from (eqb level level) _ (eq-eqb level level refl) (and_from (leb level l) _ (le-leb level l low) (and_from (leb l (top plan)) _ (le-leb l (top plan) high)
          (clear_from (block_at crossed c) level l crossing_entry clear))))))
    ]

    crossing_writes : Writes plan w p (Pointer c) crossed.slots sending
    crossing_writes =
        writes_slots plan w p (Pointer c) crossed.slots sending (λ n k. entering n (worded n k)) crossing_each crossing_block
        (λ b m l e. or_left (w.waits b m l) _ e) sending_back
        (λ d e two. subst (λ n. entry crossed n (level_of plan p n) ≡ true) (pointer_same e) crossing_entry)
        (λ d l e two. subst (λ n. level_of plan p n ≤ l → l ≤ top plan → (mark crossed n (level_of plan p n) l || sending n (level_of plan p n) l) ≡ true) (pointer_same e) (crossing_told l))

  -- A word that is written into a root keeps the clauses of safety, where it is a number or points to a root.
  pub write_keeps : (w : World) → Sound plan w.memory → Safe plan w → (p i : ℕ) (v : Word) → Root w.memory p → is_some (block_at w.memory p) ≡ true →
      ((c : ℕ) → v ≡ Pointer c → Root w.memory c) → Safe plan (word_written plan p i v w)
  write_keeps w sound safe p i (Number n) source there target =
      writes_keep plan w sound safe p (Number n) target (on_block p (with_word i (Number n)) w.memory).slots w.waits (inside_writes w p i (Number n) (λ c e cross. number_pointer e))
  write_keeps w sound safe p i (Pointer c) source there target =
      cond_both (leb 2 (level_of plan p c)) _ _ (Safe plan)
      (λ cross. writes_keep plan w sound safe p (Pointer c) target (crossed w sound p i c source (target c refl) used (leb-true 2 _ cross)).slots
      (sending w sound p i c source (target c refl) used (leb-true 2 _ cross)) (crossing_writes w sound p i c source (target c refl) used (leb-true 2 _ cross)))
      (λ near. writes_keep plan w sound safe p (Pointer c) target (on_block p (with_word i (Pointer c)) w.memory).slots w.waits
      (inside_writes w p i (Pointer c) (λ d e cross. let same = pointer_same e in let low = leb-false 2 (level_of plan p c) near in omega (arith, low, subst (λ n. 2 ≤ level_of plan p n) (sym same) cross))))
    where
      used : is_some (block_at w.memory c) ≡ true
      used = safe.alive c (root (target c refl))
