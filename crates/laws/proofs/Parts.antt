-- What each part of a turn does to blocks, collectors, phases and waiting marks, as the other proofs use it.
use Rattle.std.proofs.Common.{◌≡◌, ℕ, zero, suc, ◌+◌, ◌<◌, ◌≤◌, Bool, true, false, cond, not, ◌&&◌, ◌||◌, eqb, ltb, leb, ◌⊎◌, List, [], ◌∷◌, length, get_or, is_some, Some, None, Option, sym, refl, ap, ◌∙◌, subst, inl, inr, arith, length-set}
use Rattle.std.proofs.lemmas.Bool.{cases_eq, cases_Bool, ltb-true, lt-ltb, leb-true, le-leb, not-true, not-false, not_from_false, or_cases, or_parts, or_left, or_right, and_left, cond_both, cond-true, eqb-true, eq-eqb, and_parts, and_from, false≢true, true≢false}
use Rattle.chain.specs.Chain.{place, numbered}
use Rattle.post.specs.Marks.{Waits}
use Rattle.state.specs.declared.word.Word.TheVariants.{Number}
use Rattle.state.specs.declared.block.Block.{Block}
use Rattle.state.specs.declared.block.Colour.{Colour}
use Rattle.state.specs.declared.block.Colour.TheVariants.{White, Grey, Black}
use Rattle.state.specs.declared.slot.Slot.{Slot}
use Rattle.state.specs.declared.collector.AtLevel.{AtLevel}
use Rattle.state.specs.declared.collector.Collector.{Collector}
use Rattle.state.specs.declared.collector.Stage.TheVariants.{Resting, Pass, Sweep}
use Rattle.state.specs.declared.collector.Status.{Status}
use Rattle.state.specs.declared.collector.Status.TheVariants.{Unstarted}
use Rattle.state.specs.declared.collector.Phase.{Phase}
use Rattle.state.specs.Layout.{Layout, top, slot_count, lowest, within, level_of, above}
use Rattle.state.specs.Lawful.{Lawful}
use Rattle.state.specs.Blocks as marks
use Rattle.state.specs.Blocks.{level_place, has_entry, marked, is_pointer_to, points_to, is_white, is_grey, coloured, shade, with_marks, with_recovered, entered_at}
use Rattle.state.specs.Memory.{Memory, World, free_slot, block_in, block_at, new_collector, collector_at, phase_at, status_at, sends_at, in_register, changed_block, each_block, on_block, on_area, with_collector, at_stage}
use Rattle.state.specs.Turns.{on_status, with_sends, marking_above, settable, newly_marked, restarted, drained, recovers_at, begun, entries_recovered, roots_shaded, pass_begun, new_in, grey_block, lowest_grey, scan_sends, scanned, with_free, block_recovered, slot_swept, swept_on, is_ended, ended, round_over, under, reset_at, all_ended, waits_at, some_waits, phase_changed}
use Rattle.state.specs.Pasts.{Points}
use Rattle.laws.specs.Roots.{Root, from_register, on_hold}
use Rattle.laws.specs.Views.{Shape, is_black, white, black, entry, white_in, black_in, entry_in, mark_in, stage, status, sends, mark}
use Rattle.chain.proofs.Chains.{place_within, numbered_from}
use Rattle.laws.proofs.Plans.{low_numbered, low_first, numbered_first, within_first, within_numbered}
use Rattle.laws.proofs.Frames.{block_each, block_each_any, block_area, block_on, slot_set, slot_set_other, length_map_from, status_on, sends_with, sends_on, status_with, reset_same, reset_other, phase_at_lem, phase_other, get_or_map_from, collector_at_lem, collector_other}
use Rattle.laws.proofs.Graphs.{KeepsWords, SameGraph, graph_each, graph_trans, graph_sym, keeps_cond, used_back, root_back}
use Rattle.laws.proofs.Changed.{level_place_lem, place_level, entry_inside, some_number, some_from_lem, every_number, every_fails, shaded_where, shaded_black_in, shaded_back, shaded_why, shaded_here, shaded_entry, shaded_mark, entered_why, entered_by_entry, entered_by_mark, pointing, points_word, word_points, on_here, on_other, black_here, not_white_here, coloured_entry, coloured_mark, same_white, same_black, Tabled, marks_entry, marks_mark, marks_colour, recovered_entry_lem, recovered_mark, recovered_colour, recovered_length, shaded_length, none-some, some_same, clear_from, clear_parts}
use Rattle.laws.proofs.Stages.{is_ended_lem}
use Rattle.laws.proofs.Flags.{stays_false}

-- a block is there and neither white nor black
abbrev pub grey : Memory → ℕ → Type 0
grey s b = (is_some (block_at s b) ≡ true) × ((white s b ≡ false) × (black s b ≡ false))

-- Colours are the same; entries and marks are the same. (Slot 0 is none.)
pub record SameColours (s t : Memory) : Type 0 where
  pub white_is : (b : ℕ) → 1 ≤ b → white t b ≡ white s b
  pub black_is : (b : ℕ) → 1 ≤ b → black t b ≡ black s b

pub record SameMarks (s t : Memory) : Type 0 where
  pub entry_is : (b m : ℕ) → 1 ≤ b → entry t b m ≡ entry s b m
  pub mark_is : (b m l : ℕ) → 1 ≤ b → mark t b m l ≡ mark s b m l

-- The blocks that P holds of are shaded, and no others; nothing else changes in the slots.
pub record Shades (s t : Memory) (P : ℕ → Type 0) : Type 0 where
  pub graph : SameGraph s t
  pub marks : SameMarks s t
  pub black_is : (b : ℕ) → 1 ≤ b → black t b ≡ black s b
  pub white_back : (b : ℕ) → 1 ≤ b → white t b ≡ true → white s b ≡ true
  pub shaded : (b : ℕ) → 1 ≤ b → P b → white t b ≡ false
  pub why : (b : ℕ) → 1 ≤ b → white t b ≡ false → (white s b ≡ false) ⊎ P b

-- The collector of area a alone changes, and no phase.
pub record OnlyArea (a : ℕ) (s t : Memory) : Type 0 where
  pub others : (e : ℕ) → 1 ≤ e → (e ≡ a → ⊥) → collector_at t e ≡ collector_at s e
  pub phases : t.phases ≡ s.phases

-- The block has an entry above L, or a mark of level L.
pub data Entered (s : Memory) (L b : ℕ) : Type 0 where
  by_entry : (m : ℕ) → 2 ≤ m → m ≤ 4 → L < m → entry s b m ≡ true → Entered s L b
  by_mark : (m : ℕ) → 2 ≤ m → m ≤ 4 → mark s b m L ≡ true → Entered s L b

-- Every block has three entries.
abbrev Threes : Memory → Type 0
Threes s = (b : ℕ) (k : Block) → block_at s b ≡ Some k → length k.entries ≡ 3

entered_block : (s : Memory) (L b : ℕ) (k : Block) → block_at s b ≡ Some k → Entered s L b → entered_at L k ≡ true
entered_block s L b k there (by_entry m lo hi above e) = entered_by_entry L k m lo above (subst (λ o. entry_in o m ≡ true) there e)
entered_block s L b k there (by_mark m lo hi e) = entered_by_mark L k m lo (subst (λ o. mark_in o m L ≡ true) there e)

block_entered : (s : Memory) (L b : ℕ) (k : Block) → block_at s b ≡ Some k → length k.entries ≡ 3 → entered_at L k ≡ true → Entered s L b
block_entered s L b k there three h =
    let (m, (lo, (hi, (e, way)))) = entered_why L k three h in
    elim way [
      | inl above ↦ by_entry m lo hi above (subst (λ o. entry_in o m ≡ true) (sym there) e)
      | inr mark ↦ by_mark m lo hi (subst (λ o. mark_in o m L ≡ true) (sym there) mark)
    ]

-- Shading of each block that a test passes.
changed_same : (f g : Block → Block) → ((k : Block) → f k ≡ g k) → (o : Option Block) → changed_block f o ≡ changed_block g o
changed_same f g h None = refl
changed_same f g h (Some k) = ap Some (h k)

module _ (s t : Memory) (f : ℕ → Block → Block) (test : ℕ → Block → Bool) (same : (b : ℕ) (k : Block) → f b k ≡ shaded_where (test b) k) (slots : t.slots ≡ each_block f s.slots) where
  shaded_at : (b : ℕ) → 1 ≤ b → block_at t b ≡ changed_block (shaded_where (test b)) (block_at s b)
  shaded_at b h = ap (λ xs. block_in xs b) slots ∙ block_each f s.slots b h ∙ changed_same (f b) (shaded_where (test b)) (same b) (block_at s b)

  keeps_shaded : (b : ℕ) (k : Block) → KeepsWords k (f b k)
  keeps_shaded b k = subst (KeepsWords k) (sym (same b k)) (keeps_cond (test b k) k (shade k) (record { words = refl; size = refl; holds = refl }))

  shades_each : (P : ℕ → Type 0) → t.registers ≡ s.registers → ((b : ℕ) (k : Block) → 1 ≤ b → block_at s b ≡ Some k → P b → test b k ≡ true)
      → ((b : ℕ) (k : Block) → 1 ≤ b → block_at s b ≡ Some k → test b k ≡ true → P b) → Shades s t P
  shades_each P registers passes passed =
      record {
        graph = graph_each f keeps_shaded s t slots registers;
        marks = record {
          entry_is = λ b m h. ap (λ o. entry_in o m) (shaded_at b h) ∙ shaded_entry (test b) (block_at s b) m;
          mark_is = λ b m l h. ap (λ o. mark_in o m l) (shaded_at b h) ∙ shaded_mark (test b) (block_at s b) m l;
        };
        black_is = λ b h. ap black_in (shaded_at b h) ∙ shaded_black_in (test b) (block_at s b);
        white_back = λ b h w. shaded_back (test b) (block_at s b) (ap white_in (sym (shaded_at b h)) ∙ w);
        shaded = λ b h p. ap white_in (shaded_at b h) ∙ shaded_here (test b) (block_at s b) (λ k there. passes b k h there p);
        why = λ b h w. elim (shaded_why (test b) (block_at s b) (ap white_in (sym (shaded_at b h)) ∙ w)) [
          | inl was ↦ inl was
          | inr found ↦ inr (passed b found.0 h found.1.0 found.1.1)
        ];
      }

pub only_trans : {a : ℕ} (s t u : Memory) → OnlyArea a s t → OnlyArea a t u → OnlyArea a s u
only_trans s t u p q = record { others = λ e h ne. q.others e h ne ∙ p.others e h ne; phases = q.phases ∙ p.phases }

some_number_same : {x y : ℕ} → Some x ≡ Some y → x ≡ y
some_number_same e = cc

-- a block is a root just if a register points to it or it has a hold
root_passes : (s : Memory) → length s.registers ≡ 16 → (b : ℕ) (k : Block) → block_at s b ≡ Some k → Root s b → (in_register s b || ltb 0 k.holds) ≡ true
root_passes s many b k there (from_register r ok e) =
    let below = ltb-true r 16 ok in
    or_left (in_register s b) _ (some_from_lem (λ _ w. is_pointer_to b w) 0 s.registers (Number 0) r (omega (arith, below, many)) (subst (λ w. is_pointer_to b w ≡ true) (sym e) (eq-eqb b b refl)))
root_passes s many b k there (on_hold x first e h) =
    let same : x ≡ k = some_same (sym e ∙ there) in
    or_right (in_register s b) _ (lt-ltb 0 k.holds (subst (λ (y : Block). 0 < y.holds) same h))

passed_root : (s : Memory) → length s.registers ≡ 16 → (b : ℕ) (k : Block) → 1 ≤ b → block_at s b ≡ Some k → (in_register s b || ltb 0 k.holds) ≡ true → Root s b
passed_root s many b k first there t =
    elim (or_cases (in_register s b) _ t) [
      | inl found ↦
          let (r, (inside, e)) = some_number (λ _ w. is_pointer_to b w) 0 s.registers (Number 0) found in
          from_register r (lt-ltb r 16 (omega (arith, inside, many))) (pointing b _ e)
      | inr h ↦ on_hold k first there (ltb-true 0 k.holds h)
    ]

marks_sym : (s t : Memory) → SameMarks s t → SameMarks t s
marks_sym s t m = record { entry_is = λ b n h. sym (m.entry_is b n h); mark_is = λ b n l h. sym (m.mark_is b n l h) }

entered_back : (s t : Memory) → SameMarks s t → (L b : ℕ) → 1 ≤ b → Entered t L b → Entered s L b
entered_back s t same L b h (by_entry m lo hi above e) = by_entry m lo hi above (sym (same.entry_is b m h) ∙ e)
entered_back s t same L b h (by_mark m lo hi e) = by_mark m lo hi (sym (same.mark_is b m L h) ∙ e)

-- a change that leaves how many entries each block has
threes_each : (f : ℕ → Block → Block) → ((b : ℕ) (k : Block) → length (f b k).entries ≡ length k.entries) → (s t : Memory) → t.slots ≡ each_block f s.slots → Threes s → Threes t
threes_each f keeps s t slots threes b k there = go (block_at s b) refl (sym (block_each_any f s.slots b) ∙ sym (ap (λ xs. block_in xs b) slots) ∙ there)
  where
    go : (o : Option Block) → block_at s b ≡ o → changed_block (f (1 + place b)) o ≡ Some k → length k.entries ≡ 3
    go None e h = absurd (none-some h)
    go (Some x) e h = subst (λ (y : Block). length y.entries ≡ 3) (some_same h) (keeps (1 + place b) x ∙ threes b x e)

-- a block gets a mark of level l just if one can be set that is clear
new_from : (w : Waits) (l b : ℕ) (o : Option Block) (m : ℕ) → 2 ≤ m → w b m l ≡ true → entry_in o m ≡ true → mark_in o m l ≡ false → new_in w l b o ≡ true
new_from w l b None m lo can there clear = there
new_from w l b (Some k) m lo can there clear =
    some_from_lem (λ n e. is_some e && (w b n l && not (marks.mark_in e l))) 2 k.entries None (level_place m) (entry_inside k m there)
    (subst (λ n. (has_entry k m && (w b n l && not (marked k m l))) ≡ true) (sym (level_place_lem m lo))
    (and_from (has_entry k m) _ there (and_from (w b m l) _ can (not_from_false (marked k m l) clear))))

new_by : (w : Waits) (l b : ℕ) (o : Option Block) → ((k : Block) → o ≡ Some k → length k.entries ≡ 3) → new_in w l b o ≡ true →
    (m : ℕ) × ((2 ≤ m) × ((m ≤ 4) × ((w b m l ≡ true) × ((entry_in o m ≡ true) × (mark_in o m l ≡ false)))))
new_by w l b None three h = absurd (false≢true h)
new_by w l b (Some k) three h =
    let (n, (inside, t)) = some_number (λ n e. is_some e && (w b n l && not (marks.mark_in e l))) 2 k.entries None h in
    let many = three k refl in
    let at = subst (λ i. (is_some (get_or k.entries i None) && (w b (2 + n) l && not (marks.mark_in (get_or k.entries i None) l))) ≡ true) (sym (place_level n)) t in
    let q = and_parts (has_entry k (2 + n)) _ at in
    let r = and_parts (w b (2 + n) l) _ q.1 in
    (2 + n, (omega arith, (omega (arith, inside, many), (r.0, (q.0, not-true (marked k (2 + n) l) r.1)))))

-- a mark waits for a block at an entry level from 2 to 4
waits_at_lem : (w : Waits) (l b m : ℕ) → 2 ≤ m → m ≤ 4 → w b m l ≡ true → waits_at w l b ≡ true
waits_at_lem w l b m lo hi t =
    elim (cases_eq m 2) [
      | inl two ↦ or_left (w b 2 l) _ (subst (λ n. w b n l ≡ true) two t)
      | inr ne ↦ elim (cases_eq m 3) [
        | inl three ↦ or_right (w b 2 l) _ (or_left (w b 3 l) _ (subst (λ n. w b n l ≡ true) three t))
        | inr nor ↦ or_right (w b 2 l) _ (or_right (w b 3 l) _ (subst (λ n. w b n l ≡ true) (last ne nor) t))
      ]
    ]
  where
    last : (m ≡ 2 → ⊥) → (m ≡ 3 → ⊥) → m ≡ 4
    last ne nor = omega (arith, ne, nor)

waits_of : (w : Waits) (l b : ℕ) → waits_at w l b ≡ true → (m : ℕ) × ((2 ≤ m) × ((m ≤ 4) × (w b m l ≡ true)))
waits_of w l b t =
    elim (or_cases (w b 2 l) _ t) [
      | inl two ↦ (2, (omega arith, (omega arith, two)))
      | inr more ↦ elim (or_cases (w b 3 l) _ more) [
        | inl three ↦ (3, (omega arith, (omega arith, three)))
        | inr four ↦ (4, (omega arith, (omega arith, four)))
      ]
    ]

-- a colour is one of three
grey_colour : (c : Colour) → is_grey c ≡ true → (is_white c ≡ false) × (is_black c ≡ false)
grey_colour White h = absurd (false≢true h)
grey_colour Grey h = (refl, refl)
grey_colour Black h = absurd (false≢true h)

black_colour : (c : Colour) → is_grey c ≡ false → is_white c ≡ false → is_black c ≡ true
black_colour White g w = absurd (true≢false w)
black_colour Grey g w = absurd (true≢false g)
black_colour Black g w = refl

grey_block_lem : (o : Option Block) → grey_block o ≡ true → (k : Block) × ((o ≡ Some k) × ((is_some o ≡ true) × ((white_in o ≡ false) × (black_in o ≡ false))))
grey_block_lem None h = absurd (false≢true h)
grey_block_lem (Some k) h = (k, (refl, (refl, grey_colour k.colour h)))

not_grey_block : (o : Option Block) → grey_block o ≡ false → is_some o ≡ true → white_in o ≡ false → black_in o ≡ true
not_grey_block None g u w = absurd (false≢true u)
not_grey_block (Some k) g u w = black_colour k.colour g w

-- a test inside an area
both_tests : (x y : Bool) (k : Block) → cond x (cond y (shade k) k) k ≡ cond (x && y) (shade k) k
both_tests true y k = refl
both_tests false y k = refl

module _ (plan : Layout) (law : Lawful plan) (a : ℕ) (low : lowest plan a ≡ true) where
  -- The collector of area a is put.
  seated : (s : Memory) → length s.collectors ≡ length plan.areas → (c : Collector) → collector_at (with_collector a c s) a ≡ c
  seated s long c = collector_at_lem s a c (subst (λ n. numbered n a ≡ true) (sym long) (low_numbered plan a low))

  only_seated : (s t : Memory) (c : Collector) → t.collectors ≡ (with_collector a c s).collectors → t.phases ≡ s.phases → OnlyArea a s t
  only_seated s t c e same = record { others = λ x h ne. ap (λ cs. get_or cs (place x) (new_collector 0)) e ∙ collector_other s a x c (low_first plan a low) h ne; phases = same }

  tabled : (s : Memory) → Shape plan s → (b m : ℕ) → Tabled (block_at s b) m
  tabled s shape b m k there = ((shape.blocks b k there).entries, λ e at. shape.marks b m k e there at)

  -- The drain of area a.
  pub record Drains (w v : World) : Type 0 where
    pub graph : SameGraph w.memory v.memory
    pub colours : SameColours w.memory v.memory
    pub only : OnlyArea a w.memory v.memory
    pub stage_is : stage v.memory a ≡ stage w.memory a
    pub sends_is : (l : ℕ) → sends v.memory a l ≡ sends w.memory a l
    pub status_is : (l : ℕ) → 2 ≤ l → l ≤ 4 → status v.memory a l ≡ restarted (newly_marked (settable plan a w.waits) l w.memory.slots && marking_above plan w.memory a l) (status w.memory a l)
    pub entry_is : (b m : ℕ) → 1 ≤ b → entry v.memory b m ≡ entry w.memory b m
    pub mark_is : (b m l : ℕ) → 1 ≤ b → 2 ≤ m → m ≤ 4 → 2 ≤ l → l ≤ 4 → mark v.memory b m l ≡ (mark w.memory b m l || (entry w.memory b m && settable plan a w.waits b m l))
    pub waits_is : (b m l : ℕ) → v.waits b m l ≡ (w.waits b m l && not (within plan a b))

  pub drains : (w : World) → Shape plan w.memory → Drains w (drained plan a w)
  drains w shape =
      let s = w.memory in
      let v = (drained plan a w).memory in
      let taken = λ (b m l : ℕ). settable plan a w.waits b m l in
      let f = λ (l : ℕ) (x : Status). restarted (newly_marked (settable plan a w.waits) l s.slots && marking_above plan s a l) x in
      let c = on_status f (collector_at s a) in
      let here = seated s shape.collectors c in
      let at = λ (b : ℕ) (h : 1 ≤ b). block_area plan a (λ x k. with_marks (taken x) k) s b h in
      record {
        graph = graph_each (λ b k. cond (within plan a b) (with_marks (taken b) k) k) (λ b k. keeps_cond (within plan a b) k (with_marks (taken b) k) (record { words = refl; size = refl; holds = refl })) s v refl refl;
        colours = record {
          white_is = λ b h. ap white_in (at b h) ∙ same_white (λ k. cond (within plan a b) (with_marks (taken b) k) k) (marks_colour (within plan a b) (taken b)) (block_at s b);
          black_is = λ b h. ap black_in (at b h) ∙ same_black (λ k. cond (within plan a b) (with_marks (taken b) k) k) (marks_colour (within plan a b) (taken b)) (block_at s b);
        };
        only = only_seated s v c refl refl;
        stage_is = ap (λ (x : Collector). x.stage) here;
        sends_is = λ l. ap (λ (x : Collector). sends_at x l) here ∙ sends_on f (collector_at s a) l;
        status_is = λ l lo hi. ap (λ (x : Collector). status_at x l) here ∙ status_on f (collector_at s a) l (shape.statuses a) lo hi;
        entry_is = λ b m h. ap (λ o. entry_in o m) (at b h) ∙ marks_entry (within plan a b) (taken b) (block_at s b) m;
        mark_is = λ b m l h lm hm ll hl. ap (λ o. mark_in o m l) (at b h) ∙
            marks_mark (within plan a b) (taken b) (block_at s b) m l (tabled s shape b m) lm hm ll hl (λ out. and_left (within plan a b) _ out);
        waits_is = λ b m l. refl;
      }

  -- a mark is taken that was clear
  pub newly_marked_lem : (w : World) → Shape plan w.memory → (b m l : ℕ) → numbered (slot_count plan) b ≡ true → within plan a b ≡ true → 2 ≤ m → m ≤ 4 → 2 ≤ l → l ≤ top plan → w.waits b m l ≡ true →
      entry w.memory b m ≡ true → mark w.memory b m l ≡ false → newly_marked (settable plan a w.waits) l w.memory.slots ≡ true
  newly_marked_lem w shape b m l n inside lm hm ll hl waits there clear =
      let first = numbered_first (slot_count plan) b n in
      let z : b ≡ 1 + place b = omega (arith, first) in
      let at = place_within (length w.memory.slots) b (subst (λ i. numbered i b ≡ true) (sym shape.slots) n) in
      let can = and_from (within plan a b) _ inside (and_from (leb l (top plan)) _ (le-leb l (top plan) hl) waits) in
      some_from_lem (λ c x. new_in (settable plan a w.waits) l c x.block) 1 w.memory.slots (free_slot 0) (place b) at
      (subst (λ c. new_in (settable plan a w.waits) l c (block_at w.memory b) ≡ true) z (new_from (settable plan a w.waits) l b (block_at w.memory b) m lm can there clear))

  pub newly_marked_by : (w : World) → Shape plan w.memory → (l : ℕ) → 2 ≤ l → l ≤ top plan → newly_marked (settable plan a w.waits) l w.memory.slots ≡ true →
      (b : ℕ) × ((m : ℕ) × ((within plan a b ≡ true) × ((2 ≤ m) × ((m ≤ 4) × ((w.waits b m l ≡ true) × ((entry w.memory b m ≡ true) × (mark w.memory b m l ≡ false)))))))
  newly_marked_by w shape l ll hl new =
      let (n, (at, t)) = some_number (λ c x. new_in (settable plan a w.waits) l c x.block) 1 w.memory.slots (free_slot 0) new in
      let z : n ≡ place (1 + n) = omega arith in
      let t' = subst (λ i. new_in (settable plan a w.waits) l (1 + n) (get_or w.memory.slots i (free_slot 0)).block ≡ true) z t in
      let (m, (lo, (hi, (can, (there, clear))))) = new_by (settable plan a w.waits) l (1 + n) (block_at w.memory (1 + n)) (λ k e. (shape.blocks (1 + n) k e).entries) t' in
      let q = and_parts (within plan a (1 + n)) _ can in
      (1 + n, (m, (q.0, (lo, (hi, ((and_parts (leb l (top plan)) _ q.1).1, (there, clear)))))))

  -- Pass L begins.
  pub record PassBegins (L : ℕ) (s t : Memory) : Type 0 where
    pub shades : Shades s t (λ b. (within plan a b ≡ true) × Entered s L b)
    pub only : OnlyArea a s t
    pub stage_is : stage t a ≡ Pass L
    pub status_is : (l : ℕ) → status t a l ≡ status s a l
    pub sends_is : (l : ℕ) → sends t a l ≡ sends s a l

  pass_begun_lem : (s : Memory) → length s.collectors ≡ length plan.areas → Threes s → (L : ℕ) → PassBegins L s (pass_begun plan a L s)
  pass_begun_lem s long threes L =
      let c = at_stage (Pass L) (collector_at s a) in
      let here = seated s long c in
      record {
        shades = shades_each s (pass_begun plan a L s) (λ b k. cond (within plan a b) (cond (entered_at L k) (shade k) k) k) (λ b k. within plan a b && entered_at L k)
            (λ b k. both_tests (within plan a b) (entered_at L k) k) refl (λ b. (within plan a b ≡ true) × Entered s L b) refl
            (λ b k h there p. and_from (within plan a b) _ p.0 (entered_block s L b k there p.1))
            (λ b k h there t. let q = and_parts (within plan a b) _ t in (q.0, block_entered s L b k there (threes b k there) q.1));
        only = only_seated s (pass_begun plan a L s) c refl refl;
        stage_is = ap (λ (x : Collector). x.stage) here;
        status_is = λ l. ap (λ (x : Collector). status_at x l) here;
        sends_is = λ l. ap (λ (x : Collector). sends_at x l) here;
      }

  pub pass_begins : (s : Memory) → Shape plan s → (L : ℕ) → PassBegins L s (pass_begun plan a L s)
  pass_begins s shape L = pass_begun_lem s shape.collectors (λ b k there. (shape.blocks b k there).entries) L

  -- The rest of the start of a round: entries are recovered, roots are shaded, pass H begins.
  pub record Begins (s t : Memory) : Type 0 where
    pub graph : SameGraph s t
    pub only : OnlyArea a s t
    pub stage_is : stage t a ≡ Pass (top plan)
    pub status_is : (l : ℕ) → 2 ≤ l → l ≤ 4 → status t a l ≡ begun (leb l (top plan)) (status s a l)
    pub sends_is : (l : ℕ) → 2 ≤ l → l ≤ 4 → sends t a l ≡ marking_above plan s a l
    pub entry_is : (b m : ℕ) → 1 ≤ b → 2 ≤ m → m ≤ 4 → entry t b m ≡ (entry s b m && not (within plan a b && (recovers_at plan s a m && not (mark s b m m))))
    pub mark_is : (b m l : ℕ) → 1 ≤ b → 2 ≤ m → m ≤ 4 → 2 ≤ l → l ≤ 4 → mark t b m l ≡ (entry t b m && (mark s b m l && not (within plan a b && recovers_at plan s a l)))
    pub black_is : (b : ℕ) → 1 ≤ b → black t b ≡ black s b
    pub white_back : (b : ℕ) → 1 ≤ b → white t b ≡ true → white s b ≡ true
    pub rooted : (b : ℕ) → within plan a b ≡ true → Root s b → white t b ≡ false
    pub entered : (b : ℕ) → within plan a b ≡ true → Entered t (top plan) b → white t b ≡ false
    pub why : (b : ℕ) → 1 ≤ b → white t b ≡ false → (white s b ≡ false) ⊎ ((within plan a b ≡ true) × (Root s b ⊎ Entered t (top plan) b))

  -- the area's roots are shaded
  roots_shaded_lem : (s : Memory) → length s.registers ≡ 16 → Shades s (roots_shaded plan a s) (λ b. (within plan a b ≡ true) × Root s b)
  roots_shaded_lem s many =
      shades_each s (roots_shaded plan a s) (λ b k. cond (within plan a b) (cond (in_register s b || ltb 0 k.holds) (shade k) k) k) (λ b k. within plan a b && (in_register s b || ltb 0 k.holds))
      (λ b k. both_tests (within plan a b) (in_register s b || ltb 0 k.holds) k) refl (λ b. (within plan a b ≡ true) × Root s b) refl
      (λ b k h there p. and_from (within plan a b) _ p.0 (root_passes s many b k there p.1))
      (λ b k h there t. let q = and_parts (within plan a b) _ t in (q.0, passed_root s many b k h there q.1))

  pub begins : (s : Memory) → Shape plan s → Begins s (pass_begun plan a (top plan) (roots_shaded plan a (entries_recovered plan a s)))
  begins s shape =
      let s1 = entries_recovered plan a s in
      let s2 = roots_shaded plan a s1 in
      let t = pass_begun plan a (top plan) s2 in
      let at = recovers_at plan s a in
      let was = collector_at s a in
      let started = on_status (λ l x. begun (leb l (top plan)) x) was in
      let c = with_sends (marking_above plan s a) started in
      let here = seated s shape.collectors c in
      let g1 : SameGraph s s1 = graph_each (λ b k. cond (within plan a b) (with_recovered at k) k) (λ b k. keeps_cond (within plan a b) k (with_recovered at k) (record { words = refl; size = refl; holds = refl })) s s1 refl refl in
      let changed = λ (b : ℕ) (h : 1 ≤ b). block_area plan a (λ _ k. with_recovered at k) s b h in
      let three1 : Threes s1 = threes_each (λ b k. cond (within plan a b) (with_recovered at k) k) (λ b k. recovered_length (within plan a b) at k) s s1 refl (λ b k there. (shape.blocks b k there).entries) in
      let three2 : Threes s2 = threes_each (λ b k. cond (within plan a b) (cond (in_register s1 b || ltb 0 k.holds) (shade k) k) k)
      (λ b k. ap (λ (x : Block). length x.entries) (both_tests (within plan a b) (in_register s1 b || ltb 0 k.holds) k) ∙ shaded_length (within plan a b && (in_register s1 b || ltb 0 k.holds)) k) s1 s2 refl three1 in
      let roots = roots_shaded_lem s1 shape.registers in
      let pass = pass_begun_lem s2 (length-set s.collectors (place a) c ∙ shape.collectors) three2 (top plan) in
      let still = pass.shades.marks in
      let entry1 = λ (b m : ℕ) (h : 1 ≤ b). still.entry_is b m h ∙ roots.marks.entry_is b m h in
      let white1 = λ (b : ℕ) (h : 1 ≤ b). ap white_in (changed b h) ∙ same_white (λ k. cond (within plan a b) (with_recovered at k) k) (recovered_colour (within plan a b) at) (block_at s b) in
      let black1 = λ (b : ℕ) (h : 1 ≤ b). ap black_in (changed b h) ∙ same_black (λ k. cond (within plan a b) (with_recovered at k) k) (recovered_colour (within plan a b) at) (block_at s b) in
      record {
        graph = graph_trans s s1 t g1 (graph_trans s1 s2 t roots.graph pass.shades.graph);
        only = only_trans s s2 t (only_seated s s2 c refl refl) pass.only;
        stage_is = pass.stage_is;
        status_is = λ l lo hi.
            pass.status_is l ∙ ap (λ (x : Collector). status_at x l) here ∙ status_with (marking_above plan s a) started l ∙ status_on (λ n x. begun (leb n (top plan)) x) was l (shape.statuses a) lo hi;
        sends_is = λ l lo hi.
            pass.sends_is l ∙ ap (λ (x : Collector). sends_at x l) here ∙ sends_with (marking_above plan s a) started l (length_map_from _ 2 was.levels ∙ shape.sending a) lo hi;
        entry_is = λ b m h lo hi. entry1 b m h ∙ ap (λ o. entry_in o m) (changed b h) ∙ recovered_entry_lem (within plan a b) at (block_at s b) m (tabled s shape b m) lo hi;
        mark_is = λ b m l h lm hm ll hl.
            still.mark_is b m l h ∙ roots.marks.mark_is b m l h ∙ ap (λ o. mark_in o m l) (changed b h) ∙ recovered_mark (within plan a b) at (block_at s b) m l (tabled s shape b m) lm hm ll hl ∙
            ap (λ e. e && (mark s b m l && not (within plan a b && at l))) (sym (entry1 b m h ∙ ap (λ o. entry_in o m) (changed b h)));
        black_is = λ b h. pass.shades.black_is b h ∙ roots.black_is b h ∙ black1 b h;
        white_back = λ b h w. sym (white1 b h) ∙ roots.white_back b h (pass.shades.white_back b h w);
        rooted = λ b inside r. stays_false (pass.shades.white_back b (within_first plan a b inside)) (roots.shaded b (within_first plan a b inside) (inside, root_back s1 s (graph_sym s s1 g1) b r));
        entered = λ b inside e. pass.shades.shaded b (within_first plan a b inside) (inside, entered_back s2 t still (top plan) b (within_first plan a b inside) e);
        why = λ b h w. elim (pass.shades.why b h w) [
          | inl dark ↦ elim (roots.why b h dark) [
            | inl was ↦ inl (sym (white1 b h) ∙ was)
            | inr q ↦ inr (q.0, inl (root_back s s1 g1 b q.1))
          ]
          | inr q ↦ inr (q.0, inr (entered_back t s2 (marks_sym s2 t still) (top plan) b h q.1))
        ];
      }

  -- Block p, whose block is k, is scanned in pass L.
  pub record Scans (L p : ℕ) (k : Block) (w v : World) : Type 0 where
    pub graph : SameGraph w.memory v.memory
    pub marks : SameMarks w.memory v.memory
    pub collectors : v.memory.collectors ≡ w.memory.collectors
    pub phases : v.memory.phases ≡ w.memory.phases
    pub black_here : black v.memory p ≡ true
    pub black_others : (b : ℕ) → 1 ≤ b → (b ≡ p → ⊥) → black v.memory b ≡ black w.memory b
    pub white_here : white v.memory p ≡ false
    pub white_back : (b : ℕ) → 1 ≤ b → white v.memory b ≡ true → white w.memory b ≡ true
    pub shaded : (c : ℕ) → within plan a c ≡ true → Points w.memory p c → white v.memory c ≡ false
    pub why : (b : ℕ) → 1 ≤ b → (b ≡ p → ⊥) → white v.memory b ≡ false → (white w.memory b ≡ false) ⊎ ((within plan a b ≡ true) × Points w.memory p b)
    pub waits_is : (c m l : ℕ) → v.waits c m l ≡ (w.waits c m l || scan_sends plan w.memory a L p k c m l)

  block_points : (s : Memory) (p : ℕ) (k : Block) → block_at s p ≡ Some k → (c : ℕ) → points_to k c ≡ true → Points s p c
  block_points s p k there c t = let (i, (inside, e)) = points_word k c t in record { block = k; there = there; word = i; inside = inside; pointer = e }

  points_block : (s : Memory) (p : ℕ) (k : Block) → block_at s p ≡ Some k → (c : ℕ) → Points s p c → points_to k c ≡ true
  points_block s p k there c points =
      let same : points.block ≡ k = some_same (sym points.there ∙ there) in
      subst (λ x. points_to x c ≡ true) same (word_points points.block c points.word points.inside points.pointer)

  points_shaded : (w : World) (p : ℕ) (k : Block) → block_at w.memory p ≡ Some k →
      Shades w.memory (on_area plan a (λ c x. cond (points_to k c) (shade x) x) w.memory) (λ b. (within plan a b ≡ true) × Points w.memory p b)
  points_shaded w p k there =
      shades_each w.memory (on_area plan a (λ c x. cond (points_to k c) (shade x) x) w.memory) (λ b x. cond (within plan a b) (cond (points_to k b) (shade x) x) x) (λ b x. within plan a b && points_to k b)
      (λ b x. both_tests (within plan a b) (points_to k b) x) refl (λ b. (within plan a b ≡ true) × Points w.memory p b) refl
      (λ b x h at q. and_from (within plan a b) _ q.0 (points_block w.memory p k there b q.1))
      (λ b x h at t. let q = and_parts (within plan a b) _ t in (q.0, block_points w.memory p k there b q.1))

  scanned_dark : (u : Memory) (p : ℕ) → 1 ≤ p → white (on_block p (coloured Black) u) p ≡ false
  scanned_dark u p first = ap white_in (on_here p (coloured Black) u first) ∙ not_white_here (block_at u p)

  pub scans : (w : World) → Shape plan w.memory → (L p : ℕ) (k : Block) → numbered (slot_count plan) p ≡ true → block_at w.memory p ≡ Some k → Scans L p k w (scanned plan a L p k w)
  scans w shape L p k n there =
      let first : 1 ≤ p = numbered_first (slot_count plan) p n in
      let u = on_area plan a (λ c x. cond (points_to k c) (shade x) x) w.memory in
      let v = on_block p (coloured Black) u in
      let shades = points_shaded w p k there in
      record {
        graph = graph_trans w.memory u v shades.graph (graph_each (λ x y. cond (eqb x p) (coloured Black y) y) (λ x y. keeps_cond (eqb x p) y (coloured Black y) (record { words = refl; size = refl; holds = refl })) u v refl refl);
        marks = record {
          entry_is = λ b m h. ap (λ o. entry_in o m) (block_on p (coloured Black) u b h) ∙ coloured_entry Black (eqb b p) (block_at u b) m ∙ shades.marks.entry_is b m h;
          mark_is = λ b m l h. ap (λ o. mark_in o m l) (block_on p (coloured Black) u b h) ∙ coloured_mark Black (eqb b p) (block_at u b) m l ∙ shades.marks.mark_is b m l h;
        };
        collectors = refl;
        phases = refl;
        black_here = ap black_in (on_here p (coloured Black) u first) ∙ black_here (block_at u p) (used_back w.memory u shades.graph p ∙ ap is_some there);
        black_others = λ b h ne. ap black_in (on_other p (coloured Black) u b h ne) ∙ shades.black_is b h;
        white_here = scanned_dark u p first;
        white_back = λ b h t. elim (cases_eq b p) [
          | inl same ↦ absurd (false≢true (sym (scanned_dark u p first) ∙ ap (white v) (sym same) ∙ t))
          | inr ne ↦ shades.white_back b h (ap white_in (sym (on_other p (coloured Black) u b h ne)) ∙ t)
        ];
        shaded = λ c inside points. elim (cases_eq c p) [
          | inl same ↦ ap (white v) same ∙ scanned_dark u p first
          | inr ne ↦ ap white_in (on_other p (coloured Black) u c (within_first plan a c inside) ne) ∙ shades.shaded c (within_first plan a c inside) (inside, points)
        ];
        why = λ b h ne t. shades.why b h (ap white_in (sym (on_other p (coloured Black) u b h ne)) ∙ t);
        waits_is = λ c m l. refl;
      }

  -- a scan sends the clear marks of what it points to, for the levels for which the round sends
  pub scan_sends_lem : (w : World) → Shape plan w.memory → (L p : ℕ) (k : Block) → block_at w.memory p ≡ Some k → (c l : ℕ) → Points w.memory p c → 2 ≤ level_of plan p c → level_of plan p c ≤ l → l ≤ L → sends w.memory a l ≡ true →
      entry w.memory c (level_of plan p c) ≡ true → mark w.memory c (level_of plan p c) l ≡ false → scan_sends plan w.memory a L p k c (level_of plan p c) l ≡ true
  scan_sends_lem w shape L p k there c l points lm ml hl sending entered clear =
      and_from (points_to k c) _ (points_block w.memory p k there c points)
      (and_from (eqb (level_of plan p c) (level_of plan p c)) _ (eq-eqb (level_of plan p c) (level_of plan p c) refl)
      (and_from (leb 2 (level_of plan p c)) _ (le-leb 2 (level_of plan p c) lm)
      (and_from (leb (level_of plan p c) l) _ (le-leb (level_of plan p c) l ml)
      (and_from (leb l L) _ (le-leb l L hl)
      (and_from (sends w.memory a l) _ sending (clear_from (block_at w.memory c) (level_of plan p c) l entered clear))))))

  -- and no others
  pub record Sent (L p : ℕ) (s : Memory) (c m l : ℕ) : Type 0 where
    pub points : Points s p c
    pub level : m ≡ level_of plan p c
    pub from_2 : 2 ≤ m
    pub upward : m ≤ l
    pub in_pass : l ≤ L
    pub sending : sends s a l ≡ true
    pub entered : entry s c m ≡ true
    pub clear : mark s c m l ≡ false

  pub scan_sent : (w : World) → Shape plan w.memory → (L p : ℕ) (k : Block) → block_at w.memory p ≡ Some k → (c m l : ℕ) → scan_sends plan w.memory a L p k c m l ≡ true → Sent L p w.memory c m l
  scan_sent w shape L p k there c m l sent =
      let (points, sent1) = and_parts (points_to k c) _ sent in
      let (level, sent2) = and_parts (eqb m (level_of plan p c)) _ sent1 in
      let (from, sent3) = and_parts (leb 2 m) _ sent2 in
      let (upward, sent4) = and_parts (leb m l) _ sent3 in
      let (pass, sent5) = and_parts (leb l L) _ sent4 in
      let (sending, is) = and_parts (sends w.memory a l) _ sent5 in
      let (entered, clear) = clear_parts (block_at w.memory c) m l is in
      record {
        points = block_points w.memory p k there c points;
        level = eqb-true m (level_of plan p c) level;
        from_2 = leb-true 2 m from;
        upward = leb-true m l upward;
        in_pass = leb-true l L pass;
        sending = sending;
        entered = entered;
        clear = clear;
      }

  -- the lowest grey block, if any
  grey_number : (i : ℕ) (xs : List Slot) (p : ℕ) → lowest_grey plan a i xs ≡ Some p →
      (n : ℕ) × ((n < length xs) × ((p ≡ i + n) × ((within plan a p ≡ true) × (grey_block (get_or xs n (free_slot 0)).block ≡ true))))
  grey_number i [] p h = absurd (false≢true (ap is_some h))
  grey_number i (x ∷ xs) p h =
      elim (cases_Bool (within plan a i && grey_block x.block)) [
        | inl t ↦
            let same : Some i ≡ Some p = subst (λ c. cond c (Some i) (lowest_grey plan a (i + 1) xs) ≡ Some p) t h in
            let e : i ≡ p = some_number_same same in
            let q = and_parts (within plan a i) _ t in
            (0, (omega arith, (omega (arith, e), (subst (λ y. within plan a y ≡ true) e q.0, q.1))))
        | inr t ↦
            let (n, (inside, (e, found))) = grey_number (i + 1) xs p (subst (λ c. cond c (Some i) (lowest_grey plan a (i + 1) xs) ≡ Some p) t h) in
            (suc n, (omega (arith, inside), (omega (arith, e), found)))
      ]

  none_grey : (i : ℕ) (xs : List Slot) → lowest_grey plan a i xs ≡ None → (n : ℕ) → n < length xs → within plan a (i + n) ≡ true → grey_block (get_or xs n (free_slot 0)).block ≡ false
  none_grey i [] h n inside here = refl
  none_grey i (x ∷ xs) h zero inside here =
      let z : i + 0 ≡ i = omega arith in
      elim (cases_Bool (within plan a i && grey_block x.block)) [
        | inl t ↦ absurd (true≢false (ap is_some (subst (λ c. cond c (Some i) (lowest_grey plan a (i + 1) xs) ≡ None) t h)))
        | inr t ↦ subst (λ c. (c && grey_block x.block) ≡ false) (subst (λ y. within plan a y ≡ true) z here) t
      ]
  none_grey i (x ∷ xs) h (suc n) inside here =
      let z : i + suc n ≡ (i + 1) + n = omega arith in
      elim (cases_Bool (within plan a i && grey_block x.block)) [
        | inl t ↦ absurd (true≢false (ap is_some (subst (λ c. cond c (Some i) (lowest_grey plan a (i + 1) xs) ≡ None) t h)))
        | inr t ↦ none_grey (i + 1) xs (subst (λ c. cond c (Some i) (lowest_grey plan a (i + 1) xs) ≡ None) t h) n (omega (arith, inside)) (subst (λ y. within plan a y ≡ true) z here)
      ]

  pub grey_found : (s : Memory) → Shape plan s → (p : ℕ) → lowest_grey plan a 1 s.slots ≡ Some p → (numbered (slot_count plan) p ≡ true) × ((within plan a p ≡ true) × ((k : Block) × ((block_at s p ≡ Some k) × grey s p)))
  grey_found s shape p found =
      let (n, (inside, (e, (here, g)))) = grey_number 1 s.slots p found in
      let at : place p ≡ n = omega (arith, e) in
      let g' = subst (λ i. grey_block (get_or s.slots i (free_slot 0)).block ≡ true) (sym at) g in
      let (k, (there, parts)) = grey_block_lem (block_at s p) g' in
      (numbered_from (slot_count plan) p (omega (arith, e)) (omega (arith, e, inside, shape.slots)), (here, (k, (there, parts))))

  pub no_grey : (s : Memory) → Shape plan s → lowest_grey plan a 1 s.slots ≡ None → (b : ℕ) → within plan a b ≡ true → is_some (block_at s b) ≡ true → white s b ≡ false → black s b ≡ true
  no_grey s shape none b inside there dark =
      let first = within_first plan a b inside in
      let z : b ≡ 1 + place b = omega (arith, first) in
      let at = place_within (length s.slots) b (subst (λ n. numbered n b ≡ true) (sym shape.slots) (within_numbered plan law a b low inside)) in
      not_grey_block (block_at s b) (none_grey 1 s.slots none (place b) at (subst (λ i. within plan a i ≡ true) z inside)) there dark

  -- The sweep of slot k.
  pub record Sweeps (k : ℕ) (s t : Memory) : Type 0 where
    pub registers : t.registers ≡ s.registers
    pub others : (b : ℕ) → 1 ≤ b → (b ≡ k → ⊥) → block_at t b ≡ block_at s b
    pub freed : white s k ≡ true → block_at t k ≡ None
    pub free : block_at s k ≡ None → block_at t k ≡ None
    pub whitened : (x : Block) → block_at s k ≡ Some x → white s k ≡ false → block_at t k ≡ Some (coloured Rattle.state.specs.declared.block.Colour.TheVariants.White x)
    pub only : OnlyArea a s t
    pub stage_is : stage t a ≡ Sweep (k + 1)
    pub status_is : (l : ℕ) → status t a l ≡ status s a l
    pub sends_is : (l : ℕ) → sends t a l ≡ sends s a l

  -- what is swept before the sweep goes on
  swept_on_lem : (s t : Memory) (k : ℕ) → length t.collectors ≡ length plan.areas → t.registers ≡ s.registers → ((b : ℕ) → 1 ≤ b → (b ≡ k → ⊥) → block_at t b ≡ block_at s b)
      → (white s k ≡ true → block_at t k ≡ None) → (block_at s k ≡ None → block_at t k ≡ None)
      → ((x : Block) → block_at s k ≡ Some x → white s k ≡ false → block_at t k ≡ Some (coloured White x))
      → OnlyArea a s t → ((l : ℕ) → status t a l ≡ status s a l) → ((l : ℕ) → sends t a l ≡ sends s a l) → Sweeps k s (swept_on a k t)
  swept_on_lem s t k long registers others freed free whitened only statuses sending =
      let c = at_stage (Sweep (k + 1)) (collector_at t a) in
      let here = seated t long c in
      let moved = only_seated t (swept_on a k t) c refl refl in
      record {
        registers = registers;
        others = others;
        freed = freed;
        free = free;
        whitened = whitened;
        only = only_trans s t (swept_on a k t) only moved;
        stage_is = ap (λ (x : Collector). x.stage) here;
        status_is = λ l. ap (λ (x : Collector). status_at x l) here ∙ statuses l;
        sends_is = λ l. ap (λ (x : Collector). sends_at x l) here ∙ sending l;
      }

  swept_white : (s : Memory) → Shape plan s → (k : ℕ) → within plan a k ≡ true → (x : Block) → block_at s k ≡ Some x → white s k ≡ true → Sweeps k s (swept_on a k (block_recovered a k s))
  swept_white s shape k inside x there is =
      let first = within_first plan a k inside in
      let at = subst (λ n. numbered n k ≡ true) (sym shape.slots) (within_numbered plan law a k low inside) in
      let slot = free_slot (collector_at s a).free in
      let c = with_free k (collector_at s a) in
      let here = seated s shape.collectors c in
      swept_on_lem s (block_recovered a k s) k (length-set s.collectors (place a) c ∙ shape.collectors) refl (λ b h ne. slot_set_other s.slots k b slot first h ne)
      (λ _. slot_set s.slots k slot at) (λ _. slot_set s.slots k slot at) (λ y e dark. absurd (false≢true (sym dark ∙ is)))
      (only_seated s (block_recovered a k s) c refl refl) (λ l. ap (λ (y : Collector). status_at y l) here) (λ l. ap (λ (y : Collector). sends_at y l) here)

  swept_dark : (s : Memory) → Shape plan s → (k : ℕ) → within plan a k ≡ true → (x : Block) → block_at s k ≡ Some x → white s k ≡ false → Sweeps k s (swept_on a k (on_block k (coloured White) s))
  swept_dark s shape k inside x there is =
      let first = within_first plan a k inside in
      let here = on_here k (coloured White) s first in
      swept_on_lem s (on_block k (coloured White) s) k shape.collectors refl (λ b h ne. on_other k (coloured White) s b h ne)
      (λ t. absurd (false≢true (sym is ∙ t))) (λ e. here ∙ ap (changed_block (coloured White)) e) (λ y e _. here ∙ ap (changed_block (coloured White)) e)
      (record { others = λ e h ne. refl; phases = refl }) (λ l. refl) (λ l. refl)

  swept_slot : (s : Memory) → Shape plan s → (k : ℕ) → within plan a k ≡ true → (o : Option Block) → block_at s k ≡ o → Sweeps k s (swept_on a k (slot_swept a k o s))
  swept_slot s shape k inside None there =
      swept_on_lem s s k shape.collectors refl (λ b h ne. refl) (λ t. absurd (false≢true (sym (ap white_in there) ∙ t))) (λ e. e) (λ x e _. absurd (none-some (sym there ∙ e)))
      (record { others = λ e h ne. refl; phases = refl }) (λ l. refl) (λ l. refl)
  swept_slot s shape k inside (Some x) there =
      cond_both (is_white x.colour) _ _ (λ (t : Memory). Sweeps k s (swept_on a k t))
      (λ is. swept_white s shape k inside x there (ap white_in there ∙ is))
      (λ is. swept_dark s shape k inside x there (ap white_in there ∙ is))

  pub sweeps : (s : Memory) → Shape plan s → (k : ℕ) → within plan a k ≡ true → Sweeps k s (swept_on a k (slot_swept a k (block_at s k) s))
  sweeps s shape k inside = swept_slot s shape k inside (block_at s k) refl

  -- The sweep begins, and the round is over: blocks and phases stay.
  pub record Moves (s t : Memory) : Type 0 where
    pub slots : t.slots ≡ s.slots
    pub registers : t.registers ≡ s.registers
    pub only : OnlyArea a s t

  pub sweep_begins : (s : Memory) → Shape plan s → (k : ℕ) → (let t = with_collector a (at_stage (Sweep k) (collector_at s a)) s in
      (Moves s t) × ((stage t a ≡ Sweep k) × (((l : ℕ) → status t a l ≡ status s a l) × ((l : ℕ) → sends t a l ≡ sends s a l))))
  sweep_begins s shape k =
      let c = at_stage (Sweep k) (collector_at s a) in
      let here = seated s shape.collectors c in (
        record { slots = refl; registers = refl; only = only_seated s (with_collector a c s) c refl refl },
        (ap (λ (x : Collector). x.stage) here, ((λ l. ap (λ (x : Collector). status_at x l) here), (λ l. ap (λ (x : Collector). sends_at x l) here))),
      )

  pub round_over_lem : (s : Memory) → Shape plan s → (let t = round_over a s in
      (Moves s t) × ((stage t a ≡ Resting) × (((l : ℕ) → 2 ≤ l → l ≤ 4 → status t a l ≡ ended (status s a l)) × ((l : ℕ) → 2 ≤ l → l ≤ 4 → sends t a l ≡ false))))
  round_over_lem s shape =
      let was = collector_at s a in
      let over = on_status (λ _ x. ended x) was in
      let c = at_stage Resting (with_sends (λ _. false) over) in
      let here = seated s shape.collectors c in (
        record { slots = refl; registers = refl; only = only_seated s (with_collector a c s) c refl refl },
        (
          ap (λ (x : Collector). x.stage) here,
          (
            (λ l lo hi. ap (λ (x : Collector). status_at x l) here ∙ status_with (λ _. false) over l ∙ status_on (λ _ x. ended x) was l (shape.statuses a) lo hi),
            (λ l lo hi. ap (λ (x : Collector). sends_at x l) here ∙ sends_with (λ _. false) over l (length_map_from _ 2 was.levels ∙ shape.sending a) lo hi),
          ),
        ),
      )

-- A phase changes: area x of level l.
pub record Changes (plan : Layout) (x l : ℕ) (p : Phase) (s t : Memory) : Type 0 where
  pub slots : t.slots ≡ s.slots
  pub registers : t.registers ≡ s.registers
  pub phase : phase_at t x ≡ p
  pub phase_others : (y : ℕ) → 1 ≤ y → (y ≡ x → ⊥) → phase_at t y ≡ phase_at s y
  pub stage_is : (e : ℕ) → lowest plan e ≡ true → stage t e ≡ stage s e
  pub status_under : (e : ℕ) → lowest plan e ≡ true → above plan e l ≡ x → status t e l ≡ Unstarted
  pub sends_under : (e : ℕ) → lowest plan e ≡ true → above plan e l ≡ x → sends t e l ≡ false
  pub status_others : (e k : ℕ) → lowest plan e ≡ true → 2 ≤ k → k ≤ 4 → ((k ≡ l) → (above plan e l ≡ x) → ⊥) → status t e k ≡ status s e k
  pub sends_others : (e k : ℕ) → lowest plan e ≡ true → 2 ≤ k → k ≤ 4 → ((k ≡ l) → (above plan e l ≡ x) → ⊥) → sends t e k ≡ sends s e k

module _ (plan : Layout) (law : Lawful plan) where
  under_from : (x l e : ℕ) → lowest plan e ≡ true → above plan e l ≡ x → under plan x l e ≡ true
  under_from x l e low here = and_from (lowest plan e) _ low (eq-eqb _ _ here)

  -- the collector of a lowest area stands in the table
  seat_inside : (s : Memory) → Shape plan s → (e : ℕ) → lowest plan e ≡ true → place e < length s.collectors
  seat_inside s shape e low = place_within (length s.collectors) e (subst (λ n. numbered n e ≡ true) (sym shape.collectors) (low_numbered plan e low))

  reset : (s : Memory) → Shape plan s → (x l : ℕ) (p : Phase) (e : ℕ) → lowest plan e ≡ true →
      collector_at (phase_changed plan x l p s) e ≡ cond (under plan x l e) (reset_at l (collector_at s e)) (collector_at s e)
  reset s shape x l p e low =
      let first = low_first plan e low in
      let z : 1 + place e ≡ e = omega (arith, first) in
      get_or_map_from (λ b c. cond (under plan x l b) (reset_at l c) c) 1 s.collectors (place e) (new_collector 0) (new_collector 0) (seat_inside s shape e low) ∙
      ap (λ b. cond (under plan x l b) (reset_at l (collector_at s e)) (collector_at s e)) z

  stage_reset : (l : ℕ) (c : Collector) (t : Bool) → (cond t (reset_at l c) c).stage ≡ c.stage
  stage_reset l c true = refl
  stage_reset l c false = refl

  pub changes : (s : Memory) → Shape plan s → (x l : ℕ) (p : Phase) → numbered (length plan.areas) x ≡ true → 2 ≤ l → l ≤ 4 → Changes plan x l p s (phase_changed plan x l p s)
  changes s shape x l p n ll hl =
      record {
        slots = refl;
        registers = refl;
        phase = phase_at_lem s x p (subst (λ i. numbered i x ≡ true) (sym shape.phases) n);
        phase_others = λ y h ne. phase_other s x y p (numbered_first _ x n) h ne;
        stage_is = λ e low. ap (λ (c : Collector). c.stage) (reset s shape x l p e low) ∙ stage_reset l (collector_at s e) (under plan x l e);
        status_under = λ e low here. ap (λ (c : Collector). status_at c l) (reset_under e low here) ∙ ap (λ (x : AtLevel). x.status) (reset_same l (collector_at s e) (shape.statuses e) ll hl);
        sends_under = λ e low here. ap (λ (c : Collector). sends_at c l) (reset_under e low here) ∙ ap (λ (x : AtLevel). x.sends) (reset_same l (collector_at s e) (shape.sending e) ll hl);
        status_others = λ e k low lo hi ne. ap (λ (c : Collector). status_at c k) (reset s shape x l p e low) ∙
            cond_both (under plan x l e) _ _ (λ (c : Collector). status_at c k ≡ status s e k) (λ t. ap (λ (x : AtLevel). x.status) (reset_other l k (collector_at s e) ll lo (λ same. ne same (under_above e t)))) (λ _. refl);
        sends_others = λ e k low lo hi ne. ap (λ (c : Collector). sends_at c k) (reset s shape x l p e low) ∙
            cond_both (under plan x l e) _ _ (λ (c : Collector). sends_at c k ≡ sends s e k) (λ t. ap (λ (x : AtLevel). x.sends) (reset_other l k (collector_at s e) ll lo (λ same. ne same (under_above e t)))) (λ _. refl);
      }
    where
      under_above : (e : ℕ) → under plan x l e ≡ true → above plan e l ≡ x
      under_above e t = eqb-true _ _ (and_parts (lowest plan e) _ t).1

      reset_under : (e : ℕ) → lowest plan e ≡ true → above plan e l ≡ x → collector_at (phase_changed plan x l p s) e ≡ reset_at l (collector_at s e)
      reset_under e low here = reset s shape x l p e low ∙ cond-true (under plan x l e) _ _ (under_from x l e low here)

  pub all_ended_lem : (s : Memory) → Shape plan s → (x l : ℕ) → all_ended plan x l s ≡ true → (e : ℕ) → lowest plan e ≡ true → above plan e l ≡ x → status s e l ≡ Rattle.state.specs.declared.collector.Status.TheVariants.Ended
  all_ended_lem s shape x l all e low here =
      let first = low_first plan e low in
      let z : 1 + place e ≡ e = omega (arith, first) in
      let t = subst (λ b. (not (under plan x l b) || is_ended (status s e l)) ≡ true) z
      (every_number (λ b c. not (under plan x l b) || is_ended (status_at c l)) 1 s.collectors (new_collector 0) all (place e) (seat_inside s shape e low)) in
      is_ended_lem (status s e l) (subst (λ u. (not u || is_ended (status s e l)) ≡ true) (under_from x l e low here) t)

  -- where not all have ended a round, one has not
  pub one_not_ended : (s : Memory) (x l : ℕ) → all_ended plan x l s ≡ false → (e : ℕ) × ((lowest plan e ≡ true) × ((above plan e l ≡ x) × (is_ended (status s e l) ≡ false)))
  one_not_ended s x l h =
      let (n, fails) = every_fails (λ b c. not (under plan x l b) || is_ended (status_at c l)) 1 s.collectors (new_collector 0) h in
      let parts = or_parts (not (under plan x l (1 + n))) _ fails in
      let here = and_parts (lowest plan (1 + n)) (eqb (above plan (1 + n) l) x) (not-false _ parts.0) in
      let z : n ≡ place (1 + n) = omega arith in
      (1 + n, (here.0, (eqb-true _ x here.1, subst (λ i. is_ended (status_at (get_or s.collectors i (new_collector 0)) l) ≡ false) z parts.1)))

  pub none_waits : (w : World) → Shape plan w.memory → (x l : ℕ) → some_waits plan x l w ≡ false → (b m : ℕ) → numbered (slot_count plan) b ≡ true → within plan x b ≡ true → 2 ≤ m → m ≤ 4 → w.waits b m l ≡ false
  none_waits w shape x l none b m n inside lm hm =
      let first = numbered_first (slot_count plan) b n in
      let z : b ≡ 1 + place b = omega (arith, first) in
      let at = place_within (length w.memory.slots) b (subst (λ i. numbered i b ≡ true) (sym shape.slots) n) in
      elim (cases_Bool (w.waits b m l)) [
        | inl t ↦ absurd (false≢true (sym none ∙
            some_from_lem (λ c _. within plan x c && waits_at w.waits l c) 1 w.memory.slots (free_slot 0) (place b) at
            (subst (λ c. (within plan x c && waits_at w.waits l c) ≡ true) z (and_from (within plan x b) _ inside (waits_at_lem w.waits l b m lm hm t)))))
        | inr f ↦ f
      ]

  pub one_waits : (w : World) → Shape plan w.memory → (x l : ℕ) → some_waits plan x l w ≡ true → (b : ℕ) × ((m : ℕ) × ((numbered (slot_count plan) b ≡ true) × ((within plan x b ≡ true) × ((2 ≤ m) × ((m ≤ 4) × (w.waits b m l ≡ true))))))
  one_waits w shape x l some =
      let (n, (at, t)) = some_number (λ c _. within plan x c && waits_at w.waits l c) 1 w.memory.slots (free_slot 0) some in
      let q = and_parts (within plan x (1 + n)) _ t in
      let (m, (lo, (hi, waits))) = waits_of w.waits l (1 + n) q.1 in
      (1 + n, (m, (numbered_from (slot_count plan) (1 + n) (omega arith) (omega (arith, at, shape.slots)), (q.0, (lo, (hi, waits))))))
