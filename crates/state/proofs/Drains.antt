-- A drain, one mark after another: to take one mark is to take the set of that mark, and to take a set after another is to take
-- both at once. Assumes nothing.
use Rattle.std.proofs.Common.{◌≡◌, ℕ, zero, suc, ◌+◌, ◌-◌, ◌≤◌, Bool, true, false, cond, not, ◌&&◌, ◌||◌, eqb, leb, List, [], ◌∷◌, get_or, set, is_some, Some, None, Option, sym, refl, ap, ◌∙◌, inl, inr, arith}
use Rattle.std.proofs.Math.Path.{fun_ext}
use Rattle.std.proofs.Math.Bool.{and-true, or_assoc}
use Rattle.std.proofs.lemmas.Bool.{cases_Bool, and_parts, and_left, and_right, cond-true, cond-false, eqb-true, eqb-false}
use Rattle.std.proofs.lemmas.Bool.Decides.{nat_tests}
use Rattle.std.proofs.lemmas.List.{set-get_or}
use Rattle.chain.specs.Chain.{place}
use Rattle.post.specs.declared.Mark.{Mark}
use Rattle.post.specs.Marks.{Waits, is_mark, same, either, Quiet}
use Rattle.post.specs.Orders.{Run}
use Rattle.post.specs.Sets.{sets, at, same_at, mark_parts}
use Rattle.post.proofs.Orders.{left}
use Rattle.state.specs.declared.block.Block.{Block}
use Rattle.state.specs.declared.block.Entry.{Entry}
use Rattle.state.specs.declared.collector.AtLevel.{AtLevel}
use Rattle.state.specs.declared.collector.Collector.{Collector}
use Rattle.state.specs.declared.collector.Status.{Status}
use Rattle.state.specs.declared.slot.Slot.{Slot}
use Rattle.state.specs.Tables.{map_from}
use Rattle.state.specs.Layout.{Layout, top, within, first_in, last_of}
use Rattle.state.specs.Blocks.{level_place, entry_at, mark_in, marked_by, with_entries, with_marks}
use Rattle.state.specs.Memory.{Memory, World, block_in, collector_at, with_slots, with_collectors, with_collector, changed_block, each_block}
use Rattle.state.specs.Turns.{marking_above, on_status, settable, new_in, newly_marked, restarted, clear_in, clear_at, drained}
use Rattle.state.specs.Drains.{mark_taken, marks_taken, DrainedInAnyOrder}
use Rattle.state.proofs.Numbered.{map_from_map_from, map_from_same, map_from_keeps, map_from_none, some_from_map_from, some_from_or, some_from_none, some_from_one, set_twice}

-- A set of marks taken at once: the slots, the area's collector, the memory

abbrev set_all : Waits → List Slot → List Slot
set_all w slots = each_block (λ b. with_marks (w b)) slots

abbrev noted : Layout → ℕ → Waits → Memory → Collector → Collector
noted plan a w s c = on_status (λ l x. restarted (newly_marked w l s.slots && marking_above plan s a l) x) c

abbrev all_taken : Layout → ℕ → Waits → Memory → Memory
all_taken plan a w s = with_collector a (noted plan a w s (collector_at s a)) (with_slots (set_all w s.slots) s)

memories : (s : Memory) {xs ys : List Slot} {cs ds : List Collector} → xs ≡ ys → cs ≡ ds → with_collectors cs (with_slots xs s) ≡ with_collectors ds (with_slots ys s)
memories s p q = cc

-- Sets of which no mark is new

keeps : (x t : Bool) → (t && not x) ≡ false → (x || t) ≡ x
keeps x t h = grind (arith, h)

marks_kept : (taken : ℕ → Bool) (i : ℕ) (xs : List Bool) → ((n : ℕ) → (taken (i + n) && not (get_or xs n false)) ≡ false) → map_from (λ l x. x || taken l) i xs ≡ xs
marks_kept taken i [] h = refl
marks_kept taken i (x ∷ xs) h =
    let here : i + 0 ≡ i = omega arith in
    let more : (n : ℕ) → i + suc n ≡ (i + 1) + n = λ n. omega arith in
    rw (keeps x (taken i) (rw here at (h 0)), marks_kept taken (i + 1) xs (λ n. rw (more n) at (h (suc n))))

entry_kept : (taken : ℕ → Bool) (e : Option Entry) → ((l : ℕ) → 2 ≤ l → (is_some e && (taken l && not (mark_in e l))) ≡ false) → marked_by taken e ≡ e
entry_kept taken None h = refl
entry_kept taken (Some e) h =
    rw (marks_kept taken 2 e.marks (λ n. let back : (2 + n) - 2 ≡ n = omega arith in rw back at (h (2 + n) (omega arith))))

block_kept : (w : Waits) (b : ℕ) (o : Option Block) → ((l : ℕ) → 2 ≤ l → new_in w l b o ≡ false) → changed_block (with_marks (w b)) o ≡ o
block_kept w b None h = refl
block_kept w b (Some k) h =
    rw (map_from_none (λ m e. marked_by (w b m) e) (λ l m e. is_some e && (w b m l && not (mark_in e l))) (λ m e. entry_kept (w b m) e) 2 k.entries h)

slots_kept : (w : Waits) (slots : List Slot) → ((l : ℕ) → 2 ≤ l → newly_marked w l slots ≡ false) → set_all w slots ≡ slots
slots_kept w slots h =
    map_from_none _ (λ l b (s : Slot). new_in w l b s.block) (λ b s g. rw (block_kept w b s.block g)) 1 slots h

all_kept : (plan : Layout) (a : ℕ) (w : Waits) (s : Memory) → ((l : ℕ) → 2 ≤ l → newly_marked w l s.slots ≡ false) → all_taken plan a w s ≡ s
all_kept plan a w s h =
    let statuses : noted plan a w s (collector_at s a) ≡ collector_at s a =
    rw (map_from_keeps (λ l (x : AtLevel). record x { status = restarted (newly_marked w l s.slots && marking_above plan s a l) x.status }) 2 (λ l x g. rw (h l g)) (collector_at s a).levels) in
    memories s (slots_kept w s.slots h) (rw statuses (set-get_or s.collectors (place a) _))

-- a set with no mark there has none that is new
new_in_none : (w : Waits) (l b : ℕ) (o : Option Block) → ((m : ℕ) → w b m l ≡ false) → new_in w l b o ≡ false
new_in_none w l b None h = refl
new_in_none w l b (Some k) h =
    some_from_none (λ m e. is_some e && (w b m l && not (mark_in e l))) 2 (λ m e _. let off = h m in grind arith) k.entries

-- A set of marks after another

entry_either : (u v : ℕ → Bool) (e : Option Entry) → marked_by v (marked_by u e) ≡ marked_by (λ l. u l || v l) e
entry_either u v None = refl
entry_either u v (Some e) =
    ap (λ (r : List Bool). Some (record { marks = r }))
    (map_from_map_from (λ l x. x || u l) (λ l x. x || v l) 2 e.marks
    ∙ map_from_same (λ l x. (x || u l) || v l) (λ l x. x || (u l || v l)) 2 (λ l x _. or_assoc x (u l) (v l)) e.marks)

block_either : (u v : Waits) (b : ℕ) (o : Option Block) → changed_block (with_marks (v b)) (changed_block (with_marks (u b)) o) ≡ changed_block (with_marks (either u v b)) o
block_either u v b None = refl
block_either u v b (Some k) =
    ap (λ (r : List (Option Entry)). Some (with_entries r k))
    (map_from_map_from (λ m e. marked_by (u b m) e) (λ m e. marked_by (v b m) e) 2 k.entries
    ∙ map_from_same (λ m e. marked_by (v b m) (marked_by (u b m) e)) (λ m e. marked_by (either u v b m) e) 2 (λ m e _. entry_either (u b m) (v b m) e) k.entries)

slots_either : (u v : Waits) (slots : List Slot) → set_all v (set_all u slots) ≡ set_all (either u v) slots
slots_either u v slots =
    map_from_map_from _ _ 1 slots ∙ map_from_same _ _ 1 (λ b s _. rw (block_either u v b s.block)) slots

-- a mark of either set is new just if it is new in the one, or then in the other
mark_new : (t v x : Bool) → ((t && not x) || (v && not (x || t))) ≡ ((t || v) && not x)
mark_new t v x = grind arith

marks_new : (taken : ℕ → Bool) (v : Bool) (i n j : ℕ) → j ≡ i + n → (xs : List Bool)
    → ((taken j && not (get_or xs n false)) || (v && not (get_or (map_from (λ l x. x || taken l) i xs) n false))) ≡ ((taken j || v) && not (get_or xs n false))
marks_new taken v i n j e [] = grind arith
marks_new taken v i zero j e (x ∷ xs) = let here : i ≡ j = omega arith in rw here (mark_new (taken j) v x)
marks_new taken v i (suc n) j e (x ∷ xs) = marks_new taken v (i + 1) n j (omega arith) xs

entry_new : (u v : ℕ → Bool) (l : ℕ) → 2 ≤ l → (e : Option Entry)
    → ((is_some e && (u l && not (mark_in e l))) || (is_some (marked_by u e) && (v l && not (mark_in (marked_by u e) l)))) ≡ (is_some e && ((u l || v l) && not (mark_in e l)))
entry_new u v l g None = refl
entry_new u v l g (Some e) = marks_new u (v l) 2 (level_place l) l (omega arith) e.marks

block_new : (u v : Waits) (l b : ℕ) → 2 ≤ l → (o : Option Block) → (new_in u l b o || new_in v l b (changed_block (with_marks (u b)) o)) ≡ new_in (either u v) l b o
block_new u v l b g None = refl
block_new u v l b g (Some k) =
    ap (λ (y : Bool). new_in u l b (Some k) || y) (some_from_map_from (λ m e. is_some e && (v b m l && not (mark_in e l))) (λ m e. marked_by (u b m) e) 2 k.entries)
    ∙ some_from_or _ _ _ (λ m e. entry_new (u b m) (v b m) l g e) 2 k.entries

slots_new : (u v : Waits) (l : ℕ) → 2 ≤ l → (slots : List Slot) → (newly_marked u l slots || newly_marked v l (set_all u slots)) ≡ newly_marked (either u v) l slots
slots_new u v l g slots =
    ap (λ (y : Bool). newly_marked u l slots || y) (some_from_map_from (λ b s. new_in v l b s.block) _ 1 slots)
    ∙ some_from_or _ _ _ (λ b s. block_new u v l b g s.block) 1 slots

restarted_either : (x y m : Bool) (t : Status) → restarted (y && m) (restarted (x && m) t) ≡ restarted ((x || y) && m) t
restarted_either x y m t = grind arith

module _ (plan : Layout) (a : ℕ) (u v : Waits) (s : Memory) where
  noted_either : (c : Collector) → noted plan a v (all_taken plan a u s) (noted plan a u s c) ≡ noted plan a (either u v) s c
  noted_either c =
      ap (λ (r : List AtLevel). record c { levels = r })
      (map_from_map_from _ _ 2 c.levels
      ∙ map_from_same _ _ 2
      (λ l (x : AtLevel) g.
      ap (λ t. record x { status = t })
      (restarted_either (newly_marked u l s.slots) (newly_marked v l (set_all u s.slots)) (marking_above plan s a l) x.status
      ∙ rw (slots_new u v l g s.slots)))
      c.levels)

  all_either : all_taken plan a v (all_taken plan a u s) ≡ all_taken plan a (either u v) s
  all_either =
      memories s (slots_either u v s.slots)
      (set_twice (noted plan a u s) (noted plan a v (all_taken plan a u s)) s.collectors (place a) _ ∙ rw (noted_either (collector_at s a)))

-- What is done to some blocks only is done to all, by a set that has marks only there

there : (t : Bool) (marks : ℕ → ℕ → Bool) (w : Waits) (b : ℕ) (o : Option Block) → (t ≡ true → (m l : ℕ) → marks m l ≡ w b m l) → (t ≡ false → (m l : ℕ) → w b m l ≡ false)
    → changed_block (λ k. cond t (with_marks marks k) k) o ≡ changed_block (with_marks (w b)) o
there true marks w b o on off = ap (λ (r : ℕ → ℕ → Bool). changed_block (with_marks r) o) (fun_ext (λ m. fun_ext (λ l. on refl m l)))
there false marks w b None on off = refl
there false marks w b (Some k) on off = sym (block_kept w b (Some k) (λ l _. new_in_none w l b (Some k) (λ m. off refl m l)))

slots_there : (t : ℕ → Bool) (marks w : Waits) (slots : List Slot) → ((b m l : ℕ) → t b ≡ true → marks b m l ≡ w b m l) → ((b m l : ℕ) → t b ≡ false → w b m l ≡ false)
    → each_block (λ b k. cond (t b) (with_marks (marks b) k) k) slots ≡ set_all w slots
slots_there t marks w slots on off =
    map_from_same _ _ 1 (λ b s _. rw (there (t b) (marks b) w b s.block (λ e m l. on b m l e) (λ e m l. off b m l e))) slots

drained_all : (plan : Layout) (a : ℕ) (w : World) → (drained plan a w).memory ≡ all_taken plan a (settable plan a w.waits) w.memory
drained_all plan a w =
    memories w.memory
    (slots_there (within plan a) (settable plan a w.waits) (settable plan a w.waits) w.memory.slots (λ b m l e. refl)
    (λ b m l e. and_left (within plan a b) (leb l (top plan) && w.waits b m l) e))
    refl

-- One mark

entry_one : (q t e x y : Bool) → (q ≡ true → x ≡ y) → (e && ((q && t) && not x)) ≡ (q && (t && (e && not y)))
entry_one q t e x y h = grind (arith, h)

module _ (plan : Layout) (a : ℕ) (k : Mark) (in_area : within plan a k.block ≡ true) (from_1 : 1 ≤ k.block) (from_2 : 2 ≤ k.entry) where
  abbrev one : Waits
  one = settable plan a (same k)

  one_at : (l : ℕ) → one k.block k.entry l ≡ (eqb l k.level && leb k.level (top plan))
  one_at l = grind (arith, nat_tests)

  other_block : (b m l : ℕ) → (b ≡ k.block → ⊥) → one b m l ≡ false
  other_block b m l h = grind (arith, nat_tests)

  other_entry : (b m l : ℕ) → (m ≡ k.entry → ⊥) → one b m l ≡ false
  other_entry b m l h = grind (arith, nat_tests)

  in_block : (b m l : ℕ) → eqb b k.block ≡ true → leb k.level (top plan) ≡ true → (eqb m k.entry && eqb l k.level) ≡ one b m l
  in_block b m l h g = grind (arith, nat_tests)

  -- the mark is new where it can be set
  abbrev is_new : Option Block → ℕ → Bool
  is_new o l = eqb l k.level && (leb k.level (top plan) && clear_in o k.entry k.level)

  block_one : (l : ℕ) (o : Option Block) → new_in one l k.block o ≡ is_new o l
  block_one l None = grind arith
  block_one l (Some x) =
      some_from_one (λ m e. is_some e && (one k.block m l && not (mark_in e l))) k.entry None refl
      (λ m e h. let off = other_entry k.block m l h in grind arith)
      2 (level_place k.entry) (omega arith) x.entries
      ∙ rw (one_at l)
      (entry_one (eqb l k.level) (leb k.level (top plan)) (is_some (entry_at x k.entry)) _ _
      (λ e. ap (mark_in (entry_at x k.entry)) (eqb-true l k.level e)))

  slots_one : (l : ℕ) (slots : List Slot) → newly_marked one l slots ≡ is_new (block_in slots k.block) l
  slots_one l slots =
      some_from_one (λ b (s : Slot). new_in one l b s.block) k.block (record { block = None; next = 0 }) refl
      (λ b s h. new_in_none one l b s.block (λ m. other_block b m l h))
      1 (place k.block) (omega arith) slots
      ∙ block_one l (block_in slots k.block)

  -- to take one mark is to take the set of that mark
  mark_alone : (s : Memory) → mark_taken plan a k s ≡ all_taken plan a one s
  mark_alone s = elim (cases_Bool (leb k.level (top plan) && clear_at s k.block k.entry k.level)) [
    | inl can ↦
        cond-true _ _ s can
        ∙ memories s
        (slots_there (λ b. eqb b k.block) (λ b m l. eqb m k.entry && eqb l k.level) one s.slots
        (λ b m l e. in_block b m l e (and_parts (leb k.level (top plan)) _ can).0)
        (λ b m l e. other_block b m l (eqb-false b k.block e)))
        (ap (λ (r : List AtLevel). set s.collectors (place a) (record (collector_at s a) { levels = r }))
        (map_from_same _ _ 2 (λ l t _. rw (slots_one l s.slots, can, and-true (eqb l k.level))) (collector_at s a).levels))
    | inr cannot ↦
        cond-false _ _ s cannot ∙ sym (all_kept plan a one s (λ l _. slots_one l s.slots ∙ and_right (eqb l k.level) _ cannot))
  ]

-- A run of takes

joined : (r t s w : Bool) → (s ≡ true → w ≡ true) → ((r && (t && s)) || (r && (t && (w && not s)))) ≡ (r && (t && w))
joined r t s w h = grind (arith, h)

runs : (plan : Layout) (a size : ℕ) (ks : List Mark) (w v : Waits) (s : Memory) → ((b m l : ℕ) → w b m l ≡ true → is_mark size b m l ≡ true)
    → Run (first_in plan a) (last_of plan a) w ks v → Quiet (first_in plan a) (last_of plan a) v → marks_taken plan a ks s ≡ all_taken plan a (settable plan a w) s
runs plan a size [] w v s bounded e quiet =
    sym (all_kept plan a (settable plan a w) s (λ l _. some_from_none _ 1 (λ b x _. new_in_none (settable plan a w) l b x.block (λ m. empty b m l)) s.slots))
  where
    empty : (b m l : ℕ) → settable plan a w b m l ≡ false
    empty b m l = let same = at e b m l in let none = quiet b m l in grind (arith, nat_tests)
runs plan a size (k ∷ ks) w v s bounded (u, t, r) quiet =
    let p = mark_parts size k.block k.entry k.level (bounded k.block k.entry k.level t.1) in
    runs plan a size ks u v (mark_taken plan a k s) (λ b m l h. bounded b m l (and_parts (w b m l) (not (same k b m l)) (sym (at t.2 b m l) ∙ h)).0) r quiet
    ∙ ap (all_taken plan a (settable plan a u)) (mark_alone plan a k t.0 p.0 p.2 s)
    ∙ all_either plan a (settable plan a (same k)) (settable plan a u) s
    ∙ ap (λ (x : Waits). all_taken plan a x s)
    (sets (λ b m l. rw (at t.2 b m l) (joined (within plan a b) (leb l (top plan)) (same k b m l) (w b m l) (λ h. same_at w k b m l h ∙ t.1))))

pub drained_in_any_order : DrainedInAnyOrder
drained_in_any_order plan a size w bounded ks v whole = (
  runs plan a size ks w.waits v w.memory bounded whole.0 whole.1.0 ∙ sym (drained_all plan a w),
  left (first_in plan a) (last_of plan a) ks w.waits v whole,
)
