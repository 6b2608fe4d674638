-- Numbers, copies, holds, returns and reads keep the invariant.
use Rattle.std.proofs.Common.{◌≡◌, ℕ, ◌+◌, ◌-◌, ◌<◌, ◌≤◌, Bool, true, false, cond, ◌&&◌, eqb, leb, ◌⊎◌, get_or, is_some, Some, None, Option, sym, refl, ap, ◌∙◌, subst, inl, inr, arith}
use Rattle.std.proofs.lemmas.Bool.{cases_Bool, cases_lt, cond_both, and_parts, and_from, or_cases, or_left, or_right, eqb-true, eq-eqb, le-leb, leb-true, leb-false, false≢true}
use Rattle.chain.specs.Chain.{place, numbered}
use Rattle.state.specs.declared.word.Word.{Word}
use Rattle.state.specs.declared.word.Word.TheVariants.{Number, Pointer}
use Rattle.state.specs.declared.block.Block.{Block}
use Rattle.state.specs.declared.block.Colour.{Colour}
use Rattle.state.specs.declared.block.Colour.TheVariants.{White, Grey, Black}
use Rattle.state.specs.Registers.{is_register, held}
use Rattle.state.specs.Layout.{Layout, top, slot_count, lowest, within, home, level_of}
use Rattle.state.specs.Lawful.{Lawful}
use Rattle.state.specs.Blocks.{shaded_to, is_white, shade}
use Rattle.state.specs.Holds.{held_block, unheld_block}
use Rattle.state.specs.Memory.{Memory, World, block_at, with_register, changed_block, on_block}
use Rattle.state.specs.Turns.{on_memory, clear_at}
use Rattle.state.specs.Calls.{marks_sent, pointer_read}
use Rattle.state.specs.Pasts.{Points}
use Rattle.laws.specs.Roots.{Root, from_register, on_hold, Reach, root, step}
use Rattle.laws.specs.Views.{is_black, white, white_in, black, black_in, entry, entry_in, mark, mark_in}
use Rattle.laws.specs.Invariant.{Told, SomeWaits}
use Rattle.laws.specs.Inductive.{LocallyCovered, from_root, from_entry, from_mark, inward, Sound, Safe}
use Rattle.laws.proofs.Plans.{numbered_first, inside_level, one_home}
use Rattle.laws.proofs.Frames.{block_on, block_each_any}
use Rattle.laws.proofs.Used.{used_on}
use Rattle.laws.proofs.Graphs.{SameGraph, graph_each, graph_sym, keeps_cond, root_back, points_back}
use Rattle.laws.proofs.Gentle.{Gentle, gentle_keeps}
use Rattle.laws.proofs.Covers.{local_back, covered_same, CanBeSet}
use Rattle.laws.proofs.Changed.{changed_some, pointer_same, number_pointer, pointer_set, clear_from, clear_parts, shaded_not_white}

-- Registers

-- a root after a register was set was one before, or is what was put
root_set : (s : Memory) (p : ℕ) (v : Word) (b : ℕ) → Root (with_register p v s) b → Root s b ⊎ (v ≡ Pointer b)
root_set s p v b (from_register r ok e) =
    elim (pointer_set s.registers p r v b e) [
      | inl old ↦ inl (from_register r ok old)
      | inr new ↦ inr new
    ]
root_set s p v b (on_hold k first e h) = inl (on_hold k first e h)

-- a register gets a number, or a pointer to a block that is a root
fewer_roots : (plan : Layout) (w : World) (p : ℕ) (v : Word) → ((b : ℕ) → v ≡ Pointer b → Root w.memory b) → Gentle plan w (on_memory (with_register p v) w)
fewer_roots plan w p v old = record {
  roots = λ b r. elim (root_set w.memory p v b r) [ inl was ↦ was | inr new ↦ old b new ];
  points = λ q b e. record { block = e.block; there = e.there; word = e.word; inside = e.inside; pointer = e.pointer };
  used = λ b h. refl;
  entries = λ b m h. refl;
  marks = λ b m l h. refl;
  whites = λ b h e. e;
  blacks = λ b h e. e;
  collectors = refl;
  phases = refl;
  waiting = λ b m l e. e;
  sent = λ b m l e. inl e;
}

-- One block

-- The block keeps words, size and entries, and is at most shaded.
record KeepsAll (k x : Block) : Type 0 where
  words : x.words ≡ k.words
  size : x.size ≡ k.size
  entries : x.entries ≡ k.entries
  whites : is_white x.colour ≡ true → is_white k.colour ≡ true
  blacks : is_black x.colour ≡ true → is_black k.colour ≡ true

keeps_itself : (k : Block) → KeepsAll k k
keeps_itself k = record { words = refl; size = refl; entries = refl; whites = λ e. e; blacks = λ e. e }

keeps_if : (f : Block → Block) → ((k : Block) → KeepsAll k (f k)) → (t : Bool) (k : Block) → KeepsAll k (cond t (f k) k)
keeps_if f keeps true k = keeps k
keeps_if f keeps false k = keeps_itself k

keeps_shade : (k : Block) → KeepsAll k (shade k)
keeps_shade k = record { words = refl; size = refl; entries = refl; whites = whites k.colour; blacks = blacks k.colour }
  where
    whites : (c : Colour) → is_white (shaded_to c) ≡ true → is_white c ≡ true
    whites White e = refl
    whites Grey e = e
    whites Black e = e

    blacks : (c : Colour) → is_black (shaded_to c) ≡ true → is_black c ≡ true
    blacks White e = e
    blacks Grey e = e
    blacks Black e = e

keeps_held : (k : Block) → KeepsAll k (held_block k)
keeps_held k = cond_both (eqb k.holds 255) _ _ (KeepsAll k) (λ _. keeps_itself k) (λ _. record { words = refl; size = refl; entries = refl; whites = λ e. e; blacks = λ e. e })

keeps_unheld : (k : Block) → KeepsAll k (unheld_block k)
keeps_unheld k = cond_both (eqb k.holds 0) _ _ (KeepsAll k) (λ _. keeps_itself k) (λ _. record { words = refl; size = refl; entries = refl; whites = λ e. e; blacks = λ e. e })

module _ (f : Block → Block) (keeps : (k : Block) → KeepsAll k (f k)) where
  entry_in_lem : (o : Option Block) (m : ℕ) → entry_in (changed_block f o) m ≡ entry_in o m
  entry_in_lem None m = refl
  entry_in_lem (Some k) m = ap (λ es. is_some (get_or es (m - 2) None)) (keeps k).entries

  mark_in_lem : (o : Option Block) (m l : ℕ) → mark_in (changed_block f o) m l ≡ mark_in o m l
  mark_in_lem None m l = refl
  mark_in_lem (Some k) m l = ap (λ es. Rattle.state.specs.Blocks.mark_in (get_or es (m - 2) None) l) (keeps k).entries

  white_in_lem : (o : Option Block) → white_in (changed_block f o) ≡ true → white_in o ≡ true
  white_in_lem None e = e
  white_in_lem (Some k) e = (keeps k).whites e

  black_in_lem : (o : Option Block) → black_in (changed_block f o) ≡ true → black_in o ≡ true
  black_in_lem None e = e
  black_in_lem (Some k) e = (keeps k).blacks e

-- a change of block c alone
module _ (plan : Layout) (w : World) (c : ℕ) (f : Block → Block) (keeps : (k : Block) → KeepsAll k (f k)) where
  abbrev changed : ℕ → Block → Block
  changed n k = cond (eqb n c) (f k) k

  changed_keeps : (n : ℕ) (k : Block) → KeepsAll k (changed n k)
  changed_keeps n k = keeps_if f keeps (eqb n c) k

  points_on : (p b : ℕ) → Points (on_block c f w.memory) p b → Points w.memory p b
  points_on p b e =
      let at = block_each_any changed w.memory.slots p in
      let (k, (was, is)) = changed_some (changed (1 + place p)) (block_at w.memory p) e.block (sym at ∙ e.there) in
      let keep = subst (KeepsAll k) is (changed_keeps (1 + place p) k) in
      record {
        block = k;
        there = was;
        word = e.word;
        inside = subst (λ n. e.word < n) keep.size e.inside;
        pointer = subst (λ ws. get_or ws e.word (Number 0) ≡ Pointer b) keep.words e.pointer;
      }

  on_block_lem : ((b : ℕ) → Root (on_block c f w.memory) b → Root w.memory b) → Gentle plan w (on_memory (on_block c f) w)
  on_block_lem roots = record {
    roots = roots;
    points = points_on;
    used = λ b h. used_on c f w.memory b;
    entries = λ b m h. ap (λ o. entry_in o m) (block_on c f w.memory b h) ∙ entry_in_lem (changed b) (changed_keeps b) (block_at w.memory b) m;
    marks = λ b m l h. ap (λ o. mark_in o m l) (block_on c f w.memory b h) ∙ mark_in_lem (changed b) (changed_keeps b) (block_at w.memory b) m l;
    whites = λ b h e. white_in_lem (changed b) (changed_keeps b) (block_at w.memory b) (sym (ap white_in (block_on c f w.memory b h)) ∙ e);
    blacks = λ b h e. black_in_lem (changed b) (changed_keeps b) (block_at w.memory b) (sym (ap black_in (block_on c f w.memory b h)) ∙ e);
    collectors = refl;
    phases = refl;
    waiting = λ b m l e. e;
    sent = λ b m l e. inl e;
  }

  -- roots by holds: where a hold on b is new, b was a root
  roots_on : ((k : Block) → block_at w.memory c ≡ Some k → 0 < c → 0 < (f k).holds → Root w.memory c) → (b : ℕ) → Root (on_block c f w.memory) b → Root w.memory b
  roots_on old b (from_register r ok e) = from_register r ok e
  roots_on old b (on_hold x first e h) =
      let at = block_on c f w.memory b first in
      let (k, (was, is)) = changed_some (changed b) (block_at w.memory b) x (sym at ∙ e) in
      elim (cases_Bool (eqb b c)) [
        | inl here ↦
            let same = eqb-true b c here in
            subst (Root w.memory) (sym same)
            (old k (subst (λ n. block_at w.memory n ≡ Some k) same was) (subst (λ n. 0 < n) same first)
            (subst (λ t. 0 < (cond t (f k) k).holds) here (subst (λ (y : Block). 0 < y.holds) (sym is) h)))
        | inr other ↦ on_hold k first was (subst (λ t. 0 < (cond t (f k) k).holds) other (subst (λ (y : Block). 0 < y.holds) (sym is) h))
      ]

module _ (plan : Layout) (law : Lawful plan) (w : World) (sound : Sound plan w.memory) (safe : Safe plan w) where
  pub number_keeps : (p n : ℕ) → Safe plan (on_memory (with_register p (Number n)) w)
  number_keeps p n = gentle_keeps plan law w _ sound safe (fewer_roots plan w p (Number n) (λ b e. absurd (number_pointer e)))

  pub copy_keeps : (p q : ℕ) → is_register q ≡ true → Safe plan (on_memory (λ s. with_register p (held s.registers q) s) w)
  copy_keeps p q ok = gentle_keeps plan law w _ sound safe (fewer_roots plan w p (held w.memory.registers q) (λ b e. from_register q ok e))

  pub hold_keeps : (c : ℕ) → Root w.memory c → Safe plan (on_memory (on_block c held_block) w)
  hold_keeps c r = gentle_keeps plan law w _ sound safe (on_block_lem plan w c held_block keeps_held (roots_on plan w c held_block keeps_held (λ k _ _ _. r)))

  pub return_keeps : (c : ℕ) → Safe plan (on_memory (on_block c unheld_block) w)
  return_keeps c = gentle_keeps plan law w _ sound safe (on_block_lem plan w c unheld_block keeps_unheld (roots_on plan w c unheld_block keeps_unheld (λ k there first h. on_hold k first there (held_before k h))))
    where
      held_before : (k : Block) → 0 < (unheld_block k).holds → 0 < k.holds
      held_before k = cond_both (eqb k.holds 0) _ _ (λ (x : Block). 0 < x.holds → 0 < k.holds) (λ _ h. h) (λ _ h. omega (arith, h))

-- Block c, which is reachable, becomes a root: it is not white in a pass, and its area's cover at each level has it already or a mark waits there.
record Joins (plan : Layout) (w : World) (c : ℕ) : Type 0 where
  reached : Reach w.memory c
  dark : white w.memory c ≡ false
  local : (a l : ℕ) → lowest plan a ≡ true → 2 ≤ l → l ≤ top plan → within plan a c ≡ true → SomeWaits plan w a l ⊎ LocallyCovered plan w.memory a l c

module _ (plan : Layout) (w : World) (safe : Safe plan w) (p c : ℕ) (joins : Joins plan w c) where
  abbrev v : World
  v = on_memory (with_register p (Pointer c)) w

  roots : (b : ℕ) → Root v.memory b → Root w.memory b ⊎ (b ≡ c)
  roots b r = elim (root_set w.memory p (Pointer c) b r) [ inl was ↦ inl was | inr new ↦ inr (sym (pointer_same new)) ]

  points : (q b : ℕ) → Points v.memory q b → Points w.memory q b
  points q b e = record { block = e.block; there = e.there; word = e.word; inside = e.inside; pointer = e.pointer }

  reach : (b : ℕ) → Reach v.memory b → Reach w.memory b
  reach b (root r) = elim (roots b r) [ inl was ↦ root was | inr here ↦ subst (Reach w.memory) (sym here) joins.reached ]
  reach b (step {p = q} r e) = step (reach q r) (points q b e)

  local : (a l : ℕ) → (within plan a c ≡ true → LocallyCovered plan w.memory a l c) → (b : ℕ) → LocallyCovered plan v.memory a l b → LocallyCovered plan w.memory a l b
  local a l here =
      local_back plan w.memory v.memory a l
      (λ b inside r. elim (roots b r) [
        | inl was ↦ from_root inside was
        | inr same ↦ subst (LocallyCovered plan w.memory a l) (sym same) (here (subst (λ n. within plan a n ≡ true) same inside))
      ])
      points (λ b _ there. there) (λ b m _ _ _ e. e) (λ b m _ _ _ e. e)

  told : (l : ℕ) (P Q : ℕ → Type 0) → ((b : ℕ) → Q b → P b) → Told plan w l P → Told plan v l Q
  told l P Q back h b e q x lo hi there = h b e (back b q) (points b e x) lo hi there

  covered_local : (a l : ℕ) → (within plan a c ≡ true → LocallyCovered plan w.memory a l c) → Told plan w l (LocallyCovered plan w.memory a l) → Told plan v l (LocallyCovered plan v.memory a l)
  covered_local a l here all = told l (LocallyCovered plan w.memory a l) (LocallyCovered plan v.memory a l) (local a l here) all

  root_keeps : Safe plan v
  root_keeps = record {
    alive = λ b r. safe.alive b (reach b r);
    entered = λ q b r e h. safe.entered q b (reach q r) (points q b e) h;
    settable = safe.settable;
    no_black_at_rest = safe.no_black_at_rest;
    no_black_behind = safe.no_black_behind;
    rooted = λ a b L low at inside r.
        elim (roots b r) [
          | inl was ↦ safe.rooted a b L low at inside was
          | inr here ↦ subst (λ n. white w.memory n ≡ false) (sym here) joins.dark
        ];
    inner = λ a b e L low at inb ine dark q. safe.inner a b e L low at inb ine dark (points b e q);
    shaded_by_entry = safe.shaded_by_entry;
    shaded_by_mark = safe.shaded_by_mark;
    swept_reached = λ a b k low at inside h r. safe.swept_reached a b k low at inside h (reach b r);
    swept_entered = safe.swept_entered;
    begun_runs = safe.begun_runs;
    begun_sends = safe.begun_sends;
    sends_marking = safe.sends_marking;
    scanned = λ a l L low lo hi up e at h.
        told l (λ b. (within plan a b ≡ true) × (black w.memory b ≡ true)) (λ b. (within plan a b ≡ true) × (black w.memory b ≡ true)) (λ b q. q) (safe.scanned a l L low lo hi up e at h);
    covered = λ a l low lo hi up h.
        elim (safe.covered a l low lo hi up (covered_same w.memory v.memory a l refl refl h)) [
          | inl some ↦ inl some
          | inr all ↦ elim (cases_Bool (within plan a c)) [
            | inl inside ↦ elim (joins.local a l low lo hi inside) [
              | inl some ↦ inl some
              | inr here ↦ inr (covered_local a l (λ _. here) all)
            ]
            | inr outside ↦ inr (covered_local a l (λ inside. absurd (false≢true (sym outside ∙ inside))) all)
          ]
        ];
    kept = λ a q b l low lo hi up e inside r x at. safe.kept a q b l low lo hi up e inside (reach q r) (points q b x) at;
  }

-- A pointer to c is read out of block q: c is shaded and the clear marks of its entry are sent, and then it is a root.
module _ (plan : Layout) (law : Lawful plan) (w : World) (sound : Sound plan w.memory) (safe : Safe plan w) (q c : ℕ) (r : Root w.memory q) (e : Points w.memory q c) where
  abbrev shaded : World
  shaded = on_memory (on_block c shade) w

  abbrev sent : World
  sent = marks_sent plan c (level_of plan q c) shaded

  reached : Reach w.memory c
  reached = step (root r) e

  numbered_c : numbered (slot_count plan) c ≡ true
  numbered_c = sound.pointed_slots q c e

  first : 1 ≤ c
  first = numbered_first (slot_count plan) c numbered_c

  shading : Gentle plan w shaded
  shading = on_block_lem plan w c shade keeps_shade (roots_on plan w c shade keeps_shade (λ k there pos h. on_hold k pos there h))

  graph : SameGraph w.memory shaded.memory
  graph = graph_each (λ n k. cond (eqb n c) (shade k) k) (λ n k. keeps_cond (eqb n c) k (shade k) (record { words = refl; size = refl; holds = refl })) w.memory shaded.memory refl refl

  still_root : Root shaded.memory q
  still_root = root_back shaded.memory w.memory (graph_sym w.memory shaded.memory graph) q r

  still_points : Points shaded.memory q c
  still_points = points_back shaded.memory w.memory (graph_sym w.memory shaded.memory graph) q c e

  dark : white shaded.memory c ≡ false
  dark = ap white_in (block_on c shade w.memory c first) ∙ rw (eq-eqb c c refl) (shaded_in (block_at w.memory c))
    where
      shaded_in : (o : Option Block) → white_in (changed_block shade o) ≡ false
      shaded_in None = refl
      shaded_in (Some k) = shaded_not_white k.colour

  sending : 2 ≤ level_of plan q c → Gentle plan w sent
  sending lo = record {
    roots = shading.roots;
    points = shading.points;
    used = shading.used;
    entries = shading.entries;
    marks = shading.marks;
    whites = shading.whites;
    blacks = shading.blacks;
    collectors = refl;
    phases = refl;
    waiting = λ b m l h. or_left (w.waits b m l) _ h;
    sent = λ b m l h.
        elim (or_cases (w.waits b m l) _ h) [
          | inl waited ↦ inl waited
          | inr new ↦ inr (sendable b m l new)
        ];
  }
    where
      sendable : (b m l : ℕ) → (eqb b c && (eqb m (level_of plan q c) && (leb (level_of plan q c) l && (leb l (top plan) && clear_at shaded.memory c (level_of plan q c) l)))) ≡ true → CanBeSet plan w.memory b m l
      sendable b m l h =
          let p1 = and_parts (eqb b c) _ h in
          let p2 = and_parts (eqb m (level_of plan q c)) _ p1.1 in
          let p3 = and_parts (leb (level_of plan q c) l) _ p2.1 in
          let p4 = and_parts (leb l (top plan)) _ p3.1 in
          let p5 = clear_parts (block_at shaded.memory c) (level_of plan q c) l p4.1 in
          let same-b = eqb-true b c p1.0 in
          let same-m = eqb-true m (level_of plan q c) p2.0 in
          subst (λ x. CanBeSet plan w.memory x m l) (sym same-b)
          (subst (λ x. CanBeSet plan w.memory c x l) (sym same-m) (
            numbered_c,
            lo,
            leb-true _ _ p3.0,
            leb-true _ _ p4.0,
            sym (shading.entries c (level_of plan q c) first) ∙ p5.0,
            sym (shading.marks c (level_of plan q c) l first) ∙ p5.1,
          ))

  -- a pointer inside an area: its source is a root there
  local_inside : level_of plan q c ≤ 1 → (a l : ℕ) → lowest plan a ≡ true → within plan a c ≡ true → LocallyCovered plan shaded.memory a l c
  local_inside one a l low inside =
      let nq = sound.rooted_slots q r in
      let at = law.at_home q nq in
      let there = inside_level plan law (home plan q) q c at.0 at.1 numbered_c one in
      let same = one_home plan law (home plan q) a c at.0 low there inside in
      let source = subst (λ x. within plan x q ≡ true) same at.1 in
      inward (from_root source still_root) still_points inside (used_on c shade w.memory c ∙ safe.alive c reached)

  joins_shaded : level_of plan q c ≤ 1 → Joins plan shaded c
  joins_shaded one = record { reached = step (root still_root) still_points; dark = dark; local = λ a l low lo hi inside. inr (local_inside one a l low inside) }

  joins_sent : 2 ≤ level_of plan q c → Joins plan sent c
  joins_sent lo = record { reached = step (root still_root) still_points; dark = dark; local = crossing }
    where
      there : entry shaded.memory c (level_of plan q c) ≡ true
      there = shading.entries c (level_of plan q c) first ∙ safe.entered q c (root r) e lo

      to_top : level_of plan q c ≤ top plan
      to_top = (law.level_within q c (sound.rooted_slots q r) numbered_c).1

      crossing : (a l : ℕ) → lowest plan a ≡ true → 2 ≤ l → l ≤ top plan → within plan a c ≡ true → SomeWaits plan sent a l ⊎ LocallyCovered plan sent.memory a l c
      crossing a l low from_2 hi inside =
          elim (cases_lt l (level_of plan q c)) [
            | inl below ↦ inr (from_entry (level_of plan q c) inside below to_top there)
            | inr above ↦ elim (cases_Bool (mark shaded.memory c (level_of plan q c) l)) [
              | inl set ↦ inr (from_mark (level_of plan q c) inside lo above set)
              | inr clear ↦ inl (
                c,
                (
                  level_of plan q c,
                  (
                    inside,
                    or_right (w.waits c (level_of plan q c) l) _
                        (and_from _ _ (eq-eqb c c refl) (and_from _ _ (eq-eqb (level_of plan q c) _ refl) (and_from _ _ (le-leb _ _ above) (and_from _ _ (le-leb _ _ hi) (clear_from (block_at shaded.memory c) (level_of plan q c) l there clear))))),
                  ),
                ),
              )
            ]
          ]

  pub read_keeps : (p : ℕ) → Safe plan (pointer_read plan q c (on_memory (with_register p (Pointer c)) w))
  read_keeps p =
      cond_both (leb 2 (level_of plan q c)) _ _ (Safe plan)
      (λ lo. root_keeps plan sent (gentle_keeps plan law w sent sound safe (sending (leb-true _ _ lo))) p c (joins_sent (leb-true _ _ lo)))
      (λ lo. let below = leb-false _ _ lo in root_keeps plan shaded (gentle_keeps plan law w shaded sound safe shading) p c (joins_shaded (omega (arith, below))))
