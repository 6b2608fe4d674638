-- Changes of blocks, collectors and registers that keep the tables of a memory sound.
use Rattle.std.proofs.Common.{◌≡◌, ℕ, zero, suc, ◌+◌, ◌-◌, ◌<◌, ◌≤◌, Bool, true, false, cond, not, ◌&&◌, ◌||◌, eqb, ◌⊎◌, List, [], ◌∷◌, map, length, get_or, set, is_some, Some, None, Option, sym, refl, ap, ◌∙◌, subst, inl, inr, arith, length-set}
use Rattle.std.proofs.lemmas.Bool.{cond_both, cases_lt, true≢false}
use Rattle.std.proofs.lemmas.List.{get_or_past}
use Rattle.chain.specs.Chain.{place, numbered, Chain}
use Rattle.chain.proofs.Chains.{numbered_from}
use Rattle.state.specs.declared.word.Word.{Word}
use Rattle.state.specs.declared.word.Word.TheVariants.{Number, Pointer}
use Rattle.state.specs.declared.block.Block.{Block}
use Rattle.state.specs.declared.block.Entry.{Entry}
use Rattle.state.specs.declared.block.Colour.{Colour}
use Rattle.state.specs.declared.slot.Slot.{Slot}
use Rattle.state.specs.declared.collector.Collector.{Collector}
use Rattle.state.specs.declared.collector.Stage.TheVariants.{Pass, Sweep}
use Rattle.state.specs.Tables.{map_from}
use Rattle.state.specs.Blocks.{word_at, entry_at, coloured, with_entries, entered, with_entry, marked_by, with_marks, mark_in, recovered_entry, with_recovered, with_word}
use Rattle.state.specs.Holds.{with_holds}
use Rattle.state.specs.Layout.{Layout, top, slot_count, lowest, within, first_in}
use Rattle.state.specs.Memory.{Memory, free_slot, block_in, block_at, collector_at, changed_block, each_block, with_slots, with_register, with_collector, on_block, on_area}
use Rattle.state.specs.Pasts.{Points}
use Rattle.laws.specs.Roots.{Root, from_register, on_hold}
use Rattle.laws.specs.Views.{BlockShape, Shape}
use Rattle.laws.specs.Invariant.{FreeChain}
use Rattle.laws.specs.Inductive.{Sound}
use Rattle.laws.proofs.Plans.{low_numbered, low_first, by_area}
use Rattle.laws.proofs.Frames.{length_map_from, block_each_any, links_each, collector_at_lem, collector_other, collector_any, set_either}
use Rattle.laws.proofs.Graphs.{SameGraph, graph_same, points_back, root_back}
use Rattle.laws.proofs.Used.{used_each}
use Rattle.laws.proofs.Changed.{changed_some}

-- Blocks

-- The tables of a block have their lengths.
pub record Shaped (k : Block) : Type 0 where
  pub block : BlockShape k
  pub marks : (m : ℕ) (e : Entry) → entry_at k m ≡ Some e → length e.marks ≡ 3

abbrev pub ShapedIn : Option Block → Type 0
ShapedIn None = Unit {0}
ShapedIn (Some k) = Shaped k

pub shaped_in : (o : Option Block) → ((k : Block) → o ≡ Some k → Shaped k) → ShapedIn o
shaped_in None h = tt
shaped_in (Some k) h = h k refl

-- an entry has three marks, if it is there
abbrev Fits : Option Entry → Type 0
Fits None = Unit {0}
Fits (Some e) = length e.marks ≡ 3

fits_from : (o : Option Entry) → ((e : Entry) → o ≡ Some e → length e.marks ≡ 3) → Fits o
fits_from None h = tt
fits_from (Some e) h = h e refl

fits_at : (k : Block) → Shaped k → (i : ℕ) → Fits (get_or k.entries i None)
fits_at k h i =
    let back : i + 2 - 2 ≡ i = omega arith in
    subst (λ n. Fits (get_or k.entries n None)) back (fits_from (entry_at k (i + 2)) (λ e there. h.marks (i + 2) e there))

fits_mapped : (g : ℕ → Option Entry → Option Entry) → ((n : ℕ) (o : Option Entry) → Fits o → Fits (g n o)) → (i : ℕ) (es : List (Option Entry)) (n : ℕ) → Fits (get_or es n None) → Fits (get_or (map_from g i es) n None)
fits_mapped g keeps i [] n h = tt
fits_mapped g keeps i (o ∷ es) zero h = keeps i o h
fits_mapped g keeps i (o ∷ es) (suc n) h = fits_mapped g keeps (i + 1) es n h

fits_set : (es : List (Option Entry)) (i : ℕ) (o : Option Entry) → Fits o → (n : ℕ) → Fits (get_or es n None) → Fits (get_or (set es i o) n None)
fits_set es i o new n old = elim (set_either es i n o None) [ inl e ↦ subst Fits (sym e) new | inr e ↦ subst Fits (sym e) old ]

shaped_entries : (es : List (Option Entry)) (k : Block) → length es ≡ length k.entries → ((i : ℕ) → Fits (get_or es i None)) → Shaped k → Shaped (with_entries es k)
shaped_entries es k long fits h =
    record {
      block = record { words = h.block.words; size = h.block.size; entries = long ∙ h.block.entries };
      marks = λ m e there. subst Fits there (fits (m - 2));
    }

shaped_mapped : (g : ℕ → Option Entry → Option Entry) → ((n : ℕ) (o : Option Entry) → Fits o → Fits (g n o)) → (k : Block) → Shaped k → Shaped (with_entries (map_from g 2 k.entries) k)
shaped_mapped g keeps k h = shaped_entries _ k (length_map_from g 2 k.entries) (λ i. fits_mapped g keeps 2 k.entries i (fits_at k h i)) h

pub shaped_coloured : (c : Colour) (k : Block) → Shaped k → Shaped (coloured c k)
shaped_coloured c k h = record { block = record { words = h.block.words; size = h.block.size; entries = h.block.entries }; marks = h.marks }

pub shaped_holds : (n : ℕ) (k : Block) → Shaped k → Shaped (with_holds n k)
shaped_holds n k h = record { block = record { words = h.block.words; size = h.block.size; entries = h.block.entries }; marks = h.marks }

pub shaped_word : (i : ℕ) (v : Word) (k : Block) → Shaped k → Shaped (with_word i v k)
shaped_word i v k h = record { block = record { words = length-set k.words i v ∙ h.block.words; size = h.block.size; entries = h.block.entries }; marks = h.marks }

fits_marked : (taken : ℕ → Bool) (o : Option Entry) → Fits o → Fits (marked_by taken o)
fits_marked taken None h = tt
fits_marked taken (Some e) h = length_map_from (λ l x. x || taken l) 2 e.marks ∙ h

pub shaped_marks : (taken : ℕ → ℕ → Bool) (k : Block) → Shaped k → Shaped (with_marks taken k)
shaped_marks taken k h = shaped_mapped (λ m o. marked_by (taken m) o) (λ m o. fits_marked (taken m) o) k h

fits_recovered : (at : ℕ → Bool) (m : ℕ) (o : Option Entry) → Fits o → Fits (recovered_entry at m o)
fits_recovered at m None h = tt
fits_recovered at m (Some e) h =
    cond_both (at m && not (mark_in (Some e) m)) None (Some (record { marks = map_from (λ l x. x && not (at l)) 2 e.marks })) Fits
    (λ _. tt) (λ _. length_map_from (λ l x. x && not (at l)) 2 e.marks ∙ h)

pub shaped_recovered : (at : ℕ → Bool) (k : Block) → Shaped k → Shaped (with_recovered at k)
shaped_recovered at k h = shaped_mapped (recovered_entry at) (fits_recovered at) k h

fits_entered : (o : Option Entry) → Fits o → Fits (entered o)
fits_entered None h = refl
fits_entered (Some e) h = h

pub shaped_entry : (m : ℕ) (k : Block) → Shaped k → Shaped (with_entry m k)
shaped_entry m k h =
    let o = entered (entry_at k m) in
    shaped_entries (set k.entries (m - 2) o) k (length-set k.entries (m - 2) o)
    (λ i. fits_set k.entries (m - 2) o (fits_entered (entry_at k m) (fits_at k h (m - 2))) i (fits_at k h i)) h

-- Memories

module _ (plan : Layout) where
  pub shaped_at : (s : Memory) → Shape plan s → (b : ℕ) → ShapedIn (block_at s b)
  shaped_at s shape b = shaped_in (block_at s b) (λ k there. record { block = shape.blocks b k there; marks = λ m e found. shape.marks b m k e there found })

  -- The lengths of a memory's tables, for one whose slots have blocks with tables of the right lengths.
  pub shape_from : (s t : Memory) → Shape plan s → length t.slots ≡ length s.slots → length t.registers ≡ length s.registers → length t.collectors ≡ length s.collectors → length t.phases ≡ length s.phases →
      ((b : ℕ) → ShapedIn (block_at t b)) → ((a : ℕ) → length (collector_at t a).levels ≡ 3) → Shape plan t
  shape_from s t shape slots registers collectors phases blocks levels =
      record {
        slots = slots ∙ shape.slots;
        registers = registers ∙ shape.registers;
        collectors = collectors ∙ shape.collectors;
        phases = phases ∙ shape.phases;
        blocks = λ b k there. (shaped b k there).block;
        marks = λ b m k e there found. (shaped b k there).marks m e found;
        statuses = levels;
        sending = levels;
      }
    where
      shaped : (b : ℕ) (k : Block) → block_at t b ≡ Some k → Shaped k
      shaped b k there = subst ShapedIn there (blocks b)

  -- A free chain stays where the links, its head and the free slots stay.
  pub chain_stays : (s t : Memory) (a : ℕ) → map (λ (x : Slot). x.next) t.slots ≡ map (λ (x : Slot). x.next) s.slots → (collector_at t a).free ≡ (collector_at s a).free →
      ((b : ℕ) → is_some (block_at t b) ≡ is_some (block_at s b)) → FreeChain plan s a → FreeChain plan t a
  chain_stays s t a links free used c =
      record {
        numbers = c.numbers;
        chain = subst (λ (ls : List ℕ). Chain ls (collector_at t a).free c.numbers) (sym links) (subst (λ (h : ℕ). Chain (map (λ (x : Slot). x.next) s.slots) h c.numbers) (sym free) c.chain);
        free = λ b there. ((c.free b there).0, used b ∙ (c.free b there).1);
        all = λ b inside none. c.all b inside (sym (used b) ∙ none);
      }

  pub used_numbered : (s : Memory) → Shape plan s → (b : ℕ) → 0 < b → is_some (block_at s b) ≡ true → numbered (slot_count plan) b ≡ true
  used_numbered s shape b pos used = elim (cases_lt (place b) (length s.slots)) [
    | inl l ↦ numbered_from (slot_count plan) b pos (omega (arith, l, shape.slots))
    | inr l ↦ absurd (true≢false (sym used ∙ ap (λ (x : Slot). is_some x.block) (get_or_past s.slots (place b) (free_slot 0) l)))
  ]

  -- From k to x: the lengths of the tables stay, and a pointer that is new names a slot.
  pub record KeepsTables (k x : Block) : Type 0 where
    pub shaped : Shaped k → Shaped x
    pub names : (i b : ℕ) → i < x.size → word_at x i ≡ Pointer b → (numbered (slot_count plan) b ≡ true) ⊎ ((i < k.size) × (word_at k i ≡ Pointer b))

  keeps_words : (k x : Block) → (Shaped k → Shaped x) → x.words ≡ k.words → x.size ≡ k.size → KeepsTables k x
  keeps_words k x shaped words size =
      record { shaped = shaped; names = λ i b inside e. inr (subst (λ n. i < n) size inside, subst (λ (ws : List Word). get_or ws i (Number 0) ≡ Pointer b) words e) }

  pub keeps_coloured : (c : Colour) (k : Block) → KeepsTables k (coloured c k)
  keeps_coloured c k = keeps_words k _ (shaped_coloured c k) refl refl

  pub keeps_marks : (taken : ℕ → ℕ → Bool) (k : Block) → KeepsTables k (with_marks taken k)
  keeps_marks taken k = keeps_words k _ (shaped_marks taken k) refl refl

  pub keeps_recovered : (at : ℕ → Bool) (k : Block) → KeepsTables k (with_recovered at k)
  keeps_recovered at k = keeps_words k _ (shaped_recovered at k) refl refl

  pub keeps_entry : (m : ℕ) (k : Block) → KeepsTables k (with_entry m k)
  keeps_entry m k = keeps_words k _ (shaped_entry m k) refl refl

  pub keeps_holds : (n : ℕ) (k : Block) → KeepsTables k (with_holds n k)
  keeps_holds n k = keeps_words k _ (shaped_holds n k) refl refl

  pub keeps_word : (i : ℕ) (v : Word) → ((b : ℕ) → v ≡ Pointer b → numbered (slot_count plan) b ≡ true) → (k : Block) → KeepsTables k (with_word i v k)
  keeps_word i v slot k =
      record {
        shaped = shaped_word i v k;
        names = λ j b inside e. elim (set_either k.words i j v (Number 0)) [ inl new ↦ inl (slot b (sym new ∙ e)) | inr old ↦ inr (inside, sym old ∙ e) ];
      }

  keeps_same : (k : Block) → KeepsTables k k
  keeps_same k = keeps_words k k (λ h. h) refl refl

  pub keeps_if : (t : Bool) (k x : Block) → KeepsTables k x → KeepsTables k (cond t x k)
  keeps_if true k x h = h
  keeps_if false k x h = keeps_same k

  pub keeps_unless : (t : Bool) (k x : Block) → KeepsTables k x → KeepsTables k (cond t k x)
  keeps_unless true k x h = keeps_same k
  keeps_unless false k x h = h

  -- A change of each block.
  pub sound_each : (f : ℕ → Block → Block) → ((n : ℕ) (k : Block) → KeepsTables k (f n k)) → (s : Memory) → Sound plan s → Sound plan (with_slots (each_block f s.slots) s)
  sound_each f keeps s sound =
      record {
        shape = shape_from s t sound.shape (length_map_from _ 1 s.slots) refl refl refl blocks sound.shape.statuses;
        chained = λ a low. chain_stays s t a (links_each f 1 s.slots) refl (used_each f s.slots) (sound.chained a low);
        rooted_slots = rooted;
        pointed_slots = pointed;
        sweeps_inside = sound.sweeps_inside;
        passes_inside = sound.passes_inside;
      }
    where
      t : Memory
      t = with_slots (each_block f s.slots) s

      changed : (n : ℕ) (o : Option Block) → ShapedIn o → ShapedIn (changed_block (f n) o)
      changed n None h = tt
      changed n (Some k) h = (keeps n k).shaped h

      blocks : (b : ℕ) → ShapedIn (block_in (each_block f s.slots) b)
      blocks b = subst ShapedIn (sym (block_each_any f s.slots b)) (changed (1 + place b) (block_at s b) (shaped_at s sound.shape b))

      rooted : (b : ℕ) → Root (with_slots (each_block f s.slots) s) b → numbered (slot_count plan) b ≡ true
      rooted b (from_register r ok e) = sound.rooted_slots b (from_register r ok e)
      rooted b (on_hold k pos e held) = used_numbered s sound.shape b pos (sym (used_each f s.slots b) ∙ ap is_some e)

      pointed : (p b : ℕ) → Points (with_slots (each_block f s.slots) s) p b → numbered (slot_count plan) b ≡ true
      pointed p b e =
          let (k, (was, is)) = changed_some (f (1 + place p)) (block_at s p) e.block (sym (block_each_any f s.slots p) ∙ e.there) in
          elim ((keeps (1 + place p) k).names e.word b (subst (λ (x : Block). e.word < x.size) (sym is) e.inside) (subst (λ (x : Block). word_at x e.word ≡ Pointer b) (sym is) e.pointer)) [
            | inl slot ↦ slot
            | inr old ↦ sound.pointed_slots p b (record { block = k; there = was; word = e.word; inside = old.0; pointer = old.1 })
          ]

  -- A change of each block of an area, and of one block.
  pub sound_area : (a : ℕ) (f : ℕ → Block → Block) → ((n : ℕ) (k : Block) → KeepsTables k (f n k)) → (s : Memory) → Sound plan s → Sound plan (on_area plan a f s)
  sound_area a f keeps s sound = sound_each (λ b k. cond (within plan a b) (f b k) k) (λ n k. keeps_if (within plan a n) k (f n k) (keeps n k)) s sound

  pub sound_on : (c : ℕ) (f : Block → Block) → ((k : Block) → KeepsTables k (f k)) → (s : Memory) → Sound plan s → Sound plan (on_block c f s)
  sound_on c f keeps s sound = sound_each (λ b k. cond (eqb b c) (f k) k) (λ n k. keeps_if (eqb n c) k (f k) (keeps k)) s sound

  -- A register becomes a word.
  pub sound_register : (p : ℕ) (v : Word) → ((b : ℕ) → v ≡ Pointer b → numbered (slot_count plan) b ≡ true) → (s : Memory) → Sound plan s → Sound plan (with_register p v s)
  sound_register p v slot s sound =
      record {
        shape = shape_from s t sound.shape refl (length-set s.registers p v) refl refl (shaped_at s sound.shape) sound.shape.statuses;
        chained = λ a low. chain_stays s t a refl refl (λ b. refl) (sound.chained a low);
        rooted_slots = rooted;
        pointed_slots = λ q b e. sound.pointed_slots q b (record { block = e.block; there = e.there; word = e.word; inside = e.inside; pointer = e.pointer });
        sweeps_inside = sound.sweeps_inside;
        passes_inside = sound.passes_inside;
      }
    where
      t : Memory
      t = with_register p v s

      rooted : (b : ℕ) → Root (with_register p v s) b → numbered (slot_count plan) b ≡ true
      rooted b (from_register r ok e) = elim (set_either s.registers p r v (Number 0)) [ inl new ↦ slot b (sym new ∙ e) | inr old ↦ sound.rooted_slots b (from_register r ok (sym old ∙ e)) ]
      rooted b (on_hold k pos e held) = sound.rooted_slots b (on_hold k pos e held)

  -- What a collector of lowest area a may be.
  pub record Fit (a : ℕ) (c : Collector) : Type 0 where
    pub levels : length c.levels ≡ 3
    pub sweeps : (k : ℕ) → c.stage ≡ Sweep k → first_in plan a ≤ k
    pub passes : (L : ℕ) → c.stage ≡ Pass L → (1 ≤ L) × (L ≤ top plan)

  pub fit_at : (s : Memory) → Sound plan s → (a : ℕ) → lowest plan a ≡ true → Fit a (collector_at s a)
  fit_at s sound a low = record { levels = sound.shape.statuses a; sweeps = λ k. sound.sweeps_inside a k low; passes = λ L. sound.passes_inside a L low }

  pub collector_there : (s : Memory) → Shape plan s → (a : ℕ) → lowest plan a ≡ true → (c : Collector) → collector_at (with_collector a c s) a ≡ c
  collector_there s shape a low c = collector_at_lem s a c (subst (λ n. numbered n a ≡ true) (sym shape.collectors) (low_numbered plan a low))

  pub collector_elsewhere : (s : Memory) (a : ℕ) → lowest plan a ≡ true → (c : Collector) (e : ℕ) → lowest plan e ≡ true → (e ≡ a → ⊥) → collector_at (with_collector a c s) e ≡ collector_at s e
  collector_elsewhere s a low c e lowe ne = collector_other s a e c (low_first plan a low) (low_first plan e lowe) ne

  -- a fit collector that is put leaves all collectors fit
  pub fit_put : (s : Memory) → Sound plan s → (a : ℕ) → lowest plan a ≡ true → (c : Collector) → Fit a c → (e : ℕ) → lowest plan e ≡ true → Fit e (collector_at (with_collector a c s) e)
  fit_put s sound a low c fit e lowe =
      by_area (λ x. Fit x (collector_at (with_collector a c s) x)) a e (subst (Fit a) (sym (collector_there s sound.shape a low c)) fit)
      (λ ne. subst (Fit e) (sym (collector_elsewhere s a low c e lowe ne)) (fit_at s sound e lowe))

  pub shape_put : (s : Memory) → Shape plan s → (a : ℕ) (c : Collector) → Fit a c → Shape plan (with_collector a c s)
  shape_put s shape a c fit =
      shape_from s _ shape refl refl (length-set s.collectors (place a) c) refl (shaped_at s shape)
      (collector_any (λ x. length x.levels ≡ 3) s a c fit.levels shape.statuses)

  -- Another collector for area a, with the same free chain.
  pub sound_collector : (a : ℕ) → lowest plan a ≡ true → (c : Collector) (s : Memory) → Sound plan s → c.free ≡ (collector_at s a).free → Fit a c → Sound plan (with_collector a c s)
  sound_collector a low c s sound free fit =
      record {
        shape = shape_put s sound.shape a c fit;
        chained = λ e lowe. chain_stays s t e refl
            (by_area (λ x. (collector_at t x).free ≡ (collector_at s x).free) a e (ap (λ x. x.free) (collector_there s sound.shape a low c) ∙ free) (λ ne. ap (λ x. x.free) (collector_elsewhere s a low c e lowe ne)))
            (λ b. refl) (sound.chained e lowe);
        rooted_slots = λ b r. sound.rooted_slots b (root_back s t graph b r);
        pointed_slots = λ p b e. sound.pointed_slots p b (points_back s t graph p b e);
        sweeps_inside = λ e k lowe at. (fit_put s sound a low c fit e lowe).sweeps k at;
        passes_inside = λ e L lowe at. (fit_put s sound a low c fit e lowe).passes L at;
      }
    where
      t : Memory
      t = with_collector a c s

      graph : SameGraph s (with_collector a c s)
      graph = graph_same s _ refl refl
