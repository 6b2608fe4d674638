-- Only the sweep of a white block takes a block out of its slot.
use Rattle.std.proofs.Common.{◌≡◌, ℕ, ◌-◌, ◌≤◌, true, false, ltb, leb, ◌⊎◌, set, is_some, Some, None, Option, sym, refl, ap, ◌∙◌, subst, inl, inr, ⊎_elim, arith}
use Rattle.std.proofs.lemmas.Bool.{cond_both, cases_eq, leb-true, le-leb, and_from, false≢true}
use Rattle.chain.specs.Chain.{place}
use Rattle.state.specs.declared.word.Word.{Word}
use Rattle.state.specs.declared.word.Word.TheVariants.{Number, Pointer}
use Rattle.state.specs.declared.block.Block.{Block}
use Rattle.state.specs.declared.block.Colour.TheVariants.{White}
use Rattle.state.specs.declared.collector.Stage.{Stage}
use Rattle.state.specs.declared.collector.Stage.TheVariants.{Resting, Pass, Sweep}
use Rattle.state.specs.Layout.{Layout, lowest, first_in, last_of, level_of, within}
use Rattle.state.specs.Blocks.{new_block, coloured, is_white, shade, with_word, with_entry}
use Rattle.state.specs.Holds.{held_block, unheld_block}
use Rattle.state.specs.Memory.{Memory, World, block_at, link_at, collector_at, with_registers, on_block}
use Rattle.state.specs.Turns.{on_memory, lowest_grey, scanned_at, pass_turn, slot_swept, swept_on, turn_at}
use Rattle.state.specs.Calls
use Rattle.state.specs.Calls.{Call, answered}
use Rattle.state.specs.Pasts.{Recovers}
use Rattle.laws.specs.Views.{white, white_in, stage}
use Rattle.laws.proofs.ByCall.{by_call}
use Rattle.laws.proofs.Used.{used, used_on, used_set, used_filled, used_started, used_begun, used_scanned, used_ended}

-- Block b lies where a lowest area's sweep stands, and is white.
pub record SweptWhite (plan : Layout) (s : Memory) (b : ℕ) : Type 0 where
  pub area : ℕ
  pub low : lowest plan area ≡ true
  pub at : ℕ
  pub sweeps : stage s area ≡ Sweep at
  pub here : place b ≡ place at
  pub inside : at ≤ last_of plan area
  pub white_there : white s at ≡ true

-- Slot b keeps its block from w to v, or it is swept.
abbrev pub Keeps : Layout → World → ℕ → World → Type 0
Keeps plan w b v = (used v.memory b ≡ true) ⊎ SweptWhite plan w.memory b

module _ (plan : Layout) (w : World) (b : ℕ) (u : used w.memory b ≡ true) where
  swept_slot : (a k : ℕ) → lowest plan a ≡ true → stage w.memory a ≡ Sweep k → k ≤ last_of plan a → (o : Option Block) → block_at w.memory k ≡ o →
      Keeps plan w b (on_memory (λ s. swept_on a k (slot_swept a k o s)) w)
  swept_slot a k low e l None n = inl u
  swept_slot a k low e l (Some x) n =
      cond_both (is_white x.colour) _ _ (λ (s : Memory). Keeps plan w b (on_memory (λ _. swept_on a k s) w))
      (λ (t : is_white x.colour ≡ true).
      ⊎_elim
      (λ (p : place b ≡ place k). inr (record { area = a; low = low; at = k; sweeps = e; here = p; inside = l; white_there = ap white_in n ∙ t }))
      (λ (ne : place b ≡ place k → ⊥). inl (used_set w.memory.slots k b _ ne ∙ u))
      (cases_eq (place b) (place k)))
      (λ _. inl (used_on k (coloured White) w.memory b ∙ u))

  scanned_slot : (a L c : ℕ) (o : Option Block) → Keeps plan w b (scanned_at plan a L c o w)
  scanned_slot a L c None = inl u
  scanned_slot a L c (Some x) = inl (used_scanned plan a L c x w b ∙ u)

  pass_turn_lem : (a L : ℕ) (o : Option ℕ) → Keeps plan w b (pass_turn plan a L o w)
  pass_turn_lem a L (Some c) = scanned_slot a L c (block_at w.memory c)
  pass_turn_lem a L None =
      cond_both (ltb 1 L) _ _ (λ (s : Memory). Keeps plan w b (on_memory (λ _. s) w)) (λ _. inl (used_begun plan a (L - 1) w.memory b ∙ u)) (λ _. inl u)

  turn_at_lem : (a : ℕ) → lowest plan a ≡ true → (t : Stage) → stage w.memory a ≡ t → Keeps plan w b (turn_at plan a t w)
  turn_at_lem a low Resting e = inl (used_started plan a w b ∙ u)
  turn_at_lem a low (Pass L) e = pass_turn_lem a L (lowest_grey plan a 1 w.memory.slots)
  turn_at_lem a low (Sweep k) e =
      cond_both (leb k (last_of plan a)) _ _ (Keeps plan w b)
      (λ l. swept_slot a k low e (leb-true _ _ l) (block_at w.memory k) refl)
      (λ _. inl (used_ended plan a w b ∙ u))

  written : (p i : ℕ) (v : Word) → Keeps plan w b (Calls.word_written plan p i v w)
  written p i (Number n) = inl (used_on p (with_word i (Number n)) w.memory b ∙ u)
  written p i (Pointer c) =
      let s = on_block p (with_word i (Pointer c)) w.memory in
      cond_both (leb 2 (level_of plan p c)) _ _ (Keeps plan w b)
      (λ _. inl (used_on c (with_entry (level_of plan p c)) s b ∙ used_on p (with_word i (Pointer c)) w.memory b ∙ u))
      (λ _. inl (used_on p (with_word i (Pointer c)) w.memory b ∙ u))

  read : (q p : ℕ) (v : Word) → Keeps plan w b (Calls.word_read plan q p v w)
  read q p (Number n) = inl u
  read q p (Pointer c) =
      let shaded = used_on c shade (with_registers (set w.memory.registers p (Pointer c)) w.memory) b in
      cond_both (leb 2 (level_of plan q c)) _ _ (Keeps plan w b) (λ _. inl (shaded ∙ u)) (λ _. inl (shaded ∙ u))

  -- every call keeps the block of a slot, but for the sweep of a white one
  pub kept_or_swept : (size : ℕ) (c : Call) → Keeps plan w b (answered plan size c w).world
  kept_or_swept size c =
      by_call plan w (Keeps plan w b)
      (record {
        refused = inl u;
        made = λ p q n _ _ _ _. inl (used_filled w.memory.slots (collector_at w.memory q).free b (new_block n) (link_at w.memory (collector_at w.memory q).free) u);
        written = λ p i k v _ _ _ _. written p i v;
        number = λ p n. inl u;
        copied = λ p q _. inl u;
        read = λ p q c _ _. read q p (Pointer c);
        on_hold = λ c _. inl (used_on c held_block w.memory b ∙ u);
        returned = λ c. inl (used_on c unheld_block w.memory b ∙ u);
        turn = λ a low. turn_at_lem a low (stage w.memory a) refl;
      })
      size c

-- a block that is not white where a sweep can come to it stands
pub grey_stands : (plan : Layout) (size : ℕ) (w : World) (b : ℕ) → 1 ≤ b →
    ((a k : ℕ) → lowest plan a ≡ true → stage w.memory a ≡ Sweep k → first_in plan a ≤ k) →
    ((a k : ℕ) → lowest plan a ≡ true → stage w.memory a ≡ Sweep k → within plan a b ≡ true → k ≤ b → white w.memory b ≡ false) →
    (c : Call) → Recovers w.memory (answered plan size c w).world.memory b → ⊥
grey_stands plan size w b low first grey c (was, gone) =
    ⊎_elim
    (λ (u : used (answered plan size c w).world.memory b ≡ true). false≢true (ap is_some (sym gone) ∙ u))
    (λ (sw : SweptWhite plan w.memory b).
    let from = first sw.area sw.at sw.low sw.sweeps in
    let same : b ≡ sw.at = omega (arith, sw.here, low, from) in
    let here : within plan sw.area b ≡ true = and_from _ _ (le-leb _ _ (subst (λ k. first_in plan sw.area ≤ k) (sym same) from)) (le-leb _ _ (subst (λ k. k ≤ last_of plan sw.area) (sym same) sw.inside)) in
    false≢true (sym (grey sw.area sw.at sw.low sw.sweeps here (omega (arith, same))) ∙ ap (white w.memory) same ∙ sw.white_there))
    (kept_or_swept plan w b (ap is_some was.1) size c)
