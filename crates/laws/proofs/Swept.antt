-- What the sweep of one slot leaves in each slot; so it makes no block, entry, mark, root or pointer.
use Rattle.std.proofs.Common.{◌≡◌, ℕ, zero, suc, ◌≤◌, Bool, true, false, ◌⊎◌, is_some, Some, None, Option, sym, refl, ap, ◌∙◌, subst, inl, inr, arith}
use Rattle.std.proofs.lemmas.Bool.{cases_Bool, cases_eq, false≢true}
use Rattle.state.specs.declared.block.Block.{Block}
use Rattle.state.specs.declared.block.Colour.TheVariants.{White}
use Rattle.state.specs.Blocks.{coloured}
use Rattle.state.specs.Layout.{Layout, lowest}
use Rattle.state.specs.Lawful.{Lawful}
use Rattle.state.specs.Memory.{Memory, block_at}
use Rattle.state.specs.Pasts.{Points}
use Rattle.laws.specs.Roots.{Root, Reach, root, step}
use Rattle.laws.specs.Views.{white, entry, mark, entry_in, mark_in}
use Rattle.laws.proofs.Graphs.{Alike, alike_refl, points_alike, root_alike}
use Rattle.laws.proofs.Parts.{Sweeps}

-- What the sweep of slot k leaves in slot b.
pub data SweptTo (k : ℕ) (s t : Memory) (b : ℕ) : Type 0 where
  elsewhere : (b ≡ k → ⊥) → block_at t b ≡ block_at s b → SweptTo k s t b
  gone : b ≡ k → block_at t b ≡ None → SweptTo k s t b
  whitened : b ≡ k → (x : Block) → block_at s b ≡ Some x → block_at t b ≡ Some (coloured White x) → SweptTo k s t b

-- What a slot has, it keeps but for the colour.
pub record Stays (o p : Option Block) : Type 0 where
  pub alike : Alike o p
  pub used_same : is_some p ≡ is_some o
  pub entry_same : (m : ℕ) → entry_in p m ≡ entry_in o m
  pub mark_same : (m l : ℕ) → mark_in p m l ≡ mark_in o m l

stays_same : (o : Option Block) → Stays o o
stays_same o = record { alike = alike_refl o; used_same = refl; entry_same = λ m. refl; mark_same = λ m l. refl }

stays_whitened : (x : Block) → Stays (Some x) (Some (coloured White x))
stays_whitened x = record { alike = record { words = refl; size = refl; holds = refl }; used_same = refl; entry_same = λ m. refl; mark_same = λ m l. refl }

module _ (plan : Layout) (law : Lawful plan) (a : ℕ) (low : lowest plan a ≡ true) (s t : Memory) (k : ℕ) (sw : Sweeps plan law a low k s t) where
  here : (o : Option Block) → block_at s k ≡ o → SweptTo k s t k
  here None was = gone refl (sw.free was)
  here (Some y) was =
      elim (cases_Bool (white s k)) [
        | inl pale ↦ gone refl (sw.freed pale)
        | inr dark ↦ whitened refl y was (sw.whitened y was dark)
      ]

  pub swept_to : (b : ℕ) → 1 ≤ b → SweptTo k s t b
  swept_to b one =
      elim (cases_eq b k) [
        | inl e ↦ subst (SweptTo k s t) (sym e) (here (block_at s k) refl)
        | inr ne ↦ elsewhere ne (sw.others b one ne)
      ]

  -- a block that is not white where the sweep stands stays
  pub dark_stays : (b : ℕ) → 1 ≤ b → (b ≡ k → white s b ≡ false) → Stays (block_at s b) (block_at t b)
  dark_stays b one dark =
      elim (cases_eq b k) [
        | inl e ↦ subst (λ c. Stays (block_at s c) (block_at t c)) (sym e) (of (block_at s k) refl (subst (λ c. white s c ≡ false) e (dark e)))
        | inr ne ↦ rw (sw.others b one ne) (stays_same (block_at s b))
      ]
    where
      of : (o : Option Block) → block_at s k ≡ o → white s k ≡ false → Stays (block_at s k) (block_at t k)
      of None e dark = rw (e, sw.free e) (stays_same None)
      of (Some x) e dark = rw (e, sw.whitened x e dark) (stays_whitened x)

  -- a slot becomes free, or its block stays; at any number, as slot 0 reads as slot 1
  free_or_stays : (b : ℕ) → SweptTo k s t b → (block_at t b ≡ None) ⊎ Stays (block_at s b) (block_at t b)
  free_or_stays b (elsewhere ne same) = inr (rw same (stays_same (block_at s b)))
  free_or_stays b (gone e none) = inl none
  free_or_stays b (whitened e x was is) = inr (rw (was, is) (stays_whitened x))

  slot : (b : ℕ) → (block_at t b ≡ None) ⊎ Stays (block_at s b) (block_at t b)
  slot zero = free_or_stays 1 (swept_to 1 (omega arith))
  slot (suc b) = free_or_stays (suc b) (swept_to (suc b) (omega arith))

  -- what is true of a slot and not of a free one was true of it
  pub swept_view : (view : Option Block → Bool) → view None ≡ false → ((o p : Option Block) → Stays o p → view p ≡ view o) → (b : ℕ) → view (block_at t b) ≡ true → view (block_at s b) ≡ true
  swept_view view none same b h =
      elim (slot b) [
        | inl free ↦ absurd (false≢true (sym (ap view free ∙ none) ∙ h))
        | inr stays ↦ sym (same (block_at s b) (block_at t b) stays) ∙ h
      ]

  pub swept_used : (b : ℕ) → is_some (block_at t b) ≡ true → is_some (block_at s b) ≡ true
  swept_used = swept_view is_some refl (λ o p stays. stays.used_same)

  pub swept_entry : (b m : ℕ) → entry t b m ≡ true → entry s b m ≡ true
  swept_entry b m = swept_view (λ o. entry_in o m) refl (λ o p stays. stays.entry_same m) b

  pub swept_mark : (b m l : ℕ) → mark t b m l ≡ true → mark s b m l ≡ true
  swept_mark b m l = swept_view (λ o. mark_in o m l) refl (λ o p stays. stays.mark_same m l) b

  alike_before : (b : ℕ) → is_some (block_at t b) ≡ true → Alike (block_at s b) (block_at t b)
  alike_before b used =
      elim (slot b) [
        | inl free ↦ absurd (false≢true (sym (ap is_some free) ∙ used))
        | inr stays ↦ stays.alike
      ]

  pub swept_points : (p b : ℕ) → Points t p b → Points s p b
  swept_points p b = points_alike s t p b (alike_before p)

  pub swept_root : (b : ℕ) → Root t b → Root s b
  swept_root b = root_alike s t sw.registers b (λ _. alike_before b)

  pub swept_reach : (b : ℕ) → Reach t b → Reach s b
  swept_reach b (root r) = root (swept_root b r)
  swept_reach b (step {p} r q) = step (swept_reach p r) (swept_points p b q)
