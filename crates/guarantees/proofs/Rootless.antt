-- Where all registers hold numbers, and no block has a hold, nothing is reachable.
use Rattle.std.proofs.Common.{◌≡◌, ℕ, zero, suc, ◌<◌, Bool, true, false, eqb, List, [], ◌∷◌, get_or, Some, refl, subst, arith}
use Rattle.std.proofs.lemmas.Bool.{and_parts, eqb-true, false≢true}
use Rattle.chain.specs.Chain.{place}
use Rattle.plan.specs.Tree.{every}
use Rattle.state.specs.declared.word.Word.{Word}
use Rattle.state.specs.declared.word.Word.TheVariants.{Number, Pointer}
use Rattle.state.specs.declared.block.Block.{Block}
use Rattle.state.specs.declared.slot.Slot.{Slot}
use Rattle.state.specs.Calls.{holds_at}
use Rattle.state.specs.Registers.{held}
use Rattle.state.specs.Memory.{Memory, free_slot, block_at}
use Rattle.state.specs.Pasts.{Root, from_register, on_hold, Reach, root, step}
use Rattle.guarantees.specs.Needed.{FromRegisters, register, onward}

abbrev pub is_number : Word → Bool
is_number (Number n) = true
is_number (Pointer b) = false

abbrev pub unheld : Slot → Bool
unheld s = eqb (holds_at s.block) 0

every_at : {X : Type 0} (ok : X → Bool) (xs : List X) (d : X) → ok d ≡ true → every ok xs ≡ true → (n : ℕ) → ok (get_or xs n d) ≡ true
every_at ok [] d e h n = e
every_at ok (x ∷ xs) d e h zero = (and_parts (ok x) (every ok xs) h).0
every_at ok (x ∷ xs) d e h (suc n) = every_at ok xs d e (and_parts (ok x) (every ok xs) h).1 n

module _ (s : Memory) (numbers : every is_number s.registers ≡ true) where
  no_pointer : (r b : ℕ) → held s.registers r ≡ Pointer b → ⊥
  no_pointer r b e = false≢true (subst (λ v. is_number v ≡ true) e (every_at is_number s.registers (Number 0) refl numbers r))

  pub none_from_registers : {b : ℕ} → FromRegisters s b → ⊥
  none_from_registers (register {b = b} r is e) = no_pointer r b e
  none_from_registers (onward before points) = none_from_registers before

  module _ (free : every unheld s.slots ≡ true) where
    no_hold : (b : ℕ) (k : Block) → block_at s b ≡ Some k → 0 < k.holds → ⊥
    no_hold b k e l =
        let z : k.holds ≡ 0 = eqb-true k.holds 0 (subst (λ o. eqb (holds_at o) 0 ≡ true) e (every_at unheld s.slots (free_slot 0) refl free (place b))) in
        omega arith

    none_root : {b : ℕ} → Root s b → ⊥
    none_root (from_register {b = b} r is e) = no_pointer r b e
    none_root (on_hold {b = b} k e h) = no_hold b k e h

    pub none_reached : {b : ℕ} → Reach s b → ⊥
    none_reached (root r) = none_root r
    none_reached (step before points) = none_reached before
