-- Roots and reachable blocks, where a hold makes a root of a slot by its own number only.
use Rattle.std.specs.Prelude.{◌≡◌, ℕ, ◌<◌, true, Some}
use Rattle.state.specs.declared.word.Word.TheVariants.{Pointer}
use Rattle.state.specs.declared.block.Block.{Block}
use Rattle.state.specs.Registers.{is_register, held}
use Rattle.state.specs.Memory.{Memory, block_at}
use Rattle.state.specs.Pasts.{Points}

-- A register points to block b, or b has a hold. Tables are read at the place one below a number, so number 0 would read as slot 1.
pub data Root (s : Memory) : ℕ → Type 0 where
  from_register : {b : ℕ} (r : ℕ) → is_register r ≡ true → held s.registers r ≡ Pointer b → Root s b
  on_hold : {b : ℕ} (k : Block) → 0 < b → block_at s b ≡ Some k → 0 < k.holds → Root s b

-- Reachable are the blocks in registers, blocks with a hold, and all that pointer words lead to from these.
pub data Reach (s : Memory) : ℕ → Type 0 where
  root : {b : ℕ} → Root s b → Reach s b
  step : {p b : ℕ} → Reach s p → Points s p b → Reach s b
