-- With less than their figures and premises the guarantees are false.
use Rattle.std.specs.Prelude.{◌≡◌, ℕ, ◌+◌, ◌*◌, true}
use Rattle.state.specs.declared.word.Word.TheVariants.{Pointer}
use Rattle.state.specs.Registers.{is_register, held}
use Rattle.state.specs.Memory.{Memory}
use Rattle.state.specs.Pasts.{Points, Reach}
use Rattle.laws.specs.Promises.{TurnsAloneRecoverAllBut, RoundsEndWithin, MarkingsEndWithin, RecoveriesEndWithin}

-- Reachable from registers alone: holds are left out.
pub data FromRegisters (s : Memory) : ℕ → Type 0 where
  register : {b : ℕ} (r : ℕ) → is_register r ≡ true → held s.registers r ≡ Pointer b → FromRegisters s b
  onward : {p b : ℕ} → FromRegisters s p → Points s p b → FromRegisters s b

-- Two recoveries of each area may leave garbage.
abbrev pub TwoRecoveriesAreTooFew : Type 0
TwoRecoveriesAreTooFew = TurnsAloneRecoverAllBut Reach 2 2 → ⊥

-- If only registers made blocks reachable, the recovery of all other blocks would be false: a block with a hold stays.
abbrev pub HoldsKeepBlocks : Type 0
HoldsKeepBlocks = TurnsAloneRecoverAllBut FromRegisters 3 2 → ⊥

-- A round may take all of its turns.
abbrev pub ATurnLessIsTooFew : Type 0
ATurnLessIsTooFew = RoundsEndWithin (λ slots top. 2 * slots + top + 1) → ⊥

-- A recovery takes a lap, and one lap may not suffice for a marking.
abbrev pub NoLapIsTooFew : Type 0
NoLapIsTooFew = RecoveriesEndWithin 0 → ⊥

abbrev pub OneLapIsTooFew : Type 0
OneLapIsTooFew = MarkingsEndWithin (λ slots level. 1) → ⊥
