-- Holds on a block.
use Rattle.std.specs.Prelude.{ℕ, ◌+◌, ◌-◌, cond, Ok, Err, Result, ◌==◌}
use Rattle.state.specs.declared.block.Block.{Block}
use Rattle.state.specs.declared.block.Hold.{Hold}
use Rattle.state.specs.declared.refusal.Refusal.{Refusal}
use Rattle.state.specs.declared.refusal.Refusal.TheVariants.{TooManyHolds, NoHold}

-- The block with so many holds.
abbrev pub with_holds : ℕ → Block → Block
with_holds n k = record { size = k.size; words = k.words; colour = k.colour; entries = k.entries; holds = n }

-- One hold more, at most 255.
abbrev pub held_block : Block → Block
held_block k = cond (k.holds == 255) k (with_holds (k.holds + 1) k)

abbrev pub hold_on : Block → ℕ → Result Hold Refusal
hold_on k b = cond (k.holds == 255) (Err TooManyHolds) (Ok (record { block = b }))

-- One hold less.
abbrev pub unheld_block : Block → Block
unheld_block k = cond (k.holds == 0) k (with_holds (k.holds - 1) k)

abbrev pub given_back : Block → Hold → Result (Unit {0}) (Refusal × Hold)
given_back k h = cond (k.holds == 0) (Err (NoHold, h)) (Ok tt)
