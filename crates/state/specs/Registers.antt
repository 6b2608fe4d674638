-- The sixteen registers.
use Rattle.std.specs.Prelude.{ℕ, Bool, cond, ◌&&◌, List, replicate, Ok, Err, Result, nat_lt, slice_index_or, slice_set}
use Rattle.state.specs.declared.word.Word.{Word}
use Rattle.state.specs.declared.word.Word.TheVariants.{Number}
use Rattle.state.specs.declared.refusal.Refusal.{Refusal}
use Rattle.state.specs.declared.refusal.Refusal.TheVariants.{NoRegister}

-- p is the number of a register.
abbrev pub is_register : ℕ → Bool
is_register p = nat_lt p 16

abbrev pub zero_registers : List Word
zero_registers = replicate 16 (Number 0)

-- What register p holds.
abbrev pub held : List Word → ℕ → Word
held registers p = slice_index_or registers p (Number 0)

-- Where register p stands: at its number.
abbrev pub register_index : ℕ → Result ℕ Refusal
register_index p = cond (is_register p) (Ok p) (Err NoRegister)

abbrev pub register_at : List Word → ℕ → Result Word Refusal
register_at registers p = cond (is_register p) (Ok (held registers p)) (Err NoRegister)

-- Register p becomes a word.
abbrev pub after_set : List Word → ℕ → Word → List Word
after_set registers p w = cond (is_register p) (slice_set registers p w) registers

abbrev pub set_answer : ℕ → Result (Unit {0}) Refusal
set_answer p = cond (is_register p) (Ok tt) (Err NoRegister)

-- Register p becomes what register q holds.
abbrev pub after_copy : List Word → ℕ → ℕ → List Word
after_copy registers p q = cond (is_register p && is_register q) (slice_set registers p (held registers q)) registers

abbrev pub copy_answer : ℕ → ℕ → Result (Unit {0}) Refusal
copy_answer p q = cond (is_register p && is_register q) (Ok tt) (Err NoRegister)
