-- The numbers of the memory's refusals.
use Rattle.std.specs.Prelude.{ℕ}
use Rattle.state.specs.declared.refusal.Refusal.{Refusal}
use Rattle.state.specs.declared.refusal.Refusal.TheVariants.{PostUnfit, Malformed, NoRegister, NotLowest, TooLarge, NoPointer, NoWord, NoSlot, TooManyHolds, NoHold}

abbrev pub refusal_number : Refusal → ℕ
refusal_number PostUnfit = 5
refusal_number Malformed = 6
refusal_number NoRegister = 7
refusal_number NotLowest = 8
refusal_number TooLarge = 9
refusal_number NoPointer = 10
refusal_number NoWord = 11
refusal_number NoSlot = 12
refusal_number TooManyHolds = 13
refusal_number NoHold = 14
