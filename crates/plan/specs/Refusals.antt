-- The numbers of a plan's refusals, and the records that they name.
use Rattle.std.specs.Prelude.{ℕ, Some, None, Option}
use Rattle.plan.specs.declared.refusal.Refusal.{Refusal}
use Rattle.plan.specs.declared.refusal.Refusal.TheVariants.{Length, Record, NotATree, Slots, TooManySlots, NoMemory}

abbrev pub refusal_number : Refusal → Option ℕ
refusal_number Length = Some 1
refusal_number (Record i) = Some 2
refusal_number NotATree = Some 3
refusal_number (Slots i) = Some 4
refusal_number TooManySlots = Some 4
refusal_number NoMemory = None

abbrev pub refusal_record : Refusal → Option ℕ
refusal_record Length = None
refusal_record (Record i) = Some i
refusal_record NotATree = None
refusal_record (Slots i) = Some i
refusal_record TooManySlots = None
refusal_record NoMemory = None
