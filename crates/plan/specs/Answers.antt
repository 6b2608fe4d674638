-- What a call that wants memory may answer.
use Rattle.std.specs.Prelude.{◌≡◌, Ok, Err, Result, OnSome}
use Rattle.plan.specs.declared.refusal.Refusal.{Refusal}
use Rattle.plan.specs.Refusals.{refusal_number}

-- The answer r, seen by `view`, is `due`, unless it is the refusal for want of memory, which has no number.
abbrev pub Answers : {X Y : Type 0} → (X → Y) → Result Y Refusal → Result X Refusal → Type 0
Answers view due (Ok x) = due ≡ Ok (view x)
Answers view due (Err e) = OnSome (refusal_number e) (due ≡ Err e)
