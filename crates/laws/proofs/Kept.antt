-- Every call keeps the invariant, so every past has it.
use Rattle.std.proofs.Common.{◌≡◌, ℕ, true, is_some, refl, ap}
use Rattle.state.specs.declared.collector.Stage.{Stage}
use Rattle.state.specs.declared.collector.Stage.TheVariants.{Resting, Pass, Sweep}
use Rattle.state.specs.Layout.{Layout, lowest}
use Rattle.state.specs.Lawful.{Lawful}
use Rattle.state.specs.Memory.{World}
use Rattle.state.specs.Turns.{turn_at, turned}
use Rattle.state.specs.Calls.{Call, answered, turns}
use Rattle.state.specs.Pasts.{Past, making, then}
use Rattle.laws.specs.Views.{stage}
use Rattle.laws.specs.Inductive.{Sound, Safe, Inductive}
use Rattle.laws.proofs.ByCall.{by_call}
use Rattle.laws.proofs.Readings.{number_keeps, copy_keeps, hold_keeps, return_keeps, read_keeps}
use Rattle.laws.proofs.Written.{write_keeps}
use Rattle.laws.proofs.Made.{make_keeps}
use Rattle.laws.proofs.StartKeeps.{start_keeps}
use Rattle.laws.proofs.PassKeeps.{pass_turn_keeps}
use Rattle.laws.proofs.SweepKeeps.{sweep_turn_keeps}
use Rattle.laws.proofs.SoundTurns.{sound_drained, sound_turned}
use Rattle.laws.proofs.SoundCalls.{sound_calls}
use Rattle.laws.proofs.Making.{fresh_invariant}
use Rattle.laws.proofs.Counting.{turn_or_refusal}

module _ (plan : Layout) (law : Lawful plan) where
  -- a turn, by the stage of its area
  turn_at_lem : (a : ℕ) → lowest plan a ≡ true → (w : World) → Sound plan w.memory → Safe plan w → (t : Stage) → stage w.memory a ≡ t → Safe plan (turn_at plan a t w)
  turn_at_lem a low w sound safe Resting at = start_keeps plan law a low w sound (sound_drained plan law a low w sound) safe at
  turn_at_lem a low w sound safe (Pass L) at = pass_turn_keeps plan law a low w sound safe L at
  turn_at_lem a low w sound safe (Sweep k) at = sweep_turn_keeps plan law a low w sound safe k at

  safe_turned : (a : ℕ) → lowest plan a ≡ true → (w : World) → Sound plan w.memory → Safe plan w → Safe plan (turned plan a w)
  safe_turned a low w sound safe = turn_at_lem a low w sound safe (stage w.memory a) refl

  safe_calls : (size : ℕ) (c : Call) (w : World) → Sound plan w.memory → Safe plan w → Safe plan (answered plan size c w).world
  safe_calls size c w sound safe =
      by_call plan w (Safe plan)
      (record {
        refused = safe;
        made = make_keeps plan law w sound safe;
        written = λ b i k v r there below roots. write_keeps plan law w sound safe b i v r (ap is_some there) roots;
        number = number_keeps plan law w sound safe;
        copied = copy_keeps plan law w sound safe;
        read = λ p b c r e. read_keeps plan law w sound safe b c r e p;
        on_hold = hold_keeps plan law w sound safe;
        returned = return_keeps plan law w sound safe;
        turn = λ a low. safe_turned a low w sound safe;
      })
      size c

  -- every call, refused ones too, keeps the invariant
  pub invariant_calls : (size : ℕ) (c : Call) (w : World) → Inductive plan w → Inductive plan (answered plan size c w).world
  invariant_calls size c w inv = record { sound = sound_calls plan law w inv.sound size c; safe = safe_calls size c w inv.sound inv.safe }

  -- so does a turn by itself
  pub invariant_turned : (a : ℕ) → lowest plan a ≡ true → (w : World) → Inductive plan w → Inductive plan (turned plan a w)
  invariant_turned a low w inv = record { sound = sound_turned plan law a low w inv.sound; safe = safe_turned a low w inv.sound inv.safe }

  -- and so does every call of a turn, refused or not
  pub invariant_turns : (a : ℕ) (w : World) → Inductive plan w → Inductive plan (turns plan a w).world
  invariant_turns a w inv = turn_or_refusal plan (Inductive plan) a w (λ low. invariant_turned a low w inv) inv

  -- every past has it
  pub invariant_past : (size : ℕ) (w : World) → Past plan size w → Inductive plan w
  invariant_past size v (making w marks v' is_made) = fresh_invariant plan law size w marks v is_made
  invariant_past size v (then {w} past c) = invariant_calls size c w (invariant_past size w past)
