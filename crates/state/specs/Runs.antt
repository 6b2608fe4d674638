-- A run over bytes, and the figures of the listing.
use Rattle.std.specs.Prelude.{ℕ, zero, suc, ◌+◌, ◌-◌, ◌/◌, cond, ◌&&◌, List, [], ◌∷◌, map, length, take, drop, is_some, is_ok, Ok, Err, Result, nat_le}
use Rattle.std.specs.List.{range_with_len}
use Rattle.listing.specs.declared.Row.{Row}
use Rattle.plan.specs.Walk.{area_at}
use Rattle.state.specs.declared.slot.Slot.{Slot}
use Rattle.state.specs.declared.refusal.Refusal.{Refusal}
use Rattle.state.specs.declared.refusal.Refusal.TheVariants.{PostUnfit}
use Rattle.state.specs.Layout.{Layout, slot_count, within, area_size}
use Rattle.state.specs.Memory.{Memory, World}
use Rattle.state.specs.Messages.{decoded}
use Rattle.state.specs.Calls.{Outcome, message_answered}

-- The world after a run so far, and how many messages were accepted and refused.
pub record Tally : Type 0 where
  pub world : World
  pub accepted : ℕ
  pub refused : ℕ

abbrev pub counted : Outcome → Tally → Tally
counted o t = record { world = o.world; accepted = cond (is_ok o.answer) (t.accepted + 1) t.accepted; refused = cond (is_ok o.answer) t.refused (t.refused + 1) }

-- The next n messages out of the bytes, eight bytes each; a last part of fewer is one message more, which is refused.
abbrev pub messages_run : Layout → ℕ → List ℕ → Tally → Tally
messages_run plan zero bytes t = t
messages_run plan (suc n) bytes t = messages_run plan n (drop 8 bytes) (counted (message_answered plan (decoded (take 8 bytes)) t.world) t)

-- A run: one message after another, on after a refusal. Where the post is too small the whole run is refused.
abbrev pub runs : Layout → ℕ → List ℕ → World → Result Tally Refusal
runs plan size bytes w =
    cond (nat_le (slot_count plan) size) (Ok (messages_run plan ((length bytes + 7) / 8) bytes (record { world = w; accepted = 0; refused = 0 }))) (Err PostUnfit)

-- The listing

abbrev pub used_from : Layout → ℕ → ℕ → List Slot → ℕ
used_from plan x b [] = 0
used_from plan x b (s ∷ ss) = cond (within plan x b && is_some s.block) 1 0 + used_from plan x (b + 1) ss

-- How many slots of area x have a block.
abbrev pub used : Layout → Memory → ℕ → ℕ
used plan s x = used_from plan x 1 s.slots

-- The row of an area, and all rows in the order of the records.
abbrev pub row_of : Layout → Memory → ℕ → Row
row_of plan s x = record { area = x; level = (area_at plan.areas x).level; used = used plan s x; free = area_size plan x - used plan s x }

abbrev pub rows_of : Layout → Memory → List Row
rows_of plan s = map (row_of plan s) (range_with_len 1 (length plan.areas))
