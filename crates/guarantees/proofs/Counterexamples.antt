-- Less than the figures and premises of the guarantees does not suffice: pasts on the small plan, computed with the rules.
use Rattle.std.proofs.Common.{◌≡◌, ℕ, zero, suc, ◌+◌, ◌*◌, ◌≤◌, true, false, List, [], ◌∷◌, ◌++◌, map, replicate, is_some, sym, refl, subst, arith}
use Rattle.std.proofs.lemmas.Bool.{false≢true}
use Rattle.plan.specs.Tree.{every}
use Rattle.state.specs.Calls.{Call, hold}
use Rattle.state.specs.Layout.{top, area_size}
use Rattle.state.specs.Memory.{Memory, World, block_at}
use Rattle.state.specs.Pasts.{Reach, round_ends, marking_ends, recovery_ends, times, turns_of, turns_done, marking, round_within, lap, no_lap}
use Rattle.laws.specs.Promises.{Downward, TurnsAloneRecoverAllBut, level_part, down_to_one}
use Rattle.state.specs.Scenarios.{make, write, zero_register, read, turn}
use Rattle.guarantees.specs.Needed.{FromRegisters, ATurnLessIsTooFew, NoLapIsTooFew, OneLapIsTooFew, HoldsKeepBlocks, TwoRecoveriesAreTooFew}
use Rattle.guarantees.proofs.Rootless.{is_number, unheld, none_from_registers, none_reached}
use Rattle.guarantees.proofs.Laps.{lap_by_last}
use Rattle.guarantees.proofs.Small.{areas, small, computing, small_is_plan, small_top, lowest_two, lowest_three, top_numbered, top_high, slot_one, start, called, past_of, by_lowest, by_top}

-- Where the only slot of area 2 has a block in a register a round of area 2 takes six turns: its start, a scan, the ends of two passes,
-- a slot swept, its end.

kept : List Call
kept = make 0 2 0 ∷ []

five : List ℕ
five = replicate 5 2

five_turns : 2 * area_size small 2 + top small + 1 ≤ turns_of 2 five
unfolding computing five
five_turns = omega arith

five_end_no_round : times small (round_ends 2) five (called kept start) ≡ 0
unfolding computing five kept
five_end_no_round = refl

pub a_turn_less_is_too_few : ATurnLessIsTooFew
a_turn_less_is_too_few claim = omega (arith, five_end_no_round, claim areas small_is_plan 2 (called kept start) (past_of kept) 2 lowest_two five five_turns)

-- Blocks 1 and 2 point to each other across areas 2 and 3. A round of each area, of six turns, and area 1 recovers; one more of each, and
-- it marks again.

abbrev six : ℕ → List ℕ
six a = replicate 6 a

recovering : List Call
recovering = make 0 2 1 ∷ make 1 3 1 ∷ write 0 0 1 ∷ write 1 0 0 ∷ map turn (six 2 ++ six 3)

top_recovers : marking (called recovering start) 1 ≡ false
unfolding computing recovering
top_recovers = refl

pub no_lap_is_too_few : NoLapIsTooFew
no_lap_is_too_few claim =
    omega (arith, claim areas small_is_plan 2 (called recovering start) (past_of recovering) 1 top_numbered top_high top_recovers [] no_lap)

-- A recovery has cleared both marks, and area 1 marks. In a lap that begins with a whole round of area 2 it is area 3 that scans block 2 and
-- sends the mark of block 1, and as its round ends that mark waits.

marking_again : List Call
marking_again = recovering ++ map turn (six 2 ++ six 3)

but_last : List ℕ
but_last = six 2 ++ replicate 5 3

abbrev again : World
again = called marking_again start

marks_again : marking again 1 ≡ true
unfolding computing recovering marking_again
marks_again = refl

two_round : round_within small 2 (but_last ++ (3 ∷ [])) again ≡ true
unfolding computing recovering marking_again but_last
two_round = refl

three_round : round_within small 3 (but_last ++ (3 ∷ [])) again ≡ true
unfolding computing recovering marking_again but_last
three_round = refl

three_not_before : round_within small 3 but_last again ≡ false
unfolding computing recovering marking_again but_last
three_not_before = refl

lap_ends_no_marking : times small (marking_ends 1) ((but_last ++ (3 ∷ [])) ++ []) again ≡ 0
unfolding computing recovering marking_again but_last
lap_ends_no_marking = refl

pub one_lap_is_too_few : OneLapIsTooFew
one_lap_is_too_few claim =
    let full = by_lowest (λ a. round_within small a (but_last ++ (3 ∷ [])) again ≡ true) two_round three_round in
    let one = lap (but_last ++ (3 ∷ [])) {others = []} (lap_by_last small 3 but_last 3 again lowest_three three_not_before full) no_lap in
    omega (arith, lap_ends_no_marking, claim areas small_is_plan 2 again (past_of marking_again) 1 top_numbered top_high marks_again _ one)

-- Turns alone after which slot 1 still has a block

-- In the first part area 1 ends so many recoveries, in the last part each lowest area ends two rounds, and slot 1 is used after both.
record StillUsed (recoveries : ℕ) (calls : List Call) (part last : List ℕ) : Type 0 where
  recovered : times small (recovery_ends 1) part (called calls start) ≡ recoveries
  two : times small (round_ends 2) last (turns_done small part (called calls start)) ≡ 2
  three : times small (round_ends 3) last (turns_done small part (called calls start)) ≡ 2
  used : is_some (block_at (turns_done small last (turns_done small part (called calls start))).memory 1) ≡ true

not_recovered : (P : Memory → ℕ → Type 0) (recoveries : ℕ) (calls : List Call) (part last : List ℕ) →
    StillUsed recoveries calls part last → (P (called calls start).memory 1 → ⊥) → TurnsAloneRecoverAllBut P recoveries 2 → ⊥
not_recovered P recoveries calls part last run apart claim =
    let w = called calls start in
    let v = turns_done small part w in
    let recovered = by_top (λ x. recoveries ≤ times small (recovery_ends x) part w) (omega (arith, run.recovered)) in
    let rounds = by_lowest (λ a. 2 ≤ times small (round_ends a) last v) (omega (arith, run.two)) (omega (arith, run.three)) in
    let down = subst (λ l. Downward small recoveries l w v) (sym small_top) (level_part part recovered down_to_one) in
    let free = claim areas small_is_plan 2 w (past_of calls) v down last rounds 1 slot_one apart in
    false≢true (subst (λ o. is_some o ≡ true) free run.used)

-- Block 1 has a hold and is in no register; three recoveries of area 1 and two rounds of each area leave it. A round of area 3, which has no
-- block, takes five turns.

holding : List Call
holding = make 0 2 0 ∷ hold 0 ∷ zero_register 0 ∷ []

abbrev rounds : ℕ → List ℕ
rounds zero = []
rounds (suc n) = (six 2 ++ replicate 5 3) ++ rounds n

hold_part : List ℕ
hold_part = rounds 6

hold_last : List ℕ
hold_last = rounds 2

hold_numbers : every is_number (called holding start).memory.registers ≡ true
unfolding computing holding
hold_numbers = refl

hold_run : StillUsed 3 holding hold_part hold_last
unfolding computing holding hold_part hold_last
hold_run = record { recovered = refl; two = refl; three = refl; used = refl }

pub holds_keep_blocks : HoldsKeepBlocks
holds_keep_blocks = not_recovered FromRegisters 3 holding hold_part hold_last hold_run (none_from_registers (called holding start).memory hold_numbers)

-- Area 1 recovers and the marks of both blocks are clear again; just before the recovery ends block 2 is read out of block 1, which sends its
-- mark once more, and all registers are set to numbers. So the next marking begins with a mark of garbage: both blocks' entries stay in
-- the second recovery. After it two rounds of area 2 come first, while area 1 marks, and block 1 is shaded by its entry.

dropped : List Call
dropped = recovering ++ (map turn (six 2 ++ replicate 5 3) ++ (read 2 0 0 ∷ zero_register 0 ∷ zero_register 1 ∷ zero_register 2 ∷ []))

drop_part : List ℕ
drop_part = 3 ∷ (six 3 ++ (six 2 ++ (six 2 ++ six 3)))

drop_last : List ℕ
drop_last = six 2 ++ (six 2 ++ (six 3 ++ six 3))

drop_numbers : every is_number (called dropped start).memory.registers ≡ true
unfolding computing recovering dropped
drop_numbers = refl

drop_unheld : every unheld (called dropped start).memory.slots ≡ true
unfolding computing recovering dropped
drop_unheld = refl

drop_run : StillUsed 2 dropped drop_part drop_last
unfolding computing recovering dropped drop_part drop_last
drop_run = record { recovered = refl; two = refl; three = refl; used = refl }

pub two_recoveries_are_too_few : TwoRecoveriesAreTooFew
two_recoveries_are_too_few = not_recovered Reach 2 dropped drop_part drop_last drop_run (none_reached (called dropped start).memory drop_numbers drop_unheld)
