-- Worked scenarios on the sample plan, computed with the rules.
use Rattle.std.specs.Prelude.{◌≡◌, ℕ, zero, suc, Bool, true, false, List, [], ◌∷◌, ◌++◌, replicate, is_some, Some, None, Ok, Err, codes, Option, Result}
use Rattle.std.specs.Option.{unwrap_or}
use Rattle.std.specs.List.{AllByRecursion}
use Rattle.plan.specs.declared.area.Area.{Area}
use Rattle.plan.specs.Reading.{areas_of, read_plan}
use Rattle.plan
use Rattle.listing.specs.Listing.{listing}
use Rattle.post.specs.Marks.{none}
use Rattle.state.specs.declared.block.Block.{Block}
use Rattle.state.specs.declared.refusal.Refusal.{Refusal}
use Rattle.state.specs.Refusals.{refusal_number}
use Rattle.state.specs.Blocks.{points_to}
use Rattle.state.specs.Layout.{Layout, layout_of}
use Rattle.state.specs.Memory.{World, block_at}
use Rattle.state.specs.Calls.{Call, message, hold, return, answered, fresh, turns}
use Rattle.state.specs.Turns.{clear_at}
use Rattle.state.specs.Runs.{Tally, runs, rows_of}
use Rattle.state.specs.Pasts.{marking, round_ends, times}

-- A scenario: what the rules compute, and what should come out.
pub record Scenario : Type 0 where
  pub computed : List ℕ
  pub expected : List ℕ

abbrev pub ComesOut : Scenario → Type 0
ComesOut s = s.computed ≡ s.expected

abbrev truth : Bool → ℕ
truth true = 1
truth false = 0

-- The sample plan: area 1 over areas 2 and 3 with four slots each.
abbrev pub sample_bytes : List ℕ
sample_bytes = 2 ∷ 2 ∷ 0 ∷ 0 ∷ 0 ∷ 0 ∷ 1 ∷ 0 ∷ 3 ∷ 0 ∷ 4 ∷ 0 ∷ 1 ∷ 0 ∷ 0 ∷ 0 ∷ 4 ∷ 0 ∷ []

abbrev pub sample : Layout
sample = layout_of (areas_of sample_bytes 3)

abbrev pub start : World
start = record { memory = fresh sample; waits = none }

-- The world after calls, with a post of eight blocks.
abbrev pub called : List Call → World → World
called [] w = w
called (c ∷ cs) w = called cs (answered sample 8 c w).world

abbrev pub number_of : Result ℕ Refusal → ℕ
number_of (Ok n) = 0
number_of (Err e) = refusal_number e

-- The number of the refusal of a call, 0 where it is accepted.
abbrev pub refusal : Call → World → ℕ
refusal c w = number_of (answered sample 8 c w).answer

-- Messages

abbrev pub make : ℕ → ℕ → ℕ → Call
make p q n = message (1 ∷ 77 ∷ p ∷ q ∷ n ∷ 0 ∷ 0 ∷ 0 ∷ [])

abbrev pub write : ℕ → ℕ → ℕ → Call
write p q n = message (1 ∷ 87 ∷ p ∷ q ∷ n ∷ 0 ∷ 0 ∷ 0 ∷ [])

abbrev pub zero_register : ℕ → Call
zero_register p = message (1 ∷ 78 ∷ p ∷ 0 ∷ 0 ∷ 0 ∷ 0 ∷ 0 ∷ [])

abbrev pub read : ℕ → ℕ → ℕ → Call
read p q n = message (3 ∷ 82 ∷ p ∷ q ∷ n ∷ 0 ∷ 0 ∷ 0 ∷ [])

abbrev pub turn : ℕ → Call
turn q = message (2 ∷ 84 ∷ 0 ∷ q ∷ 0 ∷ 0 ∷ 0 ∷ 0 ∷ [])

-- A block of two words in area 2 and one of one word in area 3, and a pointer from the first to the second.
abbrev pub crossed : World
crossed = called (make 0 2 2 ∷ make 1 3 1 ∷ write 0 0 1 ∷ []) start

-- Rounds

abbrev pub round_on : ℕ → ℕ → Bool → World → World
round_on a zero over w = w
round_on a (suc n) true w = w
round_on a (suc n) false w = round_on a n (round_ends a w (turns sample a w).world) (turns sample a w).world

-- A whole round of an area: its turns up to the one that ends the round.
abbrev pub round : ℕ → World → World
round a w = round_on a 20 false w

abbrev pub has_block : ℕ → World → ℕ
has_block b w = truth (is_some (block_at w.memory b))

-- Whether slots 1 and 5 have a block after each of n pairs of rounds, of area 2 and then of area 3.
abbrev pub alternating : ℕ → World → List ℕ
alternating zero w = []
alternating (suc n) w =
    let u = round 2 w in
    let v = round 3 u in
    has_block 1 u ∷ has_block 5 u ∷ has_block 1 v ∷ has_block 5 v ∷ alternating n v

abbrev pub points_at : Option Block → ℕ → ℕ
points_at None c = 0
points_at (Some k) c = truth (points_to k c)

-- A register points to slot 6 in area 3, which points to slot 1 in area 2, which points back to slot 5 in area 3.
abbrev pub there_and_back : World
there_and_back =
    called (make 0 3 1 ∷ make 1 2 1 ∷ make 2 3 1 ∷ write 1 0 0 ∷ write 2 0 1 ∷ zero_register 0 ∷ zero_register 1 ∷ []) start

-- Area 2 has begun a second round when area 3 ends its first, so that area 1 begins to recover; area 3 begins its second round, and then
-- area 2 scans slot 1.
abbrev pub overtaken : World
overtaken =
    called (replicate 8 (turn 3) ++ (turn 2 ∷ turn 3 ∷ turn 3 ∷ turn 2 ∷ [])) (round 2 (called (zero_register 1 ∷ []) crossed))

abbrev pub plan_refusal : Result (List Area) plan.specs.declared.refusal.Refusal.Refusal → List ℕ
plan_refusal (Ok areas) = []
plan_refusal (Err e) = unwrap_or (plan.specs.Refusals.refusal_number e) 0 ∷ unwrap_or (plan.specs.Refusals.refusal_record e) 0 ∷ []

-- How many messages of a run were accepted and refused, and the listing after it; or the number of the refusal of the whole run.
abbrev pub tallied : Result Tally Refusal → List ℕ
tallied (Ok t) = t.accepted ∷ t.refused ∷ listing (rows_of sample t.world.memory)
tallied (Err e) = refusal_number e ∷ []

-- Two blocks are made and one is written into the other, and three bytes follow that are no message.
abbrev pub run_bytes : List ℕ
run_bytes = 1 ∷ 77 ∷ 0 ∷ 2 ∷ 2 ∷ 0 ∷ 0 ∷ 0 ∷ 1 ∷ 77 ∷ 1 ∷ 3 ∷ 1 ∷ 0 ∷ 0 ∷ 0 ∷ 1 ∷ 87 ∷ 0 ∷ 0 ∷ 1 ∷ 0 ∷ 0 ∷ 0 ∷ 2 ∷ 84 ∷ 0 ∷ []

abbrev pub scenarios : List Scenario
scenarios =
    -- slot 1 points to slot 5, and the mark (5, 2, 2) waits
    record { computed = points_at (block_at crossed.memory 1) 5 ∷ truth (crossed.waits 5 2 2) ∷ []; expected = 1 ∷ 1 ∷ [] }
    -- a round of area 3 takes nine turns
    ∷ record { computed = times sample (round_ends 3) (replicate 8 3) crossed ∷ times sample (round_ends 3) (replicate 9 3) crossed ∷ []; expected = 0 ∷ 1 ∷ [] }
    -- with both registers cleared slot 1 is free after the second round of area 2, slot 5 after the fourth of area 3, and neither before
    ∷ record {
      computed = alternating 4 (called (zero_register 0 ∷ zero_register 1 ∷ []) crossed);
      expected = 1 ∷ 1 ∷ 1 ∷ 1 ∷ 0 ∷ 1 ∷ 0 ∷ 1 ∷ 0 ∷ 1 ∷ 0 ∷ 1 ∷ 0 ∷ 1 ∷ 0 ∷ 0 ∷ [];
    }
    -- with register 0 kept both blocks stand
    ∷ record { computed = alternating 4 (called (zero_register 1 ∷ []) crossed); expected = replicate 16 1 }
    -- with a hold on slot 5 it stands
    ∷ record {
      computed = alternating 4 (called (hold 1 ∷ zero_register 0 ∷ zero_register 1 ∷ []) crossed);
      expected = 1 ∷ 1 ∷ 1 ∷ 1 ∷ 0 ∷ 1 ∷ 0 ∷ 1 ∷ 0 ∷ 1 ∷ 0 ∷ 1 ∷ 0 ∷ 1 ∷ 0 ∷ 1 ∷ [];
    }
    -- a chain of pointers that leaves area 3 and comes back stands: area 1 does not recover while a mark of the chain waits
    ∷ record { computed = alternating 4 there_and_back; expected = replicate 16 1 }
    -- area 1 recovers, the mark of slot 5 is clear, and a round that began before sends it no more
    ∷ record { computed = truth (marking overtaken 1) ∷ truth (clear_at overtaken.memory 5 2 2) ∷ truth (overtaken.waits 5 2 2) ∷ []; expected = 0 ∷ 1 ∷ 0 ∷ [] }
    -- a lowest area with no slots; a turn of area 1; a read of word 2 of a block of two; a fifth block in area 2
    ∷ record { computed = plan_refusal (read_plan (2 ∷ 2 ∷ 0 ∷ 0 ∷ 0 ∷ 0 ∷ 1 ∷ 0 ∷ 0 ∷ 0 ∷ 0 ∷ 0 ∷ [])); expected = 4 ∷ 2 ∷ [] }
    ∷ record { computed = refusal (turn 1) start ∷ refusal (read 2 0 2) crossed ∷ refusal (make 0 2 0) (called (replicate 4 (make 0 2 0)) start) ∷ []; expected = 8 ∷ 11 ∷ 12 ∷ [] }
    -- a run with a last part that is too short, and its listing; the same with a post of seven blocks
    ∷ record {
      computed = tallied (runs sample 8 run_bytes start);
      expected = 3 ∷ 1 ∷ codes "area 1 level 2 used 2 free 6\narea 2 level 1 used 1 free 3\narea 3 level 1 used 1 free 3\n";
    }
    ∷ record { computed = tallied (runs sample 7 run_bytes start); expected = 5 ∷ [] }
    ∷ []

abbrev pub ScenariosComeOut : Type 0
ScenariosComeOut = AllByRecursion ComesOut scenarios

-- Further scenarios.

abbrev pub copy : ℕ → ℕ → Call
copy p q = message (3 ∷ 67 ∷ p ∷ q ∷ 0 ∷ 0 ∷ 0 ∷ 0 ∷ [])

-- A register points to slot 1 in area 2, which points to slot 5 in area 3, which points to slot 2 in area 2.
abbrev pub there_and_on : World
there_and_on =
    called (make 0 2 1 ∷ make 1 3 1 ∷ make 2 2 1 ∷ write 0 0 1 ∷ write 1 0 2 ∷ zero_register 1 ∷ zero_register 2 ∷ []) start

-- A round of area 2 and then one of area 3.
abbrev pub both : World → World
both w = round 3 (round 2 w)

abbrev pub further_scenarios : List Scenario
further_scenarios =
    -- a block that a block of its area points to stands
    record { computed = has_block 2 (round 2 (round 2 (round 2 (called (make 0 2 1 ∷ make 1 2 1 ∷ write 0 0 1 ∷ zero_register 1 ∷ []) start)))) ∷ []; expected = 1 ∷ [] }
    -- the middle of a chain is read and its start let go after area 3 has ended its round: the read tells area 3 of it anew, and slot 2 stands
    ∷ record { computed = has_block 2 (round 2 (round 2 (round 2 (called (read 1 0 0 ∷ zero_register 0 ∷ []) (round 3 (both (both there_and_on))))))) ∷ []; expected = 1 ∷ [] }
    -- area 3 takes a mark and has yet to scan when area 2 ends its round: area 1 waits for area 3, and slot 2 stands
    ∷ record { computed = has_block 2 (round 2 (round 2 (round 2 (called (turn 3 ∷ []) (round 2 (round 3 (both (both there_and_on)))))))) ∷ []; expected = 1 ∷ [] }
    -- a copied pointer keeps its block; a hold that was given back does not
    ∷ record {
      computed =
          has_block 1 (round 2 (round 2 (called (make 0 2 1 ∷ copy 1 0 ∷ zero_register 0 ∷ []) start)))
          ∷ has_block 1 (round 2 (round 2 (called (make 0 2 1 ∷ hold 0 ∷ zero_register 0 ∷ return 1 ∷ []) start))) ∷ [];
      expected = 1 ∷ 0 ∷ [];
    }
    ∷ []

abbrev pub FurtherScenariosComeOut : Type 0
FurtherScenariosComeOut = AllByRecursion ComesOut further_scenarios
