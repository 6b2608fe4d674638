-- The guarantees, each for every accepted plan and every past.
use Rattle.std.proofs.Common.{ℕ, ◌+◌, ◌-◌, ◌*◌}
use Rattle.state.specs.Layout.{Layout, layout_of}
use Rattle.state.specs.Memory.{World}
use Rattle.state.specs.Calls.{answered}
use Rattle.state.specs.Promises as promises
use Rattle.laws.specs.Promises.{Downward, down_to_one, level_part, NoCallRecovers, TurnsAloneRecoverAllBut, RoundsEndWithin, MarkingsEndWithin, RecoveriesEndWithin}
use Rattle.state.specs.Pasts.{Reach}
use Rattle.state.proofs.Lawful.{layouts_are_lawful}
use Rattle.guarantees.specs.Picks.{NoTakenMarkIsDropped, PickedPastsArePasts, SameCallsSameEnd, TurnsGoOnAPast}
use Rattle.laws.proofs.Kept.{invariant_past}
use Rattle.guarantees.proofs.Continued.{turns_go_on}
use Rattle.guarantees.proofs.Reachable.{reached_by_rules, reached_at, recovers_slot}
use Rattle.guarantees.proofs.Picked.{picked_past, same_end, taken_marks_are_set}
use Rattle.laws.proofs.Stands.{kept_blocks_stand}
use Rattle.laws.proofs.TopEntries.{top_past}
use Rattle.laws.proofs.Garbage.{garbage_freed}
use Rattle.laws.proofs.Inhabited.{layouts_are_inhabited}
use Rattle.laws.proofs.Rounds.{rounds_end}
use Rattle.laws.proofs.Recoveries.{recoveries_end}
use Rattle.laws.proofs.Markings.{markings_end}

pub no_reachable_block_is_recovered : NoCallRecovers Reach
no_reachable_block_is_recovered areas plan size w past c b reach recovers =
    let law = layouts_are_lawful areas plan in
    let slot = reached_at w.memory reach in
    kept_blocks_stand (layout_of areas) size w (invariant_past (layout_of areas) law size w past) c slot.number slot.reached
    (recovers_slot w.memory (answered (layout_of areas) size c w).world.memory slot.number b slot.same recovers)

pub no_taken_mark_is_dropped : NoTakenMarkIsDropped
no_taken_mark_is_dropped areas plan size w past a low before k left run =
    let law = layouts_are_lawful areas plan in
    taken_marks_are_set (layout_of areas) law w (invariant_past (layout_of areas) law size w past) a before k left run

pub turns_go_on_a_past : TurnsGoOnAPast
turns_go_on_a_past areas size w past turns = turns_go_on (layout_of areas) size turns w past

pub picked_pasts_are_pasts : PickedPastsArePasts
picked_pasts_are_pasts areas plan size calls w past =
    let law = layouts_are_lawful areas plan in
    picked_past (layout_of areas) law size calls w past

pub same_calls_same_end : SameCallsSameEnd
same_calls_same_end areas plan size calls v v' past past' =
    let law = layouts_are_lawful areas plan in
    same_end (layout_of areas) law size calls v v' past past'

pub turns_alone_recover_all_garbage : TurnsAloneRecoverAllBut Reach 3 2
turns_alone_recover_all_garbage areas plan size w past v down last rounds b n apart =
    let law = layouts_are_lawful areas plan in
    garbage_freed (layout_of areas) law w (invariant_past (layout_of areas) law size w past) (top_past (layout_of areas) law size w past) v down last rounds b n
    (λ r. apart (reached_by_rules w.memory r))

-- The same in the words of the rules' own promises.

each_level : (plan : Layout) {l : ℕ} {w v : World} → promises.Downward plan l w v → Downward plan 3 l w v
each_level plan promises.down_to_one = down_to_one
each_level plan (promises.level_part part three rest) = level_part part three (each_level plan rest)

pub turns_alone_as_promised : promises.TurnsAloneRecoverAllGarbage
turns_alone_as_promised areas plan size w past v down = turns_alone_recover_all_garbage areas plan size w past v (each_level (layout_of areas) down)

pub rounds_end_soon : RoundsEndWithin (λ slots top. 2 * slots + top + 2)
rounds_end_soon areas plan size w past =
    let law = layouts_are_lawful areas plan in
    rounds_end (layout_of areas) law w (invariant_past (layout_of areas) law size w past)

pub recoveries_end_soon : RecoveriesEndWithin 1
recoveries_end_soon areas plan size w past =
    let law = layouts_are_lawful areas plan in
    recoveries_end (layout_of areas) law (layouts_are_inhabited areas plan) w (invariant_past (layout_of areas) law size w past)

pub markings_end_soon : MarkingsEndWithin (λ slots level. 2 * slots * (level - 1) + 2)
markings_end_soon areas plan size w past =
    let law = layouts_are_lawful areas plan in
    markings_end (layout_of areas) law (layouts_are_inhabited areas plan) w (invariant_past (layout_of areas) law size w past)
