use Rattle.std.proofs.Common.{◌≡◌, ◌+◌, ◌/◌, true, length}
use Rattle.plan.specs.Reading.{good_length, record_in_range, area_of}
use Rattle.plan.proofs.Firsts.{Tried}
use Rattle.plan.proofs.reading.Records.read.Given as goal

abbrev pub invariant-loop-index : goal.invariant-loop-index
invariant-loop-index l =
    let n = length l.bytes / 6 in
    record {
      good : good_length (length l.bytes) ≡ true;
      tried : Tried (record_in_range l.bytes n) (area_of l.bytes) n (l.index + 1) l.areas.items;
    }
