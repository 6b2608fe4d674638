use Rattle.std.proofs.Common.{take}
use Rattle.listing.specs.Listing.{listing}
use Rattle.listing.specs.Writing.{Puts}
use Rattle.listing.proofs.Writer.put_lines.Given as goal

abbrev pub invariant-loop-row : goal.invariant-loop-row
invariant-loop-row l = Puts l.fn.self l.self (listing (take l.row-index l.rows))
