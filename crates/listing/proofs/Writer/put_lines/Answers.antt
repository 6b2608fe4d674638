use Rattle.std.proofs.Common.{arith}
use Rattle.std.proofs.lemmas.List.{take_all}
use Rattle.std.proofs.lemmas.List.Folds.{length-flat_map-take}
use Rattle.listing.specs.Listing.{line}
use Rattle.listing.proofs.Texts.{blank, listing_more, puts_nothing, puts_then}
use Rattle.listing.proofs.Writer.put_lines.Goals as goal

pub loop-row-init : goal.loop-row-init
loop-row-init c = puts_nothing c.args.self.now (omega arith)

pub put_line-requires : goal.put_line-requires
put_line-requires c = omega (arith, length-flat_map-take line c.args.rows.now c.loop-row.row-index blank (omega arith))

pub loop-row-preserved : goal.loop-row-preserved
loop-row-preserved c = rw (listing_more c.args.rows.now c.loop-row.row-index (omega arith)) (puts_then c.loop-row.invariant c.put_line.ensures)

pub returns : goal.returns
returns c = rw (take_all c.loop-row.row-index c.args.rows.now (omega arith)) at c.loop-row.invariant
