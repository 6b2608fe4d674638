use Rattle.listing.specs.Listing.{line}
use Rattle.listing.proofs.Texts.{puts_then}
use Rattle.listing.proofs.Writer.put_line.Goals as goal

pub returns : goal.returns
unfolding line
returns c = puts_then c.put_field.ensures (puts_then (rw c.from.ensures at c.put_field-2.ensures) (puts_then c.put_field-3.ensures (puts_then c.put_field-4.ensures c.put.ensures)))
