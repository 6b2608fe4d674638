use Rattle.listing.proofs.Texts.{puts_then}
use Rattle.listing.proofs.Writer.put_field.Goals as goal

pub returns : goal.returns
returns c = puts_then c.put.ensures c.put_number.ensures
