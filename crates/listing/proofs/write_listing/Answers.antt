use Rattle.std.proofs.Common.{◌≡◌, leb, true, length, drop, refl, rules, arith}
use Rattle.std.proofs.lemmas.Bool.{cond-true}
use Rattle.std.proofs.lemmas.Grind.{common_steps}
use Rattle.listing.specs.Listing.{listing}
use Rattle.listing.proofs.Feeds.{feeds_front}
use Rattle.listing.proofs.Texts.{puts_front}
use Rattle.listing.proofs.write_listing.Goals as goal

pub returns-clause-after : goal.returns-clause-after
returns-clause-after c =
    let fits : leb (length (listing c.args.rows.now)) (length c.args.out.now) ≡ true = grind (arith, common_steps) in
    rw (cond-true _ _ _ fits, ← puts_front refl c.put_lines.ensures) (search rules)

pub returns-clause-lines : goal.returns-clause-lines
returns-clause-lines c =
    feeds_front c.args.rows.now (drop (length (listing c.args.rows.now)) c.args.out.now) (rw (← puts_front refl c.put_lines.ensures) (search rules)) (grind (arith, common_steps))
