-- What a write to the lent memory needs and leaves.
use Rattle.std.specs.Prelude.{◌≡◌, ℕ, ◌+◌, ◌≤◌, List, length}
use Rattle.listing.specs.Listing.{written}
use Rattle.listing.specs.declared.Writer.{Writer}

-- the text fits from the place on
abbrev pub HasRoom : Writer → List ℕ → Type 0
HasRoom writer text = writer.at + length text ≤ length writer.out.now

-- the text stands from the old place on, the new place is after it, and the memory is the same
pub record Puts (old new : Writer) (text : List ℕ) : Type 0 where
  pub after : new.out.now ≡ written old.out.now old.at text
  pub place : new.at ≡ old.at + length text
  pub within : new.at ≤ length new.out.now
  pub size : length new.out.now ≡ length old.out.now
  pub memory : new.out.ghost_name ≡ old.out.ghost_name
