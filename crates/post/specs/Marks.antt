-- A mark, a set of waiting marks, and what the calls of a post answer and leave.
use Rattle.std.specs.Prelude.{◌≡◌, ℕ, min, Bool, true, false, cond, not, ◌&&◌, ◌||◌, Some, None, Ok, Err, Option, Result, MatchOption, ◌==◌, nat_le}
use Rattle.post.specs.declared.Mark.{Mark}
use Rattle.post.specs.declared.Refusal.{Refusal}
use Rattle.post.specs.declared.Refusal.TheVariants.{NoMark}

-- the number under which a refusal is reported
abbrev pub refusal_number : Refusal → ℕ
refusal_number NoMark = 15

-- a set of marks: block, entry level and mark level
abbrev pub Waits : Type 0
Waits = ℕ → ℕ → ℕ → Bool

-- the empty set
abbrev pub none : Waits
none b m l = false

-- (b, m, l) is a mark of n blocks: 1 ≤ b ≤ n and 2 ≤ m ≤ l ≤ 4
abbrev pub is_mark : ℕ → Waits
is_mark n b m l = nat_le 1 b && (nat_le b n && (nat_le 2 m && (nat_le m l && nat_le l 4)))

abbrev pub mark_in : ℕ → Mark → Bool
mark_in n k = is_mark n k.block k.entry k.level

-- the mark is in the set
abbrev pub holds : Waits → Mark → Bool
holds w k = w k.block k.entry k.level

-- the set of this one mark
abbrev pub same : Mark → Waits
same k b m l = b == k.block && (m == k.entry && l == k.level)

-- block b lies in the range from first to last
abbrev pub within : ℕ → ℕ → ℕ → Bool
within first last b = nat_le first b && nat_le b last

-- the set with one mark more, and with one less
abbrev pub added : Mark → Waits → Waits
added k w b m l = w b m l || same k b m l

abbrev pub without : Mark → Waits → Waits
without k w b m l = w b m l && not (same k b m l)

-- the part of the set in a range of blocks, and the rest
abbrev pub inside : ℕ → ℕ → Waits → Waits
inside first last w b m l = w b m l && within first last b

abbrev pub outside : ℕ → ℕ → Waits → Waits
outside first last w b m l = w b m l && not (within first last b)

-- the marks of either set
abbrev pub either : Waits → Waits → Waits
either v w b m l = v b m l || w b m l

-- the part of the set that is marks of n blocks
abbrev pub marks_of : ℕ → Waits → Waits
marks_of n w b m l = w b m l && is_mark n b m l

-- what a send to a post of n blocks leaves, and what it answers
abbrev pub sent : ℕ → Mark → Waits → Waits
sent n k w = cond (mark_in n k) (added k w) w

abbrev pub send_answer : ℕ → Mark → Result (Unit {0}) Refusal
send_answer n k = cond (mark_in n k) (Ok tt) (Err NoMark)

-- nothing waits in the range
abbrev pub Quiet : ℕ → ℕ → Waits → Type 0
Quiet first last w = (b m l : ℕ) → within first last b ≡ true → w b m l ≡ false

-- a waiting mark of the block that passes a test, or none exactly if none passes; at k the test answers an r for which `passes k r`
pub record FoundBy (passes : Mark → Bool → Type 0) (block : ℕ) (w : Waits) (found : Option Mark) : Type 0 where
  pub answer :
      MatchOption found
      ((k : Mark) → k.block ≡ block → holds w k ≡ true → passes k false)
      (λ k. (k.block ≡ block) × (holds w k ≡ true) × passes k true)

-- what a take may do: one waiting mark of the range goes, whichever; or none waits there, and all stays
abbrev pub Taken : ℕ → ℕ → Waits → Waits → Option Mark → Type 0
Taken first last w w' None = Quiet first last w × (w' ≡ w)
Taken first last w w' (Some k) = (within first last k.block ≡ true) × (holds w k ≡ true) × (w' ≡ without k w)

-- whether a mark of that mark level waits in the range
abbrev pub AnyAt : ℕ → ℕ → ℕ → Waits → Bool → Type 0
AnyAt level first last w true = (b : ℕ) × (m : ℕ) × (within first last b ≡ true) × (w b m level ≡ true)
AnyAt level first last w false = (b m : ℕ) → within first last b ≡ true → w b m level ≡ false

-- the most blocks of a post that is made over given storage, and how many it has where the storage suffices for n
abbrev pub post_size : ℕ → ℕ
post_size n = min n 1024
