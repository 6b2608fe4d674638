-- How many marks a set has. Assumes nothing.
use Rattle.std.proofs.Common.{◌≡◌, ℕ, zero, suc, ◌+◌, ◌<◌, ◌≤◌, Bool, true, false, cond, refl, ⊎_elim, arith}
use Rattle.std.proofs.lemmas.Bool.{cases_eq, and_parts}
use Rattle.post.specs.Marks.{Waits, mark_in, holds, without}
use Rattle.post.specs.declared.Mark.{Mark}
use Rattle.post.specs.Sets.{mark_parts, same_self}

unfoldable pub total : ℕ → (ℕ → ℕ) → ℕ
total zero f = 0
total (suc n) f = f n + total n f

total_le : (n : ℕ) (f g : ℕ → ℕ) → ((k : ℕ) → f k ≤ g k) → total n f ≤ total n g
unfolding total
total_le zero f g h = omega arith
total_le (suc n) f g h = omega (arith, h n, total_le n f g h)

total_lt : (n : ℕ) (f g : ℕ → ℕ) (i : ℕ) → i < n → ((k : ℕ) → f k ≤ g k) → f i < g i → total n f < total n g
unfolding total
total_lt zero f g i l h s = absurd (omega arith)
total_lt (suc n) f g i l h s =
    ⊎_elim
    (λ (e : i ≡ n). let s' : f n < g n = rw e at s in omega (arith, s', total_le n f g h))
    (λ (ne : i ≡ n → ⊥). let l' : i < n = omega arith in omega (arith, h n, total_lt n f g i l' h s))
    (cases_eq i n)

below : (a b : Bool) → (a ≡ true → b ≡ true) → cond a 1 0 ≤ cond b 1 0
below true b h = rw (h refl) (omega arith)
below false b h = omega arith

unfoldable pub count : ℕ → Waits → ℕ
count n w = total n (λ b. total 5 (λ m. total 5 (λ l. cond (w b m l) 1 0)))

-- a smaller set that lacks a mark of the larger
pub count_falls : (n : ℕ) (v w : Waits) (b m l : ℕ) → b < n → m < 5 → l < 5 → ((b m l : ℕ) → v b m l ≡ true → w b m l ≡ true)
    → v b m l ≡ false → w b m l ≡ true → count n v < count n w
unfolding count
count_falls n v w b m l hb hm hl sub off on =
    let each : (b m l : ℕ) → cond (v b m l) 1 0 ≤ cond (w b m l) 1 0 = λ b m l. below (v b m l) (w b m l) (sub b m l) in
    let one : cond (v b m l) 1 0 < cond (w b m l) 1 0 = rw (off, on) (omega arith) in
    total_lt n _ _ b hb (λ b. total_le 5 _ _ (λ m. total_le 5 _ _ (each b m)))
    (total_lt 5 _ _ m hm (λ m. total_le 5 _ _ (each b m)) (total_lt 5 _ _ l hl (each b m) one))

-- a mark that was there is gone
pub taken_falls : (n n' : ℕ) (w w' : Waits) (k : Mark) → n' ≡ n → mark_in n k ≡ true → holds w k ≡ true → w' ≡ without k w → count (suc n') w' < count (suc n) w
taken_falls n n' w w' k en km on e =
    let p = mark_parts n k.block k.entry k.level km in
    let gone : holds (without k w) k ≡ false = rw (on, same_self k) in
    rw (en, e)
    (count_falls (suc n) (without k w) w k.block k.entry k.level (omega arith) (omega arith) (omega arith)
    (λ b m l h. (and_parts (w b m l) _ h).0) gone on)
