-- A listing has a line feed for each row.
use Rattle.std.proofs.Common.{◌≡◌, ℕ, zero, suc, ◌+◌, ◌/◌, ◌%◌, false, eqb, ltb, List, [], ◌∷◌, ◌++◌, length, take, decimal, sym, refl, ◌∙◌, arith}
use Rattle.std.specs.Fmt.{digits, digit_glyph, digits_onto}
use Rattle.std.proofs.lemmas.List.{take_at}
use Rattle.std.proofs.lemmas.Bool.{cond_both, ne_eqb}
use Rattle.listing.specs.Listing.{line, line_feeds, listing}
use Rattle.listing.specs.declared.Row.{Row}

feeds_append : (xs ys : List ℕ) → line_feeds (xs ++ ys) ≡ line_feeds xs + line_feeds ys
feeds_append [] ys = omega arith
feeds_append (x ∷ xs) ys = omega (arith, feeds_append xs ys)

feeds_digit : (d : ℕ) (ds : List ℕ) → line_feeds (digit_glyph false d ∷ ds) ≡ line_feeds ds
feeds_digit d ds =
    let other : eqb (digit_glyph false d) 10 ≡ false =
    cond_both (ltb d 10) (48 + d) (87 + d) (λ b. eqb b 10 ≡ false) (λ e. ne_eqb (48 + d) 10 (λ h. omega arith)) (λ e. ne_eqb (87 + d) 10 (λ h. omega arith)) in
    rw other (omega arith)

feeds_spelled : (k n : ℕ) (ds : List ℕ) → line_feeds (digits_onto k 10 false n ds) ≡ line_feeds ds
feeds_spelled zero n ds = refl
feeds_spelled (suc k) n ds =
    let more : List ℕ = digit_glyph false (n % 10) ∷ ds in
    cond_both (eqb (n / 10) 0) more (digits_onto k 10 false (n / 10) more) (λ bs. line_feeds bs ≡ line_feeds ds)
    (λ e. feeds_digit (n % 10) ds)
    (λ e. feeds_spelled k (n / 10) more ∙ feeds_digit (n % 10) ds)

feeds_decimal : (n : ℕ) → line_feeds (decimal n) ≡ 0
unfolding digits
feeds_decimal n = feeds_spelled 64 n []

feeds_line : (row : Row) → line_feeds (line row) ≡ 1
unfolding line
feeds_line row = simp (feeds_append, feeds_decimal) (omega arith)

pub feeds_listing : (rows : List Row) → line_feeds (listing rows) ≡ length rows
feeds_listing [] = refl
feeds_listing (row ∷ rows) = omega (arith, feeds_append (line row) (listing rows), feeds_line row, feeds_listing rows)

-- and so has what begins with it, up to its length
pub feeds_front : {out : List ℕ} {n : ℕ} (rows : List Row) (rest : List ℕ) → out ≡ listing rows ++ rest → n ≡ length (listing rows) → line_feeds (take n out) ≡ length rows
feeds_front {out} {n} rows rest begins whole = rw (begins, take_at (listing rows) rest n (sym whole)) (feeds_listing rows)
