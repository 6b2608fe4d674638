-- Text written piece by piece is the whole text written; the lengths of lines and listings.
use Rattle.std.proofs.Common.{◌≡◌, ℕ, ◌+◌, ◌<◌, ◌≤◌, List, [], ◌++◌, length, get_or, take, drop, decimal, sym, refl, ap, ◌∙◌, append_assoc, add_assoc, zero-add, add-zero, arith, length-append}
use Rattle.std.proofs.lemmas.List.{flat_map_more, length-take-le, take-append-drop, take_at, take_more, drop_at, drop-drop}
use Rattle.listing.specs.Listing.{line, listing, written}
use Rattle.listing.specs.Writing.{Puts}
use Rattle.listing.specs.declared.Writer.{Writer}
use Rattle.listing.specs.declared.Row.{Row}

-- a text and then another right after it
pub written_more : (out : List ℕ) (at : ℕ) (s t : List ℕ) → at + length s ≤ length out → written (written out at s) (at + length s) t ≡ written out at (s ++ t)
unfolding written
written_more out at s t room =
    let p : List ℕ = take at out ++ s in
    let n : ℕ = at + length s in
    let front : length p ≡ n = omega (arith, length-append (take at out) s, length-take-le at out (omega arith)) in
    let after : drop (n + length t) (p ++ drop n out) ≡ drop (n + length t) out =
    sym (drop-drop (length t) n (p ++ drop n out)) ∙ ap (drop (length t)) (drop_at p (drop n out) n front) ∙ drop-drop (length t) n out in
    rw (← append_assoc (take at out) s (drop n out), take_at p (drop n out) n front, after, length-append s t, append_assoc (take at out) s (t ++ drop (n + length t) out), append_assoc s t)
    (rw (add_assoc at (length s) (length t)))

-- a text of k bytes that was written up to an end, as one written from its place on
pub written_to : (old new text : List ℕ) (at start k : ℕ) → k ≡ length text → start + length text ≡ at + k → drop start new ≡ text ++ drop (at + k) old → take start new ≡ take start old → new ≡ written old at text
unfolding written
written_to old new text at start k long from here before =
    let same : start ≡ at = omega (arith, from, long) in
    sym (take-append-drop start new) ∙ ap (λ xs. xs ++ drop start new) before
    ∙ ap (λ xs. take start old ++ xs) here
    ∙ ap (λ p. take p old ++ (text ++ drop (at + k) old)) same
    ∙ ap (λ n. take at old ++ (text ++ drop (at + n) old)) long

-- no text is put where nothing changes
pub puts_nothing : (lines : Writer) → lines.at ≤ length lines.out.now → Puts lines lines []
unfolding written
puts_nothing lines within = record {
  after = rw add-zero (sym (take-append-drop lines.at lines.out.now));
  place = sym (add-zero lines.at);
  within = within;
  size = refl;
  memory = refl;
}

-- two texts that are put, one after the other, are their joined text put
pub puts_then : {old mid new : Writer} {s t : List ℕ} → Puts old mid s → Puts mid new t → Puts old new (s ++ t)
puts_then {old} {mid} {new} {s} {t} first second = record {
  after = second.after ∙ (λ i. written (first.after i) (first.place i) t) ∙ written_more old.out.now old.at s t (omega arith);
  place = omega (arith, length-append s t);
  within = second.within;
  size = second.size ∙ first.size;
  memory = second.memory ∙ first.memory;
}

-- a text that is put at the front
pub puts_front : {old new : Writer} {text : List ℕ} → old.at ≡ 0 → Puts old new text → new.out.now ≡ text ++ drop (length text) old.out.now
unfolding written
puts_front {old} {new} {text} front put = put.after ∙ ap (λ at. written old.out.now at text) front ∙ rw zero-add

-- a line's words, blanks and line feed are 25 bytes
pub line_bytes : (row : Row) → length (line row) ≡ 25 + (((length (decimal row.area) + length (decimal row.level)) + length (decimal row.used)) + length (decimal row.free))
unfolding line
line_bytes row = simp length-append (omega arith)

-- the row that a read past the end gives
abbrev pub blank : Row
blank = record { area = 0; level = 0; used = 0; free = 0 }

-- a line more
pub listing_more : (rows : List Row) (i : ℕ) → i < length rows → listing (take (i + 1) rows) ≡ listing (take i rows) ++ line (get_or rows i blank)
listing_more rows i within = ap listing (take_more rows i blank within) ∙ sym (flat_map_more line [] (take i rows) (get_or rows i blank))
