-- Marks and sets of marks. Assumes nothing.
use Rattle.std.specs.Prelude.{◌≡◌, ℕ, ◌≤◌, Bool, true, false, cond, not, ◌&&◌, ◌||◌, refl}
use Rattle.std.proofs.Common.{sym, ap, ◌∙◌, arith, ⊎_elim}
use Rattle.std.proofs.Math.Bool.{and-false, or-false}
use Rattle.std.proofs.Math.Path.{fun_ext}
use Rattle.std.proofs.lemmas.Bool.{cases_Bool, and_parts}
use Rattle.std.proofs.lemmas.Bool.Decides.{nat_tests}
use Rattle.post.specs.Marks.{Waits, is_mark, mark_in, same, holds, added, without, inside, outside, either, within, none, marks_of, sent, Quiet}
use Rattle.post.specs.declared.Mark.{Mark}

-- two sets with the same marks are one
pub sets : {v w : Waits} → ((b m l : ℕ) → v b m l ≡ w b m l) → v ≡ w
sets h = fun_ext (λ b. fun_ext (λ m. fun_ext (λ l. h b m l)))

pub at : {v w : Waits} → v ≡ w → (b m l : ℕ) → v b m l ≡ w b m l
at e b m l = ap (λ (x : Waits). x b m l) e

pub mark_parts : (n b m l : ℕ) → is_mark n b m l ≡ true → (1 ≤ b) × (b ≤ n) × (2 ≤ m) × (m ≤ l) × (l ≤ 4)
mark_parts n b m l h = grind (arith, nat_tests)

pub same_parts : (k : Mark) (b m l : ℕ) → same k b m l ≡ true → (b ≡ k.block) × (m ≡ k.entry) × (l ≡ k.level)
same_parts k b m l h = grind (arith, nat_tests)

-- what holds of a mark holds where it is met
pub same_at : (w : Waits) (k : Mark) (b m l : ℕ) → same k b m l ≡ true → w b m l ≡ holds w k
same_at w k b m l h = let s = same_parts k b m l h in rw (s.0, s.1, s.2)

more : (n n' b m l : ℕ) → n ≤ n' → is_mark n b m l ≡ true → is_mark n' b m l ≡ true
more n n' b m l h e = grind (arith, nat_tests)

pub same_self : (k : Mark) → holds (same k) k ≡ true
same_self k = grind (arith, nat_tests)

pub not_same : (n : ℕ) (k : Mark) (b m l : ℕ) → mark_in n k ≡ true → is_mark n b m l ≡ false → same k b m l ≡ false
not_same n k b m l km off = grind (arith, nat_tests)

leaves : (w s r : Bool) → (s ≡ true → r ≡ true) → ((w && not s) && not r) ≡ (w && not r)
leaves true true r h = rw (h refl)
leaves true false r h = refl
leaves false s r h = refl

-- a mark that is taken moves from the range to the receiver, if it has room
moves : (t w s r q : Bool) → (s ≡ true → (w ≡ true) × (r ≡ true) × (q ≡ true)) → ((t || s) || (((w && not s) && r) && q)) ≡ (t || ((w && r) && q))
moves true w s r q h = refl
moves false w true r q h = let p = h refl in rw (p.0, p.1, p.2)
moves false true false r q h = refl
moves false false false r q h = refl

drops : (t w s r q : Bool) → (s ≡ true → q ≡ false) → (t || (((w && not s) && r) && q)) ≡ (t || ((w && r) && q))
drops true w s r q h = refl
drops false w true r q h = rw (h refl, and-false (w && r), and-false ((w && false) && r))
drops false true false r q h = refl
drops false false false r q h = refl

hands : (h w s r v : Bool) → (s ≡ true → (w ≡ true) × (r ≡ true)) → ((w && not s) && r) ≡ (h || v) → (w && r) ≡ ((h || s) || v)
hands true w true r v p e = rw ((p refl).0, (p refl).1)
hands false w true r v p e = rw ((p refl).0, (p refl).1)
hands h true false r v p e = rw or-false e
hands h false false r v p e = rw or-false e

-- one turn of a loop that takes the marks of a range and hands them on
module _ (first last : ℕ) (w : Waits) (k : Mark) (in_range : within first last k.block ≡ true) where
  met : (b m l : ℕ) → same k b m l ≡ true → within first last b ≡ true
  met b m l h = ap (within first last) (same_parts k b m l h).0 ∙ in_range

  pub outside_more : outside first last (without k w) ≡ outside first last w
  outside_more = sets (λ b m l. leaves (w b m l) (same k b m l) (within first last b) (met b m l))

  handed_more : (n : ℕ) (t : Waits) → holds w k ≡ true → either (sent n k t) (marks_of n (inside first last (without k w))) ≡ either t (marks_of n (inside first last w))
  handed_more n t on =
      ⊎_elim
      (λ (yes : mark_in n k ≡ true).
      ap (λ (c : Bool). either (cond c (added k t) t) (marks_of n (inside first last (without k w)))) yes
      ∙ sets (λ b m l. moves (t b m l) (w b m l) (same k b m l) (within first last b) (is_mark n b m l) (λ h. (same_at w k b m l h ∙ on, met b m l h, same_at (is_mark n) k b m l h ∙ yes))))
      (λ (none : mark_in n k ≡ false).
      ap (λ (c : Bool). either (cond c (added k t) t) (marks_of n (inside first last (without k w)))) none
      ∙ sets (λ b m l. drops (t b m l) (w b m l) (same k b m l) (within first last b) (is_mark n b m l) (λ h. same_at (is_mark n) k b m l h ∙ none)))
      (cases_Bool (mark_in n k))

  pub run_more : (h v : Waits) → holds w k ≡ true → inside first last (without k w) ≡ either h v → inside first last w ≡ either (added k h) v
  run_more h v on e =
      sets (λ b m l. hands (h b m l) (w b m l) (same k b m l) (within first last b) (v b m l) (λ s. (same_at w k b m l s ∙ on, met b m l s)) (at e b m l))

-- and its end
module _ (first last : ℕ) (w : Waits) (quiet : Quiet first last w) where
  stays : (w r : Bool) → (r ≡ true → w ≡ false) → (w && not r) ≡ w
  stays w true h = rw (h refl)
  stays true false h = refl
  stays false false h = refl

  empty : (w r : Bool) → (r ≡ true → w ≡ false) → (w && r) ≡ false
  empty w true h = rw (h refl)
  empty true false h = refl
  empty false false h = refl

  pub outside_none : outside first last w ≡ w
  outside_none = sets (λ b m l. stays (w b m l) (within first last b) (quiet b m l))

  pub inside_none : inside first last w ≡ none
  inside_none = sets (λ b m l. empty (w b m l) (within first last b) (quiet b m l))

pub either_none : (t : Waits) → either t none ≡ t
either_none t = sets (λ b m l. or-false (t b m l))

-- a set of marks of n blocks, with room for at least as many
whole : (w q : Bool) → (w ≡ true → q ≡ true) → (w && q) ≡ w
whole true q h = h refl
whole false q h = refl

marks_all : (n room : ℕ) (w : Waits) → n ≤ room → ((b m l : ℕ) → w b m l ≡ true → is_mark n b m l ≡ true) → marks_of room w ≡ w
marks_all n room w h bounded = sets (λ b m l. whole (w b m l) (is_mark room b m l) (λ on. more n room b m l h (bounded b m l on)))

-- a turn of the loop and its end, over what it has taken and handed on
abbrev pub Handing : ℕ → ℕ → ℕ → Waits → Waits → Waits
Handing first last room t w = either t (marks_of room (inside first last w))

pub turn : (first last n n' : ℕ) (w w' t t' : Waits) (k : Mark) → within first last k.block ≡ true → holds w k ≡ true
    → w' ≡ without k w → n' ≡ n → t' ≡ sent n k t → Handing first last n' t' w' ≡ Handing first last n t w
turn first last n n' w w' t t' k in_range on ew en et = rw (ew, en, et) (handed_more first last w k in_range n t on)

pub over : (first last n : ℕ) (w t : Waits) → Quiet first last w → t ≡ Handing first last n t w
over first last n w t quiet =
    sym (either_none t) ∙ ap (λ (v : Waits). either t (marks_of n v)) (sym (inside_none first last w quiet))

pub all_handed : (first last size room : ℕ) (w t : Waits) → size ≤ room → ((b m l : ℕ) → w b m l ≡ true → is_mark size b m l ≡ true)
    → Handing first last room t w ≡ either t (inside first last w)
all_handed first last size room w t h bounded =
    ap (either t) (marks_all size room (inside first last w) h (λ b m l on. bounded b m l (and_parts (w b m l) (within first last b) on).0))
