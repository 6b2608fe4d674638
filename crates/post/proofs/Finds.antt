-- Searches through the marks of one block.
use Rattle.std.proofs.Common.{◌≡◌, ℕ, zero, suc, ◌-◌, ◌<◌, ◌≤◌, Bool, true, false, List, [], ◌∷◌, map, length, get_or, Some, None, Option, ◌==◌, MatchOption, refl, sym, ap, ◌∙◌, ◌⊎◌, inl, inr, arith, ⊎_elim}
use Rattle.std.specs.Option.{is_some, option_map_or}
use Rattle.std.specs.List.{All, AllWithin, HoldsAt}
use Rattle.std.proofs.lemmas.Bool.{cases_Bool, cases_eq, eqb-true, eq-eqb, ne_eqb, cond-true, cond-false, both_ways}
use Rattle.std.proofs.lemmas.List.{get_or-map}
use Rattle.std.proofs.lemmas.Option.{get_or_from_slice_get}
use Rattle.std.proofs.lemmas.List.Elements.{All-head, All-tail, All-from_all_within}
use Rattle.chain.specs.Chain.{numbered, among, record_of, visits}
use Rattle.post.specs.Marks.{Waits, is_mark, holds, Quiet, FoundBy, AnyAt}
use Rattle.post.specs.Letters.{entry_at, level_at, waiting, posted, Tidy, Read}
use Rattle.post.specs.Sets.{mark_parts}
use Rattle.post.specs.Mail.{read}
use Rattle.post.specs.Posted.{letter_posted, posted_letter, among_later, among_first}
use Rattle.post.specs.declared.Mark.{Mark}
use Rattle.post.specs.declared.letters.Letter.{Letter}
use Rattle.post.proofs.Loops.{one, one_self}

-- a search of one block for any mark
pub none_found : (block : ℕ) (w : Waits) (passes : Mark → Bool → Type 0) → FoundBy passes block w None → ((k : Mark) → passes k false → ⊥) → Quiet block block w
none_found block w passes found never b m l e =
    let k : Mark = record { block = b; entry = m; level = l } in
    ⊎_elim (λ (on : w b m l ≡ true). absurd (never k (found.answer k (one block b e) on))) (λ off. off) (cases_Bool (w b m l))

-- a search of its block for one mark
pub same_found : (k : Mark) (w : Waits) (passes : Mark → Bool → Type 0) (o : Option Mark) → FoundBy passes k.block w o
    → ((j : Mark) → passes j true → j ≡ k) → (passes k false → ⊥) → is_some o ≡ holds w k
same_found k w passes None found same differs =
    ⊎_elim (λ (on : holds w k ≡ true). absurd (differs (found.answer k refl on))) (λ off. sym off) (cases_Bool (holds w k))
same_found k w passes (Some j) found same differs = sym (ap (holds w) (sym (same j found.answer.2)) ∙ found.answer.1)

-- a search of one block for a mark level
pub level_found : (level block : ℕ) (w : Waits) (passes : Mark → Bool → Type 0) (o : Option Mark) → FoundBy passes block w o
    → ((k : Mark) (r : Bool) → passes k r → r ≡ (k.level == level)) → AnyAt level block block w (is_some o)
level_found level block w passes None found test = λ b m e.
    ⊎_elim
    (λ (on : w b m level ≡ true).
    let k : Mark = record { block = b; entry = m; level = level } in
    absurd (both_ways (level == level) (sym (test k false (found.answer k (one block b e) on))) (eq-eqb level level refl)))
    (λ off. off)
    (cases_Bool (w b m level))
level_found level block w passes (Some k) found test =
    let at = found.answer in
    let e : k.level ≡ level = eqb-true _ _ (sym (test k true at.2)) in
    (k.block, k.entry, rw at.0 (one_self block), ap (w k.block k.entry) (sym e) ∙ at.1)

-- The result of a search through a list: the first element that passes, or none, where `Pass x` and `Fail x` say how x is tested

abbrev pub FirstOf : {X : Type 0} → (X → Type 0) → (X → Type 0) → List X → Option X → Type 0
FirstOf Pass Fail xs o =
    MatchOption o (AllWithin Fail xs 0 (length xs)) (λ x. Pass x × (i : ℕ) × (i < length xs) × HoldsAt (λ y. y ≡ x) xs i × AllWithin Fail xs 0 i)

-- In a table

abbrev pub mark_of : ℕ → ℕ × ℕ → Mark
mark_of b p = record { block = b; entry = p.0; level = p.1 }

abbrev pub pairs : List (ℕ × ℕ)
pairs = (2, 2) ∷ (2, 3) ∷ (3, 3) ∷ (2, 4) ∷ (3, 4) ∷ (4, 4) ∷ []

abbrev pub marks_at : ℕ → List Mark
marks_at b = map (mark_of b) pairs

two_to_four : (x : ℕ) → 2 ≤ x → x ≤ 4 → (x ≡ 2) ⊎ ((x ≡ 3) ⊎ (x ≡ 4))
two_to_four x low high = grind arith

-- what holds of these six holds of each mark of the block
all_marks : (P : Mark → Type 0) (b m l : ℕ) → All P (marks_at b) → 2 ≤ m → m ≤ l → l ≤ 4 → P (mark_of b (m, l))
all_marks P b m l all low mid high = by (two_to_four m low (omega arith)) (two_to_four l (omega arith) high)
  where
    at : (i m' l' : ℕ) → i < 6 → m ≡ m' → l ≡ l' → get_or (marks_at b) i (mark_of b (m', l')) ≡ mark_of b (m', l') → P (mark_of b (m, l))
    at i m' l' h em el e = rw (em, el, ← e) (all i (mark_of b (m', l')) h)

    by : (m ≡ 2) ⊎ ((m ≡ 3) ⊎ (m ≡ 4)) → (l ≡ 2) ⊎ ((l ≡ 3) ⊎ (l ≡ 4)) → P (mark_of b (m, l))
    by (inl e) (inl f) = at 0 2 2 (omega arith) e f refl
    by (inl e) (inr (inl f)) = at 1 2 3 (omega arith) e f refl
    by (inr (inl e)) (inr (inl f)) = at 2 3 3 (omega arith) e f refl
    by (inl e) (inr (inr f)) = at 3 2 4 (omega arith) e f refl
    by (inr (inl e)) (inr (inr f)) = at 4 3 4 (omega arith) e f refl
    by (inr (inr e)) (inr (inr f)) = at 5 4 4 (omega arith) e f refl
    by (inr (inl e)) (inl f) = absurd (omega arith)
    by (inr (inr e)) (inl f) = absurd (omega arith)
    by (inr (inr e)) (inr (inl f)) = absurd (omega arith)

module _ (n b : ℕ) (w : Waits) (bound : (b m l : ℕ) → w b m l ≡ true → is_mark n b m l ≡ true) (passes : Mark → Bool → Type 0) where
  abbrev fails : Mark → Type 0
  fails k = holds w k ≡ true → passes k false

  pub pairs_found : (o : Option Mark) → FirstOf (λ k. (holds w k ≡ true) × passes k true) (λ k. holds w k ≡ true → passes k false) (marks_at b) o → FoundBy passes b w o
  pairs_found None none = record {
    answer = λ k e on.
        let p = mark_parts n k.block k.entry k.level (bound k.block k.entry k.level on) in
        (rw (← e) at (all_marks fails b k.entry k.level (All-from_all_within fails (marks_at b) none) p.2 p.3 p.4)) on;
  }
  pairs_found (Some k) (found, i, h, at, rest) =
      record { answer = (rw (at k) at (ap (λ (y : Mark). y.block) (get_or-map (mark_of b) pairs i (2, 2) k h)), found.0, found.1) }

-- In chains of letters

abbrev pub mark_in_letter : ℕ → ℕ × Letter → Mark
mark_in_letter b v = record { block = b; entry = v.1.entry; level = v.1.level }

-- the marks of block b in the letters that are visited from `head` on
abbrev pub marks_along : List Letter → ℕ → ℕ → List Mark
marks_along letters b head = map (mark_in_letter b) (visits (λ x. x.next) letters (length letters) head)

abbrev pub mark_at : List Letter → ℕ → ℕ → Mark
mark_at letters b j = record { block = b; entry = entry_at letters j; level = level_at letters j }

-- each letter that is visited stands in the table under its number
abbrev Stand : List Letter → List (ℕ × Letter) → Type 0
Stand letters [] = Unit {0}
Stand letters (v ∷ vs) = Read letters v.0 (Some v.1) × Stand letters vs

record_read : (letters : List Letter) (i : ℕ) (x : Letter) → record_of letters i ≡ Some x → Read letters i (Some x)
record_read letters i x e =
    ⊎_elim
    (λ (on : numbered (length letters) i ≡ true).
    read letters i x on (sym (get_or_from_slice_get letters (i - 1) x x (sym (cond-true _ _ _ on) ∙ e))))
    (λ (off : numbered (length letters) i ≡ false). absurd (both_ways false refl (ap is_some (sym (cond-false _ _ _ off) ∙ e))))
    (cases_Bool (numbered (length letters) i))

visits_stand : (letters : List Letter) (n i : ℕ) → Stand letters (visits (λ x. x.next) letters n i)
visits_stand letters zero i = tt
visits_stand letters (suc n) i = first (record_of letters i) refl (visits_stand letters n)
  where
    first : (o : Option Letter) → record_of letters i ≡ o → ((j : ℕ) → Stand letters (visits (λ x. x.next) letters n j))
        → Stand letters (option_map_or (λ x. (i, x) ∷ visits (λ x. x.next) letters n x.next) o [])
    first None e rest = tt
    first (Some x) e rest = (record_read letters i x e, rest x.next)

each_letter : (P : Mark → Type 0) (b : ℕ) (letters : List Letter) (vs : List (ℕ × Letter)) → Stand letters vs → All P (map (mark_in_letter b) vs)
    → (j : ℕ) → among j (map (λ v. v.0) vs) ≡ true → P (mark_at letters b j)
each_letter P b letters [] stand all j on = absurd (both_ways false refl on)
each_letter P b letters (v ∷ vs) stand all j on =
    ⊎_elim
    (λ (e : j ≡ v.0). rw (e, ← stand.0.1, ← stand.0.2) (All-head P (mark_in_letter b v) (map (mark_in_letter b) vs) all))
    (λ ne. each_letter P b letters vs stand.1 (All-tail P (mark_in_letter b v) (map (mark_in_letter b) vs) all) j (sym (cond-false (j == v.0) true (among j (map (λ v. v.0) vs)) (ne_eqb j v.0 ne)) ∙ on))
    (cases_eq j v.0)

which_letter : (b : ℕ) (letters : List Letter) (vs : List (ℕ × Letter)) → Stand letters vs → (i : ℕ) (k : Mark) → i < length (map (mark_in_letter b) vs)
    → get_or (map (mark_in_letter b) vs) i k ≡ k → (j : ℕ) × (among j (map (λ v. v.0) vs) ≡ true) × (k ≡ mark_at letters b j)
which_letter b letters [] stand i k h e = absurd (omega arith)
which_letter b letters (v ∷ vs) stand zero k h e = (v.0, among_first v.0 (map (λ v. v.0) vs), sym e ∙ rw (stand.0.1, stand.0.2) refl)
which_letter b letters (v ∷ vs) stand (suc i) k h e =
    let (j, on, is) = which_letter b letters vs stand.1 i k (omega arith) e in (j, among_later j v.0 (map (λ v. v.0) vs) on, is)

module _ (heads : List ℕ) (letters : List Letter) (b head : ℕ) (order : Tidy heads letters) (low : 1 ≤ b) (high : b ≤ length heads)
    (row : map (λ v. v.0) (visits (λ x. x.next) letters (length letters) head) ≡ waiting heads letters b) (passes : Mark → Bool → Type 0) where
  abbrev along : List (ℕ × Letter)
  along = visits (λ x. x.next) letters (length letters) head

  stand : Stand letters along
  stand = visits_stand letters (length letters) head

  pub letters_found : (o : Option Mark) → FirstOf (λ k. passes k true) (λ k. passes k false) (marks_along letters b head) o → FoundBy passes b (posted heads letters) o
  letters_found None none = record {
    answer = λ k e on.
        let (j, here, em, el) = posted_letter heads letters b order low high k.entry k.level (rw e at on) in
        let all = All-from_all_within (λ k. passes k false) (marks_along letters b head) none in
        rw (em, el, ← e) at (each_letter (λ k. passes k false) b letters along stand all j (ap (among j) row ∙ here));
  }
  letters_found (Some k) (pass, i, h, at, rest) =
      let (j, here, e) = which_letter b letters along stand i k h (at k) in
      record { answer = (ap (λ y. y.block) e, rw e (letter_posted heads letters b order low high j (ap (among j) (sym row) ∙ here)), pass) }
