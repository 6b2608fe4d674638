-- The set that chained letters keep, after the chain of one block has changed.
use Rattle.std.specs.declared.alloc.Global.{Global}
use Rattle.std.specs.Prelude.{◌≡◌, ℕ, ◌-◌, ◌*◌, ◌<◌, ◌≤◌, Bool, true, false, not, ◌&&◌, ◌||◌, List, [], ◌∷◌, map, length, set, replicate, Some, None, Option, Vec, is_some, ◌==◌, ◌≢◌, nat_eq, slice_index, slice_index_or, slice_set, refl}
use Rattle.std.proofs.Math.Bool.{and-true, or-false, or-true}
use Rattle.std.proofs.Math.Path.{sym, ap}
use Rattle.std.proofs.Common.{subst, ◌∙◌, arith}
use Rattle.std.proofs.Math.Logic.{⊎_elim}
use Rattle.std.proofs.lemmas.Bool.{eqb-true, eq-eqb, ne_eqb, and_parts, and_from, and_left, and_right, cases_Bool, cases_eq, cond-true, cond-false, both_ways}
use Rattle.std.proofs.lemmas.List.{length-map, length-set, get_or-set_same, get_or-set_other, set-set, set-get_or, map-set}
use Rattle.std.proofs.lemmas.Option.{cond_some, none-some}
use Rattle.chain.specs.Chain.{numbered, link_of, among, Absent, Chain, head_of, tail_of, first_in, put_table, PutsFirst, TakesFirst, Taken}
use Rattle.chain.proofs.Chains.{numbered_parts, numbered_from, place_within, place_apart, chain_set, changed_set}
use Rattle.post.specs.Marks.{is_mark, mark_in, holds, same, added, without, none}
use Rattle.post.specs.Letters.{letter_of, letter_for, links_of, entry_at, level_at, waiting, posted, chained, bears, every, tidy, Tidy, NoLetters}
use Rattle.post.specs.declared.Mark.{Mark}
use Rattle.post.specs.declared.letters.Letter.{Letter}
use Rattle.post.specs.Sets.{sets, mark_parts, not_same, same_parts}
use Rattle.post.specs.Tables.{zero_at}
use Rattle.post.specs.Mail.{letter_own, letter_one, absent_among, absent_from, chain_from, chain_test, visited_is}

-- only marks wait
pub posted_marks : (heads : List ℕ) (letters : List Letter) (b m l : ℕ) → posted heads letters b m l ≡ true → is_mark (length heads) b m l ≡ true
unfolding posted
posted_marks heads letters b m l h = (and_parts (is_mark (length heads) b m l) _ h).0

pub posted_in : (heads : Vec ℕ Global) (letters : List Letter) (b m l : ℕ) → posted heads.items letters b m l ≡ true → is_mark heads.len b m l ≡ true
posted_in heads letters b m l h = ap (λ n. is_mark n b m l) heads.ok.0 ∙ posted_marks heads.items letters b m l h

-- One block

every_at : (f : ℕ → Bool) (is : List ℕ) → every f is ≡ true → (j : ℕ) → among j is ≡ true → f j ≡ true
every_at f [] h j e = absurd (both_ways false refl e)
every_at f (i ∷ is) h j e =
    let p = and_parts (f i) (every f is) h in
    ⊎_elim
    (λ (t : nat_eq j i ≡ true). rw (eqb-true j i t) p.0)
    (λ (t : nat_eq j i ≡ false). every_at f is p.1 j (sym (cond-false (j == i) true (among j is) t) ∙ e))
    (cases_Bool (j == i))

pub among_later : (j i : ℕ) (is : List ℕ) → among j is ≡ true → among j (i ∷ is) ≡ true
among_later j i is e = ⊎_elim (cond-true (j == i) true (among j is)) (λ t. cond-false (j == i) true (among j is) t ∙ e) (cases_Bool (j == i))

pub among_first : (i : ℕ) (is : List ℕ) → among i (i ∷ is) ≡ true
among_first i is = cond-true (i == i) true (among i is) (eq-eqb i i refl)

every_from_lem : (f : ℕ → Bool) (is : List ℕ) → ((j : ℕ) → among j is ≡ true → f j ≡ true) → every f is ≡ true
every_from_lem f [] h = refl
every_from_lem f (i ∷ is) h = and_from _ _ (h i (among_first i is)) (every_from_lem f is (λ j e. h j (among_later j i is e)))

-- what order in a block means, and how it is shown
pub row_from : (heads : List ℕ) (letters : List Letter) (b : ℕ) → tidy heads letters b ≡ true
    → Chain (links_of letters) (slice_index heads (b - 1)) (waiting heads letters b)
    × ((j : ℕ) → among j (waiting heads letters b) ≡ true → bears letters (length heads) b j ≡ true)
unfolding tidy
row_from heads letters b h =
    let p = and_parts (chained (links_of letters) (slice_index heads (b - 1)) (waiting heads letters b)) (every (bears letters (length heads) b) (waiting heads letters b)) h in
    (chain_from (links_of letters) (slice_index heads (b - 1)) (waiting heads letters b) p.0, every_at (bears letters (length heads) b) (waiting heads letters b) p.1)

row_make : (heads : List ℕ) (letters : List Letter) (b : ℕ) (is : List ℕ) → Chain (links_of letters) (slice_index heads (b - 1)) is
    → ((j : ℕ) → among j is ≡ true → bears letters (length heads) b j ≡ true) → tidy heads letters b ≡ true
unfolding tidy
row_make heads letters b is c h =
    let e : waiting heads letters b ≡ is = visited_is (links_of letters) (slice_index heads (b - 1)) is c in
    rw e (and_from _ _ (chain_test (links_of letters) (slice_index heads (b - 1)) is c) (every_from_lem (bears letters (length heads) b) is h))

-- a letter that bears a mark of block b is one of the block's six
bears_parts : (letters : List Letter) (n b j : ℕ) → bears letters n b j ≡ true
    → (is_mark n b (entry_at letters j) (level_at letters j) ≡ true) × (letter_of b (entry_at letters j) (level_at letters j) ≡ j) × (6 * (b - 1) < j) × (j ≤ 6 * b)
bears_parts letters n b j h =
    let p = and_parts (is_mark n b (entry_at letters j) (level_at letters j)) (letter_of b (entry_at letters j) (level_at letters j) == j) h in
    let e : letter_of b (entry_at letters j) (level_at letters j) ≡ j = eqb-true _ _ p.1 in
    let o = letter_own n b (entry_at letters j) (level_at letters j) p.0 in
    (p.0, e, rw e at o.0, rw e at o.1)

-- links that a chain visits, and that are as before
chain_kept : (links links' : List ℕ) (h : ℕ) (is : List ℕ) → length links' ≡ length links
    → ((j : ℕ) → among j is ≡ true → link_of links' j ≡ link_of links j) → Chain links h is → Chain links' h is
chain_kept links links' h [] long keep c = c
chain_kept links links' h (i ∷ is) long keep c = (
  c.0,
  ap (λ n. numbered n i) long ∙ c.1,
  c.2,
  rw (keep i (among_first i is)) (chain_kept links links' (link_of links i) is long (λ j e. keep j (among_later j i is e)) c.3),
)

-- The chain of the block of k becomes `is`, from h on
module _ (heads : List ℕ) (letters letters' : List Letter) (k : Mark) (h : ℕ) (is : List ℕ)
    (km : mark_in (length heads) k ≡ true) (order : Tidy heads letters) (long : length letters' ≡ length letters)
    (own : Chain (links_of letters') h is)
    (bear : (j : ℕ) → among j is ≡ true → bears letters' (length heads) k.block j ≡ true)
    (keep : (c j : ℕ) → (c ≢ k.block) → 1 ≤ c → bears letters (length heads) c j ≡ true
    → (link_of (links_of letters') j ≡ link_of (links_of letters) j) × (bears letters' (length heads) c j ≡ true)) where
  here : slice_index_or (slice_set heads (k.block - 1) h) (k.block - 1) 0 ≡ h
  here =
      let p = mark_parts (length heads) k.block k.entry k.level km in
      get_or-set_same heads (k.block - 1) h 0 (omega arith)

  there : (c : ℕ) → (c ≢ k.block) → 1 ≤ c → slice_index (slice_set heads (k.block - 1) h) (c - 1) ≡ slice_index heads (c - 1)
  there c ne low =
      let p = mark_parts (length heads) k.block k.entry k.level km in
      get_or-set_other heads (k.block - 1) (c - 1) h 0 (λ e. ne (omega arith))

  kept_chain : (c : ℕ) → (c ≢ k.block) → 1 ≤ c → c ≤ length heads → Chain (links_of letters') (slice_index (slice_set heads (k.block - 1) h) (c - 1)) (waiting heads letters c)
  kept_chain c ne low high =
      let r = row_from heads letters c (order c low high) in
      rw (there c ne low)
      (chain_kept (links_of letters) (links_of letters') (slice_index heads (c - 1)) (waiting heads letters c)
      (length-map letters' (λ x. x.next) ∙ long ∙ sym (length-map letters (λ x. x.next)))
      (λ j e. (keep c j ne low (r.1 j e)).0) r.0)

  -- what waits then
  own_waiting : waiting (slice_set heads (k.block - 1) h) letters' k.block ≡ is
  own_waiting = visited_is (links_of letters') _ is (rw here own)

  other_waiting : (c : ℕ) → (c ≢ k.block) → 1 ≤ c → c ≤ length heads → waiting (slice_set heads (k.block - 1) h) letters' c ≡ waiting heads letters c
  other_waiting c ne low high = visited_is (links_of letters') _ (waiting heads letters c) (kept_chain c ne low high)

  pub change_tidy : Tidy (slice_set heads (k.block - 1) h) letters'
  change_tidy c low high =
      let n : length (slice_set heads (k.block - 1) h) ≡ length heads = length-set heads (k.block - 1) h in
      let high' : c ≤ length heads = omega (arith, n) in
      ⊎_elim
      (λ (e : c ≡ k.block). rw e (row_make (slice_set heads (k.block - 1) h) letters' k.block is (rw here own) (λ j on. rw n (bear j on))))
      (λ (ne : c ≡ k.block → ⊥).
      row_make (slice_set heads (k.block - 1) h) letters' c (waiting heads letters c) (kept_chain c ne low high')
      (λ j on. rw n (keep c j ne low ((row_from heads letters c (order c low high')).1 j on)).1))
      (cases_eq c k.block)

  pub change_posted : (F : Bool → Bool → Bool) → ((a : Bool) → F a false ≡ a)
      → ((m l : ℕ) → is_mark (length heads) k.block m l ≡ true
      → among (letter_of k.block m l) is ≡ F (among (letter_of k.block m l) (waiting heads letters k.block)) (same k k.block m l))
      → (b m l : ℕ) → posted (slice_set heads (k.block - 1) h) letters' b m l ≡ F (posted heads letters b m l) (same k b m l)
  unfolding posted
  change_posted F F-false step b m l =
      ap (λ n. is_mark n b m l && among (letter_of b m l) (waiting (slice_set heads (k.block - 1) h) letters' b)) (length-set heads (k.block - 1) h)
      ∙ ⊎_elim
      (λ (on : is_mark (length heads) b m l ≡ true).
      let p = mark_parts (length heads) b m l on in
      rw on
      (⊎_elim
      (λ (e : b ≡ k.block). rw e (ap (among (letter_of k.block m l)) own_waiting ∙ step m l (rw e at on)))
      (λ (ne : b ≡ k.block → ⊥).
      ap (among (letter_of b m l)) (other_waiting b ne p.0 p.1)
      ∙ sym (F-false _)
      ∙ ap (F (among (letter_of b m l) (waiting heads letters b))) (sym (and_left _ _ (ne_eqb b k.block ne))))
      (cases_eq b k.block)))
      (λ (off : is_mark (length heads) b m l ≡ false). rw (off, not_same (length heads) k b m l km off) (sym (F-false false)))
      (cases_Bool (is_mark (length heads) b m l))

-- A letter is put first

among_put : (j i : ℕ) (is : List ℕ) (s : Bool) → (j == i) ≡ s → among j (i ∷ is) ≡ (among j is || s)
among_put j i is true e = rw (e, or-true (among j is))
among_put j i is false e = rw (e, or-false (among j is))

-- a mark has its letter to itself
own_letter : (n : ℕ) (k : Mark) (m l : ℕ) → mark_in n k ≡ true → is_mark n k.block m l ≡ true
    → (letter_of k.block m l == letter_for k) ≡ same k k.block m l
own_letter n k m l km on =
    ⊎_elim
    (λ (e : letter_of k.block m l ≡ letter_for k).
    let q = letter_one n k.block m l k.block k.entry k.level on km e in
    eq-eqb _ _ e ∙ sym (and_from _ _ (eq-eqb k.block k.block refl) (and_from _ _ (eq-eqb m k.entry q.1) (eq-eqb l k.level q.2))))
    (λ (ne : letter_of k.block m l ≡ letter_for k → ⊥).
    ne_eqb _ _ ne ∙ sym (apart ne))
    (cases_eq (letter_of k.block m l) (letter_for k))
  where
    apart : (letter_of k.block m l ≢ letter_for k) → same k k.block m l ≡ false
    apart ne =
        ⊎_elim
        (λ (s : same k k.block m l ≡ true). let q = same_parts k k.block m l s in absurd (ne (rw (q.1, q.2) refl)))
        (λ (s : same k k.block m l ≡ false). s)
        (cases_Bool (same k k.block m l))

-- the mark written into its letter
abbrev written : List Letter → Mark → ℕ → List Letter
written letters k n = slice_set letters (letter_for k - 1) (record { entry = k.entry; level = k.level; next = n })

abbrev next_to : Letter → ℕ → Letter
next_to x n = record { entry = x.entry; level = x.level; next = n }

-- the table after the letter was put first
put_table_lem : (letters : List Letter) (k : Mark) (h : ℕ) → numbered (length letters) (letter_for k) ≡ true
    → put_table next_to (written letters k 0) h (letter_for k) ≡ written letters k h
put_table_lem letters k h on =
    let at = letter_for k - 1 in
    let x : Letter = record { entry = k.entry; level = k.level; next = 0 } in
    let y : Letter = record { entry = k.entry; level = k.level; next = h } in
    let inside : at < length letters = place_within (length letters) (letter_for k) on in
    let n : length (slice_set letters at x) ≡ length letters = length-set letters at x in
    let inside' : at < length (slice_set letters at x) = rw n inside in
    cond-true _ _ _ (ap (λ z. numbered z (letter_for k)) n ∙ on)
    ∙ sym (changed_set (λ z. next_to z h) (slice_set letters at x) at x y inside' (sym (ap (λ z. next_to z h) (get_or-set_same letters at x x inside))))
    ∙ set-set letters at x y

-- a write to letter i leaves the others
field_other : (f : Letter → ℕ) (letters : List Letter) (i j : ℕ) (x : Letter) → 0 < i → 0 < j → (j ≢ i) → slice_index (map f (slice_set letters (i - 1) x)) (j - 1) ≡ slice_index (map f letters) (j - 1)
field_other f letters i j x low low' ne =
    ap (λ (ys : List ℕ). slice_index ys (j - 1)) (map-set f letters (i - 1) x) ∙ get_or-set_other (map f letters) (i - 1) (j - 1) (f x) 0 (place_apart j i low' low ne)

field_same : (f : Letter → ℕ) (letters : List Letter) (i : ℕ) (x : Letter) → numbered (length letters) i ≡ true → slice_index (map f (slice_set letters (i - 1) x)) (i - 1) ≡ f x
field_same f letters i x on =
    let inside : i - 1 < length (map f letters) = rw length-map (place_within (length letters) i on) in
    ap (λ (ys : List ℕ). slice_index ys (i - 1)) (map-set f letters (i - 1) x) ∙ get_or-set_same (map f letters) (i - 1) (f x) 0 inside

abbrev bearing : ℕ → ℕ → ℕ → ℕ → ℕ → Bool
bearing n b j m l = is_mark n b m l && letter_of b m l == j

bears_like : (letters' : List Letter) (n c j m l : ℕ) → entry_at letters' j ≡ m → level_at letters' j ≡ l → bearing n c j m l ≡ true → bears letters' n c j ≡ true
bears_like letters' n c j m l e e' h = ap (λ z. bearing n c j z (level_at letters' j)) e ∙ ap (bearing n c j m) e' ∙ h

module _ (heads : List ℕ) (letters letters' : List Letter) (k : Mark) (h : ℕ)
    (order : Tidy heads letters) (room : 6 * length heads ≤ length letters) (km : mark_in (length heads) k ≡ true)
    (off : among (letter_for k) (waiting heads letters k.block) ≡ false)
    (table : letters' ≡ put_table next_to (written letters k 0) (slice_index heads (k.block - 1)) (letter_for k))
    (puts : PutsFirst (links_of (written letters k 0)) (slice_index heads (k.block - 1)) (letter_for k) (links_of letters') h) where
  in_table : numbered (length letters) (letter_for k) ≡ true
  in_table =
      let p = mark_parts (length heads) k.block k.entry k.level km in
      let o = letter_own (length heads) k.block k.entry k.level km in
      numbered_from (length letters) (letter_for k) (omega arith) (omega arith)

  low : 0 < letter_for k
  low = (numbered_parts (length letters) (letter_for k) in_table).0

  is_written : letters' ≡ written letters k (slice_index heads (k.block - 1))
  is_written = table ∙ put_table_lem letters k (slice_index heads (k.block - 1)) in_table

  row : Chain (links_of letters) (slice_index heads (k.block - 1)) (waiting heads letters k.block) × ((j : ℕ) → among j (waiting heads letters k.block) ≡ true → bears letters (length heads) k.block j ≡ true)
  row =
      let p = mark_parts (length heads) k.block k.entry k.level km in
      row_from heads letters k.block (order k.block p.0 p.1)

  put_own : Chain (links_of letters') h (letter_for k ∷ waiting heads letters k.block)
  put_own =
      let is = waiting heads letters k.block in
      let head = slice_index_or heads (k.block - 1) 0 in
      let x : Letter = record { entry = k.entry; level = k.level; next = 0 } in
      let absent : Absent (letter_for k) is = absent_from (letter_for k) is off in
      let links : links_of (written letters k 0) ≡ set (links_of letters) (letter_for k - 1) 0 = map-set (λ x. x.next) letters (letter_for k - 1) x in
      let long : length (links_of (written letters k 0)) ≡ length letters = length-map (written letters k 0) (λ x. x.next) ∙ length-set letters (letter_for k - 1) x in
      puts is (rw links (chain_set (links_of letters) (letter_for k) 0 head is low absent row.0)) absent (ap (λ n. numbered n (letter_for k)) long ∙ in_table)

  -- what the letters bear
  put_bears : (c j : ℕ) → (j ≢ letter_for k) → bears letters (length heads) c j ≡ true → bears letters' (length heads) c j ≡ true
  put_bears c j ne on =
      let q = bears_parts letters (length heads) c j on in
      let z : 0 < j = omega arith in
      rw is_written
      (bears_like (written letters k (slice_index heads (k.block - 1))) (length heads) c j (entry_at letters j) (level_at letters j)
      (field_other (λ x. x.entry) letters (letter_for k) j _ low z ne) (field_other (λ x. x.level) letters (letter_for k) j _ low z ne) on)

  put_link : (j : ℕ) → (j ≢ letter_for k) → 0 < j → link_of (links_of letters') j ≡ link_of (links_of letters) j
  put_link j ne z = rw is_written (field_other (λ x. x.next) letters (letter_for k) j _ low z ne)

  own_bears : bears letters' (length heads) k.block (letter_for k) ≡ true
  own_bears =
      rw is_written
      (bears_like (written letters k (slice_index heads (k.block - 1))) (length heads) k.block (letter_for k) k.entry k.level
      (field_same (λ x. x.entry) letters (letter_for k) _ in_table) (field_same (λ x. x.level) letters (letter_for k) _ in_table)
      (and_from _ _ km (eq-eqb (letter_for k) (letter_for k) refl)))

  all_bear : (j : ℕ) → among j (letter_for k ∷ waiting heads letters k.block) ≡ true → bears letters' (length heads) k.block j ≡ true
  all_bear j on =
      ⊎_elim
      (λ (e : j ≡ letter_for k). rw e own_bears)
      (λ (ne : j ≡ letter_for k → ⊥).
      put_bears k.block j ne
      (row.1 j (sym (cond-false (j == letter_for k) true (among j (waiting heads letters k.block)) (ne_eqb j (letter_for k) ne)) ∙ on)))
      (cases_eq j (letter_for k))

  others : (c j : ℕ) → (c ≢ k.block) → 1 ≤ c → bears letters (length heads) c j ≡ true
      → (link_of (links_of letters') j ≡ link_of (links_of letters) j) × (bears letters' (length heads) c j ≡ true)
  others c j nc lc on =
      let p = mark_parts (length heads) k.block k.entry k.level km in
      let q = bears_parts letters (length heads) c j on in
      let o = letter_own (length heads) k.block k.entry k.level km in
      let ne : j ≡ letter_for k → ⊥ = λ e. nc (omega arith) in
      (put_link j ne (omega arith), put_bears c j ne on)

  same_long : length letters' ≡ length letters
  same_long = ap length is_written ∙ length-set letters (letter_for k - 1) _

  put_tidy : Tidy (slice_set heads (k.block - 1) h) letters'
  put_tidy = change_tidy heads letters letters' k h (letter_for k ∷ waiting heads letters k.block) km order same_long put_own all_bear others

  put_posted : posted (slice_set heads (k.block - 1) h) letters' ≡ added k (posted heads letters)
  put_posted =
      let is = waiting heads letters k.block in
      sets
      (change_posted heads letters letters' k h (letter_for k ∷ is) km order same_long put_own all_bear others ◌||◌ or-false
      (λ m l on. among_put (letter_of k.block m l) (letter_for k) is (same k k.block m l) (own_letter (length heads) k m l km on)))

-- the whole of a put, at the number i of the letter
abbrev pub Done : List ℕ → List Letter → List Letter → Mark → ℕ → ℕ → Type 0
Done heads letters letters' k h i =
    among i (waiting heads letters k.block) ≡ false
    → letters' ≡ put_table next_to (slice_set letters (i - 1) (record { entry = k.entry; level = k.level; next = 0 })) (slice_index heads (k.block - 1)) i
    → PutsFirst (links_of (slice_set letters (i - 1) (record { entry = k.entry; level = k.level; next = 0 }))) (slice_index heads (k.block - 1)) i (links_of letters') h
    → Tidy (slice_set heads (k.block - 1) h) letters' × (posted (slice_set heads (k.block - 1) h) letters' ≡ added k (posted heads letters))

pub put_done : (heads : List ℕ) (letters letters' : List Letter) (k : Mark) (h i : ℕ) → Tidy heads letters → 6 * length heads ≤ length letters
    → mark_in (length heads) k ≡ true → i ≡ letter_for k → Done heads letters letters' k h i
put_done heads letters letters' k h i order room km e =
    subst (Done heads letters letters' k h) (sym e)
    (λ off table puts. (put_tidy heads letters letters' k h order room km off table puts, put_posted heads letters letters' k h order room km off table puts))

-- the letter of a mark that does not wait does not wait either
pub not_among : (heads : List ℕ) (letters : List Letter) (k : Mark) → mark_in (length heads) k ≡ true
    → holds (posted heads letters) k ≡ false → among (letter_for k) (waiting heads letters k.block) ≡ false
unfolding posted
not_among heads letters k km off = rw km at off

-- The first letter is taken

head_tail : (i : ℕ) (is : List ℕ) → Some i ≡ head_of is → is ≡ i ∷ tail_of is
head_tail i [] e = absurd (none-some i (sym e))
head_tail i (j ∷ js) e = let z : i ≡ j = cc in rw z refl

pub first_numbered : (n h i : ℕ) → Some i ≡ first_in n h → numbered n i ≡ true
first_numbered n h i e = let p = cond_some (numbered n h) h i (sym e) in ap (numbered n) (sym p.1) ∙ p.0

among_take : (j i : ℕ) (is : List ℕ) (s : Bool) → Absent i is → (j == i) ≡ s → among j is ≡ (among j (i ∷ is) && not s)
among_take j i is true a e = rw (e, eqb-true j i e) (absent_among i is a)
among_take j i is false a e = rw e (sym (and-true (among j is)))

module _ (heads : List ℕ) (letters : List Letter) (b i h : ℕ) (order : Tidy heads letters) (low : 1 ≤ b) (high : b ≤ length heads)
    (takes : TakesFirst (links_of letters) (slice_index heads (b - 1)) h (Some i)) (k : Mark) (eb : k.block ≡ b)
    (em : k.entry ≡ entry_at letters i) (el : k.level ≡ level_at letters i) where
  full : Chain (links_of letters) (slice_index heads (b - 1)) (waiting heads letters b) × ((j : ℕ) → among j (waiting heads letters b) ≡ true → bears letters (length heads) b j ≡ true)
  full = row_from heads letters b (order b low high)

  is_first : waiting heads letters b ≡ i ∷ tail_of (waiting heads letters b)
  is_first = head_tail i (waiting heads letters b) (takes (waiting heads letters b) full.0).0

  first_on : among i (waiting heads letters b) ≡ true
  first_on = ap (among i) is_first ∙ among_first i (tail_of (waiting heads letters b))

  first_bears : (is_mark (length heads) b (entry_at letters i) (level_at letters i) ≡ true) × (letter_of b (entry_at letters i) (level_at letters i) ≡ i) × (6 * (b - 1) < i) × (i ≤ 6 * b)
  first_bears = bears_parts letters (length heads) b i (full.1 i first_on)

  taken_mark : mark_in (length heads) k ≡ true
  taken_mark = rw (eb, em, el) first_bears.0

  taken_letter : letter_for k ≡ i
  taken_letter = rw (eb, em, el) first_bears.1

  rest_chain : Chain (links_of letters) h (tail_of (waiting heads letters b))
  rest_chain = (takes (waiting heads letters b) full.0).1

  rest_absent : Absent i (tail_of (waiting heads letters b))
  rest_absent = let c : Chain (links_of letters) (slice_index heads (b - 1)) (i ∷ tail_of (waiting heads letters b)) = rw is_first at full.0 in c.2

  rest_bears : (j : ℕ) → among j (tail_of (waiting heads letters b)) ≡ true → bears letters (length heads) k.block j ≡ true
  rest_bears j on = rw eb (full.1 j (ap (among j) is_first ∙ among_later j i (tail_of (waiting heads letters b)) on))

  unchanged : (c j : ℕ) → (c ≢ k.block) → 1 ≤ c → bears letters (length heads) c j ≡ true
      → (link_of (links_of letters) j ≡ link_of (links_of letters) j) × (bears letters (length heads) c j ≡ true)
  unchanged c j ne lc on = (refl, on)

  pub take_tidy : Tidy (slice_set heads (b - 1) h) letters
  take_tidy = rw (← eb) (change_tidy heads letters letters k h (tail_of (waiting heads letters b)) taken_mark order refl rest_chain rest_bears unchanged)

  pub take_posted : posted (slice_set heads (b - 1) h) letters ≡ without k (posted heads letters)
  take_posted =
      rw (← eb)
      (sets
      (change_posted heads letters letters k h (tail_of (waiting heads letters b)) taken_mark order refl rest_chain rest_bears unchanged (λ a c. a && not c) and-true
      (λ m l on.
      among_take (letter_of k.block m l) i (tail_of (waiting heads letters b)) (same k k.block m l) rest_absent (ap (nat_eq (letter_of k.block m l)) (sym taken_letter) ∙ own_letter (length heads) k m l taken_mark on)
      ∙ ap (λ (is : List ℕ). among (letter_of k.block m l) is && not (same k k.block m l)) (sym is_first ∙ ap (waiting heads letters) (sym eb)))))

  pub take_waits : holds (posted heads letters) k ≡ true
  unfolding posted
  take_waits = and_from _ _ taken_mark (rw (taken_letter, eb) first_on)

-- and there is none
pub take_none : (heads : List ℕ) (letters : List Letter) (b h : ℕ) → Tidy heads letters → 1 ≤ b → b ≤ length heads
    → TakesFirst (links_of letters) (slice_index heads (b - 1)) h None → (m l : ℕ) → posted heads letters b m l ≡ false
unfolding posted
take_none heads letters b h order low high takes m l =
    let r = row_from heads letters b (order b low high) in
    and_right _ _ (ap (among (letter_of b m l)) (no_head (waiting heads letters b) (takes (waiting heads letters b) r.0).0))
  where
    no_head : (is : List ℕ) → None ≡ head_of is → is ≡ []
    no_head [] e = refl
    no_head (j ∷ js) e = absurd (none-some j e)

-- whether or not there is one, the letters are in order, and without one nothing changes
module _ (heads : List ℕ) (letters : List Letter) (b h : ℕ) where
  abbrev pub TakenFirst : Option ℕ → Type 0
  TakenFirst o = Taken (length letters) (links_of letters) (slice_index heads (b - 1)) h o

  pub none_stays : TakenFirst None → slice_set heads (b - 1) h ≡ heads
  none_stays t =
      ⊎_elim
      (λ (on : numbered (length letters) (slice_index heads (b - 1)) ≡ true). absurd (both_ways false refl (ap is_some (t.0 ∙ cond-true _ _ _ on))))
      (λ (off : numbered (length letters) (slice_index heads (b - 1)) ≡ false).
      let stays : h ≡ slice_index heads (b - 1) = t.1 ∙ cond-false _ _ _ (ap (λ n. numbered n (slice_index heads (b - 1))) (length-map letters (λ x. x.next)) ∙ off) in
      rw stays (set-get_or heads (b - 1) 0))
      (cases_Bool (numbered (length letters) (slice_index heads (b - 1))))

  pub taken_tidy : (o : Option ℕ) → Tidy heads letters → 1 ≤ b → b ≤ length heads → TakenFirst o → Tidy (slice_set heads (b - 1) h) letters
  taken_tidy None order low high t = rw (none_stays t) order
  taken_tidy (Some i) order low high t =
      take_tidy heads letters b i h order low high t.2 (record { block = b; entry = entry_at letters i; level = level_at letters i }) refl refl refl

-- The letters of a block and its marks

module _ (heads : List ℕ) (letters : List Letter) (b : ℕ) (order : Tidy heads letters) (low : 1 ≤ b) (high : b ≤ length heads) where
  -- a letter that waits bears a mark that waits
  pub letter_posted : (j : ℕ) → among j (waiting heads letters b) ≡ true → posted heads letters b (entry_at letters j) (level_at letters j) ≡ true
  unfolding posted
  letter_posted j on =
      let q = bears_parts letters (length heads) b j ((row_from heads letters b (order b low high)).1 j on) in
      and_from _ _ q.0 (rw q.1 on)

  -- a mark that waits has a letter that waits
  pub posted_letter : (m l : ℕ) → posted heads letters b m l ≡ true
      → (j : ℕ) × (among j (waiting heads letters b) ≡ true) × (entry_at letters j ≡ m) × (level_at letters j ≡ l)
  unfolding posted
  posted_letter m l on =
      let p = and_parts (is_mark (length heads) b m l) (among (letter_of b m l) (waiting heads letters b)) on in
      let j = letter_of b m l in
      let q = bears_parts letters (length heads) b j ((row_from heads letters b (order b low high)).1 j p.1) in
      let o = letter_one (length heads) b (entry_at letters j) (level_at letters j) b m l q.0 p.0 q.1 in
      (j, p.1, o.1, o.2)

pub row_chain : (heads : List ℕ) (letters : List Letter) (b : ℕ) → tidy heads letters b ≡ true → Chain (links_of letters) (slice_index heads (b - 1)) (waiting heads letters b)
row_chain heads letters b h = (row_from heads letters b h).0

-- No letter waits

none_tidy : (n : ℕ) (letters : List Letter) → Tidy (replicate n 0) letters
none_tidy n letters b _ _ = row_make (replicate n 0) letters b [] (zero_at n (b - 1)) (λ j on. absurd (both_ways false refl on))

none_posted : (n : ℕ) (letters : List Letter) → posted (replicate n 0) letters ≡ none
unfolding posted
none_posted n letters =
    sets (λ b m l. and_right _ _ (ap (among (letter_of b m l)) (visited_is (links_of letters) (slice_index (replicate n 0) (b - 1)) [] (zero_at n (b - 1)))))

pub no_letters : (n : ℕ) → NoLetters (replicate n 0)
no_letters n = (none_tidy n, none_posted n)
