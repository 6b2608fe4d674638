-- What shading, marking and recovering do to one block; which elements of a table pass a test.
use Rattle.std.proofs.Common.{◌≡◌, ℕ, zero, suc, ◌+◌, ◌<◌, ◌≤◌, Bool, true, false, cond, not, ◌&&◌, ◌||◌, ltb, ◌⊎◌, List, [], ◌∷◌, length, get_or, take, set, is_some, Some, None, Option, sym, refl, ap, ◌∙◌, subst, inl, inr, arith, length-take}
use Rattle.std.proofs.lemmas.List.{get_or_past, get_or-take}
use Rattle.std.proofs.lemmas.Bool.{cases_lt, and_parts, and_cases, and_from, or_cases, or_left, or_right, false≢true, true≢false, eqb-true, eq-eqb, ne_eqb, lt-ltb, ltb-true, not-true, not_from_false}
use Rattle.state.specs.declared.word.Word.{Word}
use Rattle.state.specs.declared.word.Word.TheVariants.{Number, Pointer}
use Rattle.state.specs.declared.block.Block.{Block}
use Rattle.state.specs.declared.block.Entry.{Entry}
use Rattle.state.specs.declared.block.Colour.{Colour}
use Rattle.state.specs.declared.block.Colour.TheVariants.{White, Grey, Black}
use Rattle.state.specs.Tables.{map_from, some_from, every_from}
use Rattle.state.specs.Blocks as marks
use Rattle.state.specs.Blocks.{level_place, word_at, is_pointer_to, points_to, shaded_to, shade, coloured, is_white, entry_at, has_entry, marked, marked_by, with_marks, recovered_entry, with_recovered, entered_at}
use Rattle.state.specs.Memory.{Memory, block_at, changed_block, on_block}
use Rattle.laws.specs.Views.{is_black, white_in, black_in, entry_in, mark_in}
use Rattle.laws.proofs.Frames.{length_map_from, get_or_map_from, block_on, set_either}
use Rattle.state.specs.Turns.{clear_in}

-- Tables

-- what some element passes, one with a number passes, and the other way round
pub some_number : {X : Type 0} (ok : ℕ → X → Bool) (i : ℕ) (xs : List X) (d : X) → some_from ok i xs ≡ true → (n : ℕ) × ((n < length xs) × (ok (i + n) (get_or xs n d) ≡ true))
some_number ok i [] d h = absurd (false≢true h)
some_number ok i (x ∷ xs) d h =
    elim (or_cases (ok i x) (some_from ok (i + 1) xs) h) [
      | inl t ↦ (0, (omega arith, (let z : i + 0 ≡ i = omega arith in rw z t)))
      | inr t ↦
          let (n, (l, p)) = some_number ok (i + 1) xs d t in
          let z : (i + 1) + n ≡ i + suc n = omega arith in
          (suc n, (omega (arith, l), subst (λ k. ok k (get_or xs n d) ≡ true) z p))
    ]

pub some_from_lem : {X : Type 0} (ok : ℕ → X → Bool) (i : ℕ) (xs : List X) (d : X) (n : ℕ) → n < length xs → ok (i + n) (get_or xs n d) ≡ true → some_from ok i xs ≡ true
some_from_lem ok i [] d n l t = absurd (omega (arith, l))
some_from_lem ok i (x ∷ xs) d zero l t = let z : i + 0 ≡ i = omega arith in or_left (ok i x) _ (subst (λ k. ok k x ≡ true) z t)
some_from_lem ok i (x ∷ xs) d (suc n) l t =
    let z : i + suc n ≡ (i + 1) + n = omega arith in
    or_right (ok i x) _ (some_from_lem ok (i + 1) xs d n (omega (arith, l)) (subst (λ k. ok k (get_or xs n d) ≡ true) z t))

pub every_number : {X : Type 0} (ok : ℕ → X → Bool) (i : ℕ) (xs : List X) (d : X) → every_from ok i xs ≡ true → (n : ℕ) → n < length xs → ok (i + n) (get_or xs n d) ≡ true
every_number ok i [] d h n l = absurd (omega (arith, l))
every_number ok i (x ∷ xs) d h zero l = let z : i + 0 ≡ i = omega arith in rw z (and_parts (ok i x) _ h).0
every_number ok i (x ∷ xs) d h (suc n) l =
    let z : (i + 1) + n ≡ i + suc n = omega arith in
    subst (λ k. ok k (get_or xs n d) ≡ true) z (every_number ok (i + 1) xs d (and_parts (ok i x) _ h).1 n (omega (arith, l)))

pub every_fails : {X : Type 0} (ok : ℕ → X → Bool) (i : ℕ) (xs : List X) (d : X) → every_from ok i xs ≡ false → (n : ℕ) × (ok (i + n) (get_or xs n d) ≡ false)
every_fails ok i [] d h = absurd (true≢false h)
every_fails ok i (x ∷ xs) d h =
    elim (and_cases (ok i x) (every_from ok (i + 1) xs) h) [
      | inl here ↦ (0, let z : i + 0 ≡ i = omega arith in rw z here)
      | inr later ↦
          let (n, fails) = every_fails ok (i + 1) xs d later in
          let z : (i + 1) + n ≡ i + suc n = omega arith in
          (suc n, subst (λ k. ok k (get_or xs n d) ≡ false) z fails)
    ]

-- Slots and words

pub none-some : {x : Block} → None ≡ Some x → ⊥
none-some e = false≢true (ap is_some e)

pub some_same : {x y : Block} → Some x ≡ Some y → x ≡ y
some_same e = cc

pub some_block : (o : Option Block) → is_some o ≡ true → (k : Block) × (o ≡ Some k)
some_block None e = absurd (false≢true e)
some_block (Some k) e = (k, refl)

pub no_block : (o : Option Block) → is_some o ≡ false → o ≡ None
no_block None e = refl
no_block (Some k) e = absurd (true≢false e)

pub changed_some : (f : Block → Block) (o : Option Block) (x : Block) → changed_block f o ≡ Some x → (k : Block) × ((o ≡ Some k) × (f k ≡ x))
changed_some f None x e = absurd (none-some e)
changed_some f (Some k) x e = (k, (refl, some_same e))

pub pointer_same : {b c : ℕ} → Pointer b ≡ Pointer c → b ≡ c
pointer_same e = cc

pub number_pointer : {n b : ℕ} → Number n ≡ Pointer b → ⊥
number_pointer {n} {b} e = grind arith

-- a pointer in a table of words in which one was written
pub pointer_set : (ws : List Word) (i j : ℕ) (v : Word) (b : ℕ) → get_or (set ws i v) j (Number 0) ≡ Pointer b → (get_or ws j (Number 0) ≡ Pointer b) ⊎ (v ≡ Pointer b)
pointer_set ws i j v b e = elim (set_either ws i j v (Number 0)) [ inl new ↦ inr (sym new ∙ e) | inr old ↦ inl (sym old ∙ e) ]

-- Shading

pub shaded_not_white : (c : Colour) → is_white (shaded_to c) ≡ false
shaded_not_white White = refl
shaded_not_white Grey = refl
shaded_not_white Black = refl

pub shaded_black : (c : Colour) → is_black (shaded_to c) ≡ is_black c
shaded_black White = refl
shaded_black Grey = refl
shaded_black Black = refl

-- The block is shaded where a test says so.
abbrev pub shaded_where : (Block → Bool) → Block → Block
shaded_where test k = cond (test k) (shade k) k

module _ (test : Block → Bool) where
  black_where : (k : Block) (t : Bool) → is_black (cond t (shade k) k).colour ≡ is_black k.colour
  black_where k true = shaded_black k.colour
  black_where k false = refl

  white_where : (k : Block) (t : Bool) → is_white (cond t (shade k) k).colour ≡ true → is_white k.colour ≡ true
  white_where k true h = absurd (false≢true (sym (shaded_not_white k.colour) ∙ h))
  white_where k false h = h

  why_where : (k : Block) (t : Bool) → is_white (cond t (shade k) k).colour ≡ false → (is_white k.colour ≡ false) ⊎ (t ≡ true)
  why_where k true h = inr refl
  why_where k false h = inl h

  entries_where : (k : Block) (t : Bool) → (cond t (shade k) k).entries ≡ k.entries
  entries_where k true = refl
  entries_where k false = refl

  pub shaded_black_in : (o : Option Block) → black_in (changed_block (shaded_where test) o) ≡ black_in o
  shaded_black_in None = refl
  shaded_black_in (Some k) = black_where k (test k)

  pub shaded_back : (o : Option Block) → white_in (changed_block (shaded_where test) o) ≡ true → white_in o ≡ true
  shaded_back None h = h
  shaded_back (Some k) h = white_where k (test k) h

  pub shaded_why : (o : Option Block) → white_in (changed_block (shaded_where test) o) ≡ false → (white_in o ≡ false) ⊎ ((k : Block) × ((o ≡ Some k) × (test k ≡ true)))
  shaded_why None h = inl refl
  shaded_why (Some k) h =
      elim (why_where k (test k) h) [
        | inl w ↦ inl w
        | inr t ↦ inr (k, (refl, t))
      ]

  pub shaded_here : (o : Option Block) → ((k : Block) → o ≡ Some k → test k ≡ true) → white_in (changed_block (shaded_where test) o) ≡ false
  shaded_here None h = refl
  shaded_here (Some k) h = rw (h k refl) (shaded_not_white k.colour)

  pub shaded_entry : (o : Option Block) (m : ℕ) → entry_in (changed_block (shaded_where test) o) m ≡ entry_in o m
  shaded_entry None m = refl
  shaded_entry (Some k) m = rw (entries_where k (test k))

  pub shaded_mark : (o : Option Block) (m l : ℕ) → mark_in (changed_block (shaded_where test) o) m l ≡ mark_in o m l
  shaded_mark None m l = refl
  shaded_mark (Some k) m l = rw (entries_where k (test k))

-- Entries

-- a level's place is its own
pub level_place_lem : (m : ℕ) → 2 ≤ m → 2 + level_place m ≡ m
level_place_lem m h = omega (arith, h)

pub place_level : (n : ℕ) → level_place (2 + n) ≡ n
place_level n = omega arith

-- an entry that is there stands in the table
pub entry_inside : (k : Block) (m : ℕ) → has_entry k m ≡ true → level_place m < length k.entries
entry_inside k m h =
    elim (cases_lt (level_place m) (length k.entries)) [
      | inl l ↦ l
      | inr l ↦ absurd (false≢true (sym (ap is_some (get_or_past k.entries (level_place m) None l)) ∙ h))
    ]

-- a mark that is set has its entry
marked_entered : (o : Option Entry) (l : ℕ) → marks.mark_in o l ≡ true → is_some o ≡ true
marked_entered None l h = h
marked_entered (Some e) l h = refl

pub mark_entry : (o : Option Block) (m l : ℕ) → mark_in o m l ≡ true → entry_in o m ≡ true
mark_entry None m l h = h
mark_entry (Some k) m l h = marked_entered (entry_at k m) l h

-- an entry whose mark is clear
pub clear_from : (o : Option Block) (m l : ℕ) → entry_in o m ≡ true → mark_in o m l ≡ false → clear_in o m l ≡ true
clear_from None m l e c = e
clear_from (Some k) m l e c = and_from (has_entry k m) _ e (not_from_false (marked k m l) c)

pub clear_parts : (o : Option Block) (m l : ℕ) → clear_in o m l ≡ true → (entry_in o m ≡ true) × (mark_in o m l ≡ false)
clear_parts None m l h = absurd (false≢true h)
clear_parts (Some k) m l h = let q = and_parts (has_entry k m) _ h in (q.0, not-true (marked k m l) q.1)

-- A block with an entry above L or with a mark of level L.
pub entered_why : (L : ℕ) (k : Block) → length k.entries ≡ 3 → entered_at L k ≡ true → (m : ℕ) × ((2 ≤ m) × ((m ≤ 4) × ((has_entry k m ≡ true) × ((L < m) ⊎ (marked k m L ≡ true)))))
entered_why L k three h =
    let (n, (inside, t)) = some_number (λ m e. is_some e && (ltb L m || marks.mark_in e L)) 2 k.entries None h in
    let parts = and_parts (is_some (get_or k.entries n None)) _ t in
    let at : level_place (2 + n) ≡ n = place_level n in (
      2 + n,
      (
        omega arith,
        (
          omega (arith, inside, three),
          (
            subst (λ i. is_some (get_or k.entries i None) ≡ true) (sym at) parts.0,
            elim (or_cases (ltb L (2 + n)) _ parts.1) [
              | inl above ↦ inl (ltb-true L (2 + n) above)
              | inr mark ↦ inr (subst (λ i. marks.mark_in (get_or k.entries i None) L ≡ true) (sym at) mark)
            ],
          ),
        ),
      ),
    )

entered_by : (L : ℕ) (k : Block) (m : ℕ) → 2 ≤ m → has_entry k m ≡ true → (ltb L m || marked k m L) ≡ true → entered_at L k ≡ true
entered_by L k m lo h t =
    some_from_lem (λ n e. is_some e && (ltb L n || marks.mark_in e L)) 2 k.entries None (level_place m) (entry_inside k m h)
    (subst (λ i. (has_entry k m && (ltb L i || marked k m L)) ≡ true) (sym (level_place_lem m lo)) (and_from (has_entry k m) _ h t))

pub entered_by_entry : (L : ℕ) (k : Block) (m : ℕ) → 2 ≤ m → L < m → has_entry k m ≡ true → entered_at L k ≡ true
entered_by_entry L k m lo above h = entered_by L k m lo h (or_left (ltb L m) _ (lt-ltb L m above))

pub entered_by_mark : (L : ℕ) (k : Block) (m : ℕ) → 2 ≤ m → marked k m L ≡ true → entered_at L k ≡ true
entered_by_mark L k m lo h = entered_by L k m lo (marked_entered (entry_at k m) L h) (or_right (ltb L m) _ h)

-- Pointers

pub pointing : (b : ℕ) (w : Word) → is_pointer_to b w ≡ true → w ≡ Pointer b
pointing b (Number n) h = absurd (false≢true h)
pointing b (Pointer c) h = ap Pointer (eqb-true c b h)

-- some word of a block's words points to b
pub points_word : (k : Block) (b : ℕ) → points_to k b ≡ true → (i : ℕ) × ((i < k.size) × (word_at k i ≡ Pointer b))
points_word k b h =
    let (i, (inside, t)) = some_number (λ _ w. is_pointer_to b w) 0 (take k.size k.words) (Number 0) h in
    let long = length-take k.size k.words in
    let below : i < k.size = omega (arith, inside, long) in
    (i, (below, sym (get_or-take k.size k.words i (Number 0) below) ∙ pointing b _ t))

pub word_points : (k : Block) (b i : ℕ) → i < k.size → word_at k i ≡ Pointer b → points_to k b ≡ true
word_points k b i below e =
    let long = length-take k.size k.words in
    let there : i < length k.words = elim (cases_lt i (length k.words)) [
      | inl l ↦ l
      | inr l ↦ absurd (number_pointer (sym (get_or_past k.words i (Number 0) l) ∙ e))
    ] in
    some_from_lem (λ _ w. is_pointer_to b w) 0 (take k.size k.words) (Number 0) i (omega (arith, below, long, there))
    (subst (λ w. is_pointer_to b w ≡ true) (sym (get_or-take k.size k.words i (Number 0) below ∙ e)) (eq-eqb b b refl))

-- One block

changed_id : (o : Option Block) → changed_block (λ k. k) o ≡ o
changed_id None = refl
changed_id (Some k) = refl

-- a change of block c is done there, and at no other
pub on_here : (c : ℕ) (f : Block → Block) (s : Memory) → 1 ≤ c → block_at (on_block c f s) c ≡ changed_block f (block_at s c)
on_here c f s h = block_on c f s c h ∙ ap (λ t. changed_block (λ k. cond t (f k) k) (block_at s c)) (eq-eqb c c refl)

pub on_other : (c : ℕ) (f : Block → Block) (s : Memory) (b : ℕ) → 1 ≤ b → (b ≡ c → ⊥) → block_at (on_block c f s) b ≡ block_at s b
on_other c f s b h ne = block_on c f s b h ∙ ap (λ t. changed_block (λ k. cond t (f k) k) (block_at s b)) (ne_eqb b c ne) ∙ changed_id (block_at s b)

-- A block gets a colour.
pub black_here : (o : Option Block) → is_some o ≡ true → black_in (changed_block (coloured Black) o) ≡ true
black_here None h = h
black_here (Some k) h = refl

pub not_white_here : (o : Option Block) → white_in (changed_block (coloured Black) o) ≡ false
not_white_here None = refl
not_white_here (Some k) = refl

entries_coloured : (c : Colour) (t : Bool) (k : Block) → (cond t (coloured c k) k).entries ≡ k.entries
entries_coloured c true k = refl
entries_coloured c false k = refl

pub coloured_entry : (c : Colour) (t : Bool) (o : Option Block) (m : ℕ) → entry_in (changed_block (λ k. cond t (coloured c k) k) o) m ≡ entry_in o m
coloured_entry c t None m = refl
coloured_entry c t (Some k) m = rw (entries_coloured c t k)

pub coloured_mark : (c : Colour) (t : Bool) (o : Option Block) (m l : ℕ) → mark_in (changed_block (λ k. cond t (coloured c k) k) o) m l ≡ mark_in o m l
coloured_mark c t None m l = refl
coloured_mark c t (Some k) m l = rw (entries_coloured c t k)

-- Changes that keep the colour

pub same_white : (f : Block → Block) → ((k : Block) → (f k).colour ≡ k.colour) → (o : Option Block) → white_in (changed_block f o) ≡ white_in o
same_white f keeps None = refl
same_white f keeps (Some k) = ap is_white (keeps k)

pub same_black : (f : Block → Block) → ((k : Block) → (f k).colour ≡ k.colour) → (o : Option Block) → black_in (changed_block f o) ≡ black_in o
same_black f keeps None = refl
same_black f keeps (Some k) = ap is_black (keeps k)

-- Marks that are set

-- an element of a table by level
level_mapped : {X Y : Type 0} (f : ℕ → X → Y) (xs : List X) (m : ℕ) (d : X) (e : Y) → length xs ≡ 3 → 2 ≤ m → m ≤ 4 → get_or (map_from f 2 xs) (level_place m) e ≡ f m (get_or xs (level_place m) d)
level_mapped f xs m d e three lo hi =
    get_or_map_from f 2 xs (level_place m) d e (omega (arith, three, lo, hi)) ∙ ap (λ n. f n (get_or xs (level_place m) d)) (level_place_lem m lo)

some_mapped : (f : ℕ → Option Entry → Option Entry) → ((n : ℕ) (x : Option Entry) → is_some (f n x) ≡ is_some x) → (i : ℕ) (xs : List (Option Entry)) (n : ℕ) → is_some (get_or (map_from f i xs) n None) ≡ is_some (get_or xs n None)
some_mapped f keeps i [] n = refl
some_mapped f keeps i (x ∷ xs) zero = keeps i x
some_mapped f keeps i (x ∷ xs) (suc n) = some_mapped f keeps (i + 1) xs n

some_marked : (taken : ℕ → Bool) (x : Option Entry) → is_some (marked_by taken x) ≡ is_some x
some_marked taken None = refl
some_marked taken (Some e) = refl

-- The marks of an entry that is there are three.
abbrev pub ThreeMarks : Option Entry → Type 0
ThreeMarks o = (e : Entry) → o ≡ Some e → length e.marks ≡ 3

mark_taken_lem : (taken : ℕ → Bool) (o : Option Entry) (l : ℕ) → ThreeMarks o → 2 ≤ l → l ≤ 4 → marks.mark_in (marked_by taken o) l ≡ (marks.mark_in o l || (is_some o && taken l))
mark_taken_lem taken None l three lo hi = refl
mark_taken_lem taken (Some e) l three lo hi = level_mapped (λ n x. x || taken n) e.marks l false false (three e refl) lo hi

-- Of a block that is there: three entries, and three marks in the entry of level m.
abbrev pub Tabled : Option Block → ℕ → Type 0
Tabled o m = (k : Block) → o ≡ Some k → (length k.entries ≡ 3) × ThreeMarks (entry_at k m)

or-none : (x y z : Bool) → z ≡ false → x ≡ (x || (y && z))
or-none true y z h = refl
or-none false true z h = sym h
or-none false false z h = refl

-- a block whose marks are set where a test says so, and a mark that is set only there
pub marks_entry : (t : Bool) (taken : ℕ → ℕ → Bool) (o : Option Block) (m : ℕ) → entry_in (changed_block (λ k. cond t (with_marks taken k) k) o) m ≡ entry_in o m
marks_entry t taken None m = refl
marks_entry true taken (Some k) m = some_mapped (λ n e. marked_by (taken n) e) (λ n e. some_marked (taken n) e) 2 k.entries (level_place m)
marks_entry false taken (Some k) m = refl

pub marks_mark : (t : Bool) (taken : ℕ → ℕ → Bool) (o : Option Block) (m l : ℕ) → Tabled o m → 2 ≤ m → m ≤ 4 → 2 ≤ l → l ≤ 4 → (t ≡ false → taken m l ≡ false) →
    mark_in (changed_block (λ k. cond t (with_marks taken k) k) o) m l ≡ (mark_in o m l || (entry_in o m && taken m l))
marks_mark t taken None m l three lm hm ll hl only = refl
marks_mark true taken (Some k) m l three lm hm ll hl only =
    ap (λ e. marks.mark_in e l) (level_mapped (λ n e. marked_by (taken n) e) k.entries m None None (three k refl).0 lm hm) ∙ mark_taken_lem (taken m) (entry_at k m) l (three k refl).1 ll hl
marks_mark false taken (Some k) m l three lm hm ll hl only = or-none (marked k m l) (has_entry k m) (taken m l) (only refl)

pub marks_colour : (t : Bool) (taken : ℕ → ℕ → Bool) (k : Block) → (cond t (with_marks taken k) k).colour ≡ k.colour
marks_colour true taken k = refl
marks_colour false taken k = refl

-- Entries that are lost, marks that are cleared

lost_entry : (at : ℕ → Bool) (m : ℕ) (o : Option Entry) → is_some (recovered_entry at m o) ≡ (is_some o && not (at m && not (marks.mark_in o m)))
lost_entry at m None = refl
lost_entry at m (Some e) = is (at m && not (marks.mark_in (Some e) m)) (record { marks = map_from (λ l x. x && not (at l)) 2 e.marks })
  where
    is : (t : Bool) (x : Entry) → is_some (cond t None (Some x)) ≡ not t
    is true x = refl
    is false x = refl

cleared_mark : (at : ℕ → Bool) (m : ℕ) (o : Option Entry) (l : ℕ) → ThreeMarks o → 2 ≤ l → l ≤ 4 →
    marks.mark_in (recovered_entry at m o) l ≡ (is_some (recovered_entry at m o) && (marks.mark_in o l && not (at l)))
cleared_mark at m None l three lo hi = refl
cleared_mark at m (Some e) l three lo hi = is (at m && not (marks.mark_in (Some e) m)) (record { marks = map_from (λ n x. x && not (at n)) 2 e.marks }) (level_mapped (λ n x. x && not (at n)) e.marks l false false (three e refl) lo hi)
  where
    is : (t : Bool) (x : Entry) {y : Bool} → marks.mark_in (Some x) l ≡ y → marks.mark_in (cond t None (Some x)) l ≡ (is_some (cond t None (Some x)) && y)
    is true x h = refl
    is false x h = h

and_all : (x : Bool) → x ≡ (x && true)
and_all true = refl
and_all false = refl

mark_there : (o : Option Entry) (l : ℕ) → marks.mark_in o l ≡ (is_some o && (marks.mark_in o l && true))
mark_there None l = refl
mark_there (Some e) l = and_all (marks.mark_in (Some e) l)

pub recovered_entry_lem : (t : Bool) (at : ℕ → Bool) (o : Option Block) (m : ℕ) → Tabled o m → 2 ≤ m → m ≤ 4 →
    entry_in (changed_block (λ k. cond t (with_recovered at k) k) o) m ≡ (entry_in o m && not (t && (at m && not (mark_in o m m))))
recovered_entry_lem t at None m three lo hi = refl
recovered_entry_lem true at (Some k) m three lo hi = ap is_some (level_mapped (recovered_entry at) k.entries m None None (three k refl).0 lo hi) ∙ lost_entry at m (entry_at k m)
recovered_entry_lem false at (Some k) m three lo hi = and_all (has_entry k m)

pub recovered_mark : (t : Bool) (at : ℕ → Bool) (o : Option Block) (m l : ℕ) → Tabled o m → 2 ≤ m → m ≤ 4 → 2 ≤ l → l ≤ 4 →
    mark_in (changed_block (λ k. cond t (with_recovered at k) k) o) m l ≡ (entry_in (changed_block (λ k. cond t (with_recovered at k) k) o) m && (mark_in o m l && not (t && at l)))
recovered_mark t at None m l three lm hm ll hl = refl
recovered_mark true at (Some k) m l three lm hm ll hl =
    subst (λ e. marks.mark_in e l ≡ (is_some e && (marked k m l && not (at l)))) (sym (level_mapped (recovered_entry at) k.entries m None None (three k refl).0 lm hm)) (cleared_mark at m (entry_at k m) l (three k refl).1 ll hl)
recovered_mark false at (Some k) m l three lm hm ll hl = mark_there (entry_at k m) l

pub recovered_colour : (t : Bool) (at : ℕ → Bool) (k : Block) → (cond t (with_recovered at k) k).colour ≡ k.colour
recovered_colour true at k = refl
recovered_colour false at k = refl

pub recovered_length : (t : Bool) (at : ℕ → Bool) (k : Block) → length (cond t (with_recovered at k) k).entries ≡ length k.entries
recovered_length true at k = length_map_from (recovered_entry at) 2 k.entries
recovered_length false at k = refl

pub shaded_length : (t : Bool) (k : Block) → length (cond t (shade k) k).entries ≡ length k.entries
shaded_length true k = refl
shaded_length false k = refl
