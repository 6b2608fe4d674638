use Rattle.std.specs.Prelude.{◌≡◌, ℕ, zero, suc, ◌-◌, Bool, true, false, cond, ◌&&◌, List, [], ◌∷◌, map, length, Some, None, Option, is_some, ◌==◌, ◌≢◌, nat_le, slice_get, slice_index}
use Rattle.std.specs.Option.{option_map_or}
use Rattle.chain.specs.declared.Spot.{Spot}

-- Records

-- what is owed of a type of record: a link that is set is read, only the last one set counts, and to set the link that a
-- record has changes nothing; so nothing but the link changes
pub record LinkLaws (R : Type 0) (link : R → ℕ) (relinked : R → ℕ → R) : Type 0 where
  pub relinked_link : (x : R) (n : ℕ) → link (relinked x n) ≡ n
  pub relinked_again : (x : R) (n m : ℕ) → relinked (relinked x n) m ≡ relinked x m
  pub relinked_same : (x : R) → relinked x (link x) ≡ x

-- record i stands at this place of the table
abbrev pub place : ℕ → ℕ
place i = i - 1

-- i is the number of a record, in a table of n
abbrev pub numbered : ℕ → ℕ → Bool
numbered n i = nat_le 1 i && nat_le i n

-- the link of record i
abbrev pub link_of : List ℕ → ℕ → ℕ
link_of links i = slice_index links (place i)

-- the list with f done to what stands at place k
abbrev pub changed : {R : Type 0} → (R → R) → List R → ℕ → List R
changed f [] k = []
changed f (x ∷ xs) zero = f x ∷ xs
changed f (x ∷ xs) (suc k) = x ∷ changed f xs k

-- the table with the link of record i set to n
abbrev pub relink : {R : Type 0} → (R → ℕ → R) → List R → ℕ → ℕ → List R
relink relinked records i n = changed (λ x. relinked x n) records (place i)

-- Chains

-- i is not in the list
abbrev pub Absent : ℕ → List ℕ → Type 0
Absent i [] = Unit {0}
Absent i (j ∷ js) = (i ≢ j) × Absent i js

-- from head on the links visit just these records, none twice, none outside the table; zero ends the chain
abbrev pub Chain : List ℕ → ℕ → List ℕ → Type 0
Chain links head [] = head ≡ 0
Chain links head (i ∷ is) = (head ≡ i) × (numbered (length links) i ≡ true) × Absent i is × Chain links (link_of links i) is

abbrev pub head_of : List ℕ → Option ℕ
head_of [] = None
head_of (i ∷ is) = Some i

abbrev pub tail_of : List ℕ → List ℕ
tail_of [] = []
tail_of (i ∷ is) = is

abbrev pub without : ℕ → List ℕ → List ℕ
without i [] = []
without i (j ∷ js) = cond (i == j) js (j ∷ without i js)

abbrev pub among : ℕ → List ℕ → Bool
among i [] = false
among i (j ∷ js) = cond (i == j) true (among i js)

-- Putting a record first

-- the table after: the record links to what was first
abbrev pub put_table : {R : Type 0} → (R → ℕ → R) → List R → ℕ → ℕ → List R
put_table relinked records head i = cond (numbered (length records) i) (relink relinked records i head) records

-- the head after, in a table of n
abbrev pub put_head : ℕ → ℕ → ℕ → ℕ
put_head n head i = cond (numbered n i) i head

-- a record that the chain does not visit comes before all that it visits
abbrev pub PutsFirst : List ℕ → ℕ → ℕ → List ℕ → ℕ → Type 0
PutsFirst links head i links' head' =
    (is : List ℕ) → Chain links head is → Absent i is → numbered (length links) i ≡ true → Chain links' head' (i ∷ is)

-- Taking the first record

-- the answer, in a table of n
abbrev pub first_in : ℕ → ℕ → Option ℕ
first_in n head = cond (numbered n head) (Some head) None

-- the head after
abbrev pub rest_of : List ℕ → ℕ → ℕ
rest_of links head = cond (numbered (length links) head) (link_of links head) head

-- the answer is the chain's first record, and the chain goes on without it
abbrev pub TakesFirst : List ℕ → ℕ → ℕ → Option ℕ → Type 0
TakesFirst links head head' answer =
    (is : List ℕ) → Chain links head is → (answer ≡ head_of is) × Chain links head' (tail_of is)

-- all that is said of taking the first record, in a table of n
abbrev pub Taken : ℕ → List ℕ → ℕ → ℕ → Option ℕ → Type 0
Taken n links head head' answer = (answer ≡ first_in n head) × (head' ≡ rest_of links head) × TakesFirst links head head' answer

-- Visiting the records of a chain

-- record i of the table
abbrev pub record_of : {R : Type 0} → List R → ℕ → Option R
record_of records i = cond (numbered (length records) i) (slice_get records (place i)) None

-- the records that the links visit from number i on, each with its number, at most n
abbrev pub visits : {R : Type 0} → (R → ℕ) → List R → ℕ → ℕ → List (ℕ × R)
visits link records zero i = []
visits link records (suc n) i = option_map_or (λ x. (i, x) ∷ visits link records n (link x)) (record_of records i) []

-- the records that are visited are just those of the chain, in its order
abbrev pub VisitsChain : {R : Type 0} → (R → ℕ) → List R → ℕ → List (ℕ × R) → Type 0
VisitsChain link records head visits =
    (is : List ℕ) → Chain (map link records) head is → map (λ v. v.0) visits ≡ is

-- Taking a record out

-- the record before i on the way from `at`, within n steps
abbrev pub before : List ℕ → ℕ → ℕ → ℕ → Option ℕ
before links zero at i = None
before links (suc n) at i =
    cond (numbered (length links) at) (cond (link_of links at == i) (Some at) (before links n (link_of links at) i)) None

-- a record behind another, with its own link
abbrev pub spot_behind : Option ℕ → ℕ → Option Spot
spot_behind None next = None
spot_behind (Some at) next = Some (record { before = Some at; next = next })

-- where record i stands on the way from head: behind which record, or first, with its own link; or nowhere.
-- It is looked for in at most as many steps as the table has records
abbrev pub spot_of : List ℕ → ℕ → ℕ → Option Spot
spot_of links head i =
    cond (numbered (length links) i)
    (cond (head == i) (Some (record { before = None; next = link_of links i })) (spot_behind (before links (length links) head i) (link_of links i)))
    None

abbrev pub Before : ℕ → Option ℕ → Type 0
Before n None = Unit {0}
Before n (Some at) = numbered n at ≡ true

-- a record that stands before another is one of the table of n
abbrev pub Inside : ℕ → Option Spot → Type 0
Inside n None = Unit {0}
Inside n (Some spot) = Before n spot.before

abbrev pub behind_table : {R : Type 0} → (R → ℕ → R) → List R → Option ℕ → ℕ → List R
behind_table relinked records None next = records
behind_table relinked records (Some at) next = relink relinked records at next

-- the table after: the record before it gets its link
abbrev pub out_table : {R : Type 0} → (R → ℕ → R) → List R → Option Spot → List R
out_table relinked records None = records
out_table relinked records (Some spot) = behind_table relinked records spot.before spot.next

abbrev pub behind_head : ℕ → Option ℕ → ℕ → ℕ
behind_head head None next = next
behind_head head (Some at) next = head

-- the head after: it moves on where the record was first
abbrev pub out_head : ℕ → Option Spot → ℕ
out_head head None = head
out_head head (Some spot) = behind_head head spot.before spot.next

-- the answer
abbrev pub is_there : Option Spot → Bool
is_there = is_some

-- the answer says whether the chain visited the record, and the chain visits the others as before
abbrev pub TakesOut : List ℕ → ℕ → ℕ → List ℕ → ℕ → Bool → Type 0
TakesOut links head i links' head' answer =
    (is : List ℕ) → Chain links head is → (answer ≡ among i is) × Chain links' head' (without i is)
