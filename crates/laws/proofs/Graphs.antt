-- Changes that leave registers, holds and words: what is reachable stays.
use Rattle.std.proofs.Common.{◌≡◌, ℕ, ◌+◌, ◌<◌, Bool, true, false, cond, get_or, is_some, Some, None, Option, sym, refl, ap, ◌∙◌, subst}
use Rattle.chain.specs.Chain.{place}
use Rattle.state.specs.declared.word.Word.TheVariants.{Number, Pointer}
use Rattle.state.specs.declared.block.Block.{Block}
use Rattle.state.specs.Registers.{held}
use Rattle.state.specs.Memory.{Memory, block_in, block_at, changed_block, each_block}
use Rattle.state.specs.Pasts.{Points}
use Rattle.laws.specs.Roots.{Root, from_register, on_hold, Reach, root, step}
use Rattle.laws.proofs.Frames.{block_each_any}

-- The block keeps its words, size and holds.
pub record KeepsWords (k x : Block) : Type 0 where
  pub words : x.words ≡ k.words
  pub size : x.size ≡ k.size
  pub holds : x.holds ≡ k.holds

-- Two slots are alike: both are free, or their blocks have the same words and holds.
abbrev pub Alike : Option Block → Option Block → Type 0
Alike None None = Unit {0}
Alike None (Some x) = ⊥
Alike (Some k) None = ⊥
Alike (Some k) (Some x) = KeepsWords k x

pub alike_refl : (o : Option Block) → Alike o o
alike_refl None = tt
alike_refl (Some k) = record { words = refl; size = refl; holds = refl }

alike_trans : (o p q : Option Block) → Alike o p → Alike p q → Alike o q
alike_trans None None q a b = b
alike_trans None (Some x) q a b = absurd a
alike_trans (Some k) None q a b = absurd a
alike_trans (Some k) (Some x) None a b = b
alike_trans (Some k) (Some x) (Some y) a b = record { words = b.words ∙ a.words; size = b.size ∙ a.size; holds = b.holds ∙ a.holds }

pub alike_sym : (o p : Option Block) → Alike o p → Alike p o
alike_sym None None a = a
alike_sym None (Some x) a = a
alike_sym (Some k) None a = a
alike_sym (Some k) (Some x) a = record { words = sym a.words; size = sym a.size; holds = sym a.holds }

-- Registers, holds and words are the same.
pub record SameGraph (s t : Memory) : Type 0 where
  pub registers : t.registers ≡ s.registers
  pub blocks : (b : ℕ) → Alike (block_at s b) (block_at t b)

pub graph_trans : (s t u : Memory) → SameGraph s t → SameGraph t u → SameGraph s u
graph_trans s t u g h = record { registers = h.registers ∙ g.registers; blocks = λ b. alike_trans (block_at s b) (block_at t b) (block_at u b) (g.blocks b) (h.blocks b) }

pub graph_sym : (s t : Memory) → SameGraph s t → SameGraph t s
graph_sym s t g = record { registers = sym g.registers; blocks = λ b. alike_sym (block_at s b) (block_at t b) (g.blocks b) }

alike_changed : (f : Block → Block) → ((k : Block) → KeepsWords k (f k)) → (o : Option Block) → Alike o (changed_block f o)
alike_changed f keeps None = tt
alike_changed f keeps (Some k) = keeps k

-- a change of each block that keeps its words
pub graph_each : (f : ℕ → Block → Block) → ((n : ℕ) (k : Block) → KeepsWords k (f n k)) → (s t : Memory) → t.slots ≡ each_block f s.slots → t.registers ≡ s.registers → SameGraph s t
graph_each f keeps s t e r =
    record {
      registers = r;
      blocks = λ b.
          subst (λ xs. Alike (block_at s b) (block_in xs b)) (sym e)
          (subst (Alike (block_at s b)) (sym (block_each_any f s.slots b)) (alike_changed (f (1 + place b)) (keeps (1 + place b)) (block_at s b)));
    }

-- the same slots and registers
pub graph_same : (s t : Memory) → t.slots ≡ s.slots → t.registers ≡ s.registers → SameGraph s t
graph_same s t e r = record { registers = r; blocks = λ b. subst (λ xs. Alike (block_at s b) (block_in xs b)) (sym e) (alike_refl (block_at s b)) }

pub keeps_cond : (t : Bool) (k x : Block) → KeepsWords k x → KeepsWords k (cond t x k)
keeps_cond true k x h = h
keeps_cond false k x h = record { words = refl; size = refl; holds = refl }

-- What stays

pub alike_used : (o p : Option Block) → Alike o p → is_some p ≡ is_some o
alike_used None None a = refl
alike_used None (Some x) a = absurd a
alike_used (Some k) None a = absurd a
alike_used (Some k) (Some x) a = refl

alike_block : (o : Option Block) (x : Block) → Alike o (Some x) → (k : Block) × ((o ≡ Some k) × KeepsWords k x)
alike_block None x a = absurd a
alike_block (Some k) x a = (k, (refl, a))

-- A pointer of a block, and a hold on it, go back where the block was there with the same words and holds.
pub points_alike : (s t : Memory) (p b : ℕ) → (is_some (block_at t p) ≡ true → Alike (block_at s p) (block_at t p)) → Points t p b → Points s p b
points_alike s t p b alike e =
    let (k, (was, kw)) = alike_block (block_at s p) e.block (subst (Alike (block_at s p)) e.there (alike (ap is_some e.there))) in
    record {
      block = k;
      there = was;
      word = e.word;
      inside = subst (λ n. e.word < n) kw.size e.inside;
      pointer = subst (λ ws. get_or ws e.word (Number 0) ≡ Pointer b) kw.words e.pointer;
    }

pub root_alike : (s t : Memory) → t.registers ≡ s.registers → (b : ℕ) → (0 < b → is_some (block_at t b) ≡ true → Alike (block_at s b) (block_at t b)) → Root t b → Root s b
root_alike s t registers b alike (from_register r ok e) = from_register r ok (subst (λ rs. held rs r ≡ Pointer b) registers e)
root_alike s t registers b alike (on_hold x first e h) =
    let (k, (was, kw)) = alike_block (block_at s b) x (subst (Alike (block_at s b)) e (alike first (ap is_some e))) in
    on_hold k first was (subst (λ n. 0 < n) kw.holds h)

module _ (s t : Memory) (g : SameGraph s t) where
  pub used_back : (b : ℕ) → is_some (block_at t b) ≡ is_some (block_at s b)
  used_back b = alike_used (block_at s b) (block_at t b) (g.blocks b)

  pub points_back : (p b : ℕ) → Points t p b → Points s p b
  points_back p b = points_alike s t p b (λ _. g.blocks p)

  pub root_back : (b : ℕ) → Root t b → Root s b
  root_back b = root_alike s t g.registers b (λ _ _. g.blocks b)

  pub reach_back : (b : ℕ) → Reach t b → Reach s b
  reach_back b (root r) = root (root_back b r)
  reach_back b (step {p} r e) = step (reach_back p r) (points_back p b e)

-- no root and no pointer leads out of what was reachable
pub reach_inside : (s t : Memory) → ((b : ℕ) → Root t b → Reach s b) → ((p b : ℕ) → Reach s p → Points t p b → Reach s b) → (b : ℕ) → Reach t b → Reach s b
reach_inside s t roots points b (root r) = roots b r
reach_inside s t roots points b (step {p} r e) = points p b (reach_inside s t roots points p r) e
