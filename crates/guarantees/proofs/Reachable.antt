-- Reachable as the rules say it, and as the invariant says it: they differ at number 0 alone, which reads as slot 1.
use Rattle.std.proofs.Common.{◌≡◌, ℕ, zero, suc, refl, ap, ◌∙◌, get_or, arith}
use Rattle.chain.specs.Chain.{place}
use Rattle.state.specs.Memory.{Memory, free_slot, block_at}
use Rattle.state.specs.Pasts.{Root, from_register, on_hold, Reach, root, step, Recovers}
use Rattle.laws.specs.Roots as roots

root_by_rules : (s : Memory) {b : ℕ} → roots.Root s b → Root s b
root_by_rules s (roots.from_register r is e) = from_register r is e
root_by_rules s (roots.on_hold k l e h) = on_hold k e h

pub reached_by_rules : (s : Memory) {b : ℕ} → roots.Reach s b → Reach s b
reached_by_rules s (roots.root r) = root (root_by_rules s r)
reached_by_rules s (roots.step r q) = step (reached_by_rules s r) q

-- A number of the same slot that the invariant calls reachable.
pub record ReachedSlot (s : Memory) (b : ℕ) : Type 0 where
  pub number : ℕ
  pub same : place number ≡ place b
  pub reached : roots.Reach s number

same_block : (s : Memory) (a b : ℕ) → place a ≡ place b → block_at s a ≡ block_at s b
same_block s a b e = ap (λ i. (get_or s.slots i (free_slot 0)).block) e

pub reached_at : (s : Memory) {b : ℕ} → Reach s b → ReachedSlot s b
reached_at s (root (from_register {b = b} r is e)) = record { number = b; same = refl; reached = roots.root (roots.from_register r is e) }
reached_at s (root (on_hold {b = zero} k e h)) = record { number = 1; same = refl; reached = roots.root (roots.on_hold k (omega arith) e h) }
reached_at s (root (on_hold {b = suc b} k e h)) = record { number = suc b; same = refl; reached = roots.root (roots.on_hold k (omega arith) e h) }
reached_at s (step {p = p} {b = b} r q) =
    let before = reached_at s r in
    record {
      number = b;
      same = refl;
      reached = roots.step before.reached (record { block = q.block; there = same_block s before.number p before.same ∙ q.there; word = q.word; inside = q.inside; pointer = q.pointer });
    }

pub recovers_slot : (s s' : Memory) (a b : ℕ) → place a ≡ place b → Recovers s s' b → Recovers s s' a
recovers_slot s s' a b e r = ((r.0.0, same_block s a b e ∙ r.0.1), same_block s' a b e ∙ r.1)
