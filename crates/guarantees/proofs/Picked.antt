-- What a take picks does not matter: the rules' pasts are the pasts with picks, and no taken mark is dropped.
use Rattle.std.proofs.Common.{◌≡◌, ℕ, zero, suc, ◌+◌, ◌≤◌, Bool, true, false, cond, not, ◌&&◌, ◌||◌, eqb, leb, List, [], ◌∷◌, ◌++◌, get_or, is_some, Some, None, Ok, Err, Option, Result, sym, refl, ap, ◌∙◌, subst, inl, inr, arith}
use Rattle.std.proofs.lemmas.Bool.{cases_Bool, and_parts, and_from, cond_both, cond-true, le-leb, leb-true, not-true}
use Rattle.post.specs.declared.Mark.{Mark}
use Rattle.post.specs.Marks.{Waits, none, same, without}
use Rattle.post.specs.Orders.{Run, Whole}
use Rattle.chain.proofs.Chains.{numbered_parts}
use Rattle.std.proofs.Math.Bool.{or-false}
use Rattle.post.specs.Sets.{sets, at}
use Rattle.state.specs.declared.block.Block.{Block}
use Rattle.state.specs.declared.block.Entry.{Entry}
use Rattle.state.specs.declared.refusal.Refusal.{Refusal}
use Rattle.state.specs.declared.refusal.Refusal.TheVariants.{PostUnfit, NotLowest}
use Rattle.state.specs.Tables.{map_from}
use Rattle.state.specs.Blocks.{level_place, entry_at, marked_by, with_marks}
use Rattle.state.specs.Blocks as blocks
use Rattle.state.specs.Layout.{Layout, top, slot_count, lowest, first_in, last_of}
use Rattle.state.specs.Lawful.{Lawful}
use Rattle.state.specs.Memory.{Memory, World, block_at, changed_block}
use Rattle.state.specs.Messages.{decoded}
use Rattle.state.specs.Turns.{on_memory, entries_recovered, roots_shaded, pass_begun, clear_in, clear_at, round_started, turn_at, turned}
use Rattle.state.specs.Drains.{mark_taken, marks_taken}
use Rattle.state.specs.Calls.{Outcome, Call, message, answered, fresh, any_waits, message_answered, accepted, refused}
use Rattle.state.specs.Pasts.{MarksOf, Past}
use Rattle.state.specs.Pasts as pasts
use Rattle.state.proofs.Drains.{drained_in_any_order}
use Rattle.laws.specs.Views.{stage}
use Rattle.laws.specs.Inductive.{Inductive}
use Rattle.guarantees.specs.Picks.{StartsRound, started_by, Leaves, round_starts, no_takes, PickedPast, making, then}
use Rattle.laws.proofs.Frames.{block_on}
use Rattle.laws.proofs.Making.{nothing_waits}
use Rattle.laws.proofs.Changed.{clear_from}
use Rattle.laws.proofs.Stages.{at_rest}
use Rattle.laws.proofs.Kept.{invariant_past}

-- One mark taken leaves the others

entry_mapped : (f : ℕ → Option Entry → Option Entry) → ((n : ℕ) → f n None ≡ None) → (i : ℕ) (es : List (Option Entry)) (n : ℕ) → get_or (map_from f i es) n None ≡ f (i + n) (get_or es n None)
entry_mapped f none i [] n = sym (none (i + n))
entry_mapped f none i (e ∷ es) zero = let z : i + 0 ≡ i = omega arith in rw z
entry_mapped f none i (e ∷ es) (suc n) =
    let z : (i + 1) + n ≡ i + suc n = omega arith in
    subst (λ k. get_or (map_from f (i + 1) es) n None ≡ f k (get_or es n None)) z (entry_mapped f none (i + 1) es n)

mark_kept : (taken : ℕ → Bool) (i : ℕ) (xs : List Bool) (n : ℕ) → taken (i + n) ≡ false → get_or (map_from (λ l x. x || taken l) i xs) n false ≡ get_or xs n false
mark_kept taken i [] n h = refl
mark_kept taken i (x ∷ xs) zero h = let z : i + 0 ≡ i = omega arith in rw (rw z at h) (or-false x)
mark_kept taken i (x ∷ xs) (suc n) h =
    let z : i + suc n ≡ (i + 1) + n = omega arith in
    mark_kept taken (i + 1) xs n (subst (λ k. taken k ≡ false) z h)

module _ (taken : ℕ → ℕ → Bool) (m l : ℕ) (lo : 2 ≤ m) (from : 2 ≤ l) (other : taken m l ≡ false) where
  entry_marked : (k : Block) → entry_at (with_marks taken k) m ≡ marked_by (taken m) (entry_at k m)
  entry_marked k =
      let z : 2 + level_place m ≡ m = omega arith in
      subst (λ n. entry_at (with_marks taken k) m ≡ marked_by (taken n) (entry_at k m)) z (entry_mapped (λ n e. marked_by (taken n) e) (λ n. refl) 2 k.entries (level_place m))

  clear_entry : (e : Option Entry) → (is_some (marked_by (taken m) e) && not (blocks.mark_in (marked_by (taken m) e) l)) ≡ (is_some e && not (blocks.mark_in e l))
  clear_entry None = refl
  clear_entry (Some e) =
      let z : 2 + level_place l ≡ l = omega arith in
      ap not (mark_kept (taken m) 2 e.marks (level_place l) (subst (λ n. taken m n ≡ false) (sym z) other))

  clear_block : (k : Block) → clear_in (Some (with_marks taken k)) m l ≡ clear_in (Some k) m l
  clear_block k = ap (λ e. is_some e && not (blocks.mark_in e l)) (entry_marked k) ∙ clear_entry (entry_at k m)

-- a mark can be set: its level is at most the top, its entry is there and it is clear
abbrev can_set : Layout → Memory → ℕ → ℕ → ℕ → Bool
can_set plan s b m l = leb l (top plan) && clear_at s b m l

module _ (plan : Layout) (a : ℕ) where
  other_mark : (k : Mark) (s : Memory) (b m l : ℕ) → 1 ≤ b → 2 ≤ m → 2 ≤ l → same k b m l ≡ false → clear_at (mark_taken plan a k s) b m l ≡ clear_at s b m l
  other_mark k s b m l first lo from ne =
      cond_both (leb k.level (top plan) && clear_at s k.block k.entry k.level) _ _ (λ (t : Memory). clear_at t b m l ≡ clear_at s b m l)
      (λ _. ap (λ o. clear_in o m l) (block_on k.block (with_marks set_one) s b first) ∙ here (eqb b k.block) refl (block_at s b))
      (λ _. refl)
    where
      set_one : ℕ → ℕ → Bool
      set_one n j = eqb n k.entry && eqb j k.level

      here : (t : Bool) → eqb b k.block ≡ t → (o : Option Block) → clear_in (changed_block (λ x. cond t (with_marks set_one x) x) o) m l ≡ clear_in o m l
      here true e None = refl
      here true e (Some x) = clear_block set_one m l lo from (subst (λ t. (t && set_one m l) ≡ false) e ne) x
      here false e None = refl
      here false e (Some x) = refl

  -- every waiting mark can be set
  AllCanSet : Memory → Waits → Type 0
  AllCanSet s w = (b m l : ℕ) → w b m l ≡ true → (1 ≤ b) × (2 ≤ m) × (2 ≤ l) × (can_set plan s b m l ≡ true)

  -- taking one of them leaves that true of the rest
  taken_rest : (k : Mark) (s : Memory) (w u : Waits) → AllCanSet s w → u ≡ without k w → AllCanSet (mark_taken plan a k s) u
  unfolding AllCanSet
  taken_rest k s w u all e b m l waits =
      let p = and_parts (w b m l) (not (same k b m l)) (sym (at e b m l) ∙ waits) in
      let old = all b m l p.0 in
      let parts = and_parts (leb l (top plan)) (clear_at s b m l) old.3 in
      (old.0, old.1, old.2, and_from _ _ parts.0 (other_mark k s b m l old.0 old.1 old.2 (not-true _ p.1) ∙ parts.1))

  last_can_be_set : (before : List Mark) (k : Mark) (first last : ℕ) (s : Memory) (w left : Waits) → AllCanSet s w → Run first last w (before ++ k ∷ []) left →
      can_set plan (marks_taken plan a before s) k.block k.entry k.level ≡ true
  unfolding AllCanSet
  last_can_be_set [] k first last s w left all (u, t, r) = (all k.block k.entry k.level t.1).3
  last_can_be_set (j ∷ before) k first last s w left all (u, t, r) = last_can_be_set before k first last (mark_taken plan a j s) u left (taken_rest j s w u all t.2) r

-- in a memory with the invariant every waiting mark can be set
module _ (plan : Layout) (law : Lawful plan) (w : World) (inv : Inductive plan w) where
  settable_can : (a : ℕ) → AllCanSet plan a w.memory w.waits
  unfolding AllCanSet
  settable_can a b m l waits =
      let q = inv.safe.settable b m l waits in
      ((numbered_parts (slot_count plan) b q.0).0, q.1, omega (arith, q.1, q.2), and_from _ _ (le-leb _ _ q.3) (clear_from (block_at w.memory b) m l q.4 q.5))

  pub taken_marks_are_set : (a : ℕ) (before : List Mark) (k : Mark) (left : Waits) → Run (first_in plan a) (last_of plan a) w.waits (before ++ k ∷ []) left →
      can_set plan (marks_taken plan a before w.memory) k.block k.entry k.level ≡ true
  taken_marks_are_set a before k left run = last_can_be_set plan a before k (first_in plan a) (last_of plan a) w.memory w.waits left (settable_can a) run

  -- only marks of the post's size wait
  marks_of_lem : (size : ℕ) → slot_count plan ≤ size → MarksOf size w.waits
  marks_of_lem size fits b m l waits =
      let q = inv.safe.settable b m l waits in
      let n = numbered_parts (slot_count plan) b q.0 in
      let high = law.high.1 in
      and_from _ _ (le-leb 1 b n.0) (and_from _ _ (le-leb b size (omega (arith, n.1, fits))) (and_from _ _ (le-leb 2 m q.1) (and_from _ _ (le-leb m l q.2) (le-leb l 4 (omega (arith, q.3, high))))))

  -- a round's start with picks is the one by the rules
  started : (a : ℕ) (marks : List Mark) (left : Waits) (size : ℕ) → slot_count plan ≤ size → Whole (first_in plan a) (last_of plan a) w.waits marks left → started_by plan a marks left w ≡ round_started plan a w
  started a marks left size fits whole =
      let same = drained_in_any_order plan a size w (marks_of_lem size fits) marks left whole in
      ap (on_memory (λ s. pass_begun plan a (top plan) (roots_shaded plan a (entries_recovered plan a s)))) (worlds same.0 same.1)
    where
      worlds : {s t : Memory} {u v : Waits} → s ≡ t → u ≡ v → ◌≡◌ {A = World} (record { memory = s; waits = u }) (record { memory = t; waits = v })
      worlds p q = λ i. record { memory = p i; waits = q i }

  turn_of : (size : ℕ) (bytes : List ℕ) (a : ℕ) → StartsRound plan size w bytes a → (answered plan size (message bytes) w).world ≡ round_started plan a w
  turn_of size bytes a s =
      ap (λ (o : Outcome). o.world) (cond-true (leb (slot_count plan) size) (message_answered plan (decoded bytes) w) (refused PostUnfit w) s.fits)
      ∙ ap (λ r. (message_answered plan r w).world) s.turn
      ∙ ap (λ (o : Outcome). o.world) (cond-true (lowest plan a) (accepted (turned plan a w)) (refused NotLowest w) s.low)
      ∙ ap (λ t. turn_at plan a t w) (at_rest (stage w.memory a) s.rests)

  pub left_by_rules : (size : ℕ) (c : Call) (v : World) → Leaves plan size w c v → v ≡ (answered plan size c w).world
  left_by_rules size c v (round_starts bytes a s marks left whole) = started a marks left size (leb-true _ _ s.fits) whole ∙ sym (turn_of size bytes a s)
  left_by_rules size c v (no_takes d none) = refl

-- Pasts with picks

module _ (plan : Layout) (law : Lawful plan) (size : ℕ) where
  pub picked_past : (calls : List Call) (w : World) → PickedPast plan size calls w → Past plan size w
  picked_past calls v (making w marks v' is_made) = pasts.making w marks v is_made
  picked_past calls v (then {calls = rest} {w = w} past c leaves) =
      let before = picked_past rest w past in
      subst (Past plan size) (sym (left_by_rules plan law w (invariant_past plan law size w before) size c v leaves)) (pasts.then before c)

  -- what the rules make of the calls
  after : List Call → World
  after [] = record { memory = fresh plan; waits = none }
  after (c ∷ calls) = (answered plan size c (after calls)).world

  -- at the making nothing waits, whatever set was handed in
  at_making : (w : Waits) → MarksOf size w → (v : World) → (fits : Bool) → (leb (slot_count plan) size && not (any_waits size w)) ≡ fits →
      cond fits (Ok (record { memory = fresh plan; waits = w })) (Err PostUnfit) ≡ Ok v → ◌≡◌ {A = World} v (record { memory = fresh plan; waits = none })
  at_making w marks v true fits e =
      let quiet = not-true _ (and_parts (leb (slot_count plan) size) (not (any_waits size w)) fits).1 in
      let empty : w ≡ none = sets (λ b m l. elim (cases_Bool (w b m l)) [ inl waits ↦ absurd (nothing_waits size w marks quiet b m l waits) | inr off ↦ off ]) in
      sym (ok_same e) ∙ ap (λ u. record { memory = fresh plan; waits = u }) empty
    where
      ok_same : {u v : World} → ◌≡◌ {A = Result World Refusal} (Ok u) (Ok v) → u ≡ v
      ok_same {u} {v} e = grind arith
  at_making w marks v false fits e = absurd (err_ok e)
    where
      err_ok : {r : Refusal} {v : World} → ◌≡◌ {A = Result World Refusal} (Err r) (Ok v) → ⊥
      err_ok {r} {v} e = grind arith

  ends_after : (calls : List Call) (v : World) → PickedPast plan size calls v → v ≡ after calls
  unfolding after
  ends_after calls v (making w marks v' is_made) = at_making w marks v (leb (slot_count plan) size && not (any_waits size w)) refl is_made
  ends_after calls v (then {calls = rest} {w = w} past c leaves) =
      left_by_rules plan law w (invariant_past plan law size w (picked_past rest w past)) size c v leaves ∙ ap (λ u. (answered plan size c u).world) (ends_after rest w past)

  pub same_end : (calls : List Call) (v v' : World) → PickedPast plan size calls v → PickedPast plan size calls v' → v ≡ v'
  same_end calls v v' past past' = ends_after calls v past ∙ sym (ends_after calls v' past')
