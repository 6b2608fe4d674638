-- A marking ends soon: at level L over n slots within 2n(L−1) + 2 laps, since two laps set one more of the clear marks of level L.
use Rattle.std.proofs.Common.{◌≡◌, ℕ, suc, ◌+◌, ◌-◌, ◌*◌, ◌<◌, ◌≤◌, Bool, true, false, not, ◌&&◌, leb, ◌⊎◌, List, [], ◌∷◌, length, Option, sym, refl, ap, ◌∙◌, subst, inl, inr, mul_assoc, arith}
use Rattle.std.proofs.lemmas.Bool.{cases_Bool, cases_lt, and_from, and_parts, and_left, and_right, or_from, or_left, or_right, le-leb, true≢false}
use Rattle.chain.specs.Chain.{numbered}
use Rattle.plan.specs.Walk.{area_at}
use Rattle.state.specs.declared.block.Block.{Block}
use Rattle.state.specs.Layout.{Layout, top, slot_count, lowest, within, first_in, area_size, home, above}
use Rattle.state.specs.Lawful.{Lawful}
use Rattle.state.specs.Memory.{Memory, World, block_in, phase_at, is_marking}
use Rattle.state.specs.Turns.{recovering_above, recovers_at, settable, newly_marked, turned}
use Rattle.state.specs.Calls.{turns}
use Rattle.state.specs.Pasts.{turns_done, is_resting, resting, marking, round_begins, round_ends, marking_ends, times, round_within, AllRound, Laps, no_lap, lap}
use Rattle.laws.specs.Views.{entry, entry_in, mark, mark_in}
use Rattle.laws.specs.Inductive.{Inductive}
use Rattle.laws.proofs.Plans.{within_bounds, within_first, within_numbered, one_home, home_under, within_over}
use Rattle.laws.proofs.Parts.{newly_marked_by}
use Rattle.laws.proofs.Flags.{is_false}
use Rattle.laws.proofs.Swept.{Stays, swept_view}
use Rattle.laws.proofs.Tests.{Missing, not_ended, mark_waits}
use Rattle.laws.proofs.TurnKinds.{Turn, starts, scan, next_pass, to_sweep, sweep_slot, ends, turn_kind}
use Rattle.laws.proofs.Counting.{turn_or_refusal, along, times_first, times_rest, times_after, times-append}
use Rattle.laws.proofs.Kept.{invariant_turns}
use Rattle.laws.proofs.Inhabited.{Inhabited}
use Rattle.laws.proofs.Sums.{bit, bit_most, bit_less, bit_falls, sum_over, sum_most, sum_less, sum_falls}
use Rattle.laws.proofs.Rounds.{inside_from}
use Rattle.laws.proofs.Phases.{new_at, Starts, begins_starts, PhaseMove, stays, changes, phase_turn}
use Rattle.laws.proofs.Recoveries.{to_begin, still_ends, within_ends, pending_next, AllPending}
use Rattle.laws.proofs.Frames.{phase_same}

-- The entry of level m is there, and its mark of level l is clear.
abbrev open_in : Option Block → ℕ → ℕ → Bool
open_in o m l = entry_in o m && not (mark_in o m l)

abbrev open_at : Memory → ℕ → ℕ → ℕ → Bool
open_at s b m l = entry s b m && not (mark s b m l)

open_same : (s t : Memory) (b m l : ℕ) → entry t b m ≡ entry s b m → mark t b m l ≡ mark s b m l → open_at t b m l ≡ true → open_at s b m l ≡ true
open_same s t b m l e k h = subst (λ z. (z && not (mark s b m l)) ≡ true) e (subst (λ z. (entry t b m && not z) ≡ true) k h)

-- a block that stays but for its colour has the same marks
open_stays : (m l : ℕ) (o q : Option Block) → Stays o q → open_in q m l ≡ open_in o m l
open_stays m l o q h = ap (λ t. t && not (mark_in q m l)) (h.entry_same m) ∙ ap (λ t. entry_in o m && not t) (h.mark_same m l)

and-not : (t : Bool) → (t && not t) ≡ false
and-not true = refl
and-not false = refl

and-true : (t : Bool) → (t && true) ≡ t
and-true true = refl
and-true false = refl

module _ (plan : Layout) (law : Lawful plan) (x l : ℕ) (named : numbered (length plan.areas) x ≡ true) (level : (area_at plan.areas x).level ≡ l) (lo : 2 ≤ l) (hi : l ≤ top plan) where
  most : l ≤ 4
  most = let high = law.high in omega (arith, high.1, hi)

  -- a slot of x and the lowest area that has it
  area_in : (e b : ℕ) → lowest plan e ≡ true → within plan e b ≡ true → within plan x b ≡ true → above plan e l ≡ x
  area_in e b low here inside = subst (λ a. above plan a l ≡ x) (law.only_home e b low here) (home_under plan law x l named level b (within_numbered plan law e b low here) inside)

  -- How many marks of level l are clear in the entries of x.
  abbrev clear : Memory → ℕ
  clear s = sum_over (λ b. sum_over (λ m. bit (open_at s b m l)) 2 (l - 1)) (first_in plan x) (area_size plan x)

  clear_most : (s : Memory) → clear s ≤ area_size plan x * (l - 1)
  clear_most s =
      sum_most (λ b. sum_over (λ m. bit (open_at s b m l)) 2 (l - 1)) (l - 1)
      (λ b. let each = sum_most (λ m. bit (open_at s b m l)) 1 (λ m. bit_most (open_at s b m l)) 2 (l - 1) in omega (arith, each)) (first_in plan x) (area_size plan x)

  -- No mark of x becomes clear.
  abbrev NoneCleared : Memory → Memory → Type 0
  NoneCleared s t = (b m : ℕ) → within plan x b ≡ true → 2 ≤ m → m ≤ l → open_at t b m l ≡ true → open_at s b m l ≡ true

  row_less : (s t : Memory) → NoneCleared s t → (b : ℕ) → within plan x b ≡ true → sum_over (λ m. bit (open_at t b m l)) 2 (l - 1) ≤ sum_over (λ m. bit (open_at s b m l)) 2 (l - 1)
  row_less s t back b inside =
      sum_less (λ m. bit (open_at s b m l)) (λ m. bit (open_at t b m l)) 2 (l - 1) (λ m lom him. bit_less (open_at s b m l) (open_at t b m l) (back b m inside lom (omega (arith, him, lo))))

  clear_less : (s t : Memory) → NoneCleared s t → clear t ≤ clear s
  clear_less s t back =
      sum_less (λ b. sum_over (λ m. bit (open_at s b m l)) 2 (l - 1)) (λ b. sum_over (λ m. bit (open_at t b m l)) 2 (l - 1)) (first_in plan x) (area_size plan x)
      (λ b lob hib. row_less s t back b (inside_from plan x b lob hib))

  clear_falls : (s t : Memory) → NoneCleared s t → (b m : ℕ) → within plan x b ≡ true → 2 ≤ m → m ≤ l → open_at s b m l ≡ true → open_at t b m l ≡ false → clear t < clear s
  clear_falls s t back b m inside lom him was is =
      let bounds = within_bounds plan x b inside in
      sum_falls (λ c. sum_over (λ m. bit (open_at s c m l)) 2 (l - 1)) (λ c. sum_over (λ m. bit (open_at t c m l)) 2 (l - 1)) (first_in plan x) (area_size plan x)
      (λ c loc hic. row_less s t back c (inside_from plan x c loc hic)) b bounds.0 (omega (arith, bounds.0, bounds.1))
      (sum_falls (λ n. bit (open_at s b n l)) (λ n. bit (open_at t b n l)) 2 (l - 1)
      (λ n lon hin. bit_less (open_at s b n l) (open_at t b n l) (back b n inside lon (omega (arith, hin, lo)))) m lom (omega (arith, him, lo))
      (bit_falls (open_at s b m l) (open_at t b m l) was is))

  module _ (e : ℕ) (w v : World) (marks : marking w x ≡ true) (s : Starts plan law e w v) where
    -- the start of a round clears no mark of level l in x
    not_recovered : (b : ℕ) → within plan x b ≡ true → (within plan e b && recovers_at plan s.between.memory e l) ≡ false
    not_recovered b inside =
        elim (cases_Bool (within plan e b)) [
          | inl here ↦
              let phase : is_marking (phase_at s.between.memory (above plan e l)) ≡ true =
              ap (λ y. is_marking (phase_at s.between.memory y)) (area_in e b s.low here inside) ∙ ap is_marking (phase_same w.memory s.between.memory s.drain.only.phases x) ∙ marks in
              and_right (within plan e b) _ (and_left (recovering_above plan s.between.memory e l) _ (and_right (leb l (top plan)) _ (ap not phase)))
          | inr out ↦ and_left (within plan e b) _ out
        ]

    -- a mark that is set then, stays so long as its entry
    stays_set : (b m : ℕ) → within plan x b ≡ true → 2 ≤ m → m ≤ l → mark s.between.memory b m l ≡ true → open_at v.memory b m l ≡ false
    stays_set b m inside lom him set =
        let is : mark v.memory b m l ≡ entry v.memory b m =
        s.begin.mark_is b m l (within_first plan x b inside) lom (omega (arith, him, most)) lo most
        ∙ ap (λ t. entry v.memory b m && (t && not (within plan e b && recovers_at plan s.between.memory e l))) set
        ∙ ap (λ t. entry v.memory b m && not t) (not_recovered b inside) ∙ and-true (entry v.memory b m) in
        ap (λ t. entry v.memory b m && not t) is ∙ and-not (entry v.memory b m)

    started_clears : NoneCleared w.memory v.memory
    started_clears b m inside lom him h =
        let now = and_parts (entry v.memory b m) (not (mark v.memory b m l)) h in
        let first = within_first plan x b inside in
        let before = and_parts (entry s.between.memory b m) _ (sym (s.begin.entry_is b m first lom (omega (arith, him, most))) ∙ now.0) in
        elim (cases_Bool (mark w.memory b m l)) [
          | inl set ↦
              let still = s.drain.mark_is b m l first lom (omega (arith, him, most)) lo most ∙ or_left (mark w.memory b m l) _ set in
              absurd (true≢false (sym h ∙ stays_set b m inside lom him still))
          | inr unset ↦ and_from (entry w.memory b m) (not (mark w.memory b m l)) (sym (s.drain.entry_is b m first) ∙ before.0) (ap not unset)
        ]

    -- and it sets a mark that waited
    started_falls : Inductive plan w → (b m : ℕ) → within plan e b ≡ true → above plan e l ≡ x → w.waits b m l ≡ true → clear v.memory < clear w.memory
    started_falls inv b m here over waits =
        let can = inv.safe.settable b m l waits in
        let inside = within_over plan law x l named level e b s.low over here in
        let taken = and_from (within plan e b) _ here (and_from (leb l (top plan)) _ (le-leb l (top plan) hi) waits) in
        let set = s.drain.mark_is b m l (within_first plan x b inside) can.1 (omega (arith, can.2, most)) lo most ∙ or_right (mark w.memory b m l) _ (and_from (entry w.memory b m) _ can.4 taken) in
        clear_falls w.memory v.memory started_clears b m inside can.1 can.2
        (and_from (entry w.memory b m) (not (mark w.memory b m l)) can.4 (ap not can.5))
        (stays_set b m inside can.1 can.2 set)

  module _ (e : ℕ) (low-e : lowest plan e ≡ true) (w v : World) where
    -- no turn clears a mark of level l in x
    none_cleared : marking w x ≡ true → Turn plan law e low-e w v → NoneCleared w.memory v.memory
    none_cleared marks (starts at u drain begin same) b m inside lom him h = started_clears e w v marks (record { low = low-e; rests = at; between = u; drain = drain; begin = begin }) b m inside lom him h
    none_cleared marks (scan L p k at n there _ is_grey_lem sc) b m inside lom him h =
        open_same w.memory v.memory b m l (sc.marks.entry_is b m (within_first plan x b inside)) (sc.marks.mark_is b m l (within_first plan x b inside)) h
    none_cleared marks (next_pass L at more begin same) b m inside lom him h =
        open_same w.memory v.memory b m l (begin.shades.marks.entry_is b m (within_first plan x b inside)) (begin.shades.marks.mark_is b m l (within_first plan x b inside)) h
    none_cleared marks (to_sweep L at moves now _ _ same) b m inside lom him h = subst (λ xs. open_in (block_in xs b) m l ≡ true) moves.slots h
    none_cleared marks (sweep_slot k at there sweep same) b m inside lom him h = swept_view plan law e low-e w.memory v.memory k sweep (λ o. open_in o m l) refl (open_stays m l) b h
    none_cleared marks (ends k at past s) b m inside lom him h = subst (λ xs. open_in (block_in xs b) m l ≡ true) s.slots h

    -- a mark that waits in an area waits on until a round of the area begins
    waits_on : Turn plan law e low-e w v → (f : ℕ) → lowest plan f ≡ true → round_begins f w v ≡ false → (b m : ℕ) → within plan f b ≡ true → w.waits b m l ≡ true → v.waits b m l ≡ true
    waits_on (starts at u drain begin same) f low-f not-now b m here waits =
        elim (cases_Bool (within plan e b)) [
          | inl there ↦
              let now : round_begins e w v ≡ true = and_from (resting w e) (not (resting v e)) (ap is_resting at) (ap (λ t. not (is_resting t)) begin.stage_is) in
              absurd (true≢false (sym (subst (λ a. round_begins a w v ≡ true) (one_home plan law e f b low-e low-f there here) now) ∙ not-now))
          | inr out ↦ ap (λ (z : ℕ → ℕ → ℕ → Bool). z b m l) same ∙ drain.waits_is b m l ∙ and_from (w.waits b m l) _ waits (ap not out)
        ]
    waits_on (scan L p y at n there _ is_grey_lem sc) f low-f not-now b m here waits = sc.waits_is b m l ∙ or_left (w.waits b m l) _ waits
    waits_on (next_pass L at more begin same) f low-f not-now b m here waits = ap (λ (z : ℕ → ℕ → ℕ → Bool). z b m l) same ∙ waits
    waits_on (to_sweep L at moves is _ _ same) f low-f not-now b m here waits = ap (λ (z : ℕ → ℕ → ℕ → Bool). z b m l) same ∙ waits
    waits_on (sweep_slot y at there sweep same) f low-f not-now b m here waits = ap (λ (z : ℕ → ℕ → ℕ → Bool). z b m l) same ∙ waits
    waits_on (ends y at past s) f low-f not-now b m here waits = ap (λ (z : ℕ → ℕ → ℕ → Bool). z b m l) s.waits ∙ waits

  -- the same for every call of a turn
  turn_less : (e : ℕ) (w : World) → Inductive plan w → marking w x ≡ true → clear (turns plan e w).world.memory ≤ clear w.memory
  turn_less e w inv marks =
      turn_or_refusal plan (λ v. clear v.memory ≤ clear w.memory) e w
      (λ low. clear_less w.memory (turned plan e w).memory (none_cleared e low w (turned plan e w) marks (turn_kind plan law e low w inv.sound))) (omega arith)

  turn_waits : (e : ℕ) (w : World) → Inductive plan w → (f : ℕ) → lowest plan f ≡ true → (b m : ℕ) → within plan f b ≡ true → w.waits b m l ≡ true →
      round_begins f w (turns plan e w).world ≡ false → (turns plan e w).world.waits b m l ≡ true
  turn_waits e w inv f low-f b m here waits =
      turn_or_refusal plan (λ v. round_begins f w v ≡ false → v.waits b m l ≡ true) e w
      (λ low not-now. waits_on e low w (turned plan e w) (turn_kind plan law e low w inv.sound) f low-f not-now b m here waits) (λ _. waits)

  -- A mark of level l waits in a lowest area of x.
  record SomeMark (w : World) : Type 0 where
    area : ℕ
    low : lowest plan area ≡ true
    over : above plan area l ≡ x
    slot : ℕ
    kind_of : ℕ
    inside : within plan area slot ≡ true
    waits : w.waits slot kind_of l ≡ true

  -- In these turns the marking of x ends, or x marks still and a mark is set that was clear.
  data Progress (areas : List ℕ) (w : World) : Type 0 where
    marking_over : 1 ≤ times plan (marking_ends x) areas w → Progress areas w
    falls : marking (turns_done plan areas w) x ≡ true → clear (turns_done plan areas w).memory < clear w.memory → Progress areas w

  -- After these turns x marks still, and a mark waits in it.
  record Waiting (areas : List ℕ) (w : World) : Type 0 where
    marks : marking (turns_done plan areas w) x ≡ true
    less : clear (turns_done plan areas w).memory ≤ clear w.memory
    mark_there : SomeMark (turns_done plan areas w)

  module _ (e : ℕ) (areas : List ℕ) (w : World) (inv : Inductive plan w) (marks : marking w x ≡ true) where
    ends_now : marking (turns plan e w).world x ≡ not (marking w x) → 1 ≤ times plan (marking_ends x) (e ∷ areas) w
    ends_now c = times_first plan (marking_ends x) e areas w (and_from (marking w x) (not (marking (turns plan e w).world x)) marks (ap not (c ∙ ap not marks)))

    progress_later : Progress areas (turns plan e w).world → Progress (e ∷ areas) w
    progress_later (marking_over h) = marking_over (times_rest plan (marking_ends x) e areas w h)
    progress_later (falls still less) = let one = turn_less e w inv marks in falls still (omega (arith, one, less))

    waiting_later : Waiting areas (turns plan e w).world → Waiting (e ∷ areas) w
    waiting_later h = let one = turn_less e w inv marks in record { marks = h.marks; less = omega (arith, one, h.less); mark_there = h.mark_there }

    keep_turn : (marking (turns plan e w).world x ≡ true → (1 ≤ times plan (marking_ends x) areas (turns plan e w).world) ⊎ ((marking (turns_done plan areas (turns plan e w).world) x ≡ true) × (clear (turns_done plan areas (turns plan e w).world).memory ≤ clear (turns plan e w).world.memory))) →
        PhaseMove plan law e x l w (turns plan e w).world →
        (1 ≤ times plan (marking_ends x) (e ∷ areas) w) ⊎ ((marking (turns_done plan (e ∷ areas) w) x ≡ true) × (clear (turns_done plan (e ∷ areas) w).memory ≤ clear w.memory))
    keep_turn rest (changes c _ _ _ _) = inl (ends_now c)
    keep_turn rest (stays same moves missing) =
        elim (rest (same ∙ marks)) [
          | inl h ↦ inl (times_rest plan (marking_ends x) e areas w h)
          | inr h ↦ inr (h.0, (let one = turn_less e w inv marks in omega (arith, one, h.1)))
        ]

  -- the marking ends, or no mark is cleared
  keep_along : (areas : List ℕ) (w : World) → Inductive plan w → marking w x ≡ true → (1 ≤ times plan (marking_ends x) areas w) ⊎ ((marking (turns_done plan areas w) x ≡ true) × (clear (turns_done plan areas w).memory ≤ clear w.memory))
  keep_along [] w inv marks = inr (marks, omega arith)
  keep_along (e ∷ areas) w inv marks = keep_turn e areas w inv marks (keep_along areas (turns plan e w).world (invariant_turns plan law e w inv)) (phase_turn plan law x l named level lo hi e w inv.sound)

  fall_then : (e : ℕ) (areas : List ℕ) (w : World) → Inductive plan w → marking (turns plan e w).world x ≡ true → clear (turns plan e w).world.memory < clear w.memory → Progress (e ∷ areas) w
  fall_then e areas w inv still less =
      elim (keep_along areas (turns plan e w).world (invariant_turns plan law e w inv) still) [
        | inl h ↦ marking_over (times_rest plan (marking_ends x) e areas w h)
        | inr h ↦ falls h.0 (omega (arith, less, h.1))
      ]

  -- Where a mark waits: there is progress, or it waits on and no round of its area begins.
  waiting_turn : (e : ℕ) (areas : List ℕ) (w : World) → Inductive plan w → marking w x ≡ true → (h : SomeMark w) →
      (marking (turns plan e w).world x ≡ true → (g : SomeMark (turns plan e w).world) → Progress areas (turns plan e w).world ⊎ ((round_within plan g.area areas (turns plan e w).world ≡ false) × Waiting areas (turns plan e w).world)) →
      PhaseMove plan law e x l w (turns plan e w).world → Progress (e ∷ areas) w ⊎ ((round_within plan h.area (e ∷ areas) w ≡ false) × Waiting (e ∷ areas) w)
  waiting_turn e areas w inv marks h rest (changes c _ _ _ _) = inl (marking_over (ends_now e areas w inv marks c))
  waiting_turn e areas w inv marks h rest (stays same moves missing) =
      elim (cases_Bool (round_begins h.area w (turns plan e w).world)) [
        | inl now ↦ inl (fall_then e areas w inv (same ∙ marks) (started_falls h.area w (turns plan e w).world marks (begins_starts plan law e l w (turns plan e w).world (turns plan e w).world.memory h.area (moves h.area h.low h.over) now) inv h.slot h.kind_of h.inside h.over h.waits))
        | inr not-now ↦
            elim (rest (same ∙ marks) (record {
              area = h.area;
              low = h.low;
              over = h.over;
              slot = h.slot;
              kind_of = h.kind_of;
              inside = h.inside;
              waits = turn_waits e w inv h.area h.low h.slot h.kind_of h.inside h.waits not-now;
            })) [
              | inl p ↦ inl (progress_later e areas w inv marks p)
              | inr q ↦ inr (or_from _ _ (and_left (round_begins h.area w (turns plan e w).world) _ not-now) q.0, waiting_later e areas w inv marks q.1)
            ]
      ]

  waiting_along : (areas : List ℕ) (w : World) → Inductive plan w → marking w x ≡ true → (h : SomeMark w) → Progress areas w ⊎ ((round_within plan h.area areas w ≡ false) × Waiting areas w)
  waiting_along [] w inv marks h = inr (refl, record { marks = marks; less = omega arith; mark_there = h })
  waiting_along (e ∷ areas) w inv marks h = waiting_turn e areas w inv marks h (waiting_along areas (turns plan e w).world (invariant_turns plan law e w inv)) (phase_turn plan law x l named level lo hi e w inv.sound)

  -- a mark that waits in x waits in a lowest area of x
  mark_in_lem : (w : World) (b m : ℕ) → numbered (slot_count plan) b ≡ true → within plan x b ≡ true → w.waits b m l ≡ true → SomeMark w
  mark_in_lem w b m n inside waits =
      let at = law.at_home b n in
      record { area = home plan b; low = at.0; over = area_in (home plan b) b at.0 at.1 inside; slot = b; kind_of = m; inside = at.1; waits = waits }

  -- a turn while x marks and every area in it is pending
  lap_turn : (e : ℕ) (areas : List ℕ) (w : World) → Inductive plan w → marking w x ≡ true → AllPending plan x l (e ∷ areas) w →
      (g : ℕ) → lowest plan g ≡ true → above plan g l ≡ x → 1 ≤ times plan (round_ends g) (e ∷ areas) w →
      (marking (turns plan e w).world x ≡ true → AllPending plan x l areas (turns plan e w).world → (h : ℕ) → lowest plan h ≡ true → above plan h l ≡ x → 1 ≤ times plan (round_ends h) areas (turns plan e w).world →
      Progress areas (turns plan e w).world ⊎ Waiting areas (turns plan e w).world) →
      PhaseMove plan law e x l w (turns plan e w).world → Progress (e ∷ areas) w ⊎ Waiting (e ∷ areas) w
  lap_turn e areas w inv marks pending g low here comes rest (changes c _ _ _ _) = inl (marking_over (ends_now e areas w inv marks c))
  lap_turn e areas w inv marks pending g low here comes rest (stays same moves missing) =
      elim (cases_lt (clear (turns plan e w).world.memory) (clear w.memory)) [
        | inl less ↦ inl (fall_then e areas w inv marks_still less)
        | inr none ↦ elim (cases_Bool (round_ends g w (turns plan e w).world)) [
          | inl now ↦ by_missing none (missing g low here now)
          | inr later ↦ lift (rest marks_still (pending_still none) g low here (times_after plan (round_ends g) e areas w later comes))
        ]
      ]
    where
      marks_still : marking (turns plan e w).world x ≡ true
      marks_still = same ∙ marks

      lift : Progress areas (turns plan e w).world ⊎ Waiting areas (turns plan e w).world → Progress (e ∷ areas) w ⊎ Waiting (e ∷ areas) w
      lift (inl p) = inl (progress_later e areas w inv marks p)
      lift (inr q) = inr (waiting_later e areas w inv marks q)

      -- where no mark is set, no status is reset
      none_new : clear w.memory ≤ clear (turns plan e w).world.memory → (f : ℕ) → lowest plan f ≡ true → above plan f l ≡ x → Starts plan law f w (turns plan e w).world → new_at plan w f l ≡ false
      none_new none f low-f here-f s =
          is_false (new_at plan w f l) (λ new.
          let (b, (m, (inside, (_, (_, (waits, _)))))) = newly_marked_by plan law f low-f w inv.sound.shape l lo hi (and_parts (newly_marked (settable plan f w.waits) l w.memory.slots) _ new).0 in
          let less = started_falls f w (turns plan e w).world marks s inv b m inside here-f waits in
          omega (arith, none, less))

      pending_still : clear w.memory ≤ clear (turns plan e w).world.memory → AllPending plan x l areas (turns plan e w).world
      pending_still none f low-f here-f = pending_next plan law l f e areas w (none_new none f low-f here-f) (moves f low-f here-f) (pending f low-f here-f)

      by_missing : clear w.memory ≤ clear (turns plan e w).world.memory → Missing plan (turns plan e w).world.waits x l (turns plan e w).world.memory → Progress (e ∷ areas) w ⊎ Waiting (e ∷ areas) w
      by_missing none (not_ended f low-f here-f no_end) =
          lift (rest marks_still (pending_still none) f low-f here-f (still_ends plan l f areas (turns plan e w).world (pending_still none f low-f here-f) no_end))
      by_missing none (mark_waits _ b m n inside waits) =
          elim (waiting_along areas (turns plan e w).world (invariant_turns plan law e w inv) marks_still (mark_in_lem (turns plan e w).world b m n inside waits)) [
            | inl p ↦ lift (inl p)
            | inr q ↦ lift (inr q.1)
          ]

  -- A lap makes progress, or ends with a mark that waits in x.
  lap_along : (areas : List ℕ) (w : World) → Inductive plan w → marking w x ≡ true → AllPending plan x l areas w →
      (g : ℕ) → lowest plan g ≡ true → above plan g l ≡ x → 1 ≤ times plan (round_ends g) areas w → Progress areas w ⊎ Waiting areas w
  lap_along [] w inv marks pending g low here comes = absurd (omega (arith, comes))
  lap_along (e ∷ areas) w inv marks pending g low here comes =
      lap_turn e areas w inv marks pending g low here comes (lap_along areas (turns plan e w).world (invariant_turns plan law e w inv)) (phase_turn plan law x l named level lo hi e w inv.sound)

  module _ (g : ℕ) (low : lowest plan g ≡ true) (here : above plan g l ≡ x) where
    any_lap : (areas : List ℕ) (w : World) → Inductive plan w → marking w x ≡ true → AllRound plan areas w → Progress areas w ⊎ Waiting areas w
    any_lap areas w inv marks all = lap_along areas w inv marks (λ f low-f _. to_begin (all f low-f)) g low here (within_ends plan g areas w (all g low))

    -- and where a mark waits before it, it makes progress
    next_lap : (areas : List ℕ) (w : World) → Inductive plan w → marking w x ≡ true → AllRound plan areas w → SomeMark w → Progress areas w
    next_lap areas w inv marks all h =
        elim (waiting_along areas w inv marks h) [
          | inl p ↦ p
          | inr q ↦ absurd (true≢false (sym (all h.area h.low) ∙ q.0))
        ]

    -- What is needed of the number of laps that are to come.
    data Enough (n : ℕ) (w : World) : Type 0 where
      none_waits_yet : 2 * clear w.memory + 2 ≤ n → Enough n w
      one_waits_now : SomeMark w → 2 * clear w.memory + 1 ≤ n → Enough n w

    none_left : (w : World) → Enough 0 w → ⊥
    none_left w (none_waits_yet h) = omega (arith, h)
    none_left w (one_waits_now _ h) = omega (arith, h)

    -- a lap: the marking ends, or what is left is enough for what is to come
    one_lap : (n : ℕ) (areas : List ℕ) (w : World) → Inductive plan w → marking w x ≡ true → AllRound plan areas w → Enough (suc n) w →
        (1 ≤ times plan (marking_ends x) areas w) ⊎ ((marking (turns_done plan areas w) x ≡ true) × Enough n (turns_done plan areas w))
    one_lap n areas w inv marks all (none_waits_yet h) =
        elim (any_lap areas w inv marks all) [
          | inl p ↦ elim p [
            | marking_over now ↦ inl now
            | falls still less ↦ inr (still, none_waits_yet (omega (arith, h, less)))
          ]
          | inr q ↦ inr (q.marks, one_waits_now q.mark_there (omega (arith, h, q.less)))
        ]
    one_lap n areas w inv marks all (one_waits_now there h) =
        elim (next_lap areas w inv marks all there) [
          | marking_over now ↦ inl now
          | falls still less ↦ inr (still, none_waits_yet (omega (arith, h, less)))
        ]

    laps_end : (n : ℕ) (areas : List ℕ) (w : World) → Laps plan n areas w → Inductive plan w → marking w x ≡ true → Enough n w → 1 ≤ times plan (marking_ends x) areas w
    laps_end n areas w no_lap inv marks enough = absurd (none_left w enough)
    laps_end n areas w (lap {n = k} front {others = rest} one more) inv marks enough =
        let both = times-append plan (marking_ends x) front rest w in
        elim (one_lap k front w inv marks one.full enough) [
          | inl now ↦ omega (arith, both, now)
          | inr h ↦
              let later = laps_end k rest (turns_done plan front w) more (along plan (Inductive plan) (invariant_turns plan law) front w inv) h.0 h.1 in
              omega (arith, both, later)
        ]

pub markings_end : (plan : Layout) (law : Lawful plan) (inhabited : Inhabited plan) (w : World) → Inductive plan w →
    (x : ℕ) → numbered (length plan.areas) x ≡ true → 2 ≤ (area_at plan.areas x).level → marking w x ≡ true →
    (areas : List ℕ) → Laps plan (2 * area_size plan x * ((area_at plan.areas x).level - 1) + 2) areas w → 1 ≤ times plan (marking_ends x) areas w
markings_end plan law inhabited w inv x named lo marks areas laps =
    let l = (area_at plan.areas x).level in
    let hi = inhabited.below_top x named in
    let (g, (low, here)) = inhabited.a_lowest x named in
    let most = clear_most plan law x l named refl lo hi w.memory in
    let twice = mul_assoc 2 (area_size plan x) (l - 1) in
    laps_end plan law x l named refl lo hi g low here (2 * area_size plan x * (l - 1) + 2) areas w laps inv marks
    (none_waits_yet (omega (arith, most, twice)))
