-- A recovery ends soon: within one lap, since in it every area of a recovering area begins a round and ends it.
use Rattle.std.proofs.Common.{◌≡◌, ℕ, ◌≤◌, true, false, not, ◌&&◌, ltb, leb, List, [], ◌∷◌, length, sym, refl, ap, ◌∙◌, inl, inr, arith}
use Rattle.std.proofs.lemmas.Bool.{cases_Bool, and_from, and_parts, or_cases, ltb-true, true≢false, false≢true, and_right}
use Rattle.chain.specs.Chain.{numbered}
use Rattle.plan.specs.Walk.{area_at}
use Rattle.state.specs.declared.collector.Status.{Status}
use Rattle.state.specs.declared.collector.Status.TheVariants.{Unstarted, Begun, Ended}
use Rattle.state.specs.Layout.{Layout, top, lowest, above}
use Rattle.state.specs.Lawful.{Lawful}
use Rattle.state.specs.Memory.{World}
use Rattle.state.specs.Turns.{is_ended, begun, ended, restarted, settable, newly_marked}
use Rattle.state.specs.Calls.{turns}
use Rattle.state.specs.Pasts.{marking, round_begins, round_ends, recovery_ends, times, round_within, AllRound, Laps, no_lap, lap, is_resting, resting}
use Rattle.laws.specs.Views.{status}
use Rattle.laws.specs.Inductive.{Inductive}
use Rattle.laws.proofs.Flags.{is_false, rises, falls}
use Rattle.laws.proofs.Tests.{Missing, not_ended, mark_waits}
use Rattle.laws.proofs.Phases.{EachUnder, new_at, Starts, Moved, stands, begins, finishes, PhaseMove, stays, changes, phase_turn}
use Rattle.laws.proofs.Counting.{times_first, times_rest, times_after, times-append}
use Rattle.laws.proofs.Kept.{invariant_turns}
use Rattle.laws.proofs.Inhabited.{Inhabited}

-- a round that begins and ends within some turns ends in them
pub within_ends : (plan : Layout) (f : ℕ) (areas : List ℕ) (w : World) → round_within plan f areas w ≡ true → 1 ≤ times plan (round_ends f) areas w
within_ends plan f [] w h = absurd (false≢true h)
within_ends plan f (e ∷ areas) w h =
    elim (or_cases (round_begins f w (turns plan e w).world && ltb 0 (times plan (round_ends f) areas (turns plan e w).world)) _ h) [
      | inl here ↦ times_rest plan (round_ends f) e areas w (ltb-true 0 _ (and_parts (round_begins f w (turns plan e w).world) _ here).1)
      | inr later ↦ times_rest plan (round_ends f) e areas w (within_ends plan f areas (turns plan e w).world later)
    ]

-- Area f has ended a round at level l, or ends one in these turns that it has begun, or begins one in them and ends it.
pub data Pending (plan : Layout) (l f : ℕ) (areas : List ℕ) (w : World) : Type 0 where
  has_ended : status w.memory f l ≡ Ended → Pending plan l f areas w
  has_begun : status w.memory f l ≡ Begun → 1 ≤ times plan (round_ends f) areas w → Pending plan l f areas w
  to_begin : round_within plan f areas w ≡ true → Pending plan l f areas w

-- if it has not ended one, it ends one
pub still_ends : (plan : Layout) (l f : ℕ) (areas : List ℕ) (w : World) → Pending plan l f areas w → is_ended (status w.memory f l) ≡ false → 1 ≤ times plan (round_ends f) areas w
still_ends plan l f areas w (has_ended s) no_end = absurd (true≢false (sym (ap is_ended s) ∙ no_end))
still_ends plan l f areas w (has_begun s ends) no_end = ends
still_ends plan l f areas w (to_begin h) no_end = within_ends plan f areas w h

-- where the area above recovers, no mark is set anew
none_new : (plan : Layout) (w : World) (x f l : ℕ) → above plan f l ≡ x → marking w x ≡ false → new_at plan w f l ≡ false
none_new plan w x f l here recovers = and_right (newly_marked (settable plan f w.waits) l w.memory.slots) _ (and_right (leb l (top plan)) _ (ap (marking w) here ∙ recovers))

-- All areas in x are pending.
abbrev pub AllPending : Layout → ℕ → ℕ → List ℕ → World → Type 0
AllPending plan x l areas w = EachUnder plan x l (λ f. Pending plan l f areas w)

module _ (plan : Layout) (law : Lawful plan) (l f e : ℕ) (areas : List ℕ) (w : World) (quiet : Starts plan law f w (turns plan e w).world → new_at plan w f l ≡ false) where
  -- the world after the first turn
  abbrev next : World
  next = (turns plan e w).world

  -- what ends in these turns, and not in the first, ends in the others
  ends_later : (round_ends f w next ≡ true → ⊥) → 1 ≤ times plan (round_ends f) (e ∷ areas) w → 1 ≤ times plan (round_ends f) areas next
  ends_later not-now more = times_after plan (round_ends f) e areas w (is_false _ not-now) more

  -- a round that begins and ends within these turns begins in the first, or later
  begins_later : round_within plan f (e ∷ areas) w ≡ true → (round_begins f w next ≡ true → 1 ≤ times plan (round_ends f) areas next → Pending plan l f areas next) → Pending plan l f areas next
  begins_later h now =
      elim (or_cases (round_begins f w next && ltb 0 (times plan (round_ends f) areas next)) _ h) [
        | inl here ↦ let parts = and_parts (round_begins f w next) (ltb 0 (times plan (round_ends f) areas next)) here in now parts.0 (ltb-true 0 _ parts.1)
        | inr later ↦ to_begin later
      ]

  begun_now : Starts plan law f w next → status next.memory f l ≡ begun true (restarted (new_at plan w f l) (status w.memory f l)) → (q : Status) → status w.memory f l ≡ q → status next.memory f l ≡ begun true q
  begun_now s is q at = is ∙ ap (λ t. begun true (restarted t (status w.memory f l))) (quiet s) ∙ ap (begun true) at

  begun_pending : (q : Status) → status next.memory f l ≡ begun true q → 1 ≤ times plan (round_ends f) areas next → Pending plan l f areas next
  begun_pending Unstarted is ends = has_begun is ends
  begun_pending Begun is ends = has_begun is ends
  begun_pending Ended is ends = has_ended is

  -- One turn on, in which no status is reset.
  pub pending_next : Moved plan law e l w next next.memory f → Pending plan l f (e ∷ areas) w → Pending plan l f areas next
  pending_next (stands rest same) (has_ended at) = has_ended (same ∙ at)
  pending_next (stands rest same) (has_begun at ends) = has_begun (same ∙ at) (ends_later (λ h. let (was, is) = rises (resting w f) (resting next f) h in true≢false (sym is ∙ rest ∙ was)) ends)
  pending_next (stands rest same) (to_begin h) = begins_later h (λ now. let (was, is) = falls (resting w f) (resting next f) now in absurd (false≢true (sym is ∙ rest ∙ was)))
  pending_next (begins s is) (has_ended at) = has_ended (begun_now s is Ended at)
  pending_next (begins s is) (has_begun at ends) = has_begun (begun_now s is Begun at) (ends_later (λ h. false≢true (sym (rises (resting w f) (resting next f) h).0 ∙ ap is_resting s.rests)) ends)
  pending_next (begins s is) (to_begin h) = begins_later h (λ _. begun_pending (status w.memory f l) (begun_now s is (status w.memory f l) refl))
  pending_next (finishes _ runs _ is) (has_ended at) = has_ended (is ∙ ap ended at)
  pending_next (finishes _ runs _ is) (has_begun at ends) = has_ended (is ∙ ap ended at)
  pending_next (finishes _ runs _ is) (to_begin h) = begins_later h (λ now. absurd (false≢true (sym runs ∙ (falls (resting w f) (resting next f) now).0)))

module _ (plan : Layout) (law : Lawful plan) (x l : ℕ) (named : numbered (length plan.areas) x ≡ true) (level : (area_at plan.areas x).level ≡ l) (lo : 2 ≤ l) (hi : l ≤ top plan) where
  -- a turn while x recovers, if the rest is known to end the recovery
  recovers_turn : (e : ℕ) (areas : List ℕ) (w : World) → marking w x ≡ false → AllPending plan x l (e ∷ areas) w → (g : ℕ) → lowest plan g ≡ true → above plan g l ≡ x → 1 ≤ times plan (round_ends g) (e ∷ areas) w →
      (marking (turns plan e w).world x ≡ false → AllPending plan x l areas (turns plan e w).world → (h : ℕ) → lowest plan h ≡ true → above plan h l ≡ x → 1 ≤ times plan (round_ends h) areas (turns plan e w).world → 1 ≤ times plan (recovery_ends x) areas (turns plan e w).world) →
      PhaseMove plan law e x l w (turns plan e w).world → 1 ≤ times plan (recovery_ends x) (e ∷ areas) w
  recovers_turn e areas w recovering pending g low here comes rest (changes c _ _ _ _) =
      times_first plan (recovery_ends x) e areas w (and_from (not (marking w x)) (marking (turns plan e w).world x) (ap not recovering) (c ∙ ap not recovering))
  recovers_turn e areas w recovering pending g low here comes rest (stays same moves missing) =
      times_rest plan (recovery_ends x) e areas w
      (elim (cases_Bool (round_ends g w (turns plan e w).world)) [
        | inl now ↦ by_missing (missing g low here now)
        | inr later ↦ rest recovers_still pending_still g low here (times_after plan (round_ends g) e areas w later comes)
      ])
    where
      recovers_still : marking (turns plan e w).world x ≡ false
      recovers_still = same ∙ recovering

      pending_still : AllPending plan x l areas (turns plan e w).world
      pending_still f low-f here-f =
          pending_next plan law l f e areas w (λ _. none_new plan w x f l here-f recovering) (moves f low-f here-f) (pending f low-f here-f)

      by_missing : Missing plan (turns plan e w).world.waits x l (turns plan e w).world.memory → 1 ≤ times plan (recovery_ends x) areas (turns plan e w).world
      by_missing (not_ended f low-f here-f no_end) = rest recovers_still pending_still f low-f here-f (still_ends plan l f areas (turns plan e w).world (pending_still f low-f here-f) no_end)
      by_missing (mark_waits marks b m n inside waits) = absurd (true≢false (sym marks ∙ recovers_still))

  -- If every area in x is pending and one of them ends a round, then the recovery of x ends: with the last that was missing.
  recovers : (areas : List ℕ) (w : World) → Inductive plan w → marking w x ≡ false → AllPending plan x l areas w → (g : ℕ) → lowest plan g ≡ true → above plan g l ≡ x → 1 ≤ times plan (round_ends g) areas w → 1 ≤ times plan (recovery_ends x) areas w
  recovers [] w inv recovering pending g low here comes = absurd (omega (arith, comes))
  recovers (e ∷ areas) w inv recovering pending g low here comes =
      recovers_turn e areas w recovering pending g low here comes (recovers areas (turns plan e w).world (invariant_turns plan law e w inv)) (phase_turn plan law x l named level lo hi e w inv.sound)

  -- a lap ends the recovery
  pub recovers_in : (areas : List ℕ) (w : World) → Inductive plan w → marking w x ≡ false → AllRound plan areas w → (g : ℕ) → lowest plan g ≡ true → above plan g l ≡ x → 1 ≤ times plan (recovery_ends x) areas w
  recovers_in areas w inv recovering all g low here = recovers areas w inv recovering (λ f low-f _. to_begin (all f low-f)) g low here (within_ends plan g areas w (all g low))

pub recoveries_end : (plan : Layout) (law : Lawful plan) (inhabited : Inhabited plan) (w : World) → Inductive plan w →
    (x : ℕ) → numbered (length plan.areas) x ≡ true → 2 ≤ (area_at plan.areas x).level → marking w x ≡ false →
    (areas : List ℕ) → Laps plan 1 areas w → 1 ≤ times plan (recovery_ends x) areas w
recoveries_end plan law inhabited w inv x named lo recovering areas laps = first_lap 1 areas w laps (omega arith) inv recovering
  where
    first_lap : (n : ℕ) (areas : List ℕ) (w : World) → Laps plan n areas w → 1 ≤ n → Inductive plan w → marking w x ≡ false → 1 ≤ times plan (recovery_ends x) areas w
    first_lap n areas w no_lap some inv recovering = absurd (omega arith)
    first_lap n areas w (lap {w = v} front {others = rest} one more) some inv recovering =
        let (e, (low, here)) = inhabited.a_lowest x named in
        let now = recovers_in plan law x (area_at plan.areas x).level named refl lo (inhabited.below_top x named) front v inv recovering one.full e low here in
        let both = times-append plan (recovery_ends x) front rest v in
        omega (arith, now, both)
