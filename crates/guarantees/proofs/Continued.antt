-- What turns alone lead to after a past came about by a past.
use Rattle.std.proofs.Common.{◌≡◌, ℕ, Bool, true, false, cond, not, ◌&&◌, leb, List, [], ◌∷◌, Ok, Err, Result, refl, ap, subst, arith}
use Rattle.std.proofs.lemmas.Bool.{and_parts, cond-true}
use Rattle.state.specs.declared.refusal.Refusal.{Refusal}
use Rattle.state.specs.declared.refusal.Refusal.TheVariants.{PostUnfit}
use Rattle.state.specs.Layout.{Layout, slot_count}
use Rattle.state.specs.Memory.{World}
use Rattle.state.specs.Calls.{Outcome, Call, message, answered, fresh, any_waits, refused, turns}
use Rattle.state.specs.Pasts.{Past, making, then, turns_done}

module _ (plan : Layout) (size : ℕ) where
  -- the making was accepted, so the post is as large as the plan
  made_fits : (t : Bool) (w v : World) → cond t (Ok w) (Err PostUnfit) ≡ Ok v → t ≡ true
  made_fits true w v e = refl
  made_fits false w v e = absurd (err_ok e)
    where
      err_ok : {r : Refusal} {v : World} → ◌≡◌ {A = Result World Refusal} (Err r) (Ok v) → ⊥
      err_ok {r} {v} e = grind arith

  fits : (w : World) → Past plan size w → leb (slot_count plan) size ≡ true
  fits v (making w marks v' is_made) =
      (and_parts (leb (slot_count plan) size) (not (any_waits size w)) (made_fits (leb (slot_count plan) size && not (any_waits size w)) (record { memory = fresh plan; waits = w }) v is_made)).0
  fits v (then {w} past c) = fits w past

  -- the message that asks for a turn of area a
  turn_of : ℕ → Call
  turn_of a = message (2 ∷ 84 ∷ 0 ∷ a ∷ 0 ∷ 0 ∷ 0 ∷ 0 ∷ [])

  turn_answered : (a : ℕ) (w : World) → leb (slot_count plan) size ≡ true → (answered plan size (turn_of a) w).world ≡ (turns plan a w).world
  unfolding turn_of
  turn_answered a w fit = ap (λ (o : Outcome). o.world) (cond-true (leb (slot_count plan) size) (turns plan a w) (refused PostUnfit w) fit)

  pub turns_go_on : (areas : List ℕ) (w : World) → Past plan size w → Past plan size (turns_done plan areas w)
  turns_go_on [] w past = past
  turns_go_on (a ∷ areas) w past =
      turns_go_on areas (turns plan a w).world (subst (Past plan size) (turn_answered a w (fits w past)) (then past (turn_of a)))
