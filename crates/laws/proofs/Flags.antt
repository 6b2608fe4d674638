-- Tests: one that is not true is false, one that comes back from true stays false, one that rises was false.
use Rattle.std.proofs.Common.{◌≡◌, Bool, true, false, not, ◌&&◌, sym, refl, ◌∙◌}
use Rattle.std.proofs.lemmas.Bool.{false≢true, not-true}

pub is_true : (x : Bool) → (x ≡ false → ⊥) → x ≡ true
is_true true h = refl
is_true false h = absurd (h refl)

pub is_false : (x : Bool) → (x ≡ true → ⊥) → x ≡ false
is_false true h = absurd (h refl)
is_false false h = refl

-- a test that comes back from true cannot come to be true
pub stays_false : {x y : Bool} → (y ≡ true → x ≡ true) → x ≡ false → y ≡ false
stays_false {x} {y} back was = is_false y (λ now. false≢true (sym was ∙ back now))

-- a test that rises was false and is true
pub rises : (t u : Bool) → (not t && u) ≡ true → (t ≡ false) × (u ≡ true)
rises true u h = absurd (false≢true h)
rises false u h = (refl, h)

-- one that falls was true and is false
pub falls : (t u : Bool) → (t && not u) ≡ true → (t ≡ true) × (u ≡ false)
falls true u h = (refl, not-true u h)
falls false u h = absurd (false≢true h)

pub not_rises : (t u : Bool) → t ≡ false → u ≡ true → (not t && u) ≡ false → ⊥
not_rises true u t h z = false≢true (sym t)
not_rises false u t h z = false≢true (sym z ∙ h)

pub never_rises : (t : Bool) → (not t && t) ≡ true → ⊥
never_rises true h = false≢true h
never_rises false h = false≢true h
