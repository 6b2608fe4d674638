-- Stages, statuses and phases: which are apart, and what a status was before a part of a turn changed it.
use Rattle.std.proofs.Common.{◌≡◌, ℕ, Bool, true, false, ◌⊎◌, sym, refl, ap, ◌∙◌, inl, inr, arith}
use Rattle.std.proofs.lemmas.Bool.{false≢true, true≢false}
use Rattle.state.specs.declared.collector.Stage.{Stage}
use Rattle.state.specs.declared.collector.Stage.TheVariants.{Resting, Pass, Sweep}
use Rattle.state.specs.declared.collector.Status.{Status}
use Rattle.state.specs.declared.collector.Status.TheVariants.{Unstarted, Begun, Ended}
use Rattle.state.specs.declared.collector.Phase.{Phase}
use Rattle.state.specs.declared.collector.Phase.TheVariants.{Marking, Recovering}
use Rattle.state.specs.Memory.{is_marking}
use Rattle.state.specs.Turns.{is_unstarted, is_ended, restarted, begun, ended}
use Rattle.state.specs.Pasts.{is_resting}

-- Stages

pub rest_pass : (x : Stage) (L : ℕ) → x ≡ Resting → x ≡ Pass L → ⊥
rest_pass x L p q = grind arith

pub rest_sweep : (x : Stage) (k : ℕ) → x ≡ Resting → x ≡ Sweep k → ⊥
rest_sweep x k p q = grind arith

pub pass_sweep : (x : Stage) (L k : ℕ) → x ≡ Pass L → x ≡ Sweep k → ⊥
pass_sweep x L k p q = grind arith

pub pass_is : (x : Stage) (L M : ℕ) → x ≡ Pass L → x ≡ Pass M → L ≡ M
pass_is x L M p q = cc

pub sweep_is : (x : Stage) (k n : ℕ) → x ≡ Sweep k → x ≡ Sweep n → k ≡ n
sweep_is x k n p q = cc

pub at_rest : (x : Stage) → is_resting x ≡ true → x ≡ Resting
at_rest Resting h = refl
at_rest (Pass L) h = absurd (false≢true h)
at_rest (Sweep k) h = absurd (false≢true h)

-- Statuses

pub unstarted_begun : (x : Status) → x ≡ Unstarted → x ≡ Begun → ⊥
unstarted_begun x p q = grind arith

pub unstarted_ended : (x : Status) → x ≡ Unstarted → x ≡ Ended → ⊥
unstarted_ended x p q = grind arith

pub is_unstarted_lem : (x : Status) → is_unstarted x ≡ true → x ≡ Unstarted
is_unstarted_lem Unstarted h = refl
is_unstarted_lem Begun h = absurd (false≢true h)
is_unstarted_lem Ended h = absurd (false≢true h)

pub is_ended_lem : (x : Status) → is_ended x ≡ true → x ≡ Ended
is_ended_lem Unstarted h = absurd (false≢true h)
is_ended_lem Begun h = absurd (false≢true h)
is_ended_lem Ended h = refl

pub cases_status : (x : Status) → (x ≡ Unstarted) ⊎ (x ≡ Unstarted → ⊥)
cases_status Unstarted = inl refl
cases_status Begun = inr (λ e. true≢false (ap is_unstarted (sym e)))
cases_status Ended = inr (λ e. true≢false (ap is_unstarted (sym e)))

-- a drain
pub restarted_not : (n : Bool) (x y : Status) → (Unstarted ≡ y → ⊥) → restarted n x ≡ y → (n ≡ false) × (x ≡ y)
restarted_not true x y ne h = absurd (ne h)
restarted_not false x y ne h = (refl, h)

pub restarted_unstarted : (n : Bool) (x : Status) → x ≡ Unstarted → restarted n x ≡ Unstarted
restarted_unstarted true x e = refl
restarted_unstarted false x e = e

-- the beginning of a round
pub begun_started : (x : Status) → begun true x ≡ Unstarted → ⊥
begun_started Unstarted h = grind arith
begun_started Begun h = grind arith
begun_started Ended h = grind arith

pub begun_ended : (q : Bool) (x : Status) → begun q x ≡ Ended → x ≡ Ended
begun_ended true Unstarted h = absurd (false≢true (ap is_ended h))
begun_ended true Begun h = absurd (false≢true (ap is_ended h))
begun_ended true Ended h = refl
begun_ended false x h = h

-- the end of a round
pub never_begun : (x : Status) → ended x ≡ Begun → ⊥
never_begun Unstarted e = grind arith
never_begun Begun e = grind arith
never_begun Ended e = grind arith

pub still_unstarted : (x : Status) → ended x ≡ Unstarted → x ≡ Unstarted
still_unstarted Unstarted e = refl
still_unstarted Begun e = grind arith
still_unstarted Ended e = grind arith

pub ended_from : (x : Status) → ended x ≡ Ended → (x ≡ Begun) ⊎ (x ≡ Ended)
ended_from Unstarted e = grind arith
ended_from Begun e = inl refl
ended_from Ended e = inr refl

pub ended_started : (x : Status) → ended x ≡ Ended → x ≡ Unstarted → ⊥
ended_started x is was = true≢false (sym (ap is_ended is) ∙ ap (λ z. is_ended (ended z)) was)

-- Phases

pub is_marking_lem : (p : Phase) → is_marking p ≡ true → p ≡ Marking
is_marking_lem Marking h = refl
is_marking_lem Recovering h = absurd (false≢true h)

pub is_recovering : (p : Phase) → is_marking p ≡ false → p ≡ Recovering
is_recovering Marking h = absurd (false≢true (sym h))
is_recovering Recovering h = refl
