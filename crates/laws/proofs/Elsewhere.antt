-- What the change of one area's collector leaves as it was.
use Rattle.std.proofs.Common.{◌≡◌, ℕ, true, ap}
use Rattle.state.specs.declared.collector.Collector.{Collector}
use Rattle.state.specs.Layout.{Layout, lowest, above}
use Rattle.state.specs.Memory.{Memory, collector_at, status_at, sends_at, is_marking}
use Rattle.laws.specs.Views.{stage, status, sends, marks_above}
use Rattle.laws.proofs.Plans.{low_first}
use Rattle.laws.proofs.Frames.{phase_same, collector_same}
use Rattle.laws.proofs.Parts.{OnlyArea}

-- where phases are the same, the same areas mark
pub marks_above_same : (plan : Layout) (s t : Memory) → t.phases ≡ s.phases → (e l : ℕ) → marks_above plan t e l ≡ marks_above plan s e l
marks_above_same plan s t same e l = ap is_marking (phase_same s t same (above plan e l))

-- where no collector changes and no phase, none changes but that of any one area
pub same_only : (a : ℕ) (s t : Memory) → t.collectors ≡ s.collectors → t.phases ≡ s.phases → OnlyArea a s t
same_only a s t same phases = record { others = λ e _ _. collector_same s t same e; phases = phases }

module _ (plan : Layout) (a : ℕ) (s t : Memory) (only : OnlyArea a s t) where
  pub marks_above_is : (e l : ℕ) → marks_above plan t e l ≡ marks_above plan s e l
  marks_above_is = marks_above_same plan s t only.phases

  pub collector_is : (e : ℕ) → lowest plan e ≡ true → (e ≡ a → ⊥) → collector_at t e ≡ collector_at s e
  collector_is e le ne = only.others e (low_first plan e le) ne

  pub only_stage : (e : ℕ) → lowest plan e ≡ true → (e ≡ a → ⊥) → stage t e ≡ stage s e
  only_stage e le ne = ap (λ (c : Collector). c.stage) (collector_is e le ne)

  pub only_status : (e l : ℕ) → lowest plan e ≡ true → (e ≡ a → ⊥) → status t e l ≡ status s e l
  only_status e l le ne = ap (λ c. status_at c l) (collector_is e le ne)

  pub only_sends : (e l : ℕ) → lowest plan e ≡ true → (e ≡ a → ⊥) → sends t e l ≡ sends s e l
  only_sends e l le ne = ap (λ c. sends_at c l) (collector_is e le ne)
