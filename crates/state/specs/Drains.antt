-- A drain, one mark after another.
use Rattle.std.specs.Prelude.{◌≡◌, ℕ, cond, ◌&&◌, List, [], ◌∷◌, ◌==◌, nat_le}
use Rattle.post.specs.declared.Mark.{Mark}
use Rattle.post.specs.Marks.{Waits}
use Rattle.post.specs.Orders.{Whole}
use Rattle.state.specs.Layout.{Layout, top, first_in, last_of}
use Rattle.state.specs.Blocks.{with_marks}
use Rattle.state.specs.Memory.{Memory, World, collector_at, with_collector, on_block}
use Rattle.state.specs.Turns.{marking_above, on_status, restarted, clear_at, drained}
use Rattle.state.specs.Pasts.{MarksOf}

-- Area a takes one mark: it is set if its level is at most the top, its block and entry are there and it is clear, and then, where the area
-- above at its level is marking, the status there is 0; else it is dropped.
abbrev pub mark_taken : Layout → ℕ → Mark → Memory → Memory
mark_taken plan a k s =
    cond (nat_le k.level (top plan) && clear_at s k.block k.entry k.level)
    (with_collector a (on_status (λ l x. restarted (l == k.level && marking_above plan s a l) x) (collector_at s a))
    (on_block k.block (with_marks (λ m l. (m == k.entry) && l == k.level)) s))
    s

abbrev pub marks_taken : Layout → ℕ → List Mark → Memory → Memory
marks_taken plan a [] s = s
marks_taken plan a (k ∷ ks) s = marks_taken plan a ks (mark_taken plan a k s)

-- Whichever waiting mark each take picks, taking and handling marks one by one until none waits in the area ends in the drained world.
abbrev pub DrainedInAnyOrder : Type 0
DrainedInAnyOrder =
    (plan : Layout) (a size : ℕ) (w : World) → MarksOf size w.waits →
    (marks : List Mark) (v : Waits) → Whole (first_in plan a) (last_of plan a) w.waits marks v →
    (marks_taken plan a marks w.memory ≡ (drained plan a w).memory) × (v ≡ (drained plan a w).waits)
