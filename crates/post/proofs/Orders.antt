-- The order of the takes does not matter.
use Rattle.std.proofs.Common.{◌≡◌, ℕ, List, [], ◌∷◌, sym, ap, ◌∙◌}
use Rattle.post.specs.Marks.{Waits, inside, outside, either}
use Rattle.post.specs.Orders.{Run, Whole, handed, AnyOrder}
use Rattle.post.specs.declared.Mark.{Mark}
use Rattle.post.specs.Sets.{outside_more, outside_none, run_more, inside_none, either_none}

run_outside : (first last : ℕ) (ks : List Mark) (w v : Waits) → Run first last w ks v → outside first last v ≡ outside first last w
run_outside first last [] w v e = ap (outside first last) e
run_outside first last (k ∷ ks) w v (u, t, r) =
    run_outside first last ks u v r ∙ ap (outside first last) t.2 ∙ outside_more first last w k t.0

run_inside : (first last : ℕ) (ks : List Mark) (w v : Waits) → Run first last w ks v → inside first last w ≡ either (handed ks) (inside first last v)
run_inside first last [] w v e = ap (inside first last) (sym e)
run_inside first last (k ∷ ks) w v (u, t, r) =
    run_more first last w k t.0 (handed ks) (inside first last v) t.1 (ap (inside first last) (sym t.2) ∙ run_inside first last ks u v r)

-- a whole run leaves the rest and hands on the range
pub left : (first last : ℕ) (ks : List Mark) (w v : Waits) → Whole first last w ks v → v ≡ outside first last w
left first last ks w v (r, n) = sym (outside_none first last v n.0) ∙ run_outside first last ks w v r

gone : (first last : ℕ) (ks : List Mark) (w v : Waits) → Whole first last w ks v → handed ks ≡ inside first last w
gone first last ks w v (r, n) =
    sym (either_none (handed ks)) ∙ ap (either (handed ks)) (sym (inside_none first last v n.0)) ∙ sym (run_inside first last ks w v r)

pub any_order : AnyOrder
any_order first last w v v' ks ks' r r' =
    (left first last ks w v r ∙ sym (left first last ks' w v' r'), gone first last ks w v r ∙ sym (gone first last ks' w v' r'))
