use Rattle.std.proofs.Common.{sym, ap, ◌∙◌, arith}
use Rattle.plan.specs.Nodes.{places_in}
use Rattle.plan.specs.Tree.{every, fits, order_of}
use Rattle.plan.proofs.Nodes.{places_count, fits_all}
use Rattle.plan.proofs.Orders.{order_long, order_wrong, order_right}
use Rattle.plan.proofs.tree.Walk.whole.Goals as goal
use Rattle.plan.proofs.tree.Walk.whole.Goals.{then-len-areas-via-then-len-areas, then-len-areas-via-else-len-areas+then-not-all_stand_right}

pub returns-then-len-areas-clause-answer : goal.returns-then-len-areas-clause-answer
returns-then-len-areas-clause-answer c =
    let walk = c.follow.new.self in
    let areas = c.as_slice-areas.result.now in
    let told = ap order_of (sym c.as_slice-areas.ensures.value) in
    let none = ap places_in c.new.ensures.items in
    elim c.then-len-areas.branch [
      | then-len-areas-via-then-len-areas v ↦
          told ∙ order_long areas _ (places_in walk.met.items) walk.slots none c.in_ok-follow.ensures.walked (omega (arith, v.if-len-areas.true, c.len.ensures, walk.met.ok.0, places_count walk.met.items))
      | then-len-areas-via-else-len-areas+then-not-all_stand_right v ↦
          told ∙ order_wrong areas _ (places_in walk.met.items) walk.slots none c.in_ok-follow.ensures.walked (omega (arith, v.if-len-areas.false, c.len.ensures, walk.met.ok.0, places_count walk.met.items)) (v.if-not-all_stand_right.ensures ∙ fits_all walk.areas.now walk.met.items walk.own ∙ ap (λ r. every (fits r.now) (places_in walk.met.items)) c.follow.ensures.same)
    ]

pub returns-clause-answer : goal.returns-clause-answer
returns-clause-answer c =
    let walk = c.follow.new.self in
    let areas = c.as_slice-areas.result.now in
    let told = ap order_of (sym c.as_slice-areas.ensures.value) in
    let none = ap places_in c.new.ensures.items in
    told ∙ order_right areas _ (places_in walk.met.items) walk.slots none c.in_ok-follow.ensures.walked (omega (arith, c.if-len-areas.false, c.len.ensures, walk.met.ok.0, places_count walk.met.items))
    c.if-top-ne0.false (c.if-not-all_stand_right.ensures ∙ fits_all walk.areas.now walk.met.items walk.own ∙ ap (λ r. every (fits r.now) (places_in walk.met.items)) c.follow.ensures.same)
