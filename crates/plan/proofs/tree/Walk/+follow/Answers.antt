use Rattle.std.proofs.Common.{◌≡◌, ℕ, ◌+◌, ◌-◌, ◌<◌, [], length, get_or, set, None, sym, refl, ap, ◌∙◌, subst, arith}
use Rattle.std.proofs.lemmas.List.{length_push, length-set, map-set, get_or-map}
use Rattle.plan.specs.declared.area.Node.{Node}
use Rattle.plan.specs.declared.area.Place.{Place}
use Rattle.plan.specs.Nodes.{places_in, own_area}
use Rattle.plan.specs.Walk.{Walked, along, walk_from, area_at}
use Rattle.chain.specs.Chain.{numbered, first_in}
use Rattle.plan.proofs.Conds.{none_from, some_from_lem}
use Rattle.plan.proofs.Nodes.{Own, places_count, own_at, own_push, own_set, places_push}
use Rattle.plan.proofs.Walks.{along_none, along_end, walk_none, walk_level, walked_done, walked_full, walked_start, walked_turn, next_area, splits_at}
use Rattle.plan.proofs.tree.Walk.+follow.Goals as goal

pub returns-then-level-eq0-clause-walked : goal.returns-then-level-eq0-clause-walked
returns-then-level-eq0-clause-walked t c =
    let w = c.args.self.now in
    walked_done _ _ _ _ _ _ _ (walk_none _ _ _ _ _ c.if-level-eq0.true) (walked_start _ _ _ _ (omega (arith, w.room, places_count w.met.items)) (omega (arith, w.small, places_count w.met.items)))

pub loop-init : goal.loop-init
loop-init t c =
    let w = c.args.self.now in
    let areas = w.areas.now in
    let e : length areas + 1 - 0 ≡ length areas + 1 = omega arith in
    record {
      same = refl;
      walked =
          rw (e, ← walk_level areas c.args.level c.args.parent c.args.first w.slots c.if-level-eq0.false)
          (walked_start _ _ _ _ (omega (arith, w.room, places_count w.met.items)) (omega (arith, w.small, places_count w.met.items)));
    }

pub returns-in_default-clause-walked : goal.returns-in_default-clause-walked
returns-in_default-clause-walked t c =
    let areas = c.args.self.now.areas.now in
    let same : c.loop.self.areas.now ≡ areas = ap (λ r. r.now) c.loop.invariant.same in
    let answer : None ≡ first_in (length areas) c.loop.at = c.in_default.ensures.answer ∙ ap (λ xs. first_in (length xs) c.loop.at) same in
    walked_done _ _ _ _ _ _ _ (along_end _ _ _ _ _ _ _ (none_from (numbered (length areas) c.loop.at) c.loop.at answer)) c.loop.invariant.walked

pub returns-in_default-clause-same : goal.returns-in_default-clause-same
returns-in_default-clause-same t c = c.loop.invariant.same

pub returns-then-index-self-clause-walked : goal.returns-then-index-self-clause-walked
returns-then-index-self-clause-walked t c =
    walked_full _ _ _ _ _ _ _ (omega (arith, c.if-index-self.true, c.len-index.ensures, c.loop.self.met.ok.0, places_count c.loop.self.met.items, ap (λ r. length r.now) c.loop.invariant.same)) c.loop.invariant.walked

pub returns-then-index-self-clause-same : goal.returns-then-index-self-clause-same
returns-then-index-self-clause-same t c = c.loop.invariant.same

pub returns-in_err-push-clause-same : goal.returns-in_err-push-clause-same
returns-in_err-push-clause-same t c = c.loop.invariant.same

pub overflow_add-self : goal.overflow_add-self
overflow_add-self t c = omega (arith, c.loop.self.few, c.loop.self.room, c.loop.self.small, c.own_slots.ensures.bound)

pub invariant_of-self-in-loop : goal.invariant_of-self-in-loop
invariant_of-self-in-loop t c =
    let long = ap length c.in_ok-push.ensures.items ∙ length_push c.loop.self.met.items _ in
    record {
      few = c.loop.self.few;
      room = omega (arith, long, c.if-index-self.false, c.len-index.ensures, c.loop.self.met.ok.0);
      small = omega (arith, long, c.loop.self.small, c.own_slots.ensures.bound);
      own = subst (Own c.loop.self.areas.now) (sym c.in_ok-push.ensures.items) (own_push c.loop.self.areas.now c.loop.self.met.items c.loop.self.own _ refl);
    }

pub returns-in_err-follow-clause-same : goal.returns-in_err-follow-clause-same
returns-in_err-follow-clause-same t c = c.follow.ensures.same ∙ c.loop.invariant.same

-- a place, and a node, whose last slot is now known
abbrev place_after : Place → ℕ → Place
place_after p e = record { area = p.area; level = p.level; parent = p.parent; before = p.before; after = e }

abbrev with_after : Node → ℕ → Node
with_after n e = record { area = n.area; place = place_after n.place e }

-- the node that was pushed is still there
here : (t : ℕ) (c : goal.After-self-in-loop-2-1 t) → c.len-index.result < length c.follow.new.self.met.items
here t c =
    let long = ap length c.in_ok-push.ensures.items ∙ length_push c.loop.self.met.items _ in
    omega (arith, long, c.len-index.ensures, c.loop.self.met.ok.0, c.in_ok-follow.ensures.walked.more, places_count c.push.new.self.items, places_count c.follow.new.self.met.items)

pub invariant_of-self-in-loop-2 : goal.invariant_of-self-in-loop-2
invariant_of-self-in-loop-2 t c =
    let w = c.follow.new.self in
    let n = with_after c.index_mut.result.now w.slots in
    let long = length-set w.met.items c.len-index.result n in
    let read : c.index_mut.result.now ≡ get_or w.met.items c.len-index.result c.index_mut.result.now = c.index_mut.ensures.value in
    record {
      few = w.few;
      room = omega (arith, long, w.room);
      small = omega (arith, long, w.small);
      own = own_set w.areas.now w.met.items w.own c.len-index.result n (subst (λ (m : Node). m.area ≡ own_area w.areas.now m) (sym read) (own_at w.areas.now w.met.items w.own c.len-index.result c.index_mut.result.now (here t c)));
    }

-- how far the walk has come after one turn more
turned : (t : ℕ) (c : goal.After-self-in-loop-2-1 t) →
    Walked c.args.self.now.areas.now (walk_from c.args.self.now.areas.now c.args.level c.args.parent c.args.first c.args.self.now.slots) c.args.self.now.slots (places_in c.args.self.now.met.items)
    (along c.args.self.now.areas.now (walk_from c.args.self.now.areas.now (c.args.level - 1)) c.args.level c.args.parent (length c.args.self.now.areas.now + 1 - (c.loop.counter + 1)) c.take_first.new.head c.follow.new.self.slots)
    c.follow.new.self.slots (places_in (set c.follow.new.self.met.items c.len-index.result (with_after c.index_mut.result.now c.follow.new.self.slots)))
turned t c =
    let start = c.args.self.now in
    let areas = c.loop.self.areas.now in
    let same : areas ≡ start.areas.now = ap (λ r. r.now) c.loop.invariant.same in
    let i = c.in-Some.number in
    let lower = walk_from areas (c.args.level - 1) in
    let b = c.loop.self.slots in
    let s = (area_at areas i).slots in
    let p : ℕ → Place = λ e. record { area = i; level = c.args.level; parent = c.args.parent; before = b; after = e } in
    let took = some_from_lem (numbered (length areas) c.loop.at) c.loop.at i c.in-Some.ensures.answer in
    let new = c.follow.new.self in
    let q = c.index_mut.result.now in
    let at-end : c.len-index.result ≡ length (places_in c.loop.self.met.items) = c.len-index.ensures ∙ c.loop.self.met.ok.0 ∙ sym (places_count c.loop.self.met.items) in
    let read : q.place ≡ get_or (places_in new.met.items) c.len-index.result q.place = ap (λ (n : Node). n.place) c.index_mut.ensures.value ∙ sym (get_or-map (λ (n : Node). n.place) new.met.items c.len-index.result q q.place (here t c)) in
    let before = subst (λ xs. Walked xs (walk_from xs c.args.level c.args.parent c.args.first start.slots) start.slots (places_in start.met.items) (along xs (walk_from xs (c.args.level - 1)) c.args.level c.args.parent (length xs + 1 - c.loop.counter) c.loop.at b) b (places_in c.loop.self.met.items)) (sym same) c.loop.invariant.walked in
    subst (λ xs. Walked xs (walk_from xs c.args.level c.args.parent c.args.first start.slots) start.slots (places_in start.met.items) (along xs (walk_from xs (c.args.level - 1)) c.args.level c.args.parent (length xs + 1 - (c.loop.counter + 1)) c.take_first.new.head new.slots) new.slots (places_in (set new.met.items c.len-index.result (with_after q new.slots)))) same
    (walked_turn areas _ _ _ _ (lower i (area_at areas i).child (b + s)) (along areas lower c.args.level c.args.parent (length areas + 1 - (c.loop.counter + 1)) c.take_first.new.head) p s b new.slots (places_in c.loop.self.met.items) (places_in c.push.new.self.items) (places_in new.met.items) _ q.place (with_after q new.slots).place
    (splits_at areas lower _ _ _ _ _ i b _ (omega (arith, c.loop-test.true, ap length same)) took.0 took.1 (next_area areas _ _ took.0 c.in-Some.ensures.begins))
    (λ _. refl) before
    (ap places_in c.in_ok-push.ensures.items ∙ places_push c.loop.self.met.items _)
    (subst (λ x. Walked areas (lower i (area_at areas i).child (b + x)) (b + x) (places_in c.push.new.self.items) [] new.slots (places_in new.met.items)) c.own_slots.ensures.value c.in_ok-follow.ensures.walked)
    (read ∙ ap (λ k. get_or (places_in new.met.items) k q.place) at-end)
    (map-set (λ (n : Node). n.place) new.met.items c.len-index.result (with_after q new.slots) ∙ ap (λ k. set (places_in new.met.items) k (with_after q new.slots).place) at-end)
    (ap (λ (x : Place). place_after x new.slots)))

pub loop-preserved : goal.loop-preserved
loop-preserved t c = record { same = c.follow.ensures.same ∙ c.loop.invariant.same; walked = turned t c.before.before }

pub returns-in_ok-follow-clause-walked : goal.returns-in_ok-follow-clause-walked
returns-in_ok-follow-clause-walked t c =
    let e : length c.args.self.now.areas.now + 1 - (c.loop.counter + 1) ≡ 0 = omega arith in
    walked_done _ _ _ _ _ _ _ (rw e (along_none _ _ _ _ _ _)) (turned t c.before.before)

pub returns-in_ok-follow-clause-same : goal.returns-in_ok-follow-clause-same
returns-in_ok-follow-clause-same t c = c.follow.ensures.same ∙ c.loop.invariant.same
