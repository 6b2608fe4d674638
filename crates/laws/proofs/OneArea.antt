-- A turn in a pass changes the colours and the collector of one area: the clauses that speak of other areas stay, and so do most of its own.
use Rattle.std.proofs.Common.{◌≡◌, ℕ, ◌<◌, ◌≤◌, true, false, ◌⊎◌, sym, ◌∙◌, subst, inl, inr}
use Rattle.state.specs.declared.collector.Stage.TheVariants.{Resting, Pass, Sweep}
use Rattle.state.specs.declared.collector.Status.TheVariants.{Begun}
use Rattle.state.specs.Layout.{Layout, top, slot_count, lowest, within, level_of}
use Rattle.state.specs.Lawful.{Lawful}
use Rattle.state.specs.Memory.{World}
use Rattle.state.specs.Pasts.{Points}
use Rattle.laws.specs.Roots.{Reach}
use Rattle.laws.specs.Views.{white, black, entry, mark, mark_or_waits, stage, status, sends, marks_above}
use Rattle.laws.specs.Invariant.{Told, HasCovered, SomeWaits}
use Rattle.laws.specs.Inductive.{LocallyCovered, Sound, Safe}
use Rattle.laws.proofs.Plans.{within_first, numbered_first, one_home, by_area}
use Rattle.laws.proofs.Graphs.{SameGraph, used_back, points_back, root_back, reach_back}
use Rattle.laws.proofs.Parts.{SameMarks, OnlyArea}
use Rattle.laws.proofs.Flags.{stays_false}
use Rattle.laws.proofs.Covers.{local_graph, covered_same, mark_or_waits_lem, told_same, CanBeSet, settable_same}
use Rattle.laws.proofs.Elsewhere.{marks_above_is, only_stage, only_status, only_sends}

-- What a turn of area a in pass L does from w to v, whatever it finds.
pub record PassStep (plan : Layout) (a L : ℕ) (w v : World) : Type 0 where
  pub graph : SameGraph w.memory v.memory
  pub marks : SameMarks w.memory v.memory
  pub only : OnlyArea a w.memory v.memory
  pub was : stage w.memory a ≡ Pass L
  pub runs : stage v.memory a ≡ Resting → ⊥
  pub status_is : (l : ℕ) → status v.memory a l ≡ status w.memory a l
  pub sends_is : (l : ℕ) → sends v.memory a l ≡ sends w.memory a l
  pub white_back : (b : ℕ) → 1 ≤ b → white v.memory b ≡ true → white w.memory b ≡ true
  pub black_outside : (b : ℕ) → 1 ≤ b → (within plan a b ≡ true → ⊥) → black v.memory b ≡ black w.memory b
  pub waits_stay : (b m l : ℕ) → w.waits b m l ≡ true → v.waits b m l ≡ true
  pub waits_settable : (b m l : ℕ) → v.waits b m l ≡ true → CanBeSet plan w.memory b m l

-- The clauses that a step of the area's own collector must see to.
pub record AreaSafe (plan : Layout) (w : World) (a : ℕ) : Type 0 where
  pub no_black_behind : (b k : ℕ) → stage w.memory a ≡ Sweep k → within plan a b ≡ true → b < k → black w.memory b ≡ false
  pub inner : (b c L : ℕ) → stage w.memory a ≡ Pass L → within plan a b ≡ true → within plan a c ≡ true → black w.memory b ≡ true →
      Points w.memory b c → white w.memory c ≡ false
  pub shaded_by_entry : (b m L : ℕ) → stage w.memory a ≡ Pass L → within plan a b ≡ true → L < m → m ≤ top plan → entry w.memory b m ≡ true → white w.memory b ≡ false
  pub shaded_by_mark : (b m j L : ℕ) → stage w.memory a ≡ Pass L → within plan a b ≡ true → 2 ≤ m → m ≤ j → j ≤ top plan → L ≤ j → mark w.memory b m j ≡ true → white w.memory b ≡ false
  pub swept_reached : (b k : ℕ) → stage w.memory a ≡ Sweep k → within plan a b ≡ true → k ≤ b → Reach w.memory b → white w.memory b ≡ false
  pub swept_entered : (b k m : ℕ) → stage w.memory a ≡ Sweep k → within plan a b ≡ true → k ≤ b → 2 ≤ m → m ≤ top plan → entry w.memory b m ≡ true → white w.memory b ≡ false
  pub scanned : (l L : ℕ) → 2 ≤ l → l ≤ top plan → marks_above plan w.memory a l ≡ true → status w.memory a l ≡ Begun → stage w.memory a ≡ Pass L → l ≤ L →
      Told plan w l (λ b. (within plan a b ≡ true) × (black w.memory b ≡ true))
  pub covered : (l : ℕ) → 2 ≤ l → l ≤ top plan → marks_above plan w.memory a l ≡ true → HasCovered w.memory a l → SomeWaits plan w a l ⊎ Told plan w l (LocallyCovered plan w.memory a l)

module _ (plan : Layout) (law : Lawful plan) (a : ℕ) (low : lowest plan a ≡ true) (L : ℕ) (w v : World) (sound : Sound plan w.memory) (safe : Safe plan w) (d : PassStep plan a L w v) where
  -- what is not white stays so
  pub dark_stays : (b : ℕ) → 1 ≤ b → white w.memory b ≡ false → white v.memory b ≡ false
  dark_stays b one = stays_false (d.white_back b one)

  -- the target of a pointer is a slot
  pub target_first : (p b : ℕ) → Points v.memory p b → 1 ≤ b
  target_first p b e = numbered_first (slot_count plan) b (sound.pointed_slots p b (points_back w.memory v.memory d.graph p b e))

  -- a mark that is set or waits does so still
  pub told_stays : (b m l : ℕ) → 1 ≤ b → mark_or_waits w b m l ≡ true → mark_or_waits v b m l ≡ true
  told_stays b m l one = mark_or_waits_lem w v b m l (λ e. d.marks.mark_is b m l one ∙ e) (d.waits_stay b m l)

  pub marking_is : (e l : ℕ) → marks_above plan v.memory e l ≡ marks_above plan w.memory e l
  marking_is = marks_above_is plan a w.memory v.memory d.only

  pub statuses_are : (e l : ℕ) → lowest plan e ≡ true → status v.memory e l ≡ status w.memory e l
  statuses_are e l le = by_area (λ x. status v.memory x l ≡ status w.memory x l) a e (d.status_is l) (only_status plan a w.memory v.memory d.only e l le)

  pub sendings_are : (e l : ℕ) → lowest plan e ≡ true → sends v.memory e l ≡ sends w.memory e l
  sendings_are e l le = by_area (λ x. sends v.memory x l ≡ sends w.memory x l) a e (d.sends_is l) (only_sends plan a w.memory v.memory d.only e l le)

  -- the blocks that pointers are told of are no more than before
  pub told_back : (l : ℕ) (P Q : ℕ → Type 0) → ((b : ℕ) → Q b → P b) → Told plan w l P → Told plan v l Q
  told_back l = told_same plan w v sound (points_back w.memory v.memory d.graph) d.marks.entry_is l (λ b m one _ _. told_stays b m l one)

  local_was : (e l b : ℕ) → LocallyCovered plan v.memory e l b → LocallyCovered plan w.memory e l b
  local_was e l =
      local_graph plan w.memory v.memory e l d.graph
      (λ b m inside _ _ there. sym (d.marks.entry_is b m (within_first plan e b inside)) ∙ there)
      (λ b m inside _ _ set. sym (d.marks.mark_is b m l (within_first plan e b inside)) ∙ set)

  -- what was covered stays so
  pub covered_stays : (e l : ℕ) → SomeWaits plan w e l ⊎ Told plan w l (LocallyCovered plan w.memory e l) → SomeWaits plan v e l ⊎ Told plan v l (LocallyCovered plan v.memory e l)
  covered_stays e l (inl (b, (m, (inside, waits)))) = inl (b, (m, (inside, d.waits_stay b m l waits)))
  covered_stays e l (inr told) = inr (told_back l (LocallyCovered plan w.memory e l) (LocallyCovered plan v.memory e l) (local_was e l) told)

  black_is : (e b : ℕ) → lowest plan e ≡ true → (e ≡ a → ⊥) → within plan e b ≡ true → black v.memory b ≡ black w.memory b
  black_is e b le ne inside = d.black_outside b (within_first plan e b inside) (λ here. ne (one_home plan law e a b le low inside here))

  stage_is : (e : ℕ) → lowest plan e ≡ true → (e ≡ a → ⊥) → stage v.memory e ≡ stage w.memory e
  stage_is = only_stage plan a w.memory v.memory d.only

  -- what has told of all in another area had done so
  pub had_covered : (e l : ℕ) → lowest plan e ≡ true → stage v.memory e ≡ stage w.memory e → HasCovered v.memory e l → HasCovered w.memory e l
  had_covered e l le same = covered_same w.memory v.memory e l same (statuses_are e l le)

  -- what an entry or a mark kept from being white stays so
  pub entry_dark : (e b m M : ℕ) → lowest plan e ≡ true → stage w.memory e ≡ Pass M → within plan e b ≡ true → M < m → m ≤ top plan → entry v.memory b m ≡ true → white v.memory b ≡ false
  entry_dark e b m M le at inside more most there =
      let one = within_first plan e b inside in
      dark_stays b one (safe.shaded_by_entry e b m M le at inside more most (sym (d.marks.entry_is b m one) ∙ there))

  pub mark_dark : (e b m j M : ℕ) → lowest plan e ≡ true → stage w.memory e ≡ Pass M → within plan e b ≡ true → 2 ≤ m → m ≤ j → j ≤ top plan → M ≤ j →
      mark v.memory b m j ≡ true → white v.memory b ≡ false
  mark_dark e b m j M le at inside two upto most least set =
      let one = within_first plan e b inside in
      dark_stays b one (safe.shaded_by_mark e b m j M le at inside two upto most least (sym (d.marks.mark_is b m j one) ∙ set))

  -- another area
  other_area : (e : ℕ) → lowest plan e ≡ true → (e ≡ a → ⊥) → AreaSafe plan v e
  other_area e le ne =
      record {
        no_black_behind = λ b k at inside before. black_is e b le ne inside ∙ safe.no_black_behind e b k le (sym same ∙ at) inside before;
        inner = λ b c M at inside within-c is-black points.
            dark_stays c (within_first plan e c within-c)
            (safe.inner e b c M le (sym same ∙ at) inside within-c (sym (black_is e b le ne inside) ∙ is-black) (points_back w.memory v.memory d.graph b c points));
        shaded_by_entry = λ b m M at. entry_dark e b m M le (sym same ∙ at);
        shaded_by_mark = λ b m j M at. mark_dark e b m j M le (sym same ∙ at);
        swept_reached = λ b k at inside ahead r.
            dark_stays b (within_first plan e b inside) (safe.swept_reached e b k le (sym same ∙ at) inside ahead (reach_back w.memory v.memory d.graph b r));
        swept_entered = λ b k m at inside ahead two most there.
            let one = within_first plan e b inside in
            dark_stays b one (safe.swept_entered e b k m le (sym same ∙ at) inside ahead two most (sym (d.marks.entry_is b m one) ∙ there));
        scanned = λ l M two most marking is at upto.
            told_back l (λ b. (within plan e b ≡ true) × (black w.memory b ≡ true)) (λ b. (within plan e b ≡ true) × (black v.memory b ≡ true))
            (λ b q. (q.0, sym (black_is e b le ne q.0) ∙ q.1))
            (safe.scanned e l M le two most (sym (marking_is e l) ∙ marking) (sym (statuses_are e l le) ∙ is) (sym same ∙ at) upto);
        covered = λ l two most marking has. covered_stays e l (safe.covered e l le two most (sym (marking_is e l) ∙ marking) (had_covered e l le same has));
      }
    where
      same : stage v.memory e ≡ stage w.memory e
      same = stage_is e le ne

  -- With the clauses of the area itself, all are kept.
  pub step_keeps : AreaSafe plan v a → Safe plan v
  step_keeps here =
      record {
        alive = λ b r. used_back w.memory v.memory d.graph b ∙ safe.alive b (reached b r);
        entered = λ p b r e two.
            d.marks.entry_is b (level_of plan p b) (target_first p b e) ∙ safe.entered p b (reached p r) (points_back w.memory v.memory d.graph p b e) two;
        settable = λ b m l waits. settable_same plan w.memory v.memory b m l (d.marks.entry_is b m) (d.marks.mark_is b m l) (d.waits_settable b m l waits);
        no_black_at_rest = λ e b le at inside.
            let ne : e ≡ a → ⊥ = λ same. d.runs (subst (λ x. stage v.memory x ≡ Resting) same at) in
            black_is e b le ne inside ∙ safe.no_black_at_rest e b le (sym (stage_is e le ne) ∙ at) inside;
        no_black_behind = λ e b k le. (area e le).no_black_behind b k;
        rooted = λ e b M le at inside r.
            let (N, was) = in_pass e M le at in
            dark_stays b (within_first plan e b inside) (safe.rooted e b N le was inside (root_back w.memory v.memory d.graph b r));
        inner = λ e b c M le. (area e le).inner b c M;
        shaded_by_entry = λ e b m M le. (area e le).shaded_by_entry b m M;
        shaded_by_mark = λ e b m j M le. (area e le).shaded_by_mark b m j M;
        swept_reached = λ e b k le. (area e le).swept_reached b k;
        swept_entered = λ e b k m le. (area e le).swept_entered b k m;
        begun_runs = λ e l le two most is at.
            let ne : e ≡ a → ⊥ = λ same. d.runs (subst (λ x. stage v.memory x ≡ Resting) same at) in
            safe.begun_runs e l le two most (sym (statuses_are e l le) ∙ is) (sym (stage_is e le ne) ∙ at);
        begun_sends = λ e l le two most is marking. sendings_are e l le ∙ safe.begun_sends e l le two most (sym (statuses_are e l le) ∙ is) (sym (marking_is e l) ∙ marking);
        sends_marking = λ e l le two most is. marking_is e l ∙ safe.sends_marking e l le two most (sym (sendings_are e l le) ∙ is);
        scanned = λ e l M le. (area e le).scanned l M;
        covered = λ e l le. (area e le).covered l;
        kept = λ e p b l le two most recovering is inside r points level.
            told_stays b l l (within_first plan e b inside)
            (safe.kept e p b l le two most (sym (marking_is e l) ∙ recovering) (sym (statuses_are e l le) ∙ is) inside (reached p r) (points_back w.memory v.memory d.graph p b points) level);
      }
    where
      reached : (b : ℕ) → Reach v.memory b → Reach w.memory b
      reached = reach_back w.memory v.memory d.graph

      area : (e : ℕ) → lowest plan e ≡ true → AreaSafe plan v e
      area e le = by_area (AreaSafe plan v) a e here (other_area e le)

      in_pass : (e M : ℕ) → lowest plan e ≡ true → stage v.memory e ≡ Pass M → (N : ℕ) × (stage w.memory e ≡ Pass N)
      in_pass e M le at = by_area (λ x. (N : ℕ) × (stage w.memory x ≡ Pass N)) a e (L, d.was) (λ ne. (M, sym (stage_is e le ne) ∙ at))
