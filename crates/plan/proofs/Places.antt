-- Where the walk meets each area: what stands before the place, what stands below it, and under which place it stands.
use Rattle.std.proofs.Common.{◌≡◌, ℕ, zero, suc, ◌+◌, ◌-◌, ◌<◌, ◌≤◌, ◌⊎◌, List, [], ◌∷◌, ◌++◌, length, get_or, replicate, sym, refl, ap, ◌∙◌, subst, inl, inr, ⊎_elim, arith}
use Rattle.std.specs.List.{ContainsAt as Has, AllByRecursion}
use Rattle.std.proofs.ByRecursion.{All-append, All-weaker, has_get_or, has_append_left, has_append_right}
use Rattle.std.proofs.lemmas.List.{append-nil, append_assoc, get_or_append_left, get_or-append_right, get_or-replicate, length-replicate}
use Rattle.std.proofs.lemmas.Bool.{cond_both}
use Rattle.std.proofs.lemmas.List.Sums.{sum_by-cons, sum_by-append}
use Rattle.chain.specs.Chain.{numbered}
use Rattle.plan.specs.declared.area.Area.{Area}
use Rattle.plan.specs.declared.area.Place.{Place}
use Rattle.plan.specs.Walk.{area_at, slots_in, along, walk_from}
use Rattle.plan.specs.Tree.{homes_in}

-- The places of level `lower` that stand below a place.
abbrev pub below_of : List Area → ℕ → Place → List Place
below_of areas lower p = walk_from areas lower p.area (area_at areas p.area).child (p.before + (area_at areas p.area).slots)

-- Place q is that of the parent of p: one level higher, and with all the slots of p.
abbrev pub Over : Place → Place → Type 0
Over q p = (q.area ≡ p.parent) × (q.level ≡ p.level + 1) × (q.before ≤ p.before) × (p.after ≤ q.after)

-- Where the walk of a level under a parent, after `lo` slots, meets p.
pub record Met (areas : List Area) (walk : List Place) (level parent lo : ℕ) (p : Place) : Type 0 where
  pub lower : ℕ
  pub pre : List Place
  pub post : List Place
  pub high : p.level ≡ suc lower
  pub low : p.level ≤ level
  pub splits : walk ≡ pre ++ (p ∷ (below_of areas lower p ++ post))
  pub before : p.before ≡ lo + slots_in areas pre
  pub after : p.after ≡ p.before + (area_at areas p.area).slots + slots_in areas (below_of areas lower p)
  pub over : ((p.parent ≡ parent) × (p.level ≡ level)) ⊎ ((q : Place) × Has walk q × Over q p)

module _ (areas : List Area) where
  pub slots_append : (xs ys : List Place) → slots_in areas (xs ++ ys) ≡ slots_in areas xs + slots_in areas ys
  slots_append = sum_by-append (λ p. (area_at areas p.area).slots)

  pub slots_cons : (x : Place) (xs : List Place) → slots_in areas (x ∷ xs) ≡ (area_at areas x.area).slots + slots_in areas xs
  slots_cons = sum_by-cons (λ p. (area_at areas p.area).slots)

  -- a place ends within its walk
  met_ends : (walk : List Place) (level parent lo : ℕ) (p : Place) → Met areas walk level parent lo p → p.after ≤ lo + slots_in areas walk
  met_ends walk level parent lo p m =
      let below = below_of areas m.lower p in
      omega (arith, m.before, m.after, ap (slots_in areas) m.splits, slots_append m.pre (p ∷ (below ++ m.post)), slots_cons p (below ++ m.post), slots_append below m.post)

  -- where a part of the walk meets a place, the walk meets it
  met_within : (walk xs part ys : List Place) (level parent lo level' parent' lo' : ℕ) (p : Place) →
      walk ≡ xs ++ (part ++ ys) → lo' ≡ lo + slots_in areas xs → level' ≤ level →
      ((p.parent ≡ parent') × (p.level ≡ level') → ((p.parent ≡ parent) × (p.level ≡ level)) ⊎ ((q : Place) × Has walk q × Over q p)) →
      Met areas part level' parent' lo' p → Met areas walk level parent lo p
  met_within walk xs part ys level parent lo level' parent' lo' p e b l top m =
      record {
        lower = m.lower;
        pre = xs ++ m.pre;
        post = m.post ++ ys;
        high = m.high;
        low = omega (arith, m.low);
        splits = e ∙ ap (λ ws. xs ++ (ws ++ ys)) m.splits ∙ simp append_assoc;
        before = omega (arith, m.before, slots_append xs m.pre);
        after = m.after;
        over =
            ⊎_elim top
            (λ (h : (q : Place) × Has part q × Over q p). inr (h.0, subst (λ ws. Has ws h.0) (sym e) (has_append_right xs (part ++ ys) h.0 (has_append_left part ys h.0 h.1)), h.2))
            m.over;
      }

  along_met : (l parent : ℕ) → ((i c b : ℕ) → AllByRecursion (Met areas (walk_from areas l i c b) l i b) (walk_from areas l i c b)) →
      (n i b : ℕ) → AllByRecursion (Met areas (along areas (walk_from areas l) (suc l) parent n i b) (suc l) parent b) (along areas (walk_from areas l) (suc l) parent n i b)
  unfolding along
  along_met l parent h zero i b = tt
  along_met l parent h (suc n) i b =
      cond_both (numbered (length areas) i) _ _ (λ ws. AllByRecursion (Met areas ws (suc l) parent b) ws) (λ _. (here, All-append (Met areas walk (suc l) parent b) inner rest below (behind (along_met l parent h n _ _)))) (λ _. tt)
    where
      s : ℕ
      s = (area_at areas i).slots

      inner : List Place
      inner = walk_from areas l i (area_at areas i).child (b + s)

      rest : List Place
      rest = along areas (walk_from areas l) (suc l) parent n (area_at areas i).next (b + s + slots_in areas inner)

      p : Place
      p = record { area = i; level = suc l; parent = parent; before = b; after = b + s + slots_in areas inner }

      walk : List Place
      walk = p ∷ (inner ++ rest)

      here : Met areas walk (suc l) parent b p
      here = record { lower = l; pre = []; post = rest; high = refl; low = omega arith; splits = refl; before = omega arith; after = refl; over = inl (refl, refl) }

      below : AllByRecursion (Met areas walk (suc l) parent b) inner
      below =
          All-weaker (Met areas inner l i (b + s)) (Met areas walk (suc l) parent b)
          (λ q m.
          met_within walk (p ∷ []) inner rest (suc l) parent b l i (b + s) q refl (omega arith) (omega arith)
          (λ top. inr (p, has_get_or walk 0 p (omega arith), (sym top.0, omega arith, omega (arith, m.before), met_ends inner l i (b + s) q m))) m)
          inner (h i (area_at areas i).child (b + s))

      behind : AllByRecursion (Met areas rest (suc l) parent (b + s + slots_in areas inner)) rest → AllByRecursion (Met areas walk (suc l) parent b) rest
      behind =
          All-weaker (Met areas rest (suc l) parent (b + s + slots_in areas inner)) (Met areas walk (suc l) parent b)
          (λ q m.
          met_within walk (p ∷ inner) rest [] (suc l) parent b (suc l) parent (b + s + slots_in areas inner) q (ap (λ ws. p ∷ (inner ++ ws)) (sym (append-nil rest))) (omega (arith, slots_cons p inner)) (omega arith)
          inl m)
          rest

  -- each place of a walk
  pub walk_met : (l parent i b : ℕ) → AllByRecursion (Met areas (walk_from areas l parent i b) l parent b) (walk_from areas l parent i b)
  unfolding walk_from
  walk_met zero parent i b = tt
  walk_met (suc l) parent i b = along_met l parent (walk_met l) (length areas + 1) i b

  -- the homes of a place's own slots
  pub home_at : (pre : List Place) (p : Place) (post : List Place) (k : ℕ) → k < (area_at areas p.area).slots → get_or (homes_in areas (pre ++ (p ∷ post))) (slots_in areas pre + k) 0 ≡ p.area
  home_at [] p post k l =
      let s = (area_at areas p.area).slots in
      let e : slots_in areas [] + k ≡ k = omega arith in
      ap (λ j. get_or (homes_in areas (p ∷ post)) j 0) e
      ∙ get_or_append_left (replicate s p.area) (homes_in areas post) 0 k (omega (arith, length-replicate s p.area))
      ∙ get_or-replicate s k p.area 0 l
  home_at (x ∷ pre) p post k l =
      let s = (area_at areas x.area).slots in
      let e : slots_in areas (x ∷ pre) + k - s ≡ slots_in areas pre + k = omega (arith, slots_cons x pre) in
      get_or-append_right (replicate s x.area) (homes_in areas (pre ++ (p ∷ post))) s (slots_in areas (x ∷ pre) + k) 0 (length-replicate s x.area) (omega (arith, slots_cons x pre))
      ∙ ap (λ j. get_or (homes_in areas (pre ++ (p ∷ post))) j 0) e
      ∙ home_at pre p post k l
