-- Which turns keep an area tidy, where what is there and not white is reachable, and which make it so.
use Rattle.std.proofs.Common.{◌≡◌, ℕ, ◌+◌, ◌-◌, ◌<◌, ◌≤◌, true, false, is_some, sym, ap, ◌∙◌, subst, inl, inr, arith}
use Rattle.std.proofs.lemmas.Bool.{cases_eq, cases_lt, or_left, or_right, false≢true, true≢false}
use Rattle.chain.specs.Chain.{numbered}
use Rattle.state.specs.declared.block.Block.{Block}
use Rattle.state.specs.declared.collector.Stage.TheVariants.{Resting, Pass, Sweep}
use Rattle.state.specs.Layout.{Layout, top, slot_count, lowest, within, first_in, last_of}
use Rattle.state.specs.Lawful.{Lawful}
use Rattle.state.specs.Memory.{Memory, World, block_in, block_at, collector_at}
use Rattle.laws.specs.Roots.{Reach, root, step}
use Rattle.laws.specs.Views.{white, white_in, entry, mark, mark_or_waits, stage, sends}
use Rattle.laws.specs.Inductive.{Inductive}
use Rattle.laws.proofs.Plans.{within_bounds, within_first, within_numbered, one_home, by_area}
use Rattle.laws.proofs.Graphs.{root_back}
use Rattle.laws.proofs.Parts.{grey, Entered, by_entry, by_mark, Drains, Begins, PassBegins, Scans}
use Rattle.laws.proofs.TurnKinds.{Turn, starts, scan, next_pass, to_sweep, sweep_slot, ends, Ends, stage_elsewhere, to_rest, scan_stage}
use Rattle.laws.proofs.Live.{LiveAbove, NoneAboveTop, reach_forth, used_before, mark_before, none_above_top}
use Rattle.laws.proofs.Stages.{rest_pass, rest_sweep, pass_sweep, pass_is, sweep_is}
use Rattle.laws.proofs.Flags.{is_true}
use Rattle.laws.proofs.Changed.{mark_entry}
use Rattle.laws.proofs.Swept.{SweptTo, elsewhere, gone, whitened, swept_to}
use Rattle.laws.proofs.Frames.{collector_same}

-- What is there and not white in area a is reachable: at rest, behind the sweep, and in passes above l.
pub record TidyAbove (plan : Layout) (w : World) (a l : ℕ) : Type 0 where
  pub resting : stage w.memory a ≡ Resting → (b : ℕ) → within plan a b ≡ true → is_some (block_at w.memory b) ≡ true → white w.memory b ≡ false → Reach w.memory b
  pub behind : (k : ℕ) → stage w.memory a ≡ Sweep k → (b : ℕ) → within plan a b ≡ true → b < k → is_some (block_at w.memory b) ≡ true → white w.memory b ≡ false → Reach w.memory b
  pub passing : (L : ℕ) → stage w.memory a ≡ Pass L → l < L → (b : ℕ) → within plan a b ≡ true → is_some (block_at w.memory b) ≡ true → white w.memory b ≡ false → Reach w.memory b

-- And also in pass l of a round that sends for l.
pub record Tidy (plan : Layout) (w : World) (a l : ℕ) : Type 0 where
  pub above : TidyAbove plan w a l
  pub at_level : stage w.memory a ≡ Pass l → sends w.memory a l ≡ true → (b : ℕ) → within plan a b ≡ true → is_some (block_at w.memory b) ≡ true → white w.memory b ≡ false → Reach w.memory b

-- Where area a sweeps, the blocks behind the sweep are white.
abbrev pub Cleaned : Layout → World → ℕ → Type 0
Cleaned plan w a = (k : ℕ) → stage w.memory a ≡ Sweep k → (b : ℕ) → within plan a b ≡ true → b < k → is_some (block_at w.memory b) ≡ true → white w.memory b ≡ true

-- Q holds of what is there and not white behind the sweep of area a.
abbrev pub Behind : Layout → Memory → ℕ → (ℕ → Type 0) → Type 0
Behind plan s a Q = (k : ℕ) → stage s a ≡ Sweep k → (b : ℕ) → within plan a b ≡ true → b < k → is_some (block_at s b) ≡ true → white s b ≡ false → Q b

-- What follows from every entry above L, and from every mark of level L, follows where the block is one that pass L shades.
entered_tells : (plan : Layout) (s : Memory) → NoneAboveTop plan s → (Q : Type 0) (L b : ℕ) → numbered (slot_count plan) b ≡ true →
    ((m : ℕ) → L < m → m ≤ top plan → entry s b m ≡ true → Q) → ((m : ℕ) → 2 ≤ m → m ≤ L → mark s b m L ≡ true → Q) → Entered s L b → Q
entered_tells plan s none Q L b n by_entries by-marks shaded = tells shaded
  where
    high : (m : ℕ) → m ≤ 4 → L < m → entry s b m ≡ true → Q
    high m hm less h =
        elim (cases_lt (top plan) m) [
          | inl past ↦ absurd (true≢false (sym h ∙ none b m n past hm))
          | inr inside ↦ by_entries m less inside h
        ]

    tells : Entered s L b → Q
    tells (by_entry m lm hm less h) = high m hm less h
    tells (by_mark m lm hm h) =
        elim (cases_lt L m) [
          | inl less ↦ high m hm less (mark_entry (block_at s b) m L h)
          | inr inside ↦ by-marks m lm inside h
        ]

module _ (plan : Layout) (law : Lawful plan) (a : ℕ) (low : lowest plan a ≡ true) where
  -- a turn of area a shades no block of another area
  pub dark_elsewhere : (w v : World) → Turn plan law a low w v → (e : ℕ) → lowest plan e ≡ true → (e ≡ a → ⊥) → (b : ℕ) → within plan e b ≡ true → white v.memory b ≡ false → white w.memory b ≡ false
  dark_elsewhere w v (starts at u d g o) e le ne b inside dark =
      let one = within_first plan e b inside in
      elim (g.why b one dark) [
        | inl was ↦ sym (d.colours.white_is b one) ∙ was
        | inr h ↦ absurd (ne (one_home plan law e a b le low inside h.0))
      ]
  dark_elsewhere w v (scan L p k at n here there is_grey_lem s) e le ne b inside dark =
      elim (s.why b (within_first plan e b inside) (λ q. ne (one_home plan law e a b le low inside (subst (λ c. within plan a c ≡ true) (sym q) here))) dark) [
        | inl was ↦ was
        | inr h ↦ absurd (ne (one_home plan law e a b le low inside h.0))
      ]
  dark_elsewhere w v (next_pass L at more s o) e le ne b inside dark =
      elim (s.shades.why b (within_first plan e b inside) dark) [
        | inl was ↦ was
        | inr h ↦ absurd (ne (one_home plan law e a b le low inside h.0))
      ]
  dark_elsewhere w v (to_sweep L at s is st se o) e le ne b inside dark = ap (λ xs. white_in (block_in xs b)) (sym s.slots) ∙ dark
  dark_elsewhere w v (sweep_slot k at here s o) e le ne b inside dark =
      ap white_in (sym (s.others b (within_first plan e b inside) (λ q. ne (one_home plan law e a b le low inside (subst (λ c. within plan a c ≡ true) (sym q) here))))) ∙ dark
  dark_elsewhere w v (ends k at past s) e le ne b inside dark = ap (λ xs. white_in (block_in xs b)) (sym s.slots) ∙ dark

  -- The sweep

  -- what is there and not white behind the sweep was so before, as a slot that is swept is free or white
  behind_own : (Q : ℕ → Type 0) (w v : World) → Turn plan law a low w v → Behind plan w.memory a Q → Behind plan v.memory a Q
  behind_own Q w v (starts at u d g o) was k is b inside less used dark = absurd (pass_sweep _ (top plan) k g.stage_is is)
  behind_own Q w v (scan L p x at n here there is_grey_lem s) was k is b inside less used dark =
      absurd (pass_sweep _ L k (scan_stage plan law a low L p x w v s ∙ at) is)
  behind_own Q w v (next_pass L at more s o) was k is b inside less used dark = absurd (pass_sweep _ (L - 1) k s.stage_is is)
  behind_own Q w v (to_sweep L at s first st se o) was k is b inside less used dark =
      let same = sweep_is _ (first_in plan a) k first is in
      absurd (omega (arith, (within_bounds plan a b inside).0, same, less))
  behind_own Q w v (sweep_slot k at here s o) was k' is b inside less used dark = swept (swept_to plan law a low w.memory v.memory k s b (within_first plan a b inside))
    where
      swept : SweptTo k w.memory v.memory b → Q b
      swept (elsewhere ne same) =
          let next = sweep_is _ (k + 1) k' s.stage_is is in
          was k at b inside (omega (arith, next, less, ne)) (ap is_some (sym same) ∙ used) (ap white_in (sym same) ∙ dark)
      swept (gone e none) = absurd (false≢true (ap is_some (sym none) ∙ used))
      swept (whitened e x there pale) = absurd (true≢false (ap white_in (sym pale) ∙ dark))
  behind_own Q w v (ends k at past s) was k' is b inside less used dark = absurd (rest_sweep _ k' s.stage_is is)

  pub behind_kept : (Q : ℕ → Type 0) (w v : World) → Turn plan law a low w v → (e : ℕ) → lowest plan e ≡ true → Behind plan w.memory e Q → Behind plan v.memory e Q
  behind_kept Q w v turn e le =
      by_area (λ n. Behind plan w.memory n Q → Behind plan v.memory n Q) a e (behind_own Q w v turn)
      (λ ne was k is b inside less used dark.
      was k (sym (stage_elsewhere plan law a low w v turn e le ne) ∙ is) b inside less (used_before plan law a low w v turn b (within_first plan e b inside) used) (dark_elsewhere w v turn e le ne b inside dark))

  -- A sweep that is clean stays clean.
  pub cleaned_kept : (w v : World) → Turn plan law a low w v → (e : ℕ) → lowest plan e ≡ true → Cleaned plan w e → Cleaned plan v e
  cleaned_kept w v turn e le was k is b inside less used =
      is_true (white v.memory b)
      (behind_kept (λ _. ⊥) w v turn e le (λ k is b inside less used dark. true≢false (sym (was k is b inside less used) ∙ dark)) k is b inside less used)

  -- It is clean when it begins: an area that does not sweep is clean, and so is one whose sweep begins with the turn.
  pub cleaned_resting : (w : World) (e : ℕ) → stage w.memory e ≡ Resting → Cleaned plan w e
  cleaned_resting w e at k is b inside less used = absurd (rest_sweep _ k at is)

  pub cleaned_passing : (w : World) (e L : ℕ) → stage w.memory e ≡ Pass L → Cleaned plan w e
  cleaned_passing w e L at k is b inside less used = absurd (pass_sweep _ L k at is)

  -- what held of all behind the sweep holds of all in the area when the round ends
  all_behind : (Q : ℕ → Type 0) (w v : World) (k : ℕ) → stage w.memory a ≡ Sweep k → last_of plan a < k → Ends plan law a low w v → Behind plan w.memory a Q →
      (b : ℕ) → within plan a b ≡ true → is_some (block_at v.memory b) ≡ true → white v.memory b ≡ false → Q b
  all_behind Q w v k at past s was b inside used dark =
      was k at b inside (omega (arith, (within_bounds plan a b inside).1, past))
      (ap (λ xs. is_some (block_in xs b)) (sym s.slots) ∙ used) (ap (λ xs. white_in (block_in xs b)) (sym s.slots) ∙ dark)

  -- After a round with a clean sweep all blocks of the area are white, so it is tidy.
  pub cleaned_ends : (w v : World) → Turn plan law a low w v → stage v.memory a ≡ Resting → Cleaned plan w a →
      (b : ℕ) → within plan a b ≡ true → is_some (block_at v.memory b) ≡ true → white v.memory b ≡ true
  cleaned_ends w v turn is was b inside used =
      let (k, (at, (past, s))) = to_rest plan law a low w v turn is in
      is_true (white v.memory b)
      (all_behind (λ _. ⊥) w v k at past s (λ k is b inside less used dark. true≢false (sym (was k is b inside less used) ∙ dark)) b inside used)

  pub all_white_tidy : (w : World) (e l : ℕ) → stage w.memory e ≡ Resting → ((b : ℕ) → within plan e b ≡ true → is_some (block_at w.memory b) ≡ true → white w.memory b ≡ true) → Tidy plan w e l
  all_white_tidy w e l at all =
      record {
        above = record {
          resting = λ _ b inside used dark. absurd (true≢false (sym (all b inside used) ∙ dark));
          behind = λ k is b inside less used dark. absurd (rest_sweep _ k at is);
          passing = λ L is less b inside used dark. absurd (rest_pass _ L at is);
        };
        at_level = λ is sending b inside used dark. absurd (rest_pass _ l at is);
      }

  pub tidy_comes : (w v : World) → Turn plan law a low w v → stage v.memory a ≡ Resting → Cleaned plan w a → (l : ℕ) → Tidy plan v a l
  tidy_comes w v turn is was l = all_white_tidy v a l is (cleaned_ends w v turn is was)

  -- What a turn makes not white

  -- What is there and not white in area a is reachable.
  abbrev DarkLive : World → Type 0
  DarkLive w = (b : ℕ) → within plan a b ≡ true → is_some (block_at w.memory b) ≡ true → white w.memory b ≡ false → Reach w.memory b

  -- the start of a round shades roots and blocks with a mark of the top level
  start_dark : (w v : World) → NoneAboveTop plan w.memory → (turn : Turn plan law a low w v) → (u : World) → Drains plan law a low w u → Begins plan law a low u.memory v.memory → DarkLive w →
      ((b m : ℕ) → numbered (slot_count plan) b ≡ true → within plan a b ≡ true → 2 ≤ m → m ≤ top plan → mark_or_waits w b m (top plan) ≡ true → Reach w.memory b) →
      (b : ℕ) → within plan a b ≡ true → is_some (block_at v.memory b) ≡ true → white v.memory b ≡ false → Reach w.memory b
  start_dark w v none turn u d g live marks b inside used dark =
      elim (g.why b one dark) [
        | inl was ↦ live b inside (used_before plan law a low w v turn b one used) (sym (d.colours.white_is b one) ∙ was)
        | inr h ↦ elim h.1 [
          | inl r ↦ root (root_back w.memory u.memory d.graph b r)
          | inr shaded ↦
              entered_tells plan v.memory (none_above_top plan law a low w v turn none) (Reach w.memory b) (top plan) b n
              (λ m less most _. absurd (omega (arith, less, most))) (λ m lm hm set. marks b m n inside lm hm (set_or_waits m lm hm set)) shaded
        ]
      ]
    where
      one : 1 ≤ b
      one = within_first plan a b inside

      n : numbered (slot_count plan) b ≡ true
      n = within_numbered plan law a b low inside

      set_or_waits : (m : ℕ) → 2 ≤ m → m ≤ top plan → mark v.memory b m (top plan) ≡ true → mark_or_waits w b m (top plan) ≡ true
      set_or_waits m lm hm set =
          elim (mark_before plan law a low w v turn b m (top plan) one lm (omega (arith, hm, law.high.1)) law.high.0 law.high.1 set) [
            | inl was ↦ or_left (mark w.memory b m (top plan)) _ was
            | inr waits ↦ or_right (mark w.memory b m (top plan)) _ waits
          ]

  -- the next pass shades blocks with an entry above it or with its mark
  pass_dark : (w v : World) → NoneAboveTop plan w.memory → (turn : Turn plan law a low w v) → (L : ℕ) → PassBegins plan law a low L w.memory v.memory → DarkLive w →
      ((b m : ℕ) → numbered (slot_count plan) b ≡ true → L < m → m ≤ top plan → entry w.memory b m ≡ true → Reach w.memory b) →
      ((b m : ℕ) → numbered (slot_count plan) b ≡ true → within plan a b ≡ true → 2 ≤ m → m ≤ L → mark_or_waits w b m L ≡ true → Reach w.memory b) →
      (b : ℕ) → within plan a b ≡ true → is_some (block_at v.memory b) ≡ true → white v.memory b ≡ false → Reach w.memory b
  pass_dark w v none turn L s live entries marks b inside used dark =
      elim (s.shades.why b one dark) [
        | inl was ↦ live b inside (used_before plan law a low w v turn b one used) was
        | inr h ↦
            entered_tells plan w.memory none (Reach w.memory b) L b n
            (λ m less most there. entries b m n less most there) (λ m lm hm set. marks b m n inside lm hm (or_left (mark w.memory b m L) _ set)) h.1
      ]
    where
      one : 1 ≤ b
      one = within_first plan a b inside

      n : numbered (slot_count plan) b ≡ true
      n = within_numbered plan law a b low inside

  -- a scan shades what a block that is not white points to
  scan_dark : (w v : World) → (turn : Turn plan law a low w v) → (L p : ℕ) (k : Block) → within plan a p ≡ true → grey w.memory p → Scans plan law a low L p k w v → DarkLive w →
      (b : ℕ) → within plan a b ≡ true → is_some (block_at v.memory b) ≡ true → white v.memory b ≡ false → Reach w.memory b
  scan_dark w v turn L p k here is_grey_lem s live b inside used dark =
      elim (cases_eq b p) [
        | inl e ↦ subst (Reach w.memory) (sym e) scanned
        | inr ne ↦ elim (s.why b (within_first plan a b inside) ne dark) [
          | inl was ↦ live b inside (used_before plan law a low w v turn b (within_first plan a b inside) used) was
          | inr h ↦ step scanned h.1
        ]
      ]
    where
      scanned : Reach w.memory p
      scanned = live p here is_grey_lem.0 is_grey_lem.1.0

  -- In pass L after the turn what is not white is reachable, where entries above L and marks of level L are those of reachable blocks, and before the turn what was not white was reachable.
  pub pass_live : (w v : World) → Inductive plan w → NoneAboveTop plan w.memory → Turn plan law a low w v → (L : ℕ) → stage v.memory a ≡ Pass L →
      ((b m : ℕ) → numbered (slot_count plan) b ≡ true → L < m → m ≤ top plan → entry w.memory b m ≡ true → Reach w.memory b) →
      ((b m : ℕ) → numbered (slot_count plan) b ≡ true → within plan a b ≡ true → L ≤ top plan → 2 ≤ m → m ≤ L → mark_or_waits w b m L ≡ true → Reach w.memory b) →
      (stage w.memory a ≡ Resting → DarkLive w) → ((M : ℕ) → stage w.memory a ≡ Pass M → L < M → DarkLive w) → (stage w.memory a ≡ Pass L → collector_at v.memory a ≡ collector_at w.memory a → DarkLive w) →
      (b : ℕ) → within plan a b ≡ true → is_some (block_at v.memory b) ≡ true → white v.memory b ≡ false → Reach w.memory b
  pass_live w v inv none (starts at u d g o) L is entries marks resting higher here =
      let same = pass_is _ (top plan) L g.stage_is is in
      start_dark w v none (starts at u d g o) u d g (resting at)
      (subst (λ n. (b m : ℕ) → numbered (slot_count plan) b ≡ true → within plan a b ≡ true → 2 ≤ m → m ≤ n → mark_or_waits w b m n ≡ true → Reach w.memory b) (sym same)
      (λ b m n inside. marks b m n inside (omega (arith, same))))
  pass_live w v inv none (scan M p k at n inside there is_grey_lem s) L is entries marks resting higher here =
      let kept = collector_same w.memory v.memory s.collectors a in
      let same = pass_is _ M L (scan_stage plan law a low M p k w v s ∙ at) is in
      scan_dark w v (scan M p k at n inside there is_grey_lem s) M p k inside is_grey_lem s (here (subst (λ n. stage w.memory a ≡ Pass n) same at) kept)
  pass_live w v inv none (next_pass M at more s o) L is entries marks resting higher here =
      let same : M - 1 ≡ L = pass_is _ (M - 1) L s.stage_is is in
      let most = (inv.sound.passes_inside a M low at).1 in
      pass_dark w v none (next_pass M at more s o) L (subst (λ n. PassBegins plan law a low n w.memory v.memory) same s) (higher M at (omega (arith, same, more))) entries
      (λ b m n inside. marks b m n inside (omega (arith, same, most)))
  pass_live w v inv none (to_sweep M at s first st se o) L is entries marks resting higher here = absurd (pass_sweep _ L (first_in plan a) is first)
  pass_live w v inv none (sweep_slot k at inside s o) L is entries marks resting higher here = absurd (pass_sweep _ L (k + 1) is s.stage_is)
  pass_live w v inv none (ends k at past s) L is entries marks resting higher here = absurd (rest_pass _ L s.stage_is is)

  tidy_above_elsewhere : (w v : World) → Inductive plan w → Turn plan law a low w v → (l e : ℕ) → lowest plan e ≡ true → (e ≡ a → ⊥) → TidyAbove plan w e l → TidyAbove plan v e l
  tidy_above_elsewhere w v inv turn l e le ne was =
      record {
        resting = λ is b inside used dark. forth b (was.resting (stands ∙ is) b inside (there b inside used) (dark_elsewhere w v turn e le ne b inside dark));
        behind = λ k is b inside less used dark. forth b (was.behind k (stands ∙ is) b inside less (there b inside used) (dark_elsewhere w v turn e le ne b inside dark));
        passing = λ L is less b inside used dark. forth b (was.passing L (stands ∙ is) less b inside (there b inside used) (dark_elsewhere w v turn e le ne b inside dark));
      }
    where
      forth : (b : ℕ) → Reach w.memory b → Reach v.memory b
      forth = reach_forth plan law a low w v inv turn

      stands : stage w.memory e ≡ stage v.memory e
      stands = sym (stage_elsewhere plan law a low w v turn e le ne)

      there : (b : ℕ) → within plan e b ≡ true → is_some (block_at v.memory b) ≡ true → is_some (block_at w.memory b) ≡ true
      there b inside used = used_before plan law a low w v turn b (within_first plan e b inside) used

  tidy_above_own : (w v : World) → Inductive plan w → NoneAboveTop plan w.memory → Turn plan law a low w v → (l : ℕ) → LiveAbove plan w l → TidyAbove plan w a l → TidyAbove plan v a l
  tidy_above_own w v inv none turn l live was =
      record {
        resting = λ is b inside used dark. let (k, (at, (past, s))) = to_rest plan law a low w v turn is in forth b (all_behind (Reach w.memory) w v k at past s was.behind b inside used dark);
        behind = λ k is b inside less used dark. forth b (behind_own (Reach w.memory) w v turn was.behind k is b inside less used dark);
        passing = λ L is less b inside used dark. forth b (pass_live w v inv none turn L is
            (λ c m n above most there. (live c m n (omega (arith, less, above)) most).0 there)
            (λ c m n _ most lm hm set. (live c L n less most).1 m lm hm set)
            was.resting (λ M at more. was.passing M at (omega (arith, less, more))) (λ at _. was.passing L at less) b inside used dark);
      }
    where
      forth : (b : ℕ) → Reach w.memory b → Reach v.memory b
      forth = reach_forth plan law a low w v inv turn

  -- A turn of any area keeps every area tidy above l, where the entries and marks of the levels above l are those of reachable blocks.
  pub tidy_above_kept : (w v : World) → Inductive plan w → NoneAboveTop plan w.memory → Turn plan law a low w v → (l : ℕ) → LiveAbove plan w l → (e : ℕ) → lowest plan e ≡ true → TidyAbove plan w e l → TidyAbove plan v e l
  tidy_above_kept w v inv none turn l live e le =
      by_area (λ n. TidyAbove plan w n l → TidyAbove plan v n l) a e (tidy_above_own w v inv none turn l live) (λ ne. tidy_above_elsewhere w v inv turn l e le ne)
