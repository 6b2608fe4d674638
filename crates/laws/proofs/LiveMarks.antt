-- Under a turn marks of reachable blocks stay the only ones of their level, and while an area recovers its marks are cleared and its dead entries are lost.
use Rattle.std.proofs.Common.{◌≡◌, ℕ, ◌≤◌, true, false, ◌⊎◌, length, is_some, sym, refl, ap, ◌∙◌, subst, inl, inr, arith}
use Rattle.std.proofs.lemmas.Bool.{cases_eq, cases_lt, and_parts, or_cases, or_left, or_right, false≢true}
use Rattle.chain.specs.Chain.{numbered}
use Rattle.plan.specs.Walk.{area_at}
use Rattle.state.specs.declared.collector.Stage.TheVariants.{Pass}
use Rattle.state.specs.Layout.{Layout, top, slot_count, lowest, within, home, above}
use Rattle.state.specs.Lawful.{Lawful}
use Rattle.state.specs.Memory.{World, block_at, sends_at}
use Rattle.laws.specs.Roots.{Reach, step}
use Rattle.laws.specs.Views.{white, mark, stage, sends}
use Rattle.laws.specs.Inductive.{Inductive}
use Rattle.laws.proofs.Plans.{within_first, numbered_first, pointer_together, home_under, within_over}
use Rattle.laws.proofs.Parts.{grey, Sent, scan_sent}
use Rattle.laws.proofs.Tests.{Tested, unchanged, recovery_begins, recovery_ends_lem}
use Rattle.laws.proofs.TurnKinds.{Turn, starts, scan, next_pass, to_sweep, sweep_slot, ends, Ends, turn_only, stage_elsewhere}
use Rattle.laws.proofs.Live.{LiveMarks, LiveAbove, NoneAboveTop, reach_forth, used_before, mark_before}
use Rattle.laws.proofs.Tidy.{Tidy, pass_live, tidy_above_kept, dark_elsewhere}
use Rattle.laws.proofs.Elsewhere.{only_sends}

module _ (plan : Layout) (law : Lawful plan) (a : ℕ) (low : lowest plan a ≡ true) where
  -- A mark was sent in a scan of area a in pass L, of block p that was not white.
  pub record SentIn (w : World) (c m l : ℕ) : Type 0 where
    pub pass : ℕ
    pub at : stage w.memory a ≡ Pass pass
    pub from : ℕ
    pub inside : within plan a from ≡ true
    pub is_grey_lem : grey w.memory from
    pub sent : Sent plan law a low pass from w.memory c m l

  -- A mark waits only where it waited or was sent by the turn.
  pub waits_before : (w v : World) → Inductive plan w → Turn plan law a low w v → (c m l : ℕ) → v.waits c m l ≡ true → (w.waits c m l ≡ true) ⊎ SentIn w c m l
  waits_before w v inv (starts at u d g o) c m l h = inl (and_parts (w.waits c m l) _ (sym (d.waits_is c m l) ∙ ap (λ q. q c m l) (sym o) ∙ h)).0
  waits_before w v inv (scan L p k at n inside there is_grey_lem s) c m l h =
      elim (or_cases (w.waits c m l) _ (sym (s.waits_is c m l) ∙ h)) [
        | inl was ↦ inl was
        | inr sent ↦ inr (record { pass = L; at = at; from = p; inside = inside; is_grey_lem = is_grey_lem; sent = scan_sent plan law a low w inv.sound.shape L p k there c m l sent })
      ]
  waits_before w v inv (next_pass L at more s o) c m l h = inl (ap (λ q. q c m l) (sym o) ∙ h)
  waits_before w v inv (to_sweep L at s is st se o) c m l h = inl (ap (λ q. q c m l) (sym o) ∙ h)
  waits_before w v inv (sweep_slot k at inside s o) c m l h = inl (ap (λ q. q c m l) (sym o) ∙ h)
  waits_before w v inv (ends k at past s) c m l h = inl (ap (λ q. q c m l) (sym s.waits) ∙ h)

  module _ (x l : ℕ) (nx : numbered (length plan.areas) x ≡ true) (level : (area_at plan.areas x).level ≡ l) (ll : 2 ≤ l) (hl : l ≤ top plan) where
    -- marks of level l into area x are sent only from areas under x, by rounds that send for l
    pub sender_under : (w : World) (c m : ℕ) → numbered (slot_count plan) c ≡ true → within plan x c ≡ true → SentIn w c m l → above plan a l ≡ x
    sender_under w c m n inside s =
        let at = law.at_home c n in
        pointer_together plan law a (home plan c) s.from c l low at.0 s.inside at.1 (subst (λ j. j ≤ l) s.sent.level s.sent.upward)
        ∙ home_under plan law x l nx level c n inside

    sender_live : (w : World) (c m : ℕ) → (s : SentIn w c m l) → Tidy plan w a l → Reach w.memory s.from
    sender_live w c m s tidy =
        elim (cases_lt l s.pass) [
          | inl less ↦ tidy.above.passing s.pass s.at less s.from s.inside s.is_grey_lem.0 s.is_grey_lem.1.0
          | inr most ↦
              let same : s.pass ≡ l = omega (arith, most, s.sent.in_pass) in
              tidy.at_level (subst (λ L. stage w.memory a ≡ Pass L) same s.at) s.sent.sending s.from s.inside s.is_grey_lem.0 s.is_grey_lem.1.0
        ]

    -- A turn keeps the marks of level l in area x those of reachable blocks: a new one is sent by a block that is not white, of a tidy area.
    pub live_marks_kept : (w v : World) → Inductive plan w → Turn plan law a low w v → LiveMarks plan w x l → (above plan a l ≡ x → Tidy plan w a l) → LiveMarks plan v x l
    live_marks_kept w v inv turn live tidy b m n inside lm hm h =
        reach_forth plan law a low w v inv turn b
        (elim (or_cases (mark v.memory b m l) _ h) [
          | inl set ↦ elim (mark_before plan law a low w v turn b m l (numbered_first _ b n) lm (omega (arith, hm, hl, law.high.1)) ll (omega (arith, hl, law.high.1)) set) [
            | inl was ↦ live b m n inside lm hm (or_left (mark w.memory b m l) _ was)
            | inr waits ↦ live b m n inside lm hm (or_right (mark w.memory b m l) _ waits)
          ]
          | inr waits ↦ elim (waits_before w v inv turn b m l waits) [
            | inl was ↦ live b m n inside lm hm (or_right (mark w.memory b m l) _ was)
            | inr s ↦ step (sender_live w b m s (tidy (sender_under w b m n inside s))) s.sent.points
          ]
        ])

  -- what an area sends for after a turn of another, it sent for before
  sends_elsewhere : (w v : World) → Turn plan law a low w v → (e l : ℕ) → lowest plan e ≡ true → (e ≡ a → ⊥) → 2 ≤ l → l ≤ top plan → sends v.memory e l ≡ true → sends w.memory e l ≡ true
  sends_elsewhere w v turn e l le ne ll hl h =
      elim (turn_only plan law a low w v turn) [
        | inl only ↦ sym (only_sends plan a w.memory v.memory only e l le ne) ∙ h
        | inr q ↦ let over = law.above_area e l le (omega (arith, ll)) hl in at-end q.1.1.1 (q.1.1.1.tested (above plan e l) l over.0 over.1 ll hl)
      ]
    where
      at-end : (s : Ends plan law a low w v) → Tested plan w.waits a (above plan e l) l s.over v.memory → sends w.memory e l ≡ true
      at-end s (unchanged f _) = sym (only_sends plan a w.memory s.over s.moves.only e l le ne) ∙ sym (f.sends_is e le refl) ∙ h
      at-end s (recovery_begins was is f none) = absurd (false≢true (sym (f.sends_is e le refl) ∙ h))
      at-end s (recovery_ends_lem was is f) = absurd (false≢true (sym (f.sends_is e le refl) ∙ h))

  tidy_own : (w v : World) → Inductive plan w → NoneAboveTop plan w.memory → Turn plan law a low w v → (x l : ℕ) → numbered (length plan.areas) x ≡ true → (area_at plan.areas x).level ≡ l →
      LiveAbove plan w l → LiveMarks plan w x l → above plan a l ≡ x → Tidy plan w a l → stage v.memory a ≡ Pass l → sends v.memory a l ≡ true →
      (b : ℕ) → within plan a b ≡ true → is_some (block_at v.memory b) ≡ true → white v.memory b ≡ false → Reach v.memory b
  tidy_own w v inv none turn x l nx level live marks under was is sending b inside used dark =
      reach_forth plan law a low w v inv turn b
      (pass_live plan law a low w v inv none turn l is
      (λ c m n less most there. (live c m n less most).0 there)
      (λ c m n here _ lm hm set. marks c m n (within_over plan law x l nx level a c low under here) lm hm set)
      was.above.resting was.above.passing (λ at kept. was.at_level at (ap (λ c. sends_at c l) (sym kept) ∙ sending)) b inside used dark)

  -- A turn keeps every area under x tidy at level l too, where the marks of level l in x are those of reachable blocks.
  pub tidy_kept : (w v : World) → Inductive plan w → NoneAboveTop plan w.memory → Turn plan law a low w v → (x l : ℕ) → numbered (length plan.areas) x ≡ true → (area_at plan.areas x).level ≡ l → 2 ≤ l → l ≤ top plan →
      LiveAbove plan w l → LiveMarks plan w x l → (e : ℕ) → lowest plan e ≡ true → above plan e l ≡ x → Tidy plan w e l → Tidy plan v e l
  tidy_kept w v inv none turn x l nx level ll hl live marks e le under was =
      record {
        above = tidy_above_kept plan law a low w v inv none turn l live e le was.above;
        at_level = elim (cases_eq e a) [
          | inl same ↦
              subst (λ n. stage v.memory n ≡ Pass l → sends v.memory n l ≡ true → (b : ℕ) → within plan n b ≡ true → is_some (block_at v.memory b) ≡ true → white v.memory b ≡ false → Reach v.memory b) (sym same)
              (tidy_own w v inv none turn x l nx level live marks (subst (λ n. above plan n l ≡ x) same under) (subst (λ n. Tidy plan w n l) same was))
          | inr ne ↦ λ is sending b inside used dark. reach_forth plan law a low w v inv turn b
              (was.at_level (sym (stage_elsewhere plan law a low w v turn e le ne) ∙ is) (sends_elsewhere w v turn e l le ne ll hl sending) b inside
              (used_before plan law a low w v turn b (within_first plan e b inside) used) (dark_elsewhere plan law a low w v turn e le ne b inside dark))
        ];
      }
