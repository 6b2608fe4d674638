-- The scan of one block in a pass keeps what keeps reachable blocks from being swept.
use Rattle.std.proofs.Common.{◌≡◌, ℕ, ◌≤◌, true, false, Some, sym, ap, ◌∙◌, subst, inl, inr, arith}
use Rattle.std.proofs.lemmas.Bool.{cases_Bool, cases_eq, or_cases, or_left, or_right}
use Rattle.state.specs.declared.block.Block.{Block}
use Rattle.state.specs.declared.collector.Stage.TheVariants.{Pass}
use Rattle.state.specs.declared.collector.Status.TheVariants.{Begun}
use Rattle.state.specs.Layout.{Layout, top, slot_count, lowest, within, level_of}
use Rattle.state.specs.Lawful.{Lawful}
use Rattle.state.specs.Memory.{World, block_at, status_at, sends_at, collector_at}
use Rattle.state.specs.Turns.{scan_sends, scanned}
use Rattle.state.specs.Pasts.{Points}
use Rattle.laws.specs.Views.{white, black, entry, mark, mark_or_waits, stage, status, sends, marks_above}
use Rattle.laws.specs.Invariant.{Told}
use Rattle.laws.specs.Inductive.{Sound, Safe}
use Rattle.laws.proofs.Plans.{within_first, numbered_first, within_numbered}
use Rattle.laws.proofs.Graphs.{points_back}
use Rattle.laws.proofs.Parts.{Scans, scans, scan_sends_lem, Sent, scan_sent}
use Rattle.laws.proofs.OneArea.{PassStep, AreaSafe, step_keeps, dark_stays, target_first, told_stays, marking_is, covered_stays, had_covered, entry_dark, mark_dark}
use Rattle.laws.proofs.Stages.{rest_pass, pass_sweep, pass_is}
use Rattle.laws.proofs.Covers.{CanBeSet}
use Rattle.laws.proofs.Frames.{collector_same}
use Rattle.laws.proofs.Elsewhere.{same_only}
use Rattle.state.specs.declared.collector.Collector.{Collector}

module _ (plan : Layout) (law : Lawful plan) (a : ℕ) (low : lowest plan a ≡ true) where
  module _ (w v : World) (sound : Sound plan w.memory) (safe : Safe plan w) (L p : ℕ) (k : Block) (was : stage w.memory a ≡ Pass L)
      (home : within plan a p ≡ true) (there : block_at w.memory p ≡ Some k) (did : Scans plan law a low L p k w v) where
    same_collector : collector_at v.memory a ≡ collector_at w.memory a
    same_collector = collector_same w.memory v.memory did.collectors a

    same_stage : stage v.memory a ≡ stage w.memory a
    same_stage = ap (λ (c : Collector). c.stage) same_collector

    -- a mark that is sent can be set
    sent_settable : (b m l : ℕ) → Sent plan law a low L p w.memory b m l → CanBeSet plan w.memory b m l
    sent_settable b m l sent =
        let inside = sound.passes_inside a L low was in
        (sound.pointed_slots p b sent.points, sent.from_2, sent.upward, omega (arith, inside.1, sent.in_pass), sent.entered, sent.clear)

    step : PassStep plan a L w v
    step =
        record {
          graph = did.graph;
          marks = did.marks;
          only = same_only a w.memory v.memory did.collectors did.phases;
          was = was;
          runs = λ e. rest_pass (stage v.memory a) L e (same_stage ∙ was);
          status_is = λ l. ap (λ c. status_at c l) same_collector;
          sends_is = λ l. ap (λ c. sends_at c l) same_collector;
          white_back = did.white_back;
          black_outside = λ b one out. did.black_others b one (λ same. out (subst (λ x. within plan a x ≡ true) (sym same) home));
          waits_stay = λ b m l waits. did.waits_is b m l ∙ or_left (w.waits b m l) (scan_sends plan w.memory a L p k b m l) waits;
          waits_settable = λ b m l waits.
              elim (or_cases (w.waits b m l) (scan_sends plan w.memory a L p k b m l) (sym (did.waits_is b m l) ∙ waits)) [
                | inl old ↦ safe.settable b m l old
                | inr new ↦ sent_settable b m l (scan_sent plan law a low w sound.shape L p k there b m l new)
              ];
        }

    black_before : (b : ℕ) → within plan a b ≡ true → (b ≡ p → ⊥) → black v.memory b ≡ true → black w.memory b ≡ true
    black_before b inside ne is-black = sym (did.black_others b (within_first plan a b inside) ne) ∙ is-black

    points_before : (b c : ℕ) → Points v.memory b c → Points w.memory b c
    points_before = points_back w.memory v.memory did.graph

    -- the inner pointers of the block that is now black lead to blocks that were shaded
    inner_kept : (b c M : ℕ) → stage v.memory a ≡ Pass M → within plan a b ≡ true → within plan a c ≡ true → black v.memory b ≡ true →
        Points v.memory b c → white v.memory c ≡ false
    inner_kept b c M at inside within-c is-black points =
        elim (cases_eq b p) [
          | inl same ↦ did.shaded c within-c (subst (λ x. Points w.memory x c) same (points_before b c points))
          | inr ne ↦
              dark_stays plan law a low L w v sound safe step c (within_first plan a c within-c)
              (safe.inner a b c M low (sym same_stage ∙ at) inside within-c (black_before b inside ne is-black) (points_before b c points))
        ]

    -- a mark of level l for what the block points to is set, or it was clear and is sent now
    told_now : (l : ℕ) → l ≤ L → sends w.memory a l ≡ true → (c : ℕ) → Points w.memory p c → 2 ≤ level_of plan p c → level_of plan p c ≤ l →
        entry w.memory c (level_of plan p c) ≡ true → mark_or_waits v c (level_of plan p c) l ≡ true
    told_now l upto sending c points crossing below entered =
        let m = level_of plan p c in
        elim (cases_Bool (mark w.memory c m l)) [
          | inl set ↦ told_stays plan law a low L w v sound safe step c m l (numbered_first (slot_count plan) c (sound.pointed_slots p c points)) (or_left (mark w.memory c m l) (w.waits c m l) set)
          | inr clear ↦
              or_right (mark v.memory c m l) (v.waits c m l)
              (did.waits_is c m l
              ∙ or_right (w.waits c m l) (scan_sends plan w.memory a L p k c m l) (scan_sends_lem plan law a low w sound.shape L p k there c l points crossing below upto sending entered clear))
        ]

    -- so black blocks of the area have told of their pointers: a round that has status 1 where the area above is marking does send
    scanned_kept : (l M : ℕ) → 2 ≤ l → l ≤ top plan → marks_above plan v.memory a l ≡ true → status v.memory a l ≡ Begun → stage v.memory a ≡ Pass M → l ≤ M →
        Told plan v l (λ b. (within plan a b ≡ true) × (black v.memory b ≡ true))
    scanned_kept l M two most marking is at upto b c (inside, is-black) points crossing below entered =
        elim (cases_eq b p) [
          | inl same ↦
              subst (λ x. mark_or_waits v c (level_of plan x c) l ≡ true) (sym same)
              (told_now l (subst (λ n. l ≤ n) (pass_is (stage w.memory a) M L at_before was) upto) (safe.begun_sends a l low two most is_before marking_before) c
              (subst (λ x. Points w.memory x c) same (points_before b c points)) (subst (λ x. 2 ≤ level_of plan x c) same crossing) (subst (λ x. level_of plan x c ≤ l) same below)
              (subst (λ x. entry w.memory c (level_of plan x c) ≡ true) same entered_before))
          | inr ne ↦
              told_stays plan law a low L w v sound safe step c (level_of plan b c) l one
              (safe.scanned a l M low two most marking_before is_before at_before upto b c (inside, black_before b inside ne is-black) (points_before b c points) crossing below entered_before)
        ]
      where
        one : 1 ≤ c
        one = target_first plan law a low L w v sound safe step b c points

        at_before : stage w.memory a ≡ Pass M
        at_before = sym same_stage ∙ at

        is_before : status w.memory a l ≡ Begun
        is_before = sym (step.status_is l) ∙ is

        marking_before : marks_above plan w.memory a l ≡ true
        marking_before = sym (marking_is plan law a low L w v sound safe step a l) ∙ marking

        entered_before : entry w.memory c (level_of plan b c) ≡ true
        entered_before = sym (did.marks.entry_is c (level_of plan b c) one) ∙ entered

    area_kept : AreaSafe plan v a
    area_kept =
        record {
          no_black_behind = λ b n at. absurd (pass_sweep (stage v.memory a) L n (same_stage ∙ was) at);
          inner = inner_kept;
          shaded_by_entry = λ b m M at. entry_dark plan law a low L w v sound safe step a b m M low (sym same_stage ∙ at);
          shaded_by_mark = λ b m j M at. mark_dark plan law a low L w v sound safe step a b m j M low (sym same_stage ∙ at);
          swept_reached = λ b n at. absurd (pass_sweep (stage v.memory a) L n (same_stage ∙ was) at);
          swept_entered = λ b n m at. absurd (pass_sweep (stage v.memory a) L n (same_stage ∙ was) at);
          scanned = scanned_kept;
          covered = λ l two most marking has.
              covered_stays plan law a low L w v sound safe step a l
              (safe.covered a l low two most (sym (marking_is plan law a low L w v sound safe step a l) ∙ marking) (had_covered plan law a low L w v sound safe step a l low same_stage has));
        }

    scan_kept : Safe plan v
    scan_kept = step_keeps plan law a low L w v sound safe step area_kept

  pub scan_keeps : (w : World) → Sound plan w.memory → Safe plan w → (L p : ℕ) (k : Block) → stage w.memory a ≡ Pass L → within plan a p ≡ true → block_at w.memory p ≡ Some k →
      Safe plan (scanned plan a L p k w)
  scan_keeps w sound safe L p k was inside there =
      scan_kept w (scanned plan a L p k w) sound safe L p k was inside there (scans plan law a low w sound.shape L p k (within_numbered plan law a p low inside) there)
