-- Gentle changes keep the invariant: fewer roots and pointers, blocks shaded, clear marks of entries sent.
use Rattle.std.proofs.Common.{◌≡◌, ℕ, ◌≤◌, true, false, ◌⊎◌, is_some, sym, ap, ◌∙◌, inl, inr}
use Rattle.state.specs.declared.collector.Collector.{Collector}
use Rattle.state.specs.Layout.{Layout, slot_count, within, level_of}
use Rattle.state.specs.Lawful.{Lawful}
use Rattle.state.specs.Memory.{World, block_at, collector_at, status_at, sends_at}
use Rattle.state.specs.Pasts.{Points}
use Rattle.laws.specs.Roots.{Root, Reach, root, step}
use Rattle.laws.specs.Views.{white, black, entry, mark, mark_or_waits, stage, status, sends, marks_above}
use Rattle.laws.specs.Invariant.{Told}
use Rattle.laws.specs.Inductive.{LocallyCovered, from_root, Sound, Safe}
use Rattle.laws.proofs.Plans.{within_first, numbered_first}
use Rattle.laws.proofs.Reached.{reached_first}
use Rattle.laws.proofs.Flags.{stays_false}
use Rattle.laws.proofs.Frames.{collector_same}
use Rattle.laws.proofs.Elsewhere.{marks_above_same}
use Rattle.laws.proofs.Covers.{local_back, covered_same, mark_or_waits_lem, told_same, CanBeSet, settable_same}

pub record Gentle (plan : Layout) (w v : World) : Type 0 where
  pub roots : (b : ℕ) → Root v.memory b → Root w.memory b
  pub points : (p b : ℕ) → Points v.memory p b → Points w.memory p b
  pub used : (b : ℕ) → 1 ≤ b → is_some (block_at v.memory b) ≡ is_some (block_at w.memory b)
  pub entries : (b m : ℕ) → 1 ≤ b → entry v.memory b m ≡ entry w.memory b m
  pub marks : (b m l : ℕ) → 1 ≤ b → mark v.memory b m l ≡ mark w.memory b m l
  pub whites : (b : ℕ) → 1 ≤ b → white v.memory b ≡ true → white w.memory b ≡ true
  pub blacks : (b : ℕ) → 1 ≤ b → black v.memory b ≡ true → black w.memory b ≡ true
  pub collectors : v.memory.collectors ≡ w.memory.collectors
  pub phases : v.memory.phases ≡ w.memory.phases
  pub waiting : (b m l : ℕ) → w.waits b m l ≡ true → v.waits b m l ≡ true
  pub sent : (b m l : ℕ) → v.waits b m l ≡ true → (w.waits b m l ≡ true) ⊎ CanBeSet plan w.memory b m l

module _ (plan : Layout) (law : Lawful plan) (w v : World) (sound : Sound plan w.memory) (safe : Safe plan w) (g : Gentle plan w v) where
  reach : (b : ℕ) → Reach v.memory b → Reach w.memory b
  reach b (root r) = root (g.roots b r)
  reach b (step {p} r e) = step (reach p r) (g.points p b e)

  pointed_first : (p b : ℕ) → Points v.memory p b → 1 ≤ b
  pointed_first p b e = numbered_first (slot_count plan) b (sound.pointed_slots p b (g.points p b e))

  collector_is : (a : ℕ) → collector_at v.memory a ≡ collector_at w.memory a
  collector_is = collector_same w.memory v.memory g.collectors

  stage_is : (a : ℕ) → stage w.memory a ≡ stage v.memory a
  stage_is a = sym (ap (λ (c : Collector). c.stage) (collector_is a))

  status_is : (a l : ℕ) → status w.memory a l ≡ status v.memory a l
  status_is a l = sym (ap (λ c. status_at c l) (collector_is a))

  sends_is : (a l : ℕ) → sends w.memory a l ≡ sends v.memory a l
  sends_is a l = sym (ap (λ c. sends_at c l) (collector_is a))

  marks_above_lem : (a l : ℕ) → marks_above plan w.memory a l ≡ marks_above plan v.memory a l
  marks_above_lem a l = sym (marks_above_same plan w.memory v.memory g.phases a l)

  not_white : (b : ℕ) → 1 ≤ b → white w.memory b ≡ false → white v.memory b ≡ false
  not_white b h was = stays_false (g.whites b h) was

  not_black : (b : ℕ) → 1 ≤ b → black w.memory b ≡ false → black v.memory b ≡ false
  not_black b h was = stays_false (g.blacks b h) was

  marked_or_waiting : (b m l : ℕ) → 1 ≤ b → mark_or_waits w b m l ≡ true → mark_or_waits v b m l ≡ true
  marked_or_waiting b m l h = mark_or_waits_lem w v b m l (λ set. g.marks b m l h ∙ set) (g.waiting b m l)

  local : (a l b : ℕ) → LocallyCovered plan v.memory a l b → LocallyCovered plan w.memory a l b
  local a l =
      local_back plan w.memory v.memory a l (λ b inside r. from_root inside (g.roots b r)) g.points
      (λ b inside there. sym (g.used b (within_first plan a b inside)) ∙ there)
      (λ b m inside _ _ e. sym (g.entries b m (within_first plan a b inside)) ∙ e)
      (λ b m inside _ _ e. sym (g.marks b m l (within_first plan a b inside)) ∙ e)

  told : (l : ℕ) (P Q : ℕ → Type 0) → ((b : ℕ) → Q b → P b) → Told plan w l P → Told plan v l Q
  told l = told_same plan w v sound g.points g.entries l (λ b m h _ _. marked_or_waiting b m l h)

  settable : (b m l : ℕ) → v.waits b m l ≡ true → CanBeSet plan v.memory b m l
  settable b m l e =
      settable_same plan w.memory v.memory b m l (g.entries b m) (g.marks b m l)
      (elim (g.sent b m l e) [
        | inl waited ↦ safe.settable b m l waited
        | inr new ↦ new
      ])

  pub gentle_keeps : Safe plan v
  gentle_keeps = record {
    alive = λ b r. g.used b (reached_first plan w.memory sound b (reach b r)) ∙ safe.alive b (reach b r);
    entered = λ p b r e h. g.entries b (level_of plan p b) (pointed_first p b e) ∙ safe.entered p b (reach p r) (g.points p b e) h;
    settable = settable;
    no_black_at_rest = λ a b low at inside. not_black b (within_first plan a b inside) (safe.no_black_at_rest a b low (stage_is a ∙ at) inside);
    no_black_behind = λ a b k low at inside h. not_black b (within_first plan a b inside) (safe.no_black_behind a b k low (stage_is a ∙ at) inside h);
    rooted = λ a b L low at inside r. not_white b (within_first plan a b inside) (safe.rooted a b L low (stage_is a ∙ at) inside (g.roots b r));
    inner = λ a b c L low at inb inc dark e.
        not_white c (within_first plan a c inc) (safe.inner a b c L low (stage_is a ∙ at) inb inc (g.blacks b (within_first plan a b inb) dark) (g.points b c e));
    shaded_by_entry = λ a b m L low at inside lo hi e.
        let first = within_first plan a b inside in
        not_white b first (safe.shaded_by_entry a b m L low (stage_is a ∙ at) inside lo hi (sym (g.entries b m first) ∙ e));
    shaded_by_mark = λ a b m j L low at inside lo up hi h e.
        let first = within_first plan a b inside in
        not_white b first (safe.shaded_by_mark a b m j L low (stage_is a ∙ at) inside lo up hi h (sym (g.marks b m j first) ∙ e));
    swept_reached = λ a b k low at inside h r. not_white b (within_first plan a b inside) (safe.swept_reached a b k low (stage_is a ∙ at) inside h (reach b r));
    swept_entered = λ a b k m low at inside h lo hi e.
        let first = within_first plan a b inside in
        not_white b first (safe.swept_entered a b k m low (stage_is a ∙ at) inside h lo hi (sym (g.entries b m first) ∙ e));
    begun_runs = λ a l low lo hi e at. safe.begun_runs a l low lo hi (status_is a l ∙ e) (stage_is a ∙ at);
    begun_sends = λ a l low lo hi e up. sym (sends_is a l) ∙ safe.begun_sends a l low lo hi (status_is a l ∙ e) (marks_above_lem a l ∙ up);
    sends_marking = λ a l low lo hi e. sym (marks_above_lem a l) ∙ safe.sends_marking a l low lo hi (sends_is a l ∙ e);
    scanned = λ a l L low lo hi up e at h.
        told l (λ b. (within plan a b ≡ true) × (black w.memory b ≡ true)) (λ b. (within plan a b ≡ true) × (black v.memory b ≡ true))
        (λ b q. (q.0, g.blacks b (within_first plan a b q.0) q.1)) (safe.scanned a l L low lo hi (marks_above_lem a l ∙ up) (status_is a l ∙ e) (stage_is a ∙ at) h);
    covered = λ a l low lo hi up h.
        elim (safe.covered a l low lo hi (marks_above_lem a l ∙ up) (covered_same w.memory v.memory a l (sym (stage_is a)) (sym (status_is a l)) h)) [
          | inl (b, (m, (inside, waits))) ↦ inl (b, (m, (inside, g.waiting b m l waits)))
          | inr all ↦ inr (told l (LocallyCovered plan w.memory a l) (LocallyCovered plan v.memory a l) (local a l) all)
        ];
    kept = λ a p b l low lo hi up e inside r q at.
        marked_or_waiting b l l (within_first plan a b inside) (safe.kept a p b l low lo hi (marks_above_lem a l ∙ up) (status_is a l ∙ e) inside (reach p r) (g.points p b q) at);
  }
