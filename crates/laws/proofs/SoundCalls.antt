-- Every call keeps the tables of a memory sound.
use Rattle.std.proofs.Common.{◌≡◌, ℕ, ◌<◌, ◌≤◌, true, eqb, leb, subst}
use Rattle.std.proofs.lemmas.Bool.{cond_both, leb-true, ltb-true}
use Rattle.chain.specs.Chain.{numbered}
use Rattle.state.specs.declared.word.Word.{Word}
use Rattle.state.specs.declared.word.Word.TheVariants.{Number, Pointer}
use Rattle.state.specs.Registers.{held}
use Rattle.state.specs.Layout.{Layout, slot_count, lowest, level_of}
use Rattle.state.specs.Lawful.{Lawful}
use Rattle.state.specs.Blocks.{shade, with_word, with_entry}
use Rattle.state.specs.Holds.{held_block, unheld_block}
use Rattle.state.specs.Memory.{World, collector_at, on_block}
use Rattle.state.specs.Calls
use Rattle.state.specs.Calls.{Call, answered}
use Rattle.laws.specs.Roots.{from_register}
use Rattle.laws.specs.Inductive.{Sound}
use Rattle.laws.proofs.Plans.{within_numbered}
use Rattle.laws.proofs.ByCall.{by_call}
use Rattle.laws.proofs.Sound.{keeps_coloured, keeps_entry, keeps_holds, keeps_word, keeps_unless, sound_on, sound_register}
use Rattle.laws.proofs.SoundSlots.{first_free, sound_filled}
use Rattle.laws.proofs.SoundTurns.{sound_turned}
use Rattle.laws.proofs.Changed.{pointer_same, number_pointer}

-- A word that is a pointer names a slot.
abbrev Names : Layout → Word → Type 0
Names plan v = (b : ℕ) → v ≡ Pointer b → numbered (slot_count plan) b ≡ true

module _ (plan : Layout) (law : Lawful plan) (w : World) (sound : Sound plan w.memory) where
  -- Making
  pub sound_made : (p q n : ℕ) → lowest plan q ≡ true → n ≤ 8 → 0 < (collector_at w.memory q).free → Sound plan (Calls.block_made p q n w.memory)
  sound_made p q n low small pos =
      sound_register plan p (Pointer (collector_at w.memory q).free)
      (λ b e. let same : (collector_at w.memory q).free ≡ b = cc in subst (λ c. numbered (slot_count plan) c ≡ true) same (within_numbered plan law q _ low (first_free plan law q low w.memory sound pos).inside))
      _ (sound_filled plan law q low w.memory sound n small pos)

  -- Writing and reading
  pub sound_written : (p i : ℕ) (v : Word) → Names plan v → Sound plan (Calls.word_written plan p i v w).memory
  sound_written p i (Number n) names = sound_on plan p (with_word i (Number n)) (keeps_word plan i (Number n) names) w.memory sound
  sound_written p i (Pointer c) names =
      let written = sound_on plan p (with_word i (Pointer c)) (keeps_word plan i (Pointer c) names) w.memory sound in
      cond_both (leb 2 (level_of plan p c)) _ _ (λ (v : World). Sound plan v.memory)
      (λ _. sound_on plan c (with_entry (level_of plan p c)) (keeps_entry plan (level_of plan p c)) _ written)
      (λ _. written)

  pub sound_read : (q p : ℕ) (v : Word) → Names plan v → Sound plan (Calls.word_read plan q p v w).memory
  sound_read q p (Number n) names = sound_register plan p (Number n) names w.memory sound
  sound_read q p (Pointer c) names =
      let shaded = sound_on plan c shade (λ k. keeps_coloured plan _ k) _ (sound_register plan p (Pointer c) names w.memory sound) in
      cond_both (leb 2 (level_of plan q c)) _ _ (λ (v : World). Sound plan v.memory) (λ _. shaded) (λ _. shaded)

  -- Holds
  pub sound_held : (c : ℕ) → Sound plan (on_block c held_block w.memory)
  sound_held c = sound_on plan c held_block (λ k. keeps_unless plan (eqb k.holds 255) k _ (keeps_holds plan _ k)) w.memory sound

  pub sound_unheld : (c : ℕ) → Sound plan (on_block c unheld_block w.memory)
  sound_unheld c = sound_on plan c unheld_block (λ k. keeps_unless plan (eqb k.holds 0) k _ (keeps_holds plan _ k)) w.memory sound

  -- Every call, refused ones too.
  pub sound_calls : (size : ℕ) (c : Call) → Sound plan (answered plan size c w).world.memory
  sound_calls size c =
      by_call plan w (λ v. Sound plan v.memory)
      (record {
        refused = sound;
        made = λ p q n _ low small free. sound_made p q n low (leb-true n 8 small) (ltb-true 0 _ free);
        written = λ b i k v r there below roots. sound_written b i v (λ c e. sound.rooted_slots c (roots c e));
        number = λ p n. sound_register plan p (Number n) (λ b e. absurd (number_pointer e)) w.memory sound;
        copied = λ p q ok. sound_register plan p (held w.memory.registers q) (λ b e. sound.rooted_slots b (from_register q ok e)) w.memory sound;
        read = λ p b c r e. sound_read b p (Pointer c) (λ x same. subst (λ n. numbered (slot_count plan) n ≡ true) (pointer_same same) (sound.pointed_slots b c e));
        on_hold = λ c _. sound_held c;
        returned = sound_unheld;
        turn = λ a low. sound_turned plan law a low w sound;
      })
      size c
