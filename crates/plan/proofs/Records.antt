-- A record's six bytes, cut out of the row.
use Rattle.std.proofs.Common.{◌≡◌, ℕ, zero, suc, ◌+◌, ◌*◌, ◌<◌, ◌&&◌, List, [], length, get_or, drop, ap, ◌∙◌, arith}
use Rattle.std.specs.Prelude.{◌==◌}
use Rattle.std.specs.Simd.{first_chunks}
use Rattle.std.proofs.lemmas.List.{get_or-take, get_or-drop}
use Rattle.chain.specs.Chain.{place}
use Rattle.plan.specs.Reading.{byte_of, area_of, area_in_range, record_in_range}

-- byte j of the chunk at an index
chunk_byte : (k : ℕ) (bytes : List ℕ) (i j : ℕ) → i < k → j < 6 → get_or (get_or (first_chunks 6 k bytes) i []) j 0 ≡ get_or bytes (6 * i + j) 0
chunk_byte zero bytes i j l m = absurd (omega arith)
chunk_byte (suc k) bytes zero j l m = let e : j ≡ 6 * 0 + j = omega arith in get_or-take 6 bytes j 0 m ∙ ap (λ x. get_or bytes x 0) e
chunk_byte (suc k) bytes (suc i) j l m =
    let e : 6 + (6 * i + j) ≡ 6 * suc i + j = omega arith in
    chunk_byte k (drop 6 bytes) i j (omega arith) m ∙ get_or-drop 6 bytes (6 * i + j) 0 ∙ ap (λ x. get_or bytes x 0) e

module _ (bytes : List ℕ) (records : List (List ℕ)) (n i : ℕ) (cut : records ≡ first_chunks 6 n bytes) (l : i < n) where
  byte_told : (j : ℕ) → j < 6 → byte_of (get_or records i []) 1 j ≡ byte_of bytes (i + 1) j
  byte_told j m =
      let here : 6 * place 1 + j ≡ j = omega arith in
      let there : 6 * i + j ≡ 6 * place (i + 1) + j = omega arith in
      ap (λ x. get_or (get_or records i []) x 0) here ∙ ap (λ rs. get_or (get_or rs i []) j 0) cut ∙ chunk_byte n bytes i j l m ∙ ap (λ x. get_or bytes x 0) there

  pub area_told : area_of (get_or records i []) 1 ≡ area_of bytes (i + 1)
  area_told t = record { level = byte_told 0 (omega arith) t; child = byte_told 1 (omega arith) t; next = byte_told 2 (omega arith) t; slots = byte_told 4 (omega arith) t + 256 * byte_told 5 (omega arith) t }

  pub range_of_record : length records ≡ n → (byte_of (get_or records i []) 1 3 == 0 && area_in_range (length records) (i + 1) (area_of (get_or records i []) 1)) ≡ record_in_range bytes n (i + 1)
  range_of_record long t = (byte_told 3 (omega arith) t == 0) && area_in_range (long t) (i + 1) (area_told t)
