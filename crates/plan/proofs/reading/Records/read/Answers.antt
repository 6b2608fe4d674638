use Rattle.std.proofs.Common.{◌≡◌, ℕ, ◌+◌, ◌/◌, ◌%◌, ◌<◌, ◌≤◌, true, false, length, Ok, Err, sym, ap, ◌∙◌, subst, arith}
use Rattle.std.specs.Prelude.{◌==◌}
use Rattle.std.proofs.lemmas.Bool.{and_from, eq-eqb, le-leb, cond-true}
use Rattle.std.proofs.lemmas.Bool.Decides.{nat_tests}
use Rattle.std.proofs.lemmas.Result.{err_from_is_err_and}
use Rattle.plan.specs.Answers.{Answers}
use Rattle.plan.specs.Reading.{good_length, record_in_range, read_records, records_read}
use Rattle.plan.proofs.Parts.{few_told, range_told}
use Rattle.plan.proofs.Conds.{ok_or_ok, ok_or_err}
use Rattle.plan.proofs.Firsts.{tried_none, tried_more, tried_wrong, tried_all}
use Rattle.plan.proofs.Records.{area_told, range_of_record}
use Rattle.plan.proofs.reading.Records.read.Goals as goal
use Rattle.plan.proofs.reading.Records.read.Goals.{After-loop-index}

-- one to 64 whole records
good_row : (n records rest : ℕ) → records ≡ n / 6 → rest ≡ n % 6 → false ≡ (records == 0) → records ≤ 64 → true ≡ (rest == 0) → good_length n ≡ true
good_row n records rest whole left some few none =
    let r : (records ≡ 0) → ⊥ = grind (arith, nat_tests, some) in
    let s : rest ≡ 0 = grind (arith, nat_tests, none) in
    and_from _ _ (eq-eqb (n % 6) 0 (omega (arith, left, s))) (and_from _ _ (le-leb 6 n (omega (arith, whole, r))) (le-leb n 384 (omega (arith, whole, few, left, s))))

pub loop-index-init : goal.loop-index-init
loop-index-init c =
    record {
      good = good_row _ _ _ c.as_chunks.ensures.front_len c.as_chunks.ensures.back_len c.if-is_empty.ensures c.if-records-gt64.false c.if-not-is_empty.ensures;
      tried = rw c.new-areas.ensures.items (tried_none _ _ _);
    }

pub returns-in_err-area : goal.returns-in_err-area
returns-in_err-area c =
    let bytes = c.args.bytes.now in
    let n = length bytes / 6 in
    let i = c.loop-index.index in
    let records = c.as_chunks.result.0.now in
    let within : i < n = omega (arith, c.loop-index-test.true, c.as_chunks.ensures.front_len) in
    let p = err_from_is_err_and c.from_residual.result c.from_residual.ensures.1 in
    let q = ok_or_err _ _ _ _ c.read_record.result c.in_err-area.ensures.value c.read_record.ensures in
    let wrong : record_in_range bytes n (i + 1) ≡ false = sym (range_of_record bytes records n i c.as_chunks.ensures.front within c.as_chunks.ensures.front_len) ∙ q.0 in
    subst (Answers _ _) (sym (p.1 ∙ ap (λ x. Err x) (p.2 ∙ q.1)))
    (cond-true _ _ _ c.loop-index.invariant.good ∙ ap (records_read bytes n) (tried_wrong _ _ _ _ _ c.loop-index.invariant.tried (omega (arith, within)) wrong))

pub loop-index-preserved : goal.loop-index-preserved
loop-index-preserved c =
    let bytes = c.args.bytes.now in
    let n = length bytes / 6 in
    let i = c.loop-index.index in
    let records = c.as_chunks.result.0.now in
    let within : i < n = omega (arith, c.loop-index-test.true, c.as_chunks.ensures.front_len) in
    let q = ok_or_ok _ _ _ _ c.read_record.result c.in_ok-area.ensures.value c.read_record.ensures in
    let right : record_in_range bytes n (i + 1) ≡ true = sym (range_of_record bytes records n i c.as_chunks.ensures.front within c.as_chunks.ensures.front_len) ∙ q.0 in
    record {
      good = c.loop-index.invariant.good;
      tried = tried_more _ _ _ _ _ c.loop-index.invariant.tried _ _ (omega arith) (omega (arith, within)) right c.in_ok-push.ensures.items (q.1 ∙ area_told bytes records n i c.as_chunks.ensures.front within);
    }

-- all records were read
all_read : (c : After-loop-index) → read_records c.args.bytes.now (length c.args.bytes.now / 6) ≡ Ok c.loop-index.areas.items
all_read c =
    let n = length c.args.bytes.now / 6 in
    let all : c.loop-index.index ≡ n = omega (arith, c.loop-index-test.false, c.loop-index.auto.index-end, c.as_chunks.ensures.front_len) in
    let a = tried_all _ _ n c.loop-index.areas.items _ (ap (λ i. i + 1) all) c.loop-index.invariant.tried in
    ap (records_read c.args.bytes.now n) a.0 ∙ ap (λ x. Ok x) (sym a.1)

pub invariant_of-result : goal.invariant_of-result
invariant_of-result c =
    let bytes = c.args.bytes.now in
    let areas = c.loop-index.areas.items in
    let good = c.loop-index.invariant.good in
    let read = all_read c in
    record { few = few_told bytes good areas read; in_range = range_told bytes good areas read }

pub returns : goal.returns
returns c = cond-true _ _ _ c.loop-index.invariant.good ∙ all_read (goal.at.returns c).After-loop-index
