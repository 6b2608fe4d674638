use Rattle.std.proofs.Common.{rules, tests, ◌≡◌, ◌+◌, not, length, sym, ap, ◌∙◌, arith}
use Rattle.std.specs.List.{position_from}
use Rattle.std.specs.Option.{option_map}
use Rattle.std.proofs.lemmas.Iterator.{YieldsList-from_slice}
use Rattle.std.proofs.lemmas.Iterator.Adapters.{position_from-zero}
use Rattle.std.proofs.lemmas.Iterator.Search.{position_from_yields_List}
use Rattle.plan.specs.Reading.{slots_right}
use Rattle.plan.proofs.Firsts.{wrong_position}
use Rattle.plan.proofs.reading.Records.first_wrong_slots.Goals as goal

pub returns : goal.returns
returns c =
    let areas = c.args.self.now.areas.items in
    let first = position_from_yields_List (λ a. not (slots_right a)) _ _ c.position-index.result c.position-index.ensures.ran (YieldsList-from_slice areas cc) (λ x b q k. search (rules, tests)) in
    let index : c.position-index.result ≡ position_from (λ a. not (slots_right a)) 0 areas = first ∙ position_from-zero (λ a. not (slots_right a)) areas in
    let number : c.map.result ≡ option_map (λ k. k + 1) c.position-index.result = search rules in
    number ∙ ap (option_map (λ k. k + 1)) index ∙ sym (wrong_position slots_right areas _ (length areas) 0 (omega arith))
