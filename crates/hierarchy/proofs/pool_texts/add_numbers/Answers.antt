use Rattle.std.proofs.Common.{arith, ◌∙◌, ap, Some, get_or, ◌∷◌, [], length, slice_get, ◌≡◌}
use Rattle.std.proofs.lemmas.List.{length-append}
use Rattle.loading.specs.Names.{text_at}
use Rattle.hierarchy.proofs.PoolTextsLemmas.{text_there, numbers_next, numbers_whole}
use Rattle.hierarchy.proofs.pool_texts.add_numbers.Goals as goal

pub loop-constant-preserved : goal.loop-constant-preserved
loop-constant-preserved c =
    let file = c.args.file.now in
    let new = c.number_of.new.texts in
    let before = c.loop-constant.invariant in
    let k = c.loop-constant.constant-index in
    let number = c.in_ok-number.number in
    let pushed = c.in_ok-push.ensures.items in
    let here : slice_get new number ≡ Some (text_at file k) = c.in_ok-number.ensures.number
    ∙ ap Some (text_there file c.constants-constants.result.now k c.constant-item.result
    c.constants-constants.ensures.value c.loop-constant-test.true c.constant-item.is) in
    record {
      keeps = λ i text at. c.in_ok-number.ensures.keeps i text (before.keeps i text at);
      distinct = λ was. c.in_ok-number.ensures.distinct (before.distinct was);
      count = omega (arith, ap length pushed, length-append c.loop-constant.numbers.items (number ∷ []), before.count);
      there = λ i small. ap (λ l. slice_get new (get_or l i 0)) pushed
          ∙ numbers_next file c.loop-constant.texts new c.loop-constant.numbers.items number k before.count
          c.in_ok-number.ensures.keeps before.there here i small;
    }

pub returns-clause-numbers : goal.returns-clause-numbers
returns-clause-numbers c =
    numbers_whole c.args.file.now c.loop-constant.texts c.loop-constant.numbers.items c.loop-constant.constant-index
    c.loop-constant.invariant.count (omega (arith, ap length c.constants-constants.ensures.value))
    (c.loop-constant.invariant.keeps 0 [] c.requires.first) c.loop-constant.invariant.there
