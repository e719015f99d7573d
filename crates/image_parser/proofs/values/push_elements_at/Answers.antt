use Rattle.std.proofs.Common.{◌≡◌, ◌∙◌, ◌-◌, [], ◌∷◌, ◌++◌, arith, refl}
use Rattle.std.proofs.lemmas.Result.{err_from_is_err_and}
use Rattle.image_parser.specs.reading.Held.{HoldsValue}
use Rattle.image_parser.specs.reading.Values.{element_at}
use Rattle.image_parser.proofs.EachLemmas.{next_time, time_fails, all_times}
use Rattle.image_parser.proofs.ReadsLemmas.{grows_more, grows_none, held_all}
use Rattle.image_parser.proofs.StaysLemmas.{value_stays}
use Rattle.image_parser.proofs.values.push_elements_at.Goals as goal

pub loop-index-init : goal.loop-index-init
loop-index-init c =
    let all : c.args.count - 0 ≡ c.args.count = omega arith in
    record { told = []; grows = rw c.requires (grows_none HoldsValue c.args.program.now); reads = rw all refl }

pub returns-in_err-value : goal.returns-in_err-value
returns-in_err-value c =
    let p = err_from_is_err_and c.from_residual.result c.from_residual.ensures.1 in
    let so_far = c.loop-index.invariant in
    rw (p.1, p.2) (
      time_fails (λ (one : Unit {0}). element_at c.args.kind) c.in_err-value.field-0.0 _ _ c.loop-index-test.true
          c.in_err-value.ensures.0 so_far.reads,
      c.in_err-value.ensures.1 ∙ so_far.grows.adds.family,
    )

pub loop-index-preserved : goal.loop-index-preserved
loop-index-preserved c =
    let so_far = c.loop-index.invariant in
    let h = c.in_ok-value.ensures in
    record {
      told = so_far.told ++ h.told ∷ [];
      grows = rw c.in_ok-push.ensures.ok (grows_more HoldsValue value_stays c.args.program.now c.loop-index.program
          c.element_at.new.program so_far.told c.loop-index.slots c.in_ok-value.value _ _ so_far.grows h);
      reads = next_time (λ (one : Unit {0}). element_at c.args.kind) _ _ c.loop-index-test.true h.is so_far.reads;
    }

pub returns : goal.returns
returns c =
    let so_far = c.loop-index.invariant in
    held_all HoldsValue c.args.program.now c.loop-index.program so_far.told c.loop-index.slots _ _ so_far.grows
    (all_times (λ (one : Unit {0}). element_at c.args.kind) _ _ c.loop-index-test.false so_far.reads)
