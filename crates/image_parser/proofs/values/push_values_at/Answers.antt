use Rattle.std.proofs.Common.{◌∙◌, [], ◌∷◌, ◌++◌, refl}
use Rattle.std.proofs.lemmas.Result.{err_from_is_err_and}
use Rattle.image_parser.specs.reading.Held.{HoldsValue}
use Rattle.image_parser.specs.reading.Values.{value_at}
use Rattle.image_parser.proofs.EachLemmas.{next_of, fails_of, all_of}
use Rattle.image_parser.proofs.ReadsLemmas.{grows_more, grows_none, held_all}
use Rattle.image_parser.proofs.StaysLemmas.{value_stays}
use Rattle.image_parser.proofs.values.push_values_at.Goals as goal

pub loop-kind-init : goal.loop-kind-init
loop-kind-init c =
    record { told = []; grows = rw c.requires (grows_none HoldsValue c.args.program.now); reads = refl }

pub returns-in_err-value : goal.returns-in_err-value
returns-in_err-value c =
    let p = err_from_is_err_and c.from_residual.result c.from_residual.ensures.1 in
    let so_far = c.loop-kind.invariant in
    rw (p.1, p.2) (
      fails_of value_at c.in_err-value.field-0.0 c.args.kinds.now _ _ _ c.loop-kind-test.true
          c.in_err-value.ensures.0 so_far.reads,
      c.in_err-value.ensures.1 ∙ so_far.grows.adds.family,
    )

pub loop-kind-preserved : goal.loop-kind-preserved
loop-kind-preserved c =
    let so_far = c.loop-kind.invariant in
    let h = c.in_ok-value.ensures in
    record {
      told = so_far.told ++ h.told ∷ [];
      grows = rw c.in_ok-push.ensures.items (grows_more HoldsValue value_stays c.args.program.now c.loop-kind.program
          c.value_at.new.program so_far.told c.loop-kind.values.items c.in_ok-value.value _ _ so_far.grows h);
      reads = next_of value_at c.args.kinds.now _ _ _ c.loop-kind-test.true h.is so_far.reads;
    }

pub returns : goal.returns
returns c =
    let so_far = c.loop-kind.invariant in
    held_all HoldsValue c.args.program.now c.loop-kind.program so_far.told c.loop-kind.values.items _ _ so_far.grows
    (all_of value_at c.args.kinds.now _ _ c.loop-kind-test.false so_far.reads)
