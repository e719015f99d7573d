use Rattle.std.proofs.Common.{◌≡◌, ◌∙◌, ◌++◌, ◌∷◌, [], ◌+◌, ◌-◌, ℕ, List, ap, sym, subst, arith, length, slice_index_or}
use Rattle.std.proofs.lemmas.List.{get_or_default, take_more}
use Rattle.std.proofs.lemmas.Result.{on_ok_weaker}
use Rattle.init_engine.specs.Schedules.{schedule_of}
use Rattle.journal.proofs.FirstLemmas.{ends_within, run_more}
use Rattle.journal.proofs.first_steps.add_first.Goals as goal

pub returns-then-left-count-clause-schedule : goal.returns-then-left-count-clause-schedule
returns-then-left-count-clause-schedule c =
    let all = c.args.all.now in
    let i = c.loop-place.place in
    let x = slice_index_or all i (0, 0) in
    let low = c.loop-place-test.true in
    on_ok_weaker c.add_last.result
    (λ new_is. (ends_within all c.loop-place.runs.items c.add_last.new.runs.items i c.args.steps c.loop-place.left x
    c.requires.all low (get_or_default all i (0, 0) x low) c.loop-place.invariant.so_far c.loop-place.invariant.left
    c.if-left-count.true new_is).0) c.add_last.ensures

pub returns-then-left-count-clause-runs : goal.returns-then-left-count-clause-runs
returns-then-left-count-clause-runs c =
    let all = c.args.all.now in
    let i = c.loop-place.place in
    let x = slice_index_or all i (0, 0) in
    let low = c.loop-place-test.true in
    on_ok_weaker c.add_last.result
    (λ new_is. (ends_within all c.loop-place.runs.items c.add_last.new.runs.items i c.args.steps c.loop-place.left x
    c.requires.all low (get_or_default all i (0, 0) x low) c.loop-place.invariant.so_far c.loop-place.invariant.left
    c.if-left-count.true new_is).1) c.add_last.ensures

pub loop-place-preserved : goal.loop-place-preserved
loop-place-preserved c =
    let all = c.args.all.now in
    let runs = c.loop-place.runs.items in
    let left = c.loop-place.left in
    let i = c.loop-place.place in
    let x = slice_index_or all i (0, 0) in
    let items = c.in_ok-push.ensures.items in
    record {
      so_far = items ∙ ap (λ (z : List (ℕ × ℕ)). z ++ x ∷ []) c.loop-place.invariant.so_far
          ∙ sym (take_more all i (0, 0) c.loop-place-test.true);
      left = subst (λ (z : List (ℕ × ℕ)). length (schedule_of z) + (left - x.1) ≡ c.args.steps) (sym items)
          (run_more all runs i c.args.steps left x c.loop-place.invariant.left (omega (arith, c.if-left-count.false)));
    }
