use Rattle.std.proofs.Common.{arith, ◌≡◌, ◌≤◌, length, map}
use Rattle.std.proofs.lemmas.List.{length-map}
use Rattle.machine.specs.Linked.{program_of}
use Rattle.vm_state.proofs.ListLemmas.{item_at}
use Rattle.init_engine.specs.Threads.{thread_of}
use Rattle.init_engine.specs.steps.Threads.{view_of}
use Rattle.init_engine.proofs.RestLemmas.{rest_at, rest_more, rest_all}
use Rattle.init_engine.proofs.WorldSteps.{world_with}
use Rattle.init_engine.proofs.stuck.rest_of.Goals as goal

pub loop-thread-preserved : goal.loop-thread-preserved
loop-thread-preserved c =
    let P = program_of c.args.program.now in
    let threads = c.args.threads.now in
    let i = c.loop-thread.thread-index in
    let at = item_at threads i c.thread-item.result c.loop-thread-test.true c.thread-item.is in
    λ p. rw c.joined-rest.ensures
    (rest_more P (world_with threads c.args.shared.now p) i c.loop-thread.rest c.thread_rest.result
    (c.loop-thread.invariant p)
    (rest_at P threads i (view_of c.thread-item.result c.args.shared.now p) at c.thread_rest.result
    (c.thread_rest.ensures i p (c.requires i c.thread-item.result at))))

pub returns : goal.returns
returns c =
    let threads = c.args.threads.now in
    let same : length (map thread_of threads) ≡ length threads = simp length-map in
    let all : length (map thread_of threads) ≤ c.loop-thread.thread-index =
    omega (arith, same, c.loop-thread-test.false) in
    λ p. rest_all (program_of c.args.program.now) (world_with threads c.args.shared.now p) c.loop-thread.thread-index
    all
    c.loop-thread.rest (c.loop-thread.invariant p)
