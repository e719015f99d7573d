use Rattle.std.proofs.Common.{◌∙◌, ℕ, List, Err, arith, drop, subst}
use Rattle.vm_state.specs.Output.{Print, text_of}
use Rattle.machine.specs.Linked.{program_of}
use Rattle.init_engine.specs.Turns.{world_of}
use Rattle.cli.specs.Running.{SendsTo}
use Rattle.sinks.proofs.AppendsLemmas.{appends_nothing}
use Rattle.cli.proofs.RunningLemmas.{still_sent, slice_sent, cut_by_memory, cut_in_sending, run_ends}
use Rattle.cli.proofs.running.run_world.Goals as goal

pub slices-init : goal.slices-init
slices-init g c = record {
  turns = c.new-turning.ensures.begun (program_of c.args.program.now);
  ready = c.new-turning.ensures.ready c.args.program.now;
  threads = rw c.new-turning.ensures.world;
  within = omega arith;
  sent = appends_nothing (g.W.Write.contents c.args.out.now);
}

pub returns-in-Err-clause-cut : goal.returns-in-Err-clause-cut
returns-in-Err-clause-cut g c =
    let kept = c.slices.invariant in
    cut_by_memory c.args.program.now (world_of c.args.world) c.args.limit c.slices.sent c.slices.turning
    (g.W.Write.contents c.args.out.now) (g.W.Write.contents c.slices.out) kept.turns kept.within kept.sent

pub returns-in-Err-send_further-clause-cut : goal.returns-in-Err-send_further-clause-cut
returns-in-Err-send_further-clause-cut g c =
    let kept = c.slices.invariant in
    let before = g.W.Write.contents c.args.out.now in
    let now = g.W.Write.contents c.slices.out in
    let turned = c.in-Ok.ensures.turns (world_of c.args.world) c.args.limit kept.turns in
    let still = still_sent _ _ c.slices.sent c.in-Ok.over c.slices.turning c.go_on.new.self before now
    c.in-Ok.ensures.slice kept.within kept.sent in
    cut_in_sending c.args.program.now (world_of c.args.world) c.args.limit c.slices.sent c.go_on.new.self before now
    (g.W.Write.contents c.send_further.new.out) c.in-Err-send_further.fault turned.under_way still.0 still.1
    (subst (λ (prints : List Print). SendsTo {A = ℕ} now (g.W.Write.contents c.send_further.new.out)
    (text_of (drop c.slices.sent prints)) (Err c.in-Err-send_further.fault)) c.printed.ensures
    c.in-Err-send_further.ensures.sends)

pub returns-in-Ok-what_is_left-clause-ran : goal.returns-in-Ok-what_is_left-clause-ran
returns-in-Ok-what_is_left-clause-ran g c =
    let kept = c.slices.invariant in
    let before = g.W.Write.contents c.args.out.now in
    let after = g.W.Write.contents c.send_further.new.out in
    let turned = c.in-Ok.ensures.turns (world_of c.args.world) c.args.limit kept.turns in
    let sent = slice_sent _ _ c.slices.sent c.in-Ok-send_further.count c.in-Ok.over c.slices.turning c.go_on.new.self
    c.printed.result.now before (g.W.Write.contents c.slices.out) after c.in-Ok.ensures.slice kept.within kept.sent
    c.printed.ensures c.in-Ok-send_further.ensures.sends c.in-Ok-send_further.ensures.all in
    let told = c.in-Ok-what_is_left.ensures in
    run_ends c.args.program.now c.args.world c.args.limit c.go_on.new.self before after c.in-Ok-what_is_left.ran
    (rw c.if-over.true at turned) (c.go_on.ensures.threads ∙ kept.threads) told.stands told.schedule told.apart sent.2

pub returns-in-Err-what_is_left-clause-cut : goal.returns-in-Err-what_is_left-clause-cut
returns-in-Err-what_is_left-clause-cut g c =
    let kept = c.slices.invariant in
    let before = g.W.Write.contents c.args.out.now in
    let after = g.W.Write.contents c.send_further.new.out in
    let turned = c.in-Ok.ensures.turns (world_of c.args.world) c.args.limit kept.turns in
    let sent = slice_sent _ _ c.slices.sent c.in-Ok-send_further.count c.in-Ok.over c.slices.turning c.go_on.new.self
    c.printed.result.now before (g.W.Write.contents c.slices.out) after c.in-Ok.ensures.slice kept.within kept.sent
    c.printed.ensures c.in-Ok-send_further.ensures.sends c.in-Ok-send_further.ensures.all in
    cut_by_memory c.args.program.now (world_of c.args.world) c.args.limit c.in-Ok-send_further.count c.go_on.new.self
    before after turned.under_way sent.0 sent.1

pub slices-preserved : goal.slices-preserved
slices-preserved g c =
    let kept = c.slices.invariant in
    let before = g.W.Write.contents c.args.out.now in
    let after = g.W.Write.contents c.send_further.new.out in
    let turned = c.in-Ok.ensures.turns (world_of c.args.world) c.args.limit kept.turns in
    let sent = slice_sent _ _ c.slices.sent c.in-Ok-send_further.count c.in-Ok.over c.slices.turning c.go_on.new.self
    c.printed.result.now before (g.W.Write.contents c.slices.out) after c.in-Ok.ensures.slice kept.within kept.sent
    c.printed.ensures c.in-Ok-send_further.ensures.sends c.in-Ok-send_further.ensures.all in
    record {
      turns = turned.under_way;
      ready = c.in-Ok.ensures.ready;
      threads = c.go_on.ensures.threads ∙ kept.threads;
      within = sent.0;
      sent = sent.1;
    }
