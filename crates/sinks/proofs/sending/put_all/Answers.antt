use Rattle.std.proofs.Common.{◌∙◌, ◌≤◌, ◌-◌, refl, ap, subst, arith, take, ℕ, List, length, length-drop}
use Rattle.std.specs.Io.KnownBytes.{Appends}
use Rattle.sinks.proofs.AppendsLemmas.{appends_nothing, appends_more}
use Rattle.sinks.proofs.sending.put_all.Goals as goal

pub loop-at-init : goal.loop-at-init
loop-at-init g c = record {
  within = omega arith;
  got = appends_nothing (g.S.Sink.got c.args.sink.now);
  well = refl;
}

pub loop-at-preserved : goal.loop-at-preserved
loop-at-preserved g c =
    let i = c.loop-at.invariant in
    let rest = c.split_at.ensures.back in
    let count : c.in-Ok.n ≤ length c.args.bytes.now - c.loop-at.at =
    omega (arith, c.in-Ok.ensures.count, ap length rest, length-drop c.loop-at.at c.args.bytes.now) in
    record {
      within = omega (arith, count, i.within);
      got =
          appends_more (g.S.Sink.got c.args.sink.now) (g.S.Sink.got c.loop-at.sink) (g.S.Sink.got c.put.new.self)
          c.args.bytes.now c.loop-at.at c.in-Ok.n i.got
          (subst (λ (r : List ℕ). Appends (g.S.Sink.got c.loop-at.sink) (g.S.Sink.got c.put.new.self)
          (take c.in-Ok.n r)) rest c.in-Ok.ensures.got);
      well = c.in-Ok.ensures.well (omega (arith, c.in-Ok.n-test)) ∙ i.well;
    }
