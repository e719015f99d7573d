use Rattle.std.proofs.Common.{◌≤◌, ◌-◌, ℕ, List, length, length-drop, ap, subst, arith, take}
use Rattle.std.specs.Io.KnownBytes.{Appends}
use Rattle.sinks.proofs.AppendsLemmas.{appends_nothing, appends_more}
use Rattle.cli.proofs.running.send_all.Goals as goal

pub loop-at-init : goal.loop-at-init
loop-at-init g c = record { within = omega arith; got = appends_nothing (g.W.Write.contents c.args.out.now) }

pub loop-at-preserved : goal.loop-at-preserved
loop-at-preserved g c =
    let kept = c.loop-at.invariant in
    let rest = c.split_at.ensures.back in
    let bound = c.in-Ok.ensures.bound in
    let count : c.in-Ok.n ≤ length c.args.bytes.now - c.loop-at.at =
    omega (arith, bound, ap length rest, length-drop c.loop-at.at c.args.bytes.now) in
    record {
      within = omega (arith, count, kept.within);
      got = appends_more (g.W.Write.contents c.args.out.now) (g.W.Write.contents c.loop-at.out)
          (g.W.Write.contents c.write.new.self) c.args.bytes.now c.loop-at.at c.in-Ok.n kept.got
          (subst (λ (r : List ℕ). Appends (g.W.Write.contents c.loop-at.out) (g.W.Write.contents c.write.new.self)
          (take c.in-Ok.n r)) rest c.in-Ok.ensures.bytes);
    }
