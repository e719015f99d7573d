use Rattle.std.proofs.Common.{◌<◌, length, arith}
use Rattle.program.specs.Programs.{IsImplementation}
use Rattle.program.proofs.ZipLemmas.{one_more}
use Rattle.program.proofs.methods.methods_of.Goals as goal

pub loop-method-preserved : goal.loop-method-preserved
loop-method-preserved c =
    let within : c.loop-method.method-index < length c.methods-methods.result.now =
    omega (arith, c.loop-method-test.true) in
    one_more (IsImplementation c.args.linked.now.family.now c.args.linked.now.file.now)
    _ _ _ c.loop-method.method-index _ _ within c.method-item.is
    c.loop-method.invariant
    c.in_ok-implementation_of.ensures c.in_ok-push.ensures.items
