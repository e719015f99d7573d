use Rattle.std.proofs.Common.{◌≡◌, rules}
use Rattle.vm_state.specs.Statics.{field_in}
use Rattle.machine.specs.Linked.{program_of}
use Rattle.region_shape.specs.Regions.{region_of, environment_of}
use Rattle.evaluator.proofs.StoreLemmas.{wrote}
use Rattle.evaluator.proofs.build.BuildStoreStore.write_static.Goals as goal

pub returns-in-Ok-clause-leads : goal.returns-in-Ok-clause-leads
returns-in-Ok-clause-leads c =
    let s = c.args.self.now in
    let same : c.args.class ≡ s.class = search rules in
    λ p next.
    wrote (program_of s.program.now) (environment_of s.regions.now) s.class s.most (region_of s.own) s.made c.args.class
    c.args.field c.args.value (field_in c.set.new.self) next same c.in-Ok.ensures.ok
