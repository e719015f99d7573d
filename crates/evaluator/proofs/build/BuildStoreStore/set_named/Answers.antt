use Rattle.std.proofs.Common.{◌≡◌, true, refl, rules}
use Rattle.vm_state.specs.declared.value.Maker.TheVariants.{Class}
use Rattle.vm_state.specs.Pools.{pool_by}
use Rattle.vm_state.specs.SharedState.{same_maker, with_slot}
use Rattle.machine.specs.Linked.{program_of}
use Rattle.region_shape.specs.Regions.{region_of, environment_of}
use Rattle.evaluator.proofs.StoreLemmas.{set_both}
use Rattle.evaluator.proofs.build.BuildStoreStore.set_named.Goals as goal

pub returns-in-Ok-clause-leads : goal.returns-in-Ok-clause-leads
returns-in-Ok-clause-leads c =
    let s = c.args.self.now in
    let mine : same_maker (Class s.class) c.args.object.maker ≡ true = search rules in
    λ p next.
    set_both (program_of s.program.now) (environment_of s.regions.now) s.class s.most (region_of s.own) s.made
    c.args.object c.args.name c.args.ordinal
    (with_slot (pool_by s.own.objects) c.args.object.number 0 c.args.name) (pool_by c.set_first.new.self) next mine
    refl c.in-Ok.ensures.ok
