use Rattle.std.proofs.Common.{◌∙◌, List, Some, ap}
use Rattle.vm_state.specs.declared.value.Value.{Value}
use Rattle.vm_state.specs.Objects.{HeldObjects}
use Rattle.region_shape.specs.Regions.{region_of}
use Rattle.explain.proofs.OthersLemmas.{put_here, put_other}
use Rattle.explain.proofs.reruns.add_region.Goals as goal

pub returns-in_default-clause-here : goal.returns-in_default-clause-here
returns-in_default-clause-here c = c.requires ∙ c.in_default.ensures.value

pub returns-clause-here : goal.returns-clause-here
returns-clause-here c =
    put_here c.args.regions.now c.put.new.self c.args.class _ c.in_ok-put.ensures.ok
    ∙ ap (λ (f : List Value). Some (region_of (record { fields = f; objects = c.in_ok-objects.objects })))
    c.in_ok-fields.ensures
    ∙ ap (λ (o : HeldObjects). Some (region_of (record { fields = c.in-Some.region.now.fields; objects = o })))
    c.in_ok-objects.ensures
    ∙ c.in-Some.ensures.value

pub returns-clause-others : goal.returns-clause-others
returns-clause-others c = λ d differs.
    put_other c.args.regions.now c.put.new.self c.args.class _ c.in_ok-put.ensures.ok d differs
