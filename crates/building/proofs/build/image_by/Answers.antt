use Rattle.std.proofs.Common.{◌≡◌, inl}
use Rattle.std.proofs.lemmas.Result.{IfOk-weaker, IfErr-weaker}
use Rattle.building.specs.declared.build.BuildFault.TheVariants.{Memory}
use Rattle.building.specs.Builds.{text_of, IsBuildOfProgram}
use Rattle.building.specs.steps.Gathered.{IsGathered}
use Rattle.building.proofs.BuildLemmas.{whole_by, small_by, is_build}
use Rattle.building.proofs.build.image_by.Goals as goal

pub image_of-requires-clause-whole : goal.image_of-requires-clause-whole
image_of-requires-clause-whole c =
    whole_by c.args.program (text_of c.args.options.now.run_time)
    (text_of c.args.options.now.build_time)
    c.args.options.now.budget c.show_linked.ensures c.in-Ok.settled c.show_from_files.ensures
    (rw c.in-Ok.is at c.requires.settled.settled)

pub image_of-requires-clause-small : goal.image_of-requires-clause-small
image_of-requires-clause-small c =
    small_by c.args.program (text_of c.args.options.now.run_time)
    (text_of c.args.options.now.build_time)
    c.args.options.now.budget c.show_linked.ensures c.in-Ok.settled c.requires.budget
    c.show_from_files.ensures
    (rw c.in-Ok.is at c.requires.settled.settled)

pub returns-in-Ok-clause-build : goal.returns-in-Ok-clause-build
returns-in-Ok-clause-build c =
    IfOk-weaker c.image_of.result (IsGathered c.args.program c.in-Ok.settled)
    (IsBuildOfProgram c.args.program c.args.options.now)
    (λ built gathered. is_build c.args.program c.args.options.now c.in-Ok.settled
    (rw c.in-Ok.is at c.requires.settled.settled) built c.show_linked.ensures
    (whole_by c.args.program (text_of c.args.options.now.run_time) (text_of c.args.options.now.build_time)
    c.args.options.now.budget c.show_linked.ensures c.in-Ok.settled c.show_from_files.ensures
    (rw c.in-Ok.is at c.requires.settled.settled)) gathered)
    c.image_of.ensures.gathered

pub returns-in-Ok-clause-fault : goal.returns-in-Ok-clause-fault
returns-in-Ok-clause-fault c = IfErr-weaker c.image_of.result (λ f. f ≡ Memory) _ (λ f e. inl e)
    c.image_of.ensures.memory

pub returns-in-Err-clause-fault : goal.returns-in-Err-clause-fault
returns-in-Err-clause-fault c = rw c.in-Err.is at c.requires.settled.fault
