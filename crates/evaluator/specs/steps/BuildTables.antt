-- The store of a class's initializer, as definitions see it.
use Rattle.machine.specs.Linked.{program_of}
use Rattle.evaluator.specs.declared.build.BuildStore.{BuildStore}
use Rattle.region_shape.specs.Regions.{region_of, environment_of}
use Rattle.evaluator.specs.steps.Builds.{Building}

abbrev pub build_of : BuildStore → Building
build_of s = record {
  program = program_of s.program.now;
  environment = environment_of s.regions.now;
  class = s.class;
  most = s.most;
  own = region_of s.own;
  made = s.made;
}
