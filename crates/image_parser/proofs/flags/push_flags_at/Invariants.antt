use Rattle.std.proofs.Common.{◌-◌, []}
use Rattle.region_shape.specs.Regions.{environment_of}
use Rattle.image_parser.specs.FlagFaults.{numbers}
use Rattle.image_parser.specs.reading.Results.{each_at}
use Rattle.image_parser.specs.reading.Flags.{flag_in}
use Rattle.image_parser.proofs.FlagReadsLemmas.{FlagsSoFar}
use Rattle.image_parser.proofs.flags.push_flags_at.Given as goal

abbrev pub invariant-loop-class : goal.invariant-loop-class
invariant-loop-class l =
    FlagsSoFar l.fn.program l.program l.class (environment_of l.regions)
    (λ told. each_at (flag_in l.version l.fn.program.family) (numbers l.class (l.count - l.class)) told l.rest)
    (each_at (flag_in l.version l.fn.program.family) (numbers 0 l.count) [] l.bytes)
