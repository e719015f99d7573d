use Rattle.std.proofs.Common.{◌≤◌, length, ap, arith}
use Rattle.region_shape.proofs.FilesLemmas.{from_files_more, from_files_all}
use Rattle.region_shape.proofs.show_from_files.Goals as goal

pub loop-class-preserved : goal.loop-class-preserved
loop-class-preserved c =
    from_files_more c.args.program.now c.loop-class.class c.loop-class.invariant c.show_from_file.ensures

pub returns : goal.returns
returns c =
    let all : length c.args.program.now.family ≤ c.loop-class.class =
    omega (arith, ap length c.classes-classes.ensures.value, ap length c.family.ensures) in
    from_files_all c.args.program.now c.loop-class.class all c.loop-class.invariant
