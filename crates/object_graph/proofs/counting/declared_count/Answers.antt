use Rattle.std.proofs.Common.{◌<◌, ◌^◌, length, ap, arith}
use Rattle.object_graph.proofs.StaticsLemmas.{statics_few}
use Rattle.object_graph.proofs.counting.declared_count.Goals as goal

pub overflow_cast-result : goal.overflow_cast-result
overflow_cast-result c =
    let fields : length c.args.file.now.fields < 2 ^ 16 =
    omega (arith, ap length c.fields-fields.ensures.value, c.fields-fields.ensures.count) in
    let few = statics_few c.args.program.now c.requires.program c.args.class c.args.file.now c.requires.file fields in
    let same = ap length c.statics.ensures in
    omega (arith, few, same)
