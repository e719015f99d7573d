use Rattle.std.proofs.Common.{arith, ap, length}
use Rattle.image_parser.proofs.values.counted_units_at.Goals as goal

pub returns-clause-few : goal.returns-clause-few
returns-clause-few c = omega (arith, c.in_ok-rest.ensures.few, ap length c.in_ok-units.ensures.items)
