use Prim.Native.Nat.{◌+◌, ◌*◌}
use Rattle.image_parser.proofs.halves.+halves.Given as goal

abbrev pub decreases-files_by : goal.decreases-files_by
decreases-files_by g l = 2 * l.count

abbrev pub decreases-front : goal.decreases-front
decreases-front g l = 2 * l.low + 1

abbrev pub decreases-back : goal.decreases-back
decreases-back g l = 2 * l.high + 1
