use Rattle.std.proofs.Common.{◌≡◌, length, map}
use Rattle.std.specs.List.{range_with_len}
use Rattle.image_writer.specs.ImageTexts.{region_size}
use Rattle.image_writer.proofs.sizes.sizes_below.Given as goal

abbrev pub invariant-loop-class : goal.invariant-loop-class
invariant-loop-class l = record {
  sizes : l.sizes.items ≡ map (region_size l.image) (range_with_len 0 l.class);
  count : length l.sizes.items ≡ l.class;
}
