use Rattle.std.proofs.Common.{◌≡◌, ◌++◌, map, option_map}
use Rattle.std.specs.List.{flat_map, range_with_len}
use Rattle.region_shape.specs.Regions.{environment_of}
use Rattle.image_format.specs.declared.version.Version.TheVariants.{Two}
use Rattle.image_format.specs.Texts.{flag_text}
use Rattle.image_format.specs.Told.{told_region}
use Rattle.image_writer.proofs.objects.push_flags_below.Given as goal

abbrev pub invariant-loop-class : goal.invariant-loop-class
invariant-loop-class l =
    l.out.items ≡ l.fn.out.items
    ++ flat_map (flag_text Two l.image.program.family)
    (map (λ c. option_map (told_region l.image.program c) (environment_of l.image.regions c))
    (range_with_len 0 l.class))
