use Rattle.std.proofs.Common.{◌≡◌, ◌++◌, map, take}
use Rattle.std.specs.List.{flat_map}
use Rattle.image_format.specs.declared.version.Version.TheVariants.{Two}
use Rattle.image_format.specs.Texts.{kept_text}
use Rattle.image_format.specs.Told.{told_kept}
use Rattle.image_writer.proofs.objects.push_objects.Given as goal

abbrev pub invariant-loop-place : goal.invariant-loop-place
invariant-loop-place l =
    l.out.items ≡ l.fn.out.items
    ++ flat_map (kept_text Two l.program.family) (map (told_kept l.program.strings) (take l.place l.objects.objects))
