use Rattle.std.proofs.Common.{option_map}
use Rattle.region_shape.specs.Regions.{environment_of}
use Rattle.image_format.specs.declared.version.Version.TheVariants.{Two}
use Rattle.image_format.specs.Texts.{flag_text}
use Rattle.image_format.specs.Told.{told_region}
use Rattle.image_writer.proofs.TextLemmas.{number_one_more}
use Rattle.image_writer.proofs.objects.push_flags_below.Goals as goal

pub loop-class-preserved : goal.loop-class-preserved
loop-class-preserved c =
    let P = c.args.image.now.program in
    number_one_more (flag_text Two P.family)
    (λ d. option_map (told_region P d) (environment_of c.args.image.now.regions d)) c.loop-class.class
    c.loop-class.out.items c.push_flag.new.out.items c.args.out.now.items c.loop-class.invariant
    c.in_ok-push_flag.ensures
