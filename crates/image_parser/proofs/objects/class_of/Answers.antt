use Rattle.loading.proofs.UniquenessLemmas.{one_class}
use Rattle.image_parser.proofs.ClassNameLemmas.{stands}
use Rattle.image_parser.proofs.objects.class_of.Goals as goal

pub returns : goal.returns
returns c = one_class c.args.family.now c.classes-classes.ensures.fits c.args.name.now _ _ c.class_named.ensures
    (stands c.args.family.now c.args.name.now)
