use Rattle.std.proofs.Common.{subst}
use Rattle.loading.specs.Families.{Family, IsFamily, AreParentsWithin}
use Rattle.region_shape.proofs.show_linked.Goals as goal

pub returns : goal.returns
returns c = record {
  program = c.classes-tables.ensures.fits;
  family = subst IsFamily c.family.ensures c.classes-given.ensures.fits;
  within = subst (λ (f : Family). AreParentsWithin f) c.family.ensures c.classes-given.ensures.within;
}
