use Rattle.std.proofs.Common.{refl}
use Rattle.image_parser.proofs.NamesLemmas.{numbers_name}
use Rattle.image_parser.proofs.names.slots_name.Goals as goal

pub returns-then-are_numbers : goal.returns-then-are_numbers
returns-then-are_numbers c = (
  λ e. numbers_name c.args.regions.now c.args.slots.now (c.are_numbers.ensures c.if-are_numbers.true),
  λ h. refl,
)
