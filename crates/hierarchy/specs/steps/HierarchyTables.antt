-- Members of classes, by kind.
use Rattle.std.specs.Prelude.{ℕ, Option, None, if◌then◌else◌}
use Rattle.loading.specs.Families.{Family, is_interface_in}
use Rattle.built_in.specs.Keys.{NameAndType}
use Rattle.hierarchy.specs.MemberLookup.{field_in, method_in, interface_method_in}
use Rattle.hierarchy.specs.Resolution.{instance_method_in}
use Rattle.hierarchy.specs.declared.wanted.Wanted.{Wanted}
use Rattle.hierarchy.specs.declared.wanted.Wanted.TheVariants as wanted

-- a field of an interface
abbrev pub interface_field_in : Family → NameAndType → ℕ → Option ℕ
interface_field_in family key i = if is_interface_in family i then field_in family key i else None

-- the place of a class's member of some kind
abbrev pub wanted_in : Wanted → Family → NameAndType → ℕ → Option ℕ
wanted_in wanted.Field family key c = field_in family key c
wanted_in wanted.InterfaceField family key c = interface_field_in family key c
wanted_in wanted.Method family key c = method_in family key c
wanted_in wanted.InstanceMethod family key c = instance_method_in family key c
wanted_in wanted.InterfaceMethod family key c = interface_method_in family key c
