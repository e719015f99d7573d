-- Where a search for instance methods goes on (JVMS 6.5, invokespecial).
use Rattle.std.specs.Prelude.{Option, Some, None, if◌then◌else◌}
use Rattle.loading.specs.Families.{Family, superclass_in}
use Rattle.loading.specs.declared.given.Superclass.{Superclass}
use Rattle.hierarchy.specs.MemberLookup.{is_static, flags_in}
use Rattle.hierarchy.specs.declared.member.Method.{Method}
use Rattle.hierarchy.specs.declared.member.Method.TheVariants as method

-- what stands above the class of a static method that was found
abbrev pub above_static : Family → Option Method → Option Superclass
above_static family None = None
above_static family (Some (method.BuiltIn m)) = None
above_static family (Some (method.Given c k)) =
    if is_static (flags_in family c k) then superclass_in family c else None
