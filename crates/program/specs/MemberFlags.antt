-- Flags of members that were resolved (JVMS 6.5, getstatic, invokestatic, invokevirtual and invokespecial).
use Rattle.std.specs.Prelude.{ℕ, Bool, Option, None, Some, slice_get, false}
use Rattle.classfile.specs.ClassFile.{ClassFile}
use Rattle.loading.specs.Families.{Family, file_in}
use Rattle.program.specs.Fields.{final_of}
use Rattle.hierarchy.specs.MemberLookup.{flags_in, is_static}

-- whether a method of a given class is static
abbrev pub is_static_method : Family → ℕ → ℕ → Bool
is_static_method family c k = is_static (flags_in family c k)

abbrev pub is_final_in : Option ClassFile → ℕ → Bool
is_final_in None k = false
is_final_in (Some f) k = final_of (slice_get f.fields k)

-- whether a field of a given class is final
abbrev pub is_final_field : Family → ℕ → ℕ → Bool
is_final_field family c k = is_final_in (file_in family c) k
