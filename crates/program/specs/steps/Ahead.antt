-- Members that a class file refers to, resolved before its other entries.
use Rattle.std.specs.Prelude.{◌≡◌, ℕ, List, Option, Some, None, slice_get, slice_index_or}
use Rattle.classfile.specs.ClassFile.{ClassFile}
use Rattle.classfile.specs.declared.constant.Constant.{Constant}
use Rattle.loading.specs.Families.{Family}
use Rattle.program.specs.declared.runtime_constant.RuntimeConstant.{RuntimeConstant}
use Rattle.program.specs.steps.ResolvedConstants.{IsResolved}

-- what was resolved, at its index
abbrev pub ahead_at : List (Option RuntimeConstant) → ℕ → Option RuntimeConstant
ahead_at ahead index = slice_index_or ahead index None

-- each is what its entry stands for
abbrev pub AreAhead : Family → ClassFile → List (Option RuntimeConstant) → Type 0
AreAhead family f ahead = (index : ℕ) (constant : Constant) (held : RuntimeConstant)
    → slice_get f.constants index ≡ Some constant
    → ahead_at ahead index ≡ Some held → IsResolved family f index constant held
