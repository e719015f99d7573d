use Rattle.std.proofs.Common.{◌≡◌, take}
use Rattle.classfile.specs.reading.Forms.{forms_of}
use Rattle.classfile.proofs.forms.forms_of.Given as goal

abbrev pub invariant-loop-constant : goal.invariant-loop-constant
invariant-loop-constant l = l.forms.items ≡ forms_of (take l.constant-index l.pool)
