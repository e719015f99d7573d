use Rattle.std.proofs.Common.{List, ℕ, ap, ◌∙◌}
use Rattle.classfile.specs.Units.{units_text}
use Rattle.classfile.proofs.PrintingLemmas.{units_text-units_of}
use Rattle.classfile.proofs.name.ClassName.from_modified_utf8.Goals as goal

pub returns : goal.returns
returns c m =
    ap (λ (z : List ℕ). units_text z) c.in_ok-units.ensures ∙ units_text-units_of c.args.bytes.now m
