use Rattle.std.proofs.Common.{List, ℕ, sym, subst, ◌∙◌}
use Rattle.classfile.specs.Units.{IsModifiedUtf8}
use Rattle.image_parser.proofs.UnknownLemmas.{same_modified}
use Rattle.image_parser.proofs.unknown.is_modified.Goals as goal

pub returns : goal.returns
returns c =
    let is = c.bytes.ensures.is in
    let P : List ℕ → Type 0 = λ z. IsModifiedUtf8 z in
    same_modified c.is_same.result c.bytes.result.now c.args.bytes.now c.is_same.ensures
    (subst P (sym is) c.bytes.ensures.modified)
    (λ m. is ∙ c.in_ok-spelled.ensures ∙ c.in_ok-units.ensures m)
