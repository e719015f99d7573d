use Rattle.std.proofs.Common.{List, ℕ, sym, subst, ◌∙◌, ap}
use Rattle.classfile.specs.Class.{IsNoArray}
use Rattle.loading.specs.Names.{class_name_at}
use Rattle.loading.proofs.OwnNamesLemmas.{own_name}
use Rattle.loading.proofs.names.name_of.Goals as goal

pub returns-clause-plain : goal.returns-clause-plain
returns-clause-plain c =
    subst (λ (z : List ℕ). IsNoArray z)
    (sym (c.class_name_at.ensures.value ∙ ap (class_name_at c.args.file.now) c.this_class.ensures))
    (own_name c.args.file.now c.constants-constants.ensures.fits)
