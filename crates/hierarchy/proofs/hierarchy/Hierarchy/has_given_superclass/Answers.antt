use Rattle.std.proofs.Common.{◌≡◌, Bool, false, eqb, not, ◌&&◌, sym, ap, ◌∙◌, subst}
use Rattle.std.proofs.lemmas.Bool.{and_right}
use Rattle.std.specs.List.{list_any}
use Rattle.loading.specs.Families.{IsFamily, is_interface_in}
use Rattle.hierarchy.specs.Initialization.{given_superclasses}
use Rattle.hierarchy.proofs.SubtypesLemmas.{not_its_own}
use Rattle.hierarchy.proofs.hierarchy.Hierarchy.has_given_superclass.Goals.{then-class-other, else-class-other}
use Rattle.hierarchy.proofs.hierarchy.Hierarchy.has_given_superclass.Goals as goal

pub returns-else-not-is_interface : goal.returns-else-not-is_interface
returns-else-not-is_interface c =
    let family = c.args.self.now.family in
    let fits = subst IsFamily c.family.ensures c.classes-classes.ensures.fits in
    let class : Bool = not (is_interface_in family c.args.other) in
    let above : Bool = list_any (λ e. eqb e c.args.other) (given_superclasses family c.args.class) in
    elim c.if-class-other.branch [
      | then-class-other w ↦
          let interface = w.is_interface.ensures
          ∙ ap (λ f. is_interface_in f c.args.other) w.family-then-class-other.ensures in
          let none : class ≡ false = sym (ap not interface) ∙ sym w.value-is ∙ c.if-not-is_interface.false in
          c.if-not-is_interface.false ∙ sym (ap (λ (b : Bool). b && above) none)
      | else-class-other w ↦
          c.if-not-is_interface.false
          ∙ sym (and_right class above (not_its_own family c.args.class c.args.other fits w.if-class-other.false))
    ]
