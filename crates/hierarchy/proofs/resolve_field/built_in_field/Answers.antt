use Rattle.std.proofs.Common.{◌≡◌, ◌↔◌, Bool, true, false, IsTrue, Option, refl, sym, subst}
use Rattle.std.specs.Bool.{then_some}
use Rattle.built_in.specs.declared.class_id.BuiltIn.{BuiltIn}
use Rattle.built_in.specs.declared.class_id.BuiltIn.TheVariants.{System}
use Rattle.built_in.specs.declared.class_id.ClassId.TheVariants as class_ids
use Rattle.built_in.specs.Methods.{out_key}
use Rattle.loading.specs.Families.{Family}
use Rattle.built_in.specs.Keys.{NameAndType}
use Rattle.hierarchy.specs.Resolution.{ResolvesField}
use Rattle.hierarchy.specs.declared.member.Field.{Field}
use Rattle.hierarchy.specs.declared.member.Field.TheVariants.{Out}
use Rattle.hierarchy.specs.steps.Sought.{sought_name}
use Rattle.hierarchy.proofs.resolve_field.built_in_field.Goals as goal

-- a field of System
of_system : (family : Family) (key : NameAndType) (b : Bool) → (IsTrue b ↔ (key ≡ out_key))
    → ResolvesField family key (class_ids.BuiltIn System) (then_some b Out)
of_system family key true decides = ResolvesField.out (decides.0 refl)
of_system family key false decides = ResolvesField.no_out (λ same. let clash : false ≡ true = decides.1 same in cc)

pub returns-in_default : goal.returns-in_default
returns-in_default c = λ family. ResolvesField.built_in c.in_default.not-System

pub returns-in-System : goal.returns-in-System
returns-in-System c = λ family.
    let key = sought_name c.args.sought in
    subst (λ (b : BuiltIn). ResolvesField family key (class_ids.BuiltIn b) c.then_some.result) (sym c.in-System.is)
    (subst (λ (r : Option Field). ResolvesField family key (class_ids.BuiltIn System) r) (sym c.then_some.ensures)
    (of_system family key c.is_out.result c.is_out.ensures))
