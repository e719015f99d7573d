use Rattle.std.proofs.Common.{refl, subst, sym}
use Rattle.std.specs.List.{All}
use Rattle.vm_state.specs.declared.value.Value.TheVariants.{Int, Long}
use Rattle.vm_state.specs.declared.elements.Elements.{Elements}
use Rattle.vm_state.specs.steps.Elements.{values_of, char_value}
use Rattle.vm_state.specs.Values.{IsNumber}
use Rattle.vm_state.proofs.ElementLemmas.{are_numbers}
use Rattle.vm_state.proofs.elements.Elements.are_numbers.Goals as goal

pub returns-in-Bytes : goal.returns-in-Bytes
returns-in-Bytes c is-true =
    subst (λ (e : Elements). All IsNumber (values_of e)) (sym c.in-Bytes.is)
    (are_numbers Int (λ n. refl) c.in-Bytes.field-0.items)

pub returns-in-Chars : goal.returns-in-Chars
returns-in-Chars c is-true =
    subst (λ (e : Elements). All IsNumber (values_of e)) (sym c.in-Chars.is)
    (are_numbers char_value (λ n. refl) c.in-Chars.field-0.items)

pub returns-in-Shorts : goal.returns-in-Shorts
returns-in-Shorts c is-true =
    subst (λ (e : Elements). All IsNumber (values_of e)) (sym c.in-Shorts.is)
    (are_numbers Int (λ n. refl) c.in-Shorts.field-0.items)

pub returns-in-Ints : goal.returns-in-Ints
returns-in-Ints c is-true =
    subst (λ (e : Elements). All IsNumber (values_of e)) (sym c.in-Ints.is)
    (are_numbers Int (λ n. refl) c.in-Ints.field-0.items)

pub returns-in-Longs : goal.returns-in-Longs
returns-in-Longs c is-true =
    subst (λ (e : Elements). All IsNumber (values_of e)) (sym c.in-Longs.is)
    (are_numbers Long (λ n. refl) c.in-Longs.field-0.items)
