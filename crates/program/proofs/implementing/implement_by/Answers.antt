use Rattle.std.proofs.Common.{◌≡◌, ◌<◌, List, length, get_or, ap, sym, subst, ◌∙◌, arith}
use Rattle.std.specs.Prelude.{slice_index_or}
use Rattle.program.specs.declared.class.Class.{Class}
use Rattle.program.specs.steps.Frames.{CanImplement}
use Rattle.program.proofs.FramesLemmas.{place_of}
use Rattle.program.proofs.implementing.implement_by.Goals as goal

pub for_each_mut-requires-clause-accepts : goal.for_each_mut-requires-clause-accepts
for_each_mut-requires-clause-accepts g c κs lives = λ i p within is.
    let xs = c.args.classes.now.items in
    let same = c.as_mut_slice.ensures.value in
    let inside : i < length xs = omega (arith, within, ap length same) in
    let item : get_or xs i p.now ≡ p.now = sym (is ∙ ap (λ (z : List Class). slice_index_or z i p.now) same) in
    let P : Class → Type 0 = λ z. CanImplement c.args.family.now i z in (
      omega (arith, inside, c.requires.many, ap length c.classes-given.ensures.value),
      subst P item (c.requires.ready i (get_or xs i p.now) (place_of xs i p.now inside)),
    )
