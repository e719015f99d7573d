use Rattle.std.proofs.Common.{◌≡◌, Some, None, slice_get, refl, sym, ◌∙◌}
use Rattle.program.proofs.KeptConstantsLemmas.{kept_at}
use Rattle.program.proofs.class.RuntimePool.at.Goals as goal

pub returns-in-Some : goal.returns-in-Some
returns-in-Some c =
    let inside = c.self.inside.constants in
    let found : slice_get inside.places.items c.args.index ≡ Some c.in-Some.place =
    sym c.place.ensures ∙ c.in-Some.is in
    rw (
      ← c.self.view_is,
      kept_at inside.places.items inside.items.items c.args.index,
      found,
      c.constant_at.ensures,
      c.deref.ensures.value,
    ) refl

pub returns-in-None : goal.returns-in-None
returns-in-None c =
    let inside = c.self.inside.constants in
    let found : slice_get inside.places.items c.args.index ≡ None = sym c.place.ensures ∙ c.in-None.is in
    rw (← c.self.view_is, kept_at inside.places.items inside.items.items c.args.index, found) refl
