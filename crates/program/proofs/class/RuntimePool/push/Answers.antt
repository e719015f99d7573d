use Rattle.std.proofs.Common.{◌≡◌, ◌++◌, ◌∷◌, [], List, length, map, slice_get, ◌∙◌, ap, arith}
use Rattle.std.proofs.lemmas.List.{length-map}
use Rattle.program.specs.declared.runtime_constant.RuntimeConstant.{RuntimeConstant}
use Rattle.program.specs.steps.NamedConstants.{held_in}
use Rattle.program.specs.steps.Sparse.{entries}
use Rattle.program.proofs.KeptConstantsLemmas.{kept_more}
use Rattle.program.proofs.class.RuntimePool.push.Goals as goal

pub add-requires-clause-few : goal.add-requires-clause-few
add-requires-clause-few c =
    let inside = c.self.inside.constants in
    let held = entries inside.places.items inside.items.items in
    let count : length (map held_in held) ≡ length c.args.self.now = ap length c.self.view_is in
    omega (
      arith,
      c.requires,
      count,
      length-map held held_in,
      length-map inside.places.items (slice_get inside.items.items),
    )

pub returns : goal.returns
returns c =
    let old = c.self.inside.constants in
    let new = c.add.new.self in
    kept_more (entries old.places.items old.items.items) (entries new.places.items new.items.items) c.named.result
    c.args.constant c.named.ensures c.in_ok-add.ensures.entries
    ∙ ap (λ (xs : List RuntimeConstant). xs ++ c.args.constant ∷ []) c.self.view_is
