use Rattle.std.proofs.Common.{◌≡◌, ◌∷◌, [], sym, ap, ◌∙◌, subst, get_or, option_to_list}
use Rattle.loading.specs.Families.{superclasses_in}
use Rattle.hierarchy.specs.steps.Reaches.{Nearest, here, above, nowhere, reaching, reaches_of}
use Rattle.hierarchy.specs.steps.Sweeps.{own_in}
use Rattle.hierarchy.proofs.sweep.Sweep.nearest.Goals as goal

pub returns-in-Some : goal.returns-in-Some
returns-in-Some c = λ name classes place stands tells own. here (own ∙ c.in-Some.is)

pub returns-in_err-above : goal.returns-in_err-above
returns-in_err-above c = λ name classes place stands tells own.
    let s = c.args.self.now in
    subst (Nearest s.family.now (own_in s name) c.args.class) (sym c.from_residual.ensures)
    (nowhere (own ∙ c.in_default.is) (c.given_superclass.ensures.value ∙ ap option_to_list c.in_err-above.was))

pub returns : goal.returns
returns c = λ name classes place stands tells own.
    let s = c.args.self.now in
    let row = reaches_of c.args.rows.now c.args.key in
    let up = c.in_ok-above.above in
    let is : superclasses_in s.family.now c.args.class ≡ up ∷ [] =
    c.given_superclass.ensures.value ∙ ap option_to_list c.in_ok-above.was in
    let there = tells.told (get_or s.places.now up 0) up (stands.above up is) in
    above (own ∙ c.in_default.is) is
    (subst (Nearest s.family.now (own_in s name) up)
    (sym (c.reaching.ensures tells.up ∙ ap (reaching row) c.place.ensures)) there)
