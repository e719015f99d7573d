use Rattle.std.proofs.Common.{◌≡◌, ◌∙◌, Some, None, ap, rules}
use Rattle.std.specs.Prelude.{slice_get, option_map}
use Rattle.vm_state.specs.Objects.{HeldObjects, numbered_kept}
use Rattle.vm_state.specs.steps.Objects.{numbers_in}
use Rattle.vm_state.proofs.KeptLemmas.{seen, unnumbered, unkept}
use Rattle.vm_state.proofs.heap.Pool.at.Goals as goal

pub returns-in-Some-kept_at : goal.returns-in-Some-kept_at
returns-in-Some-kept_at c =
    let later = c.self.inside.later.items in
    let kept = c.self.inside.kept.items in
    let number : slice_get (numbers_in later kept) c.args.place ≡ Some c.in-Some.number = search rules in
    let object : slice_get kept c.args.place ≡ Some c.in-Some-kept_at.kept.now = search rules in
    seen c.self.inside.owners (numbers_in later kept) kept c.args.place c.in-Some.number c.in-Some-kept_at.kept.now
    number
    object
    ∙ ap (λ (r : HeldObjects). option_map numbered_kept (slice_get r.objects c.args.place)) c.self.view_is

pub returns-in-None-kept_at : goal.returns-in-None-kept_at
returns-in-None-kept_at c =
    let later = c.self.inside.later.items in
    let kept = c.self.inside.kept.items in
    let object : slice_get kept c.args.place ≡ None = search rules in
    unkept c.self.inside.owners (numbers_in later kept) kept c.args.place object
    ∙ ap (λ (r : HeldObjects). option_map numbered_kept (slice_get r.objects c.args.place)) c.self.view_is

pub returns-in-None : goal.returns-in-None
returns-in-None c =
    let later = c.self.inside.later.items in
    let kept = c.self.inside.kept.items in
    let number : slice_get (numbers_in later kept) c.args.place ≡ None = search rules in
    unnumbered c.self.inside.owners (numbers_in later kept) kept c.args.place number
    ∙ ap (λ (r : HeldObjects). option_map numbered_kept (slice_get r.objects c.args.place)) c.self.view_is
