use Rattle.std.proofs.Common.{◌≡◌, ◌∙◌, ◌<◌, ◌≤◌, ◌+◌, ◌-◌, ◌==◌, ℕ, Some, None, false, length, get_or}
use Rattle.std.proofs.Common.{slice_get}
use Rattle.std.proofs.Common.{sym, subst, ap, arith, rules}
use Rattle.std.specs.Prelude.{IsSome}
use Rattle.vm_state.specs.Objects.{HeldObjects, object_in}
use Rattle.vm_state.specs.steps.Objects.{numbers_in, object_at_place}
use Rattle.vm_state.proofs.KeptLemmas.{is_there, later_rise, length_numbers, none_found}
use Rattle.vm_state.proofs.heap.Pool.searched_place.Goals as goal

pub place_of-place-requires-clause-rising : goal.place_of-place-requires-clause-rising
place_of-place-requires-clause-rising c =
    rw c.as_slice-later.ensures.value (later_rise c.self.inside.owners c.self.inside.later.items
    c.self.inside.kept.items
    c.self.inside.count c.self.invariant.1 c.self.invariant.0)

pub returns-then-found-number-clause-held : goal.returns-then-found-number-clause-held
returns-then-found-number-clause-held c =
    let w = c.self.inside.owners in
    let later = c.self.inside.later.items in
    let kept = c.self.inside.kept.items in
    let plain : ℕ = length kept - length later in
    let found : Some c.in-Some.found ≡ slice_get (numbers_in later kept) c.place_of-place.result =
    rw c.self.invariant.3 at (rw c.as_slice-later.ensures.value at c.in-Some.ensures) in
    let same : c.in-Some.found ≡ c.args.number = search rules in
    let P : HeldObjects → Type 0 = λ r. IsSome (object_at_place r.objects c.place_of-place.result c.args.number) in
    subst P c.self.view_is (is_there w (numbers_in later kept) kept c.place_of-place.result c.args.number
    (length_numbers later kept c.self.invariant.1) (sym found ∙ ap (λ (n : ℕ). Some n) same))

pub returns-else-found-number-clause-none : goal.returns-else-found-number-clause-none
returns-else-found-number-clause-none c =
    let w = c.self.inside.owners in
    let later = c.self.inside.later.items in
    let kept = c.self.inside.kept.items in
    let plain : ℕ = length kept - length later in
    let found : Some c.in-Some.found ≡ slice_get (numbers_in later kept) c.place_of-place.result =
    rw c.self.invariant.3 at (rw c.as_slice-later.ensures.value at c.in-Some.ensures) in
    let other : (c.args.number == c.in-Some.found) ≡ false = search rules in
    let all = length_numbers later kept c.self.invariant.1 in
    let before : (i d : ℕ) → i < c.place_of-place.result → get_or (numbers_in later kept) i d < c.args.number =
    rw c.self.invariant.3 at (rw c.as_slice-later.ensures.value at c.place_of-place.ensures.before) in
    let after : (d : ℕ) → c.place_of-place.result < plain + length later →
    c.args.number ≤ get_or (numbers_in later kept) c.place_of-place.result d =
    rw c.self.invariant.3 at (rw c.as_slice-later.ensures.value at c.place_of-place.ensures.after) in
    ap (λ (r : HeldObjects). object_in r.objects c.args.number) (sym c.self.view_is)
    ∙ none_found w (numbers_in later kept) kept c.self.inside.count c.place_of-place.result c.args.number all
    c.self.invariant.0 (λ i d h inside. before i d h) (λ d h. after d (omega (arith, h, all, c.self.invariant.1)))
    (λ n is.
    let there : c.in-Some.found ≡ n = cc in
    subst (λ (k : ℕ). (c.args.number == k) ≡ false) there other)

pub returns-in-None-clause-none : goal.returns-in-None-clause-none
returns-in-None-clause-none c =
    let w = c.self.inside.owners in
    let later = c.self.inside.later.items in
    let kept = c.self.inside.kept.items in
    let plain : ℕ = length kept - length later in
    let found : None ≡ slice_get (numbers_in later kept) c.place_of-place.result =
    rw c.self.invariant.3 at (rw c.as_slice-later.ensures.value at c.in-None.ensures) in
    let all = length_numbers later kept c.self.invariant.1 in
    let before : (i d : ℕ) → i < c.place_of-place.result → get_or (numbers_in later kept) i d < c.args.number =
    rw c.self.invariant.3 at (rw c.as_slice-later.ensures.value at c.place_of-place.ensures.before) in
    let after : (d : ℕ) → c.place_of-place.result < plain + length later →
    c.args.number ≤ get_or (numbers_in later kept) c.place_of-place.result d =
    rw c.self.invariant.3 at (rw c.as_slice-later.ensures.value at c.place_of-place.ensures.after) in
    ap (λ (r : HeldObjects). object_in r.objects c.args.number) (sym c.self.view_is)
    ∙ none_found w (numbers_in later kept) kept c.self.inside.count c.place_of-place.result c.args.number all
    c.self.invariant.0 (λ i d h inside. before i d h) (λ d h. after d (omega (arith, h, all, c.self.invariant.1)))
    (λ n is. let clash : None ≡ Some n = found ∙ is in cc)
