-- Whatever a class of a linked program may use is one of its classes.
use Rattle.std.proofs.Common.{inl, inr, ℕ, ◌<◌, length, arith}
use Rattle.std.specs.List.{Contains}
use Rattle.loading.specs.Families.{IsFamily, AreParentsWithin}
use Rattle.hierarchy.proofs.InitializationLemmas.{ancestor_within}
use Rattle.program.specs.Programs.{IsProgram}
use Rattle.program.specs.Tables.{Tables, order_in}
use Rattle.program.proofs.CountsLemmas.{classes_counted}
use Rattle.use_graph.specs.Uses.{IsUse}
use Rattle.use_graph.specs.Soundness.{UsesAreWithin}
use Rattle.use_graph.proofs.NeedsLemmas.{need_within}
use Rattle.use_graph.proofs.ParentsLemmas.{order_above, parents_are_uses_lem}

-- what is initialized before a class is a use of it
pub order_is_used : (P : Tables) → IsProgram P → IsFamily P.family → AreParentsWithin P.family → (c p : ℕ)
    → c < length P.classes → Contains (order_in P c) p → IsUse P c p
order_is_used P is fits within c p low at =
    let few = classes_counted P is in
    let small : c < length P.family = omega arith in
    let up = order_above P.family (is.orders c small) p at in
    let inside = ancestor_within P.family within up in
    let (other, used) = parents_are_uses_lem P is fits c p small at in
    (omega arith, other, used)

pub uses_are_within_lem : UsesAreWithin
uses_are_within_lem P is fits within c e low (other, inl before) = order_is_used P is fits within c e low before
uses_are_within_lem P is fits within c e low (other, inr need) =
    let few = classes_counted P is in
    let small = need_within P is c e need in
    (omega arith, other, inr need)
