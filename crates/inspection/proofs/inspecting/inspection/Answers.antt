use Rattle.std.proofs.Common.{◌<◌, ℕ, List, length, subst, sym}
use Rattle.inspection.proofs.inspecting.inspection.Goals as goal

pub text_by_sizes-requires-clause-few : goal.text_by_sizes-requires-clause-few
text_by_sizes-requires-clause-few c =
    subst (λ (l : List ℕ). length l < 4294967296) (sym c.as_slice.ensures.value) c.in_ok-sizes.ensures.few
