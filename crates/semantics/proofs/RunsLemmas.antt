-- Runs one after the other.
use Rattle.std.proofs.Common.{◌≡◌, List, [], ◌∷◌, ◌++◌, ℕ, subst, sym, Some, refl}
use Rattle.semantics.specs.Programs.{Program}
use Rattle.semantics.specs.Worlds.{World, Run, step}

pub runs_join_lem : (P : Program) (first middle last : World) (before after : List ℕ) → Run P first before middle →
    Run P middle after last → Run P first (before ++ after) last
runs_join_lem P first middle last [] after is run = subst (λ (w : World). Run P w after last) (sym is) run
runs_join_lem P first middle last (t ∷ ts) after (next, stepped, rest) run =
    (next, stepped, runs_join_lem P next middle last ts after rest run)

-- one more step
pub run_more : (P : Program) (first middle last : World) (before : List ℕ) (t : ℕ) → Run P first before middle →
    step P middle t ≡ Some last → Run P first (before ++ t ∷ []) last
run_more P first middle last before t run stepped =
    runs_join_lem P first middle last before (t ∷ []) run (last, stepped, refl)
