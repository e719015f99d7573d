-- What is seen after the steps of a schedule is shown.
use Rattle.std.proofs.Common.{◌≡◌, ℕ, List, [], ◌∷◌, Option, Some, None, option_map, option_and_then, refl}
use Rattle.semantics.specs.Programs.{Program}
use Rattle.semantics.specs.Worlds.{World, Observation, Shows, seen, step}

-- the world after a step of each thread in turn, if each has one
abbrev pub steps : Program → List ℕ → World → Option World
steps P [] w = Some w
steps P (t ∷ ts) w = option_and_then (steps P ts) (step P w t)

abbrev pub seen_after : Program → List ℕ → World → Option Observation
seen_after P ts w = option_map seen (steps P ts w)

one_more : (P : Program) (t : ℕ) (ts : List ℕ) (w : World) (s : Observation) (o : Option World) → step P w t ≡ o →
    ((v : World) → seen_after P ts v ≡ Some s → Shows P v s) → option_map seen (option_and_then (steps P ts) o) ≡ Some s
    → Shows P w s
one_more P t ts w s None stepped later e = cc
one_more P t ts w s (Some v) stepped later e = more (later v e)
  where
    more : Shows P v s → Shows P w s
    more (schedule, last, run, sees) = (t ∷ schedule, last, (v, stepped, run), sees)

pub shows_after : (P : Program) (ts : List ℕ) (w : World) (s : Observation) → seen_after P ts w ≡ Some s → Shows P w s
shows_after P [] w s e = ([], w, refl, cc)
shows_after P (t ∷ ts) w s e = one_more P t ts w s (step P w t) refl (λ v later. shows_after P ts v s later) e
