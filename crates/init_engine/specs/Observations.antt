-- What a world has shown, as the code answers it.
use Rattle.std.specs.Prelude.{◌≡◌}
use Rattle.semantics.specs.Worlds.{Observation}
use Rattle.init_engine.specs.declared.world.Seen.{Seen}

abbrev pub IsObservation : Seen → Observation → Type 0
IsObservation s observation = (s.printed ≡ observation.printed) × (s.threads.items ≡ observation.threads)
