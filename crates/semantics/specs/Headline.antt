-- The two claims: what a run from an image shows under some schedule, the lazy procedure shows under some schedule,
-- and conversely.
use Rattle.std.specs.Prelude.{ℕ, List}
use Rattle.semantics.specs.Programs.{Program}
use Rattle.semantics.specs.Worlds.{Observation, Shows, lazy_start}
use Rattle.semantics.specs.Acceptance.{Analysis}
use Rattle.semantics.specs.Images.{Image, image_start, IsExact, UsesParents}
use Rattle.semantics.specs.Lawful.{IsLawful}

abbrev pub LazyToImage : Type 0
LazyToImage =
    (P : Program) (A : Analysis) (I : Image) (entries : List ℕ) → IsLawful P → UsesParents P A → IsExact P A I →
    (s : Observation) → Shows P (lazy_start P entries) s → Shows P (image_start P I entries) s

abbrev pub ImageToLazy : Type 0
ImageToLazy =
    (P : Program) (A : Analysis) (I : Image) (entries : List ℕ) → IsLawful P → UsesParents P A → IsExact P A I →
    (s : Observation) → Shows P (image_start P I entries) s → Shows P (lazy_start P entries) s
