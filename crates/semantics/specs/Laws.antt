-- Laws of runs.
use Rattle.std.specs.Prelude.{List, ℕ, ◌++◌}
use Rattle.semantics.specs.Programs.{Program}
use Rattle.semantics.specs.Worlds.{World, Run}

abbrev pub RunsJoin : Type 0
RunsJoin =
    (P : Program) (first middle last : World) (before after : List ℕ) →
    Run P first before middle → Run P middle after last → Run P first (before ++ after) last
