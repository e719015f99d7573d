-- What holds of class files' bytes whatever their order.
use Rattle.std.specs.Prelude.{◌≡◌, ℕ, List}
use Rattle.std.specs.List.Sorted.{IsPermutation}
use Rattle.loading.specs.declared.fault.LinkFault.{LinkFault}
use Rattle.program.specs.Tables.{Tables}
use Rattle.cli.specs.declared.fault.CommandFault.TheVariants.{Link}
use Rattle.cli.specs.Runs.{IsProgramOf, NotLinked}

-- texts that make a program make it in any order
abbrev pub StillProgram : Type 0
StillProgram = (texts moved : List (List ℕ)) (P : Tables) → IsPermutation texts moved → IsProgramOf texts P
    → IsProgramOf moved P

-- and no other one
abbrev pub OneProgram : Type 0
OneProgram = (texts moved : List (List ℕ)) (P Q : Tables) → IsPermutation texts moved → IsProgramOf texts P
    → IsProgramOf moved Q → P ≡ Q

-- texts that are class files which do not link do not in any order, for the same fault
abbrev pub StillNotLinked : Type 0
StillNotLinked = (texts moved : List (List ℕ)) (fault : LinkFault) → IsPermutation texts moved
    → NotLinked texts (Link fault) → NotLinked moved (Link fault)
