-- The methods that were noted of a name and a descriptor.
use Rattle.std.specs.Prelude.{ℕ, Option, Some, None}
use Rattle.hierarchy.specs.declared.member.DeclaredMember.{DeclaredMember}

abbrev pub at_place : ℕ → Option ℕ → Option DeclaredMember
at_place c None = None
at_place c (Some k) = Some (record { class = c; index = k })

-- what the class of a member declares, if there is one
abbrev pub declared_as : (ℕ → Option ℕ) → Option DeclaredMember → Option DeclaredMember
declared_as own None = None
declared_as own (Some m) = at_place m.class (own m.class)
