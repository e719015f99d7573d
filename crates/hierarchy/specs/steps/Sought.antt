-- What members are looked for by.
use Rattle.built_in.specs.Keys.{NameAndType}
use Rattle.hierarchy.specs.declared.sought.Sought.{Sought}

-- the name and the descriptor
abbrev pub sought_name : Sought → NameAndType
sought_name s = record { name = s.name.now; descriptor = s.descriptor.now }
