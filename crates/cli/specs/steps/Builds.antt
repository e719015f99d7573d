-- The fault of a build whose class files make no program.
use Rattle.building.specs.declared.build.BuildFault.{BuildFault}
use Rattle.building.specs.declared.build.BuildFault.TheVariants as faults
use Rattle.cli.specs.declared.fault.CommandFault.{CommandFault}
use Rattle.cli.specs.declared.fault.CommandFault.TheVariants.{Class, Link}

abbrev pub fault_of : CommandFault → BuildFault
fault_of (Class place fault) = faults.Class place fault
fault_of (Link fault) = faults.Link fault
fault_of _ = faults.Memory
