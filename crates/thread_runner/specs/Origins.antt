-- The program and the start of a book that no call has picked.
use Rattle.std.specs.Prelude.{[]}
use Rattle.semantics.specs.Worlds.{World, lazy_start}
use Rattle.program.specs.Tables.{Tables}
use Rattle.machine.specs.Linked.{program_of}

-- a program without classes
abbrev pub no_classes : Tables
no_classes = record { family = []; orders = []; classes = []; strings = [] }

-- its start without threads
abbrev pub no_threads : World
no_threads = lazy_start (program_of no_classes) []
