-- What a book alone says of a run.
use Rattle.std.specs.Prelude.{ℕ, Result, Ok, Err}
use Rattle.semantics.specs.Worlds.{World}
use Rattle.program.specs.Tables.{Tables}
use Rattle.machine.specs.Linked.{program_of}
use Rattle.init_engine.specs.Rests.{AllEnded, IsStuck}
use Rattle.thread_runner.specs.Answers.{IsAtLimit, IsEnd}
use Rattle.thread_runner.specs.declared.answer.Ended.{Ended}
use Rattle.thread_runner.specs.declared.answer.RunFault.{RunFault}
use Rattle.thread_runner.specs.declared.answer.RunFault.TheVariants.{Memory, Spawn, Device, Limit, Stuck}

-- the end of a run whose threads came to a world
abbrev pub IsVerdict : Tables → World → ℕ → World → Result Ended RunFault → Type 0
IsVerdict P start limit last (Ok e) = IsEnd P start e last × AllEnded last
IsVerdict P start limit last (Err Memory) = Unit {0}
IsVerdict P start limit last (Err Spawn) = ⊥
IsVerdict P start limit last (Err (Device n)) = ⊥
IsVerdict P start limit last (Err (Limit e)) = IsEnd P start e last × IsAtLimit P limit e last
IsVerdict P start limit last (Err (Stuck e)) = IsEnd P start e last × IsStuck (program_of P) last
