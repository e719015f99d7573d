use Rattle.std.proofs.Common.{ap, length, arith}
use Rattle.thread_runner.proofs.SendingLemmas.{text_lengths}
use Rattle.thread_runner.proofs.sending.text_length.Goals as goal

pub overflow_sub-result : goal.overflow_sub-result
overflow_sub-result c =
    omega (
      arith,
      text_lengths c.args.printed.now c.args.count,
      ap length c.text_from-all.ensures,
      ap length c.text_from-behind.ensures,
    )

pub returns-clause-is : goal.returns-clause-is
returns-clause-is c =
    omega (
      arith,
      text_lengths c.args.printed.now c.args.count,
      ap length c.text_from-all.ensures,
      ap length c.text_from-behind.ensures,
    )
