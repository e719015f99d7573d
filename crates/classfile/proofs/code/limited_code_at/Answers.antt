use Rattle.std.proofs.Common.{rules}
use Rattle.classfile.proofs.ReadInPairsLemmas.{code_in_parts}
use Rattle.classfile.proofs.code.limited_code_at.Goals as goal

pub returns-in_err-code : goal.returns-in_err-code
returns-in_err-code c =
    rw (code_in_parts c.args.pool.now c.args.max_stack c.args.max_locals c.args.total c.args.bytes.now) (search rules)

pub returns-in_err-exceptions : goal.returns-in_err-exceptions
returns-in_err-exceptions c =
    rw (code_in_parts c.args.pool.now c.args.max_stack c.args.max_locals c.args.total c.args.bytes.now) (search rules)

pub returns : goal.returns
returns c =
    rw (code_in_parts c.args.pool.now c.args.max_stack c.args.max_locals c.args.total c.args.bytes.now) (search rules)
