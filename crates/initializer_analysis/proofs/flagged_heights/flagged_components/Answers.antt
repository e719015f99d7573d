use Rattle.std.proofs.Common.{◌≡◌, length, arith}
use Rattle.std.proofs.lemmas.List.{take_at}
use Rattle.initializer_analysis.proofs.flagged_heights.flagged_components.Goals as goal

pub returns-clause-len : goal.returns-clause-len
returns-clause-len c =
    let whole : length c.flag_components.new.table ≡ c.in_ok-table.table.len = omega arith in
    rw take_at (omega (arith, c.in_ok-table.ensures.len))

pub returns-clause-have : goal.returns-clause-have
returns-clause-have c =
    let whole : length c.flag_components.new.table ≡ c.in_ok-table.table.len = omega arith in
    rw take_at c.flag_components.ensures
