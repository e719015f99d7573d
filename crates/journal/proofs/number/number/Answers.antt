use Rattle.std.proofs.Common.{◌≡◌, refl, sym, ◌∙◌, subst}
use Rattle.journal.proofs.NumberLemmas.{not_plain, not_utf8, number_read, number_unread}
use Rattle.journal.proofs.number.number.Goals as goal

pub returns-then-not-starts_plainly-clause-none : goal.returns-then-not-starts_plainly-clause-none
returns-then-not-starts_plainly-clause-none c = not_plain c.args.bytes.now (c.if-not-starts_plainly.ensures.no refl)

pub returns-in_default-clause-none : goal.returns-in_default-clause-none
returns-in_default-clause-none c = not_utf8 c.args.bytes.now c.in_default.ensures.cases.0

pub returns-in-Ok-parse-clause-some : goal.returns-in-Ok-parse-clause-some
returns-in-Ok-parse-clause-some c =
    number_read c.args.bytes.now c.in-Ok-parse.number (c.if-not-starts_plainly.ensures.yes refl)
    (rw c.in-Ok.ensures.cases.0 at c.in-Ok-parse.ensures.value.0)

pub returns-in-Err-clause-none : goal.returns-in-Err-clause-none
returns-in-Err-clause-none c =
    number_unread c.args.bytes.now (rw c.in-Ok.ensures.cases.0 at c.in-Err.ensures.value.0)
