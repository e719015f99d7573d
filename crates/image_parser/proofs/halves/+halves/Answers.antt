use borrow.Author.Rules.{rules}
use Rattle.std.proofs.Common.{◌≡◌, ◌-◌, ◌+◌, ◌/◌, true, arith, None}
use Rattle.std.proofs.lemmas.Result.{err_from_is_err_and}
use Rattle.image_parser.specs.reading.Files.{files_at, last_name, meets}
use Rattle.image_parser.proofs.HalvesLemmas.{at_err, at_ok, both_halves, front_fails, joined_gives}
use Rattle.image_parser.proofs.halves.+halves.Goals as goal

pub returns-in_err-files : goal.returns-in_err-files
returns-in_err-files g t c =
    let p = err_from_is_err_and c.from_residual.result c.from_residual.ensures.1 in
    rw (p.1, p.2) (front_fails c.in_err-files.field-0.0 _ (c.args.count - c.args.count / 2) _ _ _ (omega arith)
    (at_err _ (files_at (c.args.count / 2) c.args.first None c.args.bytes.now) c.in_err-files.was
    c.join-front.ensures.first))

pub returns-in-Ok-back : goal.returns-in-Ok-back
returns-in-Ok-back g t c =
    let low = c.args.count / 2 in
    let met : meets (last_name c.in_ok-files.files.items) c.in-Ok-back.more.items ≡ true = search rules in
    joined_gives _ c.joined.result (both_halves _ _ _ _ _ _ _ c.in_ok-files.files.items c.in-Ok-back.more.items _ _
    (omega arith) (omega arith) c.in-Ok.ensures
    (at_ok _ (files_at low c.args.first None c.args.bytes.now) c.in_ok-files.was c.join-front.ensures.first)
    (at_ok _ (files_at (c.args.count - low) (c.args.first + low) None c.in-Ok.middle.now) c.in-Ok-back.is
    c.join-front.ensures.second) met) c.joined.ensures
