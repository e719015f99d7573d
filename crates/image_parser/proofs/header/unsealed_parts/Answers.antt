use Rattle.std.proofs.Common.{◌∙◌, ap, sym, take, drop, arith}
use Rattle.image_parser.specs.HeaderFaults.HeaderFails.{truncated, magic, version}
use Rattle.image_parser.proofs.FrameLaw.{unsealed}
use Rattle.image_parser.proofs.header.unsealed_parts.Goals as goal

pub returns-then-bytes-lt42-clause-fault : goal.returns-then-bytes-lt42-clause-fault
returns-then-bytes-lt42-clause-fault c = truncated c.if-bytes-lt42.true

pub returns-then-not-is_same-clause-fault : goal.returns-then-not-is_same-clause-fault
returns-then-not-is_same-clause-fault c =
    let first = c.split_at-2.ensures.front ∙ ap (take 4) c.split_at.ensures.front in
    magic (omega arith) (λ e. let same = c.is_same.ensures.1 (first ∙ e) in let off = c.if-not-is_same.true in cc)

pub returns-in_default-clause-fault : goal.returns-in_default-clause-fault
returns-in_default-clause-fault c =
    let first = c.split_at-2.ensures.front ∙ ap (take 4) c.split_at.ensures.front in
    let on = c.if-not-is_same.false in
    let after = c.split_at-2.ensures.back ∙ ap (drop 4) c.split_at.ensures.front in
    let second = c.split_at-3.ensures.front ∙ ap (take 2) after in
    version (omega arith) (sym first ∙ c.is_same.ensures.0 cc) (λ v e. c.in_default.ensures v (second ∙ e))

pub returns-clause-parts : goal.returns-clause-parts
returns-clause-parts c =
    let first = c.split_at-2.ensures.front ∙ ap (take 4) c.split_at.ensures.front in
    let on = c.if-not-is_same.false in
    let after = c.split_at-2.ensures.back ∙ ap (drop 4) c.split_at.ensures.front in
    let second = c.split_at-3.ensures.front ∙ ap (take 2) after in
    let parts = c.split_at-3.ensures.back ∙ ap (drop 2) after in
    rw parts (unsealed c.args.bytes.now (omega arith) (sym first ∙ c.is_same.ensures.0 cc) c.in-Some.version
    (sym second ∙ c.in-Some.ensures))
