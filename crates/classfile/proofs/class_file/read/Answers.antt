use Rattle.std.proofs.Common.{sym, ◌∙◌, arith}
use Rattle.std.proofs.lemmas.Result.{err_from_is_err_and}
use Rattle.classfile.proofs.ClassLawful.{class_is_text, text_is_class, first_is_fault}
use Rattle.classfile.proofs.ClassLawful.{text_unless_memory, refused_is_first, first_unless_memory}
use Rattle.classfile.proofs.class_file.read.Goals as goal

pub invariant_of-result : goal.invariant_of-result
invariant_of-result c = rw c.in_ok-text.ensures
    (class_is_text c.args.bytes.now c.in_ok-raw.raw (λ i. omega (arith, c.type_inv.bytes i)) c.in_ok-raw.ensures)

pub returns-clause-text : goal.returns-clause-text
returns-clause-text c =
    class_is_text c.args.bytes.now c.in_ok-raw.raw (λ i. omega (arith, c.type_inv.bytes i)) c.in_ok-raw.ensures

pub returns-clause-only_text : goal.returns-clause-only_text
returns-clause-only_text c = λ class text. sym (text_is_class c.args.bytes.now class text) ∙ c.in_ok-raw.ensures

pub returns-clause-only_fault : goal.returns-clause-only_fault
returns-clause-only_fault c = λ fault first.
    sym (first_is_fault c.args.bytes.now fault (λ i. omega (arith, c.type_inv.bytes i)) first) ∙ c.in_ok-raw.ensures

pub returns-in_err-raw-clause-only_text : goal.returns-in_err-raw-clause-only_text
returns-in_err-raw-clause-only_text c = λ class text.
    let p = err_from_is_err_and c.from_residual-in_err-raw.result c.from_residual-in_err-raw.ensures.1 in
    rw (p.1, p.2) (text_unless_memory c.args.bytes.now class c.in_err-raw.field-0.0 c.in_err-raw.ensures text)

pub returns-in_err-raw-clause-fault : goal.returns-in_err-raw-clause-fault
returns-in_err-raw-clause-fault c =
    let p = err_from_is_err_and c.from_residual-in_err-raw.result c.from_residual-in_err-raw.ensures.1 in
    rw (p.1, p.2)
    (refused_is_first c.args.bytes.now c.in_err-raw.field-0.0 (λ i. omega (arith, c.type_inv.bytes i))
    c.in_err-raw.ensures)

pub returns-in_err-raw-clause-only_fault : goal.returns-in_err-raw-clause-only_fault
returns-in_err-raw-clause-only_fault c = λ fault first.
    let p = err_from_is_err_and c.from_residual-in_err-raw.result c.from_residual-in_err-raw.ensures.1 in
    rw (p.1, p.2)
    (first_unless_memory c.args.bytes.now fault c.in_err-raw.field-0.0 (λ i. omega (arith, c.type_inv.bytes i))
    c.in_err-raw.ensures
    first)
