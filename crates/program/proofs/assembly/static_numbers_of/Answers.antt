use Rattle.std.proofs.Common.{ℕ, ◌<◌, List, length, arith}
use Rattle.std.proofs.lemmas.List.{take_all}
use Rattle.loading.specs.declared.given.GivenClass.{GivenClass}
use Rattle.program.specs.steps.StaticNumbers.{AreStaticNumbers}
use Rattle.program.proofs.StaticNumbersLemmas.{HaveStaticNumbers, static_number_found}
use Rattle.program.proofs.ZipLemmas.{one_more}
use Rattle.program.proofs.assembly.static_numbers_of.Goals as goal

pub loop-given-preserved : goal.loop-given-preserved
loop-given-preserved c =
    let within : c.loop-given.given-index < length c.args.classes.now = omega arith in
    one_more (λ (given : GivenClass) (row : List ℕ). AreStaticNumbers given.file row) c.args.classes.now
    c.loop-given.numbers.items c.push.new.self.items
    c.loop-given.given-index c.given-item.result c.in_ok-of_class.field-0 within c.given-item.is
    c.loop-given.invariant c.in_ok-of_class.ensures c.in_ok-push.ensures.items

pub returns : goal.returns
returns c = λ class k f at small.
    let all : HaveStaticNumbers c.args.classes.now c.loop-given.numbers.items =
    rw (take_all c.loop-given.given-index c.args.classes.now (omega arith)) at c.loop-given.invariant in
    static_number_found c.args.classes.now c.loop-given.numbers.items class k f all at small
