use Rattle.std.proofs.Common.{◌≡◌, ℕ, ◌<◌, ◌^◌, List, ◌++◌, get_or, take, ap, ◌∙◌, arith}
use Rattle.std.specs.List.{All}
use Rattle.std.proofs.lemmas.List.{take_all, get_or_default}
use Rattle.std.proofs.lemmas.List.Elements.{All-from_get_or}
use Rattle.classfile.specs.reading.Modified.{is_modified}
use Rattle.classfile.specs.Units.{unit_text, units_text}
use Rattle.classfile.proofs.TextLemmas.{one_more}
use Rattle.classfile.proofs.UnitsLemmas.{units_pass}
use Rattle.classfile.proofs.modified.ModifiedUtf8.from_units.Goals as goal

pub copy_of-requires : goal.copy_of-requires
copy_of-requires c =
    let units = c.args.units.now in
    let all : take c.loop-unit.unit-index units ≡ units =
    take_all c.loop-unit.unit-index units c.loop-unit-test.false in
    let text : c.loop-unit.bytes.items ≡ units_text units = c.loop-unit.invariant
    ∙ ap (λ (z : List ℕ). units_text z) all in
    let each : All (λ unit. unit < 2 ^ 16) units =
    All-from_get_or (λ unit. unit < 2 ^ 16) units 0 (λ i lt. omega (arith, c.type_inv.units i)) in
    ap is_modified (c.deref.ensures.value ∙ text) ∙ units_pass units each

pub loop-unit-preserved : goal.loop-unit-preserved
loop-unit-preserved c =
    let same =
    get_or_default c.args.units.now c.loop-unit.unit-index 0 (get_or c.args.units.now c.loop-unit.unit-index 0)
    c.loop-unit-test.true in
    c.in_ok-push_unit.ensures ∙ ap (λ (z : List ℕ). z ++ unit_text (get_or c.args.units.now c.loop-unit.unit-index 0))
    c.loop-unit.invariant
    ∙ one_more unit_text c.args.units.now c.loop-unit.unit-index (get_or c.args.units.now c.loop-unit.unit-index 0)
    c.loop-unit-test.true same
