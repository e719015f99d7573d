use Rattle.std.proofs.Common.{◌≡◌, ◌∙◌, Option, Some, None, true, false, is_some, refl, sym, ap, ap₂}
use Rattle.frame_instructions.specs.Families.{Local as LocalOperation}
use Rattle.frame_instructions.specs.Instructions.{local_of}
use Rattle.machine.specs.Operations.{Operation, local_or}
use Rattle.std.specs.Option.{option_or}
use Rattle.use_graph.specs.Code.{needed_by, callee_of, operation_feature}
use Rattle.use_graph.specs.declared.callee.Callee.TheVariants.{Nobody}
use Rattle.use_graph.proofs.code.deed_of.Goals as goal

resolved_so : (o : Option LocalOperation) (operation : Operation) → is_some o ≡ false → operation ≡ local_or o operation
resolved_so None operation none = refl
resolved_so (Some local) operation none = absurd cc

local_needs : (o : Option LocalOperation) (operation : Operation) → is_some o ≡ true
    → None ≡ needed_by (local_or o operation)
local_needs None operation some = absurd cc
local_needs (Some local) operation some = refl

local_calls : (o : Option LocalOperation) (operation : Operation) → is_some o ≡ true
    → Nobody ≡ callee_of (local_or o operation)
local_calls None operation some = absurd cc
local_calls (Some local) operation some = refl

pub returns-clause-needs : goal.returns-clause-needs
returns-clause-needs c =
    c.needed.ensures
    ∙ ap needed_by (c.resolved_operation-resolved.ensures
    ∙ resolved_so (local_of c.args.item.now.instruction) _ (sym c.is_local.ensures ∙ c.if-is_local.false))

pub returns-clause-callee : goal.returns-clause-callee
returns-clause-callee c =
    c.callee_of.ensures
    ∙ ap callee_of (c.resolved_operation-resolved.ensures
    ∙ resolved_so (local_of c.args.item.now.instruction) _ (sym c.is_local.ensures ∙ c.if-is_local.false))

pub returns-clause-feature : goal.returns-clause-feature
returns-clause-feature c =
    c.or.ensures
    ∙ ap₂ option_or c.resolved_feature.ensures
    (c.operation_feature.ensures
    ∙ ap operation_feature (c.resolved_operation-resolved.ensures
    ∙ resolved_so (local_of c.args.item.now.instruction) _ (sym c.is_local.ensures ∙ c.if-is_local.false)))

pub returns-then-is_local-clause-needs : goal.returns-then-is_local-clause-needs
returns-then-is_local-clause-needs c =
    local_needs (local_of c.args.item.now.instruction) _ (sym c.is_local.ensures ∙ c.if-is_local.true)

pub returns-then-is_local-clause-callee : goal.returns-then-is_local-clause-callee
returns-then-is_local-clause-callee c =
    local_calls (local_of c.args.item.now.instruction) _ (sym c.is_local.ensures ∙ c.if-is_local.true)
