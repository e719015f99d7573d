-- Where a method calls another, by the instructions of its body.
use Rattle.std.proofs.Common.{◌≡◌, ◌∙◌, ℕ, List, [], Option, Some, None, slice_get, option_map, MatchOption, refl, sym}
use Rattle.std.proofs.Common.{ap, subst, arith}
use Rattle.std.specs.List.{Contains}
use Rattle.loading.proofs.PlaceLemmas.{contains_at, place_in}
use Rattle.bytecode.specs.declared.instruction.Instruction.{Instruction}
use Rattle.bytecode.specs.declared.instruction.Instruction.TheVariants as instructions
use Rattle.bytecode.specs.declared.operand.Conversion.TheVariants as conversions
use Rattle.bytecode.specs.declared.placed.Placed.{Placed}
use Rattle.hierarchy.specs.declared.member.DeclaredMember.{DeclaredMember}
use Rattle.program.specs.declared.class.Implementation.{Implementation}
use Rattle.program.specs.declared.class.Implementation.TheVariants as implementations
use Rattle.program.specs.Tables.{Tables, implementation_at, instruction_at}
use Rattle.machine.specs.Operations.{Operation, operation_of, operation_at, resolved_operation}
use Rattle.use_graph.specs.declared.callee.Callee.{Callee}
use Rattle.use_graph.specs.Code.{callee_of, MayRunFor}
use Rattle.use_graph.specs.Uses.{Calls, pc_at}
use Rattle.use_graph.specs.steps.Deeds.{operation_for, body_in}
use Rattle.explain.specs.Paths.{CallsAt}
use Rattle.explain.specs.steps.Callers.{MayCall}
use Rattle.use_graph.proofs.DeedsLemmas.{instruction_in, pc_in}

-- what touches its frame alone calls nobody, and what it would resolve to neither
same_callee : (P : Tables) (d k : ℕ) (i : Instruction)
    → callee_of (operation_for P d k i) ≡ callee_of (resolved_operation P d k i)
same_callee P d k instructions.Nop = refl
same_callee P d k instructions.PushNull = refl
same_callee P d k (instructions.PushInt n) = refl
same_callee P d k (instructions.PushLong n) = refl
same_callee P d k (instructions.LoadConstant n) = refl
same_callee P d k (instructions.LoadWideConstant n) = refl
same_callee P d k (instructions.LoadInt n) = refl
same_callee P d k (instructions.LoadLong n) = refl
same_callee P d k (instructions.LoadReference n) = refl
same_callee P d k (instructions.StoreInt n) = refl
same_callee P d k (instructions.StoreLong n) = refl
same_callee P d k (instructions.StoreReference n) = refl
same_callee P d k (instructions.LoadElement n) = refl
same_callee P d k (instructions.StoreElement n) = refl
same_callee P d k (instructions.Stack n) = refl
same_callee P d k (instructions.CombineInts n) = refl
same_callee P d k (instructions.CombineLongs n) = refl
same_callee P d k instructions.NegateInt = refl
same_callee P d k instructions.NegateLong = refl
same_callee P d k (instructions.Increment n m) = refl
same_callee P d k (instructions.Convert conversions.IntToLong) = refl
same_callee P d k (instructions.Convert conversions.LongToInt) = refl
same_callee P d k (instructions.Convert conversions.IntToByte) = refl
same_callee P d k (instructions.Convert conversions.IntToChar) = refl
same_callee P d k (instructions.Convert conversions.IntToShort) = refl
same_callee P d k instructions.CompareLongs = refl
same_callee P d k (instructions.IfInt n m) = refl
same_callee P d k (instructions.IfInts n m) = refl
same_callee P d k (instructions.IfReferences n m) = refl
same_callee P d k (instructions.IfNull n m) = refl
same_callee P d k (instructions.Goto n) = refl
same_callee P d k (instructions.TableSwitch n) = refl
same_callee P d k (instructions.LookupSwitch n) = refl
same_callee P d k instructions.ReturnInt = refl
same_callee P d k instructions.ReturnLong = refl
same_callee P d k instructions.ReturnReference = refl
same_callee P d k instructions.Return = refl
same_callee P d k (instructions.GetStatic n) = refl
same_callee P d k (instructions.PutStatic n) = refl
same_callee P d k (instructions.GetField n) = refl
same_callee P d k (instructions.PutField n) = refl
same_callee P d k (instructions.InvokeVirtual n) = refl
same_callee P d k (instructions.InvokeSpecial n) = refl
same_callee P d k (instructions.InvokeStatic n) = refl
same_callee P d k (instructions.InvokeInterface n) = refl
same_callee P d k (instructions.New n) = refl
same_callee P d k (instructions.NewArray n) = refl
same_callee P d k (instructions.NewReferenceArray n) = refl
same_callee P d k instructions.ArrayLength = refl
same_callee P d k instructions.Throw = refl
same_callee P d k (instructions.CheckCast n) = refl
same_callee P d k (instructions.InstanceOf n) = refl
same_callee P d k instructions.MonitorEnter = refl
same_callee P d k instructions.MonitorExit = refl
same_callee P d k instructions.Unsupported = refl
same_callee P d k instructions.Bad = refl

-- ---- places

module _ (P : Tables) (x y : DeclaredMember) where
  abbrev body : List Placed
  body = body_in (implementation_at P x.class x.index)

  here : (place : ℕ) → instruction_at P x.class x.index place
      ≡ option_map (λ (item : Placed). item.instruction) (slice_get body place)
  unfolding instruction_at
  here place = instruction_in (implementation_at P x.class x.index) place

  operation_here : (place : ℕ) (item : Placed) → slice_get body place ≡ Some item
      → operation_at P x.class x.index place ≡ Some (operation_for P x.class x.index item.instruction)
  unfolding operation_at
  operation_here place item at = ap (operation_of P x.class x.index)
      (here place ∙ ap (option_map (λ (item : Placed). item.instruction)) at)

  pc_here : (place : ℕ) (item : Placed) → slice_get body place ≡ Some item
      → pc_at P x.class x.index place ≡ Some item.pc
  pc_here place item at = pc_in (implementation_at P x.class x.index) place
      ∙ ap (option_map (λ (item : Placed). item.pc)) at

  -- an instruction of the body that may call it
  pub calls_at : (pc : ℕ) → ((item : Placed) × Contains body item × (item.pc ≡ pc) × MayCall P x item.instruction y)
      → CallsAt P x.class x.index pc y.class y.index
  calls_at pc (item, among, is, may) =
      let (place, at) = place_in body item among in (
        place,
        operation_for P x.class x.index item.instruction,
        pc_here place item at ∙ ap Some is,
        operation_here place item at,
        subst (λ (z : Callee). MayRunFor P z y.class y.index) (sym (same_callee P x.class x.index item.instruction))
            may,
      )

  -- an operation stands at a place of the body
  item_of : (place : ℕ) (o : Operation) → operation_at P x.class x.index place ≡ Some o
      → (item : Placed) × (slice_get body place ≡ Some item) × (operation_for P x.class x.index item.instruction ≡ o)
  unfolding operation_at
  item_of place o e = by (slice_get body place) refl
    where
      by : (found : Option Placed) → slice_get body place ≡ found
          → (item : Placed) × (slice_get body place ≡ Some item)
          × (operation_for P x.class x.index item.instruction ≡ o)
      by None at = absurd (let none : operation_of P x.class x.index None ≡ Some o =
          sym (ap (operation_of P x.class x.index)
          (here place ∙ ap (option_map (λ (item : Placed). item.instruction)) at)) ∙ e in cc)
      by (Some item) at = (
        item,
        at,
        (let is : Some (operation_for P x.class x.index item.instruction) ≡ Some o =
            sym (operation_here place item at) ∙ e in cc),
      )

  -- where no instruction of the body may, the method does not call it
  pub calls_none : ((item : Placed) → Contains body item → ¬ MayCall P x item.instruction y)
      → ¬ Calls P x.class x.index y.class y.index
  calls_none none (place, o, at, may) =
      let (item, here, is) = item_of place o at in
      none item (contains_at body place item here)
      (subst (λ (z : Callee). MayRunFor P z y.class y.index)
      (ap callee_of (sym is) ∙ same_callee P x.class x.index item.instruction) may)

  -- where it has no code it calls nothing
  pub calls_nothing : body ≡ [] → ¬ Calls P x.class x.index y.class y.index
  calls_nothing empty = calls_none (λ item among. absurd
      (let none : Contains [] item = subst (λ (l : List Placed). Contains l item) empty among in
      nothing item none))
    where
      nothing : (item : Placed) → Contains [] item → ⊥
      nothing item (k, small, e) = absurd (omega (arith, small))

  -- what is found among the instructions of the body
  pub site : (items : List Placed) (found : Option ℕ) → items ≡ body
      → MatchOption found ((item : Placed) → Contains items item → ¬ MayCall P x item.instruction y)
      (λ pc. (item : Placed) × Contains items item × (item.pc ≡ pc) × MayCall P x item.instruction y)
      → MatchOption found (¬ Calls P x.class x.index y.class y.index)
      (λ pc. CallsAt P x.class x.index pc y.class y.index)
  site items None is none = calls_none
      (subst (λ (l : List Placed). (item : Placed) → Contains l item → ¬ MayCall P x item.instruction y) is none)
  site items (Some pc) is found = calls_at pc (subst (λ (l : List Placed). (item : Placed) × Contains l item
      × (item.pc ≡ pc) × MayCall P x item.instruction y) is found)

  -- where there is no code
  pub no_site : (o : Option Implementation) → o ≡ implementation_at P x.class x.index → body_in o ≡ []
      → ¬ Calls P x.class x.index y.class y.index
  no_site o is none = calls_nothing (ap body_in (sym is) ∙ none)
