-- What an instruction's scope has it call and need is what its code does.
use Rattle.std.proofs.Common.{◌≡◌, ℕ, Bool, true, false, cond, Option, Some, None}
use Rattle.std.proofs.Common.{is_some, refl, sym, ap, option_map, ◌∙◌, slice_get}
use Rattle.built_in.specs.Keys.{NameAndType}
use Rattle.built_in.specs.declared.class_id.ClassId.{ClassId}
use Rattle.built_in.specs.declared.class_id.ClassId.TheVariants as class
use Rattle.built_in.specs.declared.method.BuiltInMethod.{BuiltInMethod}
use Rattle.built_in.specs.Methods.{key_of_member}
use Rattle.vm_state.specs.declared.frame.Activity.{Activity}
use Rattle.vm_state.specs.declared.frame.Activity.TheVariants.{Method}
use Rattle.semantics.specs.Bounds.{MayCall}
use Rattle.loading.specs.Families.{Family}
use Rattle.hierarchy.specs.declared.member.Method.{Method as ResolvedMethod}
use Rattle.hierarchy.specs.declared.member.Method.TheVariants as methods
use Rattle.hierarchy.specs.MemberLookup.{is_inherited, is_private, flags_in, key_in}
use Rattle.hierarchy.specs.Selectable.{IsSelectable}
use Rattle.hierarchy.specs.Selection.{found_from, found_if, selected}
use Rattle.hierarchy.proofs.SelectableLemmas.{found_declares, by_key, selects_built_in, selects_given, private_alone}
use Rattle.program.specs.declared.class.Class.{Class}
use Rattle.program.specs.Programs.{is_main, IsImplementation, IsProgram}
use Rattle.program.specs.Tables.{Tables, implementations_of, main_if, main_in}
use Rattle.machine.specs.Operations.{Operation, operation_at}
use Rattle.machine.proofs.LawsStaticLemmas.{IsClassIn}
use Rattle.machine.proofs.ListLemmas.{left_of_pair, right_of_pair, first_passes}
use Rattle.use_graph.specs.declared.callee.Callee.TheVariants as callees
use Rattle.use_graph.specs.Code.{callee_of}
use Rattle.use_graph.specs.Scopes.{scope_if}
use Rattle.use_graph.specs.Uses.{IsDeclared, Calls, Needs}
use Rattle.use_graph.proofs.ScopeUsesLemmas.{called_runs}

-- ---- what is called

-- what an instruction of a method calls by its scope
abbrev pub IsCalled : Tables → ℕ → ℕ → Activity → Type 0
IsCalled P d k a = (e : ℕ) × (j : ℕ) × (a ≡ Method e j) × Calls P d k e j × IsDeclared P e j

pub scope_calls : (P : Tables) (d k place : ℕ) (a : Activity) (o : Option Operation) → operation_at P d k place ≡ o
    → MayCall (scope_if P o) a → IsCalled P d k a
scope_calls P d k place a None at may = (let clash : None ≡ Some a = may.1 in absurd cc)
scope_calls P d k place a (Some o) at may =
    let found = called_runs P (callee_of o) may.0 a may.1 in
    (found.0, found.1, found.2, (place, o, at, found.3), found.4)

pub scope_needs : (P : Tables) (d k place e : ℕ) (o : Option Operation) → operation_at P d k place ≡ o
    → (scope_if P o).needs ≡ Some e → Needs P d k e
scope_needs P d k place e None at needs = absurd cc
scope_needs P d k place e (Some o) at needs = (place, o, at, needs)

-- ---- methods that are called by themselves

-- a `main` is declared
pub main_declared : (P : Tables) → IsProgram P → (c m : ℕ) → main_in P c ≡ Some m → IsDeclared P c m
main_declared P is c m = by (slice_get P.classes c) refl
  where
    by : (o : Option Class) → slice_get P.classes c ≡ o → main_if o ≡ Some m
        → is_some (slice_get (implementations_of o) m) ≡ true
    by None there main = absurd cc
    by (Some class) there main =
        let found = left_of_pair (IsClassIn P) P.family P.classes c class is.classes there in
        let member = first_passes (is_main found.0.file) found.0.file.methods m (sym found.2.main ∙ main) in
        let method = right_of_pair (IsImplementation P.family found.0.file) found.0.file.methods class.methods m
        member.0 found.2.methods member.1 in
        ap is_some method.1
