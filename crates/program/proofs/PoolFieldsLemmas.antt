-- What a linked program answers of fields and methods, from its run-time constant pools.
use Rattle.std.proofs.Common.{◌≡◌, ℕ, zero, suc, List, [], ◌∷◌, Option, Some, None, Ok, Err, slice_get, length}
use Rattle.std.proofs.Common.{refl, sym, ap, subst, cond, Bool, true, false, arith}
use Rattle.std.specs.declared.result.Result.{Result}
use Rattle.std.specs.List.{AllZip}
use Rattle.classfile.specs.ClassFile.{ClassFile}
use Rattle.classfile.specs.declared.constant.Constant.{Constant}
use Rattle.loading.specs.Families.{Family, file_of, file_in}
use Rattle.loading.specs.declared.given.GivenClass.{GivenClass}
use Rattle.hierarchy.specs.declared.member.Field.{Field}
use Rattle.hierarchy.specs.declared.member.Field.TheVariants as fields
use Rattle.hierarchy.specs.declared.member.Unresolved.{Unresolved}
use Rattle.program.specs.declared.class.Class.{Class}
use Rattle.program.specs.declared.runtime_constant.RuntimeConstant.{RuntimeConstant}
use Rattle.program.specs.declared.runtime_constant.FieldTarget.TheVariants as targets
use Rattle.program.specs.Fields.{static_of, static_number_of, final_of}
use Rattle.program.specs.FieldTargets.{target_in, targeted}
use Rattle.program.specs.InstanceFields.{slot_of}
use Rattle.program.specs.Programs.{IsLinkedClass, IsProgram}
use Rattle.program.specs.References.{FieldOfFile, MethodOfFile}
use Rattle.program.specs.References.{ResolvesFieldAt, ResolvesMethodAt, ResolvesFieldOf, ResolvesMethodOf}
use Rattle.program.specs.RuntimePool.{IsRuntimeConstant, IsRuntimePool}
use Rattle.program.specs.Tables.{Tables, constant_at}
use Rattle.program.specs.steps.PoolFields.{field_of, found_field, pool_field, pool_method}
use Rattle.hierarchy.proofs.MemberTablesLemmas.{beside}

-- ---- lists side by side

beside_none : {A B : Type 0} (xs : List A) (ys : List B) (i : ℕ) → length xs ≡ length ys → slice_get xs i ≡ None
    → slice_get ys i ≡ None
beside_none [] [] i count none = refl
beside_none [] (y ∷ ys) i count none = absurd (omega (arith, count))
beside_none (x ∷ xs) [] i count none = refl
beside_none (x ∷ xs) (y ∷ ys) zero count none = absurd cc
beside_none (x ∷ xs) (y ∷ ys) (suc i) count none = beside_none xs ys i (omega (arith, count)) none

pub zip_none : {A B : Type 0} (R : A → B → Type 0) (xs : List A) (ys : List B) (i : ℕ) → AllZip R xs ys
    → slice_get xs i ≡ None → slice_get ys i ≡ None
zip_none R [] [] i all none = refl
zip_none R [] (y ∷ ys) i all none = absurd all
zip_none R (x ∷ xs) [] i all none = absurd all
zip_none R (x ∷ xs) (y ∷ ys) zero all none = absurd cc
zip_none R (x ∷ xs) (y ∷ ys) (suc i) all none = zip_none R xs ys i all.1 none

pub zip_some : {A B : Type 0} (R : A → B → Type 0) (xs : List A) (ys : List B) (i : ℕ) (x : A) → AllZip R xs ys
    → slice_get xs i ≡ Some x → (y : B) × (slice_get ys i ≡ Some y) × R x y
zip_some R [] ys i x all at = absurd cc
zip_some R (z ∷ xs) [] i x all at = absurd all
zip_some R (z ∷ xs) (y ∷ ys) zero x all at =
    let same : z ≡ x = cc in
    (y, refl, subst (λ w. R w y) same all.0)
zip_some R (z ∷ xs) (y ∷ ys) (suc i) x all at = zip_some R xs ys i x all.1 at

-- ---- a field that instructions use is the one that was resolved

same_given : (o : Option ClassFile) (c k slot : ℕ) → field_of (target_in o c k slot) ≡ fields.Given c k
same_given None c k slot = refl
same_given (Some f) c k slot = by (static_of (slice_get f.fields k))
  where
    by : (b : Bool) → field_of (cond b (targets.Static c (static_number_of f k) (final_of (slice_get f.fields k)) k)
        (targets.Instance c k slot)) ≡ fields.Given c k
    by true = refl
    by false = refl

same_field : (family : Family) (r : Result Field Unresolved) → found_field (targeted family r) ≡ r
same_field family (Err fault) = refl
same_field family (Ok fields.Out) = refl
same_field family (Ok (fields.Given c k)) = ap Ok (same_given (file_in family c) c k (slot_of family c k))

-- ---- what a constant says

module _ (family : Family) (strings : List (List ℕ)) (f : ClassFile) (index : ℕ) where
  field_said : (constant : Constant) (held : RuntimeConstant) → slice_get f.constants index ≡ Some constant
      → IsRuntimeConstant family strings f index constant held → ResolvesFieldAt family f index (pool_field (Some held))
  field_said constant held e IsRuntimeConstant.int = rw e refl
  field_said constant held e IsRuntimeConstant.long = rw e refl
  field_said constant held e IsRuntimeConstant.float = rw e refl
  field_said constant held e IsRuntimeConstant.double = rw e refl
  field_said constant held e (IsRuntimeConstant.string at) = rw e refl
  field_said constant held e (IsRuntimeConstant.class named) = rw e refl
  field_said constant held e (IsRuntimeConstant.field r resolves) =
      subst (ResolvesFieldAt family f index) (sym (same_field family r)) resolves
  field_said constant held e (IsRuntimeConstant.method resolves) = rw e refl
  field_said constant held e (IsRuntimeConstant.interface_method resolves) = rw e refl
  field_said constant held e IsRuntimeConstant.utf8 = rw e refl
  field_said constant held e IsRuntimeConstant.unusable = rw e refl
  field_said constant held e IsRuntimeConstant.name_and_type = rw e refl
  field_said constant held e IsRuntimeConstant.method_handle = rw e refl
  field_said constant held e IsRuntimeConstant.method_type = rw e refl
  field_said constant held e IsRuntimeConstant.invoke_dynamic = rw e refl

  method_said : (constant : Constant) (held : RuntimeConstant) → slice_get f.constants index ≡ Some constant
      → IsRuntimeConstant family strings f index constant held
      → ResolvesMethodAt family f index (pool_method (Some held))
  method_said constant held e IsRuntimeConstant.int = rw e refl
  method_said constant held e IsRuntimeConstant.long = rw e refl
  method_said constant held e IsRuntimeConstant.float = rw e refl
  method_said constant held e IsRuntimeConstant.double = rw e refl
  method_said constant held e (IsRuntimeConstant.string at) = rw e refl
  method_said constant held e (IsRuntimeConstant.class named) = rw e refl
  method_said constant held e (IsRuntimeConstant.field r resolves) = rw e refl
  method_said constant held e (IsRuntimeConstant.method is) = is.target
  method_said constant held e (IsRuntimeConstant.interface_method is) = is.target
  method_said constant held e IsRuntimeConstant.utf8 = rw e refl
  method_said constant held e IsRuntimeConstant.unusable = rw e refl
  method_said constant held e IsRuntimeConstant.name_and_type = rw e refl
  method_said constant held e IsRuntimeConstant.method_handle = rw e refl
  method_said constant held e IsRuntimeConstant.method_type = rw e refl
  method_said constant held e IsRuntimeConstant.invoke_dynamic = rw e refl

  field_in_pool : (pool : List RuntimeConstant) → IsRuntimePool family strings f pool
      → ResolvesFieldAt family f index (pool_field (slice_get pool index))
  field_in_pool pool is = by (slice_get f.constants index) refl
    where
      by : (o : Option Constant) → slice_get f.constants index ≡ o
          → ResolvesFieldAt family f index (pool_field (slice_get pool index))
      by None at = rw (at, beside_none f.constants pool index (sym is.count) at) refl
      by (Some constant) at =
          let held = beside f.constants pool index constant (sym is.count) at in
          subst (λ (o : Option RuntimeConstant). ResolvesFieldAt family f index (pool_field o)) (sym held.1)
          (field_said constant held.0 at (is.each index constant held.0 at held.1))

  method_in_pool : (pool : List RuntimeConstant) → IsRuntimePool family strings f pool
      → ResolvesMethodAt family f index (pool_method (slice_get pool index))
  method_in_pool pool is = by (slice_get f.constants index) refl
    where
      by : (o : Option Constant) → slice_get f.constants index ≡ o
          → ResolvesMethodAt family f index (pool_method (slice_get pool index))
      by None at = rw (at, beside_none f.constants pool index (sym is.count) at) refl
      by (Some constant) at =
          let held = beside f.constants pool index constant (sym is.count) at in
          subst (λ (o : Option RuntimeConstant). ResolvesMethodAt family f index (pool_method o)) (sym held.1)
          (method_said constant held.0 at (is.each index constant held.0 at held.1))

-- ---- and a whole program

module _ (P : Tables) (fits : IsProgram P) (class index : ℕ) where
  abbrev are : GivenClass → Class → Type 0
  are given c = IsLinkedClass P.family P.strings given.file c

  pub field_answered : ResolvesFieldOf P.family class index (pool_field (constant_at P class index))
  field_answered = by (slice_get P.family class) refl
    where
      by : (o : Option GivenClass) → slice_get P.family class ≡ o
          → FieldOfFile P.family (file_of (slice_get P.family class)) index (pool_field (constant_at P class index))
      by None at = rw (at, zip_none are P.family P.classes class fits.classes at) refl
      by (Some given) at =
          let c = zip_some are P.family P.classes class given fits.classes at in
          rw (at, c.1) (field_in_pool P.family P.strings given.file index c.0.runtime_pool c.2.runtime_pool)

  pub method_answered : ResolvesMethodOf P.family class index (pool_method (constant_at P class index))
  method_answered = by (slice_get P.family class) refl
    where
      by : (o : Option GivenClass) → slice_get P.family class ≡ o
          → MethodOfFile P.family (file_of (slice_get P.family class)) index (pool_method (constant_at P class index))
      by None at = rw (at, zip_none are P.family P.classes class fits.classes at) refl
      by (Some given) at =
          let c = zip_some are P.family P.classes class given fits.classes at in
          rw (at, c.1) (method_in_pool P.family P.strings given.file index c.0.runtime_pool c.2.runtime_pool)
