-- What writes into the region of a class whose initializer runs alone lead to.
use Rattle.std.proofs.Common.{◌≡◌, ℕ, true, ◌==◌, List, [], ◌∷◌, Option, map, zero, suc, refl, sym, ap, ap₂, ◌∙◌, arith}
use Rattle.std.proofs.Math.Path.{fun_ext}
use Rattle.vm_state.specs.declared.value.Value.{Value}
use Rattle.vm_state.specs.declared.value.Name.{Name}
use Rattle.vm_state.specs.declared.value.Maker.TheVariants.{Class}
use Rattle.vm_state.specs.declared.classes.StaticField.{StaticField}
use Rattle.vm_state.specs.Objects.{HeldObjects, none_held}
use Rattle.vm_state.specs.Pools.{pool_by}
use Rattle.vm_state.specs.SharedState.{Pool, Region as RegionOf, same_maker, with_slot}
use Rattle.vm_state.specs.Statics.{field_in, with_value, with_constants, zeros_of}
use Rattle.semantics.specs.Rows.{Row, WriteStatic}
use Rattle.semantics.specs.Programs.{Program}
use Rattle.semantics.specs.Quiet.{Environment}
use Rattle.semantics.specs.Settling.{constant_region}
use Rattle.semantics.specs.Worlds.{empty_pool}
use Rattle.machine.specs.ObjectParts.{set_named}
use Rattle.region_shape.specs.Regions.{region_of}
use Rattle.evaluator.specs.steps.Within.{within}

itself : (n : ℕ) → (n == n) ≡ true
itself n = grind arith

module _ (P : Program) (env : Environment) (c most : ℕ) (own : RegionOf) (n : ℕ) where
  pub wrote : (d f : ℕ) (v : Value) (fields : ℕ → Value) (next : Row) → d ≡ c → fields ≡ with_value own.fields f v →
      within P env c most own n (WriteStatic d f v next) ≡ within P env c most (record own { fields = fields }) n next
  wrote d f v fields next same is =
      rw same (rw (itself c)
      (ap (λ (fs : ℕ → Value). within P env c most (record own { fields = fs }) n next) (sym is)))

  pub set_both : (x : Name) (name ordinal : Value) (first second : Pool) (next : Row) →
      same_maker (Class c) x.maker ≡ true → first ≡ with_slot own.pool x.number 0 name →
      second ≡ with_slot first x.number 1 ordinal →
      within P env c most own n (set_named x name ordinal next)
      ≡ within P env c most (record own { pool = second }) n next
  set_both x name ordinal first second next mine one two =
      rw mine (ap (λ (p : Pool). within P env c most (record own { pool = p }) n next)
      (sym (two ∙ ap (λ (p : Pool). with_slot p x.number 1 ordinal) one)))

-- ---- before the initializer runs

zero_at : (statics : List StaticField) (f : ℕ) → field_in (map (λ (s : StaticField). s.zero) statics) f
    ≡ zeros_of statics f
zero_at [] f = refl
zero_at (s ∷ ss) zero = refl
zero_at (s ∷ ss) (suc f) = zero_at ss f

no_objects : pool_by none_held ≡ empty_pool
no_objects = ap (λ (at : ℕ → Option _). record { count = 0; at = at }) (fun_ext (λ k. refl))

region_with : (ℕ → Value) → Pool → RegionOf
region_with fields pool = record { fields = fields; pool = pool }

pub begins : (P : Program) (c : ℕ) (zeros fields : List Value) (objects : HeldObjects) →
    zeros ≡ map (λ (s : StaticField). s.zero) (P.statics c) →
    field_in fields ≡ with_constants (P.statics c) (field_in zeros) → objects ≡ none_held →
    region_of (record { fields = fields; objects = objects }) ≡ constant_region P c
unfolding region_with
begins P c zeros fields objects is set none =
    ap₂ region_with
    (set ∙ ap (with_constants (P.statics c)) (ap field_in is ∙ fun_ext (zero_at (P.statics c))))
    (ap pool_by none ∙ no_objects)
